-- What a refusal of a unit's token says of other texts: at the levels where it stopped none leaves room, and the bracket
-- that stands in a refused one's place has none either. A unit and its external definitions begin where no level is open.
use Rattle.std.proofs.lemmas.Bool.{or_cases}
use Rattle.std.proofs.Common.{◌≡◌, ℕ, ◌+◌, ◌<◌, ◌≤◌, Bool, true, false, not, ◌&&◌, List, [], length, Option, Some, inl, inr, refl, sym, ap, subst, ◌∙◌, arith}
use Rattle.std.specs.Prelude.{slice_get, set}
use Rattle.std.proofs.Math.Nat.{eq-or-lt_of_le}
use Rattle.std.proofs.lemmas.Bool.{both_ways}
use Rattle.std.proofs.lemmas.List.{length-set}
use Rattle.cr_syntax.specs.declared.word.Word.{Word}
use Rattle.cr_syntax.specs.Words.{Lexeme}
use Rattle.cr_syntax.specs.Scopes.{Scopes}
use Rattle.cr_syntax.specs.Trees.{Trees}
use Rattle.cr_syntax.specs.Context.{fresh}
use Rattle.cr_syntax.specs.Spells.{Limit, Upto, Leaving, Is}
use Rattle.cr_syntax.specs.Units.{IsUnit, Begins, file_scope, is_unused, with_word, StandsIn}
use Rattle.cr_syntax_machine.specs.Machine.{Prog, Labels, anywhere, Manner, Test, plain, opens, reopens, the, has, ordinary, type_identifier, declared, or, Allows, Done, Runs, passes, has_word, levels_at, is_bracket, give, peek, call, run_give, run_take, run_pass, run_free, run_seen, run_unseen, run_yes, run_no, run_here, run_look, run_set, run_bring, run_call}
use Rattle.cr_syntax_machine.specs.Machine.{unit, externals, external}
use Rattle.cr_syntax_machine.specs.MachineBody.{body, is_any, is_label}
use Rattle.cr_syntax.proofs.Tests.{both, not_true, some_one}
use Rattle.cr_syntax_machine_laws.proofs.MachineGives.{holds}
use Rattle.cr_syntax_machine_laws.proofs.MachineFirst.{none_true}
use Rattle.cr_syntax_machine_laws.proofs.MachineRuns.{word_in}
use Rattle.cr_syntax_machine_laws.proofs.MachineEnds.{Way, stopped, barring, Ends}
use Rattle.cr_syntax_machine_laws.proofs.MachineUnitComplete.{unit_is_read}
use Rattle.cr_syntax_machine_laws.proofs.MachineSound.{runs_sound}
use Rattle.cr_syntax_machine_laws.proofs.MachineForms.{within}
use Rattle.cr_syntax_machine_laws.proofs.MachineUnused.{used}
use Rattle.cr_syntax_machine_laws.proofs.MachineSteady.{levels_in, levels_out, fits, Goes, steady}
use Rattle.cr_syntax_machine_laws.proofs.MachineRows.{knows}
use Rattle.cr_syntax_machine_laws.proofs.MachineStuck.{levels_by, is_crowded, Stand, stuck}
use Rattle.cr_syntax_machine_laws.proofs.MachineRefused.{no_bar, allows_none, allows_bracket, stands_bracket, same_row}
use Rattle.cr_syntax_machine_laws.proofs.MachineOwn.{set_other, set_there}
use Rattle.cr_syntax_machine_laws.proofs.MachineUnitForms.{same_token, token_in}

-- The programs of a unit and of external definitions.
data Outer (l : Labels) (d : ℕ) : Prog → Type 0 where
  outer_peek : {p : Prog} {t : Trees} → Outer l d p → Outer l d (peek (has is_any) p (give t))
  outer_call : {f : Trees → Prog} → ((t : Trees) → Outer l d (f t)) → Outer l d (call (external l d) f)
  outer_rest : {x : Trees} → Outer l d (call (externals l d x) give)

outer_externals : (l : Labels) (d : ℕ) (x : Trees) → Outer l d (body (externals l d x))
outer_externals l d x = outer_peek (outer_call (λ t. outer_rest))

outer_unit : (l : Labels) (d : ℕ) → Outer l d (body (unit l d))
outer_unit l d = outer_call (λ t. outer_rest)

-- they answer where no token stands
outer_ends : {ts : List Lexeme} {limit : Limit} {l : Labels} {d : ℕ} {p : Prog} {c e : Scopes} {i j : ℕ} {t : Trees} → Outer l d p → Runs body ts limit p c i (Done t e j) → has_word ts j is_any ≡ false
outer_ends (outer_peek y) (run_seen v h) = outer_ends y h
outer_ends (outer_peek y) (run_unseen v run_give) = v
outer_ends (outer_call y) (run_call {t = t} h k) = outer_ends (y t) k
outer_ends {l = l} {d = d} (outer_rest {x = x}) (run_call h run_give) = outer_ends (outer_externals l d x) h

pub unit_ends : {ts : List Lexeme} {limit : Limit} {l : Labels} {d : ℕ} {c e : Scopes} {i j : ℕ} {t : Trees} → Runs body ts limit (body (unit l d)) c i (Done t e j) → has_word ts j is_any ≡ false
unit_ends {l = l} {d = d} h = outer_ends (outer_unit l d) h

-- The other text, its limit, and the levels from which on there is no room at token k.
module _ (ts us : List Lexeme) (limit top : Limit) (k m : ℕ) (alike : (n : ℕ) → n < k → slice_get us n ≡ slice_get ts n)
    (block : (g : Manner) (x : Test) (d : ℕ) (c : Scopes) (i : ℕ) → i ≡ k → m ≤ levels_at g d → fits g x ≡ true → passes us c i x ≡ true → Allows top g i d → ⊥) where
  abbrev Stands : Way → Type 0
  Stands w = (x : Test) (n d : ℕ) → w ≡ barring x n d → Stand us k n

  no_unit : {w : Way} {t : Trees} → 0 < m → Ends body ts limit (body (unit anywhere 0)) file_scope 0 w k → is_crowded w ≡ false → m ≤ levels_by w → Stands w → IsUnit top us t → ⊥
  no_unit lt z cr le st y = stuck ts us limit top k 1 m (omega arith) alike block 0 0 false z (unit_is_read y) refl (steady ts 1 (unit anywhere 0) file_scope 0 0 (omega arith, omega arith)) cr le st (λ q. none_true q)

-- at the levels where it stopped or with more none leaves room
pub no_room_in_unit : {ts : List Lexeme} {limit : Limit} (most : ℕ) {d k : ℕ} → 0 < most → k ≤ length ts → most ≤ d → Ends body ts limit (body (unit anywhere 0)) file_scope 0 (stopped d) k → Begins (Leaving k most) ts k → ⊥
no_room_in_unit {ts = ts} {limit = limit} most {k = k} some le up y b =
    no_unit ts b.completes.text limit (Leaving k most) k most (λ n lt. same_token b.completes n lt (omega arith)) (λ g x d c i q low f v w. allows_none most k g i d q low w) some y refl up no_bar b.completes.is_unit

-- the bracket in a refused one's place
pub no_room_instead_in_unit : {ts : List Lexeme} {limit : Limit} (most : ℕ) {x : Test} {n d k : ℕ} {v : Word} → 0 < most → k < length ts → most ≤ d → StandsIn n v →
    Ends body ts limit (body (unit anywhere 0)) file_scope 0 (barring x n d) k → Begins (Upto (k + 1) most) (with_word ts k v) (k + 1) → ⊥
no_room_instead_in_unit {ts = ts} {limit = limit} most {k = k} {v = v} some lt up r y b =
    no_unit ts us limit (Upto (k + 1) most) k most (λ n lt'. tokens n (omega arith) ∙ set_other ts k n new (λ e. omega arith)) (allows_bracket us most k v (stands_bracket r) there) some y refl up
    (λ x n d q. record { word = v; stands = subst (λ n. StandsIn n v) (same_row q) r; is = there }) b.completes.is_unit
  where
    us : List Lexeme
    us = b.completes.text

    new : Lexeme
    new = record { word = v; spelling = [] }

    tokens : (n : ℕ) → n < k + 1 → slice_get us n ≡ slice_get (set ts k new) n
    tokens n lt' = let q = length-set ts k new in same_token b.completes n lt' (omega arith)

    there : Is us k v
    there = ap word_in (tokens k (omega arith) ∙ set_there ts k new lt)

-- a unit that is read is spelled
pub read_is_unit : {ts : List Lexeme} {limit : Limit} {t : Trees} {e : Scopes} (l : Labels) → Runs body ts limit (body (unit l 0)) file_scope 0 (Done t e (length ts)) → IsUnit limit ts t
read_is_unit {ts = ts} {t = t} {e = e} l h = record { after = e; spells = runs_sound (unit l 0) file_scope e 0 (length ts) t h fresh }

-- the tokens that begin a unit are no unused keywords
pub begun_unit_is_used : {limit : Limit} {ts : List Lexeme} {i k : ℕ} {w : Word} → Begins limit ts k → i < k → Is ts i w → is_unused w ≡ false
begun_unit_is_used {i = i} {w = w} b lt q = let q' = token_in b.completes i lt q in (used b.completes.is_unit.spells refl).all i w (omega arith) (within b.completes.text i q') q'

-- Where another limit lets each token stand that a text's run takes, the text is one within that limit.
module _ {us : List Lexeme} {limit top : Limit}
    (lim : (g : Manner) (x : Test) (c : Scopes) (i d : ℕ) → fits g x ≡ true → passes us c i x ≡ true → Allows limit g i d → Allows top g i d) where
  relimit : (l b : ℕ) (o : Bool) {p : Prog} {c e : Scopes} {i j : ℕ} {t : Trees} → Runs body us limit p c i (Done t e j) → Goes us 1 p l b o c i → Runs body us top p c i (Done t e j)
  relimit l b o run_give y = run_give
  relimit l b o {c = c} {i = i} (run_take {m = g} {x = x} {d = d} v a h) y = run_take v (lim g x c i d y.1 v a) (relimit l _ _ h y.2)
  relimit l b o (run_pass x h) y = run_pass x (relimit l _ _ h y.3)
  relimit l b o (run_free x h) y = run_free x (relimit l _ _ h y.2)
  relimit l b o (run_seen x h) y = run_seen x (relimit l _ _ h y.2)
  relimit l b o (run_unseen x h) y = run_unseen x (relimit l _ _ h y.3)
  relimit l b o (run_yes x h) y = run_yes x (relimit l _ _ h (y.0 x))
  relimit l b o (run_no x h) y = run_no x (relimit l _ _ h (y.1 x))
  relimit l b o (run_here h) y = run_here (relimit l _ _ h y)
  relimit l b o (run_look h) y = run_look (relimit l _ _ h y)
  relimit l b o (run_set h) y = run_set (relimit l _ _ h y)
  relimit l b o (run_bring h) y = run_bring (relimit l _ _ h y)
  relimit l b o {c = c} {i = i} (run_call {g = g} h k) y = run_call (relimit (levels_out g) (levels_in g) false h (steady us 1 g c i b y.0)) (relimit l _ _ k (y.1 _ _ _ (knows g c _ i _ _ h)))

  pub relimit_unit : {t : Trees} → IsUnit limit us t → IsUnit top us t
  relimit_unit y = read_is_unit anywhere (relimit 0 0 false (unit_is_read y) (steady us 1 (unit anywhere 0) file_scope 0 0 (omega arith, omega arith)))

-- A token that opens a level is no label of a switch.

data IsOpening : Manner → Type 0 where
  by_opens : IsOpening opens
  by_reopens : IsOpening reopens

no_label_test : {g : Manner} → IsOpening g → (w : Word) → fits g (the w) ≡ true → is_label w ≡ false
no_label_test by_opens w f = not_true (is_label w) (both (not (is_unused w)) (not (is_label w)) f).1
no_label_test by_reopens w f = not_true (is_label w) (both (not (is_bracket w)) (not (is_label w)) (both (not (is_unused w)) (not (is_bracket w) && not (is_label w)) f).1).1

not_that : {o : Option Word} {v w : Word} → o ≡ Some v → is_label v ≡ true → o ≡ Some w → is_label w ≡ false → ⊥
not_that {v = v} q l q' f = both_ways (is_label v) (subst (λ w. is_label w ≡ false) (some_one (sym q' ∙ q)) f) l

no_label_opens : (us : List Lexeme) (i : ℕ) {v : Word} {g : Manner} → IsOpening g → Is us i v → is_label v ≡ true → (c : Scopes) (x : Test) → fits g x ≡ true → passes us c i x ≡ true → ⊥
no_label_opens us i y q l c (the w) f p = not_that q l (holds us c i (the w) p) (no_label_test y w f)
no_label_opens us i y q l c (has t) f p = none_true f
no_label_opens us i y q l c ordinary f p = not_that q l (holds us c i ordinary p).0 refl
no_label_opens us i y q l c (type_identifier typed) f p = not_that q l (holds us c i (type_identifier typed) p).0.0 refl
no_label_opens us i y q l c (declared typed) f p = not_that q l (holds us c i (declared typed) p).0 refl
no_label_opens us i {g = g} y q l c (or x x') f p =
    let v = both (fits g x) (fits g x') f in
    elim (or_cases (passes us c i x) (passes us c i x') p) [ inl w ↦ no_label_opens us i y q l c x v.0 w | inr w ↦ no_label_opens us i y q l c x' v.1 w ]

-- so a label is within the limit where the tokens before it are
pub label_within : {us : List Lexeme} {most k : ℕ} {v : Word} {t : Trees} → Is us k v → is_label v ≡ true → IsUnit (Upto k most) us t → IsUnit (Upto (k + 1) most) us t
label_within {us = us} {most = most} {k = k} {v = v} q l = relimit_unit lim
  where
    here : {g : Manner} → IsOpening g → (x : Test) (c : Scopes) (i d : ℕ) → fits g x ≡ true → passes us c i x ≡ true → (i < k → d < most) → i < k + 1 → d < most
    here y x c i d f p a lt = elim (eq-or-lt_of_le {n = i} {m = k} (omega arith)) [ inl e ↦ absurd (no_label_opens us i y (subst (λ j. Is us j v) (sym e) q) l c x f p) | inr n ↦ a n ]

    lim : (g : Manner) (x : Test) (c : Scopes) (i d : ℕ) → fits g x ≡ true → passes us c i x ≡ true → Allows (Upto k most) g i d → Allows (Upto (k + 1) most) g i d
    lim plain x c i d f p a = tt
    lim opens x c i d f p a = here by_opens x c i d f p a
    lim reopens x c i d f p a = (tt, here by_reopens x c i d f p a.1)
