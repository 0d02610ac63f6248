-- What the machine's refusal of a token says of texts: at the levels where it stopped none leaves room, the tokens before
-- spell nothing, and the bracket that stands in a refused one's place has no room either.
use Rattle.std.proofs.Common.{◌≡◌, ℕ, ◌+◌, ◌<◌, ◌≤◌, true, false, not, ◌&&◌, List, [], length, refl, sym, ap, subst, ◌∙◌, arith, inl, inr}
use Rattle.std.specs.Prelude.{slice_get, set}
use Rattle.std.proofs.lemmas.Bool.{both_ways, or_cases}
use Rattle.std.proofs.lemmas.List.{length-set}
use Rattle.cr_syntax.specs.declared.word.Word.{Word}
use Rattle.cr_syntax.specs.declared.word.Word.TheVariants as word
use Rattle.cr_syntax.specs.declared.part.Part.{Part}
use Rattle.cr_syntax.specs.declared.part.Context.{Context}
use Rattle.cr_syntax.specs.Words.{Lexeme}
use Rattle.cr_syntax.specs.Scopes.{Scopes}
use Rattle.cr_syntax.specs.Trees.{Trees}
use Rattle.cr_syntax.specs.Spells.{Limit, Free, Upto, Leaving, Is, Spells, a}
use Rattle.cr_syntax.specs.Units.{is_unused, with_word, StandsIn, list_for_designator, group_for_literal, subscript_for_call, block_for_body}
use Rattle.cr_syntax_machine.specs.Machine.{Manner, Test, plain, opens, reopens, the, has, ordinary, type_identifier, declared, or, Allows, passes, levels_at, is_bracket}
use Rattle.cr_syntax_machine.specs.MachineBody.{body, start_goal, is_label}
use Rattle.cr_syntax_machine_laws.specs.MachineLaws.{IsStart, IsFree, rank_of}
use Rattle.cr_syntax.specs.Expressions.{Start, Spelled, BeginsFrom}
use Rattle.cr_syntax.proofs.Tests.{both, not_true, some_one}
use Rattle.cr_syntax_machine_laws.proofs.MachineGives.{holds}
use Rattle.cr_syntax_machine_laws.proofs.MachineFirst.{none_true}
use Rattle.cr_syntax_machine_laws.proofs.MachineComplete.{spelled_is_read, free_at_end, begun_same}
use Rattle.cr_syntax_machine_laws.proofs.MachineEnds.{Way, stopped, barring, Ends}
use Rattle.cr_syntax_machine_laws.proofs.MachineSteady.{levels_in, levels_out, start_levels, fits, steady}
use Rattle.cr_syntax_machine_laws.proofs.MachineStuck.{levels_by, is_crowded, Stand, stuck}
use Rattle.cr_syntax_machine_laws.proofs.MachineClosed.{closed, closed_before, closed_at, spelled_closed}
use Rattle.cr_syntax_machine_laws.proofs.MachineOwn.{set_other, set_there}
use Rattle.cr_syntax_machine_laws.proofs.MachineRuns.{word_in}

-- A test of a token in the grammar's programs and the token's word.

no_keyword : (g : Manner) (w : Word) → fits g (the w) ≡ true → is_unused w ≡ false
no_keyword plain w f = not_true (is_unused w) (both (not (is_unused w)) (not (is_bracket w)) f).0
no_keyword opens w f = not_true (is_unused w) (both (not (is_unused w)) (not (is_label w)) f).0
no_keyword reopens w f = not_true (is_unused w) (both (not (is_unused w)) (not (is_bracket w) && not (is_label w)) f).0

-- tokens that open no level
data IsFlat : Manner → Type 0 where
  flat_plain : IsFlat plain
  flat_reopens : IsFlat reopens

no_bracket : {g : Manner} → IsFlat g → (w : Word) → fits g (the w) ≡ true → is_bracket w ≡ false
no_bracket flat_plain w f = not_true (is_bracket w) (both (not (is_unused w)) (not (is_bracket w)) f).1
no_bracket flat_reopens w f = not_true (is_bracket w) (both (not (is_bracket w)) (not (is_label w)) (both (not (is_unused w)) (not (is_bracket w) && not (is_label w)) f).1).0

-- a token that passes is no unused keyword, nor a bracket that opens no level
record Passed (us : List Lexeme) (i : ℕ) (g : Manner) : Type 0 where
  word : Word
  is : Is us i word
  used : is_unused word ≡ false
  flat : IsFlat g → is_bracket word ≡ false

passed : (us : List Lexeme) (c : Scopes) (i : ℕ) (g : Manner) (x : Test) → fits g x ≡ true → passes us c i x ≡ true → Passed us i g
passed us c i g (the w) f q = record { word = w; is = holds us c i (the w) q; used = no_keyword g w f; flat = λ l. no_bracket l w f }
passed us c i g (has t) f q = none_true f
passed us c i g ordinary f q = record { word = word.Identifier; is = (holds us c i ordinary q).0; used = refl; flat = λ l. refl }
passed us c i g (type_identifier typed) f q = record { word = word.Identifier; is = (holds us c i (type_identifier typed) q).0.0; used = refl; flat = λ l. refl }
passed us c i g (declared typed) f q = record { word = word.Identifier; is = (holds us c i (declared typed) q).0; used = refl; flat = λ l. refl }
passed us c i g (or x y) f q =
    let v = both (fits g x) (fits g y) f in
    elim (or_cases (passes us c i x) (passes us c i y) q) [ inl w ↦ passed us c i g x v.0 w | inr w ↦ passed us c i g y v.1 w ]

-- Texts.

-- a text that is blocked where another one is refused is spelled by no trees
module _ {ts us : List Lexeme} {limit top : Limit} {k : ℕ} (m : ℕ) (alike : (n : ℕ) → n < k → slice_get us n ≡ slice_get ts n)
    (block : (g : Manner) (x : Test) (d : ℕ) (c : Scopes) (i : ℕ) → i ≡ k → m ≤ levels_at g d → fits g x ≡ true → passes us c i x ≡ true → Allows top g i d → ⊥) where
  unspelled : {p : Part} {h : Context} {c e : Scopes} {d i n : ℕ} {w : Way} {t : Trees} → IsStart p → Ends body ts limit (body (start_goal p d)) c i w k → is_crowded w ≡ false → m ≤ levels_by w →
      ((x : Test) (n d : ℕ) → w ≡ barring x n d → Stand us k n) → Spells us top (a p) h c e d t i n → IsFree us 13 n → ⊥
  unspelled {p = p} {c = c} {d = d} {i = i} z y cr le st s f =
      stuck ts us limit top k 0 m (omega arith) alike block (levels_out (start_goal p d)) (levels_in (start_goal p d)) false y (spelled_is_read us top z s f) refl (steady ts 0 (start_goal p d) c i d (start_levels 0 p d).0) cr le st (λ q. none_true q)

-- Refusals.

pub no_bar : {us : List Lexeme} {d k : ℕ} (x : Test) (n e : ℕ) → stopped d ≡ barring x n e → Stand us k n
no_bar x n e q = cc

-- at the levels where it stopped or with more none leaves room
pub allows_none : (most k : ℕ) (g : Manner) (i d : ℕ) → i ≡ k → most ≤ levels_at g d → Allows (Leaving k most) g i d → ⊥
allows_none most k plain i d q le w = let n = w q in absurd (omega arith)
allows_none most k opens i d q le w = let n = w (omega arith) in absurd (omega arith)
allows_none most k reopens i d q le w = let n = w.0 q in absurd (omega arith)

pub no_room : {ts : List Lexeme} {limit : Limit} (most : ℕ) (s : Start) {d k : ℕ} → IsStart s.part → k ≤ length ts → most ≤ d →
    Ends body ts limit (body (start_goal s.part s.depth)) s.scopes s.at (stopped d) k → BeginsFrom (Leaving k most) ts s k → ⊥
no_room {ts = ts} most s {k = k} z le up y b =
    unspelled most (λ n lt. begun_same ts b.continues.text k b.continues.alike n lt (omega arith)) (λ g x d c i q low f v w. allows_none most k g i d q low w) z y refl up no_bar b.continues.spelled.spells (free_at_end b.continues.text 13)

-- the tokens before spell nothing
closed_blocks : (ts : List Lexeme) (k : ℕ) (c : Scopes) (g : Manner) (x : Test) (i : ℕ) → i ≡ k → fits g x ≡ true → passes (closed k ts) c i x ≡ true → ⊥
closed_blocks ts k c g x i q f v =
    let w = passed (closed k ts) c i g x f v in
    both_ways (is_unused w.word) w.used (subst (λ y. is_unused y ≡ true) (closed_at k ts w.word (subst (λ y. Is (closed k ts) y w.word) q w.is)) refl)

closed_free : (ts : List Lexeme) (k : ℕ) → IsFree (closed k ts) 13 k
closed_free ts k = record { all = λ w q. subst (λ y. 13 < rank_of y) (closed_at k ts w q) (omega arith) }

pub spells_none : {ts : List Lexeme} {limit : Limit} (s : Start) {d k : ℕ} {t : Trees} → IsStart s.part → Ends body ts limit (body (start_goal s.part s.depth)) s.scopes s.at (stopped d) k → Spelled Free ts s k t → ⊥
spells_none {ts = ts} s {k = k} z y t =
    unspelled 0 (closed_before k ts) (λ g x d c i q low f v w. closed_blocks ts k c g x i q f v) z y refl (omega arith) no_bar (spelled_closed k t.spells) (closed_free ts k)

-- the bracket in a refused one's place
pub stands_bracket : {n : ℕ} {v : Word} → StandsIn n v → is_bracket v ≡ true
stands_bracket list_for_designator = refl
stands_bracket group_for_literal = refl
stands_bracket subscript_for_call = refl
stands_bracket block_for_body = refl

pub allows_bracket : (us : List Lexeme) (most k : ℕ) (v : Word) → is_bracket v ≡ true → Is us k v → (g : Manner) (x : Test) (d : ℕ) (c : Scopes) (i : ℕ) → i ≡ k → most ≤ levels_at g d → fits g x ≡ true → passes us c i x ≡ true →
    Allows (Upto (k + 1) most) g i d → ⊥
allows_bracket us most k v b s = by
  where
    flat : (g : Manner) (x : Test) (c : Scopes) (i : ℕ) → IsFlat g → i ≡ k → fits g x ≡ true → passes us c i x ≡ true → ⊥
    flat g x c i l q f y = let w = passed us c i g x f y in both_ways (is_bracket v) (subst (λ u. is_bracket u ≡ false) (some_one (sym w.is ∙ subst (λ j. Is us j v) (sym q) s)) (w.flat l)) b

    by : (g : Manner) (x : Test) (d : ℕ) (c : Scopes) (i : ℕ) → i ≡ k → most ≤ levels_at g d → fits g x ≡ true → passes us c i x ≡ true → Allows (Upto (k + 1) most) g i d → ⊥
    by plain x d c i q le f y w = flat plain x c i flat_plain q f y
    by opens x d c i q le f y w = let n = w (omega arith) in absurd (omega arith)
    by reopens x d c i q le f y w = flat reopens x c i flat_reopens q f y

pub same_row : {x y : Test} {n n' d d' : ℕ} → barring x n d ≡ barring y n' d' → n ≡ n'
same_row q = cc

pub no_room_instead : {ts : List Lexeme} {limit : Limit} (most : ℕ) (s : Start) {x : Test} {n d k : ℕ} {v : Word} → IsStart s.part → k < length ts → most ≤ d → StandsIn n v →
    Ends body ts limit (body (start_goal s.part s.depth)) s.scopes s.at (barring x n d) k → BeginsFrom (Upto (k + 1) most) (with_word ts k v) s (k + 1) → ⊥
no_room_instead {ts = ts} most s {k = k} {v = v} z lt up r y b =
    unspelled most (λ n lt'. tokens n (omega arith) ∙ set_other ts k n new (λ e. omega arith)) (allows_bracket us most k v (stands_bracket r) there) z y refl up
    (λ x n d q. record { word = v; stands = subst (λ n. StandsIn n v) (same_row q) r; is = there }) b.continues.spelled.spells (free_at_end us 13)
  where
    us : List Lexeme
    us = b.continues.text

    new : Lexeme
    new = record { word = v; spelling = [] }

    tokens : (n : ℕ) → n < k + 1 → slice_get us n ≡ slice_get (set ts k new) n
    tokens n lt' = let q = length-set ts k new in begun_same (set ts k new) us (k + 1) b.continues.alike n lt' (omega arith)

    there : Is us k v
    there = ap word_in (tokens k (omega arith) ∙ set_there ts k new lt)
