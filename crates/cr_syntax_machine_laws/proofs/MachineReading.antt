-- What the machine answers is what reading an expression in the middle of a text promises.
use Rattle.std.proofs.Common.{◌≡◌, ℕ, ◌<◌, ◌≤◌, Bool, true, false, not, ◌&&◌, List, length, Option, None, Some, refl, sym, ap, subst, ◌∙◌, arith, ◌⊎◌, inl, inr, ◌+◌}
use Rattle.std.specs.Prelude.{slice_get, nat_lt, if◌then◌else◌}
use Rattle.std.proofs.Math.Nat.{eq-or-lt_of_le}
use Rattle.std.proofs.lemmas.Bool.{both_ways, ltb-true, ltb-false}
use Rattle.cr_syntax.specs.declared.word.Word.{Word}
use Rattle.cr_syntax.specs.declared.word.Word.TheVariants as word
use Rattle.cr_syntax.specs.declared.part.Part.{Part}
use Rattle.cr_syntax.specs.declared.part.Context.{Context}
use Rattle.cr_syntax.specs.Words.{Lexeme, word_at}
use Rattle.cr_syntax.specs.Scopes.{Scopes}
use Rattle.cr_syntax.specs.Trees.{Trees}
use Rattle.cr_syntax.specs.Context.{fresh}
use Rattle.cr_syntax.specs.Spells.{Limit, Free, AtMost, Upto, Is, Spells, a}
use Rattle.cr_syntax.specs.Units.{most_levels, is_unused, is_opening, IsBracket, parenthesis, bracket, brace, StandsIn, group_for_literal, subscript_for_call}
use Rattle.cr_syntax_machine.specs.Machine.{Prog, Test, whole, Reply, Cause, Done, Failed, Runs, passes, has, barred, refusal_of, overflows, exceeds, is_bracket, too_deep, ended, outside, unexpected, run_give, run_stop, run_refuse, run_take, run_deep, run_pass, run_bar, run_free, run_seen, run_unseen, run_yes, run_no, run_here, run_look, run_set, run_bring, run_call, run_fail}
use Rattle.cr_syntax_machine.specs.MachineBody.{body, start_goal}
use Rattle.cr_syntax_machine_laws.specs.MachineLaws.{end_of, outcome_of, IsStart, start_expression, start_assignment, start_conditional}
use Rattle.cr_syntax.specs.Expressions.{Start, Spelled, BeginsFrom, OutsideFrom, unused_keyword, compound_literal, called_expression, bit_field, IsTooDeepFrom, IsFineFrom, RunEnds, Read, Refused, IsReading}
use Rattle.cr_syntax.specs.Expressions as expressions
use Rattle.cr_syntax.proofs.Tests.{both, not_true, some_one}
use Rattle.cr_syntax_machine_laws.proofs.MachineRuns.{same, reach, local, word_in}
use Rattle.cr_syntax_machine_laws.proofs.MachineEnds.{Way, stopped, barring, crowded, naming, Ends, ends_so, refused_so, cause_by}
use Rattle.cr_syntax_machine_laws.proofs.MachineGives.{gives}
use Rattle.cr_syntax_machine_laws.proofs.MachineKept.{Kept, runs_kept}
use Rattle.cr_syntax_machine_laws.proofs.MachineMeans.{Means}
use Rattle.cr_syntax_machine_laws.proofs.MachineSound.{each}
use Rattle.cr_syntax_machine_laws.proofs.MachineFirst.{none_true, true_false}
use Rattle.cr_syntax_machine_laws.proofs.MachineComplete.{spelled_is_read, read_is_spelled, free_at_end, get_some, unlimited, allows_free, allows_upto, longest, refused_within, begun_same}
use Rattle.cr_syntax_machine_laws.proofs.MachineViable.{prefix, prefix_length, prefix_get, passes_inside, stopped_leaves, barred_stands, barred_leaves, crowded_begins, barred_outside, barred_inside, crowded_inside, begins_before, start_names_none}
use Rattle.cr_syntax_machine_laws.proofs.MachineWays.{at}
use Rattle.cr_syntax_machine_laws.proofs.MachineForms.{within, IsBarring, by_row, outside_is_end, outside_is_refused}
use Rattle.cr_syntax_machine_laws.proofs.MachineUnused.{begun_is_used}
use Rattle.cr_syntax_machine_laws.proofs.MachineParts.{given, refused_or_free, answered_or_refused}
use Rattle.cr_syntax_machine_laws.proofs.MachineStuck.{is_crowded}
use Rattle.cr_syntax_machine_laws.proofs.MachineRefused.{no_room, spells_none, no_room_instead}
use Rattle.cr_syntax_machine_laws.proofs.MachineSteady.{none_for_keyword}
use Rattle.cr_syntax_machine_laws.proofs.MachineTraces.{end_there}

-- A run consumes tokens of the text alone.
pub ends_inside : {ts : List Lexeme} {limit : Limit} {p : Prog} {c : Scopes} {i : ℕ} {r : Reply} → Runs body ts limit p c i r → i ≤ length ts → end_of r ≤ length ts
ends_inside run_give le = le
ends_inside run_stop le = le
ends_inside run_refuse le = le
ends_inside {ts = ts} {c = c} {i = i} (run_take {x = x} q w h) le = let n = passes_inside ts c i x q in ends_inside h (omega arith)
ends_inside (run_deep q w) le = le
ends_inside (run_pass q h) le = ends_inside h le
ends_inside (run_bar q) le = le
ends_inside (run_free q h) le = ends_inside h le
ends_inside (run_seen q h) le = ends_inside h le
ends_inside (run_unseen q h) le = ends_inside h le
ends_inside (run_yes q h) le = ends_inside h le
ends_inside (run_no q h) le = ends_inside h le
ends_inside (run_here h) le = ends_inside h le
ends_inside (run_look h) le = ends_inside h le
ends_inside (run_set h) le = ends_inside h le
ends_inside (run_bring h) le = ends_inside h le
ends_inside (run_call h k) le = ends_inside k (ends_inside h le)
ends_inside (run_fail h) le = ends_inside h le

-- Where no level wants room, a limit is none.
pub unlimited_end : {ts : List Lexeme} {limit : Limit} {p : Prog} {c : Scopes} {i k : ℕ} {w : Way} → Ends body ts limit p c i w k → is_crowded w ≡ false → Ends body ts Free p c i w k
unlimited_end {ts = ts} {limit = limit} {k = k} z n = end_there body ts ts limit Free k (λ n le. refl) (λ g n d lt w. allows_free g n d) z (λ e. true_false (sym (ap is_crowded e) ∙ n)) (omega arith)

-- Words.

pub bracket_is : (w : Word) → is_bracket w ≡ true → IsBracket w
bracket_is word.LeftParen q = parenthesis
bracket_is word.LeftBracket q = bracket
bracket_is word.LeftBrace q = brace
bracket_is _ q = none_true q

pub is_of_bracket : {w : Word} → IsBracket w → is_bracket w ≡ true
is_of_bracket parenthesis = refl
is_of_bracket bracket = refl
is_of_bracket brace = refl

pub bracket_is_used : {w : Word} → IsBracket w → is_unused w ≡ false
bracket_is_used parenthesis = refl
bracket_is_used bracket = refl
bracket_is_used brace = refl

-- a token is no unused keyword and another word
pub not_both : {o : Option Word} {v w : Word} → o ≡ Some v → is_unused v ≡ true → o ≡ Some w → is_unused w ≡ false → ⊥
not_both {v = v} q u q' u' = both_ways (is_unused v) (subst (λ w. is_unused w ≡ false) (some_one (sym q' ∙ q)) u') u

-- nor is another word that opens a level
pub opening_is_used : (w : Word) → is_opening w ≡ true → is_unused w ≡ false
opening_is_used word.LeftParen q = refl
opening_is_used word.LeftBracket q = refl
opening_is_used word.LeftBrace q = refl
opening_is_used word.Do q = refl
opening_is_used word.PlusPlus q = refl
opening_is_used word.MinusMinus q = refl
opening_is_used word.Ampersand q = refl
opening_is_used word.Star q = refl
opening_is_used word.Plus q = refl
opening_is_used word.Minus q = refl
opening_is_used word.Tilde q = refl
opening_is_used word.Bang q = refl
opening_is_used word.Sizeof q = refl
opening_is_used _ q = none_true q

-- a token is such a word and another one
pub no_opening : {o : Option Word} {v w : Word} → o ≡ Some v → is_opening v ≡ false → o ≡ Some w → is_opening w ≡ true → ⊥
no_opening {v = v} q f y b = both_ways (is_opening v) f (subst (λ w. is_opening w ≡ true) (some_one (sym y ∙ q)) b)

-- a level finds no room where so many are open
pub at_most : (m most : ℕ) → not (nat_lt m most) ≡ true → most ≤ m
at_most m most q = ltb-false m most (not_true (nat_lt m most) q)

pub below : (x : Bool) (m : ℕ) → x ≡ true → x && not (nat_lt m most_levels) ≡ false → m < most_levels
below x m b q = ltb-true m most_levels (by x (nat_lt m most_levels) b q)
  where
    by : (x y : Bool) → x ≡ true → x && not y ≡ false → y ≡ true
    by true true b q = refl
    by true false b q = true_false q
    by false y b q = none_true b

-- a token that a row of the refused forms names is an unused keyword, or the row is another one
keyword_or_form : {ts : List Lexeme} {s : Start} {k n : ℕ} → OutsideFrom ts s k n → ((w : Word) × Is ts k w × (is_unused w ≡ true)) ⊎ (n ≡ 1 → ⊥)
keyword_or_form (unused_keyword {w = w} q u) = inl (w, q, u)
keyword_or_form (compound_literal q b) = inr (λ e. omega arith)
keyword_or_form (called_expression q b) = inr (λ e. omega arith)
keyword_or_form (bit_field q b) = inr (λ e. omega arith)

-- a word that opens a level, and that a row refuses, has a bracket in its place
in_place : {ts : List Lexeme} {s : Start} {k n : ℕ} {w : Word} → OutsideFrom ts s k n → Is ts k w → is_opening w ≡ true → (v : Word) × StandsIn n v
in_place {w = w} (unused_keyword q u) y b = absurd (not_both q u y (opening_is_used w b))
in_place (compound_literal q x) y b = (word.LeftParen, group_for_literal)
in_place (called_expression q x) y b = (word.LeftBracket, subscript_for_call)
in_place (bit_field q x) y b = absurd (no_opening q refl y b)

pub not_keyword_row : {n : ℕ} {v : Word} → StandsIn n v → n ≡ 1 → ⊥
not_keyword_row {v = v} x e = none_for_keyword v (subst (λ n. StandsIn n v) e x)

-- the way in which a token that a row names is refused
pub barring_at : {n i k : ℕ} {w : Way} → IsBarring n i (at w k) → (i ≡ k) × (x : Test) × (d : ℕ) × (w ≡ barring x n d)
barring_at (by_row {x = x} {d = d}) = (refl, x, d, refl)

pub at_end : (ts : List Lexeme) (k : ℕ) → k ≤ length ts → word_at ts k ≡ None → k ≡ length ts
at_end ts k le q = elim (eq-or-lt_of_le {n = k} {m = length ts} le) [ inl e ↦ e | inr lt ↦ (let w = get_some ts k lt in by (ap word_in w.1) q) ]
  where
    by : {A : Type 0} {v : Word} → word_at ts k ≡ Some v → word_at ts k ≡ None → A
    by x y = cc

module _ (ts : List Lexeme) (s : Start) (z : IsStart s.part) (le : s.at ≤ length ts) where
  abbrev Answers : Reply → Type 0
  Answers r = Runs body ts (AtMost most_levels) (body (start_goal s.part s.depth)) s.scopes s.at r

  abbrev EndsBy : Way → ℕ → Type 0
  EndsBy w k = Ends body ts (AtMost most_levels) (body (start_goal s.part s.depth)) s.scopes s.at w k

  -- Texts.

  -- one within some limit is one
  begins_free : {limit : Limit} {k : ℕ} → BeginsFrom limit ts s k → BeginsFrom Free ts s k
  begins_free {limit = limit} b =
      let us = b.continues.text in
      record {
        trees = b.trees;
        continues = record {
          text = us;
          alike = b.continues.alike;
          reaches = b.continues.reaches;
          spelled = record {
            after = b.continues.spelled.after;
            spells = read_is_spelled us Free fresh z (unlimited (spelled_is_read us limit z b.continues.spelled.spells (free_at_end us 13)) tt);
          };
        };
      }

  -- none goes on with a token that is refused otherwise than for want of room
  run_ends : {w : Way} {k : ℕ} → EndsBy w k → is_crowded w ≡ false → RunEnds ts s k
  run_ends {k = k} y n lt b =
      let us = b.continues.text in
      let q = same (local (refused_so (unlimited_end y n)) alike) (spelled_is_read us Free z b.continues.spelled.spells (free_at_end us 13)) in
      cc
    where
      alike : (i : ℕ) → i ≤ k → slice_get b.continues.text i ≡ slice_get ts i
      alike i le = begun_same ts b.continues.text (k + 1) b.continues.alike i (omega arith) (omega arith)

  -- what is read is a text
  start_spells : {p : Part} {us : List Lexeme} {top : Limit} {d : ℕ} {c e : Scopes} {i j : ℕ} {t : Trees} → IsStart p → Means us top (start_goal p d) c i t e j → (h : Context) → Spells us top (a p) h c e d t i j
  start_spells start_expression x = x
  start_spells start_assignment x = x
  start_spells start_conditional x = x

  read_begins : {t : Trees} {e : Scopes} {j : ℕ} → Answers (Done t e j) → BeginsFrom (Upto j most_levels) ts s j
  read_begins {t = t} {e = e} {j = j} h =
      let n = prefix_length j ts (ends_inside h le) in
      record {
        trees = t;
        continues = record {
          text = us;
          alike = λ i x lt q. prefix_get j ts i lt ∙ q;
          reaches = omega arith;
          spelled = record { after = e; spells = subst (λ k. Spells us top (a s.part) fresh s.scopes e s.depth t s.at k) n (start_spells z means fresh) };
        };
      }
    where
      us : List Lexeme
      us = prefix j ts

      top : Limit
      top = Upto j most_levels

      means : Means us top (start_goal s.part s.depth) s.scopes s.at t e j
      means = gives body ts us (AtMost most_levels) top Kept (Means us top) runs_kept (each us top) h (Means us top (start_goal s.part s.depth) s.scopes s.at) (λ n lt. prefix_get j ts n lt) (λ g n d lt w. allows_upto j most_levels g n d w)
          (each us top (start_goal s.part s.depth) s.scopes s.at)

  -- Tokens that no row of the refused forms names.

  inside_read : {t : Trees} {e : Scopes} {j : ℕ} → Answers (Done t e j) → (i n : ℕ) → s.at ≤ i → i < j → OutsideFrom ts s i n → ⊥
  inside_read h i n ge lt o = elim (keyword_or_form o) [ inl (w, q, u) ↦ both_ways (is_unused w) (begun_is_used s (read_begins h) ge lt q) u | inr f ↦ outside_is_refused s z h f o ]

  fine_read : {t : Trees} {e : Scopes} {j : ℕ} → Answers (Done t e j) → IsFineFrom ts s j
  fine_read h = record { from = reach h; begins = read_begins h; inside = inside_read h }

  fine : {w : Way} {k : ℕ} → EndsBy w k → k ≤ length ts → IsFineFrom ts s k
  fine {w = w} {k = k} y le' = record { from = reach (refused_so y); begins = begins; inside = inside }
    where
      begins : BeginsFrom (Upto k most_levels) ts s k
      begins = begins_before ts most_levels k le' s (cause_by ts k w) z (refused_so y)

      inside : (i n : ℕ) → s.at ≤ i → i < k → OutsideFrom ts s i n → ⊥
      inside i n ge lt o = elim (keyword_or_form o) [ inl (w, q, u) ↦ both_ways (is_unused w) (begun_is_used s begins ge lt q) u | inr f ↦ (let b = barring_at (outside_is_end s z y f o) in let e = b.0 in absurd (omega arith)) ]

  -- an unused keyword is no bracket too deep
  keyword_not_deep : {k : ℕ} {w : Word} → Is ts k w → is_unused w ≡ true → RunEnds ts s k → IsTooDeepFrom ts s k → ⊥
  keyword_not_deep {k = k} {w = w} q u r (expressions.expected o) = r (within ts k q) (begins_free o.begins)
  keyword_not_deep q u r (expressions.refused {w = v} y b o x d) = not_both q u y (opening_is_used v b)
  keyword_not_deep q u r (expressions.unexpected y b n o x) = not_both q u y (bracket_is_used b)

  -- A token at which the machine stops.
  module _ (m k : ℕ) (y : EndsBy (stopped m) k) (le' : k ≤ length ts) where
    not_outside : {w : Word} → Is ts k w → is_unused w ≡ false → (n : ℕ) → OutsideFrom ts s k n → ⊥
    not_outside q u n o = elim (keyword_or_form o) [ inl (v, q', u') ↦ not_both q' u' q u | inr f ↦ (let b = barring_at (outside_is_end s z y f o) in no_row b.3) ]
      where
        no_row : {x : Test} {n d : ℕ} → stopped m ≡ barring x n d → ⊥
        no_row q = cc

    not_deep : {w : Word} → Is ts k w → is_unused w ≡ false → overflows w m ≡ false → IsTooDeepFrom ts s k → ⊥
    not_deep q u v (expressions.expected o) = run_ends y refl (within ts k q) (begins_free o.begins)
    not_deep q u v (expressions.refused {row = n} q' b o x d) = not_outside q u n o
    not_deep {w = w} q u v (expressions.unexpected q' b n o x) = x (stopped_leaves ts most_levels k le' s z m y (below (is_bracket w) m (subst (λ w. is_bracket w ≡ true) (some_one (sym q' ∙ q)) (is_of_bracket b)) v))

    read_stop_word : {w : Word} → Is ts k w → (u o : Bool) → is_unused w ≡ u → overflows w m ≡ o → IsReading ts s (Refused (refusal_of (if u then outside 1 else (if o then too_deep else unexpected)) k))
    read_stop_word q true o u v = expressions.outside (within ts k q) (fine y le') (keyword_not_deep q u (run_ends y refl)) (unused_keyword q u)
    read_stop_word {w = w} q false true u v =
        let b = both (is_bracket w) (not (nat_lt m most_levels)) v in
        expressions.too_deep (within ts k q) (fine y le')
        (expressions.unexpected q (bracket_is w b.0) (run_ends y refl (within ts k q)) (not_outside q u) (no_room most_levels s z le' (at_most m most_levels b.1) y))
    read_stop_word q false false u v = expressions.unexpected_token (within ts k q) (fine y le') (not_deep q u v) (not_outside q u) (run_ends y refl) (λ t. spells_none s z y)

    read_stop : (o : Option Word) → word_at ts k ≡ o →
        IsReading ts s (Refused (refusal_of (elim o as (λ _. Cause) [ None ↦ ended | Some w ↦ if is_unused w then outside 1 else (if overflows w m then too_deep else unexpected) ]) k))
    read_stop None q = let e = at_end ts k le' q in expressions.end (subst (λ k. IsFineFrom ts s k) e (fine y le')) (λ t x. spells_none s z y (subst (λ k. Spelled Free ts s k t) (sym e) x))
    read_stop (Some w) q = read_stop_word q (is_unused w) (overflows w m) refl refl

  -- A token that a row of the refused forms refuses.
  module _ (x : Test) (n m k : ℕ) (y : EndsBy (barring x n m) k) (le' : k ≤ length ts) where
    same_row : {x' : Test} {n' d : ℕ} → barring x n m ≡ barring x' n' d → n' ≡ n
    same_row q = cc

    form_not_deep : {w : Word} → Is ts k w → exceeds w m ≡ false → IsTooDeepFrom ts s k → ⊥
    form_not_deep q v (expressions.expected o) = run_ends y refl (within ts k q) (begins_free o.begins)
    form_not_deep {w = w} q v (expressions.refused {v = v'} q' b o x' d) =
        let r = barring_at (outside_is_end s z y (not_keyword_row x') o) in
        d.too_deep (barred_leaves ts most_levels k le' s z x n m y (within ts k q) (subst (λ n. StandsIn n v') (same_row r.3) x') (below (is_opening w) m (subst (λ w. is_opening w ≡ true) (some_one (sym q' ∙ q)) b) v))
    form_not_deep q v (expressions.unexpected q' b f o x') = o n (barred_outside ts k le' s z x n m y)

    read_bar_word : {w : Word} → Is ts k w → (o : Bool) → exceeds w m ≡ o → IsReading ts s (Refused (refusal_of (if o then too_deep else outside n) k))
    read_bar_word {w = w} q true v =
        let b = both (is_opening w) (not (nat_lt m most_levels)) v in
        let o = barred_outside ts k le' s z x n m y in
        let lt = within ts k q in
        let r = in_place o q b.0 in
        expressions.too_deep lt (fine y le')
        (expressions.refused q b.0 o r.1
        (record { begins = barred_stands ts most_levels k le' s z x n m y lt r.1; too_deep = no_room_instead most_levels s z lt (at_most m most_levels b.1) r.1 y }))
    read_bar_word q false v = expressions.outside (within ts k q) (fine y le') (form_not_deep q v) (barred_outside ts k le' s z x n m y)

    read_bar : (o : Option Word) → word_at ts k ≡ o → IsReading ts s (Refused (refusal_of (elim o as (λ _. Cause) [ None ↦ ended | Some w ↦ if exceeds w m then too_deep else outside n ]) k))
    read_bar None q = let e = at_end ts k le' q in let lt = barred_inside y in absurd (omega arith)
    read_bar (Some w) q = read_bar_word q (exceeds w m) refl

  -- A token for which a level finds no room.
  read_crowd : (k : ℕ) → EndsBy crowded k → k ≤ length ts → IsReading ts s (Refused (refusal_of too_deep k))
  read_crowd k y le' =
      let lt = crowded_inside y in
      expressions.too_deep lt (fine y le') (expressions.expected (record { begins = crowded_begins ts most_levels k le' s z y lt; too_deep = refused_within s z lt (refused_so y) }))

  read_end : (w : Way) (k : ℕ) → EndsBy w k → k ≤ length ts → IsReading ts s (Refused (refusal_of (cause_by ts k w) k))
  read_end (stopped m) k y le' = read_stop m k y le' (word_at ts k) refl
  read_end (barring x n m) k y le' = read_bar x n m k y le' (word_at ts k) refl
  read_end crowded k y le' = read_crowd k y le'
  read_end (naming m r) k y le' = absurd (start_names_none s.part s.depth y)

  refused_is_reading : {x : Cause} {k : ℕ} → Answers (Failed x k) → IsReading ts s (Refused (refusal_of x k))
  refused_is_reading {k = k} h = let y = ends_so h in subst (λ x. IsReading ts s (Refused (refusal_of x k))) (sym y.cause) (read_end y.way k y.ends (ends_inside h le))

  -- Behind what is read: an unused keyword, or another token.

  keyword_of : (e : Scopes) (j : ℕ) → passes ts e j (has is_unused) ≡ true → (w : Word) × Is ts j w × (is_unused w ≡ true)
  keyword_of e j = by (word_at ts j)
    where
      by : (o : Option Word) → elim o as (λ _. Bool) [ None ↦ false | Some w ↦ is_unused w ] ≡ true → (w : Word) × (o ≡ Some w) × (is_unused w ≡ true)
      by None q = none_true q
      by (Some w) q = (w, refl, q)

  used_word : (e : Scopes) (j : ℕ) {w : Word} → passes ts e j (has is_unused) ≡ false → Is ts j w → is_unused w ≡ false
  used_word e j q y = subst (λ o. elim o as (λ _. Bool) [ None ↦ false | Some w ↦ is_unused w ] ≡ false) y q

  keyword_flat : (w : Word) (d : ℕ) → is_unused w ≡ true → exceeds w d ≡ false
  keyword_flat w d u = by (is_opening w) refl
    where
      by : (b : Bool) → is_opening w ≡ b → b && not (nat_lt d most_levels) ≡ false
      by true q = absurd (both_ways (is_unused w) (opening_is_used w q) u)
      by false q = refl

  keyword_barred : (j d : ℕ) {w : Word} → Is ts j w → is_unused w ≡ true → outside 1 ≡ barred ts 1 j d
  keyword_barred j d {w = w} q u =
      sym (ap (λ o. elim o as (λ _. Cause) [ None ↦ ended | Some w ↦ if exceeds w d then too_deep else outside 1 ]) q ∙ ap (λ b. if b then too_deep else outside 1) (keyword_flat w d u))

  keyword_is_reading : {t : Trees} {e : Scopes} {j : ℕ} → Answers (Done t e j) → passes ts e j (has is_unused) ≡ true → IsReading ts s (Refused (refusal_of (barred ts 1 j s.depth) j))
  keyword_is_reading {e = e} {j = j} h q =
      let w = keyword_of e j q in
      subst (λ x. IsReading ts s (Refused (refusal_of x j))) (keyword_barred j s.depth w.1 w.2)
      (expressions.outside (within ts j w.1) (fine_read h) (keyword_not_deep w.1 w.2 (longest s z h)) (unused_keyword w.1 w.2))

  read_is_reading : {t : Trees} {e : Scopes} {j : ℕ} → Answers (Done t e j) → passes ts e j (has is_unused) ≡ false → IsReading ts s (Read t j)
  read_is_reading {e = e} {j = j} h q = expressions.read (ends_inside h le) (record { after = e; spells = read_is_spelled ts (AtMost most_levels) fresh z h }) (longest s z h) none
    where
      none : (i n : ℕ) → s.at ≤ i → i ≤ j → OutsideFrom ts s i n → ⊥
      none i n ge le' o = elim (keyword_or_form o) [
        | inl (w, y, u) ↦
            elim (eq-or-lt_of_le {n = i} {m = j} le') [
              | inl x ↦ both_ways (is_unused w) (used_word e j q (subst (λ i. Is ts i w) x y)) u
              | inr lt ↦ inside_read h i n ge lt o
            ]
        | inr f ↦ outside_is_refused s z h f o
      ]

-- what the machine answers is what reading promises
pub is_reading : (ts : List Lexeme) (s : Start) (r : Reply) → IsStart s.part → s.at ≤ length ts → Runs body ts (AtMost most_levels) (body (whole s.part s.depth)) s.scopes s.at r → IsReading ts s (outcome_of r)
is_reading ts s r z le h = elim (answered_or_refused h) [
  | inl w ↦
      elim (refused_or_free w.others) [
        | inl (q, e) ↦ subst (λ r. IsReading ts s (outcome_of r)) e (keyword_is_reading ts s z le w.goal q)
        | inr (q, y) ↦ subst (λ r. IsReading ts s (outcome_of r)) (given y) (read_is_reading ts s z le w.goal q)
      ]
  | inr w ↦ subst (λ r. IsReading ts s (outcome_of r)) w.reply (refused_is_reading ts s z le w.goal)
]
