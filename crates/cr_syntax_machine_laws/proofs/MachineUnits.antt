-- What the machine reads as a unit is one: its tokens are all there are.
use Rattle.std.proofs.Common.{◌≡◌, ℕ, ◌<◌, ◌≤◌, Bool, true, false, not, ◌&&◌, ◌||◌, List, length, Option, None, Some, refl, subst, ap, arith, inl, inr}
use Rattle.std.proofs.lemmas.Option.{slice_get_cases}
use Rattle.cr_syntax.specs.declared.word.Word.{Word}
use Rattle.cr_syntax.specs.declared.word.Word.TheVariants as word
use Rattle.cr_syntax.specs.declared.part.Context.{Context}
use Rattle.cr_syntax.specs.Words.{Lexeme, spelling_at}
use Rattle.cr_syntax.specs.Scopes.{Scopes, is_type}
use Rattle.cr_syntax.specs.Trees.{Trees}
use Rattle.cr_syntax.specs.Context.{fresh}
use Rattle.cr_syntax.specs.Spells.{Limit, Spells, rest}
use Rattle.cr_syntax.specs.Reads.{is_word, same_word}
use Rattle.cr_syntax.specs.Units.{unit_side, file_scope, IsUnit}
use Rattle.cr_syntax_machine.specs.Machine.{Goal, Prog, Test, Labels, Reply, Done, Runs, passes, has_word, unit, externals, run_give, run_stop, run_refuse, run_take, run_deep, run_pass, run_bar, run_free, run_seen, run_unseen, run_yes, run_no, run_here, run_look, run_set, run_bring, run_call, run_fail}
use Rattle.cr_syntax_machine.specs.Machine as m
use Rattle.cr_syntax_machine.specs.MachineBody.{body, is_any}
use Rattle.cr_syntax_machine_laws.specs.MachineLaws.{end_of}
use Rattle.cr_syntax.proofs.Tests.{both}
use Rattle.cr_syntax_machine_laws.proofs.MachineRuns.{OnDone}
use Rattle.cr_syntax_machine_laws.proofs.MachineSound.{runs_sound}

-- The end of a text.

either : {A : Type 0} (b b' : Bool) → (b ≡ true → A) → (b' ≡ true → A) → b || b' ≡ true → A
either true b' x y q = x refl
either false b' x y q = y q

module _ (ts : List Lexeme) (i : ℕ) where
  -- a token that passes a test is there, and where none does the text ends
  word_within : (f : Word → Bool) → has_word ts i f ≡ true → i < length ts
  word_within f q = elim (slice_get_cases ts i).1 [
    | inl w ↦ w.1
    | inr w ↦ absurd (let n : has_word ts i f ≡ false = ap (λ o. elim (elim o as (λ _. Option Word) [ None ↦ None | Some t ↦ Some t.word ]) as (λ _. Bool) [ None ↦ false | Some v ↦ f v ]) w.1 in cc)
  ]

  none_within : has_word ts i is_any ≡ false → length ts ≤ i
  none_within q = elim (slice_get_cases ts i).1 [
    | inl w ↦ absurd (let n : has_word ts i is_any ≡ true = ap (λ o. elim (elim o as (λ _. Option Word) [ None ↦ None | Some t ↦ Some t.word ]) as (λ _. Bool) [ None ↦ false | Some v ↦ is_any v ]) w.2 in cc)
    | inr w ↦ w.0
  ]

  identifier_within : (b : Bool) → is_word ts i word.Identifier && b ≡ true → i < length ts
  identifier_within b q = word_within (λ v. same_word v word.Identifier) (both (is_word ts i word.Identifier) b q).0

  passes_within : (c : Scopes) (x : Test) → passes ts c i x ≡ true → i < length ts
  passes_within c (m.the w) q = word_within (λ v. same_word v w) q
  passes_within c (m.has f) q = word_within f q
  passes_within c m.ordinary q = identifier_within (not (is_type c (spelling_at ts i))) q
  passes_within c (m.type_identifier typed) q = identifier_within (is_type c (spelling_at ts i)) (both (is_word ts i word.Identifier && is_type c (spelling_at ts i)) (not typed) q).0
  passes_within c (m.declared typed) q = identifier_within (typed || not (is_type c (spelling_at ts i))) q
  passes_within c (m.or x y) q = either (passes ts c i x) (passes ts c i y) (passes_within c x) (passes_within c y) q

-- a run that begins in a text ends in it
pub runs_within : {body : Goal → Prog} {ts : List Lexeme} {limit : Limit} {p : Prog} {c : Scopes} {i : ℕ} {r : Reply} → Runs body ts limit p c i r → i ≤ length ts → end_of r ≤ length ts
runs_within run_give le = le
runs_within run_stop le = le
runs_within run_refuse le = le
runs_within {ts = ts} {c = c} {i = i} (run_take {x = y} x a h) le = let n = passes_within ts i c y x in runs_within h (omega arith)
runs_within (run_deep x a) le = le
runs_within (run_pass x h) le = runs_within h le
runs_within (run_bar x) le = le
runs_within (run_free x h) le = runs_within h le
runs_within (run_seen x h) le = runs_within h le
runs_within (run_unseen x h) le = runs_within h le
runs_within (run_yes x h) le = runs_within h le
runs_within (run_no x h) le = runs_within h le
runs_within (run_here h) le = runs_within h le
runs_within (run_look h) le = runs_within h le
runs_within (run_set h) le = runs_within h le
runs_within (run_bring h) le = runs_within h le
runs_within (run_call h k) le = runs_within k (runs_within h le)
runs_within (run_fail h) le = runs_within h le

-- Units.

-- programs that answer at the text's end alone
data ToEnd : Prog → Type 0 where
  to_seen : {p : Prog} {t : Trees} → ToEnd p → ToEnd (m.peek (m.has is_any) p (m.give t))
  to_behind : {g : Goal} {f : Trees → Prog} → ((t : Trees) → ToEnd (f t)) → ToEnd (m.call g f)
  to_last : {l : Labels} {d : ℕ} {x : Trees} → ToEnd (m.call (externals l d x) m.give)

given_end : {ts : List Lexeme} {limit : Limit} {t : Trees} {c : Scopes} {i : ℕ} {r : Reply} → Runs body ts limit (m.give t) c i r → length ts ≤ i → OnDone r (λ u e j. length ts ≤ j)
given_end run_give le = le

ends_all : {ts : List Lexeme} {limit : Limit} {p : Prog} {c : Scopes} {i : ℕ} {r : Reply} → Runs body ts limit p c i r → ToEnd p → OnDone r (λ t e j. length ts ≤ j)
ends_all (run_seen q h) (to_seen z) = ends_all h z
ends_all {ts = ts} {i = i} (run_unseen q h) (to_seen z) = given_end h (none_within ts i q)
ends_all (run_call h k) (to_behind z) = ends_all k (z _)
ends_all (run_call h k) to_last = given_end k (ends_all h (to_seen (to_behind (λ t. to_last))))
ends_all (run_fail h) z = tt
ends_all _ z = elim z [ ]

-- a unit ends where the text does
pub unit_ends : {ts : List Lexeme} {limit : Limit} (l : Labels) (d : ℕ) {c e : Scopes} {i j : ℕ} {t : Trees} → Runs body ts limit (body (unit l d)) c i (Done t e j) → i ≤ length ts → j ≡ length ts
unit_ends l d h le = let n = runs_within h le in let n' = ends_all h (to_behind (λ x. to_last)) in omega arith

-- what is read as a unit spells one
pub unit_is_spelled : {ts : List Lexeme} {limit : Limit} (l : Labels) (e : Scopes) (j : ℕ) (t : Trees) (h : Context) → Runs body ts limit (body (unit l 0)) file_scope 0 (Done t e j) →
    Spells ts limit (rest unit_side) h file_scope e 0 t 0 j
unit_is_spelled l e j t h r = runs_sound (unit l 0) file_scope e 0 j t r h

-- and all tokens belong to it
pub unit_is_unit : {ts : List Lexeme} {limit : Limit} (l : Labels) (e : Scopes) (j : ℕ) (t : Trees) → Runs body ts limit (body (unit l 0)) file_scope 0 (Done t e j) → IsUnit limit ts t
unit_is_unit {ts = ts} {limit = limit} l e j t r = record {
  after = e;
  spells = subst (λ k. Spells ts limit (rest unit_side) fresh file_scope e 0 t 0 k) (unit_ends l 0 r (omega arith)) (unit_is_spelled l e j t fresh r);
}
