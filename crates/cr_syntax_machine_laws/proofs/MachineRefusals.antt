-- The rows of the refused forms and the subset's machine on a unit: where it is refused no row names a token before, and one
-- that names the refused token is the machine's; where it reads a unit, no row names a token of it.
use Rattle.std.proofs.Common.{◌≡◌, ℕ, ◌+◌, ◌<◌, ◌≤◌, true, false, List, [], length, Option, Some, ⊎_elim, refl, sym, ap, subst, ◌∙◌, arith}
use Rattle.std.specs.Prelude.{slice_get}
use Rattle.std.proofs.lemmas.Bool.{both_ways}
use Rattle.cr_syntax.specs.declared.word.Word.{Word}
use Rattle.cr_syntax.specs.declared.word.Word.TheVariants as word
use Rattle.cr_syntax.specs.Words.{Lexeme}
use Rattle.cr_syntax.specs.Scopes.{Scopes}
use Rattle.cr_syntax.specs.Trees.{Trees}
use Rattle.cr_syntax.specs.Spells.{AtMost, Upto, Is}
use Rattle.cr_syntax.specs.Units.{file_scope, most_levels, Completes, Has, variadic_definition, elsewhere, wrong_at, Outside, unused_keyword, designator, compound_literal, called_expression, bit_field, deep_label, label_as_body, switch_body, variadic_function, stray_label}
use Rattle.cr_syntax_machine.specs.Machine.{unit, anywhere, nowhere, Done, Runs, has_word, has}
use Rattle.cr_syntax_machine.specs.MachineBody.{body, is_label}
use Rattle.cr_syntax_machine_laws.proofs.MachineRuns.{same, passes_same}
use Rattle.cr_syntax_machine_laws.proofs.MachineFirst.{sorted}
use Rattle.cr_syntax_machine_laws.proofs.MachineEnds.{Way, barring, naming, crowded, refused_so}
use Rattle.cr_syntax_machine_laws.proofs.MachineWays.{Point, at, same_way}
use Rattle.cr_syntax_machine_laws.proofs.MachineForms.{within, allows_before, IsBarring, by_row, statement_is_no_label}
use Rattle.cr_syntax_machine_laws.proofs.MachineLoose.{IsOwn, own_label, own_earlier, Departs}
use Rattle.cr_syntax_machine_laws.proofs.MachineReading.{ends_inside}
use Rattle.cr_syntax_machine_laws.proofs.MachineUnitForms.{ReadsUnits, same_token, IsBarred, UnitEnds, designator_is_barred, literal_is_barred, call_is_barred, field_is_barred, body_label_is_barred, body_is_barred, by_that_row, by_its_own, bars_too, bars_none}
use Rattle.cr_syntax_machine_laws.proofs.MachineTraces.{end_there}
use Rattle.cr_syntax_machine_laws.proofs.MachineLabels.{LabelRow, of_switch, of_name, wrong, far, labels_caught}
use Rattle.cr_syntax_machine_laws.proofs.MachineUnitViable.{Sighted, of_definition, of_stray, earlier_sighted}
use Rattle.cr_syntax_machine_laws.proofs.MachineDefinitions.{Fits, before, at_brace, definitions_caught}
use Rattle.cr_syntax_machine_laws.proofs.MachineDefinitions as definitions

-- A refusal in a way of its own, on another text with the same tokens.

not_crowded : {ts : List Lexeme} {n : ℕ} {w : Way} → IsOwn ts n w → w ≡ crowded → ⊥
not_crowded (own_label y) q = cc
not_crowded own_earlier q = cc

own_there : (ts us : List Lexeme) {n : ℕ} {w : Way} → slice_get us n ≡ slice_get ts n → IsOwn us n w → IsOwn ts n w
own_there ts us {n = n} q (own_label y) = own_label (sym (passes_same ts us n q [] (has is_label)) ∙ y)
own_there ts us q own_earlier = own_earlier

-- the subset's machine is refused in a way of its own at a token, as said
pub record Caught (ts : List Lexeme) (fits : Way → ℕ → Type 0) : Type 0 where
  pub way : Way
  pub at : ℕ
  pub own : IsOwn ts at way
  pub ends : UnitEnds ts nowhere way at
  pub fits_so : fits way at

-- a label that is wrong there, at the token that shows it or before
pub label_is_caught : ReadsUnits → (z : LabelRow) {ts : List Lexeme} {t : Trees} (k : ℕ) → far z k < length ts → Completes (Upto (far z k) most_levels) ts (far z k + 1) t → wrong_at (wrong z) k elsewhere t ≡ true →
    Caught ts (λ w n. n ≤ far z k)
label_is_caught complete z {ts = ts} {t = t} k lt b q = ⊎_elim (λ x. absurd (both_ways (wrong_at (wrong z) k elsewhere t) x q)) (λ x. caught x)
    (labels_caught z k b.text (Upto (far z k) most_levels) (complete b.text (Upto (far z k) most_levels) t b.is_unit.after b.is_unit.spells))
  where
    alike : (n : ℕ) → n ≤ far z k → slice_get b.text n ≡ slice_get ts n
    alike n le = same_token b n (omega arith) (omega arith)

    caught : Departs b.text (Upto (far z k) most_levels) (body (unit nowhere 0)) file_scope 0 (far z k) → Caught ts (λ w n. n ≤ far z k)
    caught x = record {
      way = x.way;
      at = x.at;
      own = own_there ts b.text (alike x.at x.by) x.own;
      ends = end_there body ts b.text (Upto (far z k) most_levels) (AtMost most_levels) (far z k) alike (allows_before (far z k) most_levels) x.ends (not_crowded x.own) x.by;
      fits_so = x.by;
    }

fits_by : {k m n : ℕ} {w : Way} → k < m → Fits k m w n → n ≤ m
fits_by lt (before lt') = omega arith
fits_by lt at_brace = omega arith

pub definition_is_caught : ReadsUnits → {ts : List Lexeme} {k m : ℕ} {t : Trees} → k < m → Is ts m word.LeftBrace → Completes (Upto m most_levels) ts (m + 1) t → Has (variadic_definition k m) t → Caught ts (Fits k m)
definition_is_caught complete {ts = ts} {k = k} {m = m} {t = t} lt y b h = ⊎_elim (λ x. absurd (x h)) (λ x. caught x)
    (definitions_caught b.text (Upto m most_levels) k m (complete b.text (Upto m most_levels) t b.is_unit.after b.is_unit.spells))
  where
    alike : (n : ℕ) → n ≤ m → slice_get b.text n ≡ slice_get ts n
    alike n le = let le' = within ts m y in same_token b n (omega arith) (omega arith)

    caught : definitions.Caught b.text (Upto m most_levels) k m (body (unit nowhere 0)) file_scope 0 → Caught ts (Fits k m)
    caught x = record {
      way = x.way;
      at = x.at;
      own = own_there ts b.text (alike x.at (fits_by lt x.fits)) x.own;
      ends = end_there body ts b.text (Upto m most_levels) (AtMost most_levels) m alike (allows_before m most_levels) x.ends (not_crowded x.own) (fits_by lt x.fits);
      fits_so = x.fits;
    }

-- What a row that names token k says of the machine: the bare grammar's is refused there by it; or the subset's is refused in
-- a way of its own.
pub data Refusing (ts : List Lexeme) (n k : ℕ) : Type 0 where
  by_bar : IsBarred ts anywhere n k → (has_word ts k is_label ≡ true → n ≡ 6) → Refusing ts n k
  by_label : n ≡ 6 → Caught ts (λ w j. j ≤ k) → Refusing ts n k
  by_definition : {m : ℕ} → n ≡ 8 → Caught ts (Fits k m) → Refusing ts n k
  by_name : n ≡ 9 → Is ts k word.Identifier → Is ts (k + 1) word.Colon → Caught ts (λ w j. j ≤ k + 1) → Refusing ts n k

two_words : {o : Option Word} {A : Type 0} → o ≡ Some word.LeftBrace → o ≡ Some word.Colon → A
two_words q q' = let e : Some word.LeftBrace ≡ Some word.Colon = sym q ∙ q' in cc

no_label : (ts : List Lexeme) (k : ℕ) {w : Word} {A : Type 0} → Is ts k w → is_label w ≡ false → has_word ts k is_label ≡ true → A
no_label ts k q l y = absurd (both_ways (has_word ts k is_label) (sorted is_label false q l) y)

module _ (complete : ReadsUnits) where
  pub refusing : {ts : List Lexeme} {n k : ℕ} → k < length ts → (n ≡ 1 → ⊥) → Outside ts k n → Refusing ts n k
  refusing lt f (unused_keyword q u) = absurd (f refl)
  refusing {ts = ts} {k = k} lt f (designator q b) = by_bar (designator_is_barred complete q b) (⊎_elim (λ x. no_label ts k x refl) (λ x. no_label ts k x refl) q)
  refusing {ts = ts} {k = k} lt f (compound_literal q b) = by_bar (literal_is_barred complete q b) (no_label ts k q refl)
  refusing {ts = ts} {k = k} lt f (called_expression q b) = by_bar (call_is_barred complete q b) (no_label ts k q refl)
  refusing {ts = ts} {k = k} lt f (bit_field q b) = by_bar (field_is_barred complete q b) (no_label ts k q refl)
  refusing {k = k} lt f (deep_label _ b q) = by_label refl (label_is_caught complete of_switch k lt b q)
  refusing lt f (label_as_body s q b) = by_bar (body_label_is_barred complete s q b) (λ y. refl)
  refusing {ts = ts} {k = k} lt f (switch_body {w = w} s q y b) = by_bar (body_is_barred complete s q y b) (no_label ts k q (statement_is_no_label w y).0)
  refusing lt f (variadic_function m lt' y b h) = by_definition refl (definition_is_caught complete lt' y b h)
  refusing {ts = ts} {k = k} lt f (stray_label q q' b y) = by_name refl q q' (label_is_caught complete of_name k (within ts (k + 1) q') b y)

-- what is said of a way and its token
abbrev OnPoint : (Way → ℕ → Type 0) → Point → Type 0
OnPoint g (at w n) = g w n

pub at_end : {ts : List Lexeme} {f : Way → ℕ → Type 0} {w : Way} {j : ℕ} (x : Caught ts f) → UnitEnds ts nowhere w j → (g : Way → ℕ → Type 0) → g x.way x.at → g w j
at_end x z g y = subst (λ p. OnPoint g p) (same_way x.ends z) y

behind_bar : {n k j : ℕ} {w : Way} → IsBarring n k (at w j) → j ≡ k
behind_bar by_row = refl

-- a row that names a token before the one at which the machine is refused is the row by which it is, and that the token
abbrev pub SeesLater : ℕ → ℕ → Way → Type 0
SeesLater n k w = w ≡ naming k n

pub names_none_before : {ts : List Lexeme} {n k j : ℕ} {w : Way} → UnitEnds ts nowhere w j → k < j → Refusing ts n k → SeesLater n k w
names_none_before z lt (by_bar b f) = elim (bars_too b z) [
  | by_that_row q ↦ let e = behind_bar q in absurd (omega arith)
  | by_its_own o le ↦ absurd (omega arith)
]
names_none_before {k = k} {j = j} z lt (by_label e x) = let le : j ≤ k = at_end x z (λ w n. n ≤ k) x.fits_so in absurd (omega arith)
names_none_before {n = n} {k = k} z lt (by_definition {m = m} e x) = by (at_end x z (Fits k m) x.fits_so) lt
  where
    by : {w : Way} {j : ℕ} → Fits k m w j → k < j → SeesLater n k w
    by (before lt') lt = absurd (omega arith)
    by at_brace lt = ap (naming k) (sym e)
names_none_before {ts = ts} {n = n} {k = k} {j = j} {w = w} z lt (by_name e q q' x) = by (at_end x z (λ w j. IsOwn ts j w) x.own) z
  where
    le : j ≤ k + 1
    le = at_end x z (λ w n. n ≤ k + 1) x.fits_so

    there : j ≡ k + 1
    there = let n = le in omega arith

    colon : Is ts j word.Colon
    colon = subst (λ i. Is ts i word.Colon) (sym there) q'

    inside : j ≤ length ts
    inside = ends_inside (refused_so z) (omega arith)

    seen : {m r : ℕ} → Sighted ts most_levels j inside nowhere m r → naming m r ≡ naming k n
    seen (of_definition lt' y c h) = absurd (two_words y colon)
    seen {m = m} (of_stray o i c b y) = let h = there in let v : m ≡ k = omega arith in ap (λ i. naming i 9) v ∙ ap (naming k) (sym e)

    by : {v : Way} → IsOwn ts j v → UnitEnds ts nowhere v j → SeesLater n k v
    by (own_label y) z = no_label ts j colon refl y
    by (own_earlier {n = m} {r = r}) z = seen (earlier_sighted ts most_levels j inside nowhere m r z)

own_is_six : {ts : List Lexeme} {n j : ℕ} {w : Way} → IsOwn ts j w → ((i r : ℕ) → w ≡ naming i r → ⊥) → (has_word ts j is_label ≡ true → n ≡ 6) → IsBarring n j (at w j)
own_is_six {j = j} (own_label {d = d} y) f g = subst (λ n. IsBarring n j (at (barring (has is_label) 6 d) j)) (sym (g y)) by_row
own_is_six (own_earlier {n = i} {r = r}) f g = absurd (f i r refl)

pub names_refused : {ts : List Lexeme} {n j : ℕ} {w : Way} → UnitEnds ts nowhere w j → ((i r : ℕ) → w ≡ naming i r → ⊥) → Refusing ts n j → IsBarring n j (at w j)
names_refused z f (by_bar b g) = elim (bars_too b z) [
  | by_that_row q ↦ q
  | by_its_own o le ↦ own_is_six o f g
]
names_refused {ts = ts} z f (by_label e x) = own_is_six (at_end x z (λ w j. IsOwn ts j w) x.own) f (λ y. e)
names_refused {j = j} z f (by_definition {m = m} e x) = absurd (by (at_end x z (Fits j m) x.fits_so) refl f)
  where
    by : {w : Way} {n : ℕ} → Fits j m w n → n ≡ j → ((i r : ℕ) → w ≡ naming i r → ⊥) → ⊥
    by (before lt) q f = omega arith
    by at_brace q f = f j 8 refl
names_refused {ts = ts} {n = n} {j = j} z f (by_name e q q' x) = by (at_end x z (λ w j. IsOwn ts j w) x.own) f
  where
    by : {w : Way} → IsOwn ts j w → ((i r : ℕ) → w ≡ naming i r → ⊥) → IsBarring n j (at w j)
    by (own_label y) f = no_label ts j q refl y
    by (own_earlier {n = i} {r = r}) f = absurd (f i r refl)

pub names_none : {ts : List Lexeme} {n k j : ℕ} {t : Trees} {e : Scopes} → Runs body ts (AtMost most_levels) (body (unit nowhere 0)) file_scope 0 (Done t e j) → Refusing ts n k → ⊥
names_none h (by_bar b f) = bars_none b h
names_none h (by_label e x) = let q = same h (refused_so x.ends) in cc
names_none h (by_definition e x) = let q = same h (refused_so x.ends) in cc
names_none h (by_name e q q' x) = let q = same h (refused_so x.ends) in cc

-- The same of `Outside`.
module _ (complete : ReadsUnits) {ts : List Lexeme} {n : ℕ} (f : n ≡ 1 → ⊥) where
  pub outside_before_end : {k j : ℕ} {w : Way} → UnitEnds ts nowhere w j → k < j → Outside ts k n → SeesLater n k w
  outside_before_end z lt o = let le = ends_inside (refused_so z) (omega arith) in names_none_before z lt (refusing complete (omega arith) f o)

  pub outside_at_end : {j : ℕ} {w : Way} → j < length ts → UnitEnds ts nowhere w j → ((i r : ℕ) → w ≡ naming i r → ⊥) → Outside ts j n → IsBarring n j (at w j)
  outside_at_end lt z g o = names_refused z g (refusing complete lt f o)

  pub outside_of_unit : {k j : ℕ} {t : Trees} {e : Scopes} → Runs body ts (AtMost most_levels) (body (unit nowhere 0)) file_scope 0 (Done t e j) → k < j → Outside ts k n → ⊥
  outside_of_unit h lt o = let le = ends_inside h (omega arith) in names_none h (refusing complete (omega arith) f o)
