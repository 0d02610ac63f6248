-- The columns before a node, one entry after the other.
use Rattle.std.proofs.Common.{◌≡◌, ℕ, suc, false, ◌<◌, ◌≤◌, ◌∷◌, [], ◌++◌, List, None, length, take, slice_index_or, arith}
use Rattle.std.proofs.Math.Seq.{take-suc}
use Rattle.std.proofs.lemmas.List.{take_all, length-take-le}
use Rattle.cr_check_types.specs.Layouts as layouts
use Rattle.cr_check_expressions.specs.declared.known.Declared.TheVariants.{Unclear}
use Rattle.cr_check_expressions.specs.Ruled.{no_fact}
use Rattle.cr_check_declarators.specs.Specifiers.{nothing}
use Rattle.cr_check_declarators.specs.Declarators.{name_alone}
use Rattle.cr_check_initialisers.specs.declared.anchor.Anchor.TheVariants.{Moving}
use Rattle.cr_check_unit.specs.declared.typing.Typing.{Typing}
use Rattle.cr_check_unit.specs.Typing.{cut, with_entry, entry_at, AreWhole}

next_of : {A : Type 0} → (xs : List A) (d : A) (i count : ℕ) → length xs ≡ count → i < count
    → take (suc i) xs ≡ take i xs ++ slice_index_or xs i d ∷ []
next_of xs d i count w low = take-suc xs i d (omega (arith, w, low))

pub cut_next : (t : Typing) (i count : ℕ) → AreWhole t count → i < count → cut (suc i) t ≡ with_entry (cut i t) (entry_at t i)
cut_next t i count w low = λ s. record {
  facts = next_of t.facts no_fact i count w.facts low s;
  specified = next_of t.specified nothing i count w.specified low s;
  named = next_of t.named 0 i count w.named low s;
  declarators = next_of t.declarators name_alone i count w.declarators low s;
  derivations = next_of t.derivations 0 i count w.derivations low s;
  declared = next_of t.declared Unclear i count w.declared low s;
  parameters = next_of t.parameters [] i count w.parameters low s;
  members = next_of t.members [] i count w.members low s;
  layouts = next_of t.layouts layouts.nothing i count w.layouts low s;
  fixed = next_of t.fixed false i count w.fixed low s;
  enumerated = next_of t.enumerated None i count w.enumerated low s;
  anchors = next_of t.anchors Moving i count w.anchors low s;
  lines = next_of t.lines [] i count w.lines low s;
  linked = next_of t.linked None i count w.linked low s;
  composites = next_of t.composites 0 i count w.composites low s;
  composite_parameters = next_of t.composite_parameters [] i count w.composite_parameters low s;
}

first_of : {A : Type 0} → (xs : List A) (i count : ℕ) → length xs ≡ count → i ≤ count → length (take i xs) ≡ i
first_of xs i count w low = length-take-le i xs (omega (arith, w, low))

pub whole_cut : (t : Typing) (i count : ℕ) → AreWhole t count → i ≤ count → AreWhole (cut i t) i
whole_cut t i count w low = record {
  facts = first_of t.facts i count w.facts low;
  specified = first_of t.specified i count w.specified low;
  named = first_of t.named i count w.named low;
  declarators = first_of t.declarators i count w.declarators low;
  derivations = first_of t.derivations i count w.derivations low;
  declared = first_of t.declared i count w.declared low;
  parameters = first_of t.parameters i count w.parameters low;
  members = first_of t.members i count w.members low;
  layouts = first_of t.layouts i count w.layouts low;
  fixed = first_of t.fixed i count w.fixed low;
  enumerated = first_of t.enumerated i count w.enumerated low;
  anchors = first_of t.anchors i count w.anchors low;
  lines = first_of t.lines i count w.lines low;
  linked = first_of t.linked i count w.linked low;
  composites = first_of t.composites i count w.composites low;
  composite_parameters = first_of t.composite_parameters i count w.composite_parameters low;
}

all_of : {A : Type 0} → (xs : List A) (count : ℕ) → length xs ≡ count → take count xs ≡ xs
all_of xs count w = take_all count xs (omega (arith, w))

pub cut_all : (t : Typing) (count : ℕ) → AreWhole t count → cut count t ≡ t
cut_all t count w = λ s. record {
  facts = all_of t.facts count w.facts s;
  specified = all_of t.specified count w.specified s;
  named = all_of t.named count w.named s;
  declarators = all_of t.declarators count w.declarators s;
  derivations = all_of t.derivations count w.derivations s;
  declared = all_of t.declared count w.declared s;
  parameters = all_of t.parameters count w.parameters s;
  members = all_of t.members count w.members s;
  layouts = all_of t.layouts count w.layouts s;
  fixed = all_of t.fixed count w.fixed s;
  enumerated = all_of t.enumerated count w.enumerated s;
  anchors = all_of t.anchors count w.anchors s;
  lines = all_of t.lines count w.lines s;
  linked = all_of t.linked count w.linked s;
  composites = all_of t.composites count w.composites s;
  composite_parameters = all_of t.composite_parameters count w.composite_parameters s;
}
