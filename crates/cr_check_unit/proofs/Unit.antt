-- The statements of a unit.
use Rattle.std.proofs.Common.{◌≡◌, ℕ, zero, suc, ◌<◌, List, [], ◌∷◌, Bool, Option, None, Some, length, map, slice_get, slice_index_or, if◌then◌else◌, sym, subst}
use Rattle.cr_syntax.specs.declared.node.Node.{Node}
use Rattle.cr_check_types.specs.declared.shape.Shape.{Shape}
use Rattle.cr_check_expressions.specs.declared.least.Break.{Break}
use Rattle.cr_check_expressions.specs.Known.{named_row}
use Rattle.cr_check_expressions.specs.Breaks.{IsFirst, lesser}
use Rattle.cr_check_expressions.proofs.Firsts.{joined}
use Rattle.cr_check_statements.specs.Setting.{result_row}
use Rattle.cr_check_statements.specs.Statements.{IsBroken as IsStatementBroken}
use Rattle.cr_check_labels.specs.Labelled.{Scene}
use Rattle.cr_check_labels.specs.Again.{AreAgain}
use Rattle.cr_check_labels.specs.Gotos.{AreLabels}
use Rattle.cr_check_declarations.specs.declared.tree.Tree.{Tree}
use Rattle.cr_check_unit.specs.declared.typing.Typing.{Typing}
use Rattle.cr_check_unit.specs.declared.statements.Marked.{Marked}
use Rattle.cr_check_unit.specs.Typing.{AreWithin}
use Rattle.cr_check_unit.specs.Breaks.{IsBroken}
use Rattle.cr_check_unit.specs.Statements.{is_definition, result_in, scene_in, IsUnitBroken}

-- ---- rows of results

chosen : (shapes : List Shape) (x : Bool) (row : ℕ) → 0 < length shapes → row < length shapes → (if x then row else 0) < length shapes
chosen shapes Bool.true row room within = within
chosen shapes Bool.false row room within = room

named_within : (shapes : List Shape) (t : Typing) (node : Option ℕ) → AreWithin shapes t → named_row t.named node < length shapes
named_within shapes t None h = h.facts.room
named_within shapes t (Some p) h = (h.each p).named

result_within : (shapes : List Shape) (t : Typing) (nodes : List Node) (k : ℕ) → AreWithin shapes t
    → slice_index_or (map (result_in t.named) nodes) k 0 < length shapes
result_within shapes t [] k h = h.facts.room
result_within shapes t (n ∷ ns) zero h =
    chosen shapes (is_definition n.kind) (named_row t.named (slice_get n.parts 1)) h.facts.room (named_within shapes t (slice_get n.parts 1) h)
result_within shapes t (n ∷ ns) (suc k) h = result_within shapes t ns k h

row_within : (shapes : List Shape) (t : Typing) (nodes : List Node) (function : Option ℕ) → AreWithin shapes t
    → result_row (map (result_in t.named) nodes) function < length shapes
row_within shapes t nodes None h = h.facts.room
row_within shapes t nodes (Some k) h = result_within shapes t nodes k h

pub results_within : (shapes : List Shape) (t : Typing) (nodes : List Node) (results : List ℕ) → results ≡ map (result_in t.named) nodes
    → AreWithin shapes t → (function : Option ℕ) → result_row results function < length shapes
results_within shapes t nodes results is h function =
    subst (λ rows. result_row rows function < length shapes) (sym is) (row_within shapes t nodes function h)

-- ---- marks

pub again_in : (one other : Scene) (again : List Bool) → one ≡ other → AreAgain one again → AreAgain other again
again_in one other again is h = subst (λ s. AreAgain s again) is h

pub labels_in : (one other : Scene) (labels : List (Option ℕ)) → one ≡ other → AreLabels one labels → AreLabels other labels
labels_in one other labels is h = subst (λ s. AreLabels s labels) is h

-- ---- breaks

pub unit_first : (u : Tree) (texts : List (List ℕ)) (shapes : List Shape) (t : Typing) (m : Marked) (x y : Option Break)
    → IsFirst (IsBroken u texts shapes t) x → IsFirst (IsStatementBroken (scene_in shapes u t m)) y
    → IsFirst (IsUnitBroken u texts shapes t m) (lesser x y)
unit_first u texts shapes t m x y h k = joined (IsBroken u texts shapes t) (IsStatementBroken (scene_in shapes u t m)) x y h k
