-- What stands beyond a unit's nodes and rows.
use Rattle.std.proofs.Common.{◌≡◌, ℕ, zero, suc, ◌≤◌, None, List, [], ◌∷◌, length, map, slice_get, slice_index_or, refl, ap, ◌∙◌, arith}
use Rattle.std.proofs.lemmas.List.{get_or_past}
use Rattle.cr_syntax.specs.declared.node.Kind.TheVariants as kind
use Rattle.cr_check_types.specs.Types.{type_at}
use Rattle.cr_typed.specs.declared.typed.Typed.{Typed}
use Rattle.cr_typed.specs.Typed.{IsTyped}
use Rattle.cr_meaning_operations.specs.Shapes.{shape_of}
use Rattle.cr_meaning_operations.specs.Operations.{kind_if, kind_at, object_shape, literal_by}
use Rattle.cr_check_types.proofs.Tables.{beyond}

none_past : {X : Type 0} (xs : List X) (k : ℕ) → length xs ≤ k → slice_get xs k ≡ None
none_past [] k h = refl
none_past (x ∷ xs) zero h = absurd (omega (arith, h))
none_past (x ∷ xs) (suc k) h = none_past xs k (omega (arith, h))

kind_past : (t : Typed) (k : ℕ) → length t.nodes ≤ k → kind_at t k ≡ kind.Break
kind_past t k h = ap kind_if (none_past t.nodes k h)

pub no_shape : (t : Typed) (k : ℕ) → IsTyped t → length t.nodes ≤ k → object_shape t k (kind_at t k) ≡ []
no_shape t k typed h =
    let n = typed.named_count in
    let row : slice_index_or t.named k 0 ≡ 0 = get_or_past t.named k 0 (omega (arith, h, n)) in
    ap (λ kind. object_shape t k kind) (kind_past t k h)
    ∙ ap (λ row. shape_of t (type_at t.shapes row)) row
    ∙ ap (shape_of t) typed.no_type

pub no_literal : (t : Typed) (k : ℕ) → length t.nodes ≤ k → literal_by t k (kind_at t k) ≡ None
no_literal t k h = ap (λ kind. literal_by t k kind) (kind_past t k h)

pub no_kinds : (t : Typed) (row : ℕ) → length t.shapes ≤ row → map (λ own. own.0) (shape_of t (type_at t.shapes row)) ≡ []
no_kinds t row h = ap (λ type. map (λ own. own.0) (shape_of t type)) (beyond t.shapes row h)
