-- What a row takes, by its shape and the rows before it.
use Rattle.std.proofs.Common.{◌≡◌, ℕ, ◌+◌, ◌*◌, ◌≤◌, Bool, Some, None, List, [], ◌∷◌, length, fold, slice_index_or, refl, sym, ap, ◌∙◌, arith, length-append}
use Rattle.std.proofs.Math.Nat.{mul_assoc, mul_comm}
use Rattle.std.proofs.lemmas.List.{get_or_past}
use Rattle.cr_syntax.specs.declared.ctype.CType.{CType}
use Rattle.cr_syntax.specs.declared.ctype.CType.TheVariants.{Void, Int, Pointer, Array, Struct, Function, Unknown}
use Rattle.cr_check_types.specs.declared.layout.Layout.{Layout}
use Rattle.cr_check_types.specs.declared.shape.Shape.{Shape}
use Rattle.cr_check_types.specs.Types.{Qualified, array, unknown, type_by, type_of, with_row, types_of, type_at}
use Rattle.cr_check_types.specs.Layouts.{fitted, count_of, element_of, single_of, layout_of}
use Rattle.cr_check_types.proofs.Fitted.{cut}
use Rattle.cr_typed_fit.specs.Fits.{structure_within, extent_of, times_over}

-- the cells of an array, by those of one element
pub array_cells : (layouts : List Layout) (n : ℕ) (t : Qualified) → fitted (n * (layout_of layouts t).cells) ≡ (layout_of layouts (array n t)).cells
array_cells layouts n t =
    let c = (single_of layouts (element_of t)).cells in
    ap fitted (mul_comm n (fitted (count_of t * c)))
    ∙ cut (count_of t * c) n
    ∙ ap fitted (mul_comm (count_of t * c) n ∙ sym (mul_assoc n (count_of t) c))

pub array_extent : (layouts : List Layout) (n : ℕ) (t : Qualified) → extent_of layouts (array n t)
    ≡ times_over n (extent_of layouts t)
array_extent layouts n t = λ s. record { cells = sym (array_cells layouts n t) s; structure = structure_within t }

pub array_is : (t : Qualified) (s : Shape) (look : ℕ → Qualified) (row n : ℕ) → t ≡ type_of look s → s.of ≡ Array row n → t ≡ array n (look row)
array_is t s look row n e f = e ∙ ap (λ of. type_by of s.constant s.volatile look) f
