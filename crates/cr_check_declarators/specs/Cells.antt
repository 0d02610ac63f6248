-- How the brackets of a declarator are tied to the arrays of the type that it declares (K7).
use Rattle.std.specs.Prelude.{◌≡◌, ℕ, ◌<◌, ◌*◌, Bool, true, false, ◌||◌, Option, nat_lt}
use Rattle.std.specs.Option.{is_some}
use Rattle.cr_check_types.specs.Types.{Qualified, plain, pointer, array}
use Rattle.cr_check_declarators.specs.declared.declarator.Size.TheVariants as size
use Rattle.cr_check_declarators.specs.declared.declarator.Declarator.{Declarator}
use Rattle.cr_check_declarators.specs.Declarators.{most_cells, name_alone, pointer_of, array_of, function_of, overfull_of, hole, is_hole_type, are_whole}

-- a declarator and its derivations are made together, from the name outwards; no size is wrong, and no function is misplaced
pub data Derives : Declarator → Qualified → Type 0 where
  named : Derives name_alone hole
  starred : (d : Declarator) (t : Qualified) (c v : Bool) (token : Option ℕ) → Derives d t → Derives (pointer_of d token) (pointer c v t)
  sized : (d : Declarator) (t : Qualified) (bracket count : ℕ) → 0 < count → Derives d t → Derives (array_of d bracket (size.Known count)) (array count t)
  unsized : (d : Declarator) (t : Qualified) (bracket : ℕ) → Derives d t → Derives (array_of d bracket size.Open) (array 0 t)
  called : (d : Declarator) (t : Qualified) (node : ℕ) (empty : Bool) → is_hole_type t ≡ true → Derives d t → Derives (function_of d true node empty) t

-- some array that the derivations make of a type of so many cells has too many: a pointer has one cell, and an array those of all its
-- elements
abbrev pub has_large : ℕ → Qualified → Bool
has_large cells (plain of c v) = false
has_large cells (pointer c v t) = has_large 1 t
has_large cells (array n t) = nat_lt most_cells (n * cells) || has_large (n * cells) t

-- a bracket is found exactly where some array has too many cells, if the elements of all are complete
abbrev pub CellsAreCounted : Type 0
CellsAreCounted = (d : Declarator) (t : Qualified) (cells : ℕ) → Derives d t → are_whole true t ≡ true
    → is_some (overfull_of d.overfull d.arrays cells) ≡ has_large cells t
