-- The levels of a type, one above another, as they are copied.
use Rattle.std.specs.Prelude.{◌≡◌, ℕ, suc, List, [], ◌∷◌}
use Rattle.cr_check_types.specs.declared.shape.Shape.{Shape}
use Rattle.cr_check_types.specs.Types.{Qualified, plain, pointer, array, type_of, room_of}
use Rattle.cr_typed_columns.specs.declared.copying.Level.{Level}
use Rattle.cr_typed_columns.specs.declared.copying.Level.TheVariants.{Pointer, Array}
use Rattle.cr_typed_columns.specs.declared.copying.Step.{Step}
use Rattle.cr_typed_columns.specs.declared.copying.Step.TheVariants.{Above, Flat}

-- what a level makes of the type below it
abbrev pub above : Level → Qualified → Qualified
above (Pointer c v) t = pointer c v t
above (Array n) t = array n t

-- levels from the outermost inwards, with a type below them all
abbrev pub wrapped : List Level → Qualified → Qualified
wrapped [] t = t
wrapped (level ∷ levels) t = above level (wrapped levels t)

abbrev pub flat_type : Shape → Qualified
flat_type shape = plain shape.of shape.constant shape.volatile

-- the shape names no row
pub record IsFlat (shape : Shape) : Type 0 where
  pub is : (look : ℕ → Qualified) → type_of look shape ≡ flat_type shape
  pub room : room_of shape ≡ 0

-- the shape is a level above the type of a row
pub record IsAbove (shape : Shape) (level : Level) (row : ℕ) : Type 0 where
  pub is : (look : ℕ → Qualified) → type_of look shape ≡ above level (look row)
  pub room : room_of shape ≡ suc row

abbrev pub IsStep : Shape → Step → Type 0
IsStep shape (Above level row) = IsAbove shape level row
IsStep shape (Flat flat) = (flat ≡ shape) × IsFlat flat
