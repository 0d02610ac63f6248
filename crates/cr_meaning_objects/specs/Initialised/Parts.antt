-- Parts of an object that an initialiser sets, by the cells of their types (C11 6.2.5p20, 6.7.2.1p15, 6.7.9).
use Rattle.std.specs.Prelude.{◌≡◌, ℕ, Bool, true, false, List, [], ◌∷◌, ◌++◌, length, slice_get, Some}
use Rattle.std.specs.List.{flat_map}
use Rattle.cr_syntax.specs.declared.ctype.CType.{CType}
use Rattle.cr_syntax.specs.declared.ctype.CType.TheVariants.{Struct}
use Rattle.cr_check_types.specs.Types.{Qualified, plain, pointer, array}
use Rattle.cr_check_initialisers.specs.Known.{Known}
use Rattle.cr_check_initialisers.specs.Places.{Place, types_in}
use Rattle.cr_check_initialisers.specs.Plans.{Entry, put, is_open, IsPlan}
use Rattle.cr_meaning_soundness.specs.Sorts.{Sort}

-- ---- cells

abbrev pub Every : (Qualified → Type 0) → List Qualified → Type 0
Every P [] = Unit {0}
Every P (type ∷ types) = P type × Every P types

-- arrays and structures (6.2.5p21)
abbrev pub is_aggregate_by : CType → Bool
is_aggregate_by (Struct node) = true
is_aggregate_by other = false

abbrev pub is_aggregate : Qualified → Bool
is_aggregate (plain of c v) = is_aggregate_by of
is_aggregate (pointer c v below) = false
is_aggregate (array n below) = true

-- the sorts of the cells of such types: as many as are counted of them, and of an aggregate those of its parts, one behind another
pub record AreCells (k : Known) (IsWhole : Qualified → Type 0) (cells : Qualified → List Sort) : Type 0 where
  pub counted : (type : Qualified) → IsWhole type → length (cells type) ≡ k.cells type
  pub sized : (type : Qualified) → IsWhole type → is_open type ≡ false
  pub parts : (type : Qualified) → IsWhole type → Every IsWhole (types_in k type)
  pub made : (type : Qualified) → IsWhole type → is_aggregate type ≡ true → cells type ≡ flat_map cells (types_in k type)

-- ---- parts

-- these cells are those of an object from one of its cells on
pub record IsPart (cells whole : List Sort) (at : ℕ) : Type 0 where
  pub before : List Sort
  pub after : List Sort
  pub is : whole ≡ before ++ (cells ++ after)
  pub starts : length before ≡ at

pub record IsPlaced (IsWhole : Qualified → Type 0) (cells : Qualified → List Sort) (object : List Sort) (place : Place) : Type 0 where
  pub whole : IsWhole place.type
  pub part : IsPart (cells place.type) object place.cell

-- each initialiser of an object sets a part of it that has the cells of its type, where these are known of the types that pass a test
abbrev pub PlansSetParts : Type 0
PlansSetParts = (k : Known) (is_whole : Qualified → Bool) (cells : Qualified → List Sort) → AreCells k (λ type. is_whole type ≡ true) cells
    → (type : Qualified) (above node : ℕ) (xs : List Entry) → is_whole type ≡ true → IsPlan k type above node xs
    → (m : ℕ) (place : Place) (i user : ℕ) → slice_get xs m ≡ Some (put place i user) → IsPlaced (λ type. is_whole type ≡ true) cells (cells type) place
