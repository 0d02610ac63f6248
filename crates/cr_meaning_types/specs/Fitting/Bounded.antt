-- Types that are no larger than they may be: no array has too many cells, and each has elements of a complete type (C11 6.7.2.1p3, K6, K7).
use Rattle.std.specs.Prelude.{◌≡◌, ℕ, ◌*◌, ◌≤◌, true, List, [], ◌∷◌, map, slice_index_or}
use Rattle.cr_syntax.specs.declared.node.Node.{Node}
use Rattle.cr_check_types.specs.declared.layout.Layout.{Layout}
use Rattle.cr_check_types.specs.declared.shape.Shape.{Shape}
use Rattle.cr_check_types.specs.Types.{Qualified, plain, pointer, array, type_at}
use Rattle.cr_check_types.specs.Relations.{is_complete_at}
use Rattle.cr_check_declarators.specs.Declarators.{whole_object}
use Rattle.cr_check_expressions.specs.declared.known.Declared.{Declared}
use Rattle.cr_check_expressions.specs.declared.known.Declared.TheVariants.{Object, Function, Unclear}
use Rattle.cr_check_expressions.specs.declared.known.Member.{Member}
use Rattle.cr_check_expressions.specs.Ruled.{facts_at}
use Rattle.cr_check_initialisers.specs.Known.{cells_of}
use Rattle.cr_check_initialisers.specs.Plans.{Entry, put, excess, entries_of}
use Rattle.cr_check_unit.specs.declared.typing.Typing.{Typing}
use Rattle.cr_typed.specs.Typed.{MOST_CELLS}

-- ---- types

-- at a node: the elements of each array in the type are complete there
abbrev pub IsBounded : List Node → List Layout → ℕ → Qualified → Type 0
IsBounded nodes layouts at (plain of c v) = Unit {0}
IsBounded nodes layouts at (pointer c v t) = IsBounded nodes layouts at t
IsBounded nodes layouts at (array n t) = IsBounded nodes layouts at t × ((is_complete_at nodes at t ≡ true) × (n * cells_of layouts t ≤ MOST_CELLS))

-- each item has it
abbrev pub Every : {A : Type 0} → (A → Type 0) → List A → Type 0
Every P [] = Unit {0}
Every P (x ∷ xs) = P x × Every P xs

-- ---- what nodes have

-- an object or a function has it by the row of its type
abbrev pub Declares : (ℕ → Type 0) → Declared → Type 0
Declares Q (Object row register) = Q row
Declares Q (Function row more) = Q row
Declares Q d = Unit {0}

abbrev pub IsDeclaredBounded : List Node → List Layout → List Shape → ℕ → Declared → Type 0
IsDeclaredBounded nodes layouts shapes at d = Declares (λ row. IsBounded nodes layouts at (type_at shapes row)) d

-- what is initialised
abbrev pub IsEntryBounded : List Node → List Layout → ℕ → Entry → Type 0
IsEntryBounded nodes layouts at (put p i b) = IsBounded nodes layouts at p.type
IsEntryBounded nodes layouts at (excess b) = Unit {0}

-- the type of a member is also complete there, unless it is an array of unknown size
abbrev pub IsMemberBounded : List Node → List Layout → List Shape → ℕ → Member → Type 0
IsMemberBounded nodes layouts shapes at m = IsBounded nodes layouts at (type_at shapes m.row) × (whole_object (is_complete_at nodes at) (type_at shapes m.row) ≡ true)

-- all types that a node has
pub record IsBoundedIn (nodes : List Node) (layouts : List Layout) (shapes : List Shape) (at : ℕ) (c : Typing) (p : ℕ) : Type 0 where
  pub fact : IsBounded nodes layouts at (facts_at shapes c.facts p).type
  pub named : IsBounded nodes layouts at (type_at shapes (slice_index_or c.named p 0))
  pub declared : IsDeclaredBounded nodes layouts shapes at (slice_index_or c.declared p Unclear)
  pub parameters : Every (IsBounded nodes layouts at) (map (type_at shapes) (slice_index_or c.parameters p []))
  pub composite : IsBounded nodes layouts at (type_at shapes (slice_index_or c.composites p 0))
  pub composite_parameters : Every (IsBounded nodes layouts at) (map (type_at shapes) (slice_index_or c.composite_parameters p []))
  pub members : Every (IsMemberBounded nodes layouts shapes at) (slice_index_or c.members p [])
  pub lines : Every (IsEntryBounded nodes layouts at) (entries_of shapes (slice_index_or c.lines p []))
