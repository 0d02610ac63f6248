-- The places that are left as the walk keeps them, and what a step of it leads to.
use Rattle.std.specs.Prelude.{◌≡◌, ℕ, ◌+◌, List, [], ◌∷◌, ◌++◌, Bool, true, false, Option, None, Some, fold, drop, replicate, slice_index_or}
use Rattle.cr_check_types.specs.Types.{Qualified, type_at}
use Rattle.cr_check_initialisers.specs.declared.source.Source.{Source}
use Rattle.cr_check_initialisers.specs.declared.part.Part.{Part}
use Rattle.cr_check_initialisers.specs.declared.part.Front.{Front}
use Rattle.cr_check_initialisers.specs.declared.part.Frame.{Frame}
use Rattle.cr_check_initialisers.specs.declared.part.Rest.{Rest}
use Rattle.cr_check_initialisers.specs.declared.part.Rest.TheVariants.{Elements, Members}
use Rattle.cr_check_initialisers.specs.Known.{Known, known_of, member_types}
use Rattle.cr_check_initialisers.specs.Places.{Place, laid, types_in}
use Rattle.cr_check_initialisers.specs.declared.lines.Line.{Line}
use Rattle.cr_check_initialisers.specs.Plans.{Entry, Fills, entries_of}

abbrev pub place_of : Source → Part → Place
place_of s part = record { cell = part.cell; type = type_at s.table.now part.row }

-- the types of the parts that are left of one aggregate
unfoldable pub types_left : Source → Rest → List Qualified
types_left s (Elements row count) = replicate count (type_at s.table.now row)
types_left s (Members node next) = member_types s.table.now (drop next (slice_index_or s.members.now node []))

unfoldable pub places_of : Source → Frame → List Place
places_of s frame = laid (known_of s) frame.cell (types_left s frame.rest)

-- the places that are left: those of the last frame, then those of the frames below it
unfoldable pub left : Source → List Frame → List Place
left s frames = fold (λ places frame. places_of s frame ++ places) [] frames

-- the parts of a place, and those behind the first one of a frame that begins at a cell
abbrev pub parts_of : Source → Part → List Place
parts_of s part = laid (known_of s) part.cell (types_in (known_of s) (type_at s.table.now part.row))

abbrev pub behind : Source → ℕ → Front → List Place
behind s cell front = laid (known_of s) (cell + (known_of s).cells (type_at s.table.now front.row)) (types_left s front.rest)

-- a place before those that are left
abbrev pub from_part : Source → Part → List Frame → List Place
from_part s part frames = place_of s part ∷ left s frames

-- a list of types without its first
abbrev pub IsFront : Source → List Qualified → Option Front → Type 0
IsFront s ts None = ts ≡ []
IsFront s ts (Some front) = ts ≡ type_at s.table.now front.row ∷ types_left s front.rest

-- a list of places without its first
abbrev pub IsNext : Source → List Place → Option Part → List Place → Type 0
IsNext s ps None qs = ps ≡ []
IsNext s ps (Some part) qs = ps ≡ place_of s part ∷ qs

-- what fills the one list of places with an initialiser and others, fills the other too
pub record Leads (k : Known) (b i : ℕ) (ps qs : List Place) (xs : List Entry) : Type 0 where
  pub on : (is : List ℕ) (zs : List Entry) → Fills k qs b (i ∷ is) xs zs → Fills k ps b (i ∷ is) xs zs

-- an initialiser is done: the others go on with these places, or they aren't judged
abbrev pub Goes : Known → ℕ → ℕ → List Place → List Place → List Entry → List Entry → Bool → Type 0
Goes k b i ps qs xs ys true = (is : List ℕ) (zs : List Entry) → Fills k qs b is ys zs → Fills k ps b (i ∷ is) xs zs
Goes k b i ps qs xs ys false = (is : List ℕ) → Fills k ps b (i ∷ is) xs ys

-- what fills the places that are left with the initialisers that are left, fills all with all
pub record Completes (k : Known) (b : ℕ) (ps qs : List Place) (all rest : List ℕ) (xs ys : List Entry) : Type 0 where
  pub on : (zs : List Entry) → Fills k qs b rest ys zs → Fills k ps b all xs zs

-- the same by lines: the initialisers of a list are placed; one initialiser is
abbrev pub Placed : Source → List Place → ℕ → List ℕ → List Line → List Line → Type 0
Placed s ps b is old new = Fills (known_of s) ps b is (entries_of s.table.now old) (entries_of s.table.now new)

abbrev pub GoesOn : Source → ℕ → ℕ → List Place → List Place → List Line → List Line → Bool → Type 0
GoesOn s b i ps qs old new = Goes (known_of s) b i ps qs (entries_of s.table.now old) (entries_of s.table.now new)
