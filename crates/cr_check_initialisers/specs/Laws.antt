-- What holds of plans.
use Rattle.std.specs.Prelude.{◌≡◌, ℕ, ◌+◌, ◌*◌, ◌<◌, ◌≤◌, List, [], ◌∷◌, Bool, false, sum_by, slice_index_or}
use Rattle.cr_syntax.specs.declared.ctype.CType.TheVariants.{Struct}
use Rattle.cr_check_types.specs.Types.{Qualified, plain, array}
use Rattle.cr_check_types.specs.Layouts.{nothing}
use Rattle.cr_check_initialisers.specs.declared.source.Source.{Source}
use Rattle.cr_check_expressions.specs.Breaks.{IsFirst, IsAmong, first_of}
use Rattle.cr_check_initialisers.specs.Known.{Known, known_of}
use Rattle.cr_check_initialisers.specs.Places.{Place, types_in}
use Rattle.cr_check_initialisers.specs.Plans.{Entry, put, excess, Fills, IsPlan, is_open}
use Rattle.cr_check_initialisers.specs.Faults.{plan_faults}

-- an initialiser has one plan
abbrev pub OnePlan : Type 0
OnePlan = (k : Known) (type : Qualified) (above node : ℕ) (xs ys : List Entry) → IsPlan k type above node xs → IsPlan k type above node ys → xs ≡ ys

-- by some rank, the parts of each type are simpler than it is
abbrev pub AreSimpler : (Qualified → ℕ) → ℕ → List Qualified → Type 0
AreSimpler rank most [] = Unit {0}
AreSimpler rank most (t ∷ ts) = (rank t < most) × AreSimpler rank most ts

abbrev pub AreNested : Known → (Qualified → ℕ) → Type 0
AreNested k rank = (t : Qualified) → AreSimpler rank (rank t) (types_in k t)

-- then each initialiser has one
abbrev pub HasPlan : Type 0
HasPlan = (k : Known) (rank : Qualified → ℕ) → AreNested k rank → (type : Qualified) (above node : ℕ) → (xs : List Entry) × IsPlan k type above node xs

-- places between two cells, each behind the one before
abbrev pub Lie : Known → ℕ → List Place → ℕ → Type 0
Lie k low [] high = low ≤ high
Lie k low (p ∷ ps) high = (low ≤ p.cell) × Lie k (p.cell + k.cells p.type) ps high

-- what is put, likewise
abbrev pub ArePacked : Known → ℕ → List Entry → ℕ → Type 0
ArePacked k low [] high = low ≤ high
ArePacked k low (put p i b ∷ xs) high = (low ≤ p.cell) × ArePacked k (p.cell + k.cells p.type) xs high
ArePacked k low (excess b ∷ xs) high = ArePacked k low xs high

-- the elements of each array lie in its cells, and so do the members of each structure
pub record IsLaidOut (k : Known) : Type 0 where
  pub arrays : (n : ℕ) (t : Qualified) → k.cells (array n t) ≡ n * k.cells t
  pub structures : (node : ℕ) (c v : Bool) → sum_by k.cells (k.members node) ≤ k.cells (plain (Struct node) c v)

-- so it is where each structure's layout has the cells of its members
abbrev pub CellsAreLaidOut : Type 0
CellsAreLaidOut = (s : Source)
    → ((node : ℕ) → sum_by (known_of s).cells ((known_of s).members node) ≤ (slice_index_or s.layouts.now node nothing).cells) → IsLaidOut (known_of s)

-- what a list puts rises, inside the places that it has: no cell is initialised twice, and none outside them
abbrev pub StaysInside : Type 0
StaysInside = (k : Known) (ps : List Place) (b : ℕ) (is : List ℕ) (ys : List Entry) (low high : ℕ)
    → IsLaidOut k → Lie k low ps high → Fills k ps b is [] ys → ArePacked k low ys high

-- so it is of the initialiser of an object of known size, inside the object
abbrev pub PlansStayInside : Type 0
PlansStayInside = (k : Known) (type : Qualified) (above node : ℕ) (xs : List Entry)
    → IsLaidOut k → is_open type ≡ false → IsPlan k type above node xs → ArePacked k 0 xs (k.cells type)

-- of all breaks of a plan the first is its first fault
abbrev pub FirstIsLeast : Type 0
FirstIsLeast = (k : Known) (static : Bool) (equals : ℕ) (xs : List Entry)
    → IsFirst (IsAmong (plan_faults k static equals xs)) (first_of (plan_faults k static equals xs))
