-- Initialiser lists within one another (C11 6.7.9). A declarator's initialisers, those of all its lists, are the operands of one evaluation. Each of its
-- lists ends behind the last one that stands in it, so an inner list ends before the one around it.
use Rattle.std.specs.Prelude.{◌≡◌, ◌≢◌, ℕ, suc, zero, ◌+◌, ◌<◌, ◌==◌, nat_lt, Bool, true, false, not, ◌&&◌, ◌||◌, ◌⊎◌, Option, Some, None, List, [], ◌∷◌, length, slice_get, slice_index_or, if◌then◌else◌}
use Rattle.std.specs.List.{list_any}
use Rattle.cr_meaning.specs.Events.{Event}
use Rattle.cr_meaning.specs.World.{Program}
use Rattle.cr_meaning.specs.declared.op.Op.{Op}
use Rattle.cr_meaning_seen.specs.Seen.{Forest, bare, node, onto}
use Rattle.cr_meaning_orders.specs.AnyOrder.{is_free}
use Rattle.cr_meaning_orders.specs.Fixed.{IsFixedNode}

-- ---- operands without an order

-- how many they are; where there aren't two there is nothing to order
abbrev pub operands_if : Bool → ℕ → ℕ
operands_if true count = if nat_lt count 2 then 0 else count
operands_if false count = 0

abbrev pub operands_by : Option Op → ℕ
operands_by None = 0
operands_by (Some op) = operands_if (is_free op.work) (length op.parts)

abbrev pub operands_at : Program → ℕ → ℕ
operands_at p number = operands_by (slice_get p.ops number)

-- the operand that comes behind so many
abbrev pub operand_in : Option Op → ℕ → Option ℕ
operand_in None count = None
operand_in (Some op) count = slice_get op.parts count

abbrev pub operand_behind : Program → ℕ → ℕ → Option ℕ
operand_behind p owner count = operand_in (slice_get p.ops owner) count

-- ---- lists

-- the lists around an initialiser, the innermost first; none around another node
abbrev pub Lists : Type 0
Lists = ℕ → List ℕ

-- by the list in which each node directly stands, where it stands in one
abbrev pub around_by : List (Option ℕ) → ℕ → ℕ → List ℕ
around_by outer zero number = []
around_by outer (suc more) number = elim (slice_index_or outer number None) as (λ _. List ℕ) [ None ↦ [] | Some list ↦ list ∷ around_by outer more list ]

abbrev pub around : List (Option ℕ) → Lists
around outer number = around_by outer (length outer) number

abbrev pub stands_in : Lists → ℕ → ℕ → Bool
stands_in lists list number = list_any (λ l. l == list) (lists number)

abbrev pub does_stand : Lists → ℕ → Option ℕ → Bool
does_stand lists list None = false
does_stand lists list (Some number) = stands_in lists list number

abbrev pub is_some_list : List ℕ → Bool
is_some_list [] = false
is_some_list (list ∷ lists) = true

-- whether the node is an initialiser of a list
abbrev pub is_listed : Lists → ℕ → Bool
is_listed lists number = is_some_list (lists number)

-- whether another initialiser of the list comes behind so many of its declarator's
abbrev pub goes_on : Program → Lists → ℕ → ℕ → ℕ → Bool
goes_on p lists owner count list = does_stand lists list (operand_behind p owner count)

-- ---- the initialisers of a list

-- how many evaluations stand side by side
abbrev pub count_of : Forest → ℕ
count_of bare = zero
count_of (node number inner end next) = suc (count_of next)

abbrev pub do_all : (ℕ → Bool) → Forest → Bool
do_all test bare = true
do_all test (node number inner end next) = test number && do_all test next

-- the last evaluations side by side, as far back as the test holds of each: those of one list, whose initialisers stand side by side
abbrev pub from_by : Bool → Forest → Forest → Forest
from_by true all later = all
from_by false all later = later

abbrev pub last_of : (ℕ → Bool) → Forest → Forest
last_of test bare = bare
last_of test (node number inner end next) = from_by (do_all test (node number inner end next)) (node number inner end next) (last_of test next)

abbrev pub last_in : Lists → ℕ → Forest → Forest
last_in lists list done = last_of (stands_in lists list) done

abbrev pub one_if : Bool → ℕ
one_if true = 1
one_if false = 0

-- of those initialisers of a list that have begun, which are the last of these, none sees what another does, and none was cut off beside another one
abbrev pub IsListFixed : Program → Lists → ℕ → Bool → Forest → Type 0
IsListFixed p lists list more done = IsFixedNode p (count_of (last_in lists list done) + one_if more) (last_in lists list done)

-- ---- which lists end, or are cut off, with an initialiser

abbrev pub is_cut : Option (List Event) → Bool
is_cut None = true
is_cut (Some events) = false

-- So many of the owner's operands were evaluated before this one, which has ended or was cut off: then the list goes on, or is fixed
abbrev pub IsListFine : Program → Lists → ℕ → Forest → Forest → Bool → ℕ → Type 0
IsListFine p lists owner done this cut list = count_of done < operands_at p owner → (cut || not (goes_on p lists owner (suc (count_of done)) list)) ≡ true
    → IsListFixed p lists list (goes_on p lists owner (suc (count_of done)) list) (onto done this)

-- all of some lists are such
abbrev pub AreFine : (ℕ → Type 0) → List ℕ → Type 0
AreFine fine [] = Unit {0}
AreFine fine (list ∷ lists) = fine list × AreFine fine lists

-- this is the first that isn't
abbrev pub IsFirstNot : (ℕ → Type 0) → ℕ → List ℕ → Type 0
IsFirstNot fine loose [] = ⊥
IsFirstNot fine loose (list ∷ lists) = ((fine list → ⊥) × (loose ≡ list)) ⊎ (fine list × IsFirstNot fine loose lists)

-- the lists of an owner's operands that have come behind others so far
abbrev pub AreListsFine : Program → Lists → ℕ → Forest → Forest → Type 0
AreListsFine p lists owner done bare = Unit {0}
AreListsFine p lists owner done (node number inner end next) =
    AreFine (IsListFine p lists owner done (node number inner end bare) (is_cut end)) (lists number) × AreListsFine p lists owner (onto done (node number inner end bare)) next
