-- What is known of the nodes that have begun and not ended.
use Rattle.std.specs.Prelude.{◌≡◌, ℕ, suc, ◌<◌, ◌≤◌, nat_lt, min, ◌⊎◌, Bool, true, false, ◌||◌, Option, Some, None, List, [], ◌∷◌, ◌++◌, slice_get}
use Rattle.cr_footprint.specs.Cell.{Cell}
use Rattle.cr_footprint.specs.Foot.{sets}
use Rattle.cr_footprint.specs.declared.foot.Foot.{Foot}
use Rattle.cr_meaning.specs.World.{Program}
use Rattle.cr_meaning.specs.Events.{Event}
use Rattle.cr_meaning_seen.specs.Seen.{Forest, bare, node, onto}
use Rattle.cr_meaning_orders.specs.Fixed.{IsFixedNode}
use Rattle.cr_meaning_loose.specs.Sums.{is_loud, is_read, is_written}
use Rattle.cr_meaning_loose.specs.Lists.{Lists, operands_at, stands_in, is_listed, count_of, last_of, IsListFine, AreFine, IsFirstNot}
use Rattle.cr_meaning_loose.specs.Levels.{Level, AreAllFixed, IsFailed}
use Rattle.cr_order_watch.specs.declared.opened.Open.{Open}
use Rattle.cr_order_watch.specs.declared.opened.Piece.{Piece}

-- whether what begins now is evaluated within one of them
abbrev pub is_asked : Program → List Level → Bool
is_asked p [] = false
is_asked p (top ∷ below) = is_asked p below || nat_lt (count_of top.done) (operands_at p top.number)

-- ---- what is kept

-- what evaluations come to in all
pub record IsSum (p : Program) (loud : Bool) (foot : Foot) (forest : Forest) : Type 0 where
  pub loud_so : loud ≡ is_loud p forest
  pub reads : (cell : Cell) → (sets foot).reads cell ≡ is_read cell forest
  pub writes : (cell : Cell) → (sets foot).writes cell ≡ is_written cell forest

-- a node that is open. Its evaluations are summed where it is asked for, or as far as they are operands; and not, once two of these have met
pub record IsOpen (p : Program) (kept : Open) (level : Level) (below : List Level) : Type 0 where
  pub node : kept.node ≡ level.number
  pub operands : kept.operands ≡ operands_at p level.number
  pub ended : kept.ended ≡ min (count_of level.done) kept.operands
  pub asked : kept.asked ≡ is_asked p below
  pub fixed : kept.fixed ≡ true → IsFixedNode p kept.operands level.done
  pub loose : kept.fixed ≡ false → IsFixedNode p kept.operands level.done → ⊥
  pub sums : kept.fixed ≡ true → (kept.asked ≡ true) ⊎ (count_of level.done ≤ kept.operands) → IsSum p kept.loud kept.foot level.done

-- these are what some evaluations come to, each by itself
abbrev pub ArePieces : Program → List Piece → Forest → Type 0
ArePieces p [] bare = Unit {0}
ArePieces p [] (node number inner end next) = ⊥
ArePieces p (piece ∷ pieces) bare = ⊥
ArePieces p (piece ∷ pieces) (node number inner None next) = ⊥
ArePieces p (piece ∷ pieces) (node number inner (Some events) next) = ((piece.node ≡ number) × IsSum p piece.loud piece.foot (node number inner (Some events) bare)) × ArePieces p pieces next

-- of the operands of a node that is open the last are kept, as far back as they are initialisers of lists
abbrev pub HasPieces : Program → Lists → Open → Level → Type 0
HasPieces p lists kept level = count_of level.done ≤ kept.operands → ArePieces p kept.pieces (last_of (is_listed lists) level.done)

-- all of them but the whole program's
pub data AreOpen (p : Program) (lists : Lists) : List Open → List Level → Type 0 where
  whole : {level : Level} {none : List Open} → none ≡ [] → operands_at p level.number ≡ 0 → AreOpen p lists none (level ∷ [])
  within : {below all : List Open} {kept : Open} {level : Level} {levels : List Level} → AreOpen p lists below levels → IsOpen p kept level levels → HasPieces p lists kept level
      → all ≡ below ++ kept ∷ [] → AreOpen p lists all (level ∷ levels)

-- either all is fixed that has ended, and what is open is kept; or the first loose node is known
abbrev pub Knows : Program → Lists → Option ℕ → List Open → List Level → Type 0
Knows p lists None kept levels = AreAllFixed p lists levels × AreOpen p lists kept levels
Knows p lists (Some loose) kept levels = IsFailed p lists loose levels

-- ---- lists

-- whether a piece is of an initialiser of the list
abbrev pub stands_at : Lists → ℕ → Option Piece → Bool
stands_at lists list None = false
stands_at lists list (Some piece) = stands_in lists list piece.node

-- a test holds of all pieces from here on
abbrev pub Hold : (ℕ → Bool) → List Piece → ℕ → Type 0
Hold test pieces from = (k : ℕ) (piece : Piece) → from ≤ k → slice_get pieces k ≡ Some piece → test piece.node ≡ true

-- and not of the one before, where there is one
pub data Before (test : ℕ → Bool) (pieces : List Piece) : ℕ → Type 0 where
  at_first : Before test pieces 0
  behind_one : {from : ℕ} (piece : Piece) → slice_get pieces from ≡ Some piece → test piece.node ≡ false → Before test pieces (suc from)

-- an answer on a fact
abbrev pub IsDecided : Bool → Type 0 → Type 0
IsDecided true fact = fact
IsDecided false fact = fact → ⊥

-- of some lists this is the first that isn't fine, or all are
abbrev pub IsFirstOf : (ℕ → Type 0) → Option ℕ → List ℕ → Type 0
IsFirstOf fine None lists = AreFine fine lists
IsFirstOf fine (Some list) lists = IsFirstNot fine list lists

-- a node that is open, of which this operand has ended last
pub record IsOwner (p : Program) (lists : Lists) (owner : Open) (level : Level) (levels : List Level) (number : ℕ) (inner : Forest) (events : List Event) : Type 0 where
  pub open_so : IsOpen p owner (record { number = level.number; done = onto level.done (node number inner (Some events) bare) }) levels
  pub pieces : HasPieces p lists owner (record { number = level.number; done = onto level.done (node number inner (Some events) bare) })
  pub room : count_of level.done < owner.operands

-- nothing is cut off within the node, or what is comes behind its operands
abbrev pub IsBehind : Open → Option ℕ → Type 0
IsBehind top None = Unit {0}
IsBehind top (Some number) = top.operands ≤ top.ended

-- a node that is cut off, where nothing is within it or this node is, and what of it is loose first
pub data IsCutBy (p : Program) (lists : Lists) (top : Open) (level : Level) : Option ℕ → Option ℕ → Type 0 where
  -- a list around the operand that is cut off
  by_list : {number found : ℕ} → top.ended < top.operands → ((inner : Forest) → IsFirstNot (IsListFine p lists level.number level.done (node number inner None bare) true) found (lists number))
      → IsCutBy p lists top level (Some number) (Some found)
  -- the node, where none of these is
  by_operand : {number found : ℕ} → found ≡ top.node → top.ended < top.operands → ((inner : Forest) → AreFine (IsListFine p lists level.number level.done (node number inner None bare) true) (lists number))
      → IsCutBy p lists top level (Some number) (Some found)
  -- the node, where it is cut off behind its operands, and these see one another
  by_itself : {inside : Option ℕ} {found : ℕ} → found ≡ top.node → top.fixed ≡ false → IsBehind top inside → IsCutBy p lists top level inside (Some found)
  by_none : {inside : Option ℕ} → top.fixed ≡ true → IsBehind top inside → IsCutBy p lists top level inside None
