-- Which nodes a run evaluates.
use Rattle.std.specs.Prelude.{◌≡◌, ◌⊎◌, ◌↔◌, ℕ, Bool, true, false, Option, Some, List, [], ◌∷◌, slice_index_or}
use Rattle.cr_meaning.specs.Events.{Event}
use Rattle.cr_meaning.specs.Language.{Reply}
use Rattle.cr_meaning.specs.World.{Program, World, Answer, Halt}
use Rattle.cr_meaning.specs.Meaning.{start_of, run_of}
use Rattle.cr_meaning.specs.declared.run.Run.{Run}
use Rattle.cr_meaning_seen.specs.Seen.{Forest, Occurs, Sees}
use Rattle.cr_meaning_seen.specs.Marks.{Mark, began, left}
use Rattle.cr_meaning_orders.specs.AnyOrder.{whole_of}
use Rattle.cr_reached.specs.declared.watch.ReachWatch.{ReachWatch}

-- somewhere in what is seen of a run this node is evaluated; `exit` or `abort` may have cut it off
abbrev pub IsEvaluated : Forest → ℕ → Type 0
IsEvaluated forest node = (inner : Forest) × (end : Option (List Event)) × Occurs node inner end forest

-- among some marks is the node's begin
abbrev pub HasBegun : ℕ → List Mark → Type 0
HasBegun node [] = ⊥
HasBegun node (began number ∷ marks) = (node ≡ number) ⊎ HasBegun node marks
HasBegun node (left number events ∷ marks) = HasBegun node marks

-- of a column with a mark for each node those are set of which this holds
abbrev pub AreMarked : List Bool → (ℕ → Type 0) → Type 0
AreMarked column Holds = (node : ℕ) → (slice_index_or column node false ≡ true) ↔ Holds node

-- what the watch knows of the marks so far
abbrev pub KnowsBegun : ReachWatch → Program → List Mark → Type 0
KnowsBegun watch p marks = AreMarked watch.began.items (λ node. HasBegun node marks)

-- the program's run from left to right comes to this, and of what is seen of it these nodes are evaluated
pub record IsRunMarked (p : Program) (outcome : Run) (column : List Bool) : Type 0 where
  pub reply : Reply Answer World Halt
  pub forest : Forest
  pub seen : Sees p (whole_of p) (start_of p.limits) reply forest
  pub comes : run_of p.limits reply ≡ Some outcome
  pub marked : AreMarked column (IsEvaluated forest)
