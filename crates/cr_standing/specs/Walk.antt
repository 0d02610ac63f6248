-- The walk of a reduction by standing workers, in the words of the plain one.
use Rattle.std.specs.Prelude.{◌≡◌, ℕ, ◌≤◌, List, Option}
use Rattle.std.specs.Arc.{arc_value}
use Rattle.cr_cursor.specs.Variants.{Offer}
use Rattle.cr_pool.specs.Sizes.{IsMeasured}
use Rattle.cr_reduce.specs.Bench.{Judging}
use Rattle.cr_reduce.specs.Reduction.{Outcome, Proposals, State, Within}
use Rattle.cr_reduce.specs.Search.{Search}
use Rattle.cr_reduce.specs.Walk.{IsSound as IsSoundWalk, state_of}
use Rattle.cr_reduce.specs.declared.walk.Walk.{Walk as PlainWalk}
use Rattle.cr_standing_workers.specs.declared.orders.Shared.{Shared}
use Rattle.cr_standing.specs.declared.walk.Walk.{Walk}
use Rattle.cr_standing_workers.specs.Told.{ReducesIfTold}

-- a shared file is this one, with its size and its index
pub record IsShared {T : Type 0} (p : Proposals) (offer : T → List ℕ → Offer) (file : List ℕ) (shared : Shared T) : Type 0 where
  pub bytes : shared.bytes.items ≡ file
  pub sized : IsMeasured file shared.size
  pub offered : p file (offer shared.prep file)

-- where the walk stands, as the plain one would
abbrev pub plain : {T : Type 0} → Walk T → PlainWalk T
plain w = record { file = w.file; size = (arc_value w.shared).size; prep = (arc_value w.shared).prep; count = w.count; position = w.position; changed = w.changed; accepted = w.accepted; turns = w.turns }

abbrev pub standing_at : {T : Type 0} → (T → List ℕ → Offer) → Walk T → State
standing_at offer w = state_of offer (plain w)

-- The walk's numbers are those of its file, which the threads have too.
pub record IsSound {T : Type 0} (p : Proposals) (offer : T → List ℕ → Offer) (w : Walk T) : Type 0 where
  pub as_plain : IsSoundWalk p offer (plain w)
  pub same : (arc_value w.shared).bytes.items ≡ w.file.items

-- What completes the walk from one state on completes it from the other on, whatever fails in the run.
pub record Leads (s : Search) (from to : State) : Type 0 where
  pub later : from.turns ≤ to.turns
  pub leads : (before after : Judging) (limit : Option ℕ) (out : Outcome) → Within limit to.turns → ReducesIfTold s before after limit to out → ReducesIfTold s before after limit from out
