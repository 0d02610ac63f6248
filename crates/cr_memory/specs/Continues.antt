-- What stays of the objects while a program goes on.
use Rattle.std.specs.Prelude.{◌≡◌, ◌≢◌, ℕ, ◌<◌, ◌≤◌, Option, is_some, length}
use Rattle.cr_memory.specs.Memory.{Object, Memory, live_object, count_of}
use Rattle.cr_memory.specs.Access.{some_object}

-- an object lives if it lived, and has the kinds, the guards and the number of cells that it had
pub record IsAsBefore (old new : Option Object) : Type 0 where
  pub lives : is_some new ≡ is_some old
  pub shape : (some_object new).shape ≡ (some_object old).shape
  pub count : count_of new ≡ count_of old

-- each object of the old memory is in the new one as before
pub record Continues (old new : Memory) : Type 0 where
  pub entered : length old.objects ≤ length new.objects
  pub objects : (number : ℕ) → number < length old.objects → IsAsBefore (live_object old number) (live_object new number)

-- each of them but one
pub record ContinuesBeside (object : ℕ) (old new : Memory) : Type 0 where
  pub entered : length old.objects ≤ length new.objects
  pub objects : (number : ℕ) → number < length old.objects → number ≢ object → IsAsBefore (live_object old number) (live_object new number)
