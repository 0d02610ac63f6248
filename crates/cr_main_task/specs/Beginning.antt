-- What stands before a reduction: the test has said yes to the bytes, and the copy is saved; whatever reduces them then.
use Rattle.std.specs.Prelude.{◌≡◌, ℕ, List}
use Rattle.cr_outside.specs.declared.judge.Answer.TheVariants.{Yes}
use Rattle.cr_reduce.specs.Bench.{Judging}
use Rattle.cr_reduce.specs.Sizes.{HasSize}
use Rattle.cr_main_task.specs.Messages.{copy_name}
use Rattle.cr_main_task.specs.Outside.{IsSaved, Outside, Refuses, SaveFails}
use Rattle.cr_main_task.specs.Run.{Causes, HasAsked, IsAnswered, opening_of}
use Rattle.cr_main_task.specs.Task.{Task, given}
use Rattle.cr_main_task.specs.declared.messages.Refusal.{Refusal}

pub record HasBegun (t : Task) (bytes : List ℕ) (old new : Outside) (before since : Judging) (size : ℕ) : Type 0 where
  pub answered : IsAnswered t (given bytes) before since bytes Yes
  pub copied : IsSaved t.saves old new (copy_name t.name) bytes
  pub sized : HasSize bytes size

-- why it was not begun: 6, 8, 9, 11
pub data StopsEarly (t : Task) (bytes : List ℕ) (old new : Outside) (before after : Judging) (status : ℕ) : Type 0 where
  refused : (r : Refusal) → Causes t (given bytes) old new before after r → HasAsked t (given bytes) before after → new.files ≡ old.files → (given bytes).Opens (opening_of r) old.story new.story
      → Refuses old new t.name r status
      → StopsEarly t bytes old new before after status
  wanting : HasAsked t (given bytes) before after → new.files ≡ old.files → new.story ≡ old.story → new.output ≡ old.output → status ≡ 11 → StopsEarly t bytes old new before after status
  not_copied : IsAnswered t (given bytes) before after bytes Yes → SaveFails t.saves old new (copy_name t.name) bytes status → StopsEarly t bytes old new before after status
