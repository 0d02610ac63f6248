-- The question that was made from bytes is that of the task of these bytes.
use Rattle.std.proofs.Common.{◌≡◌, List, ℕ}
use Rattle.cr_cursor.specs.declared.law.Law.{Ghosts as LawGhosts}
use Rattle.cr_cursor.specs.declared.passes.Passes.{Ghosts as PassesGhosts}
use Rattle.cr_outside.specs.Question.{Says}
use Rattle.cr_main_task.specs.Task.{task_at, task_with}
use Rattle.cr_main_task.specs.declared.asking.Asking.{Ghosts as AskingGhosts}
use Rattle.cr_main_task.specs.declared.task.Task.{Task as Asked}

pub bound_task : {P I L A B : Type 0} (passes : PassesGhosts P I) (law : LawGhosts L) (asking : AskingGhosts A B) (asked : Asked P L A) (bound : B) (says : Says) (bytes : List ℕ)
    → asking.bound_asks bound ≡ asking.asks asked.asking.now → asking.bound_key bound ≡ asking.key asked.asking.now bytes
    → task_with passes law asked (asking.bound_asks bound) (asking.tells (asking.bound_key bound)) says ≡ task_at passes law asking asked says bytes
bound_task passes law asking asked bound says bytes asks key = λ i. task_with passes law asked (asks i) (asking.tells (key i)) says
