-- What is said where nothing was put.
use Rattle.std.proofs.Common.{◌≡◌, ℕ, List, take, Option, Some, None, refl, sym, ap, append-nil}
use Rattle.cr_outside.specs.Sink.{appended}
use Rattle.cr_main_task.specs.Outside.{Says}
use Rattle.cr_main_task.specs.Outside.Says.{said_starved}

appended_none : (told : Option (List ℕ)) (line : List ℕ) → told ≡ appended (take 0 line) told
appended_none None line = refl
appended_none (Some bytes) line = ap Some (sym (append-nil bytes))

-- 11, and nothing was put
pub says_nothing : (told : Option (List ℕ)) (faults faults_now : ℕ) (line : List ℕ) (whole cut : ℕ) → Says told told faults faults_now line whole cut 11
says_nothing told faults faults_now line whole cut = said_starved 0 (appended_none told line) refl
