-- What a trial comes to by the judge's answer, and by a verdict.
use Rattle.std.specs.Prelude.{Option, Some, None}
use Rattle.cr_core.specs.declared.marks.HitKind.TheVariants as kind
use Rattle.cr_outside.specs.declared.judge.Answer.{Answer}
use Rattle.cr_outside.specs.declared.judge.Answer.TheVariants as answer
use Rattle.cr_pool.specs.declared.trial.Trial.{Trial}
use Rattle.cr_pool.specs.declared.trial.Trial.TheVariants as trial
use Rattle.cr_pool.specs.declared.verdict.Verdict.{Verdict}
use Rattle.cr_pool.specs.declared.verdict.Verdict.TheVariants as verdict

abbrev pub trial_of : Answer → Trial
trial_of answer.Yes = trial.Hit kind.Yes
trial_of answer.No = trial.Rejected
trial_of answer.Failed = trial.Hit kind.Failed
trial_of answer.NoMemory = trial.Hit kind.Starved

-- the verdict on a lawful file, by the answer about it
abbrev pub verdict_of : Answer → Option Verdict
verdict_of answer.Yes = Some verdict.Yes
verdict_of answer.No = Some verdict.No
verdict_of _ = None

-- the trial of a smaller file, by the verdict on it
abbrev pub trial_by : Verdict → Trial
trial_by verdict.Yes = trial.Hit kind.Yes
trial_by _ = trial.Rejected
