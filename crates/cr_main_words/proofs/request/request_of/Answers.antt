use Rattle.std.proofs.Common.{Err, ap}
use Rattle.cr_main_words.specs.Words.{texts_of}
use Rattle.cr_main_words.proofs.Asking.{no_replay}
use Rattle.cr_main_words.proofs.Uses.{same_fault}
use Rattle.cr_main_words.proofs.request.request_of.Goals as goal

pub returns-in_err-replay_of-in-Some-clause-usage : goal.returns-in_err-replay_of-in-Some-clause-usage
returns-in_err-replay_of-in-Some-clause-usage c = λ is.
    no_replay (texts_of c.args.list.now) (texts_of c.in-Some.others.now) c.args.most c.in-Some.ensures (λ settings has.
    c.in_err-replay_of-in-Some.ensures.usage
    (ap Err (same_fault c.from_residual.result c.in_err-replay_of-in-Some.field-0.0 c.from_residual.ensures.1 is)) settings has)
