use Rattle.std.proofs.Common.{Err, ap}
use Rattle.cr_main_words.specs.declared.source.Source.TheVariants as source
use Rattle.cr_main_words.proofs.Uses.{same_fault}
use Rattle.cr_main_words.proofs.replay.name_of.Goals as goal

pub returns-in_err-name-clause-usage : goal.returns-in_err-name-clause-usage
returns-in_err-name-clause-usage c = λ is name named.
    c.in_err-name.ensures.usage (ap Err (same_fault c.from_residual.result c.in_err-name.field-0.0 c.from_residual.ensures.1 is)) (source.Named name) named
