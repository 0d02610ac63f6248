use Rattle.cr_meaning.proofs.Runs.{one_meaning}
use Rattle.cr_meaning_operations.specs.Operations.{program_of}
use Rattle.cr_meaning_operations.proofs.laws.one_outcome.Goals as goal

pub returns : goal.returns
returns c = λ t limits one other. one_meaning (program_of t limits) one other
