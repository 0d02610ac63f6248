use Rattle.cr_exprs_descent.proofs.Runs.{read_texts}
use Rattle.cr_exprs_descent.proofs.source.texts.Goals as goal

pub returns-clause-read : goal.returns-clause-read
returns-clause-read c = read_texts _ _ _ c.after.ensures.from c.after.ensures.all c.after.ensures.other
