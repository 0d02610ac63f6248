use Rattle.std.proofs.Common.{rules}
use Rattle.cr_exprs.proofs.Appended.{same_again}
use Rattle.cr_exprs.proofs.behind.append.Goals as goal

pub returns-in-Err-clause-old : goal.returns-in-Err-clause-old
returns-in-Err-clause-old c = same_again _ _ _ c.in-Err.ensures.keeps c.drop_to.ensures.keeps (search rules)
