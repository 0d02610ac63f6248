use Rattle.cr_cursor.proofs.TokenReasons.{never_stopped, no_lawful, the_reason}
use Rattle.cr_cursor.proofs.law.TokenLawLaw.rule.Goals as goal

pub returns-clause-unlawful : goal.returns-clause-unlawful
returns-clause-unlawful g c = no_lawful c.args.file.now c.in-Err.fault c.token_ruling.result c.in-Err.ensures.fault c.token_ruling.ensures

pub returns-clause-reason : goal.returns-clause-reason
returns-clause-reason g c = the_reason c.args.file.now c.in-Err.fault c.token_ruling.result c.in-Err.ensures.fault c.token_ruling.ensures

pub returns-clause-unstopped : goal.returns-clause-unstopped
returns-clause-unstopped g c = never_stopped c.args.file.now c.in-Err.fault c.token_ruling.result c.token_ruling.ensures
