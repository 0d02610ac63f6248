use Rattle.cr_syntax.proofs.Statements.{open_last}
use Rattle.cr_syntax.proofs.shape.+open.Goals as goal

pub ends_open-returns-in-None-first : goal.ends_open-returns-in-None-first
ends_open-returns-in-None-first t c = open_last _ _ _ _ _ c.rest_of-rest.ensures c.in-Some.ensures c.in-None-first.ensures c.leaves_open.ensures
