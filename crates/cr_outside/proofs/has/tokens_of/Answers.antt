use Rattle.cr_outside.proofs.Texts.{no_list}
use Rattle.cr_outside.proofs.has.tokens_of.Goals as goal

pub returns-else-is_want : goal.returns-else-is_want
returns-else-is_want c = no_list c.args.file.now c.in-Err.fault c.in-Err.ensures.fault (λ none. let is = c.is_want.ensures.1 none in cc)
