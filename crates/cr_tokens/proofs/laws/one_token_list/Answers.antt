use Rattle.cr_tokens.proofs.Wholes.{one_list}
use Rattle.cr_tokens.proofs.laws.one_token_list.Goals as goal

pub returns : goal.returns
returns c = one_list
