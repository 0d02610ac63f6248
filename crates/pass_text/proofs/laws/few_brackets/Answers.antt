use Rattle.pass_text.proofs.BracketLemmas.{few_offered}
use Rattle.pass_text.proofs.laws.few_brackets.Goals as goal

pub returns : goal.returns
returns c = few_offered
