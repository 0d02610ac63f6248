use Rattle.pass_text.proofs.BracketLemmas.{one_offering}
use Rattle.pass_text.proofs.laws.one_bracket_offering.Goals as goal

pub returns : goal.returns
returns c = one_offering
