use Rattle.cr_scopes_typedef_names.proofs.TellingsLemmas.Scripts.{all_told}
use Rattle.cr_scopes_typedef_names.proofs.tellings.names_are_told_by_nodes.Goals as goal

pub returns : goal.returns
returns c = all_told
