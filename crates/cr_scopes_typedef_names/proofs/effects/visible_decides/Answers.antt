use Rattle.cr_scopes_typedef_names.proofs.EffectsLemmas.Deciding.{first_decides}
use Rattle.cr_scopes_typedef_names.proofs.effects.visible_decides.Goals as goal

pub returns : goal.returns
returns c = first_decides
