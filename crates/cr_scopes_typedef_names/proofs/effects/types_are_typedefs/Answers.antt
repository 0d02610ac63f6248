use Rattle.cr_scopes_typedef_names.proofs.EffectsLemmas.Deciding.{all_decide}
use Rattle.cr_scopes_typedef_names.proofs.effects.types_are_typedefs.Goals as goal

pub returns : goal.returns
returns c = all_decide
