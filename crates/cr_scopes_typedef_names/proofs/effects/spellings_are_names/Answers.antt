use Rattle.cr_scopes_typedef_names.proofs.EffectsLemmas.Spelled.{all_spelled}
use Rattle.cr_scopes_typedef_names.proofs.effects.spellings_are_names.Goals as goal

pub returns : goal.returns
returns c = all_spelled
