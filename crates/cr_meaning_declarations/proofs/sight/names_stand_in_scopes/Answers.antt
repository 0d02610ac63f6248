use Rattle.cr_meaning_declarations.proofs.SightLemmas.Names.{stands}
use Rattle.cr_meaning_declarations.proofs.sight.names_stand_in_scopes.Goals as goal

pub returns : goal.returns
returns c = stands
