use Rattle.cr_scopes_typedef_names.proofs.TypedefsLemmas.Seeing.{all_see}
use Rattle.cr_scopes_typedef_names.proofs.typedefs.typedef_names_see_typedefs.Goals as goal

pub returns : goal.returns
returns c = all_see
