use Rattle.cr_scopes_typedef_names.proofs.ParsedLemmas.Units.{all_types}
use Rattle.cr_scopes_typedef_names.proofs.parsed.typedef_names_are_types.Goals as goal

pub returns : goal.returns
returns c = all_types
