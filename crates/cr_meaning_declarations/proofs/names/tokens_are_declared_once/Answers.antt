use Rattle.cr_meaning_declarations.proofs.NamesLemmas.Named.{tokens_are_declared_once}
use Rattle.cr_meaning_declarations.proofs.names.tokens_are_declared_once.Goals as goal

pub returns : goal.returns
returns c = tokens_are_declared_once
