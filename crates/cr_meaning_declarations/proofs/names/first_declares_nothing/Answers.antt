use Rattle.cr_meaning_declarations.proofs.NamesLemmas.Named.{first_declares_nothing}
use Rattle.cr_meaning_declarations.proofs.names.first_declares_nothing.Goals as goal

pub returns : goal.returns
returns c = first_declares_nothing
