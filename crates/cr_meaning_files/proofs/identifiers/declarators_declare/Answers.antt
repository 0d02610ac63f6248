use Rattle.cr_meaning_files.proofs.Names.{declare}
use Rattle.cr_meaning_files.proofs.identifiers.declarators_declare.Goals as goal

pub returns : goal.returns
returns c = declare
