use Rattle.cr_meaning_files.proofs.Names.{linked_or_steady}
use Rattle.cr_meaning_files.proofs.identifiers.objects_are_linked_or_steady.Goals as goal

pub returns : goal.returns
returns c = linked_or_steady
