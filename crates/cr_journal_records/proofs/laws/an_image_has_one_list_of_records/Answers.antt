use Rattle.cr_journal_records.proofs.Repairs.{reads_once}
use Rattle.cr_journal_records.proofs.laws.an_image_has_one_list_of_records.Goals as goal

pub returns : goal.returns
returns c = reads_once
