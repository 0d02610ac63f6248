use Rattle.cr_core.proofs.Entries as entries
use Rattle.cr_core.proofs.laws.counts_are_entries.Goals as goal

pub returns : goal.returns
returns c = entries.counts_are_entries
