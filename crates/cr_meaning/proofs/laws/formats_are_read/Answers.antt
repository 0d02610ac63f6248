use Rattle.cr_meaning.proofs.Formats.{formats_are_read}
use Rattle.cr_meaning.proofs.laws.formats_are_read.Goals as goal

pub returns : goal.returns
returns c = formats_are_read
