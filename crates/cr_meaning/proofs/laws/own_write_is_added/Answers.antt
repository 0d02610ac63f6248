use Rattle.cr_meaning.proofs.Merging.{own_write_is_added}
use Rattle.cr_meaning.proofs.laws.own_write_is_added.Goals as goal

pub returns : goal.returns
returns c = own_write_is_added
