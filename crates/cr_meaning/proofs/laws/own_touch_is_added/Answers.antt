use Rattle.cr_meaning.proofs.Merging.{own_touch_is_added}
use Rattle.cr_meaning.proofs.laws.own_touch_is_added.Goals as goal

pub returns : goal.returns
returns c = own_touch_is_added
