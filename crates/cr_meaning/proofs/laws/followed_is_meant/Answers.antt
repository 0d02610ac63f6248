use Rattle.cr_meaning.proofs.Runs.{followed_is_meant}
use Rattle.cr_meaning.proofs.laws.followed_is_meant.Goals as goal

pub returns : goal.returns
returns c = followed_is_meant
