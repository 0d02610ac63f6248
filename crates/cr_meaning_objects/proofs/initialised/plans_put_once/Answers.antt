use Rattle.cr_meaning_objects.proofs.InitialisedLemmas.Once.{put_once}
use Rattle.cr_meaning_objects.proofs.initialised.plans_put_once.Goals as goal

pub returns : goal.returns
returns c = put_once
