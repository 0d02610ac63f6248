use Rattle.cr_meaning_objects.proofs.InitialisedLemmas.Parts.{set_tested}
use Rattle.cr_meaning_objects.proofs.initialised.plans_set_parts.Goals as goal

pub returns : goal.returns
returns c = set_tested
