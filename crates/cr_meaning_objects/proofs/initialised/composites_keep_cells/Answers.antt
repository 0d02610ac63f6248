use Rattle.cr_meaning_objects.proofs.InitialisedLemmas.Composites.{composite_kept}
use Rattle.cr_meaning_objects.proofs.initialised.composites_keep_cells.Goals as goal

pub returns : goal.returns
returns c = composite_kept
