use Rattle.cr_meaning_references.proofs.TypedefsLemmas.Files.{are_seen}
use Rattle.cr_meaning_references.proofs.typedefs.typedefs_are_seen.Goals as goal

pub returns : goal.returns
returns c = are_seen
