use Rattle.cr_scopes_visibility.proofs.TaggedLemmas.Walks.{stand}
use Rattle.cr_scopes_visibility.proofs.tagged.tags_stand_for_tags.Goals as goal

pub returns : goal.returns
returns c = stand
