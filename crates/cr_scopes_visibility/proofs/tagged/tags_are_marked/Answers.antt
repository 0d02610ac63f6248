use Rattle.cr_scopes_visibility.proofs.TaggedLemmas.Walks.{marked}
use Rattle.cr_scopes_visibility.proofs.tagged.tags_are_marked.Goals as goal

pub returns : goal.returns
returns c = marked
