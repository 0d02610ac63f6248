use Rattle.cr_meaning_seen.proofs.Noting.{notes_are_marks}
use Rattle.cr_meaning_seen.proofs.laws.notes_are_marks.Goals as goal

pub returns : goal.returns
returns c = notes_are_marks
