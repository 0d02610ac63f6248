use Rattle.cr_outside.specs.Story.{changes_of}
use Rattle.cr_outside_disk.proofs.Images.{seen_is_image}
use Rattle.cr_outside_disk.proofs.laws.what_a_read_gives_is_an_image.Goals as goal

pub returns : goal.returns
returns c s = seen_is_image s.journal (changes_of s.events)
