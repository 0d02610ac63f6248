use Rattle.cr_meaning_objects.proofs.ComposedLemmas.Named.{firsts}
use Rattle.cr_meaning_objects.proofs.composed.firsts_declare_their_objects.Goals as goal

pub returns : goal.returns
returns c = firsts
