use Rattle.cr_meaning_frames.proofs.Framing.{evaluations_rest_on_their_reads}
use Rattle.cr_meaning_frames.proofs.laws.evaluations_rest_on_their_reads.Goals as goal

pub returns : goal.returns
returns c = evaluations_rest_on_their_reads
