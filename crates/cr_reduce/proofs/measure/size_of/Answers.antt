use Rattle.std.proofs.Common.{refl}
use Rattle.cr_tokens.specs.Size.{size_of}
use Rattle.cr_reduce.proofs.measure.size_of.Goals as goal

pub unreachable-requires : goal.unreachable-requires
unreachable-requires c = (rw c.in-None.is at c.in_ok-size.ensures) (size_of c.args.file.now c.requires.tokens) (record { tokens = c.requires.tokens; tokenizes = c.requires.tokenizes; is = refl })
