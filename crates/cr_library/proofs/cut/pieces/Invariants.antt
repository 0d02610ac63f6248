use Rattle.std.proofs.Common.{length}
use Rattle.cr_library.specs.Reading.{IsReading}
use Rattle.cr_library.proofs.cut.pieces.Given as goal

abbrev pub invariant-loop-byte : goal.invariant-loop-byte
invariant-loop-byte l = IsReading l.format l.cut.pieces.items l.cut.run.items l.rest

abbrev pub decreases-loop-byte : goal.decreases-loop-byte
decreases-loop-byte l = length l.rest
