use Rattle.std.proofs.Common.{arith}
use Rattle.cr_memory.proofs.spans.Spans.new.Goals as goal

pub invariant_of-result : goal.invariant_of-result
invariant_of-result c = record { rising = λ i j l b. absurd (omega arith); below = λ i b. absurd (omega arith); few = omega arith }
