use Rattle.std.proofs.Common.{refl, arith}
use Rattle.cr_memory.proofs.store.Store.new.Goals as goal

pub invariant_of-result : goal.invariant_of-result
invariant_of-result c = rw (c.new.ensures, c.new-2.ensures, c.new-3.ensures) (record {
  same_length = refl;
  room = record { within = λ n a. absurd (cc a) };
  apart = λ m n l a b. absurd (cc a);
  counted = refl;
  at_most = omega arith;
  holds = λ i b. absurd (omega arith);
})
