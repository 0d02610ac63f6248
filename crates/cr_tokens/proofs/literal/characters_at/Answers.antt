use Rattle.std.proofs.Common.{arith, add-one}
use Rattle.cr_tokens.specs.Literals.Chars.{none}
use Rattle.cr_tokens.proofs.Chains.{Chars-snoc}
use Rattle.cr_tokens.proofs.literal.characters_at.Goals as goal

pub loop-end-init : goal.loop-end-init
loop-end-init c = record { inside = c.requires.inside; after = omega arith; few = omega arith; characters = none }

pub loop-end-preserved : goal.loop-end-preserved
loop-end-preserved c = record {
  inside = c.in_ok-end.ensures.some.1;
  after = omega (arith, c.in_ok-end.ensures.some);
  few = omega (arith, c.in_ok-end.ensures.some);
  characters = rw add-one (Chars-snoc c.loop-end.invariant.characters c.in_ok-end.ensures.char);
}
