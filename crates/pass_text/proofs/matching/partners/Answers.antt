use native.Mathlib.Omega.{arith}
use Rattle.pass_text.proofs.Readings.{ended, stops}
use Rattle.pass_text.proofs.matching.partners.Goals as goal

pub returns-then-not-branch : goal.returns-then-not-branch
returns-then-not-branch c =
    stops c.args.signs.now c.loop-at.at c.loop-at.reading c.read.new.self c.in_ok-read.field-0 (grind arith) (grind arith) c.loop-at.invariant
    c.in_ok-read.ensures c.if-not-branch.true

pub returns : goal.returns
returns c = ended (λ pairs. pairs.items) c.args.signs.now c.loop-at.reading c.loop-at.at c.end.result c.loop-at-test.false c.loop-at.invariant c.end.ensures
