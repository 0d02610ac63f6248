use Rattle.cr_tokens.specs.Literals.{IsBroken}
use Rattle.cr_tokens.proofs.Places.{each_more}
use Rattle.cr_tokens.proofs.literal.first_broken.Goals as goal

pub loop-at-preserved : goal.loop-at-preserved
loop-at-preserved c =
    each_more (λ k. ¬ IsBroken c.args.file.now k) c.args.from c.loop-at.at c.loop-at.invariant
    (λ b. absurd (cc (c.is_broken.ensures.1 b)))
