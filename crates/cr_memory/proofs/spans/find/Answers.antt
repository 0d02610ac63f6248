use Rattle.cr_memory.proofs.Living.{place_or_none}
use Rattle.cr_memory.proofs.spans.find.Goals as goal

pub returns-else-is_at-clause-none : goal.returns-else-is_at-clause-none
returns-else-is_at-clause-none c =
    place_or_none c.args.living.now.items c.args.number c.below-index.result c.requires c.below-index.ensures (λ h. absurd (cc (c.is_at.ensures.1 h, c.if-is_at.false)))
