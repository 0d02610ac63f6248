use Rattle.std.proofs.Common.{◌*◌, ◌/◌, ap, sym, ◌∙◌, arith}
use Rattle.cr_sequence.specs.Kept.{items_of, repeated}
use Rattle.cr_sequence.proofs.Making.{none_made}
use Rattle.cr_sequence.proofs.Showing.{new_shown}
use Rattle.cr_sequence.proofs.stretch.Stretch.pattern.Goals as goal

pub returns-then-times-each : goal.returns-then-times-each
returns-then-times-each g c =
    let i = c.self.inside in
    ap (repeated (i.count / c.size_of-each.result)) c.as_slice.ensures.value
    ∙ sym (new_shown i.first i.pattern.items i.blocks.items i.pool.items (i.count / c.size_of-each.result) c.self.invariant.1.some
    (none_made i.blocks.items _ c.self.invariant.0.below (omega arith)))
    ∙ ap (λ n. items_of n i.first i.pattern.items i.blocks.items i.pool.items) (ap (λ n. i.count / c.size_of-each.result * n) (sym c.size_of-each.ensures) ∙ c.if-times-each.true)
    ∙ c.self.view_is
