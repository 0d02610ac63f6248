use Rattle.std.proofs.Common.{ℕ, List, sym, ap, ◌∙◌}
use Rattle.std.specs.List.{insert}
use Rattle.cr_footprint.specs.Cell.{Cell}
use Rattle.cr_footprint.proofs.Rising.{insert-last}
use Rattle.cr_footprint.proofs.list.put.Goals as goal

pub returns-in_ok-push-clause-ok : goal.returns-in_ok-push-clause-ok
returns-in_ok-push-clause-ok c =
    let cells = c.args.list.now.items in
    c.in_ok-push.ensures.ok ∙ sym (insert-last cells c.args.cell)
    ∙ ap {B = List Cell} (λ (n : ℕ). insert cells n c.args.cell) (sym (c.if-place-len.true ∙ c.len.ensures.value))
