use Rattle.std.proofs.Common.{take, drop, ap, ◌∙◌}
use Rattle.std.specs.List.{flat_map}
use Rattle.cr_sequence.specs.Stretches.{items_in}
use Rattle.cr_sequence.proofs.Writing.{run_left}
use Rattle.cr_sequence.proofs.sequence.Sequence.run.Goals as goal

pub plain_run-requires : goal.plain_run-requires
plain_run-requires g c = c.is_plain.ensures c.if-not-is_plain.false

pub returns : goal.returns
returns g c =
    let i = c.self.inside in
    c.plain_run.ensures
    ∙ run_left i.flat.items (flat_map items_in i.parts.items) c.args.from c.args.count (c.is_plain.ensures c.if-not-is_plain.false)
    ∙ ap (λ xs. take c.args.count (drop c.args.from xs)) c.self.view_is
