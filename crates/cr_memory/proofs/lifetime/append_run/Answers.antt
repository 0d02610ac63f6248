use Rattle.std.proofs.Common.{◌≡◌, ◌++◌, ap, sym, ◌∙◌}
use Rattle.cr_memory.proofs.Entering.{once}
use Rattle.cr_memory.proofs.lifetime.append_run.Goals as goal

pub returns-then-times-eq1-clause-all : goal.returns-then-times-eq1-clause-all
returns-then-times-eq1-clause-all c = λ e.
    c.extend_plain.ensures.extended e ∙ ap (λ xs. c.args.shapes.now ++ xs) (sym (once c.args.times c.args.shape.now c.if-times-eq1.true))
