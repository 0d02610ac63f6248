use Rattle.std.proofs.Common.{◌∙◌, sym}
use Rattle.cr_check_initialisers.proofs.Walks.{by_braces, by_value}
use Rattle.cr_check_initialisers.proofs.lines.plan.Goals as goal

pub returns-then-opens : goal.returns-then-opens
returns-then-opens c =
    by_braces c.args.source.now c.args.row c.args.above c.args.node c.inside_object-rest.result c.initialisers.result.now c.new-lines.result.items _
    (sym c.opens.ensures.is ∙ c.if-opens.true) c.new-lines.ensures.items c.initialisers.ensures c.inside_object-rest.ensures c.in_ok-braced.ensures

pub returns : goal.returns
returns c =
    by_value c.args.source.now c.args.row c.args.above c.args.node c.new-lines.result.items _ (sym c.opens.ensures.is ∙ c.if-opens.false)
    c.new-lines.ensures.items c.in_ok-initialise.ensures
