use Rattle.std.proofs.Common.{ap, ◌∙◌, Option}
use Rattle.cr_scopes.specs.Building.{told_in}
use Rattle.cr_scopes.specs.Resolved.{begins}
use Rattle.cr_scopes.specs.declared.told.Told.{Told}
use Rattle.cr_scopes.proofs.Built.{one_begun}
use Rattle.cr_scopes.proofs.entities.beginnings.Goals as goal

pub loop-at-preserved : goal.loop-at-preserved
loop-at-preserved c =
    one_begun (told_in c.args.told.now.items) c.loop-at.numbers.items c.number_one.new.numbers.items c.loop-at.count c.in_ok-count.count c.loop-at.at
    c.begins.result c.loop-at.invariant (c.begins.ensures ∙ ap (λ (w : Option Told). begins w c.loop-at.at) c.told_at.ensures) c.in_ok-count.ensures.numbers c.in_ok-count.ensures.count
