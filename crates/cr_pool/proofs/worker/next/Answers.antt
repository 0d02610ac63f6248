use Rattle.std.proofs.Common.{◌∙◌, ap}
use Rattle.cr_core.specs.declared.marks.Mark.TheVariants.{Skipped}
use Rattle.cr_core.specs.Machine.{settled}
use Rattle.cr_claims.specs.Pass.{view_of}
use Rattle.cr_claims.specs.declared.view.View.{View}
use Rattle.cr_pool.proofs.Lists.{marked_at}
use Rattle.cr_pool.proofs.worker.next.Goals as goal

pub returns-then-at-len-clause-left : goal.returns-then-at-len-clause-left
returns-then-at-len-clause-left c = λ _.
    let own = ap (λ (v : View). v.own) c.claim-at.ensures.view in
    let left = marked_at (view_of c.claim-at.new.pass).own (settled c.args.done (view_of c.args.pass.now).own) c.claim-at.result Skipped own in (
      ap (λ (v : View). v.left) c.leave.ensures.view,
      (c.claim-at.result, ap (λ (v : View). v.own) c.leave.ensures.view ∙ left),
    )

pub returns-then-look-clause-left : goal.returns-then-look-clause-left
returns-then-look-clause-left c = λ _.
    let own = ap (λ (v : View). v.own) c.look.ensures.view ∙ ap (λ (v : View). v.own) c.claim-at.ensures.view in
    let left = marked_at (view_of c.look.new.pass).own (settled c.args.done (view_of c.args.pass.now).own) c.claim-at.result Skipped own in (
      ap (λ (v : View). v.left) c.leave-then-look.ensures.view,
      (c.claim-at.result, ap (λ (v : View). v.own) c.leave-then-look.ensures.view ∙ left),
    )
