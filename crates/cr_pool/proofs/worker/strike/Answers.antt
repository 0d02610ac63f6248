use Rattle.std.proofs.Common.{◌≡◌, ◌∙◌, ap, subst, sym, arith}
use Rattle.cr_core.specs.declared.events.Settle.TheVariants as settle
use Rattle.cr_core.specs.declared.marks.Mark.TheVariants.{Hit, Skipped}
use Rattle.cr_core.specs.Row.{Row, with_last}
use Rattle.cr_core.specs.Machine.{MayClaim}
use Rattle.cr_claims.specs.Pass.{view_of, len_of}
use Rattle.cr_claims.specs.declared.view.View.{View}
use Rattle.cr_pool.proofs.Lists.{claims_after_hit, leaves_after_hit, marked_at}
use Rattle.cr_pool.proofs.worker.strike.Goals as goal

pub claim-requires-clause-may : goal.claim-requires-clause-may
claim-requires-clause-may c =
    let len = len_of c.args.claims.now in
    let P : Row → Type 0 = λ l. MayClaim len (view_of c.hit.new.pass).read settle.Nothing l in
    subst P (sym (ap (λ (v : View). v.own) c.hit.ensures.view)) (claims_after_hit len (view_of c.hit.new.pass).read c.args.kind (view_of c.args.pass.now).own c.requires.may)

pub leave-requires-clause-may : goal.leave-requires-clause-may
leave-requires-clause-may c =
    let read : (view_of c.claim.new.pass).read ≡ (view_of c.hit.new.pass).read = ap (λ (v : View). v.read) c.claim.ensures.view in
    leaves_after_hit (len_of c.args.claims.now) (view_of c.claim.new.pass).read c.claim.result c.args.kind (view_of c.args.pass.now).own (view_of c.hit.new.pass).own (view_of c.claim.new.pass).own
    c.requires.may (ap (λ (v : View). v.own) c.hit.ensures.view) (ap (λ (v : View). v.own) c.claim.ensures.view) c.claim.ensures.rises
    (omega (arith, read, c.hit.ensures.own))

pub returns-clause-own : goal.returns-clause-own
returns-clause-own c =
    let more = ap (λ (v : View). v.own) c.claim.ensures.view in
    let hit = ap (λ (v : View). v.own) c.hit.ensures.view in (
      c.claim.result,
      ap (λ (v : View). v.own) c.leave.ensures.view ∙ marked_at (view_of c.claim.new.pass).own (with_last (Hit c.args.kind) (view_of c.args.pass.now).own) c.claim.result Skipped (rw hit at more),
    )
