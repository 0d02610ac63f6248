use Rattle.std.proofs.Common.{length, refl, subst, arith}
use Rattle.std.proofs.lemmas.Option.{slice_get_read}
use Rattle.cr_typed_fit.specs.Fits.{AreSuited}
use Rattle.cr_typed_fit.proofs.Rows.{members_all, members_more}
use Rattle.cr_typed_fit.proofs.extents.have_members.Goals as goal

pub loop-at-preserved : goal.loop-at-preserved
loop-at-preserved c =
    let extents = c.args.extents.now in
    let members = c.args.members.now in
    let at = c.loop-at.at in
    members_more extents members at c.index-members-at.result c.loop-at.invariant
    (slice_get_read _ (length members) _ _ refl (omega (arith, c.loop-at-test.true)) c.index-members-at.is)
    (subst (AreSuited extents at) c.as_slice.ensures (c.are_suited.ensures.only c.if-not-are_suited.false))

pub returns-clause-only : goal.returns-clause-only
returns-clause-only c = λ passed. members_all c.args.extents.now c.args.members.now c.loop-at.at c.loop-at-test.false c.loop-at.invariant
