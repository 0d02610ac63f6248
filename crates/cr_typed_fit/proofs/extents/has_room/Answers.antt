use Rattle.std.proofs.Common.{sym, subst, ◌∙◌}
use Rattle.cr_typed_fit.specs.Fits.{AreMembers}
use Rattle.cr_typed_fit.proofs.extents.has_room.Goals as goal

pub returns-then-are_small-clause-only : goal.returns-then-are_small-clause-only
returns-then-are_small-clause-only c = λ e. record {
  small = sym c.are_small.ensures ∙ c.if-are_small.true;
  members = subst (AreMembers c.args.extents.now) c.as_slice.ensures (c.have_members.ensures.only e);
}

pub returns-then-are_small-clause-every : goal.returns-then-are_small-clause-every
returns-then-are_small-clause-every c = λ room. c.have_members.ensures.every (subst (AreMembers c.args.extents.now) (sym c.as_slice.ensures) room.members)
