use Rattle.std.proofs.Common.{length, subst, sym}
use Rattle.cr_typed_fit.specs.Fits.{AreExtents, HasRoom}
use Rattle.cr_typed_fit.proofs.Passed.{all_fit, all_pass}
use Rattle.cr_typed_fit.proofs.fitting.fits.Goals as goal

pub returns-clause-only : goal.returns-clause-only
returns-clause-only c = λ e.
    let t = c.args.typed.now in
    let extents = c.in_ok-extents.extents.items in
    all_fit t extents (subst (λ layouts. AreExtents t.shapes layouts (length t.shapes) extents) c.as_slice.ensures c.in_ok-extents.ensures)
    (subst (HasRoom t) c.deref.ensures.value (c.has_room.ensures.only e))

pub returns-clause-every : goal.returns-clause-every
returns-clause-every c = λ fit.
    let t = c.args.typed.now in
    let extents = c.in_ok-extents.extents.items in
    c.has_room.ensures.every (subst (HasRoom t) (sym c.deref.ensures.value)
    (all_pass t extents (subst (λ layouts. AreExtents t.shapes layouts (length t.shapes) extents) c.as_slice.ensures c.in_ok-extents.ensures) fit))
