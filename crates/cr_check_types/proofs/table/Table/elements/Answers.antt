use Rattle.std.proofs.Common.{arith, ◌∙◌, ◌*◌, ap, sym}
use Rattle.cr_check_types.specs.Types.{type_at}
use Rattle.cr_check_types.specs.Layouts.{fitted, count_of}
use Rattle.cr_check_types.proofs.Fitted.{cut_step, single, counted, array_is, room_is}
use Rattle.cr_check_types.proofs.table.Table.elements.Goals as goal

pub returns-in_default : goal.returns-in_default
returns-in_default c =
    let i = single _ c.shape.result (type_at c.args.self.now) c.shape.ensures.is c.in_default.not-Array in
    let h = c.loop-below.invariant in
    record {
      count = counted c.loop-below.count _ _ h.fits i.count h.count;
      within = h.inner;
      element = sym i.element ∙ h.element;
      single = i.element;
    }

pub loop-below-preserved : goal.loop-below-preserved
loop-below-preserved c =
    let i = array_is _ c.shape.result (type_at c.args.self.now) c.in-Array.below c.in-Array.n c.shape.ensures.is c.in-Array.is in
    let h = c.loop-below.invariant in
    let m = c.saturating_mul-count.ensures in
    let r = room_is c.shape.result c.in-Array.below c.in-Array.n c.loop-below.inner c.shape.ensures.below c.in-Array.is in
    record {
      inner = omega (arith, r, h.inner);
      fits = omega (arith, m);
      count =
          rw m (cut_step c.loop-below.count c.in-Array.n (count_of (type_at c.args.self.now c.in-Array.below)))
          ∙ ap (λ k. fitted (c.loop-below.count * k)) (sym i.count) ∙ h.count;
      element = sym i.element ∙ h.element;
    }
