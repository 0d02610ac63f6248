use Rattle.cr_memory.proofs.Moving.{moved, begin_moving, cut_stored, cut_seen}
use Rattle.cr_memory.proofs.store.Store.close_gaps.Goals as goal

pub loop-number-init : goal.loop-number-init
loop-number-init c =
    let i = c.self.inside in
    begin_moving i.most i.live i.spans i.cells i.shape _ c.self.invariant c.self.view_is

pub loop-number-preserved : goal.loop-number-preserved
loop-number-preserved c =
    let i = c.loop-number.self-inside in
    moved i.most i.live i.spans i.cells i.shape c.loop-number.from c.in-Some.number c.loop-number.end _ _ _ _ _ c.loop-number.invariant c.in-Some.ensures.some
    c.move_down-end.ensures

pub invariant_of-self : goal.invariant_of-self
invariant_of-self c =
    let i = c.loop-number.self-inside in
    rw (c.cut.ensures, c.cut-2.ensures)
    (cut_stored i.most i.live i.spans i.cells i.shape c.loop-number.from c.loop-number.end _ c.loop-number.invariant c.in_default.ensures.none)

pub returns : goal.returns
returns c =
    let i = c.loop-number.self-inside in
    rw (c.cut.ensures, c.cut-2.ensures)
    (cut_seen i.most i.live i.spans i.cells i.shape c.loop-number.from c.loop-number.end _ c.loop-number.invariant c.in_default.ensures.none)
