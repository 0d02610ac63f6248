use Rattle.std.proofs.Common.{subst}
use Rattle.cr_memory.specs.Memory.{Memory, Holds}
use Rattle.cr_memory.proofs.View.{holds, holds_seen}
use Rattle.cr_memory.proofs.store.Store.holds.Goals as goal

pub returns : goal.returns
returns c =
    let i = c.self.inside in
    let room = c.self.invariant.room in
    let P : Memory → Type 0 = λ m. Holds m c.args.kind c.args.value in (
      λ t. subst P c.self.view_is (holds i.most i.spans i.cells i.shape c.args.kind c.args.value room (c.holds.ensures.0 t)),
      λ h. c.holds.ensures.1 (holds_seen i.most i.spans i.cells i.shape _ c.args.kind c.args.value c.self.view_is room h),
    )
