use Rattle.std.proofs.Common.{subst}
use Rattle.cr_memory.specs.Memory.{Memory, IsPointer}
use Rattle.cr_memory.proofs.View.{is_pointer, pointer_seen}
use Rattle.cr_memory.proofs.store.Store.is_pointer.Goals as goal

pub returns : goal.returns
returns c =
    let i = c.self.inside in
    let room = c.self.invariant.room in
    let P : Memory → Type 0 = λ m. IsPointer m c.args.at in (
      λ t. subst P c.self.view_is (is_pointer i.most i.spans i.cells i.shape c.args.at room (c.is_pointer.ensures.0 t)),
      λ h. c.is_pointer.ensures.1 (pointer_seen i.most i.spans i.cells i.shape _ c.args.at c.self.view_is room h),
    )
