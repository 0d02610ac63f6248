use Rattle.cr_memory.proofs.View.{pointer_seen}
use Rattle.cr_memory.proofs.Reaching.{flat_cells-is, flat_cells-hold}
use Rattle.cr_memory.proofs.store.Store.cells.Goals as goal

pub cells-requires-clause-from : goal.cells-requires-clause-from
cells-requires-clause-from c =
    pointer_seen c.self.inside.most _ _ c.self.inside.shape _ c.args.from c.self.view_is c.self.invariant.room c.requires.pointer

pub returns-clause-value : goal.returns-clause-value
returns-clause-value c =
    let i = c.self.inside in
    let from = pointer_seen i.most _ _ i.shape _ c.args.from c.self.view_is c.self.invariant.room c.requires.pointer in
    rw (← c.self.view_is, ← flat_cells-is i.most i.spans i.cells i.shape c.args.from c.args.kinds.now c.self.invariant.room from c.requires.stride)
    c.cells.ensures

pub returns-clause-holds : goal.returns-clause-holds
returns-clause-holds c =
    let i = c.self.inside in
    let from = pointer_seen i.most _ _ i.shape _ c.args.from c.self.view_is c.self.invariant.room c.requires.pointer in
    rw (← c.self.view_is)
    (flat_cells-hold i.most i.live i.spans i.cells i.shape c.args.from c.args.kinds.now c.self.invariant from c.requires.stride c.cells.result c.cells.ensures)
