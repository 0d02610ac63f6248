use Rattle.std.proofs.Common.{◌+◌, [], ◌∷◌, arith, length-set, ap, ◌∙◌}
use Rattle.cr_memory.specs.Access.{with_cells}
use Rattle.cr_memory.specs.Flat.{span_at, memory_of}
use Rattle.cr_memory.proofs.Writing.{live_cell, held_by_live, stored_with, same_pointers, held_overwritten, memory_of-overwritten}
use Rattle.cr_memory.proofs.Continuing.{written-continues}
use Rattle.cr_memory.proofs.store.Store.begin.Goals as goal

pub begin-requires : goal.begin-requires
begin-requires c =
    let i = c.self.inside in
    (live_cell i.most i.spans i.cells i.shape _ c.args.object c.args.cell c.self.view_is c.self.invariant.room c.requires.live).inside

pub invariant_of-self : goal.invariant_of-self
invariant_of-self c =
    let i = c.self.inside in
    let s = c.self.invariant in
    let l = live_cell i.most i.spans i.cells i.shape _ c.args.object c.args.cell c.self.view_is s.room c.requires.live in
    let place = (span_at i.spans c.args.object).first + c.args.cell in
    let held = held_by_live i.most i.spans i.cells i.shape _ c.args.object c.args.cell c.args.value c.self.view_is s.room l c.requires.value in
    rw c.begin.ensures
    (stored_with i.most i.live i.spans i.cells _ i.shape s (length-set i.cells place c.args.value)
    (held_overwritten i.spans i.cells i.shape place (c.args.value ∷ []) s.holds (held, tt)))

pub returns-clause-begun : goal.returns-clause-begun
returns-clause-begun c =
    let i = c.self.inside in
    let s = c.self.invariant in
    let l = live_cell i.most i.spans i.cells i.shape _ c.args.object c.args.cell c.self.view_is s.room c.requires.live in
    ap (λ xs. memory_of i.most i.spans xs i.shape) c.begin.ensures
    ∙ memory_of-overwritten i.most i.live i.spans i.cells i.shape c.args.object c.args.cell (c.args.value ∷ []) s l.entered l.alive (let b = l.below in omega arith)
    ∙ ap (λ m. with_cells m c.args.object c.args.cell (c.args.value ∷ [])) c.self.view_is

pub returns-clause-kept : goal.returns-clause-kept
returns-clause-kept c =
    let i = c.self.inside in
    rw (← c.self.view_is, c.begin.ensures)
    (same_pointers i.most i.spans i.cells _ i.shape c.self.invariant.room (length-set i.cells _ c.args.value))

pub returns-clause-continues : goal.returns-clause-continues
returns-clause-continues c =
    let i = c.self.inside in
    rw (← c.self.view_is, c.begin.ensures)
    (written-continues i.most i.spans i.cells _ i.shape c.self.invariant.room (length-set i.cells _ c.args.value))
