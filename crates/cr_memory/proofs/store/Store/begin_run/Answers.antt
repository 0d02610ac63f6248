use Rattle.std.proofs.Common.{◌∙◌}
use Rattle.cr_memory.specs.Flat.{memory_of}
use Rattle.cr_memory.proofs.Beginning.{began, wanted_done, wanted_same}
use Rattle.cr_memory.proofs.store.Store.begin_run.Goals as goal

pub invariant_of-self : goal.invariant_of-self
invariant_of-self c =
    let i = c.self.inside in
    (began c.begin_run.result i.most i.live i.spans i.cells _ i.shape c.args.object c.args.from c.args.cells.now c.self.invariant c.begin_run.ensures.done c.begin_run.ensures.same).stored

pub returns-clause-begun : goal.returns-clause-begun
returns-clause-begun c = λ e.
    let i = c.self.inside in
    let b = began c.begin_run.result i.most i.live i.spans i.cells _ i.shape c.args.object c.args.from c.args.cells.now c.self.invariant c.begin_run.ensures.done c.begin_run.ensures.same in
    rw (← c.self.view_is) (b.seen ∙ wanted_done c.begin_run.result (memory_of i.most i.spans i.cells i.shape) c.args.object c.args.from c.args.cells.now e)

pub returns-clause-same : goal.returns-clause-same
returns-clause-same c = λ e.
    let i = c.self.inside in
    let b = began c.begin_run.result i.most i.live i.spans i.cells _ i.shape c.args.object c.args.from c.args.cells.now c.self.invariant c.begin_run.ensures.done c.begin_run.ensures.same in
    rw (← c.self.view_is) (b.seen ∙ wanted_same c.begin_run.result (memory_of i.most i.spans i.cells i.shape) c.args.object c.args.from c.args.cells.now e)

pub returns-clause-kept : goal.returns-clause-kept
returns-clause-kept c =
    let i = c.self.inside in
    rw (← c.self.view_is)
    (began c.begin_run.result i.most i.live i.spans i.cells _ i.shape c.args.object c.args.from c.args.cells.now c.self.invariant c.begin_run.ensures.done c.begin_run.ensures.same).kept

pub returns-clause-continues : goal.returns-clause-continues
returns-clause-continues c =
    let i = c.self.inside in
    rw (← c.self.view_is)
    (began c.begin_run.result i.most i.live i.spans i.cells _ i.shape c.args.object c.args.from c.args.cells.now c.self.invariant c.begin_run.ensures.done c.begin_run.ensures.same).continues
