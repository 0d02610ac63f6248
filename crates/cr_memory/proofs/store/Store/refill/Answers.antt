use Rattle.std.proofs.Common.{◌∙◌}
use Rattle.cr_sequence.specs.Kept.{repeated}
use Rattle.cr_memory.specs.Flat.{memory_of}
use Rattle.cr_memory.proofs.Beginning.{began, wanted_done, wanted_same}
use Rattle.cr_memory.proofs.store.Store.refill.Goals as goal

pub invariant_of-self : goal.invariant_of-self
invariant_of-self c =
    let i = c.self.inside in
    (began c.refill.result i.most i.live i.spans i.cells _ i.shape c.args.object 0 (repeated c.args.times c.args.pattern.items) c.self.invariant c.refill.ensures.done c.refill.ensures.same).stored

pub returns-clause-begun : goal.returns-clause-begun
returns-clause-begun c = λ e.
    let i = c.self.inside in
    let b = began c.refill.result i.most i.live i.spans i.cells _ i.shape c.args.object 0 (repeated c.args.times c.args.pattern.items) c.self.invariant c.refill.ensures.done c.refill.ensures.same in
    rw (← c.self.view_is) (b.seen ∙ wanted_done c.refill.result (memory_of i.most i.spans i.cells i.shape) c.args.object 0 (repeated c.args.times c.args.pattern.items) e)

pub returns-clause-same : goal.returns-clause-same
returns-clause-same c = λ e.
    let i = c.self.inside in
    let b = began c.refill.result i.most i.live i.spans i.cells _ i.shape c.args.object 0 (repeated c.args.times c.args.pattern.items) c.self.invariant c.refill.ensures.done c.refill.ensures.same in
    rw (← c.self.view_is) (b.seen ∙ wanted_same c.refill.result (memory_of i.most i.spans i.cells i.shape) c.args.object 0 (repeated c.args.times c.args.pattern.items) e)

pub returns-clause-kept : goal.returns-clause-kept
returns-clause-kept c =
    let i = c.self.inside in
    rw (← c.self.view_is)
    (began c.refill.result i.most i.live i.spans i.cells _ i.shape c.args.object 0 (repeated c.args.times c.args.pattern.items) c.self.invariant c.refill.ensures.done c.refill.ensures.same).kept

pub returns-clause-continues : goal.returns-clause-continues
returns-clause-continues c =
    let i = c.self.inside in
    rw (← c.self.view_is)
    (began c.refill.result i.most i.live i.spans i.cells _ i.shape c.args.object 0 (repeated c.args.times c.args.pattern.items) c.self.invariant c.refill.ensures.done c.refill.ensures.same).continues
