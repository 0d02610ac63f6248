use Rattle.std.proofs.Common.{ap, ◌∙◌, arith}
use Rattle.cr_memory.specs.Memory.{without_object}
use Rattle.cr_memory.proofs.Writing.{entered_if_alive}
use Rattle.cr_memory.proofs.Ending.{left, alive_seen, count_within, room_left}
use Rattle.cr_memory.proofs.Continuing.{without_object-continues}
use Rattle.cr_memory.proofs.store.Store.leave.Goals as goal

pub overflow_sub-self : goal.overflow_sub-self
overflow_sub-self c =
    let i = c.self.inside in
    let a = alive_seen i.most i.spans i.cells i.shape _ c.args.object c.self.view_is c.requires in
    omega (arith, count_within i.spans c.args.object (entered_if_alive i.spans c.args.object a) a, c.leave.ensures.count, c.self.invariant.counted)

pub end-end-requires : goal.end-end-requires
end-end-requires c =
    let i = c.self.inside in
    let a = alive_seen i.most i.spans i.cells i.shape _ c.args.object c.self.view_is c.requires in
    room_left i.spans _ c.args.object 18446744073709551615 c.leave.ensures.left (entered_if_alive i.spans c.args.object a)
    (record { within = λ n b. let r = c.self.invariant.room.within n b in omega (arith, c.size_of-used.ensures) })

pub invariant_of-self : goal.invariant_of-self
invariant_of-self c =
    let i = c.self.inside in
    let a = alive_seen i.most i.spans i.cells i.shape _ c.args.object c.self.view_is c.requires in
    let done = left i.most i.live i.spans i.cells i.shape c.args.object c.end-end.result c.self.invariant a (rw c.leave.ensures.left at c.end-end.ensures) in
    rw (c.cut.ensures, c.cut-2.ensures, c.leave.ensures.count, c.leave.ensures.left) done.stored

pub returns-clause-ended : goal.returns-clause-ended
returns-clause-ended c =
    let i = c.self.inside in
    let a = alive_seen i.most i.spans i.cells i.shape _ c.args.object c.self.view_is c.requires in
    let done = left i.most i.live i.spans i.cells i.shape c.args.object c.end-end.result c.self.invariant a (rw c.leave.ensures.left at c.end-end.ensures) in
    rw (c.tidy.ensures, c.cut.ensures, c.cut-2.ensures, c.leave.ensures.left) done.seen
    ∙ ap (λ m. without_object m c.args.object) c.self.view_is

pub returns-clause-kept : goal.returns-clause-kept
returns-clause-kept c =
    let i = c.self.inside in
    let a = alive_seen i.most i.spans i.cells i.shape _ c.args.object c.self.view_is c.requires in
    let done = left i.most i.live i.spans i.cells i.shape c.args.object c.end-end.result c.self.invariant a (rw c.leave.ensures.left at c.end-end.ensures) in
    rw (← c.self.view_is, c.tidy.ensures, c.cut.ensures, c.cut-2.ensures, c.leave.ensures.left) done.kept

pub returns-clause-others : goal.returns-clause-others
returns-clause-others c = rw (returns-clause-ended c) (without_object-continues _ c.args.object)
