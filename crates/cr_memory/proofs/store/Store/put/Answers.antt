use Rattle.std.proofs.Common.{subst}
use Rattle.cr_memory.specs.Memory.{Memory, KeepsPointers}
use Rattle.cr_memory.specs.Access.{put_of, Writes}
use Rattle.cr_memory.specs.Continues.{Continues}
use Rattle.cr_memory.specs.Flat.{memory_of}
use Rattle.cr_memory.proofs.View.{pointer_seen}
use Rattle.cr_memory.proofs.Storing.{all_hold_seen, as_many, put_done}
use Rattle.cr_memory.proofs.store.Store.put.Goals as goal

pub put-requires-clause-to : goal.put-requires-clause-to
put-requires-clause-to c =
    pointer_seen c.self.inside.most _ _ c.self.inside.shape _ c.args.to c.self.view_is c.self.invariant.room c.requires.pointer

pub put-requires-clause-same_number : goal.put-requires-clause-same_number
put-requires-clause-same_number c =
    let i = c.self.inside in
    as_many i.spans c.args.kinds.now c.args.values.now
    (all_hold_seen i.most i.spans i.cells i.shape _ c.args.kinds.now c.args.values.now c.self.view_is c.self.invariant.room c.requires.values)

pub invariant_of-self : goal.invariant_of-self
invariant_of-self c =
    let i = c.self.inside in
    let s = c.self.invariant in
    let at = pointer_seen i.most i.spans i.cells i.shape _ c.args.to c.self.view_is s.room c.requires.pointer in
    let held = all_hold_seen i.most i.spans i.cells i.shape _ c.args.kinds.now c.args.values.now c.self.view_is s.room c.requires.values in
    (put_done i.most i.live i.spans i.cells _ i.shape c.args.to c.args.kinds.now c.args.values.now c.put.result s at c.requires.stride held c.put.ensures).stored

pub returns-clause-written : goal.returns-clause-written
returns-clause-written c =
    let i = c.self.inside in
    let s = c.self.invariant in
    let at = pointer_seen i.most i.spans i.cells i.shape _ c.args.to c.self.view_is s.room c.requires.pointer in
    let held = all_hold_seen i.most i.spans i.cells i.shape _ c.args.kinds.now c.args.values.now c.self.view_is s.room c.requires.values in
    let P : Memory → Type 0 = λ m. Writes (put_of m c.args.to c.args.kinds.now c.args.values.now) c.put.result m (memory_of i.most i.spans c.put.new.cells i.shape) in
    subst P c.self.view_is
    (put_done i.most i.live i.spans i.cells _ i.shape c.args.to c.args.kinds.now c.args.values.now c.put.result s at c.requires.stride held c.put.ensures).seen

pub returns-clause-kept : goal.returns-clause-kept
returns-clause-kept c =
    let i = c.self.inside in
    let s = c.self.invariant in
    let at = pointer_seen i.most i.spans i.cells i.shape _ c.args.to c.self.view_is s.room c.requires.pointer in
    let held = all_hold_seen i.most i.spans i.cells i.shape _ c.args.kinds.now c.args.values.now c.self.view_is s.room c.requires.values in
    let P : Memory → Type 0 = λ m. KeepsPointers m (memory_of i.most i.spans c.put.new.cells i.shape) in
    subst P c.self.view_is
    (put_done i.most i.live i.spans i.cells _ i.shape c.args.to c.args.kinds.now c.args.values.now c.put.result s at c.requires.stride held c.put.ensures).kept

pub returns-clause-continues : goal.returns-clause-continues
returns-clause-continues c =
    let i = c.self.inside in
    let s = c.self.invariant in
    let at = pointer_seen i.most i.spans i.cells i.shape _ c.args.to c.self.view_is s.room c.requires.pointer in
    let held = all_hold_seen i.most i.spans i.cells i.shape _ c.args.kinds.now c.args.values.now c.self.view_is s.room c.requires.values in
    let P : Memory → Type 0 = λ m. Continues m (memory_of i.most i.spans c.put.new.cells i.shape) in
    subst P c.self.view_is
    (put_done i.most i.live i.spans i.cells _ i.shape c.args.to c.args.kinds.now c.args.values.now c.put.result s at c.requires.stride held c.put.ensures).continues
