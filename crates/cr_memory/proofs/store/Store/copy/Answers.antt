use Rattle.std.proofs.Common.{subst}
use Rattle.cr_memory.specs.Memory.{Memory, KeepsPointers}
use Rattle.cr_memory.specs.Access.{copy_of, Writes}
use Rattle.cr_memory.specs.Continues.{Continues}
use Rattle.cr_memory.specs.Flat.{memory_of}
use Rattle.cr_memory.proofs.View.{pointer_seen}
use Rattle.cr_memory.proofs.Storing.{copy_done}
use Rattle.cr_memory.proofs.store.Store.copy.Goals as goal

pub copy-requires-clause-from : goal.copy-requires-clause-from
copy-requires-clause-from c =
    pointer_seen c.self.inside.most _ _ c.self.inside.shape _ c.args.from c.self.view_is c.self.invariant.room c.requires.from

pub copy-requires-clause-to : goal.copy-requires-clause-to
copy-requires-clause-to c =
    pointer_seen c.self.inside.most _ _ c.self.inside.shape _ c.args.to c.self.view_is c.self.invariant.room c.requires.to

pub invariant_of-self : goal.invariant_of-self
invariant_of-self c =
    let i = c.self.inside in
    let s = c.self.invariant in
    let from = pointer_seen i.most i.spans i.cells i.shape _ c.args.from c.self.view_is s.room c.requires.from in
    let to = pointer_seen i.most i.spans i.cells i.shape _ c.args.to c.self.view_is s.room c.requires.to in
    (copy_done i.most i.live i.spans i.cells _ i.shape c.args.from c.args.to c.args.count c.copy.result s from to c.requires.from_stride c.requires.to_stride c.copy.ensures).stored

pub returns-clause-written : goal.returns-clause-written
returns-clause-written c =
    let i = c.self.inside in
    let s = c.self.invariant in
    let from = pointer_seen i.most i.spans i.cells i.shape _ c.args.from c.self.view_is s.room c.requires.from in
    let to = pointer_seen i.most i.spans i.cells i.shape _ c.args.to c.self.view_is s.room c.requires.to in
    let P : Memory → Type 0 = λ m. Writes (copy_of m c.args.from c.args.to c.args.count) c.copy.result m (memory_of i.most i.spans c.copy.new.cells i.shape) in
    subst P c.self.view_is
    (copy_done i.most i.live i.spans i.cells _ i.shape c.args.from c.args.to c.args.count c.copy.result s from to c.requires.from_stride c.requires.to_stride c.copy.ensures).seen

pub returns-clause-kept : goal.returns-clause-kept
returns-clause-kept c =
    let i = c.self.inside in
    let s = c.self.invariant in
    let from = pointer_seen i.most i.spans i.cells i.shape _ c.args.from c.self.view_is s.room c.requires.from in
    let to = pointer_seen i.most i.spans i.cells i.shape _ c.args.to c.self.view_is s.room c.requires.to in
    let P : Memory → Type 0 = λ m. KeepsPointers m (memory_of i.most i.spans c.copy.new.cells i.shape) in
    subst P c.self.view_is
    (copy_done i.most i.live i.spans i.cells _ i.shape c.args.from c.args.to c.args.count c.copy.result s from to c.requires.from_stride c.requires.to_stride c.copy.ensures).kept

pub returns-clause-continues : goal.returns-clause-continues
returns-clause-continues c =
    let i = c.self.inside in
    let s = c.self.invariant in
    let from = pointer_seen i.most i.spans i.cells i.shape _ c.args.from c.self.view_is s.room c.requires.from in
    let to = pointer_seen i.most i.spans i.cells i.shape _ c.args.to c.self.view_is s.room c.requires.to in
    let P : Memory → Type 0 = λ m. Continues m (memory_of i.most i.spans c.copy.new.cells i.shape) in
    subst P c.self.view_is
    (copy_done i.most i.live i.spans i.cells _ i.shape c.args.from c.args.to c.args.count c.copy.result s from to c.requires.from_stride c.requires.to_stride c.copy.ensures).continues
