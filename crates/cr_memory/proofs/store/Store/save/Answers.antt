use Rattle.std.proofs.Common.{subst}
use Rattle.cr_memory.specs.Memory.{Memory, KeepsPointers}
use Rattle.cr_memory.specs.Access.{save_of, Writes}
use Rattle.cr_memory.specs.Continues.{Continues}
use Rattle.cr_memory.specs.Flat.{memory_of}
use Rattle.cr_memory.proofs.View.{pointer_seen, holds_seen}
use Rattle.cr_memory.proofs.Storing.{save_done}
use Rattle.cr_memory.proofs.store.Store.save.Goals as goal

pub save-requires-clause-within : goal.save-requires-clause-within
save-requires-clause-within c =
    pointer_seen c.self.inside.most _ _ c.self.inside.shape _ c.args.at c.self.view_is c.self.invariant.room c.requires.pointer

pub invariant_of-self : goal.invariant_of-self
invariant_of-self c =
    let i = c.self.inside in
    let s = c.self.invariant in
    let at = pointer_seen i.most i.spans i.cells i.shape _ c.args.at c.self.view_is s.room c.requires.pointer in
    let held = holds_seen i.most i.spans i.cells i.shape _ c.args.kind c.args.value c.self.view_is s.room c.requires.value in
    (save_done i.most i.live i.spans i.cells _ i.shape c.args.at c.args.kind c.args.value c.save.result s at held c.save.ensures).stored

pub returns-clause-written : goal.returns-clause-written
returns-clause-written c =
    let i = c.self.inside in
    let s = c.self.invariant in
    let at = pointer_seen i.most i.spans i.cells i.shape _ c.args.at c.self.view_is s.room c.requires.pointer in
    let held = holds_seen i.most i.spans i.cells i.shape _ c.args.kind c.args.value c.self.view_is s.room c.requires.value in
    let P : Memory → Type 0 = λ m. Writes (save_of m c.args.at c.args.kind c.args.value) c.save.result m (memory_of i.most i.spans c.save.new.cells i.shape) in
    subst P c.self.view_is
    (save_done i.most i.live i.spans i.cells _ i.shape c.args.at c.args.kind c.args.value c.save.result s at held c.save.ensures).seen

pub returns-clause-kept : goal.returns-clause-kept
returns-clause-kept c =
    let i = c.self.inside in
    let s = c.self.invariant in
    let at = pointer_seen i.most i.spans i.cells i.shape _ c.args.at c.self.view_is s.room c.requires.pointer in
    let held = holds_seen i.most i.spans i.cells i.shape _ c.args.kind c.args.value c.self.view_is s.room c.requires.value in
    let P : Memory → Type 0 = λ m. KeepsPointers m (memory_of i.most i.spans c.save.new.cells i.shape) in
    subst P c.self.view_is
    (save_done i.most i.live i.spans i.cells _ i.shape c.args.at c.args.kind c.args.value c.save.result s at held c.save.ensures).kept

pub returns-clause-continues : goal.returns-clause-continues
returns-clause-continues c =
    let i = c.self.inside in
    let s = c.self.invariant in
    let at = pointer_seen i.most i.spans i.cells i.shape _ c.args.at c.self.view_is s.room c.requires.pointer in
    let held = holds_seen i.most i.spans i.cells i.shape _ c.args.kind c.args.value c.self.view_is s.room c.requires.value in
    let P : Memory → Type 0 = λ m. Continues m (memory_of i.most i.spans c.save.new.cells i.shape) in
    subst P c.self.view_is
    (save_done i.most i.live i.spans i.cells _ i.shape c.args.at c.args.kind c.args.value c.save.result s at held c.save.ensures).continues
