use Rattle.cr_memory.proofs.Clearing.{cleared}
use Rattle.cr_memory.proofs.Ending.{alive_seen}
use Rattle.cr_memory.proofs.store.Store.clear.Goals as goal

pub unset-requires : goal.unset-requires
unset-requires c =
    let i = c.self.inside in
    let a = alive_seen i.most i.spans i.cells i.shape _ c.args.object c.self.view_is c.requires in
    rw c.get-span.ensures (c.self.invariant.room.within c.args.object a)

pub invariant_of-self : goal.invariant_of-self
invariant_of-self c =
    let i = c.self.inside in
    let a = alive_seen i.most i.spans i.cells i.shape _ c.args.object c.self.view_is c.requires in
    (cleared i.most i.live i.spans i.cells _ i.shape c.args.object c.self.invariant a (rw c.get-span.ensures at c.unset.ensures)).stored

pub returns-clause-cleared : goal.returns-clause-cleared
returns-clause-cleared c =
    let i = c.self.inside in
    let a = alive_seen i.most i.spans i.cells i.shape _ c.args.object c.self.view_is c.requires in
    rw (← c.self.view_is) (cleared i.most i.live i.spans i.cells _ i.shape c.args.object c.self.invariant a (rw c.get-span.ensures at c.unset.ensures)).seen

pub returns-clause-kept : goal.returns-clause-kept
returns-clause-kept c =
    let i = c.self.inside in
    let a = alive_seen i.most i.spans i.cells i.shape _ c.args.object c.self.view_is c.requires in
    rw (← c.self.view_is) (cleared i.most i.live i.spans i.cells _ i.shape c.args.object c.self.invariant a (rw c.get-span.ensures at c.unset.ensures)).kept

pub returns-clause-continues : goal.returns-clause-continues
returns-clause-continues c =
    let i = c.self.inside in
    let a = alive_seen i.most i.spans i.cells i.shape _ c.args.object c.self.view_is c.requires in
    rw (← c.self.view_is) (cleared i.most i.live i.spans i.cells _ i.shape c.args.object c.self.invariant a (rw c.get-span.ensures at c.unset.ensures)).continues
