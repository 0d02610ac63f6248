use Rattle.std.proofs.Common.{ap, ◌∙◌}
use Rattle.cr_memory.specs.Access.{load_of}
use Rattle.cr_memory.proofs.View.{pointer_seen}
use Rattle.cr_memory.proofs.Reaching.{flat_load-is, flat_load-holds}
use Rattle.cr_memory.proofs.store.Store.load.Goals as goal

pub load-requires-clause-within : goal.load-requires-clause-within
load-requires-clause-within c =
    pointer_seen c.self.inside.most _ _ c.self.inside.shape _ c.args.at c.self.view_is c.self.invariant.room c.requires

pub returns-clause-value : goal.returns-clause-value
returns-clause-value c =
    let i = c.self.inside in
    let at = pointer_seen i.most _ _ i.shape _ c.args.at c.self.view_is c.self.invariant.room c.requires in
    c.load.ensures ∙ flat_load-is i.most _ _ _ c.args.at c.args.kind c.self.invariant.room at
    ∙ ap (λ m. load_of m c.args.at c.args.kind) c.self.view_is

pub returns-clause-holds : goal.returns-clause-holds
returns-clause-holds c =
    let i = c.self.inside in
    let at = pointer_seen i.most _ _ i.shape _ c.args.at c.self.view_is c.self.invariant.room c.requires in
    rw (c.load.ensures, ← c.self.view_is) (flat_load-holds i.most i.live _ _ _ c.args.at c.args.kind c.self.invariant at)
