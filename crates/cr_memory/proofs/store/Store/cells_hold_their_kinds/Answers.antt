use Rattle.std.proofs.Common.{subst}
use Rattle.cr_memory.specs.Laws.{HoldsKinds}
use Rattle.cr_memory.proofs.Loading.{holds-kinds}
use Rattle.cr_memory.proofs.store.Store.cells_hold_their_kinds.Goals as goal

pub returns : goal.returns
returns c =
    let i = c.self.inside in
    subst HoldsKinds c.self.view_is (holds-kinds i.most i.live i.spans i.cells i.shape c.self.invariant)
