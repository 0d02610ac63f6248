use Rattle.cr_memory.proofs.Beginning.{run_seen}
use Rattle.cr_memory.proofs.store.Store.run_of.Goals as goal

pub returns : goal.returns
returns c =
    let i = c.self.inside in
    run_seen i.most i.spans i.cells i.shape _ c.args.object c.run_of.result c.self.view_is c.run_of.ensures
