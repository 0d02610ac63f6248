use Rattle.std.proofs.Common.{ap, sym, ◌∙◌, is_some}
use Rattle.cr_memory.specs.Memory.{live_object}
use Rattle.cr_memory.proofs.View.{lives-memory_of}
use Rattle.cr_memory.proofs.store.Store.is_live.Goals as goal

pub returns : goal.returns
returns c =
    let i = c.self.inside in
    ap (λ s. s.alive) c.get.ensures ∙ sym (lives-memory_of i.most i.spans i.cells i.shape c.args.object)
    ∙ ap (λ m. is_some (live_object m c.args.object)) c.self.view_is
