use Rattle.std.proofs.Common.{ap, sym, ◌∙◌}
use Rattle.std.specs.Prelude.{Ok}
use Rattle.cr_memory.specs.Access.{is_null_or_end, reaching, reach_of}
use Rattle.cr_memory.proofs.View.{has_ended-memory_of}
use Rattle.cr_memory.proofs.store.Store.reach.Goals as goal

pub returns : goal.returns
returns c =
    let i = c.self.inside in
    c.reach.ensures ∙ ap (λ b. reaching b (is_null_or_end c.args.at) (Ok tt)) (sym (has_ended-memory_of i.most i.spans i.cells i.shape c.args.at))
    ∙ ap (λ m. reach_of m c.args.at) c.self.view_is
