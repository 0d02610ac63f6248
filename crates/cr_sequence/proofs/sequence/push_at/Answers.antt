use Rattle.std.proofs.Common.{◌++◌, ◌∷◌, []}
use Rattle.std.proofs.lemmas.Result.{on_ok_weaker, on_err_weaker}
use Rattle.cr_sequence.specs.Stretches.{items_in}
use Rattle.cr_sequence.proofs.Parts.{changed_by}
use Rattle.cr_sequence.proofs.sequence.push_at.Goals as goal

pub returns-clause-pushed : goal.returns-clause-pushed
returns-clause-pushed g c = on_ok_weaker c.push_in.result (λ shown part is.
    changed_by c.args.parts.now.items c.args.number part c.index_mut.result.now c.push_in.new.part (λ part. items_in part ++ c.args.item ∷ [])
    c.requires c.index_mut.ensures.value is c.push_in.ensures.start shown) c.push_in.ensures.pushed

pub returns-clause-refused : goal.returns-clause-refused
returns-clause-refused g c = on_err_weaker c.push_in.result (λ shown part is.
    changed_by c.args.parts.now.items c.args.number part c.index_mut.result.now c.push_in.new.part (λ part. items_in part)
    c.requires c.index_mut.ensures.value is c.push_in.ensures.start shown) c.push_in.ensures.refused
