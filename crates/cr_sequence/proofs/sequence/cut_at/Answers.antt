use Rattle.std.proofs.Common.{take}
use Rattle.cr_sequence.specs.Stretches.{items_in}
use Rattle.cr_sequence.proofs.Parts.{changed_by}
use Rattle.cr_sequence.proofs.sequence.cut_at.Goals as goal

pub returns : goal.returns
returns g c = λ part is.
    changed_by c.args.parts.now.items c.args.number part c.index_mut.result.now c.cut_in.new.part (λ part. take c.args.count (items_in part))
    c.requires c.index_mut.ensures.value is c.cut_in.ensures.start c.cut_in.ensures.items
