use Rattle.std.proofs.Common.{take, length, ap, sym, ◌∙◌, arith}
use Rattle.std.proofs.lemmas.List.{take_all}
use Rattle.cr_sequence.proofs.sequence.Sequence.truncate.Goals as goal

pub invariant_of-self : goal.invariant_of-self
invariant_of-self g c = c.cut_behind.ensures.counted

pub returns-then-count-self : goal.returns-then-count-self
returns-then-count-self g c =
    let counted = c.self.invariant.counted in
    let view = ap length c.self.view_is in
    sym (take_all c.args.count _ (omega arith))

pub returns : goal.returns
returns g c = c.cut_behind.ensures.shown ∙ ap (take c.args.count) c.self.view_is
