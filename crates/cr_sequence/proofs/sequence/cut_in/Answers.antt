use Rattle.std.proofs.Common.{◌≡◌, ◌-◌, ◌++◌, take, length, ap, ◌∙◌, arith}
use Rattle.cr_sequence.proofs.Parts.{take_both}
use Rattle.cr_sequence.proofs.sequence.cut_in.Goals as goal

pub returns-clause-items : goal.returns-clause-items
returns-clause-items g c =
    let own = c.args.part.now.stretch in
    let rest = c.args.part.now.after.items in
    let left : c.saturating_sub.result ≡ c.args.count - length own = omega (arith, c.len-own.ensures, c.saturating_sub.ensures) in
    rw (c.truncate.ensures, c.cut_items.ensures) (ap (λ n. take c.args.count own ++ take n rest) left ∙ take_both own rest c.args.count)
