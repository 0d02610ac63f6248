use Rattle.std.proofs.Common.{sym, arith}
use Rattle.std.proofs.lemmas.List.{set-append_left, set-append_right}
use Rattle.cr_sequence.proofs.sequence.set_in.Goals as goal

pub returns-then-place-count-clause-items : goal.returns-then-place-count-clause-items
returns-then-place-count-clause-items g c =
    rw c.set.ensures (sym (set-append_left c.args.part.now.stretch c.args.part.now.after.items c.args.place c.args.item (omega (arith, c.len-count.ensures))))

pub returns-else-place-count-clause-items : goal.returns-else-place-count-clause-items
returns-else-place-count-clause-items g c =
    sym (set-append_right c.args.part.now.stretch c.args.part.now.after.items c.len-count.result c.args.place c.args.item (sym c.len-count.ensures) (omega arith))
