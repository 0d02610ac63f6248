use Rattle.std.proofs.Common.{◌+◌, ◌-◌, length, take, drop, sym, ap, arith}
use Rattle.std.proofs.lemmas.Option.{get_or_from_slice_get}
use Rattle.cr_sequence.proofs.Writing.{copied_up_to, length-overwritten}
use Rattle.cr_sequence.proofs.sequence.set_up.Goals as goal

pub get-item-requires : goal.get-item-requires
get-item-requires g c =
    let size = ap length c.loop-i.invariant in
    omega (
      arith,
      c.requires.within,
      c.requires.up,
      length-overwritten c.args.items.now (c.args.to + c.loop-i.i) (drop c.loop-i.i (take c.args.count (drop c.args.from c.args.items.now))),
    )

pub set-requires : goal.set-requires
set-requires g c =
    let size = ap length c.loop-i.invariant in
    omega (
      arith,
      c.requires.within,
      length-overwritten c.args.items.now (c.args.to + c.loop-i.i) (drop c.loop-i.i (take c.args.count (drop c.args.from c.args.items.now))),
    )

pub loop-i-preserved : goal.loop-i-preserved
loop-i-preserved g c =
    let item = c.get-item.result in
    let read = sym (get_or_from_slice_get _ (c.args.from + (c.loop-i.i - 1)) item item (rw c.loop-i.invariant at c.get-item.ensures)) in
    rw (c.set.ensures, c.loop-i.invariant)
    (copied_up_to c.args.items.now c.args.from c.args.to c.args.count (c.loop-i.i - 1) c.loop-i.i item
    (omega arith) c.requires.up (omega arith) (omega (arith, c.requires.within, c.requires.up)) read)
