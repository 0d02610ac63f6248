use Rattle.std.proofs.Common.{◌≡◌, refl, arith}
use Rattle.cr_memory.proofs.Beginning.{refilled}
use Rattle.cr_memory.proofs.flat.refill.Goals as goal

pub returns-clause-done : goal.returns-clause-done
returns-clause-done c = λ e.
    let often : c.in-Some.often ≡ c.args.times = c.if-often-times.false in
    refilled c.args.spans.now c.args.cells.now c.refill.new.self c.args.shape.now c.in-Some.own.now c.args.object c.args.times c.args.pattern.items c.requires.room
    c.requires.same_length c.in-Some.ensures.0 (rw often at c.in-Some.ensures.1) (omega (arith, c.len.ensures, c.len-else-own-len.ensures))
    ((rw c.as_slice.ensures.value at c.if-not-own_hold.ensures) refl) (rw c.get.ensures at (rw often at (c.refill.ensures.done e)))
