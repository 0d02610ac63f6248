use Rattle.std.proofs.Common.{arith}
use Rattle.cr_claims.proofs.Joining.{may_split}
use Rattle.cr_claims.proofs.seats.Claims.split.Goals as goal

pub split_seat-seat-requires : goal.split_seat-seat-requires
split_seat-seat-requires c =
    let claims = c.args.self.now in
    let pass = c.args.pass.now in (
      c.requires.of.0,
      omega (arith, claims.two_words.0),
      rw claims.about.0 (may_split claims.len pass.seat.id pass.seat.me.0 pass.in_force.1 c.requires.keeper c.requires.few),
    )
