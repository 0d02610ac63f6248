use Rattle.std.proofs.Common.{arith}
use Rattle.cr_claims.proofs.Joining.{may_join}
use Rattle.cr_claims.proofs.seats.Claims.join.Goals as goal

pub join_seat-requires : goal.join_seat-requires
join_seat-requires c =
    let claims = c.args.self.now in
    let pass = c.args.pass.now in
    let other = c.args.other in (
      c.requires.of.0.0,
      c.requires.of.1.0,
      other.in_force.0,
      omega (arith, claims.two_words.0),
      rw claims.about.0 (may_join claims.len pass.seat.id other.seat.id pass.seat.me.0 other.seat.me.0 pass.in_force.1 other.in_force.1 c.requires.keeper c.requires.rests),
    )
