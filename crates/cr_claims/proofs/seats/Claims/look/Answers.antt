use Rattle.std.proofs.Common.{arith}
use Rattle.cr_claims.proofs.Steps.{may_look}
use Rattle.cr_claims.proofs.seats.Claims.look.Goals as goal

pub load-found-requires : goal.load-found-requires
load-found-requires c =
    let claims = c.args.self.now in
    let pass = c.args.pass.now in (
      c.requires.of.0,
      omega (arith, claims.two_words.0),
      rw claims.about.0 (may_look claims.len claims.table.shared.table_id.slots pass.seat.id pass.seat.me pass.in_force.1),
    )
