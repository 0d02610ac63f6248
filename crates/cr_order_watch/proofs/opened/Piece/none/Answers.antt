use Rattle.std.proofs.Common.{refl, ap}
use Rattle.cr_footprint.specs.Foot.{Sets}
use Rattle.cr_order_watch.proofs.opened.Piece.none.Goals as goal

pub returns : goal.returns
returns c = λ p. record {
  loud_so = refl;
  reads = λ cell. ap (λ (s : Sets). s.reads cell) c.none.ensures;
  writes = λ cell. ap (λ (s : Sets). s.writes cell) c.none.ensures;
}
