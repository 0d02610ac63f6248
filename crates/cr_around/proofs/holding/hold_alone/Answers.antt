use Rattle.std.proofs.Common.{◌∙◌}
use Rattle.cr_around.proofs.Alone.{behind}
use Rattle.cr_around.proofs.holding.hold_alone.Goals as goal

pub returns : goal.returns
returns g c = record {
  alone = behind c.args.folder.now c.args.name.now c.args.bytes.now c.as_str.result.now (g.P.Place.told c.args.place.now) (g.P.Place.told c.clear.new.self) (g.P.Place.told c.put.new.self)
      c.put.result (c.as_str.ensures.value ∙ c.in-Ok.ensures) c.in_ok-clear.ensures.cleared c.put.ensures.put;
}
