use Rattle.std.proofs.Common.{ap}
use Rattle.cr_footprint.specs.Foot.{Sets}
use Rattle.cr_order_watch.proofs.cells.read_too.Goals as goal

pub returns-in-Ok-clause-reads : goal.returns-in-Ok-clause-reads
returns-in-Ok-clause-reads c = λ cell. ap (λ (s : Sets). s.reads cell) c.in-Ok.ensures.added

pub returns-in-Ok-clause-writes : goal.returns-in-Ok-clause-writes
returns-in-Ok-clause-writes c = λ cell. ap (λ (s : Sets). s.writes cell) c.in-Ok.ensures.added
