use Rattle.cr_memory.proofs.Repeating.{begins_either}
use Rattle.cr_memory.proofs.lifetime.stretch_shape.Goals as goal

pub returns-clause-begun : goal.returns-clause-begun
returns-clause-begun c = begins_either c.args.shapes.now _ c.push_stretch.new.self c.push_stretch.result c.push_stretch.ensures.pushed c.push_stretch.ensures.refused
