use Rattle.cr_meaning_declarations.proofs.DeclaredLemmas.Bodies.{bodies}
use Rattle.cr_meaning_declarations.proofs.declared.calls_go_on_with_bodies.Goals as goal

pub returns : goal.returns
returns c = bodies
