-- What ties the work of an expression's node to the meaning of nodes.
use Rattle.std.specs.Prelude.{◌≡◌, ℕ, true, List}
use Rattle.cr_meaning.specs.World.{Program, World, Answer}
use Rattle.cr_meaning.specs.Nodes.{expression}
use Rattle.cr_meaning.specs.Meaning.{join_by}
use Rattle.cr_meaning.specs.declared.op.Callee.{Callee}
use Rattle.cr_meaning.specs.declared.op.Op.{Op}
use Rattle.cr_meaning.specs.declared.op.Work.TheVariants as work
use Rattle.cr_eval_join.specs.Turns.{is_expression}

-- the own work of a node of an expression, calls aside, is what `Joins` speaks of
abbrev pub ExpressionsAreJoined : Type 0
ExpressionsAreJoined = (p : Program) (node : ℕ) (op : Op) (done : List Answer) (world : World) → is_expression op.work ≡ true
    → ((callee : Callee) → op.work ≡ work.Call callee → ⊥) → join_by p node op op.work done world ≡ expression p node op done world
