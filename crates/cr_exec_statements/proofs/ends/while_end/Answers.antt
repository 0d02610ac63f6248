use Rattle.std.proofs.Common.{Result, sym, subst}
use Rattle.cr_meaning.specs.Meaning.{while_end}
use Rattle.cr_exec_slices.specs.Shown.{Joined}
use Rattle.cr_exec_slices.specs.declared.nodes.Halted.{Halted}
use Rattle.cr_exec_turns.specs.Held.{shows}
use Rattle.cr_exec_turns.specs.declared.held.Held.{Held}
use Rattle.cr_exec_world.specs.Worlds.{world_of}
use Rattle.cr_exec_statements.proofs.Ending.{while_ends}
use Rattle.cr_exec_statements.proofs.ends.while_end.Goals as goal

pub returns-clause-work : goal.returns-clause-work
returns-clause-work c = λ answers z.
    let w = world_of c.args.world.now in
    subst (λ (r : Result Held Halted). Joined shows (while_end c.args.node answers w) r w) (sym c.behind_loop.ensures)
    (while_ends c.args.node answers c.if_end.result w (c.if_end.ensures.work answers z))
