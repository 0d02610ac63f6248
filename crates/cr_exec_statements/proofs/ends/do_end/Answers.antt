use Rattle.std.proofs.Common.{Result, sym, subst}
use Rattle.cr_meaning.specs.Meaning.{do_end}
use Rattle.cr_exec_slices.specs.Shown.{Joined}
use Rattle.cr_exec_slices.specs.declared.nodes.Halted.{Halted}
use Rattle.cr_exec_turns.specs.Held.{shows}
use Rattle.cr_exec_turns.specs.declared.held.Held.{Held}
use Rattle.cr_exec_world.specs.Worlds.{world_of}
use Rattle.cr_exec_statements.proofs.Ending.{do_ends}
use Rattle.cr_exec_statements.proofs.ends.do_end.Goals as goal

pub returns-clause-work : goal.returns-clause-work
returns-clause-work c = λ answers z.
    let w = world_of c.args.world.now in
    subst (λ (r : Result Held Halted). Joined shows (do_end c.args.node answers w) r w) (sym c.behind_loop.ensures)
    (do_ends c.args.node answers c.second_end.result w (c.second_end.ensures.work answers z))
