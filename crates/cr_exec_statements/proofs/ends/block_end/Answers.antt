use Rattle.cr_meaning.specs.Language.{went}
use Rattle.cr_meaning.specs.Nodes.{last_in}
use Rattle.cr_exec_world.specs.Worlds.{world_of}
use Rattle.cr_exec_statements.proofs.Ending.{went_joins}
use Rattle.cr_exec_statements.proofs.ends.block_end.Goals as goal

pub returns-clause-work : goal.returns-clause-work
returns-clause-work c = λ answers z.
    c.close_behind.ensures.work (went (last_in answers) (world_of c.args.world.now))
    (went_joins c.last.result (last_in answers) (world_of c.args.world.now) (c.last.ensures.shown answers z))
