use Rattle.cr_exec_world.specs.Worlds.{world_of}
use Rattle.cr_exec_calls.proofs.Ending.{function_ends}
use Rattle.cr_exec_calls.proofs.end.function_end.Goals as goal

pub returns-in-Ok-shallower-clause-work : goal.returns-in-Ok-shallower-clause-work
returns-in-Ok-shallower-clause-work c = λ callee answers z.
    function_ends callee c.args.is_main c.pop.new.self.top.done c.in-Some.value c.in-Ok.taken (world_of c.args.world.now) (world_of c.shallower.new.world)
    c.args.stack.now.top.done c.pop.result answers c.pop.ensures.last c.in-Some.ensures c.in-Ok.ensures.taken c.in-Ok-shallower.ensures.work.works z
