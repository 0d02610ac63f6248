use Rattle.std.proofs.Common.{sym, ap, ◌∙◌, rules, arith}
use Rattle.std.proofs.lemmas.Result.{on_ok_weaker}
use Rattle.cr_meaning.specs.Language.{went}
use Rattle.cr_meaning.specs.Nodes.{Act}
use Rattle.cr_meaning.specs.World.{World, next}
use Rattle.cr_exec_world.specs.Worlds.{world_of}
use Rattle.cr_exec_world.proofs.Entering.{worked_by, enters_with, room_if}
use Rattle.cr_exec_world.proofs.objects.enter.Goals as goal

pub returns-in-Ok-write-clause-work : goal.returns-in-Ok-write-clause-work
returns-in-Ok-write-clause-work c =
    let w : World = world_of c.args.world.now in
    let f : World → Act = λ v. went next v in
    worked_by _ c.bind.result _
    (on_ok_weaker c.bind.result (λ e.
    enters_with w c.args.node c.in-Ok.object c.args.shape.now c.args.cells.now c.enter.new.self c.write.new.store c.in-Ok.ensures.entered.0 c.in-Ok.ensures.entered.1
    (room_if _ c.in-Ok.object _ c.in-Ok.ensures.no_room.1) (search rules) c.in-Ok-write.ensures.says ∙ ap f (sym e)) c.bind.ensures.bound)
    c.bind.ensures.causes
