use Rattle.cr_memory.proofs.Living.{got, got_none}
use Rattle.cr_memory.proofs.spans.Spans.get.Goals as goal

pub returns-in-Some : goal.returns-in-Some
returns-in-Some c =
    let i = c.self.inside in
    got i.entered i.living.items _ c.args.number c.in-Some.index _ c.self.invariant c.self.view_is c.in-Some.ensures.some c.index-own.ensures

pub returns-in-None : goal.returns-in-None
returns-in-None c =
    let i = c.self.inside in
    got_none i.entered i.living.items _ c.args.number c.self.invariant c.self.view_is c.in-None.ensures.none
