use Rattle.std.proofs.Common.{ap}
use Rattle.cr_memory.proofs.Living.{got, got_none, kept_removed, removed, stays_ended}
use Rattle.cr_memory.proofs.spans.Spans.leave.Goals as goal

pub invariant_of-self : goal.invariant_of-self
invariant_of-self c =
    rw c.take_out.ensures (kept_removed c.self.inside.entered c.self.inside.living.items c.in-Some.index c.self.invariant c.in-Some.ensures.some.within)

pub returns-in-Some-clause-count : goal.returns-in-Some-clause-count
returns-in-Some-clause-count c =
    let i = c.self.inside in
    ap (λ s. s.count) (got i.entered i.living.items _ c.args.number c.in-Some.index _ c.self.invariant c.self.view_is c.in-Some.ensures.some c.index-own.ensures)

pub returns-in-Some-clause-left : goal.returns-in-Some-clause-left
returns-in-Some-clause-left c =
    let i = c.self.inside in
    rw (c.take_out.ensures, ← c.self.view_is) (removed i.entered i.living.items c.args.number c.in-Some.index c.self.invariant c.in-Some.ensures.some)

pub returns-in-None-clause-count : goal.returns-in-None-clause-count
returns-in-None-clause-count c =
    let i = c.self.inside in
    ap (λ s. s.count) (got_none i.entered i.living.items _ c.args.number c.self.invariant c.self.view_is c.in-None.ensures.none)

pub returns-in-None-clause-left : goal.returns-in-None-clause-left
returns-in-None-clause-left c =
    let i = c.self.inside in
    rw (← c.self.view_is) (stays_ended i.entered i.living.items c.args.number c.in-None.ensures.none)
