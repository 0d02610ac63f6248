use Rattle.cr_replay.specs.Chains.{chain_of}
use Rattle.cr_replay.proofs.Going.{ended_by, goes_by, none_of, some_of, stops_by}
use Rattle.cr_replay.proofs.rows.follow.Goals as goal

pub returns-in_default : goal.returns-in_default
returns-in_default g c =
    let l = c.loop-one in
    ended_by (chain_of g.P.Passes c.args.passes.now g.L.Law c.args.law.now c.args.limit) c.args.from.items c.args.rows.now.items
    l.file.items l.size l.turns l.number l.rest.now l.invariant c.in_default.ensures

pub returns-in_default-found : goal.returns-in_default-found
returns-in_default-found g c =
    let l = c.loop-one in
    stops_by (chain_of g.P.Passes c.args.passes.now g.L.Law c.args.law.now c.args.limit) c.args.from.items c.args.rows.now.items
    l.file.items l.size l.turns l.number l.rest.now l.invariant c.in-Some.one.now c.in-Some.more.now c.in-Some.ensures (none_of c.in-Ok-step.found _ _ c.in-Ok-step.ensures c.in_default-found.is)

pub loop-one-preserved : goal.loop-one-preserved
loop-one-preserved g c =
    let l = c.loop-one in
    goes_by (chain_of g.P.Passes c.args.passes.now g.L.Law c.args.law.now c.args.limit) c.args.from.items c.args.rows.now.items
    l.file.items l.size l.turns l.number l.rest.now l.invariant c.in-Some.one.now c.in-Some.more.now c.in-Some-found.next.items c.in-Some.ensures
    (some_of c.in-Ok-step.found _ _ c.in-Some-found.next c.in-Ok-step.ensures c.in-Some-found.is)
