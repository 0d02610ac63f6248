use Rattle.std.proofs.Common.{◌≡◌, None, subst}
use Rattle.cr_replay.specs.Chains.{Follows, chain_of}
use Rattle.cr_replay.proofs.Ending.{says_end}
use Rattle.cr_replay.proofs.verdict.verdict_of.Goals as goal

pub returns-in-To : goal.returns-in-To
returns-in-To g c =
    let chain = chain_of g.P.Passes c.args.passes.now g.L.Law c.args.law.now None in
    let same : c.in-Ok.from.items ≡ c.args.from.now = c.in-Ok.ensures.items_if_clones_equal (λ x y e. e) in
    says_end chain c.args.from.now c.args.log.now c.args.wanted.now c.in-To.last.items c.in-To.turns c.end_verdict.result
    (subst (λ from. Follows chain from 0 c.args.log.now.accepted.items c.in-To.last.items c.in-To.turns) same c.in-To.ensures.0) c.end_verdict.ensures.yes c.end_verdict.ensures.breaks
