use Rattle.std.proofs.Common.{None, subst}
use Rattle.cr_replay.specs.Chains.{chain_of}
use Rattle.cr_replay.specs.Checks.{Says}
use Rattle.cr_replay.proofs.Apart.{right_break, right_lead}
use Rattle.cr_replay.proofs.verdict.check.Goals as goal

pub returns-clause-leads : goal.returns-clause-leads
returns-clause-leads g c =
    λ is. subst (Says (chain_of g.P.Passes c.args.passes.now g.L.Law c.args.law.now None) c.args.from.now c.args.log.now c.args.wanted.now) is c.verdict_of.ensures

pub returns-clause-breaks : goal.returns-clause-breaks
returns-clause-breaks g c =
    λ k is. subst (Says (chain_of g.P.Passes c.args.passes.now g.L.Law c.args.law.now None) c.args.from.now c.args.log.now c.args.wanted.now) is c.verdict_of.ensures

pub returns-clause-every_lead : goal.returns-clause-every_lead
returns-clause-every_lead g c =
    right_lead (chain_of g.P.Passes c.args.passes.now g.L.Law c.args.law.now None) (g.met.P.Passes.one c.args.passes.now) c.args.from.now c.args.wanted.now c.args.log.now c.verdict_of.result c.verdict_of.ensures

pub returns-clause-every_break : goal.returns-clause-every_break
returns-clause-every_break g c =
    λ k. right_break (chain_of g.P.Passes c.args.passes.now g.L.Law c.args.law.now None) (g.met.P.Passes.one c.args.passes.now) c.args.from.now c.args.wanted.now c.args.log.now k c.verdict_of.result c.verdict_of.ensures
