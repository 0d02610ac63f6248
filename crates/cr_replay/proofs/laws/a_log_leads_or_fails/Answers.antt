use Rattle.std.proofs.Common.{None}
use Rattle.cr_replay.specs.Chains.{chain_of}
use Rattle.cr_replay.proofs.Apart.{apart, one_line}
use Rattle.cr_replay.proofs.laws.a_log_leads_or_fails.Goals as goal

pub returns-clause-apart : goal.returns-clause-apart
returns-clause-apart g c = apart (chain_of g.P.Passes c.args.passes.now g.L.Law c.args.law.now None) (g.met.P.Passes.one c.args.passes.now)

pub returns-clause-one_line : goal.returns-clause-one_line
returns-clause-one_line g c = one_line (chain_of g.P.Passes c.args.passes.now g.L.Law c.args.law.now None) (g.met.P.Passes.one c.args.passes.now)
