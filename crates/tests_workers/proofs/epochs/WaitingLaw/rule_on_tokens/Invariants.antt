use Rattle.std.proofs.Common.{◌≡◌, false}
use Rattle.tests_workers.proofs.epochs.WaitingLaw.rule_on_tokens.Given as goal

abbrev pub invariant-loop : goal.invariant-loop
invariant-loop g l = (g.S.Stop.raised l.stop ≡ false) × (g.S.Stop.held l.stop ≡ g.S.Stop.held l.fn.stop)
