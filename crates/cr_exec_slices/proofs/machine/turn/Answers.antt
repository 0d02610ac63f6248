use Rattle.cr_exec_slices.proofs.machine.turn.Goals as goal

pub returns-in-Reach-clause-turns : goal.returns-in-Reach-clause-turns
returns-in-Reach-clause-turns g c = rw c.in-Reach.is (λ waiting h marks n. c.reach.ensures.turns waiting h marks n)

pub returns-in-Turn-clause-turns : goal.returns-in-Turn-clause-turns
returns-in-Turn-clause-turns g c = rw c.in-Turn.is (λ waiting h marks n. c.go_on.ensures.turns waiting h marks n)
