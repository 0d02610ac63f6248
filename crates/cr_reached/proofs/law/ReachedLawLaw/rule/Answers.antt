use Rattle.std.proofs.Common.{subst}
use Rattle.cr_reached.specs.Reached.{ReachRules}
use Rattle.cr_reached.proofs.Reaching.{excludes_reached, refuses_for, rules_in_all}
use Rattle.cr_reached.proofs.law.ReachedLawLaw.rule.Goals as goal

pub returns-clause-lawful : goal.returns-clause-lawful
returns-clause-lawful g c = λ is.
    let law = c.args.self.now in
    let raised = g.S.Stop.raised c.ruled_by.new.stop in
    subst (ReachRules law.any_order law.limits law.name.now c.args.file.now raised) is (rules_in_all law.any_order law.limits law.name.now c.args.file.now raised c.ruled_by.result c.ruled_by.ensures.rules)

pub returns-clause-reason : goal.returns-clause-reason
returns-clause-reason g c = λ why is.
    let law = c.args.self.now in
    let raised = g.S.Stop.raised c.ruled_by.new.stop in
    subst (ReachRules law.any_order law.limits law.name.now c.args.file.now raised) is (rules_in_all law.any_order law.limits law.name.now c.args.file.now raised c.ruled_by.result c.ruled_by.ensures.rules)

pub returns-clause-stopped : goal.returns-clause-stopped
returns-clause-stopped g c = λ is.
    let law = c.args.self.now in
    let raised = g.S.Stop.raised c.ruled_by.new.stop in
    subst (ReachRules law.any_order law.limits law.name.now c.args.file.now raised) is (rules_in_all law.any_order law.limits law.name.now c.args.file.now raised c.ruled_by.result c.ruled_by.ensures.rules)

pub returns-clause-unlawful : goal.returns-clause-unlawful
returns-clause-unlawful g c = λ why is lawful.
    let law = c.args.self.now in
    let raised = g.S.Stop.raised c.ruled_by.new.stop in
    excludes_reached law.any_order law.limits law.name.now c.args.file.now why (subst (ReachRules law.any_order law.limits law.name.now c.args.file.now raised) is (rules_in_all law.any_order law.limits law.name.now c.args.file.now raised c.ruled_by.result c.ruled_by.ensures.rules)) lawful

pub returns-clause-exact : goal.returns-clause-exact
returns-clause-exact g c = λ why is.
    let law = c.args.self.now in
    let raised = g.S.Stop.raised c.ruled_by.new.stop in
    refuses_for c.a_file_has_one_reason.ensures law.any_order law.limits law.name.now c.args.file.now raised c.ruled_by.result why (rules_in_all law.any_order law.limits law.name.now c.args.file.now raised c.ruled_by.result c.ruled_by.ensures.rules) is
