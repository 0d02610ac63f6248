use Rattle.std.proofs.Common.{subst}
use Rattle.cr_order.specs.Orders.{OrderRules}
use Rattle.cr_order.proofs.Ordering.{excludes_order, refuses_for, rules_in_all}
use Rattle.cr_order.proofs.law.OrderLawLaw.rule_on_tokens.Goals as goal

pub returns-clause-lawful : goal.returns-clause-lawful
returns-clause-lawful g c = λ is.
    let limits = c.args.self.now.limits in
    let raised = g.S.Stop.raised c.ruled_by_tokens.new.stop in
    subst (OrderRules limits c.args.file.now raised) is (rules_in_all limits c.args.file.now raised c.ruled_by_tokens.result c.ruled_by_tokens.ensures.rules)

pub returns-clause-unlawful : goal.returns-clause-unlawful
returns-clause-unlawful g c = λ why is lawful.
    let limits = c.args.self.now.limits in
    let raised = g.S.Stop.raised c.ruled_by_tokens.new.stop in
    excludes_order limits c.args.file.now why
    (subst (OrderRules limits c.args.file.now raised) is (rules_in_all limits c.args.file.now raised c.ruled_by_tokens.result c.ruled_by_tokens.ensures.rules)) lawful

pub returns-clause-reason : goal.returns-clause-reason
returns-clause-reason g c = λ why is.
    let limits = c.args.self.now.limits in
    let raised = g.S.Stop.raised c.ruled_by_tokens.new.stop in
    subst (OrderRules limits c.args.file.now raised) is (rules_in_all limits c.args.file.now raised c.ruled_by_tokens.result c.ruled_by_tokens.ensures.rules)

pub returns-clause-stopped : goal.returns-clause-stopped
returns-clause-stopped g c = λ is.
    let limits = c.args.self.now.limits in
    let raised = g.S.Stop.raised c.ruled_by_tokens.new.stop in
    subst (OrderRules limits c.args.file.now raised) is (rules_in_all limits c.args.file.now raised c.ruled_by_tokens.result c.ruled_by_tokens.ensures.rules)

pub returns-clause-exact : goal.returns-clause-exact
returns-clause-exact g c = λ why is.
    let limits = c.args.self.now.limits in
    let raised = g.S.Stop.raised c.ruled_by_tokens.new.stop in
    refuses_for c.a_file_has_one_reason.ensures limits c.args.file.now raised c.ruled_by_tokens.result why (rules_in_all limits c.args.file.now raised c.ruled_by_tokens.result c.ruled_by_tokens.ensures.rules) is
