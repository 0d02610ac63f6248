use Rattle.std.proofs.Common.{ℕ, ap, rules}
use Rattle.atomic_table.specs.declared.shared.Seat.{Seat}
use Rattle.cr_claims.specs.declared.view.View.{View}
use Rattle.cr_pool.proofs.Lists.{steady_of, steady_list}
use Rattle.cr_pool.proofs.trial.rule_on.Goals as goal

pub returns-clause-stays : goal.returns-clause-stays
returns-clause-stays g c =
    let held = ap (λ (h : Seat ℕ View × ℕ). h.0) c.rule_on_tokens.ensures.held in
    let stays = steady_of c.args.claims.now c.args.pass.now c.rule_on_tokens.new.stop.pass.now held c.requires.of in
    search rules

pub returns-clause-same : goal.returns-clause-same
returns-clause-same g c =
    let held = ap (λ (h : Seat ℕ View × ℕ). h.0) c.rule_on_tokens.ensures.held in
    let same = steady_list c.args.pass.now c.rule_on_tokens.new.stop.pass.now held in
    search rules
