use Rattle.std.proofs.Common.{◌≡◌, sym, ap, ◌∙◌}
use Rattle.pass_names.specs.Short.{free_from}
use Rattle.pass_names.proofs.Free.{found, passed}
use Rattle.pass_names.proofs.short.first_free.Goals as goal

pub returns-then-branch-clause-free : goal.returns-then-branch-clause-free
returns-then-branch-clause-free c =
    sym (found c.args.file.now c.args.tokens.now c.loop-number.number c.in_ok-most.most c.in_ok-is_free.field-0 c.loop-number-test.true c.in_ok-is_free.ensures c.if-branch.true)
    ∙ c.loop-number.invariant ∙ ap (free_from c.args.file.now c.args.tokens.now 0) c.in_ok-most.ensures.most

pub loop-number-preserved : goal.loop-number-preserved
loop-number-preserved c =
    sym (passed c.args.file.now c.args.tokens.now c.loop-number.number c.in_ok-most.most c.in_ok-is_free.field-0 c.loop-number-test.true c.in_ok-is_free.ensures c.if-branch.false)
    ∙ c.loop-number.invariant
