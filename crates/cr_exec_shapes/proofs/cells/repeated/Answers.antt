use Rattle.std.proofs.Common.{◌≡◌, sym, ap, subst, ◌∙◌, IfOk, arith}
use Rattle.cr_meaning_operations.specs.Shapes.{repeated}
use Rattle.cr_exec_shapes.proofs.Parts.{repeated_none}
use Rattle.cr_exec_shapes.proofs.cells.repeated.Goals as goal

pub returns-in-Some : goal.returns-in-Some
returns-in-Some c = λ n h.
    let count = rw c.in-Some.is at h in
    let is : c.in-Some.count ≡ n = omega (arith, count) in
    subst (λ k. IfOk c.times_over.result (λ all. all.items ≡ repeated k c.args.one.now.items)) is c.times_over.ensures

pub returns-then-is_none : goal.returns-then-is_none
returns-then-is_none c = λ n h. c.new.ensures.items ∙ sym (repeated_none n) ∙ ap (repeated n) (sym (c.is_none.ensures.0 c.if-is_none.true))
