use Rattle.std.proofs.Common.{◌≡◌, sym, ap, subst, ◌∙◌, IfOk, arith}
use Rattle.cr_sequence.specs.Kept as kept
use Rattle.cr_meaning_operations.specs.Shapes.{repeated}
use Rattle.cr_exec_shapes.proofs.Parts.{repeated_none}
use Rattle.cr_exec_shapes.proofs.Repeating.{same_repeated}
use Rattle.cr_exec_shapes.proofs.cells.elements_of.Goals as goal

pub returns-in-Ok : goal.returns-in-Ok
returns-in-Ok c = λ n h.
    let count = rw c.in-Some.is at h in
    let is : c.in-Some.count ≡ n = omega (arith, count) in
    subst (λ xs. IfOk c.new-in-Ok.result (λ all. all ≡ xs))
    (same_repeated c.in-Ok.times c.args.one.items ∙ ap (λ k. repeated k c.args.one.items) (omega (arith, is, c.in-Ok.ensures)))
    c.new-in-Ok.ensures

pub returns-then-is_none : goal.returns-then-is_none
returns-then-is_none c = λ n h.
    let none = c.is_none.ensures.0 c.if-is_none.true in
    subst (λ xs. IfOk c.new.result (λ all. all ≡ xs))
    (ap (kept.repeated 1) none ∙ sym (repeated_none n) ∙ ap (repeated n) (sym none))
    c.new.ensures
