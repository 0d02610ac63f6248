use Rattle.std.proofs.Common.{sym, ap, ◌∙◌, arith}
use Rattle.cr_memory.specs.Access.{is_literal}
use Rattle.cr_memory.proofs.Repeating.{found, none_more}
use Rattle.cr_memory.proofs.flat.has_literal_each.Goals as goal

pub returns-then-is_literal : goal.returns-then-is_literal
returns-then-is_literal c =
    sym (found (λ s. is_literal s.1) c.args.shape.now c.args.from c.args.count c.loop-i.i _ c.loop-i-test.true c.requires
    (ap (λ s. is_literal s.1) (sym (rw c.place_in.ensures at c.own_at.ensures)) ∙ sym c.is_literal.ensures ∙ c.if-is_literal.true))

pub loop-i-preserved : goal.loop-i-preserved
loop-i-preserved c =
    none_more (λ s. is_literal s.1) c.args.shape.now c.args.from c.loop-i.i _ (omega (arith, c.requires)) c.loop-i.invariant
    (ap (λ s. is_literal s.1) (sym (rw c.place_in.ensures at c.own_at.ensures)) ∙ sym c.is_literal.ensures ∙ c.if-is_literal.false)
