use Rattle.std.proofs.Common.{◌≤◌, ◌≡◌, ℕ, false, length, ap, ◌∙◌, sym, subst, arith, List}
use Rattle.cr_memory.specs.declared.span.Span.{Span}
use Rattle.cr_memory.specs.Flat.{span_at}
use Rattle.cr_memory.proofs.Living.{next_seen, none_next, length-spans_of}
use Rattle.cr_memory.proofs.spans.Spans.next.Goals as goal

pub returns-then-index-len-clause-some : goal.returns-then-index-len-clause-some
returns-then-index-len-clause-some c =
    let i = c.self.inside in
    next_seen i.entered i.living.items _ c.args.from c.below-index.result _ c.self.invariant c.self.view_is c.below-index.ensures (omega arith) c.index-own.ensures

pub returns-then-index-len-clause-few : goal.returns-then-index-len-clause-few
returns-then-index-len-clause-few c =
    let e = sym (length-spans_of c.self.inside.entered c.self.inside.living.items) ∙ ap length c.self.view_is in
    omega (arith, c.self.invariant.few)

pub returns-else-index-len-clause-none : goal.returns-else-index-len-clause-none
returns-else-index-len-clause-none c =
    let i = c.self.inside in
    let P : List Span → Type 0 = λ s. (n : ℕ) → c.args.from ≤ n → (span_at s n).alive ≡ false in
    subst P c.self.view_is (none_next i.entered i.living.items c.args.from c.below-index.result c.self.invariant c.below-index.ensures (omega arith))

pub returns-else-index-len-clause-few : goal.returns-else-index-len-clause-few
returns-else-index-len-clause-few c =
    let e = sym (length-spans_of c.self.inside.entered c.self.inside.living.items) ∙ ap length c.self.view_is in
    omega (arith, c.self.invariant.few)
