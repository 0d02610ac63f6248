use Rattle.std.proofs.Common.{◌≡◌, ◌+◌, ◌++◌, length, ap, ◌∙◌, arith}
use Rattle.cr_sequence.specs.Kept.{repeated}
use Rattle.cr_sequence.proofs.Showing.{length-repeated}
use Rattle.cr_sequence.proofs.Parts.{stretch_done}
use Rattle.cr_sequence.proofs.sequence.Sequence.push_stretch.Goals as goal

pub invariant_of-self : goal.invariant_of-self
invariant_of-self g c =
    let i = c.self.inside in
    let own = repeated c.args.times c.args.pattern.items in
    let made = c.in_ok-stretch.ensures in
    let size : c.len-count.result ≡ length own = c.len-count.ensures ∙ ap length made in
    let n = length-repeated c.args.times c.args.pattern.items in
    let few = c.requires.few in
    rw c.in-Ok.ensures.pushed (stretch_done i.count (i.count + c.len-count.result) i.flat.items i.parts.items c.part_with-part.result own c.self.invariant
    c.part_with-part.ensures.start (c.part_with-part.ensures.items ∙ made) (omega arith) (omega arith)).counted

pub returns-in-Ok-clause-pushed : goal.returns-in-Ok-clause-pushed
returns-in-Ok-clause-pushed g c =
    let i = c.self.inside in
    let own = repeated c.args.times c.args.pattern.items in
    let made = c.in_ok-stretch.ensures in
    let size : c.len-count.result ≡ length own = c.len-count.ensures ∙ ap length made in
    let n = length-repeated c.args.times c.args.pattern.items in
    let few = c.requires.few in
    rw c.in-Ok.ensures.pushed (stretch_done i.count (i.count + c.len-count.result) i.flat.items i.parts.items c.part_with-part.result own c.self.invariant
    c.part_with-part.ensures.start (c.part_with-part.ensures.items ∙ made) (omega arith) (omega arith)).shown
    ∙ ap (λ xs. xs ++ own) c.self.view_is

pub overflow_add-self : goal.overflow_add-self
overflow_add-self g c =
    let i = c.self.inside in
    let own = repeated c.args.times c.args.pattern.items in
    let size : c.len-count.result ≡ length own = c.len-count.ensures ∙ ap length c.in_ok-stretch.ensures in
    let n = length-repeated c.args.times c.args.pattern.items in
    let few = c.requires.few in
    omega arith
