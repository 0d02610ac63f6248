use Rattle.std.proofs.Common.{◌++◌, ◌∷◌, [], ap, ◌∙◌}
use Rattle.cr_sequence.specs.Kept.{repeated}
use Rattle.cr_sequence.proofs.Extending.{flat_extended, so_many}
use Rattle.cr_sequence.proofs.sequence.Sequence.extend_plain_with.Goals as goal

pub returns-clause-extended : goal.returns-clause-extended
returns-clause-extended g c = λ e.
    let i = c.self.inside in
    let few = c.may_extend.ensures.few c.if-not-may_extend.false in
    let done = flat_extended i.count c.args.count i.flat.items c.extend_flat_with.new.flat.items i.parts.items (repeated c.args.count (c.args.item ∷ [])) c.self.invariant
    (c.may_extend.ensures.plain c.if-not-may_extend.false) (so_many c.args.count c.args.item) few (c.extend_flat_with.ensures.extended c.if-not-extend_flat_with.false) in
    done.shown ∙ ap (λ xs. xs ++ (repeated c.args.count (c.args.item ∷ []))) c.self.view_is

pub invariant_of-self : goal.invariant_of-self
invariant_of-self g c = rw (c.extend_flat_with.ensures.same c.if-not-extend_flat_with.true) c.self.invariant

pub invariant_of-self-2 : goal.invariant_of-self-2
invariant_of-self-2 g c =
    let i = c.self.inside in
    let few = c.may_extend.ensures.few c.if-not-may_extend.false in
    let done = flat_extended i.count c.args.count i.flat.items c.extend_flat_with.new.flat.items i.parts.items (repeated c.args.count (c.args.item ∷ [])) c.self.invariant
    (c.may_extend.ensures.plain c.if-not-may_extend.false) (so_many c.args.count c.args.item) few (c.extend_flat_with.ensures.extended c.if-not-extend_flat_with.false) in
    done.counted
