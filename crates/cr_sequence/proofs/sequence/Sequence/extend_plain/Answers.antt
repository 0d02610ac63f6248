use Rattle.std.proofs.Common.{◌++◌, length, refl, ap, ◌∙◌}
use Rattle.cr_sequence.proofs.Extending.{flat_extended}
use Rattle.cr_sequence.proofs.sequence.Sequence.extend_plain.Goals as goal

pub returns-clause-extended : goal.returns-clause-extended
returns-clause-extended g c = λ e.
    let i = c.self.inside in
    let few = c.may_extend.ensures.few c.if-not-may_extend.false in
    let done = flat_extended i.count (length c.args.items.now) i.flat.items c.extend_flat.new.flat.items i.parts.items c.args.items.now c.self.invariant
    (c.may_extend.ensures.plain c.if-not-may_extend.false) refl few (c.extend_flat.ensures.extended c.if-not-extend_flat.false) in
    done.shown ∙ ap (λ xs. xs ++ c.args.items.now) c.self.view_is

pub invariant_of-self : goal.invariant_of-self
invariant_of-self g c = rw (c.extend_flat.ensures.same c.if-not-extend_flat.true) c.self.invariant
