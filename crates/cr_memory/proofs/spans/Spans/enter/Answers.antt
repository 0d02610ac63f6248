use Rattle.std.proofs.Common.{◌<◌, length, sym, ap, ◌∙◌, refl, arith}
use Rattle.cr_memory.specs.declared.spans.Living.{Living}
use Rattle.cr_memory.proofs.Living.{length-spans_of, kept_pushed, pushed}
use Rattle.cr_memory.proofs.spans.Spans.enter.Goals as goal

pub overflow_add-self : goal.overflow_add-self
overflow_add-self c =
    let e = sym (length-spans_of c.self.inside.entered c.self.inside.living.items) ∙ ap length c.self.view_is in
    omega (arith, c.requires)

pub invariant_of-self-2 : goal.invariant_of-self-2
invariant_of-self-2 c =
    let e = sym (length-spans_of c.self.inside.entered c.self.inside.living.items) ∙ ap length c.self.view_is in
    let room : c.self.inside.entered < 4294967295 = omega (arith, c.requires) in
    let own : Living = record { first = c.args.first; number = c.self.inside.entered; count = c.args.count } in
    rw c.in_ok-push.ensures.items (kept_pushed c.self.inside.entered c.self.inside.living.items own c.self.invariant refl room)

pub returns-clause-number : goal.returns-clause-number
returns-clause-number c = sym (length-spans_of c.self.inside.entered c.self.inside.living.items) ∙ ap length c.self.view_is

pub returns-clause-entered : goal.returns-clause-entered
returns-clause-entered c =
    let own : Living = record { first = c.args.first; number = c.self.inside.entered; count = c.args.count } in
    rw (c.in_ok-push.ensures.items, ← c.self.view_is) (pushed c.self.inside.entered c.self.inside.living.items own c.self.invariant refl)
