use Rattle.std.proofs.Common.{set, ap, ◌∙◌}
use Rattle.std.proofs.lemmas.List.{get_or_read}
use Rattle.cr_memory.specs.declared.spans.Living.{Living}
use Rattle.cr_memory.specs.Flat.{span_at, moved_span}
use Rattle.cr_memory.proofs.Living.{nobody, moved, got_none}
use Rattle.cr_memory.proofs.spans.Spans.move_to.Goals as goal

pub returns-in-Some : goal.returns-in-Some
returns-in-Some c =
    let i = c.self.inside in
    let place = c.in-Some.ensures.some in
    let read = get_or_read i.living.items c.in-Some.index _ place.within c.index_mut.ensures.value nobody in
    let own : Living = record { first = c.args.first; number = c.index_mut.result.now.number; count = c.index_mut.result.now.count } in
    moved i.entered i.living.items c.args.number c.in-Some.index own c.self.invariant place (ap (λ x. x.number) read) (ap (λ x. x.count) read)
    ∙ ap (λ s. set s c.args.number (moved_span c.args.first (span_at s c.args.number))) c.self.view_is

pub returns-in_default : goal.returns-in_default
returns-in_default c =
    let i = c.self.inside in
    let gone = got_none i.entered i.living.items c.args.self.now c.args.number c.self.invariant c.self.view_is c.in_default.ensures.none in
    absurd (cc (c.requires, ap (λ s. s.alive) gone))
