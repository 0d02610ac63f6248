use Rattle.std.proofs.lemmas.Option.{slice_get-get_or}
use Rattle.cr_scopes.specs.States.{name_in}
use Rattle.cr_scopes_bindings.proofs.Looking.{followed}
use Rattle.cr_scopes_bindings.proofs.visible.visible_by.Goals as goal

pub loop-event-preserved : goal.loop-event-preserved
loop-event-preserved c =
    followed (name_in c.args.spellings.now) c.args.events.now c.loop-event.event-index c.args.tokens _ c.loop-event.scoped c.follow.new.scoped
    c.loop-event.named.items c.follow.new.named.items c.loop-event.visible.items c.follow.new.visible.items c.loop-event.invariant
    (slice_get-get_or c.args.events.now c.loop-event.event-index _ c.loop-event-test.true)
    c.in_ok-follow.ensures.scoped c.in_ok-follow.ensures.named c.in_ok-follow.ensures.visible
