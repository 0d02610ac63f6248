use Rattle.std.proofs.Common.{◌≡◌, ◌<◌, ◌≤◌, length, subst, arith}
use Rattle.cr_reduce.specs.Sizes.{HasSize}
use Rattle.cr_cursor.specs.Variants.{cursors, place_of}
use Rattle.cr_cursor.proofs.Members.{of_cursors, place_within}
use Rattle.cr_reduce.proofs.Sizes.{one_size}
use Rattle.cr_reduce.proofs.Walks.{left_falls, left_low}
use Rattle.cr_reduce.proofs.take.take.Goals as goal

pub returns-clause-sound : goal.returns-clause-sound
returns-clause-sound g c =
    let offers = g.P.Passes.offers c.args.passes.now in
    let offer = g.P.Passes.offer c.args.passes.now c.in_ok-prep.prep in
    let file = c.args.variant.items in
    let old = g.P.Passes.offer c.args.passes.now c.args.walk.now.prep c.args.walk.now.file.items in
    let widths = (offer file).widths in
    let has = subst (λ f. HasSize f c.in_ok-size.size) c.deref.ensures.value c.in_ok-size.ensures.has in
    let among = of_cursors old.widths c.args.position c.cursor_at-at.result (c.cursor_at-at.ensures c.args.walk.now.file.items) in
    let count : c.positions-count.result ≡ length (cursors widths) = c.positions-count.ensures.count file in
    let place : c.position_of-next.result ≡ place_of widths c.cursor_at-at.result = c.position_of-next.ensures file in
    let within : place_of widths c.cursor_at-at.result ≤ length (cursors widths) = place_within widths c.cursor_at-at.result among.pass among.level in
    let smaller = c.requires.smaller in
    let less : c.in_ok-size.size < c.args.walk.now.size = omega (
      arith,
      smaller.less,
      one_size file c.in_ok-size.size smaller.new_size has smaller.new_is,
      one_size c.args.walk.now.file.items c.args.walk.now.size smaller.old_size c.requires.sound.sized smaller.old_is,
    ) in
    record {
      sized = has;
      small = omega (arith, less, c.requires.sound.small);
      offered = subst (λ f. offers f (offer f)) c.deref-2.ensures.value c.in_ok-prep.ensures;
      counted = count;
      few = c.positions-count.ensures.few;
      placed = omega (arith, count, place, within);
      bounded = omega (
        arith,
        less,
        c.requires.from,
        c.requires.below,
        c.requires.sound.few,
        c.positions-count.ensures.few,
        c.requires.sound.bounded,
        left_low c.args.walk.now.changed c.args.walk.now.size c.args.walk.now.count c.args.walk.now.position,
      );
    }

pub returns-clause-less : goal.returns-clause-less
returns-clause-less g c =
    let file = c.args.variant.items in
    let smaller = c.requires.smaller in
    let has = subst (λ f. HasSize f c.in_ok-size.size) c.deref.ensures.value c.in_ok-size.ensures.has in
    let less : c.in_ok-size.size < c.args.walk.now.size = omega (
      arith,
      smaller.less,
      one_size file c.in_ok-size.size smaller.new_size has smaller.new_is,
      one_size c.args.walk.now.file.items c.args.walk.now.size smaller.old_size c.requires.sound.sized smaller.old_is,
    ) in
    left_falls c.args.walk.now.changed c.args.walk.now.size c.args.walk.now.count c.args.walk.now.position c.in_ok-size.size c.positions-count.result c.position_of-next.result less c.positions-count.ensures.few
