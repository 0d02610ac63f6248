use Rattle.std.proofs.Common.{◌≡◌, ◌≤◌, length, not, subst, arith}
use Rattle.cr_reduce.specs.Sizes.{HasSize}
use Rattle.cr_cursor.specs.Variants.{cursors, place_of}
use Rattle.cr_cursor.proofs.Members.{place_within}
use Rattle.cr_reduce.proofs.Keepings.{left_high}
use Rattle.cr_reduce.proofs.resuming.begin_at.Goals as goal

pub returns-clause-sound : goal.returns-clause-sound
returns-clause-sound g c =
    let offers = g.P.Passes.offers c.args.passes.now in
    let offer = g.P.Passes.offer c.args.passes.now c.in-Ok-prepare.prep in
    let file = c.args.kept.file.items in
    let widths = (offer file).widths in
    let count : c.positions-count.result ≡ length (cursors widths) = c.positions-count.ensures.count file in
    let place : c.position_of-position.result ≡ place_of widths c.args.kept.at = c.position_of-position.ensures file in
    let within : place_of widths c.args.kept.at ≤ length (cursors widths) = place_within widths c.args.kept.at c.requires.pass c.requires.level in
    record {
      sized = subst (λ f. HasSize f c.in-Ok.size) c.deref.ensures.value c.in-Ok.ensures.has;
      small = c.in-Ok.ensures.small;
      offered = subst (λ f. offers f (offer f)) c.deref-2.ensures.value c.in-Ok-prepare.ensures;
      counted = count;
      few = c.positions-count.ensures.few;
      placed = omega (arith, count, place, within);
      bounded = omega (arith, c.requires.turns, c.in-Ok.ensures.small, c.positions-count.ensures.few, left_high (not c.is_empty-changed.result) c.in-Ok.size c.positions-count.result c.position_of-position.result);
    }
