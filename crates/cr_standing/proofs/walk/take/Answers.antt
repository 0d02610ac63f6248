use Rattle.std.proofs.Common.{◌≡◌, ◌<◌, ◌≤◌, Some, length, subst, arith}
use Rattle.std.specs.Arc.{arc_value}
use Rattle.std.specs.List.{slice_get}
use Rattle.cr_cursor.specs.Variants.{cursors, place_of}
use Rattle.cr_cursor.proofs.Members.{of_cursors, place_within}
use Rattle.cr_reduce.proofs.Sizes.{one_size}
use Rattle.cr_reduce.proofs.Walks.{left_low}
use Rattle.cr_standing.specs.Walk.{IsShared}
use Rattle.cr_standing_workers.specs.declared.orders.Shared.{Shared}
use Rattle.cr_standing.proofs.walk.take.Goals as goal

pub returns-clause-sound : goal.returns-clause-sound
returns-clause-sound g c =
    let offers = g.P.Passes.offers c.args.passes.now in
    let make = g.P.Passes.offer c.args.passes.now in
    let walk = c.args.walk.now in
    let file = c.args.variant.items in
    let old = walk.file.items in
    let at = c.cursor_at-at.result in
    let now = arc_value c.in_ok-shared.shared in
    let sound = c.requires.sound.as_plain in
    let it = subst (λ f. IsShared offers make f now) c.deref-2.ensures.value c.in_ok-shared.ensures in
    let there = subst (λ (s : Shared g.row.P-Prep.Denot). slice_get (cursors (make s.prep old).widths) c.args.position ≡ Some at) c.deref.ensures (c.cursor_at-at.ensures old) in
    let among = of_cursors (make (arc_value walk.shared).prep old).widths c.args.position at there in
    let widths = (make now.prep file).widths in
    let count : c.positions-count.result ≡ length (cursors widths) =
    subst (λ (s : Shared g.row.P-Prep.Denot). c.positions-count.result ≡ length (cursors (make s.prep file).widths)) c.deref-3.ensures (c.positions-count.ensures.count file) in
    let place : c.position_of-next.result ≡ place_of widths at =
    subst (λ (s : Shared g.row.P-Prep.Denot). c.position_of-next.result ≡ place_of (make s.prep file).widths at) c.deref-4.ensures (c.position_of-next.ensures file) in
    let within : place_of widths at ≤ length (cursors widths) = place_within widths at among.pass among.level in
    let smaller = c.requires.smaller in
    let less : now.size < (arc_value walk.shared).size = omega (
      arith,
      smaller.less,
      one_size file now.size smaller.new_size it.sized.has smaller.new_is,
      one_size old (arc_value walk.shared).size smaller.old_size sound.sized smaller.old_is,
    ) in
    record {
      as_plain = record {
        sized = it.sized.has;
        small = omega (arith, less, sound.small);
        offered = it.offered;
        counted = count;
        few = c.positions-count.ensures.few;
        placed = omega (arith, count, place, within);
        bounded = omega (
          arith,
          less,
          c.requires.from,
          c.requires.below,
          sound.few,
          c.positions-count.ensures.few,
          sound.bounded,
          left_low walk.changed (arc_value walk.shared).size walk.count walk.position,
        );
      };
      same = it.bytes;
    }
