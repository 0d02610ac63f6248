use Rattle.std.proofs.Common.{◌≡◌, ◌||◌, take}
use Rattle.cr_footprint.specs.Cell.{Cell, holds}
use Rattle.cr_footprint.specs.Foot.{sets}
use Rattle.cr_order_watch.proofs.cells.with_reads.Given as goal

abbrev pub invariant-loop-place : goal.invariant-loop-place
invariant-loop-place l = record {
  reads : (c : Cell) → (sets l.all).reads c ≡ ((sets l.fn.foot).reads c || holds (take l.place-index l.cells) c);
  writes : (c : Cell) → (sets l.all).writes c ≡ (sets l.fn.foot).writes c;
}
