use Rattle.std.proofs.Common.{arith}
use Rattle.cr_cursor.proofs.Numbering.{no_levels, one_level}
use Rattle.cr_cursor.proofs.places.variants_in.Goals as goal

pub loop-level-init : goal.loop-level-init
loop-level-init g c = record { count = λ file. omega (arith, no_levels (g.P.Passes.offer c.args.passes.now c.args.prep.now file).widths c.args.pass); few = omega arith }

pub loop-level-preserved : goal.loop-level-preserved
loop-level-preserved g c = record {
  count = λ file. omega (arith, one_level (g.P.Passes.offer c.args.passes.now c.args.prep.now file).widths c.args.pass c.loop-level.level, c.loop-level.invariant.count file, c.width-total.ensures.width file);
  few = omega (arith, c.width-total.ensures.few, c.loop-level.invariant.few);
}
