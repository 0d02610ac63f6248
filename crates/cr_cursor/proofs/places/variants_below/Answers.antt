use Rattle.std.proofs.Common.{arith}
use Rattle.cr_cursor.proofs.Numbering.{no_passes, one_pass}
use Rattle.cr_cursor.proofs.places.variants_below.Goals as goal

pub loop-pass-init : goal.loop-pass-init
loop-pass-init g c = record { count = λ file. omega (arith, no_passes (g.P.Passes.offer c.args.passes.now c.args.prep.now file).widths); few = omega arith }

pub loop-pass-preserved : goal.loop-pass-preserved
loop-pass-preserved g c = record {
  count = λ file. omega (arith, one_pass (g.P.Passes.offer c.args.passes.now c.args.prep.now file).widths c.loop-pass.pass, c.loop-pass.invariant.count file, c.variants_in-total.ensures.count file);
  few = omega (arith, c.variants_in-total.ensures.few, c.loop-pass.invariant.few);
}
