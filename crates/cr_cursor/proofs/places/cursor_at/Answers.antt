use Rattle.std.proofs.Common.{◌≡◌, ◌+◌, length, arith, Some, subst, sym, ap}
use Rattle.std.specs.List.{slice_get}
use Rattle.cr_cursor.specs.Variants.{cursors, cursors_below, pass_count}
use Rattle.cr_cursor.proofs.Numbering.{no_passes, one_pass, in_all, all_passes}
use Rattle.cr_cursor.proofs.places.cursor_at.Goals as goal

pub loop-pass-init : goal.loop-pass-init
loop-pass-init g c = λ file. omega (arith, no_passes (g.P.Passes.offer c.args.passes.now c.args.prep.now file).widths)

pub loop-pass-preserved : goal.loop-pass-preserved
loop-pass-preserved g c = λ file. omega (arith, one_pass (g.P.Passes.offer c.args.passes.now c.args.prep.now file).widths c.loop-pass.pass, c.loop-pass.invariant file, c.variants_in-variants.ensures.count file)

pub cursor_in-requires : goal.cursor_in-requires
cursor_in-requires g c = (c.requires.0, omega (arith, c.variants_in-variants.ensures.count c.requires.0))

pub returns-then-left-variants : goal.returns-then-left-variants
returns-then-left-variants g c = λ file.
    let w = (g.P.Passes.offer c.args.passes.now c.args.prep.now file).widths in
    let there = in_all w pass_count c.loop-pass.pass c.loop-pass.left c.cursor_in.result c.loop-pass-test.true (c.cursor_in.ensures file) in
    subst (λ k. slice_get (cursors w) k ≡ Some c.cursor_in.result) (sym (c.loop-pass.invariant file))
    (subst (λ all. slice_get all (length (cursors_below w c.loop-pass.pass) + c.loop-pass.left) ≡ Some c.cursor_in.result) (sym (all_passes w)) there)

pub unreachable-requires : goal.unreachable-requires
unreachable-requires g c =
    let w = (g.P.Passes.offer c.args.passes.now c.args.prep.now c.requires.0).widths in
    let last : c.loop-pass.pass ≡ pass_count = omega arith in
    let whole = subst (λ k. c.args.position ≡ length (cursors_below w k) + c.loop-pass.left) last (c.loop-pass.invariant c.requires.0) in
    omega (arith, whole, c.requires.1, ap length (all_passes w))
