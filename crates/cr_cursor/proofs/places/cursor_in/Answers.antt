use Rattle.std.proofs.Common.{◌≡◌, ◌<◌, ◌+◌, length, arith, Some, subst, sym}
use Rattle.std.specs.List.{slice_get}
use Rattle.cr_cursor.specs.Variants.{pass_cursors, cursor}
use Rattle.cr_cursor.proofs.Numbering.{no_levels, one_level, in_pass}
use Rattle.cr_cursor.proofs.places.cursor_in.Goals as goal

pub loop-level-init : goal.loop-level-init
loop-level-init g c = λ file. omega (arith, no_levels (g.P.Passes.offer c.args.passes.now c.args.prep.now file).widths c.args.pass)

pub loop-level-preserved : goal.loop-level-preserved
loop-level-preserved g c = λ file. omega (arith, one_level (g.P.Passes.offer c.args.passes.now c.args.prep.now file).widths c.args.pass c.loop-level.level, c.loop-level.invariant file, c.width-width.ensures.width file)

pub returns-then-left-width : goal.returns-then-left-width
returns-then-left-width g c = λ file.
    let w = (g.P.Passes.offer c.args.passes.now c.args.prep.now file).widths in
    let below : c.loop-level.left < w c.args.pass c.loop-level.level = omega (arith, c.width-width.ensures.width file) in
    subst (λ k. slice_get (pass_cursors w c.args.pass 16) k ≡ Some (cursor c.args.pass c.loop-level.level c.loop-level.left)) (sym (c.loop-level.invariant file))
    (in_pass w c.args.pass 16 c.loop-level.level c.loop-level.left c.loop-level-test.true below)

pub unreachable-requires : goal.unreachable-requires
unreachable-requires g c =
    let w = (g.P.Passes.offer c.args.passes.now c.args.prep.now c.requires.0).widths in
    let last : c.loop-level.level ≡ 16 = omega arith in
    let whole = subst (λ k. c.args.place ≡ length (pass_cursors w c.args.pass k) + c.loop-level.left) last (c.loop-level.invariant c.requires.0) in
    omega (arith, whole, c.requires.1)
