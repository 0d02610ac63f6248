use Rattle.std.proofs.Common.{◌≡◌, ◌+◌, length, drop, arith, subst, sym}
use Rattle.pass_text.specs.Lines.{lines_of}
use Rattle.pass_text.proofs.LineLemmas.{count_at}
use Rattle.pass_text.proofs.lines.count_lines.Goals as goal

pub loop-at-preserved : goal.loop-at-preserved
loop-at-preserved c =
    let file = c.args.file.now in
    record {
      within = c.line_len-at.ensures.within;
      fewer = omega (arith, c.loop-at.invariant.fewer, c.line_len-at.ensures.some);
      whole = subst (λ r. length (lines_of file) ≡ c.loop-at.count + 1 + length (lines_of (drop (c.loop-at.at + r) file))) (sym c.line_len-at.ensures.length)
          (count_at file c.loop-at.at c.loop-at.count c.loop-at-test.true c.loop-at.invariant.whole);
    }
