use Rattle.std.proofs.Common.{◌≡◌, ◌+◌, ◌-◌, length, take, drop, subst, sym}
use Rattle.pass_text.specs.Lines.{lines_of, joined}
use Rattle.pass_text.proofs.LineLemmas.{ends_at}
use Rattle.pass_text.proofs.lines.skip_lines.Goals as goal

pub loop-left-preserved : goal.loop-left-preserved
loop-left-preserved c =
    let file = c.args.file.now in
    record {
      within = c.line_len-at.ensures.within;
      whole = subst (λ r. length (joined (take c.args.n (lines_of file))) ≡ c.loop-left.at + r + length (joined (take (c.loop-left.left - 1) (lines_of (drop (c.loop-left.at + r) file))))) (sym c.line_len-at.ensures.length)
          (ends_at file c.loop-left.at c.args.n c.loop-left.left c.if-at-file.true c.loop-left-test.true c.loop-left.invariant.whole);
    }
