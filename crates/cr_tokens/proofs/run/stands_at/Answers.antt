use Rattle.std.proofs.Common.{◌≡◌, ◌∙◌, sym}
use Rattle.std.specs.Cmp.Lexicographic.{same_text, other_text}
use Rattle.cr_tokens.proofs.Spellings.{row_more, row_same}
use Rattle.cr_tokens.proofs.run.stands_at.Goals as goal

pub loop-at-preserved : goal.loop-at-preserved
loop-at-preserved c =
    let same : c.spelling.result.now ≡ c.spelling-in-loop-at.result.now =
    same_text c.spelling.result.now c.spelling-in-loop-at.result.now (cc) in
    row_more c.args.file.now c.args.text.now c.args.all.now c.args.run.now c.args.first c.loop-at.at _ _ c.loop-at-test.true
    c.requires.room c.loop-at.invariant (sym c.spelling.ensures ∙ same ∙ c.spelling-in-loop-at.ensures)

pub returns-then-not-is_same : goal.returns-then-not-is_same
returns-then-not-is_same c = (
  λ yes. absurd (cc),
  λ stands. absurd (other_text c.spelling.result.now c.spelling-in-loop-at.result.now (cc)
      (c.spelling.ensures
      ∙ row_same c.args.file.now c.args.text.now c.args.all.now c.args.run.now c.args.first c.loop-at.at _ _ c.loop-at-test.true c.requires.room stands
      ∙ sym c.spelling-in-loop-at.ensures)),
)
