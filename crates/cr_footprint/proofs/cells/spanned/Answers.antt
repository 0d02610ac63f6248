use Rattle.std.proofs.Common.{ℕ, List, [], ◌∷◌, ◌++◌, subst, sym, ◌∙◌, arith, inr}
use Rattle.cr_footprint.specs.Cell.{Cell, Spans}
use Rattle.cr_footprint.proofs.Rising.{Spans-more}
use Rattle.cr_footprint.proofs.cells.spanned.Goals as goal

pub loop-cell-preserved : goal.loop-cell-preserved
loop-cell-preserved c =
    let (ends, (more, at, next)) = c.in-Some.ensures.steps in
    let (had, _, from, end) = c.loop-cell.invariant in
    let o = c.args.object in
    let first = c.args.cells.start in
    let start = c.loop-cell.cell-iterator.start in
    let items = c.loop-cell.all.items in
    let P : ℕ → Type 0 = λ n. Spans o first n (items ++ (o, start) ∷ []) in
    let Q : ℕ → Type 0 = λ n. Spans o first c.next.new.self.start (items ++ (o, n) ∷ []) in
    let R : List Cell → Type 0 = Spans o first c.next.new.self.start in (
      subst R (sym c.in_ok-push.ensures.ok) (subst Q (sym at) (subst P (sym next) (Spans-more o first start items from had))),
      inr (omega arith),
      omega arith,
      ends ∙ end,
    )
