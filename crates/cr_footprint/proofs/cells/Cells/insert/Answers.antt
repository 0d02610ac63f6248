use Rattle.std.proofs.Common.{◌∙◌, ap}
use Rattle.std.proofs.lemmas.Result.{on_ok_weaker}
use Rattle.cr_footprint.specs.Cell.{holds}
use Rattle.cr_footprint.proofs.Rising.{IsRising-searched, IsRising-kept, holds-insert, holds-again, holds-found}
use Rattle.cr_footprint.proofs.cells.Cells.insert.Goals as goal

pub invariant_of-self : goal.invariant_of-self
invariant_of-self c = record {
  rising =
      (let before = c.args.self.now.list in
      IsRising-kept before c.insert.new.self c.in-Err.place c.args.cell c.insert.result c.insert.ensures.ok c.insert.ensures.err
      (IsRising-searched before c.as_slice.result.now c.args.cell c.in-Err.place c.as_slice.ensures c.args.self.now.rising c.in-Err.ensures.bound c.in-Err.ensures.position)
      c.args.self.now.rising);
}

pub returns-in-Ok : goal.returns-in-Ok
returns-in-Ok c = λ cell.
    holds-again c.args.self.now.list c.args.cell cell
    (holds-found c.args.self.now.list c.args.cell c.in-Ok.field-0
    (rw c.as_slice.ensures at c.in-Ok.ensures.bound)
    (rw c.as_slice.ensures at c.in-Ok.ensures.ok))

pub returns-in-Err : goal.returns-in-Err
returns-in-Err c = on_ok_weaker c.insert.result (λ is cell.
    ap (λ l. holds l cell) is
    ∙ holds-insert c.args.self.now.list c.in-Err.place c.args.cell cell) c.insert.ensures.ok
