use Rattle.std.proofs.Common.{◌≡◌, subst}
use Rattle.cr_reduce.specs.declared.end.Accepted.{Accepted}
use Rattle.cr_report.specs.Summed.{size_behind, turns_behind}
use Rattle.cr_report.proofs.Sums.{rest_from}
use Rattle.cr_report.proofs.cells.columns_of.Goals as goal

-- src/cells.rt:60:5
pub loop-index-preserved : goal.loop-index-preserved
loop-index-preserved c =
    let before = c.loop-index.invariant in
    let none : Accepted = record { at = record { pass = 0; level = 0; index = 0 }; size = 0; turn = 0 } in
    let from = rest_from c.args.accepted.now c.loop-index.index none c.loop-index-test.true in
    record {
      summed = c.add.ensures c.if-not-add.false c.loop-index.index c.args.begun before.summed;
      turns = subst (λ rest. turns_behind c.loop-index.turn rest ≡ turns_behind 0 c.args.accepted.now) from before.turns;
      sizes = subst (λ rest. size_behind c.loop-index.size rest ≡ size_behind c.args.begun c.args.accepted.now) from before.sizes;
    }
