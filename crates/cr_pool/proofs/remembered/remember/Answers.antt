use Rattle.std.proofs.Common.{ℕ, ◌+◌, ◌∙◌, sym, arith}
use Rattle.cr_pool.specs.Endings.{TakesNote, TakesNotes}
use Rattle.cr_pool.specs.Jobs.{offer_of}
use Rattle.cr_pool.proofs.Notes.{if_err, if_ok, takes_more}
use Rattle.cr_pool.proofs.remembered.remember.Goals as goal
use Rattle.cr_pool.proofs.remembered.remember.Goals.{then-is_err, else-is_err}

pub loop-at-preserved : goal.loop-at-preserved
loop-at-preserved g c =
    let job = c.args.job.now in
    let offer = offer_of g.P.Passes job in
    let at = c.loop-at.at in
    let ws = c.args.workers.now in
    let middle = c.loop-at.verdicts in
    let gone = c.loop-at.lost in
    let new = c.remember_one.new.verdicts in
    let more : (lost : ℕ) → TakesNote offer job.start at ws middle gone new lost → TakesNotes offer job.start (at + 1) ws c.args.verdicts.now new lost =
    λ lost note. takes_more offer job.start at ws c.args.verdicts.now middle new gone lost c.loop-at.invariant.takes note in
    elim c.if-is_err.branch [
      | then-is_err w ↦
          let took = if_err c.remember_one.result ((before : ℕ) → TakesNote offer job.start at ws middle before new (before + 1)) (sym c.is_err.ensures.value ∙ w.if-is_err.true) c.remember_one.ensures.lost in
          rw w.lost-is (record { takes = more (gone + 1) (took gone); few = omega (arith, c.loop-at.invariant.few) })
      | else-is_err w ↦
          let took = if_ok c.remember_one.result ((before : ℕ) → TakesNote offer job.start at ws middle before new before) (sym c.is_err.ensures.value ∙ w.if-is_err.false) c.remember_one.ensures.kept in
          rw w.lost-is (record { takes = more gone (took gone); few = omega (arith, c.loop-at.invariant.few) })
    ]
