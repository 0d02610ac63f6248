use Rattle.std.proofs.Common.{◌≡◌, false, None, length}
use Rattle.cr_core.specs.Machine.{MayClaim, settled}
use Rattle.cr_claims.specs.Pass.{IsOf, view_of}
use Rattle.cr_pool.specs.Jobs.{trying}
use Rattle.cr_pool.specs.Tally.{tally_of}
use Rattle.cr_pool.specs.Works.{IsBlankAbove, NotesAreSo, NotesTell, Works, left_over}
use Rattle.cr_pool.proofs.worker.drive.Given as goal

abbrev pub invariant-loop-at : goal.invariant-loop-at
invariant-loop-at g l = record {
  stays : IsOf l.claims l.pass;
  in_force : (view_of l.pass).left ≡ false;
  may : MayClaim l.job.len (view_of l.pass).read l.done (view_of l.pass).own;
  works : Works (trying g.P.Passes g.L.Law g.Q.Question g.J.Judge l.job l.fn.judge l.verdicts) (tally_of g.J.Judge l.fn.judge) (tally_of g.J.Judge l.judge) None (settled l.done (view_of l.pass).own);
  room : length l.notes.items ≡ l.job.len;
  notes : NotesAreSo (trying g.P.Passes g.L.Law g.Q.Question g.J.Judge l.job l.fn.judge l.verdicts) (tally_of g.J.Judge l.fn.judge) (tally_of g.J.Judge l.judge) l.notes.items;
  tell : NotesTell (trying g.P.Passes g.L.Law g.Q.Question g.J.Judge l.job l.fn.judge l.verdicts) (settled l.done (view_of l.pass).own) l.notes.items;
  above : IsBlankAbove (view_of l.pass).own l.notes.items;
  key : g.J.Judge.key l.judge ≡ g.J.Judge.key l.fn.judge;
  silent : g.Q.Question.asks l.job.question.now ≡ false → l.judge ≡ l.fn.judge;
}

abbrev pub decreases-loop-at : goal.decreases-loop-at
decreases-loop-at g l = left_over l.job.len (view_of l.pass).own
