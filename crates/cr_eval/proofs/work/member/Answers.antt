use Rattle.cr_eval.proofs.work.member.Goals as goal

pub returns-in-Place : goal.returns-in-Place
returns-in-Place c = rw c.in-Place.is (c.at_place.ensures _ c.inner_of.ensures)

pub returns-in-Cells : goal.returns-in-Cells
returns-in-Cells c = rw c.in-Cells.is (c.giving.ensures _ _ (rw c.as_slice.ensures at c.taken_part.ensures))
