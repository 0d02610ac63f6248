use Rattle.cr_eval.proofs.work.work_none.Goals as goal

pub returns-in-Object : goal.returns-in-Object
returns-in-Object c = rw c.in-Object.is (λ world found. rw found (c.at_place.ensures _ c.place_of.ensures))
