-- What a run that is marked says of what is seen of it.
use Rattle.std.proofs.Common.{subst}
use Rattle.std.specs.Prelude.{ℕ, List, [], ◌∷◌, ◌++◌}
use Rattle.cr_meaning.specs.Language.{gave, ended, Runs}
use Rattle.cr_meaning.specs.World.{Program, World, Answer, Halt}
use Rattle.cr_meaning.specs.Nodes.{events_of}
use Rattle.cr_meaning.specs.Meaning.{body, operands}
use Rattle.cr_meaning_seen.specs.Seen.{Forest, Sees}
use Rattle.cr_meaning_seen.specs.Marks.{Mark, left, marks_of}
use Rattle.cr_meaning_seen.proofs.Noting.{notes_are_marks}
use Rattle.cr_meaning_seen.proofs.Seeing.{sights_are_runs}
use Rattle.cr_exec_slices.specs.Shown.{MarkedRun}

-- a node that answered: what is seen of its run, of which these are the marks, with its end
pub came_seen : (now : List Mark → Type 0) (p : Program) (node : ℕ) (start world : World) (answer : Answer) → MarkedRun now p node start (λ marks. gave answer (world, marks))
    → (forest : Forest) × (Sees p (body p (operands node [])) start (gave answer world) forest × now (marks_of forest ++ left node (events_of answer) ∷ []))
came_seen now p node start world answer h =
    let i = notes_are_marks p (operands node []) (start, []) (gave answer (world, h.marks)) h.run in
    (i.forest, (i.run, subst now i.same h.is_now))

-- a run that ended within it
pub ended_seen : (now : List Mark → Type 0) (p : Program) (node : ℕ) (start : World) (halt : Halt) → MarkedRun now p node start (λ marks. ended (halt, marks))
    → (forest : Forest) × (Sees p (body p (operands node [])) start (ended halt) forest × now (marks_of forest))
ended_seen now p node start halt h =
    let i = notes_are_marks p (operands node []) (start, []) (ended (halt, h.marks)) h.run in
    (i.forest, (i.run, subst now i.same h.is_now))
