use Rattle.std.proofs.Common.{◌≡◌, ◌≤◌, drop}
use Rattle.std.specs.Prelude.{vec_capacity}
use Rattle.pass_edit.specs.Glue.{glued_all}
use Rattle.pass_edit.specs.Edit.{pieces}
use Rattle.pass_edit.proofs.write.write.Given as goal

abbrev pub invariant-loop-change : goal.invariant-loop-change
invariant-loop-change l =
    (glued_all l.out.items (pieces l.file l.kept l.at (drop l.change-index l.changes)) ≡ glued_all l.fn.out.items (pieces l.file l.kept 0 l.changes))
    × (vec_capacity l.fn.out ≤ vec_capacity l.out)
