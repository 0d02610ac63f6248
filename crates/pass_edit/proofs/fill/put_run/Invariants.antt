use Rattle.std.proofs.Common.{◌≡◌, ◌≤◌, ◌++◌, List, ℕ, drop}
use Rattle.std.specs.Prelude.{vec_capacity}
use Rattle.cr_tokens.specs.Runs.{spellings}
use Rattle.pass_edit.specs.Forms.{after}
use Rattle.pass_edit.proofs.fill.put_run.Given as goal

abbrev pub invariant-loop-token : goal.invariant-loop-token
invariant-loop-token l =
    ((rest : List (List ℕ)) → l.out.items ++ after l.last (spellings l.file (drop l.token-index l.tokens) ++ rest) ≡ l.fn.out.items ++ after l.left (spellings l.file l.tokens ++ rest))
    × (vec_capacity l.fn.out ≤ vec_capacity l.out)
