use native.Mathlib.Omega.{arith}
use Rattle.pass_edit.proofs.Spans.{pushed}
use Rattle.pass_edit.proofs.edits.Edits.push.Goals as goal

pub returns-clause-ok : goal.returns-clause-ok
returns-clause-ok c =
    let it = pushed c.self.inside.changes.items c.args.edit.now c.self.inside.spans.items (record { from = c.len-from.result; to = c.len-to.result }) c.self.invariant.1 (grind arith) (grind arith) in
    grind (arith, it)
