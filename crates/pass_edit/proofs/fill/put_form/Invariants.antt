use Rattle.std.proofs.Common.{◌≡◌, ◌≤◌, ◌++◌, drop}
use Rattle.std.specs.Prelude.{vec_capacity}
use Rattle.pass_edit.specs.Forms.{after, form_words}
use Rattle.pass_edit.proofs.fill.put_form.Given as goal

abbrev pub invariant-loop-bit : goal.invariant-loop-bit
invariant-loop-bit l =
    (l.out.items ++ after l.left (form_words l.file l.tokens l.runs (drop l.bit-index l.form)) ≡ l.fn.out.items ++ after l.first (form_words l.file l.tokens l.runs l.form))
    × (vec_capacity l.fn.out ≤ vec_capacity l.out)
