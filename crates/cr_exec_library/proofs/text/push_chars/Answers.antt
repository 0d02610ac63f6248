use Rattle.std.proofs.Common.{Result, Err, List, ℕ, sym, ◌∙◌, subst}
use Rattle.cr_memory.specs.declared.value.Trap.{Trap}
use Rattle.cr_eval.specs.Answers.{Answers}
use Rattle.cr_exec_library.proofs.text.push_chars.Goals as goal

pub returns-in-Ok-None : goal.returns-in-Ok-None
returns-in-Ok-None c = record {
  says = sym c.chars.invariant ∙ (rw c.in-Ok-None.field-0-is at c.in-Ok-None.ensures) c.chars.left c.in-Some.fewer c.in-Some.ensures;
}

pub returns-in-Err : goal.returns-in-Err
returns-in-Err c =
    let P : Result (List ℕ) Trap → Type 0 = λ r. Answers r (Err c.in-Err.trap) in
    subst P c.chars.invariant (c.in-Err.ensures c.chars.left c.in-Some.fewer c.in-Some.ensures)
