use Rattle.std.proofs.Common.{◌∙◌, ap, subst, List, ℕ, length, ◌≤◌, ◌+◌, ◌*◌, sym}
use Rattle.cr_gen.specs.Program.{generated}
use Rattle.cr_gen.proofs.Items.{five_appended}
use Rattle.cr_gen.proofs.Size.{length-generated}
use Rattle.cr_gen.proofs.program.make.Goals as goal

pub returns-clause-text : goal.returns-clause-text
unfolding generated
returns-clause-text c =
    ap (λ v. v.items) c.into_bytes.ensures.value
    ∙ five_appended _ _ _ _ _ c.in_ok-text.ensures.bytes c.in_ok-push_str.ensures.bytes c.in_ok-push_functions.ensures c.in_ok-push_str-2.ensures.bytes c.in_ok-push_calls.ensures c.in_ok-push_str-3.ensures.bytes

pub returns-clause-size : goal.returns-clause-size
returns-clause-size c =
    let P : List ℕ → Type 0 = λ t. length t ≤ 102 + 89 * c.args.items in
    subst P (sym (returns-clause-text c)) (length-generated c.args.number c.args.items c.requires.most)
