use Rattle.std.proofs.Common.{◌≡◌, ◌∙◌, ℕ, List, length, IfOk, ap, subst}
use Rattle.pass_levels.specs.Level.{level_of}
use Rattle.pass_stmts.specs.Labels.{functions_of, jumps_of, labels_give}
use Rattle.pass_stmts.specs.declared.labels.Jump.{Jump}
use Rattle.pass_stmts.proofs.labels.labels_go.Goals as goal

pub returns : goal.returns
returns c =
    let nodes = c.args.nodes.now in
    let functions = c.as_slice-3.ensures.value ∙ c.in_ok-functions.ensures in
    let jumps = c.as_slice-4.ensures.value ∙ (c.in_ok-jumps.ensures ∙ ap (jumps_of nodes) (c.as_slice.ensures.value ∙ c.in_ok-functions.ensures)) in
    let P : List ℕ → List Jump → Type 0 = λ f j. IfOk c.list.result (λ edits. edits ≡ level_of (labels_give c.args.file.now c.args.tokens.now nodes f j) (length nodes)) in
    subst (λ f. P f (jumps_of nodes (functions_of nodes))) functions (subst (P c.as_slice-3.result.now) jumps c.list.ensures)
