use Rattle.std.proofs.Common.{◌≡◌, IfOk, List, length, rules, subst, ℕ}
use Rattle.pass_levels.specs.Level.{level_of}
use Rattle.pass_params.specs.Functions.{calls_in, functions_in}
use Rattle.pass_params.specs.Parameters.{definitions_give}
use Rattle.pass_params.proofs.removal.level.Goals as goal

pub returns : goal.returns
returns c =
    let a = c.args in
    let functions : c.as_slice-3.result.now ≡ functions_in a.nodes.now = search rules in
    let calls : c.as_slice-4.result.now ≡ calls_in a.nodes.now = search rules in
    subst (λ (fs : List ℕ). IfOk c.list.result (λ edits. edits ≡ level_of (definitions_give a.file.now a.tokens.now a.nodes.now a.names.now fs (calls_in a.nodes.now)) (length a.nodes.now))) functions
    (subst (λ (cs : List ℕ). IfOk c.list.result (λ edits. edits ≡ level_of (definitions_give a.file.now a.tokens.now a.nodes.now a.names.now c.as_slice-3.result.now cs) (length a.nodes.now))) calls c.list.ensures)
