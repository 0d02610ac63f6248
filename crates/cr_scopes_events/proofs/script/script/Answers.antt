use Rattle.std.proofs.Common.{◌++◌, sym, ap, ◌∙◌, arith}
use Rattle.std.proofs.lemmas.List.{append-nil}
use Rattle.std.proofs.lemmas.Option.{slice_get_past}
use Rattle.cr_scopes_events.specs.Scripts.{script_if}
use Rattle.cr_scopes_events.proofs.script.script.Goals as goal

pub returns-else-at-nodes : goal.returns-else-at-nodes
returns-else-at-nodes c =
    sym (append-nil c.args.steps.now.items)
    ∙ ap (λ o. c.args.steps.now.items ++ script_if o c.args.tokens.now c.args.nodes.now c.args.at)
    (sym (slice_get_past c.args.nodes.now c.args.at (omega (arith, c.if-at-nodes.false))))
