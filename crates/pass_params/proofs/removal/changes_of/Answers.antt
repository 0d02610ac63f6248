use Rattle.std.proofs.Common.{◌≡◌, refl, rules, subst}
use Rattle.pass_levels.specs.Nodes.{node_at}
use Rattle.pass_params.specs.Functions.{declares_same, is_next, name_same, number_of, same_number}
use Rattle.pass_params.specs.Grouped.{call_number, function_number, items_of}
use Rattle.pass_params.specs.Parameters.{from_calls, from_declarators, from_list, from_row}
use Rattle.pass_params.proofs.Grouping.{declares, given_alike}
use Rattle.cr_scopes_events.specs.Declarators.{declarator_of}
use Rattle.pass_params.proofs.removal.changes_of.Goals as goal

pub returns : goal.returns
returns c =
    let l = c.args.level.now in
    let k = l.known.now in
    let token = c.args.token in
    let at = c.args.at in
    let picked = c.chosen-declarations.ensures (function_number k.nodes.now k.names.now) k.are_declarations in
    let called = c.chosen-called.ensures (call_number k.nodes.now k.names.now) k.are_called in
    let declared : from_declarators l.tokens.now k.nodes.now k.names.now token at c.chosen-declarations.result.now ≡ from_declarators l.tokens.now k.nodes.now k.names.now token at k.functions.now =
    given_alike (declares_same k.nodes.now k.names.now token) (λ f. same_number (number_of k.names.now token) (function_number k.nodes.now k.names.now f))
    (λ f. declares k.names.now token (is_next f (declarator_of k.nodes.now f).next) (declarator_of k.nodes.now f).name)
    (from_list l.tokens.now k.nodes.now at) c.chosen-declarations.result.now k.functions.now
    (subst (λ n. items_of (function_number k.nodes.now k.names.now) n c.chosen-declarations.result.now ≡ items_of (function_number k.nodes.now k.names.now) n k.functions.now) c.number_of-number.ensures picked) in
    let calls : from_calls l.tokens.now k.nodes.now k.names.now token at c.chosen-called.result.now ≡ from_calls l.tokens.now k.nodes.now k.names.now token at k.calls.now =
    given_alike (λ call. name_same k.names.now token (node_at k.nodes.now call).first) (λ call. same_number (number_of k.names.now token) (call_number k.nodes.now k.names.now call))
    (λ call. refl)
    (λ call. from_row l.tokens.now k.nodes.now at (node_at k.nodes.now call).parts) c.chosen-called.result.now k.calls.now
    (subst (λ n. items_of (call_number k.nodes.now k.names.now) n c.chosen-called.result.now ≡ items_of (call_number k.nodes.now k.names.now) n k.calls.now) c.number_of-number.ensures called) in
    search rules
