use Rattle.std.proofs.Common.{◌≡◌, IfOk, subst, ◌∙◌}
use Rattle.pass_names.specs.Unused.{u_levels}
use Rattle.pass_names.proofs.removal.unused.Goals as goal

pub returns : goal.returns
returns c =
    let file = c.args.file.now in
    let unit = c.args.unit.now in
    let names = c.in_ok-reach.reach.names.now in
    let structures = c.args.structures.now in
    let nodes = c.as_slice-nodes.result.now in
    let items = c.as_slice-items.result.now in
    let mains = c.as_slice-mains.result.now in
    let of_tokens = subst (λ ts. IfOk c.levels.result (λ menu. menu ≡ u_levels file ts nodes items names structures mains)) c.as_slice-tokens.ensures.value c.levels.ensures in
    let of_nodes = subst (λ ns. IfOk c.levels.result (λ menu. menu ≡ u_levels file unit.tokens.list.items ns items names structures mains)) c.as_slice-nodes.ensures of_tokens in
    let of_items = subst (λ is. IfOk c.levels.result (λ menu. menu ≡ u_levels file unit.tokens.list.items unit.nodes is names structures mains)) c.as_slice-items.ensures of_nodes in
    let of_names = subst (λ ns. IfOk c.levels.result (λ menu. menu ≡ u_levels file unit.tokens.list.items unit.nodes unit.items ns structures mains)) c.in_ok-reach.ensures of_items in
    subst (λ ms. IfOk c.levels.result (λ menu. menu ≡ u_levels file unit.tokens.list.items unit.nodes unit.items c.args.names.now structures ms)) (c.as_slice-mains.ensures.value ∙ c.in_ok-mains.ensures) of_names
