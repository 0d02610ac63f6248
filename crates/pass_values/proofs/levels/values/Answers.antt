use Rattle.std.proofs.Common.{◌≡◌, IfOk, subst}
use Rattle.pass_values.specs.Values.{v_offering}
use Rattle.pass_values.proofs.levels.values.Goals as goal

pub returns : goal.returns
returns c =
    let unit = c.args.unit.now in
    let names = c.args.names.now in
    subst (λ nodes. IfOk c.menu.result (λ menu. menu ≡ v_offering unit.tokens.list.items nodes names)) c.as_slice-2.ensures
    (subst (λ tokens. IfOk c.menu.result (λ menu. menu ≡ v_offering tokens c.as_slice-2.result.now names)) c.as_slice.ensures.value c.menu.ensures)
