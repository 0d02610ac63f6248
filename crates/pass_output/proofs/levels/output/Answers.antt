use Rattle.std.proofs.Common.{◌≡◌, IfOk, subst}
use Rattle.pass_output.specs.Output.{o_offering}
use Rattle.pass_output.proofs.levels.output.Goals as goal

pub returns : goal.returns
returns c =
    let file = c.args.file.now in
    let unit = c.args.unit.now in
    subst (λ nodes. IfOk c.menu.result (λ menu. menu ≡ o_offering file unit.tokens.list.items nodes)) c.as_slice-2.ensures
    (subst (λ tokens. IfOk c.menu.result (λ menu. menu ≡ o_offering file tokens c.as_slice-2.result.now)) c.as_slice.ensures.value c.menu.ensures)
