use Rattle.std.proofs.Common.{◌≡◌, IfOk, subst, ◌∙◌}
use Rattle.pass_names.specs.Reserved.{reserved_tokens}
use Rattle.pass_names.proofs.reserved.reserved_of.Goals as goal

pub returns : goal.returns
returns c =
    let file = c.args.file.now in
    let of_tokens = subst (λ ts. IfOk c.reserved_tokens.result (λ found. found.items ≡ reserved_tokens file ts c.args.library c.as_slice-events.result.now)) c.as_slice-tokens.ensures.value c.reserved_tokens.ensures in
    subst (λ es. IfOk c.reserved_tokens.result (λ found. found.items ≡ reserved_tokens file c.args.unit.now.tokens.list.items c.args.library es)) (c.as_slice-events.ensures.value ∙ c.in_ok-events.ensures) of_tokens
