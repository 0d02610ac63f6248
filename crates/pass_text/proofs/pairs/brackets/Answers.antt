use native.Mathlib.Omega.{arith}
use Rattle.std.proofs.Common.{◌≡◌}
use Rattle.std.proofs.lemmas.Option.{MatchOption-at_some}
use Rattle.std.proofs.lemmas.Result.{IfOk-weaker}
use Rattle.pass_text.specs.Brackets.{IsBracketOffering, b_offering}
use Rattle.pass_text.proofs.BracketLemmas.{offered}
use Rattle.pass_text.proofs.pairs.brackets.Goals as goal

pub returns-in-Some : goal.returns-in-Some
returns-in-Some c =
    let file = c.args.file.now in
    let tokens = c.args.tokens.now in
    let given = c.as_slice-in-Some.result.now in
    IfOk-weaker c.menu.result (λ menu. menu ≡ b_offering tokens given) (IsBracketOffering file tokens)
    (offered file tokens c.as_slice.result.now c.in-Some.pairs.items given (grind arith)
    (MatchOption-at_some _ _ _ c.in-Some.is c.in_ok-found.ensures) (grind arith))
    c.menu.ensures
