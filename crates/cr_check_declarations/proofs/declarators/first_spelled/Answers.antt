use Rattle.std.proofs.Common.{◌≡◌, ◌-◌, ap, ◌∙◌, arith}
use Rattle.cr_check_expressions.specs.Known.{spelling_of}
use Rattle.cr_check_declarations.specs.Declarators.{first_spelled}
use Rattle.cr_check_declarations.proofs.declarators.first_spelled.Goals as goal

pub returns : goal.returns
returns c =
    let low = c.loop-token.invariant.within in
    let high = c.loop-token-test.false in
    let same : c.loop-token.token - c.args.from ≡ c.args.end - c.args.from = omega (arith, low, high) in
    c.loop-token.invariant.is
    ∙ ap (first_spelled (spelling_of c.args.tree.now.file.now c.args.tree.now.tokens.now) c.args.word.now c.args.from) same
