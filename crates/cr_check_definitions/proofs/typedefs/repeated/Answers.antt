use Rattle.std.proofs.Common.{sym, ◌∙◌, arith}
use Rattle.cr_check_definitions.specs.Known.{known_of}
use Rattle.cr_check_definitions.proofs.Twice.{first_is, none_beyond, none_more}
use Rattle.cr_check_definitions.proofs.typedefs.repeated.Goals as goal

pub returns-then-is_twice : goal.returns-then-is_twice
returns-then-is_twice c =
    let here = c.in_ok-token.ensures in
    first_is (known_of c.args.declarations.now) c.args.names.now c.in_ok-token.token (c.is_twice.ensures.0 c.if-is_twice.true)
    (λ other low. c.loop-at.invariant other (omega (arith, here, low)))

pub loop-at-preserved : goal.loop-at-preserved
loop-at-preserved c =
    none_more (known_of c.args.declarations.now) c.args.names.now c.loop-at.at c.in_ok-token.token c.in_ok-token.ensures c.loop-at.invariant
    (λ h. cc (sym c.if-is_twice.false ∙ c.is_twice.ensures.1 h))

pub returns : goal.returns
returns c =
    none_beyond c.args.declarations.now c.args.names.now c.loop-at.at c.loop-at-test.false c.loop-at.invariant
