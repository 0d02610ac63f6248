use Rattle.std.proofs.Common.{refl, sym, ◌∙◌}
use Rattle.std.proofs.lemmas.Bool.{and_parts, not-false, not-true}
use Rattle.cr_order_watch.proofs.Opening.{clashes, clashed_before, both_loud, met, joins}
use Rattle.cr_order_watch.proofs.opened.one_more.Goals as goal

pub returns-then-not-below-clause-sums : goal.returns-then-not-below-clause-sums
returns-then-not-below-clause-sums c = λ p level levels number inner events h sum.
    clashes p c.args.below _ level levels number inner events h c.requires (record { node = refl; operands = refl; asked = refl }) refl (not-true c.args.below.fixed c.if-not-below.true)
    (clashed_before p c.args.below c.args.below level levels number inner events h (not-true c.args.below.fixed c.if-not-below.true))

pub returns-then-both-clause-sums : goal.returns-then-both-clause-sums
returns-then-both-clause-sums c = λ p level levels number inner events h sum.
    let two = and_parts c.args.below.loud c.args.piece.loud (sym c.both.ensures ∙ c.if-both.true) in
    clashes p c.args.below _ level levels number inner events h c.requires (record { node = refl; operands = refl; asked = refl }) refl refl
    (both_loud p c.args.below c.args.below level levels number inner events c.args.piece.loud c.args.piece.foot h (not-false c.args.below.fixed c.if-not-below.false) c.requires sum two.0 two.1)

pub returns-in-Ok-clause-sums : goal.returns-in-Ok-clause-sums
returns-in-Ok-clause-sums c = λ p level levels number inner events h sum.
    joins p c.args.below _ level levels number inner events c.args.piece.loud c.args.piece.foot h (not-false c.args.below.fixed c.if-not-below.false) c.requires sum (sym c.both.ensures ∙ c.if-both.false)
    (record { node = refl; operands = refl; asked = refl }) refl c.either-loud.ensures c.in-Ok.ensures.joined c.in-Ok.ensures.apart (not-false c.args.below.fixed c.if-not-below.false)

pub returns-in-Err-Conflict-clause-sums : goal.returns-in-Err-Conflict-clause-sums
returns-in-Err-Conflict-clause-sums c = λ p level levels number inner events h sum.
    clashes p c.args.below _ level levels number inner events h c.requires (record { node = refl; operands = refl; asked = refl }) refl refl
    (met p c.args.below c.args.below level levels number inner events c.args.piece.loud c.args.piece.foot (c.in-Err-Conflict.field-0-0, c.in-Err-Conflict.field-0-1) h (not-false c.args.below.fixed c.if-not-below.false) c.requires sum
    (c.beside.ensures.conflict c.in-Err-Conflict.field-0-0 c.in-Err-Conflict.field-0-1 (cc (c.in-Err-Conflict.is, c.in-Err-Conflict.field-0-is))))
