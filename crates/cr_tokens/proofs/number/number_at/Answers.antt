use Rattle.std.proofs.Common.{refl}
use Rattle.cr_tokens.specs.declared.token.TokenKind.TheVariants.{Integer}
use Rattle.cr_tokens.specs.Numbers.{IsNumber, IsNumberPart}
use Rattle.cr_tokens.specs.Tokens.{IsToken}
use Rattle.cr_tokens.proofs.Longest.{number_whole, number_stop, number_IsToken, number_fault}
use Rattle.cr_tokens.proofs.number.number_at.Goals as goal

pub returns-then-is_integer-clause-item : goal.returns-then-is_integer-clause-item
returns-then-is_integer-clause-item c =
    let stop : ¬ IsNumberPart c.args.file.now c.number_end-end.result =
    number_stop c.args.file.now c.number_end-end.result c.number_end-end.ensures.stop in
    let whole : IsNumber c.args.file.now c.args.at c.number_end-end.result =
    number_whole c.args.file.now c.args.at c.number_end-end.result c.requires.first c.number_end-end.ensures.after
    c.number_end-end.ensures.each stop in
    let token : IsToken c.args.file.now (record { kind = Integer; start = c.args.at; end = c.number_end-end.result }) =
    number_IsToken c.args.file.now c.args.at c.number_end-end.result whole c.number_end-end.ensures.inside stop
    (c.is_integer.ensures.0 c.if-is_integer.true) in
    (rw c.new.ensures token, rw c.new.ensures refl)

pub returns-else-is_integer-clause-fault : goal.returns-else-is_integer-clause-fault
returns-else-is_integer-clause-fault c =
    let stop : ¬ IsNumberPart c.args.file.now c.number_end-end.result =
    number_stop c.args.file.now c.number_end-end.result c.number_end-end.ensures.stop in
    let whole : IsNumber c.args.file.now c.args.at c.number_end-end.result =
    number_whole c.args.file.now c.args.at c.number_end-end.result c.requires.first c.number_end-end.ensures.after
    c.number_end-end.ensures.each stop in
    number_fault c.args.file.now c.args.at c.number_end-end.result whole c.requires.inside c.number_end-end.ensures.inside stop
    (λ i. absurd (cc (c.is_integer.ensures.1 i)))
