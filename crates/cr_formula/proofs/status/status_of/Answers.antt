use Rattle.std.proofs.Common.{◌≡◌, refl, true, false}
use Rattle.cr_formula.proofs.Statuses.{failed, parsed, status_unpadded, status_unsigned, status_utf8}
use Rattle.cr_formula.proofs.status.status_of.Goals as goal

-- A number in decimal is plain.
pub returns-then-not-is_plain : goal.returns-then-not-is_plain
returns-then-not-is_plain c = λ n low is.
    let plain : false ≡ true = c.if-not-is_plain.ensures.only (status_unsigned c.args.word.now n low is) (status_unpadded c.args.word.now n low is) in cc

pub returns-in_default : goal.returns-in_default
returns-in_default c = λ n low is. c.in_default.ensures.cases.0 (status_utf8 c.args.word.now n low is)

pub returns-in-Ok-parse : goal.returns-in-Ok-parse
returns-in-Ok-parse c =
    parsed c.args.word.now c.in-Ok.text.now c.in-Ok-parse.n c.parse.result c.in-Ok.ensures.cases.0 (c.if-not-is_plain.ensures.unsigned refl) (c.if-not-is_plain.ensures.unpadded refl) c.parse.ensures.value.0 c.in-Ok-parse.is

pub returns-in-Err : goal.returns-in-Err
returns-in-Err c = failed c.args.word.now c.in-Ok.text.now c.in-Err.field-0 c.in-Ok.ensures.cases.0 c.in-Err.ensures.value.0
