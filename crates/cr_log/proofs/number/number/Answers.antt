use Rattle.cr_log.proofs.Fields.{decimal_unpadded, decimal_unsigned, decimal_utf8, failed, parsed}
use Rattle.std.proofs.Common.{◌≡◌, refl, true, false}
use Rattle.cr_log.proofs.number.number.Goals as goal

-- A number in digits is plain.
pub returns-then-not-is_plain : goal.returns-then-not-is_plain
returns-then-not-is_plain c = λ n h is.
    let plain : false ≡ true = c.if-not-is_plain.ensures.only (decimal_unsigned c.args.field.now n h is) (decimal_unpadded c.args.field.now n h is) in cc

pub returns-in_default : goal.returns-in_default
returns-in_default c = λ n h is. c.in_default.ensures.cases.0 (decimal_utf8 c.args.field.now n h is)

pub returns-in-Ok-parse : goal.returns-in-Ok-parse
returns-in-Ok-parse c =
    parsed c.args.field.now c.in-Ok.text.now c.in-Ok-parse.n c.parse.result c.in-Ok.ensures.cases.0 (c.if-not-is_plain.ensures.unsigned refl) (c.if-not-is_plain.ensures.unpadded refl) c.parse.ensures.value.0 c.in-Ok-parse.is

pub returns-in-Err : goal.returns-in-Err
returns-in-Err c = failed c.args.field.now c.in-Ok.text.now c.in-Err.field-0 c.in-Ok.ensures.cases.0 c.in-Err.ensures.value.0
