use Rattle.std.proofs.Common.{◌≡◌, ◌+◌, Err, ap, arith}
use Rattle.cr_formula.specs.Forms.{form_of}
use Rattle.cr_formula.specs.declared.formula.FormulaFault.TheVariants as refusal
use Rattle.cr_formula.proofs.Heads.{no_depth, no_head}
use Rattle.cr_formula.proofs.Refusals.{no_both, no_either, not_close, not_one, not_open, two_close, two_comma, two_other}
use Rattle.cr_formula.proofs.parser.+reading.Goals as goal

pub conjunction-returns-in-Err-clause-none : goal.conjunction-returns-in-Err-clause-none
conjunction-returns-in-Err-clause-none t c = λ form. no_both c.args.words.now c.args.left (c.in-Err.ensures.none (let is : c.in-Err.fault ≡ refusal.Form = cc in ap Err is))

pub disjunction-returns-in-Err-clause-none : goal.disjunction-returns-in-Err-clause-none
disjunction-returns-in-Err-clause-none t c = λ form. no_either c.args.words.now c.args.left (c.in-Err.ensures.none (let is : c.in-Err.fault ≡ refusal.Form = cc in ap Err is))

pub negation-returns-in_default-clause-none : goal.negation-returns-in_default-clause-none
negation-returns-in_default-clause-none t c = λ _. not_open c.args.words.now (c.args.left + 1) c.in_default.ensures

pub negation-returns-in-Err-clause-none : goal.negation-returns-in-Err-clause-none
negation-returns-in-Err-clause-none t c = λ form. not_one c.args.words.now c.in-Some.inside.now c.args.left c.in-Some.ensures (c.in-Err.ensures.none form)

pub negation-returns-in_default-past-clause-none : goal.negation-returns-in_default-past-clause-none
negation-returns-in_default-past-clause-none t c = λ _. not_close c.args.words.now c.in-Some.inside.now c.args.left c.in-Some.ensures
    (form_of c.in-Ok.found.0) c.in-Ok.found.1.now c.in-Ok.ensures.found.0 c.in_default-past.ensures

pub pair-returns-in_default-past-clause-none : goal.pair-returns-in_default-past-clause-none
pair-returns-in_default-past-clause-none t c = λ _. two_comma c.args.words.now c.in-Some.inside.now c.args.left c.in-Some.ensures
    (form_of c.in-Ok.found.0) c.in-Ok.found.1.now c.in-Ok.ensures.found.0 c.in_default-past.ensures

pub pair-returns-in-Err-parse-clause-none : goal.pair-returns-in-Err-parse-clause-none
pair-returns-in-Err-parse-clause-none t c = λ form. two_other c.args.words.now c.in-Some.inside.now c.args.left c.in-Some.ensures
    (form_of c.in-Ok.found.0) c.in-Ok.found.1.now c.in-Ok.ensures.found.0 c.in-Some-past.second.now c.in-Some-past.ensures (c.in-Err-parse.ensures.none (let is : c.in-Err-parse.fault ≡ refusal.Form = cc in ap Err is))

pub pair-returns-in_default-past-2-clause-none : goal.pair-returns-in_default-past-2-clause-none
pair-returns-in_default-past-2-clause-none t c = λ _. two_close c.args.words.now c.in-Some.inside.now c.args.left c.in-Some.ensures
    (form_of c.in-Ok.found.0) c.in-Ok.found.1.now c.in-Ok.ensures.found.0 c.in-Some-past.second.now c.in-Some-past.ensures
    (form_of c.in-Ok-parse.found.0) c.in-Ok-parse.found.1.now c.in-Ok-parse.ensures.found.0 c.in_default-past-2.ensures

pub parse-returns-then-left-eq0-clause-none : goal.parse-returns-then-left-eq0-clause-none
parse-returns-then-left-eq0-clause-none t c = λ _ f rest it deep. no_depth f (omega (arith, deep, c.if-left-eq0.true))

pub parse-returns-in_default-clause-none : goal.parse-returns-in_default-clause-none
parse-returns-in_default-clause-none t c = λ _ f rest it deep. no_head f c.args.words.now rest c.in_default.ensures it
