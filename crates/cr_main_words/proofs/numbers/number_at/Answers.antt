use Rattle.std.proofs.Common.{subst, sym, Some, None}
use Rattle.std.specs.Result.{IfOk}
use Rattle.clap.specs.Walk.{texts}
use Rattle.clap.specs.Words.{found_of}
use Rattle.cr_main_words.specs.Numbers.{IsOptional}
use Rattle.cr_main_words.specs.Numbers.IsOptional.{no_value}
use Rattle.cr_main_words.proofs.Uses.{values_are}
use Rattle.cr_main_words.proofs.numbers.number_at.Goals as goal

pub returns-in-Some-clause-number : goal.returns-in-Some-clause-number
returns-in-Some-clause-number c =
    subst (λ v. IfOk c.number_in.result (IsOptional c.args.least c.args.most v))
    (sym (values_are (found_of c.args.matches.now) c.args.name.now (Some (texts c.in-Some.values.now)) c.in-Some.ensures)) c.number_in.ensures.number

pub returns-in-Some-clause-usage : goal.returns-in-Some-clause-usage
returns-in-Some-clause-usage c = λ is given optional.
    c.number_in.ensures.usage is given
    (subst (λ v. IsOptional c.args.least c.args.most v given)
    (values_are (found_of c.args.matches.now) c.args.name.now (Some (texts c.in-Some.values.now)) c.in-Some.ensures) optional)

pub returns-in-None-clause-number : goal.returns-in-None-clause-number
returns-in-None-clause-number c =
    subst (λ v. IsOptional c.args.least c.args.most v None) (sym (values_are (found_of c.args.matches.now) c.args.name.now None c.in-None.ensures)) no_value
