use Rattle.std.proofs.Common.{drop, arith, subst, sym}
use Rattle.std.proofs.lemmas.Str.Pattern.{NoCharPasses-char}
use Rattle.cr_main_words.specs.Names.{NoSlash}
use Rattle.cr_main.proofs.NameLemmas.{behind_slash, whole_name}
use Rattle.cr_main.proofs.names.own_name.Goals as goal

pub returns-in-Some : goal.returns-in-Some
returns-in-Some c =
    let cut = c.in-Some.ensures.cases in record {
      last = behind_slash c.args.name.now c.in-Some.own.now cut.0 cut.1 cut.2.1 cut.4;
      plain = subst NoSlash (sym cut.4) (λ i below. NoCharPasses-char 47 (drop cut.1 c.args.name.now) i cut.2.0 (omega arith) below);
    }

pub returns-in-None : goal.returns-in-None
returns-in-None c = record {
  last = whole_name c.args.name.now;
  plain = λ i below. NoCharPasses-char 47 c.args.name.now i c.in-None.ensures.cases (omega arith) below;
}
