use Rattle.std.proofs.Common.{codes, sym, ◌∙◌}
use Rattle.std.specs.Fmt.{decimal}
use Rattle.cr_formula.proofs.Heads.{only_ends}
use Rattle.cr_formula.proofs.Once.{third}
use Rattle.cr_formula.proofs.parser.ending.Goals as goal

pub returns-in_default-clause-none : goal.returns-in_default-clause-none
returns-in_default-clause-none c = λ _ f rest it. let found = only_ends f c.args.words.now rest it in c.in_default.ensures (decimal found.0) rest found.3

pub returns-in-None-clause-none : goal.returns-in-None-clause-none
returns-in-None-clause-none c = λ _ f rest it.
    let found = only_ends f c.args.words.now rest it in
    let same = third (codes "(") (codes ")") c.in-Some.word.now (decimal found.0) c.in-Some.rest.now rest (sym c.in-Some.ensures ∙ found.3) in
    c.in-None.ensures found.0 found.2 (c.as_slice.ensures ∙ same.0)
