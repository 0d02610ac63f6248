use Rattle.std.proofs.Common.{◌≡◌, ap, subst, sym, ◌∙◌}
use Rattle.cr_tokens.specs.Runs.{AllWithin, spellings}
use Rattle.cr_tokens.proofs.Measures.{falls_within}
use Rattle.cr_formula.proofs.Texts.{read_found, read_none}
use Rattle.cr_formula.proofs.formula.read_tokens.Goals as goal

pub words_of-requires : goal.words_of-requires
words_of-requires c = subst (AllWithin c.args.text.now) (sym c.as_slice.ensures.value) (falls_within c.requires.falls)

pub returns-clause-found : goal.returns-clause-found
returns-clause-found c =
    let words = c.as_slice-2.ensures.value ∙ c.in-Ok.ensures ∙ ap (spellings c.args.text.now) c.as_slice.ensures.value in
    read_found c.args.text.now c.args.tokens.now.list.items c.as_slice-2.result.now c.read_words-found.result c.requires words c.read_words-found.ensures.found

pub returns-clause-none : goal.returns-clause-none
returns-clause-none c =
    let words = c.as_slice-2.ensures.value ∙ c.in-Ok.ensures ∙ ap (spellings c.args.text.now) c.as_slice.ensures.value in
    read_none c.args.text.now c.args.tokens.now.list.items c.as_slice-2.result.now c.read_words-found.result c.requires words c.read_words-found.ensures.none
