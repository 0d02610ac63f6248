use Rattle.std.proofs.Common.{◌≡◌, ◌∙◌, sym, rules}
use Rattle.cr_scopes.proofs.Spellings.{more_is}
use Rattle.cr_scopes.proofs.spelled.first_of_word.Goals as goal

pub returns-in_ok-insert-in-None-clause-known : goal.returns-in_ok-insert-in-None-clause-known
returns-in_ok-insert-in-None-clause-known c =
    let key : c.in_ok-to_vec-in-None.field-0.items ≡ c.args.spelling.now = search rules in
    more_is c.args.words.now.entries c.insert.new.self.entries c.in_ok-to_vec-in-None.field-0 c.args.number c.args.spelling.now
    c.in_ok-insert-in-None.ensures.entries key (sym (c.copied.ensures ∙ c.get.ensures.value) ∙ c.in-None.is)
