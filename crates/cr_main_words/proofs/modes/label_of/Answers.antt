use Rattle.std.proofs.Common.{◌≡◌, rules, sym, ◌∙◌}
use Rattle.cr_main_words.specs.Words.{texts_of}
use Rattle.cr_main_words.proofs.Asking.{no_label, read_label, unread_label}
use Rattle.cr_main_words.proofs.modes.label_of.Goals as goal

pub returns-in_default-clause-usage : goal.returns-in_default-clause-usage
returns-in_default-clause-usage c = λ is. no_label (texts_of c.args.list.now) c.requires c.in_default.ensures

pub returns-then-not-is_identifier-clause-usage : goal.returns-then-not-is_identifier-clause-usage
returns-then-not-is_identifier-clause-usage c = λ is.
    unread_label (texts_of c.args.list.now) c.in-Some.name.now c.requires c.in-Some.ensures (sym c.is_identifier.ensures ∙ c.if-not-is_identifier.true)

pub returns-in-Ok-clause-label : goal.returns-in-Ok-clause-label
returns-in-Ok-clause-label c =
    let same : c.from_vec.result ≡ c.in-Some.name.now = search rules in
    read_label (texts_of c.args.list.now) c.in-Some.name.now c.from_vec.result c.requires c.in-Some.ensures (sym c.is_identifier.ensures ∙ c.if-not-is_identifier.false) same
