use Rattle.std.proofs.Common.{ap, drop, take, ◌∙◌}
use Rattle.cr_main_words.proofs.Sifting.{front_is, label_is, label_none}
use Rattle.cr_main_words.proofs.flags.first_label.Goals as goal

pub returns-in-Some : goal.returns-in-Some
returns-in-Some c =
    let list = c.args.list.now in
    let end = c.end_of.result in
    let found = c.in-Some.ensures.lookup in
    label_is list (take end list) c.labelled_at.result c.in-Some.word.now c.behind_flag.result.now (front_is list end c.end_of.ensures.end) c.labelled_at.ensures found.3.0 found.1
    (c.behind_flag.ensures ∙ ap (drop 10) c.as_str.ensures.value)

pub returns-in-None : goal.returns-in-None
returns-in-None c =
    let list = c.args.list.now in
    let end = c.end_of.result in
    label_none list (take end list) c.labelled_at.result (front_is list end c.end_of.ensures.end) c.labelled_at.ensures c.in-None.ensures.lookup.3
