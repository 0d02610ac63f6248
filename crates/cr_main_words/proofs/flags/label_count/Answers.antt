use Rattle.std.proofs.Common.{ap, string_bytes, sym, take, ◌∙◌}
use Rattle.std.specs.List.{count_by}
use Rattle.cr_main_words.specs.Flags.{is_labelled}
use Rattle.cr_main_words.proofs.Sifting.{count_by-map, front_is}
use Rattle.cr_main_words.proofs.flags.label_count.Goals as goal

pub returns : goal.returns
returns c =
    c.labelled_in.ensures ∙ sym (count_by-map string_bytes is_labelled (take c.end_of.result c.args.list.now))
    ∙ ap (count_by is_labelled) (sym (front_is c.args.list.now c.end_of.result c.end_of.ensures.end))
