use Rattle.std.proofs.Common.{ap, string_bytes, sym, take, ◌∙◌}
use Rattle.std.specs.List.{count_by}
use Rattle.std.specs.Str.{bytes_eq}
use Rattle.cr_main_words.proofs.Sifting.{count_by-map, front_is}
use Rattle.cr_main_words.proofs.flags.times.Goals as goal

pub returns : goal.returns
returns c =
    let flag = c.args.flag.now in
    c.count_of.ensures ∙ sym (count_by-map string_bytes (λ word. bytes_eq word flag) (take c.end_of.result c.args.list.now))
    ∙ ap (count_by (λ word. bytes_eq word flag)) (sym (front_is c.args.list.now c.end_of.result c.end_of.ensures.end))
