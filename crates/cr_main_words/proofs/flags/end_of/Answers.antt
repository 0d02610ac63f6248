use Rattle.std.proofs.Common.{ap, codes, length, string_bytes, sym, unwrap_or, ◌∙◌}
use Rattle.std.specs.Str.{bytes_eq}
use Rattle.cr_main_words.specs.Flags.{is_end}
use Rattle.cr_main_words.proofs.Sifting.{first_or_len, position_or_len-map}
use Rattle.cr_main_words.proofs.flags.end_of.Goals as goal

pub returns-clause-end : goal.returns-clause-end
returns-clause-end c =
    c.unwrap_or.ensures ∙ ap (λ o. unwrap_or o (length c.args.list.now)) c.dashes_in.ensures
    ∙ first_or_len (λ word. bytes_eq (string_bytes word) (codes "--")) c.args.list.now ∙ sym (position_or_len-map string_bytes is_end c.args.list.now)
