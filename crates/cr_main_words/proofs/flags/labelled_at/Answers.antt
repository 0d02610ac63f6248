use Rattle.std.proofs.Common.{ap, length, string_bytes, unwrap_or, ◌∙◌}
use Rattle.cr_main_words.specs.Flags.{is_labelled}
use Rattle.cr_main_words.proofs.Sifting.{first_or_len}
use Rattle.cr_main_words.proofs.flags.labelled_at.Goals as goal

pub returns : goal.returns
returns c =
    c.unwrap_or.ensures ∙ ap (λ o. unwrap_or o (length c.args.words.now)) c.labelled_place.ensures
    ∙ first_or_len (λ word. is_labelled (string_bytes word)) c.args.words.now
