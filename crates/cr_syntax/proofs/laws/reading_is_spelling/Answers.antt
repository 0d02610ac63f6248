use Rattle.cr_syntax.proofs.Sound.{reads_sound}
use Rattle.cr_syntax.proofs.Complete.{complete}
use Rattle.cr_syntax.proofs.laws.reading_is_spelling.Goals as goal

pub returns : goal.returns
returns c = record {
  sound = λ ts t after q. record { after = after; spells = reads_sound ts t _ _ _ _ _ _ _ q };
  complete = λ ts t u. (u.after, (complete ts u.spells).read);
}
