use Rattle.cr_main_words.proofs.NameLemmas.{same_front}
use Rattle.cr_main_words.proofs.source.has_last_part.Goals as goal

pub returns-in-Some : goal.returns-in-Some
returns-in-Some c = (
  λ ends. record { front = c.in-Some.front.now; is = c.in-Some.ensures; ends = c.ends_folder.ensures.0 ends },
  λ it. c.ends_folder.ensures.1 (same_front c.args.name.now c.args.part.now c.in-Some.front.now c.in-Some.ensures it),
)

pub returns-in-None : goal.returns-in-None
returns-in-None c = (λ ends. cc, λ it. absurd (c.in-None.ensures it.front it.is))
