use Rattle.std.proofs.Common.{inl, inr, refl}
use Rattle.cr_main_words.proofs.source.ends_folder.Goals as goal

pub returns-in-Some : goal.returns-in-Some
returns-in-Some c = (λ _. inr (c.in-Some.field-0.now, c.in-Some.ensures), λ _. refl)

pub returns-in-None : goal.returns-in-None
returns-in-None c = (
  λ empty. inl (c.is_nothing.ensures.0 empty),
  λ ends. elim ends [
    | inl none ↦ c.is_nothing.ensures.1 none
    | inr some ↦ absurd (c.in-None.ensures some.0 some.1)
  ],
)
