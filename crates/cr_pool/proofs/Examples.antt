-- Verdicts put into a list of two at most, worked by hand: where a third file comes, the one that was put longest ago goes, and a file that is put again counts as put last.
use Rattle.std.proofs.Common.{◌≡◌, ℕ, List, [], ◌∷◌, refl}
use Rattle.cr_pool.specs.declared.verdict.Verdict.{Verdict}
use Rattle.cr_pool.specs.declared.verdict.Verdict.TheVariants.{Unlawful, Yes, No}
use Rattle.cr_pool.specs.Kept.{Kept, put_kept}

abbrev on : List ℕ → Verdict → Kept
on file said = record { file = file; verdict = said }

first_one : put_kept 2 (97 ∷ []) No [] ≡ on (97 ∷ []) No ∷ []
first_one = refl

the_last_put_stands_first : put_kept 2 (98 ∷ []) Yes (put_kept 2 (97 ∷ []) No []) ≡ on (98 ∷ []) Yes ∷ on (97 ∷ []) No ∷ []
the_last_put_stands_first = refl

the_oldest_of_three_goes : put_kept 2 (99 ∷ []) Unlawful (on (98 ∷ []) Yes ∷ on (97 ∷ []) No ∷ []) ≡ on (99 ∷ []) Unlawful ∷ on (98 ∷ []) Yes ∷ []
the_oldest_of_three_goes = refl

what_is_put_again_stands_first : put_kept 2 (97 ∷ []) No (on (98 ∷ []) Yes ∷ on (97 ∷ []) No ∷ []) ≡ on (97 ∷ []) No ∷ on (98 ∷ []) Yes ∷ []
what_is_put_again_stands_first = refl

so_the_other_one_goes : put_kept 2 (99 ∷ []) Unlawful (on (97 ∷ []) No ∷ on (98 ∷ []) Yes ∷ []) ≡ on (99 ∷ []) Unlawful ∷ on (97 ∷ []) No ∷ []
so_the_other_one_goes = refl
