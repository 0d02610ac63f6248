-- One row more.
use Rattle.std.proofs.Common.{◌≡◌, ℕ, ◌+◌, List, [], ◌∷◌, ◌++◌, map, length, Option, refl, sym, ◌∙◌, ap, subst, arith}
use Rattle.std.proofs.lemmas.List.{length-map, map-append}
use Rattle.cr_outside.specs.Story.{Story}
use Rattle.cr_outside_disk.specs.Moments.{AlwaysTold, EveryTold, LastsTold}
use Rattle.cr_reduce.specs.declared.end.Accepted.{Accepted}
use Rattle.cr_journal_records.specs.Records.{AtRest, Body, IsFront, IsKept, Stands}
use Rattle.cr_journal_records.proofs.Adding.{at_start}
use Rattle.cr_journal_rows.specs.Forms.{row_body}

module _ (header : Body) (rows : List Accepted) (row : Accepted) (count : ℕ) (counts : length rows ≡ count) (body : Body) (is : body ≡ row_body row) (old new : Option Story)
    (rests : EveryTold (AtRest (header ∷ map row_body rows)) old) where
  whole : (header ∷ map row_body rows) ++ body ∷ [] ≡ header ∷ map row_body (rows ++ row ∷ [])
  whole = ap (λ (b : Body). (header ∷ map row_body rows) ++ b ∷ []) is ∙ ap (λ (l : List Body). header ∷ l) (sym (map-append row_body rows (row ∷ [])))

  size : length (header ∷ map row_body rows) ≡ count + 1
  size = omega (arith, counts, length-map rows row_body)

  pub kept_at_start : (all : List Body) → IsFront (header ∷ map row_body (rows ++ row ∷ [])) all → AlwaysTold (IsKept all) old old
  kept_at_start all front =
      at_start (header ∷ map row_body rows) all body (count + 1) size (ap length is) (subst (λ (l : List Body). IsFront l all) (sym whole) front) (body ++ 0 ∷ []) refl old rests

  pub added : (all : List Body) → IsFront (header ∷ map row_body (rows ++ row ∷ [])) all
      → ((bodies every : List Body) → length bodies ≡ count + 1 → IsFront (bodies ++ body ∷ []) every → EveryTold (AtRest bodies) old → AlwaysTold (IsKept every) old new)
      → AlwaysTold (IsKept all) old new
  added all front any_moment = any_moment (header ∷ map row_body rows) all size (subst (λ (l : List Body). IsFront l all) (sym whole) front) rests

  pub lasting : (some : List Body) → ((bodies any : List Body) → length bodies ≡ count + 1 → EveryTold (AtRest bodies) old → LastsTold (Stands any) old new) → LastsTold (Stands some) old new
  lasting some lasts = lasts (header ∷ map row_body rows) some size rests

  pub stands : ((bodies : List Body) → length bodies ≡ count + 1 → EveryTold (AtRest bodies) old → EveryTold (AtRest (bodies ++ body ∷ [])) new)
      → EveryTold (AtRest (header ∷ map row_body (rows ++ row ∷ []))) new
  stands adds = subst (λ (l : List Body). EveryTold (AtRest l) new) whole (adds (header ∷ map row_body rows) size rests)
