-- What a kept reduction's end says of the journal.
use Rattle.std.proofs.Common.{◌≡◌, ◌≢◌, ℕ, Bool, true, false, List, [], ◌∷◌, map, Option, refl, sym, ◌∙◌}
use Rattle.cr_outside.specs.Story.{Story}
use Rattle.cr_outside_disk.specs.Moments.{AlwaysTold, EveryTold}
use Rattle.cr_journal_records.specs.Records.{AtRest, Body, IsKept, Stands}
use Rattle.cr_journal_rows.specs.Forms.{row_body}
use Rattle.cr_journal.specs.Keeping.{HasKept, KeptOn, journal_of}
use Rattle.cr_journal.specs.Times.{always_kept, first_stands, lasts_now, one_header}
use Rattle.cr_reduce.specs.Keeping.{IsFrontOfAll, ReducesOnAsTold}
use Rattle.cr_reduce.specs.Reduction.{Outcome}
use Rattle.cr_reduce.specs.Search.{Search}
use Rattle.cr_reduce.specs.declared.end.Accepted.{Accepted}
use Rattle.cr_reduce.specs.declared.end.End.{End}
use Rattle.cr_reduce.specs.declared.end.Kept.{Kept}
use Rattle.cr_reduce.specs.declared.end.Why.{Why}
use Rattle.cr_reduce.specs.declared.end.Why.TheVariants.{Fixed, Limit, Fault, NoMemory}

-- where a keeper has failed, the walk ended for want of memory
pub wants : (why : Why) (has_failed : Bool) → (why ≢ NoMemory → has_failed ≡ false) → has_failed ≡ true → why ≡ NoMemory
wants Fixed has_failed fine failed = absurd (let bad : false ≡ true = sym (fine (λ is. cc)) ∙ failed in cc)
wants Limit has_failed fine failed = absurd (let bad : false ≡ true = sym (fine (λ is. cc)) ∙ failed in cc)
wants (Fault turn worker) has_failed fine failed = absurd (let bad : false ≡ true = sym (fine (λ is. cc)) ∙ failed in cc)
wants NoMemory has_failed fine failed = refl

module _ (old new : Option Story) (first rows : List Accepted) (x y : ℕ) (disk_failed has_failed : Bool) (on : KeptOn old new rows x y disk_failed has_failed) where
  pub front : (header : Body) → EveryTold (AtRest (journal_of header first)) old → AlwaysTold (IsKept (journal_of header rows)) old new
  front header rests = on.any_moment header (first_stands header (map row_body first) old rests)

  pub still_rests : (is_ready : Bool) (size : ℕ) → HasKept new is_ready size has_failed rows → (header : Body) → EveryTold (AtRest (journal_of header first)) old → EveryTold (AtRest (journal_of header rows)) new
  still_rests is_ready size keeps header rests =
      one_header header keeps.rests.0 (map row_body rows) new keeps.rests.1 (lasts_now (Stands (header ∷ [])) old new (on.lasts (header ∷ [])) (first_stands header (map row_body first) old rests))

-- what is always kept of what was accepted is always kept of what the whole reduction accepts
pub of_all : (s : Search) (kept : Kept) (limit : Option ℕ) (e : End) → IsFrontOfAll s limit kept e → (out : Outcome) → ReducesOnAsTold s kept limit out
    → (header : Body) (old new : Option Story) → AlwaysTold (IsKept (journal_of header e.accepted.items)) old new → AlwaysTold (IsKept (journal_of header out.accepted)) old new
of_all s kept limit e first out whole header old new = always_kept header e.accepted.items out.accepted (first out whole) old new
