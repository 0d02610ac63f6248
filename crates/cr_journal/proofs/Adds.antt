-- A row more in the journal.
use Rattle.std.proofs.Common.{◌≡◌, ℕ, ◌+◌, ◌*◌, ◌≤◌, Bool, true, List, [], ◌∷◌, ◌++◌, length, map, Option, sym, arith, length-append}
use Rattle.std.proofs.lemmas.List.{append-nil}
use Rattle.cr_outside.specs.Faults.{Rose}
use Rattle.cr_outside.specs.Story.{Story}
use Rattle.cr_outside_disk.specs.Moments.{AlwaysTold, EveryTold, LastsTold}
use Rattle.cr_journal_records.specs.Records.{AtRest, Body, IsFront, IsKept, Stands}
use Rattle.cr_journal_rows.specs.Forms.{row_body}
use Rattle.cr_journal.specs.Keeping.{HasKept, KeptOn, journal_of}
use Rattle.cr_journal.specs.Times.{one_header}
use Rattle.cr_reduce.specs.declared.end.Accepted.{Accepted}

module _ (rows : List Accepted) (row : Accepted) (count : ℕ) (counts : length rows ≡ count) (old new : Option Story) (is_ready has : Bool) (size : ℕ) (keeps : HasKept old is_ready size has rows) where
  pub kept_on : ((header : Body) (some : List Accepted) (all : List Body) → length some ≡ count → IsFront (journal_of header (some ++ row ∷ [])) all
      → EveryTold (AtRest (journal_of header some)) old → AlwaysTold (IsKept all) old new)
      → ((header : Body) (some : List Accepted) (any : List Body) → length some ≡ count → EveryTold (AtRest (journal_of header some)) old → LastsTold (Stands any) old new)
      → (x y : ℕ) → x ≤ y → (disk_failed failed : Bool) → (failed ≡ true → Rose x y × (disk_failed ≡ true)) → KeptOn old new (rows ++ row ∷ []) x y disk_failed failed
  kept_on any_moment lasts x y later disk_failed failed cause = record {
    any_moment = λ header stands. any_moment header rows (journal_of header (rows ++ row ∷ [])) counts ([], sym (append-nil (journal_of header (rows ++ row ∷ []))))
        (one_header header keeps.rests.0 (map row_body rows) old keeps.rests.1 stands);
    lasts = λ any. lasts keeps.rests.0 rows any counts keeps.rests.1;
    later = later;
    failed = cause;
  }

  pub has_kept : ((header : Body) (some : List Accepted) → length some ≡ count → EveryTold (AtRest (journal_of header some)) old → EveryTold (AtRest (journal_of header (some ++ row ∷ []))) new)
      → (ready : Bool) (long : ℕ) → ready ≡ true → 32 * count + 65 ≤ long → HasKept new ready long has (rows ++ row ∷ [])
  has_kept added ready long is_so enough = record {
    ready = is_so;
    fine = keeps.fine;
    long = omega (arith, counts, enough, length-append rows (row ∷ []));
    rests = (keeps.rests.0, added keeps.rests.0 rows counts keeps.rests.1);
  }
