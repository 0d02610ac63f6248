-- What recovery answers, from the bodies that it read.
use Rattle.std.proofs.Common.{◌≡◌, ◌≢◌, ℕ, zero, suc, ◌+◌, ◌*◌, ◌<◌, ◌≤◌, List, [], ◌∷◌, All, map, length, get_or, Option, Some, None, Result, Ok, Err, IfOk, IfSome, Vec, refl, sym, ◌∙◌, ap, subst, arith}
use Rattle.std.proofs.lemmas.List.{length-map}
use Rattle.std.specs.declared.alloc.Global.{Global}
use Rattle.cr_outside.specs.Story.{Story}
use Rattle.cr_outside_disk.specs.Moments.{EveryTold, seen}
use Rattle.cr_reduce.specs.declared.end.Accepted.{Accepted}
use Rattle.cr_journal_records.specs.Reading as reading
use Rattle.cr_journal_records.specs.Reading.{ReadsTold}
use Rattle.cr_journal_records.specs.Records.{AtRest, Body, Reads, StandsFirst, StandsNone}
use Rattle.cr_journal_records.proofs.Blocks.{Sized, sized}
use Rattle.cr_journal_rows.specs.Forms.{AllFit, ReadsBodies, RecoversTold, bodies_of, row_body}
use Rattle.cr_journal_rows.specs.declared.fault.JournalFault.{JournalFault}
use Rattle.cr_journal_rows.specs.declared.fault.JournalFault.TheVariants.{NoMemory, Disk, Bad, Differs}
use Rattle.cr_journal_rows.specs.declared.header.Header.{Header}

all_sized : (bodies : List Body) → Sized bodies → All (λ body. length body ≡ 31) bodies
all_sized [] sizes k d within = absurd (omega (arith, within))
all_sized (body ∷ more) (size, sizes) zero d within = size
all_sized (body ∷ more) (size, sizes) (suc k) d within = all_sized more sizes k d (omega (arith, within))

abbrev Found : Type 0
Found = Result (Option (Header × Vec Accepted Global)) JournalFault

module _ (bodies : List (Vec ℕ Global)) where
  none_stand : (other : Option Story) → ReadsTold other (reading.bodies_of bodies) → bodies ≡ [] → StandsNone other
  none_stand None reads none = tt
  none_stand (Some s) (rest, reads) none = λ stands.
      let (is, shut) = subst (λ (l : List (Vec ℕ Global)). Reads (seen s) (reading.bodies_of l) rest) none reads in
      shut (subst StandsFirst is stands)

  recovers_from : (s : Story) (result : Found) → ReadsTold (Some s) (reading.bodies_of bodies) → ReadsBodies bodies result → RecoversTold (Some s) result
  recovers_from s (Ok None) reads none = none_stand (Some s) reads none
  recovers_from s (Ok (Some (header, rows))) (rest, reads) (same, low, fits) = (rest, subst (λ (l : List Body). Reads (seen s) l rest) same reads, low)
  recovers_from s (Err (Bad i)) (rest, reads) bad = (reading.bodies_of bodies, rest, reads, bad (all_sized (reading.bodies_of bodies) (sized (seen s) (reading.bodies_of bodies) rest reads)))
  recovers_from s (Err NoMemory) reads found = tt
  recovers_from s (Err Disk) reads found = tt
  recovers_from s (Err (Differs i)) reads found = tt

pub recovers : (told : Option Story) (bodies : List (Vec ℕ Global)) (result : Found) → ReadsTold told (reading.bodies_of bodies) → ReadsBodies bodies result → RecoversTold told result
recovers None bodies result reads found = tt
recovers (Some s) bodies result reads found = recovers_from bodies s result reads found

pub fits_then : (bodies : List (Vec ℕ Global)) (result : Found) → ReadsBodies bodies result → IfOk result (λ found. IfSome found (λ journal. AllFit journal.0 journal.1.items))
fits_then bodies (Ok None) found = tt
fits_then bodies (Ok (Some (header, rows))) (same, low, fits) = fits
fits_then bodies (Err fault) found = tt
