-- Laws of the reduction by told answers, for any search.
use Rattle.std.specs.Prelude.{◌≡◌, ℕ, Bool, List, Option}
use Rattle.cr_cursor.specs.Variants.{Offer}
use Rattle.cr_outside.specs.Question.{Says}
use Rattle.cr_pool.specs.Kept.{Kept}
use Rattle.cr_reduce.specs.Keeping.{EndsOnAsTold, Front, IsFrontOfAll, IsKeptOf, ReducesOnAsTold}
use Rattle.cr_reduce.specs.Reduction.{Proposals, Trial, State, Outcome}
use Rattle.cr_reduce.specs.Search.{Search, AcceptsAsTold, RejectsAsTold, ReducesAsTold, ReducesFileAsTold, search_of}
use Rattle.cr_reduce.specs.Sizes.{HasSize}
use Rattle.cr_reduce.specs.declared.end.End.{End}
use Rattle.cr_reduce.specs.declared.end.Kept.{Kept as KeptRows}

-- no variant is both accepted and rejected
abbrev pub ExcludeEachOther : Trial → Trial → Type 0
ExcludeEachOther Accepts Rejects = (file variant : List ℕ) → Accepts file variant → Rejects file variant → ⊥

abbrev pub ToldTrialsExclude : Search → Type 0
ToldTrialsExclude s = ExcludeEachOther (AcceptsAsTold s) (RejectsAsTold s)

-- from each state on, under each limit, one outcome at most
abbrev pub HasOneOutcome : Search → Type 0
HasOneOutcome s = (limit : Option ℕ) (st : State) (out other : Outcome) → ReducesAsTold s limit st out → ReducesAsTold s limit st other → out ≡ other

-- and so of each file
abbrev pub HasOneReduction : Search → Type 0
HasOneReduction s = (limit : Option ℕ) (file : List ℕ) (out other : Outcome) → ReducesFileAsTold s file limit out → ReducesFileAsTold s file limit other → out ≡ other

-- Where a reduction that went on ended, also where it was cut short, what it accepted comes first in what the whole one accepts.
abbrev pub AcceptsAFront : Search → Type 0
AcceptsAFront s = (limit : Option ℕ) (kept : KeptRows) (e : End) → EndsOnAsTold s limit kept e → IsFrontOfAll s limit kept e

-- Where a reduction accepts these rows first, it goes on behind them to the same outcome.
abbrev pub GoesOnToTheSame : Search → Type 0
GoesOnToTheSame s = (limit : Option ℕ) (file : List ℕ) (kept : KeptRows) (out : Outcome) → IsKeptOf s.Offers file kept → Front kept.accepted.items out.accepted
    → ReducesFileAsTold s file limit out → ReducesOnAsTold s kept limit out

-- it can't be that there is none
abbrev pub NotNone : Type 0 → Type 0
NotNone A = (A → ⊥) → ⊥

-- Where no lawful file is without a told answer, and no file that has a size without an offer, no file that has one is without a reduction, whatever the
-- limit.
abbrev pub ReductionsAreThere : Search → Type 0
ReductionsAreThere s = ((v : List ℕ) → s.Lawful v → NotNone ((answer : Bool) × s.Tells v answer)) → ((v : List ℕ) (n : ℕ) → HasSize v n → NotNone ((o : Offer) × s.Offers v o))
    → (limit : Option ℕ) (file : List ℕ) (size : ℕ) → HasSize file size → NotNone ((out : Outcome) × ReducesFileAsTold s file limit out)

-- whatever the judges say, and whatever is kept
abbrev pub ForAnyJudge : Proposals → (List ℕ → Type 0) → Bool → (Says → List ℕ → List ℕ → Bool → Type 0) → (Search → Type 0) → Type 0
ForAnyJudge Offers Lawful asks tells Holds =
    (says : Says) (name : List ℕ) (kept : List Kept) → Holds (search_of Offers Lawful asks tells says name kept)
