-- What the rule comes to.
use Rattle.std.specs.Prelude.{◌≡◌, ℕ, ◌+◌, false, if◌then◌else◌, List, [], ◌∷◌, ◌++◌, length, slice_set}
use Prim.Native.Nat.{zero, suc}
use mathlib.Core.Option.{some}
use lib.ListN.{get_elem?}
use Rattle.cr_core.specs.declared.marks.HitKind.{HitKind}
use Rattle.cr_core.specs.declared.marks.Mark.TheVariants.{Open, Hit}
use Rattle.cr_core.specs.declared.events.Settle.{Settle}
use Rattle.cr_core.specs.declared.events.Event.{Event}
use Rattle.cr_core.specs.declared.events.Event.TheVariants as event
use Rattle.cr_core.specs.Row.{Row, last_mark, with_last}
use Rattle.cr_core.specs.State.{State, IsSoundState}
use Rattle.cr_core.specs.Machine.{MayClaim, MayHit, MayLeave, IsAllowed, after, claimed, settled, lowered}
use Rattle.cr_claims.specs.declared.view.View.{View}
use Rattle.cr_claims.specs.View.{with_own, looked, struck, gone}
use Rattle.cr_claims.specs.Rule.{IsKept}

-- the lists of a view that isn't spent: its own, and those that it joined
abbrev pub lists_of : View → List Row
lists_of v = if v.spent then [] else (v.own ∷ v.joined)

-- the lists of all passes, each apart
abbrev pub all_lists : List View → List Row
all_lists [] = []
all_lists (v ∷ vs) = lists_of v ++ all_lists vs

-- the place of a pass's own list among them
abbrev pub place_of : List View → ℕ → ℕ
place_of [] id = 0
place_of (v ∷ vs) zero = 0
place_of (v ∷ vs) (suc id) = length (lists_of v) + place_of vs id

-- the two words with the lists of all passes, as a state of the core
abbrev pub core_of : ℕ → ℕ → ℕ → List View → State
core_of len next least views = record { len = len; next = next; least = least; lists = all_lists views }

-- wherever the rule holds, this state is sound
abbrev pub WordsAndPassesAreACore : Type 0
WordsAndPassesAreACore = (len : ℕ) (words : List ℕ) (views : List View) → IsKept len words views
    → (next : ℕ) × (least : ℕ) × (words ≡ next ∷ least ∷ []) × IsSoundState (core_of len next least views)

-- the event is allowed in one state, and makes another of it
abbrev pub Leads : Event → State → State → Type 0
Leads e s t = IsAllowed e s × (after e s ≡ t)

-- the steps of the pass `id`, whose view is v, are events of the core at the place of its own list
pub record StepsAreEvents (len next least : ℕ) (views : List View) (id : ℕ) (v : View) : Type 0 where
  pub claim : (done : Settle) → MayClaim len v.read done v.own
      → Leads (event.Claim (place_of views id) done) (core_of len next least views)
      (core_of len (next + 1) least (slice_set views id (with_own (claimed next done v.own) v)))
  pub look : last_mark v.own ≡ Open
      → Leads (event.Look (place_of views id)) (core_of len next least views)
      (core_of len next least (slice_set views id (looked least v)))
  pub hit : (k : HitKind) → MayHit len v.own
      → Leads (event.Hit (place_of views id) k) (core_of len next least views)
      (core_of len next (lowered least k v.own) (slice_set views id (struck (lowered least k v.own) (with_last (Hit k) v.own) v)))
  pub leave : (done : Settle) → MayLeave len v.read done v.own
      → Leads (event.Leave (place_of views id) done) (core_of len next least views)
      (core_of len next least (slice_set views id (gone (settled done v.own) v)))

-- wherever the rule holds, this is so of each pass, though it has only read the word `least` some time before
abbrev pub EachStepIsAnEvent : Type 0
EachStepIsAnEvent = (len next least : ℕ) (views : List View) → IsKept len (next ∷ least ∷ []) views
    → (id : ℕ) (v : View) → get_elem? views id ≡ some v → v.spent ≡ false → StepsAreEvents len next least views id v
