-- The events of the speculative core: when each is allowed, and what it does.
use Rattle.std.specs.Prelude.{◌≡◌, ◌≢◌, ℕ, ◌+◌, ◌<◌, ◌⊎◌, Bool, MatchBool, List, [], ◌∷◌, ◌++◌, length, slice_index_or, slice_set}
use Prim.Native.Nat.{min}
use Rattle.cr_core.specs.declared.marks.HitKind.{HitKind}
use Rattle.cr_core.specs.declared.marks.Mark.TheVariants.{Open, No, Hit, Skipped}
use Rattle.cr_core.specs.declared.events.Settle.{Settle}
use Rattle.cr_core.specs.declared.events.Settle.TheVariants as settle
use Rattle.cr_core.specs.declared.events.Event.{Event}
use Rattle.cr_core.specs.declared.events.Event.TheVariants as event
use Rattle.cr_core.specs.Row.{Row, word, last_position, last_mark, with_last}
use Rattle.cr_core.specs.Sound.{IsOver}
use Rattle.cr_core.specs.State.{State}

-- whether a list's open entry may be settled so; with nothing to settle there is none (in a sound state only a last entry is open)
abbrev pub MaySettle : ℕ → ℕ → Settle → Row → Type 0
MaySettle len least settle.Nothing l = last_mark l ≢ Open
MaySettle len least settle.No l = (last_mark l ≡ Open) × (last_position l < len)
MaySettle len least settle.Skipped l = (last_mark l ≡ Open) × IsOver len least (last_position l)

abbrev pub settled : Settle → Row → Row
settled settle.Nothing l = l
settled settle.No l = with_last No l
settled settle.Skipped l = with_last Skipped l

-- a worker claims again only while its last position is below the length
abbrev pub MayClaim : ℕ → ℕ → Settle → Row → Type 0
MayClaim len least done l = MaySettle len least done l × ((l ≡ []) ⊎ (last_position l < len))

abbrev pub MayHit : ℕ → Row → Type 0
MayHit len l = (last_mark l ≡ Open) × (last_position l < len)

-- a worker leaves at a position that no one need try
abbrev pub MayLeave : ℕ → ℕ → Settle → Row → Type 0
MayLeave len least done l = MaySettle len least done l × (l ≢ []) × IsOver len least (last_position l)

-- the list after its worker settled and claimed the position n
abbrev pub claimed : ℕ → Settle → Row → Row
claimed n done l = settled done l ++ record { position = n; mark = Open } ∷ []

-- `least` after a hit at a list's last position
abbrev pub lowered : ℕ → HitKind → Row → ℕ
lowered least k l = min least (word (last_position l) k)

abbrev pub worker_of : Event → ℕ
worker_of (event.Claim w _) = w
worker_of (event.Look w) = w
worker_of (event.Hit w _) = w
worker_of (event.Leave w _) = w

-- what an event asks of its worker's list
abbrev pub Admits : ℕ → ℕ → Event → Row → Type 0
Admits len least (event.Claim _ done) l = MayClaim len least done l
Admits len least (event.Look _) l = last_mark l ≡ Open
Admits len least (event.Hit _ _) l = MayHit len l
Admits len least (event.Leave _ done) l = MayLeave len least done l

-- what it makes of the list
abbrev pub list_after : ℕ → Event → Row → Row
list_after next (event.Claim _ done) l = claimed next done l
list_after next (event.Look _) l = l
list_after next (event.Hit _ k) l = with_last (Hit k) l
list_after next (event.Leave _ done) l = settled done l

abbrev pub next_after : ℕ → Event → ℕ
next_after next (event.Claim _ _) = next + 1
next_after next (event.Look _) = next
next_after next (event.Hit _ _) = next
next_after next (event.Leave _ _) = next

abbrev pub least_after : ℕ → Event → Row → ℕ
least_after least (event.Claim _ _) l = least
least_after least (event.Look _) l = least
least_after least (event.Hit _ k) l = lowered least k l
least_after least (event.Leave _ _) l = least

abbrev pub list_of : State → ℕ → Row
list_of s w = slice_index_or s.lists w []

-- an event of a worker that isn't there isn't allowed
abbrev pub IsAllowed : Event → State → Type 0
IsAllowed e s = (worker_of e < length s.lists) × Admits s.len s.least e (list_of s (worker_of e))

abbrev pub after : Event → State → State
after e s =
    let w = worker_of e in
    record {
      len = s.len;
      next = next_after s.next e;
      least = least_after s.least e (list_of s w);
      lists = slice_set s.lists w (list_after s.next e (list_of s w));
    }

-- an answer to an event: true where it was allowed and done, false where it isn't allowed
abbrev pub Does : Event → State → State → Bool → Type 0
Does e old new done = MatchBool done (IsAllowed e old × (new ≡ after e old)) (¬ IsAllowed e old × (new ≡ old))

-- the state after the allowed events of a list, in order
pub data Runs : State → List Event → State → Type 0 where
  ends : (s : State) → Runs s [] s
  does : (s : State) (e : Event) (es : List Event) (t : State) → IsAllowed e s → Runs (after e s) es t → Runs s (e ∷ es) t
  passes_over : (s : State) (e : Event) (es : List Event) (t : State) → ¬ IsAllowed e s → Runs s es t → Runs s (e ∷ es) t
