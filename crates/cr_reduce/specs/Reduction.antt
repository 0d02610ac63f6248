-- The first-accepted reduction on one thread: it looks at each variant in order, takes the first that is accepted, goes
-- on where it stood, and repeats rounds until one accepts nothing.
use Rattle.std.specs.Prelude.{◌≡◌, ℕ, ◌+◌, ◌<◌, ◌≤◌, Bool, true, false, List, [], ◌∷◌, ◌++◌, length, Option, Some, None}
use Rattle.std.specs.List.{slice_get}
use Rattle.cr_cursor.specs.declared.passes.Cursor.{Cursor}
use Rattle.cr_reduce.specs.declared.end.Accepted.{Accepted}
use Rattle.cr_reduce.specs.declared.end.Why.{Why}
use Rattle.cr_reduce.specs.declared.end.Why.TheVariants.{Fixed, Limit, Fault}
use Rattle.cr_cursor.specs.Variants.{Offer, cursors, place_of}
use Rattle.cr_reduce.specs.Sizes.{HasSize}

-- what the passes propose: which offers a file has
abbrev pub Proposals : Type 1
Proposals = List ℕ → Offer → Type 0

abbrev pub cursors_of : Offer → List Cursor
cursors_of o = cursors o.widths

-- what a trial says: of a file, a variant
abbrev pub Trial : Type 1
Trial = List ℕ → List ℕ → Type 0

-- of each worker's judge, which trials failed
abbrev pub FailedTrials : Type 1
FailedTrials = ℕ → Trial

abbrev pub none_fails : FailedTrials
none_fails worker file variant = ⊥

-- each variant from one position to before another is rejected
abbrev pub AllRejected : Offer → Trial → List ℕ → ℕ → ℕ → Type 0
AllRejected o Rejects file from to = (i : ℕ) (at : Cursor) → from ≤ i → i < to → slice_get (cursors_of o) i ≡ Some at → Rejects file (o.bytes at)

-- The cursor at this position is that of the first accepted variant, from a position on.
pub record IsFirstAccepted (o : Offer) (Accepts Rejects : Trial) (file : List ℕ) (from position : ℕ) (at : Cursor) : Type 0 where
  pub after : from ≤ position
  pub there : slice_get (cursors_of o) position ≡ Some at
  pub accepted : Accepts file (o.bytes at)
  pub before : AllRejected o Rejects file from position

-- where the reduction stands: the file, what is offered for it, the next position, whether this round has accepted,
-- what was accepted, and how many positions were looked at
pub record State : Type 0 where
  pub file : List ℕ
  pub offer : Offer
  pub position : ℕ
  pub changed : Bool
  pub accepted : List Accepted
  pub turns : ℕ

abbrev pub start_of : List ℕ → Offer → State
start_of file offer = record { file = file; offer = offer; position = 0; changed = false; accepted = []; turns = 0 }

-- how it ends
pub record Outcome : Type 0 where
  pub file : List ℕ
  pub accepted : List Accepted
  pub turns : ℕ
  pub why : Why

abbrev pub ends : State → Why → Outcome
ends st why = record { file = st.file; accepted = st.accepted; turns = st.turns; why = why }

abbrev pub next_round : State → State
next_round st = record { file = st.file; offer = st.offer; position = 0; changed = false; accepted = st.accepted; turns = st.turns }

-- further on in the same file
abbrev pub moved : State → ℕ → ℕ → State
moved st position turns = record { file = st.file; offer = st.offer; position = position; changed = st.changed; accepted = st.accepted; turns = turns }

-- The variant becomes the file, with what is offered for it, and the walk goes on at the same cursor in it.
abbrev pub taken : State → Cursor → ℕ → ℕ → Offer → State
taken st at size turns next = record {
  file = st.offer.bytes at;
  offer = next;
  position = place_of next.widths at;
  changed = true;
  accepted = st.accepted ++ record { at = at; size = size; turn = turns } ∷ [];
  turns = turns;
}

-- so many turns are within the limit
abbrev pub Within : Option ℕ → ℕ → Type 0
Within None turns = Unit {0}
Within (Some limit) turns = turns ≤ limit

-- The reduction from a state on has this outcome.
pub data Reduces (p : Proposals) (Accepts Rejects : Trial) (Fails : FailedTrials) (limit : Option ℕ) : State → Outcome → Type 0 where
  -- At the end of a round that accepted something a new round begins.
  new_round : {st : State} {out : Outcome} → st.position ≡ length (cursors_of st.offer) → st.changed ≡ true
      → Reduces p Accepts Rejects Fails limit (next_round st) out → Reduces p Accepts Rejects Fails limit st out
  -- At the end of a round that accepted nothing it is done.
  fixed : {st : State} {out : Outcome} → st.position ≡ length (cursors_of st.offer) → st.changed ≡ false
      → out ≡ ends st Fixed → Reduces p Accepts Rejects Fails limit st out
  -- The limit is reached, and a position is left.
  spent : {st : State} {out : Outcome} → st.position < length (cursors_of st.offer) → limit ≡ Some st.turns
      → out ≡ ends st Limit → Reduces p Accepts Rejects Fails limit st out
  -- The limit is reached before an accepted variant or the end of the round.
  short : {st : State} {out : Outcome} (to turns : ℕ) → st.position < to → to < length (cursors_of st.offer)
      → AllRejected st.offer Rejects st.file st.position to → turns + st.position ≡ st.turns + to → limit ≡ Some turns
      → out ≡ ends (moved st to turns) Limit → Reduces p Accepts Rejects Fails limit st out
  -- The first accepted variant becomes the file.
  accepts : {st : State} {out : Outcome} (position : ℕ) (at : Cursor) (size turns : ℕ) (next : Offer)
      → IsFirstAccepted st.offer Accepts Rejects st.file st.position position at → HasSize (st.offer.bytes at) size
      → turns + st.position ≡ st.turns + position + 1 → Within limit turns → p (st.offer.bytes at) next
      → Reduces p Accepts Rejects Fails limit (taken st at size turns next) out → Reduces p Accepts Rejects Fails limit st out
  -- No variant is accepted up to the end of the round.
  rejects : {st : State} {out : Outcome} (turns : ℕ) → st.position < length (cursors_of st.offer)
      → AllRejected st.offer Rejects st.file st.position (length (cursors_of st.offer))
      → turns + st.position ≡ st.turns + length (cursors_of st.offer) → Within limit turns
      → Reduces p Accepts Rejects Fails limit (moved st (length (cursors_of st.offer)) turns) out → Reduces p Accepts Rejects Fails limit st out
  -- The trial of a variant failed, after rejected ones: that is no turn.
  fails : {st : State} {out : Outcome} (position : ℕ) (at : Cursor) (turns worker : ℕ) → st.position ≤ position → slice_get (cursors_of st.offer) position ≡ Some at
      → AllRejected st.offer Rejects st.file st.position position → Fails worker st.file (st.offer.bytes at)
      → turns + st.position ≡ st.turns + position → Within limit (turns + 1)
      → out ≡ ends (moved st position turns) (Fault (turns + 1) worker) → Reduces p Accepts Rejects Fails limit st out
