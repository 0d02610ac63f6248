-- The rules of the two channels.
use Rattle.std.specs.Prelude.{◌≡◌, ℕ, ◌<◌, ◌≤◌, List, [], ◌∷◌}
use Rattle.std.specs.Arc.{arc_value}
use Rattle.crossbeam_channel.specs.Claims.{IsSeatAt}
use Rattle.crossbeam_channel.specs.Ends.{receives_on, sends_on}
use Rattle.cr_standing_workers.specs.declared.channels.Lines.{Lines}
use Rattle.cr_standing_workers.specs.declared.channels.Seat.{Seat}
use Rattle.cr_standing_workers.specs.declared.orders.Order.{Order}
use Rattle.cr_standing_workers.specs.declared.orders.Order.TheVariants.{Try, Stop}
use Rattle.cr_standing_workers.specs.declared.orders.Place.{Place}
use Rattle.cr_standing_workers.specs.declared.orders.Reply.{Reply}
use Rattle.cr_standing_workers.specs.declared.orders.Shared.{Shared}
use Rattle.cr_standing_workers.specs.declared.orders.Trial.{Trial}
use Rattle.cr_standing_workers.specs.declared.orders.Trial.TheVariants.{No}

-- each of these is so
abbrev pub AllAre : {A : Type 0} → (A → Type 0) → List A → Type 0
AllAre Is [] = Unit {0}
AllAre Is (x ∷ more) = Is x × AllAre Is more

-- a run of positions, some at least, each of which may be ordered
abbrev pub IsOpen : {T : Type 0} → (T → List ℕ → ℕ → ℕ → Type 0) → Place T → Type 0
IsOpen Orders place = (place.from < place.to) × ((i : ℕ) → place.from ≤ i → i < place.to → Orders (arc_value place.file).prep (arc_value place.file).bytes.items (arc_value place.file).size i)

abbrev pub IsFit : {T : Type 0} → (T → List ℕ → ℕ → ℕ → Type 0) → Order T → Type 0
IsFit Orders (Try place) = IsOpen Orders place
IsFit Orders Stop = Unit {0}

-- each position from one to before another is replied to be rejected
abbrev pub AllNo : (List ℕ → ℕ → Trial → Type 0) → List ℕ → ℕ → ℕ → Type 0
AllNo Replies file from to = (position : ℕ) → from ≤ position → position < to → Replies file position No

-- what is said of a position, and that those of the order before it are rejected
abbrev pub IsTrue : {T : Type 0} → (List ℕ → ℕ → Trial → Type 0) → Reply T → Type 0
IsTrue Replies reply = AllNo Replies (arc_value reply.place.file).bytes.items reply.place.from reply.at × Replies (arc_value reply.place.file).bytes.items reply.at reply.trial

module _ {S T : Type 0} where
  -- a thread's passes are of these lines
  abbrev pub AreSeats : Lines S T → Seat T → Type 0
  AreSeats lines seat = IsSeatAt (sends_on lines.orders.now) seat.orders × IsSeatAt (sends_on lines.replies.now) seat.replies

  -- both ends of each channel are of one
  abbrev pub AreJoined : Lines S T → Type 0
  AreJoined lines = (receives_on lines.orders_out.now ≡ sends_on lines.orders.now) × (receives_on lines.replies_out.now ≡ sends_on lines.replies.now)

-- each of the first positions of a file, so many, may be ordered
abbrev pub AreOpen : {T : Type 0} → (T → List ℕ → ℕ → ℕ → Type 0) → Shared T → ℕ → Type 0
AreOpen Orders file count = (i : ℕ) → i < count → Orders file.prep file.bytes.items file.size i
