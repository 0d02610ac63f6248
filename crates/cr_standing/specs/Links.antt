-- What is known of the orders that were given.
use Rattle.std.specs.Prelude.{◌≡◌, ℕ, ◌+◌, ◌<◌, ◌≤◌, List, Option, None, Some}
use Rattle.std.specs.Arc.{arc_value}
use Rattle.cr_standing.specs.declared.chain.Front.{Front}
use Rattle.cr_standing.specs.declared.chain.Front.TheVariants as front
use Rattle.cr_standing.specs.declared.chain.Link.{Link}
use Rattle.cr_standing.specs.declared.chain.Spot.{Spot}
use Rattle.cr_standing_workers.specs.Channels.{AllNo, AreOpen}
use Rattle.cr_standing_workers.specs.declared.orders.Trial.{Trial}
use Rattle.cr_standing_workers.specs.declared.orders.Trial.TheVariants.{Yes}

-- each position of the spot's file may be ordered
abbrev pub SpotSays : {T : Type 0} → (T → List ℕ → ℕ → ℕ → Type 0) → Spot T → Type 0
SpotSays Orders spot = AreOpen Orders (arc_value spot.file) spot.count

-- what was replied of a position, if anything was
abbrev pub SaidOf : (List ℕ → ℕ → Trial → Type 0) → List ℕ → ℕ → Option Trial → Type 0
SaidOf Replies file at None = Unit {0}
SaidOf Replies file at (Some trial) = Replies file at trial

-- what is known of an order is known of its own file, whether the walk ever comes to it or not
abbrev pub LinkSays : {T : Type 0} → (T → List ℕ → ℕ → ℕ → Type 0) → (List ℕ → ℕ → Trial → Type 0) → Link T → Type 0
LinkSays Orders Replies link = SpotSays Orders link.spot × AllNo Replies (arc_value link.spot.file).bytes.items link.spot.position link.at × SaidOf Replies (arc_value link.spot.file).bytes.items link.at link.said

-- what is known of a position of a file
abbrev pub FrontSays : (List ℕ → ℕ → Trial → Type 0) → List ℕ → ℕ → Front → Type 0
FrontSays Replies file position (front.Past to) = (position < to) × AllNo Replies file position to
FrontSays Replies file position (front.Hit at) = (position ≤ at) × AllNo Replies file position at × Replies file at Yes
FrontSays Replies file position front.Unsure = Unit {0}
FrontSays Replies file position front.Open = Unit {0}
FrontSays Replies file position front.Other = Unit {0}
