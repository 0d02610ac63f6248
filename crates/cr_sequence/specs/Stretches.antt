-- Stretches one behind another, and the items behind each.
use Rattle.std.specs.Prelude.{◌≡◌, ℕ, ◌+◌, ◌-◌, ◌<◌, ◌≤◌, ◌^◌, List, ◌++◌, length, take, drop, ◌∷◌, [], slice_get, slice_set, Some}
use Rattle.std.specs.List.{flat_map}
use Rattle.cr_sequence.specs.declared.sequence.Part.{Part}
use Rattle.cr_sequence.specs.Kept.{repeated}

-- a stretch and the items behind it
abbrev pub items_in : {X : Type 0} → Part X → List X
items_in part = part.stretch ++ part.after.items

abbrev pub all_items : {X : Type 0} → List X → List (Part X) → List X
all_items flat parts = flat ++ flat_map items_in parts

-- the items are counted, and each part knows how many stand before it
pub record AreCounted {X : Type 0} (count : ℕ) (flat : List X) (parts : List (Part X)) : Type 0 where
  pub counted : count ≡ length (all_items flat parts)
  pub few : count ≤ 2 ^ 41
  pub starts : (index : ℕ) (part : Part X) → slice_get parts index ≡ Some part → part.start ≡ length flat + length (flat_map items_in (take index parts))

-- a part, if there is one of that number, begins at an index or before it, or behind it
abbrev pub BeginsBy : {X : Type 0} → List (Part X) → ℕ → ℕ → Type 0
BeginsBy {X = X} parts number index = (part : Part X) → slice_get parts number ≡ Some part → part.start ≤ index

abbrev pub BeginsBehind : {X : Type 0} → List (Part X) → ℕ → ℕ → Type 0
BeginsBehind {X = X} parts number index = (part : Part X) → slice_get parts number ≡ Some part → index < part.start

abbrev pub BeginsFrom : {X : Type 0} → List (Part X) → ℕ → ℕ → Type 0
BeginsFrom {X = X} parts number index = (part : Part X) → slice_get parts number ≡ Some part → index ≤ part.start

-- a part is the last that begins at an index or before it
pub record Holds {X : Type 0} (parts : List (Part X)) (index number : ℕ) : Type 0 where
  pub within : number < length parts
  pub from : BeginsBy parts number index
  pub next : BeginsBehind parts (number + 1) index

-- an index behind the plain items stands in a part
pub record Placed {X : Type 0} (flat : List X) (parts : List (Part X)) (index : ℕ) (part : Part X) (number : ℕ) : Type 0 where
  pub from : part.start ≤ index
  pub within : index - part.start < length (items_in part)
  pub start : part.start ≡ length flat + length (flat_map items_in (take number parts))
  pub is : slice_get parts number ≡ Some part

-- the same of the part of a number, with the place in it
abbrev pub IsPlaced : {X : Type 0} → List X → List (Part X) → ℕ → ℕ → ℕ → Type 0
IsPlaced {X = X} flat parts index number place =
    (part : Part X) → slice_get parts number ≡ Some part → (place ≡ index - part.start) × Placed flat parts index part number

-- a part has other items, and begins where it began
pub record Changes {X : Type 0} (parts : List (Part X)) (number : ℕ) (then : List (Part X)) (part : Part X) (items : List X) : Type 0 where
  pub new : Part X
  pub is : then ≡ slice_set parts number new
  pub start : new.start ≡ part.start
  pub shows : items_in new ≡ items

-- the part of a number changes, to items by what it is
abbrev pub ChangesTo : {X : Type 0} → List (Part X) → ℕ → List (Part X) → (Part X → List X) → Type 0
ChangesTo {X = X} parts number then items = (part : Part X) → slice_get parts number ≡ Some part → Changes parts number then part (items part)

-- what is left shows these items
pub record Done {X : Type 0} (count : ℕ) (flat : List X) (parts : List (Part X)) (items : List X) : Type 0 where
  pub counted : AreCounted count flat parts
  pub shown : all_items flat parts ≡ items

-- so many items from a place on are one value
abbrev pub filled : {X : Type 0} → List X → ℕ → ℕ → X → List X
filled items from count value = take from items ++ (repeated count (value ∷ []) ++ drop (from + count) items)

-- items in place of as many from a place on
abbrev pub replaced : {X : Type 0} → List X → ℕ → List X → List X
replaced items from new = take from items ++ (new ++ drop (from + length new) items)
