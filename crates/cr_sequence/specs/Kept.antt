-- A pattern that comes over and over, and the items of those blocks alone that were written. What it shows is the whole list.
use Rattle.std.specs.Prelude.{◌≡◌, ◌≢◌, ℕ, zero, suc, ◌+◌, ◌*◌, ◌/◌, ◌%◌, ◌<◌, ◌≤◌, Option, Some, None, List, [], ◌++◌, map, length, sum_by, slice_index_or, vec_len, vec_capacity}
use Rattle.std.specs.Global.{Vec}
use Rattle.std.specs.List.{range_with_len}

-- the items so many times
abbrev pub repeated : {X : Type 0} → ℕ → List X → List X
repeated zero items = []
repeated (suc n) items = items ++ repeated n items

-- the number of a block among those that were made, if it was
abbrev pub block_of : List (Option ℕ) → ℕ → Option ℕ
block_of blocks place = slice_index_or blocks (place / 256) None

-- an item by its block: that of the pattern, where the block wasn't made
abbrev pub in_block : {X : Type 0} → X → List X → List X → ℕ → Option ℕ → X
in_block first pattern pool place None = slice_index_or pattern (place % length pattern) first
in_block first pattern pool place (Some number) = slice_index_or pool (number * 256 + place % 256) first

abbrev pub item_in : {X : Type 0} → X → List X → List (Option ℕ) → List X → ℕ → X
item_in first pattern blocks pool place = in_block first pattern pool place (block_of blocks place)

-- the list that it shows
abbrev pub items_of : {X : Type 0} → ℕ → X → List X → List (Option ℕ) → List X → List X
items_of count first pattern blocks pool = map (item_in first pattern blocks pool) (range_with_len 0 count)

-- two ways of keeping show the same items: all of them, or all but one
abbrev pub ShowAlike : {X : Type 0} → X → List X → List (Option ℕ) → List X → List (Option ℕ) → List X → Type 0
ShowAlike first pattern blocks pool then left = (place : ℕ) → item_in first pattern then left place ≡ item_in first pattern blocks pool place

abbrev pub ShowOthersAlike : {X : Type 0} → ℕ → X → List X → List (Option ℕ) → List X → List (Option ℕ) → List X → Type 0
ShowOthersAlike place first pattern blocks pool then left =
    (other : ℕ) → other ≢ place → item_in first pattern then left other ≡ item_in first pattern blocks pool other

abbrev pub used : Option ℕ → ℕ
used None = 0
used (Some number) = 1

-- each block that was made has a place of its own in the pool, and there is room in it for all others
pub record IsKept {X : Type 0} (blocks : List (Option ℕ)) (pool : Vec X) : Type 0 where
  pub few : length blocks ≤ 16777216
  pub made : vec_len pool ≡ sum_by used blocks * 256
  pub room : length blocks * 256 ≤ vec_capacity pool
  pub below : (block number : ℕ) → slice_index_or blocks block None ≡ Some number → number * 256 + 256 ≤ vec_len pool
  pub apart : (left right number : ℕ) → slice_index_or blocks left None ≡ Some number → slice_index_or blocks right None ≡ Some number → left ≡ right

-- there is a pattern, and all items have blocks
pub record Covers (count blocks pattern : ℕ) : Type 0 where
  pub some : 0 < pattern
  pub all : count ≤ blocks * 256
