-- A place in memory: what was done to it, the newest first.
use Rattle.std.specs.Prelude.{◌≡◌, ℕ, Bool, true, false, cond, List, [], ◌∷◌, take, drop, length, Option, Some, None, unwrap_or, bytes_eq, nat_eq, string_bytes}
use Rattle.cr_around.specs.Holding.{Told}
use Rattle.cr_around.specs.declared.memory.Deed.{Deed}
use Rattle.cr_around.specs.declared.memory.Deed.TheVariants.{Cleared, Put}
use Rattle.cr_around.specs.declared.memory.MemPlace.{MemPlace}

-- whether a path goes on below a folder
abbrev pub is_below : List ℕ → Bool
is_below [] = false
is_below (byte ∷ _) = nat_eq byte 47

-- whether a path stands below a folder
abbrev pub stands_in : List ℕ → List ℕ → Bool
stands_in folder path = cond (bytes_eq (take (length folder) path) folder) (is_below (drop (length folder) path)) false

-- what a deed leaves at a path, if it says that
abbrev pub left_by : Deed → List ℕ → Option (Option (List ℕ))
left_by (Cleared folder) path = cond (stands_in (string_bytes folder) path) (Some None) None
left_by (Put at bytes) path = cond (bytes_eq path (string_bytes at)) (Some (Some bytes.items)) None

-- what stands at each path after these deeds
abbrev pub told_after : List Deed → Told
told_after [] path = None
told_after (deed ∷ older) path = unwrap_or (left_by deed path) (told_after older path)

abbrev pub told_of : MemPlace → Told
told_of place = told_after place.deeds.items

-- the deed that puts these bytes at this path
abbrev pub IsPutAt : List ℕ → List ℕ → Deed → Type 0
IsPutAt at bytes (Put path put) = (string_bytes path ≡ at) × (put.items ≡ bytes)
IsPutAt at bytes (Cleared _) = ⊥
