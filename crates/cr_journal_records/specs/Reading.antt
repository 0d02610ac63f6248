-- What is read of a journal.
use Rattle.std.specs.Prelude.{◌≡◌, ◌≢◌, ℕ, List, [], ◌∷◌, map, length, take, drop, Option, Some, None, Vec}
use Rattle.std.specs.declared.alloc.Global.{Global}
use Rattle.cr_journal_records.specs.Records.{Body, Reads}
use Rattle.cr_outside.specs.Story.{Story}
use Rattle.cr_outside_disk.specs.Moments.{Every, seen}

abbrev pub bodies_of : List (Vec ℕ Global) → List Body
bodies_of vecs = map (λ (v : Vec ℕ Global). v.items) vecs

-- The records that stand in what a read gives are these.
abbrev pub ReadsTold : Option Story → List Body → Type 0
ReadsTold None bodies = Unit {0}
ReadsTold (Some s) bodies = (rest : List ℕ) × Reads (seen s) bodies rest

-- A stop leaves what a read gives.
abbrev pub IsSettled : Option Story → Type 0
IsSettled None = Unit {0}
IsSettled (Some s) = Every (λ image. image ≡ seen s) s

-- The open record at this place.
abbrev pub OpenAt : Option Story → ℕ → Body → Type 0
OpenAt None at body = Unit {0}
OpenAt (Some s) at body = take 32 (drop at (seen s)) ≡ 1 ∷ body

-- The gate at this place isn't open.
abbrev pub ShutAt : Option Story → ℕ → Type 0
ShutAt None at = Unit {0}
ShutAt (Some s) at = (body : Body) → take 32 (drop at (seen s)) ≡ 1 ∷ body → ⊥
