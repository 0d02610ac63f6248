-- The records of a journal: 32 bytes each, of which the first is a gate. A record stands where its gate is open and at least
-- the next one's gate is there.
use Rattle.std.specs.Prelude.{◌≡◌, ◌≢◌, ℕ, ◌<◌, ◌≤◌, List, [], ◌∷◌, ◌++◌, length, Option, Some, None}
use Rattle.cr_outside.specs.Story.{Story}
use Rattle.cr_outside_disk.specs.Moments.{EveryTold, LastsTold, seen}

-- what stands behind a gate: 31 bytes
abbrev pub Body : Type 0
Body = List ℕ

-- open records of these bodies
abbrev pub blocks : List Body → List ℕ
blocks [] = []
blocks (body ∷ more) = 1 ∷ (body ++ blocks more)

-- A record stands at the front.
abbrev pub StandsFirst : List ℕ → Type 0
StandsFirst [] = ⊥
StandsFirst (gate ∷ behind) = (gate ≡ 1) × (32 ≤ length behind)

-- The records before the first that doesn't stand are these; the rest begins at its gate.
abbrev pub Reads : List ℕ → List Body → List ℕ → Type 0
Reads image [] rest = (image ≡ rest) × (StandsFirst rest → ⊥)
Reads image (body ∷ more) rest =
    (behind : List ℕ) × (image ≡ 1 ∷ (body ++ behind)) × (length body ≡ 31) × (0 < length behind) × Reads behind more rest

-- These come first in the list.
abbrev pub IsFront : List Body → List Body → Type 0
IsFront front all = (more : List Body) × (all ≡ front ++ more)

-- The records that stand are a front of the list; where the gate of the first that doesn't stand was torn, so is the image with
-- that gate open.
pub data IsKept (all : List Body) : List ℕ → Type 0 where
  kept : {image : List ℕ} (bodies : List Body) (rest : List ℕ) → Reads image bodies rest → IsFront bodies all
      → ((gate : ℕ) (behind : List ℕ) → rest ≡ gate ∷ behind → gate ≢ 0 → gate ≢ 1 → IsKept all (blocks bodies ++ (1 ∷ behind)))
      → IsKept all image

-- The records that stand are these, and the next gate is there and closed.
abbrev pub AtRest : List Body → List ℕ → Type 0
AtRest bodies image = (behind : List ℕ) × Reads image bodies (0 ∷ behind)

-- The same, and behind the closed gate stands a body with a closed gate.
abbrev pub Staged : List Body → Body → List ℕ → Type 0
Staged bodies body image = (behind : List ℕ) × Reads image bodies (0 ∷ (body ++ (0 ∷ behind)))

-- The records that stand are these, and the next gate is there and isn't closed.
abbrev pub HasGate : List Body → List ℕ → Type 0
HasGate bodies image = (gate : ℕ) × (behind : List ℕ) × Reads image bodies (gate ∷ behind) × (gate ≢ 0)

-- These records stand, one after the other from the first on. Others may stand behind them.
abbrev pub Stands : List Body → List ℕ → Type 0
Stands [] image = Unit {0}
Stands (body ∷ more) image = (behind : List ℕ) × (image ≡ 1 ∷ (body ++ behind)) × (length body ≡ 31) × (0 < length behind) × Stands more behind

-- Where so many bodies stand in every image as this says of them, what stands at one moment stands at each later one.
abbrev pub LastsWhere : (List Body → List ℕ → Type 0) → ℕ → Option Story → Option Story → Type 0
LastsWhere Are count old new = (bodies some : List Body) → length bodies ≡ count → EveryTold (Are bodies) old → LastsTold (Stands some) old new

-- In what a read gives no record stands.
abbrev pub StandsNone : Option Story → Type 0
StandsNone None = Unit {0}
StandsNone (Some s) = StandsFirst (seen s) → ⊥

-- an image has one list of records that stand, and one rest
abbrev pub ReadsOnce : Type 0
ReadsOnce = (image : List ℕ) (some other : List Body) (rest last : List ℕ) → Reads image some rest → Reads image other last → (some ≡ other) × (rest ≡ last)
