-- The verdicts that a bench keeps.
use Rattle.std.specs.Prelude.{◌≡◌, ◌⊎◌, ◌+◌, ◌<◌, ◌≤◌, ℕ, Bool, List, [], ◌∷◌, Option, None, Some, cond, length, map, take}
use Rattle.std.specs.Str.{bytes_eq}
use Rattle.std.specs.declared.vec.Vec.{Vec}
use Rattle.cr_outside.specs.declared.judge.Answer.{Answer}
use Rattle.cr_outside.specs.declared.judge.Answer.TheVariants.{Yes as AnswerYes, No as AnswerNo}
use Rattle.cr_outside.specs.Question.{AnswersAsTold}
use Rattle.cr_pool.specs.declared.verdict.Verdict.{Verdict}
use Rattle.cr_pool.specs.declared.verdict.Verdict.TheVariants.{Unlawful, Yes, No}
use Rattle.cr_pool.specs.Sizes.{HasSize}

-- a file with the verdict on it
pub record Kept : Type 0 where
  pub file : List ℕ
  pub verdict : Verdict

-- those of a list of pairs
abbrev pub kept_in : {A : Type 0} → List (Vec ℕ A × Verdict) → List Kept
kept_in {A} pairs = map (λ (pair : Vec ℕ A × Verdict). record { file = pair.0.items; verdict = pair.1 }) pairs

-- the file has a kept verdict
abbrev pub IsKept : List Kept → List ℕ → Type 0
IsKept [] file = ⊥
IsKept (k ∷ ks) file = (k.file ≡ file) ⊎ IsKept ks file

-- this verdict on the file is kept
abbrev pub Keeps : List Kept → List ℕ → Verdict → Type 0
Keeps [] file verdict = ⊥
Keeps (k ∷ ks) file verdict = ((k.file ≡ file) × (k.verdict ≡ verdict)) ⊎ Keeps ks file verdict

-- the kept verdicts without the one on a file
abbrev pub without : List ℕ → List Kept → List Kept
without file [] = []
without file (k ∷ ks) = cond (bytes_eq file k.file) ks (k ∷ without file ks)

-- The kept verdicts once one more was put, of at most so many: it stands first, in the place of an older one on the same file, and where that are too many, the last one goes. A look-up changes
-- nothing, so the last one is the one that was put longest ago.
abbrev pub put_kept : ℕ → List ℕ → Verdict → List Kept → List Kept
put_kept most file said kept = take most (record { file = file; verdict = said } ∷ without file kept)

-- A verdict on a file was put: 256 are kept at most, and none on a file of more than 65,536 bytes.
abbrev pub IsPut : List ℕ → Verdict → List Kept → List Kept → Type 0
IsPut file said old new = (length file ≤ 65536 → new ≡ put_kept 256 file said old) × (65536 < length file → new ≡ old)

-- The verdict on a file, if there is one, was put, or was lost since no memory was found for it; how many were lost before, and are now.
abbrev pub IsPutOrLost : List ℕ → Option Verdict → List Kept → ℕ → List Kept → ℕ → Type 0
IsPutOrLost file None old gone new lost = (new ≡ old) × (lost ≡ gone)
IsPutOrLost file (Some said) old gone new lost = (IsPut file said old new × (lost ≡ gone)) ⊎ ((new ≡ old) × (lost ≡ gone + 1))

-- a kept verdict gives this answer about a file
abbrev pub KeptAnswer : List Kept → List ℕ → Answer → Type 0
KeptAnswer kept file AnswerYes = Keeps kept file Yes
KeptAnswer kept file AnswerNo = Keeps kept file No
KeptAnswer kept file _ = ⊥

-- A verdict is right by a law and a question: Unlawful is said of a file that isn't lawful; Yes and No of one that is, and where
-- the answer is told, it is that one.
abbrev pub IsRight : (List ℕ → Type 0) → Bool → (List ℕ → Bool → Type 0) → List ℕ → Verdict → Type 0
IsRight Lawful asks Tells file Unlawful = Lawful file → ⊥
IsRight Lawful asks Tells file Yes = Lawful file × AnswersAsTold asks (Tells file) AnswerYes
IsRight Lawful asks Tells file No = Lawful file × AnswersAsTold asks (Tells file) AnswerNo

-- each kept verdict is right
abbrev pub AreRight : (List ℕ → Type 0) → Bool → (List ℕ → Bool → Type 0) → List Kept → Type 0
AreRight Lawful asks Tells kept = (file : List ℕ) (verdict : Verdict) → Keeps kept file verdict → IsRight Lawful asks Tells file verdict

-- The verdict on a variant below a bound is known before anything is asked about it: it is kept, or none is and the law refuses the variant.
pub record IsDecided (Lawful : List ℕ → Type 0) (kept : List Kept) (variant : List ℕ) (bound : ℕ) (verdict : Verdict) : Type 0 where
  pub size : ℕ
  pub has : HasSize variant size
  pub less : size < bound
  pub why : Keeps kept variant verdict ⊎ ((verdict ≡ Unlawful) × (Lawful variant → ⊥) × (IsKept kept variant → ⊥))
