-- What the judges of a bench tell at one time, and what they are asked from one time to another.
use Rattle.std.specs.Prelude.{◌≡◌, ◌⊎◌, ◌+◌, ◌≤◌, ℕ, zero, suc, List, [], ◌∷◌, ◌++◌, All, map, Option, None, Some}
use Rattle.cr_outside.specs.declared.judge.Answer.{Answer}
use Rattle.cr_outside.specs.declared.judge.Judge.{Ghosts as JudgeGhosts}
use Rattle.cr_outside.specs.Faults.{Rose}
use Rattle.cr_outside.specs.Judge.{Call, call_of, with_call}
use Rattle.cr_outside.specs.Question.{AsksOnce, Says}
use Rattle.cr_pool.specs.Bench.{Benched}
use Rattle.cr_pool.specs.Tally.{asked_in, first_says, tallies_of}
use Rattle.cr_pool.specs.Trials.{HasCalled}

abbrev pub keys_of : {J K : Type 0} → JudgeGhosts J K → Benched J → List K
keys_of judge bench = map judge.key bench.judges

-- what the judges say at their key
abbrev pub says_of : {J K : Type 0} → JudgeGhosts J K → Benched J → Says
says_of judge bench = first_says judge.key judge.says bench.judges

-- What the judges tell at one time: of each its calls, where it tells them, and the count of its faults; and how many calls
-- all were asked.
pub record Judging : Type 0 where
  pub calls : List (Option (List Call))
  pub faults : List ℕ
  pub asked : ℕ

abbrev pub judging_of : {J K : Type 0} → JudgeGhosts J K → List J → Judging
judging_of judge judges = record { calls = map judge.calls judges; faults = map judge.faults judges; asked = asked_in (tallies_of judge judges) }

abbrev pub judging : {J K : Type 0} → JudgeGhosts J K → Benched J → Judging
judging judge bench = judging_of judge bench.judges

-- Of a judge's calls, where they are told, the later ones go on where the earlier ones stopped, and each since is such a call.
abbrev pub Gained : (Call → Type 0) → Option (List Call) → Option (List Call) → Type 0
Gained Is None now = now ≡ None
Gained Is (Some before) now = (more : List Call) × (now ≡ Some (before ++ more)) × All Is more

-- of each judge, and so of lists of one length
abbrev pub Each : {A : Type 0} → (A → A → Type 0) → List A → List A → Type 0
Each R [] [] = Unit {0}
Each R (x ∷ xs) (y ∷ ys) = R x y × Each R xs ys
Each R _ _ = ⊥

abbrev pub AllGained : (Call → Type 0) → List (Option (List Call)) → List (Option (List Call)) → Type 0
AllGained Is before now = Each (Gained Is) before now

-- any call
abbrev pub AnyCall : Call → Type 0
AnyCall call = Unit {0}

-- One time comes after another in the same run.
pub record GoesOn (before now : Judging) : Type 0 where
  pub calls : AllGained AnyCall before.calls now.calls
  pub faults : Each (λ old new. old ≤ new) before.faults now.faults

-- So many calls at most were asked from one time to another.
abbrev pub AsksAtMost : ℕ → Judging → Judging → Type 0
AsksAtMost n before now = now.asked ≤ before.asked + n

-- the call was made by the judge of this worker
abbrev pub CalledBy : ℕ → List (Option (List Call)) → List (Option (List Call)) → Call → Type 0
CalledBy zero (before ∷ rest) (now ∷ later) call = HasCalled before now call
CalledBy (suc worker) (before ∷ rest) (now ∷ later) call = CalledBy worker rest later call
CalledBy _ _ _ call = ⊥

-- the count of faults of this worker's judge rose
abbrev pub RoseAt : ℕ → List ℕ → List ℕ → Type 0
RoseAt zero (before ∷ rest) (now ∷ later) = Rose before now
RoseAt (suc worker) (before ∷ rest) (now ∷ later) = RoseAt worker rest later
RoseAt _ _ _ = ⊥

-- the first judge is asked as this says
abbrev pub AsksFirst : List (Option (List Call)) → List (Option (List Call)) → List ℕ → List ℕ → Answer → Type 0
AsksFirst (before ∷ rest) (now ∷ later) name file answer = AsksOnce before now name file answer × (later ≡ rest)
AsksFirst _ _ name file answer = ⊥

-- with one call more of the first judge
abbrev pub with_first_call : Call → List (Option (List Call)) → List (Option (List Call))
with_first_call call [] = []
with_first_call call (calls ∷ rest) = with_call call calls ∷ rest

-- Nothing was asked, or one call was made, about this file and under this name.
abbrev pub CallsAbout : List (Option (List Call)) → List (Option (List Call)) → List ℕ → List ℕ → Type 0
CallsAbout before now name file = (now ≡ before) ⊎ ((test : List ℕ) × (answer : Answer) × (now ≡ with_first_call (call_of test name file answer) before))
