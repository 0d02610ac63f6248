-- What is kept after an epoch, from what was kept before it and what was found in it.
use Rattle.std.proofs.Common.{◌≡◌, ◌⊎◌, ◌<◌, ◌≤◌, inl, inr, ℕ, List, ◌++◌, Option, Some, None, length, refl, subst, sym, arith}
use Prim.Native.Nat.{zero, suc}
use Rattle.std.proofs.lemmas.List.{length-map, map-append}
use Rattle.cr_outside.specs.declared.judge.Answer.{Answer}
use Rattle.cr_outside.specs.declared.judge.Answer.TheVariants.{Yes as AnswerYes, No as AnswerNo}
use Rattle.cr_outside.specs.declared.judge.Judge.{Ghosts as JudgeGhosts}
use Rattle.cr_outside.specs.Question.{AnswersAsTold}
use Rattle.cr_pool.specs.declared.job.EpochEnd.{EpochEnd}
use Rattle.cr_pool.specs.declared.job.EpochEnd.TheVariants as ending
use Rattle.cr_pool.specs.declared.verdict.Verdict.{Verdict}
use Rattle.cr_pool.specs.declared.verdict.Verdict.TheVariants as verdict
use Rattle.cr_pool.specs.Epoch.{Answered, ArePut, BeginsRight, CameTo, Epoch, KeepsWhatWasMade, Remembers, WasFound, variant_of}
use Rattle.cr_pool.specs.Epoch.Answered.{given, was_kept}
use Rattle.cr_pool.specs.Kept.{AreRight, IsKept, IsPut, IsPutOrLost, IsRight, Keeps, Kept}
use Rattle.cr_pool.specs.Tally.{Tally, tallies_of, tally_of}
use Rattle.cr_pool.proofs.Keeping.{keeps_put}
use Rattle.cr_pool.proofs.More.{answered_more}
use Rattle.cr_pool.proofs.Sums.{low_or_high}

module _ (e : Epoch) (before now : List Tally) where
  -- it was kept before, or was found
  abbrev Came : List ℕ → Verdict → Type 0
  Came file said = Keeps e.kept file said ⊎ WasFound e before now file said

  came_so : (file : List ℕ) (said : Verdict) → Keeps e.kept file said ⊎ ((IsKept e.kept file → ⊥) × WasFound e before now file said) → Came file said
  came_so file said (inl was) = inl was
  came_so file said (inr it) = inr it.1

  module _ (other : List ℕ) (v : Verdict) (old new : List Kept) (came : CameTo e before now other (Some v)) (all : (file : List ℕ) (said : Verdict) → Keeps old file said → Came file said)
      (file : List ℕ) (said : Verdict) where
    came_of : Keeps old file said ⊎ ((file ≡ other) × (said ≡ v)) → Came file said
    came_of (inl was) = all file said was
    came_of (inr here) = subst (λ f. Came f said) (sym here.0) (subst (λ s. Came other s) (sym here.1) (came_so other v came.1))

    came_put : IsPut other v old new → (length other ≤ 65536) ⊎ (65536 < length other) → Keeps new file said → Came file said
    came_put put (inl short) keeps = came_of (keeps_put 256 other v old file said (subst (λ ks. Keeps ks file said) (put.0 short) keeps))
    came_put put (inr long) keeps = all file said (subst (λ ks. Keeps ks file said) (put.1 long) keeps)

  came_next : (other : List ℕ) (v : Option Verdict) (old new : List Kept) (gone lost : ℕ) → CameTo e before now other v → IsPutOrLost other v old gone new lost
      → ((file : List ℕ) (said : Verdict) → Keeps old file said → Came file said) → (file : List ℕ) (said : Verdict) → Keeps new file said → Came file said
  came_next other None old new gone lost came put all file said keeps = all file said (subst (λ ks. Keeps ks file said) put.0 keeps)
  came_next other (Some v) old new gone lost came (inl put) all file said keeps = came_put other v old new came all file said put.0 (low_or_high (length other) 65536) keeps
  came_next other (Some v) old new gone lost came (inr put) all file said keeps = all file said (subst (λ ks. Keeps ks file said) put.0 keeps)

  came_all : (n : ℕ) (kept : List Kept) (lost : ℕ) → ArePut e before now n kept lost → (file : List ℕ) (said : Verdict) → Keeps kept file said → Came file said
  came_all zero kept lost put file said keeps = inl (subst (λ ks. Keeps ks file said) put.0 keeps)
  came_all (suc n) kept lost put file said keeps =
      came_next (variant_of e n) put.3.0 put.0 kept put.1 lost put.3.1 put.3.2 (came_all n put.0 put.1 put.2) file said keeps

  as_told : (file : List ℕ) (answer : Answer) → Answered e before now file answer → AnswersAsTold e.asks (e.Tells file) answer
  as_told file answer (given worker below it) = it.told
  as_told file answer (was_kept kept told) = told

  -- a verdict that was found is right
  right_found : (file : List ℕ) (said : Verdict) → WasFound e before now file said → IsRight e.Lawful e.asks e.Tells file said
  right_found file verdict.Unlawful it = it
  right_found file verdict.Yes it = (it.0, as_told file AnswerYes it.1)
  right_found file verdict.No it = (it.0, as_told file AnswerNo it.1)

  module _ (right : BeginsRight e) (end : EpochEnd) (kept : List Kept) (lost : ℕ) (remembers : Remembers e before now end kept lost) where
    came : (file : List ℕ) (said : Verdict) → Keeps kept file said → Came file said
    came = came_all remembers.0 kept lost remembers.2

    right_by : (file : List ℕ) (said : Verdict) → Came file said → IsRight e.Lawful e.asks e.Tells file said
    right_by file said (inl was) = right file said was
    right_by file said (inr it) = right_found file said it

    -- So each kept verdict is right still.
    pub right_still : AreRight e.Lawful e.asks e.Tells kept
    right_still file said keeps = right_by file said (came file said keeps)

    yes_by : (file : List ℕ) → Came file verdict.Yes → Answered e before now file AnswerYes
    yes_by file (inl was) = was_kept was (right file verdict.Yes was).1
    yes_by file (inr it) = it.1

    no_by : (file : List ℕ) → Came file verdict.No → Answered e before now file AnswerNo
    no_by file (inl was) = was_kept was (right file verdict.No was).1
    no_by file (inr it) = it.1

    -- And each Yes or No was answered.
    pub made_so : KeepsWhatWasMade e before now kept
    made_so file = (λ keeps. yes_by file (came file verdict.Yes keeps), λ keeps. no_by file (came file verdict.No keeps))

-- What was kept before is kept, and nothing was lost.
pub as_before : (e : Epoch) (before now : List Tally) → Remembers e before now ending.NoMemory e.kept 0
as_before e before now = (0, omega arith, (refl, refl))

-- The same, seen from more judges.
module _ (e : Epoch) (b n r : List Tally) (same : length n ≡ length b) where
  found_more : (file : List ℕ) (said : Verdict) → WasFound e b n file said → WasFound e (b ++ r) (n ++ r) file said
  found_more file verdict.Unlawful it = it
  found_more file verdict.Yes it = (it.0, answered_more e b n r same file AnswerYes it.1)
  found_more file verdict.No it = (it.0, answered_more e b n r same file AnswerNo it.1)

  verdict_more : (file : List ℕ) (said : Verdict) → Keeps e.kept file said ⊎ ((IsKept e.kept file → ⊥) × WasFound e b n file said)
      → Keeps e.kept file said ⊎ ((IsKept e.kept file → ⊥) × WasFound e (b ++ r) (n ++ r) file said)
  verdict_more file said (inl was) = inl was
  verdict_more file said (inr it) = inr (it.0, found_more file said it.1)

  came_more : (file : List ℕ) (v : Option Verdict) → CameTo e b n file v → CameTo e (b ++ r) (n ++ r) file v
  came_more file None it = it
  came_more file (Some said) it = (it.0, verdict_more file said it.1)

  put_more : (m : ℕ) (kept : List Kept) (lost : ℕ) → ArePut e b n m kept lost → ArePut e (b ++ r) (n ++ r) m kept lost
  put_more zero kept lost it = it
  put_more (suc m) kept lost it = (it.0, it.1, put_more m it.0 it.1 it.2, (it.3.0, came_more (variant_of e m) it.3.0 it.3.1, it.3.2))

  pub remembers_more : (end : EpochEnd) (kept : List Kept) (lost : ℕ) → Remembers e b n end kept lost → Remembers e (b ++ r) (n ++ r) end kept lost
  remembers_more end kept lost it = (it.0, it.1, put_more it.0 kept lost it.2)

pub remembers_more_judges : {J K : Type 0} (judge : JudgeGhosts J K) (e : Epoch) (old new rest : List J) (end : EpochEnd) (kept : List Kept) (lost : ℕ) → length new ≡ length old
    → Remembers e (tallies_of judge old) (tallies_of judge new) end kept lost → Remembers e (tallies_of judge (old ++ rest)) (tallies_of judge (new ++ rest)) end kept lost
remembers_more_judges judge e old new rest end kept lost same it =
    subst (λ ts. Remembers e ts (tallies_of judge (new ++ rest)) end kept lost) (sym (map-append (tally_of judge) old rest))
    (subst (λ ts. Remembers e (tallies_of judge old ++ tallies_of judge rest) ts end kept lost) (sym (map-append (tally_of judge) new rest))
    (remembers_more e (tallies_of judge old) (tallies_of judge new) (tallies_of judge rest) (omega (arith, same, length-map old (tally_of judge), length-map new (tally_of judge))) end kept lost it))
