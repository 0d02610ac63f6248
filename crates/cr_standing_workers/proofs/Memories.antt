-- What is remembered once one more verdict was put.
use Rattle.std.proofs.Common.{◌≡◌, ℕ, List, length, Result, Ok, Err, OnOk, OnErr, inl, inr, sym, subst, arith}
use native.Mathlib.Decide.{dec_lt}
use Rattle.cr_pool.specs.declared.verdict.Verdict.{Verdict}
use Rattle.cr_pool.specs.Kept.{IsPut, Kept, put_kept}
use Rattle.cr_pool.proofs.Keeping.{keeps_put}
use Rattle.cr_standing_workers.specs.Remembering.{AreRemembered}

module _ (Verdicts : List ℕ → Verdict → Type 0) (file : List ℕ) (said : Verdict) (old : List Kept) where
  with_one : Verdicts file said → AreRemembered Verdicts old → AreRemembered Verdicts (put_kept 256 file said old)
  with_one it all other verdict kept = elim (keeps_put 256 file said old other verdict kept) [
    | inl before ↦ all other verdict before
    | inr is ↦ subst (λ f. Verdicts f verdict) (sym is.0) (subst (λ v. Verdicts file v) (sym is.1) it)
  ]

  pub still_remembered : {T E : Type 0} (r : Result T E) (new : List Kept) → Verdicts file said → AreRemembered Verdicts old → OnOk r (IsPut file said old new) → OnErr r (new ≡ old) → AreRemembered Verdicts new
  still_remembered (Err e) new it all put lost = subst (AreRemembered Verdicts) (sym lost) all
  still_remembered (Ok x) new it all put lost = elim (dec_lt 65536 (length file)) [
    | yes long ↦ subst (AreRemembered Verdicts) (sym (put.1 long)) all
    | no short ↦ subst (AreRemembered Verdicts) (sym (put.0 (omega (arith, short)))) (with_one it all)
  ]
