-- What the threads of a reduction remember.
use Rattle.std.specs.Prelude.{ℕ, List}
use Rattle.cr_pool.specs.declared.verdict.Verdict.{Verdict}
use Rattle.cr_pool.specs.Kept.{Keeps, Kept}

-- each of these verdicts may be remembered
abbrev pub AreRemembered : (List ℕ → Verdict → Type 0) → List Kept → Type 0
AreRemembered Verdicts kept = (file : List ℕ) (verdict : Verdict) → Keeps kept file verdict → Verdicts file verdict
