-- A search for a text.
use Rattle.std.proofs.Common.{◌≡◌, ◌<◌, ◌≤◌, ℕ, ◌+◌, Bool, true, false, List, length, Option, Some, None, is_some, arith, refl, sym, ◌∙◌}
use Rattle.std.specs.Prelude.{IsTrue}
use Rattle.memchr.specs.Find.{FindsNeedle, OccursAt}
use Rattle.cr_formula_bound.specs.Values.{StandsIn}

pub found : (text all : List ℕ) (r : Option ℕ) (b : Bool) → FindsNeedle all text 0 r → b ≡ is_some r → (IsTrue b → StandsIn text all) × (StandsIn text all → IsTrue b)
found text all None b nowhere is = (λ yes. let bad : true ≡ false = sym yes ∙ is in cc, λ it. absurd (nowhere it.0 (omega arith) (omega (arith, it.1.fits)) it.1))
found text all (Some k) b first is = (λ yes. (k, first.1), λ it. is)
