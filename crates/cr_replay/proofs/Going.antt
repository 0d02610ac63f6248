-- Rows that are followed one by one.
use native.Mathlib.Numerals.{unary_clauses}
use Rattle.std.proofs.Common.{◌≡◌, ℕ, ◌+◌, ◌<◌, ◌≤◌, List, [], ◌∷◌, length, Option, Some, None, subst, arith, nat_eq, true, false}
use Rattle.std.specs.Prelude.{IsTrue, MatchOption}
use Rattle.std.proofs.lemmas.Bool.{eq-eqb, eqb-true}
use Rattle.cr_reduce.specs.Reduction.{Within}
use Rattle.cr_reduce.specs.Sizes.{HasSize}
use Rattle.cr_reduce.proofs.Sizes.{one_size}
use Rattle.cr_replay.specs.Chains.{BreaksAt, Chain, Follows, IsStep, LeadsNowhere}
use Rattle.cr_replay.specs.Chains.BreaksAt.{behind, here}
use Rattle.cr_replay.specs.Chains.Follows.{further, there}
use Rattle.cr_reduce.specs.declared.end.Accepted.{Accepted}

-- What follows the rest from a file on follows all rows from the first one.
pub record Stands (c : Chain) (from : List ℕ) (rows : List Accepted) (file : List ℕ) (size turns number : ℕ) (rest : List Accepted) : Type 0 where
  pub sized : HasSize file size
  pub few : number + size ≤ 12582913
  pub counted : number + length rest ≡ length rows + 1
  pub leads : (last : List ℕ) (count : ℕ) → Follows c file turns rest last count → Follows c from 0 rows last count
  pub breaks : (k m : ℕ) → m + 1 ≡ k + number → BreaksAt c file turns rest k → BreaksAt c from 0 rows m

module _ (c : Chain) (from : List ℕ) (rows : List Accepted) (file : List ℕ) (size turns number : ℕ) (one : Accepted) (more : List Accepted)
    (it : Stands c from rows file size turns number (one ∷ more)) where
  pub goes_on : (next : List ℕ) → IsStep c file turns one next → Stands c from rows next one.size one.turn (number + 1) more
  goes_on next step =
      let less : one.size < size = subst (λ n. one.size < n) (one_size file step.size size step.old_size it.sized) step.smaller in
      let count : number + length more + 1 ≡ length rows + 1 = omega (arith, simp unary_clauses at it.counted) in
      record {
        sized = step.new_size;
        few = omega (arith, it.few, less);
        counted = omega (arith, count);
        leads = λ last n rest. it.leads last n (further step rest);
        breaks = λ k m is rest. it.breaks (k + 1) m (omega (arith, is)) (behind step rest);
      }

  pub stops : LeadsNowhere c file turns one → BreaksAt c from 0 rows number
  stops nowhere = it.breaks 1 number (omega arith) (here nowhere)

pub arrives : (c : Chain) (from : List ℕ) (rows : List Accepted) (file : List ℕ) (size turns number : ℕ) → Stands c from rows file size turns number [] → Follows c from 0 rows file turns
arrives c from rows file size turns number it = it.leads file turns there

-- The same where the rest is known by an equation.
module _ (c : Chain) (from : List ℕ) (rows : List Accepted) (file : List ℕ) (size turns number : ℕ) (rest : List Accepted) (it : Stands c from rows file size turns number rest) where
  pub ended_by : rest ≡ [] → Follows c from 0 rows file turns × (length rows ≤ 12582912)
  ended_by none =
      let last = subst (Stands c from rows file size turns number) none it in
      (arrives c from rows file size turns number last, omega (arith, last.counted, last.few))

  pub stops_by : (one : Accepted) (more : List Accepted) → rest ≡ one ∷ more → LeadsNowhere c file turns one → BreaksAt c from 0 rows number
  stops_by one more is = stops c from rows file size turns number one more (subst (Stands c from rows file size turns number) is it)

  pub goes_by : (one : Accepted) (more : List Accepted) (next : List ℕ) → rest ≡ one ∷ more → IsStep c file turns one next
      → Stands c from rows next one.size one.turn (number + 1) more
  goes_by one more next is = goes_on c from rows file size turns number one more (subst (Stands c from rows file size turns number) is it) next

pub none_of : {T : Type 0} (found : Option T) (P : Type 0) (Q : T → Type 0) → MatchOption found P Q → found ≡ None → P
none_of found P Q it is = subst (λ f. MatchOption f P Q) is it

pub some_of : {T : Type 0} (found : Option T) (P : Type 0) (Q : T → Type 0) (x : T) → MatchOption found P Q → found ≡ Some x → Q x
some_of found P Q x it is = subst (λ f. MatchOption f P Q) is it

-- ---- rows that lead nowhere

module _ (c : Chain) (file : List ℕ) (turns : ℕ) (one : Accepted) where
  pub too_early : one.turn ≤ turns → LeadsNowhere c file turns one
  too_early early next step = omega (arith, early, step.later)

  pub too_large : (size : ℕ) → HasSize file size → size ≤ one.size → LeadsNowhere c file turns one
  too_large size sized large next step = omega (arith, large, step.smaller, one_size file size step.size sized step.old_size)

  pub too_late : (Within c.limit one.turn → ⊥) → LeadsNowhere c file turns one
  too_late past next step = past step.within

-- ---- a size that was found, or none

pub found_size : (file : List ℕ) (found size : ℕ) → HasSize file found → (IsTrue (nat_eq found size) → HasSize file size) × (HasSize file size → IsTrue (nat_eq found size))
found_size file found size has = (λ yes. subst (HasSize file) (eqb-true found size yes) has, λ it. eq-eqb found size (one_size file found size has it))

pub no_size : (file : List ℕ) (size : ℕ) → ((n : ℕ) → HasSize file n → ⊥) → (IsTrue false → HasSize file size) × (HasSize file size → IsTrue false)
no_size file size none = (λ yes. let bad : false ≡ true = yes in cc, λ it. absurd (none size it))
