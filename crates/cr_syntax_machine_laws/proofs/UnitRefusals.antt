-- A token list has one first refusal where no two rows name its token, and none where it has a tree.
use Rattle.std.proofs.Common.{◌≡◌, ℕ, ◌+◌, ◌<◌, ◌≤◌, List, length, refl, arith}
use Rattle.cr_syntax.specs.Words.{Lexeme}
use Rattle.cr_syntax.specs.Trees.{Trees}
use Rattle.cr_syntax.specs.Spells.{Limit, Free, AtMost, Upto}
use Rattle.cr_syntax.specs.Units.{most_levels, IsUnit, Begins, Outside, IsTooDeep, IsFineBefore, Refusal, Unexpected, Ended, TooDeep, OutsideSubset, FirstRefusal, IsTreeOf}
use Rattle.cr_syntax.specs.Units as units
use Rattle.cr_syntax_machine_laws.proofs.MachineOwn.{Lets, lets_all, lets_fewer, lets_upto, within_other}
use Rattle.cr_syntax_machine_laws.proofs.MachineOne.{IsCause, by_level, by_row, by_end, Stops, too_deep, outside, unexpected, ended, two_stops}

module _ (ts : List Lexeme) where
  -- Units.

  -- what begins a unit within one limit does so within another, and so do fewer tokens
  fewer : {limit top : Limit} {k n : ℕ} → ((m : ℕ) → Lets limit top m) → n ≤ k → Begins limit ts k → Begins top ts n
  fewer l le b =
      let u = b.completes.is_unit in
      record {
        trees = b.trees;
        completes = record {
          text = b.completes.text;
          alike = λ i x lt q. b.completes.alike i x (omega arith) q;
          is_unit = record { after = u.after; spells = within_other (l (length b.completes.text)) u.spells };
        };
      }

  -- a unit begins one
  unit_begins : {top : Limit} {t : Trees} (k : ℕ) → ((m : ℕ) → Lets (AtMost most_levels) top m) → IsUnit (AtMost most_levels) ts t → Begins top ts k
  unit_begins {t = t} k l u = record {
    trees = t;
    completes = record { text = ts; alike = λ i x lt q. q; is_unit = record { after = u.after; spells = within_other (l (length ts)) u.spells } };
  }

  -- Causes.

  abbrev IsUnfit : ℕ → Type 0
  IsUnfit k = Begins Free ts (k + 1) → ⊥

  abbrev IsUnread : ℕ → Type 0
  IsUnread k = (t : Trees) → IsUnit (AtMost most_levels) ts t → ⊥

  -- tokens before another one that are no cause hold none
  no_cause : (k n : ℕ) → IsFineBefore ts k → IsFineBefore ts n → k < n → k < length ts → IsCause (length ts) (IsTooDeep ts) (Outside ts) IsUnfit IsUnread k → ⊥
  no_cause k n f' f lt far (by_level (units.expected o)) = o.too_deep (fewer (lets_fewer n (k + 1) most_levels (omega arith)) (omega arith) f.begins)
  no_cause k n f' f lt far (by_level (units.refused {row = row} q b o x d)) = f.inside k row lt o
  no_cause k n f' f lt far (by_level (units.unexpected q b g x o y)) = x (fewer (lets_all (Upto n most_levels)) (omega arith) f.begins)
  no_cause k n f' f lt far (by_row {n = row} o) = f.inside k row lt o
  no_cause k n f' f lt far (by_end x) = x (fewer (lets_all (Upto n most_levels)) (omega arith) f.begins)

  -- the token that a refusal names, or the end
  abbrev pub token_of : Refusal → ℕ
  token_of (Unexpected k) = k
  token_of Ended = length ts
  token_of (TooDeep k) = k
  token_of (OutsideSubset k n) = k

  record Refuses (r : Refusal) : Type 0 where
    inside : token_of r ≤ length ts
    fine : IsFineBefore ts (token_of r)
    stops : Stops (length ts) (IsTooDeep ts) (Outside ts) IsUnfit IsUnread (token_of r) r

  refuses : {r : Refusal} → FirstRefusal ts r → Refuses r
  refuses (units.too_deep lt f d) = record { inside = omega arith; fine = f; stops = too_deep lt d }
  refuses (units.outside lt f n o) = record { inside = omega arith; fine = f; stops = outside lt n o }
  refuses (units.unexpected_token lt f n n' x) = record { inside = omega arith; fine = f; stops = unexpected lt n n' x }
  refuses (units.end f x) = record { inside = omega arith; fine = f; stops = ended refl x }

  abbrev pub HasOneRow : ℕ → Type 0
  HasOneRow k = (n n' : ℕ) → Outside ts k n → Outside ts k n' → n ≡ n'

  pub one_first_refusal : {r r' : Refusal} → HasOneRow (token_of r) → FirstRefusal ts r → FirstRefusal ts r' → r ≡ r'
  one_first_refusal {r = r} {r' = r'} o h h' =
      let x = refuses h in
      let x' = refuses h' in
      two_stops (length ts) (IsTooDeep ts) (Outside ts) IsUnfit IsUnread (IsFineBefore ts) no_cause (token_of r) (token_of r') o x.inside x'.inside x.fine x'.fine x.stops x'.stops

  -- a list that has a tree holds no cause
  pub tree_is_not_refused : {t : Trees} {r : Refusal} → IsTreeOf ts t → FirstRefusal ts r → ⊥
  tree_is_not_refused y (units.too_deep {k = k} lt f (units.expected o)) = o.too_deep (unit_begins (k + 1) (lets_upto (k + 1) most_levels) y.is_unit)
  tree_is_not_refused y (units.too_deep {k = k} lt f (units.refused {row = row} q b o x d)) = y.inside k row o
  tree_is_not_refused y (units.too_deep {k = k} lt f (units.unexpected q b g x o z)) = x (unit_begins (k + 1) (lets_all (AtMost most_levels)) y.is_unit)
  tree_is_not_refused y (units.outside {k = k} {row = row} lt f n o) = y.inside k row o
  tree_is_not_refused y (units.unexpected_token {k = k} lt f n n' x) = x (unit_begins (k + 1) (lets_all (AtMost most_levels)) y.is_unit)
  tree_is_not_refused {t = t} y (units.end f x) = x t y.is_unit
