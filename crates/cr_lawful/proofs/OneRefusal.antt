-- Two first refusals of a token list are of one kind and at one token. Which of the refused forms stands there is left open.
use Rattle.std.proofs.Common.{◌≡◌, ℕ, ◌+◌, ◌<◌, ◌≤◌, List, length, refl, sym, ◌∙◌, arith}
use Rattle.cr_syntax.specs.Words.{Lexeme}
use Rattle.cr_syntax.specs.Trees.{Trees}
use Rattle.cr_syntax.specs.Spells.{Limit, Free, AtMost, Upto}
use Rattle.cr_syntax.specs.Units.{most_levels, IsUnit, Begins, Outside, IsTooDeep, IsFineBefore, Refusal, Unexpected, Ended, TooDeep, OutsideSubset, FirstRefusal}
use Rattle.cr_syntax.specs.Units as units
use Rattle.cr_syntax_machine_laws.proofs.MachineOwn.{Lets, lets_all, lets_fewer, within_other}
use Rattle.cr_syntax_machine_laws.proofs.MachineOne.{IsCause, by_level, by_row, by_end, Stops, too_deep, outside, unexpected, ended, two_stops}

-- a refusal without the row of its form
abbrev pub rowless : Refusal → Refusal
rowless (Unexpected k) = Unexpected k
rowless Ended = Ended
rowless (TooDeep k) = TooDeep k
rowless (OutsideSubset k row) = OutsideSubset k 0

module _ (ts : List Lexeme) where
  fewer : {limit top : Limit} {k n : ℕ} → ((m : ℕ) → Lets limit top m) → n ≤ k → Begins limit ts k → Begins top ts n
  fewer l le b =
      let u = b.completes.is_unit in
      record {
        trees = b.trees;
        completes = record {
          text = b.completes.text;
          alike = λ i x lt q. b.completes.alike i x (omega arith) q;
          is_unit = record { after = u.after; spells = within_other (l (length b.completes.text)) u.spells };
        };
      }

  -- a form is refused at a token, in whichever row
  record IsRefusedForm (k row : ℕ) : Type 0 where
    is : row ≡ 0
    form : ℕ
    outside_it : Outside ts k form

  abbrev IsUnfit : ℕ → Type 0
  IsUnfit k = Begins Free ts (k + 1) → ⊥

  abbrev IsUnread : ℕ → Type 0
  IsUnread k = (t : Trees) → IsUnit (AtMost most_levels) ts t → ⊥

  -- tokens before another one that are no cause hold none
  no_cause : (k n : ℕ) → IsFineBefore ts k → IsFineBefore ts n → k < n → k < length ts → IsCause (length ts) (IsTooDeep ts) IsRefusedForm IsUnfit IsUnread k → ⊥
  no_cause k n f' f lt far (by_level (units.expected o)) = o.too_deep (fewer (lets_fewer n (k + 1) most_levels (omega arith)) (omega arith) f.begins)
  no_cause k n f' f lt far (by_level (units.refused {row = row} q b o x d)) = f.inside k row lt o
  no_cause k n f' f lt far (by_level (units.unexpected q b g x o y)) = x (fewer (lets_all (Upto n most_levels)) (omega arith) f.begins)
  no_cause k n f' f lt far (by_row o) = f.inside k o.form lt o.outside_it
  no_cause k n f' f lt far (by_end x) = x (fewer (lets_all (Upto n most_levels)) (omega arith) f.begins)

  record Refuses (k : ℕ) (r : Refusal) : Type 0 where
    inside : k ≤ length ts
    fine : IsFineBefore ts k
    stops : Stops (length ts) (IsTooDeep ts) IsRefusedForm IsUnfit IsUnread k (rowless r)

  -- with the token that it names
  record RefusesSomewhere (r : Refusal) : Type 0 where
    place : ℕ
    there : Refuses place r

  refuses : {r : Refusal} → FirstRefusal ts r → RefusesSomewhere r
  refuses (units.too_deep {k = k} lt f d) = record { place = k; there = record { inside = omega arith; fine = f; stops = too_deep lt d } }
  refuses (units.outside {k = k} {row = row} lt f n o) = record {
    place = k;
    there = record { inside = omega arith; fine = f; stops = outside lt n (record { is = refl; form = row; outside_it = o }) };
  }
  refuses (units.unexpected_token {k = k} lt f n n' x) = record {
    place = k;
    there = record { inside = omega arith; fine = f; stops = unexpected lt n (λ row o. n' o.form o.outside_it) x };
  }
  refuses (units.end f x) = record { place = length ts; there = record { inside = omega arith; fine = f; stops = ended refl x } }

  pub one_place : (r other : Refusal) → FirstRefusal ts r → FirstRefusal ts other → rowless r ≡ rowless other
  one_place r other h h' =
      let x = refuses h in
      let x' = refuses h' in
      two_stops (length ts) (IsTooDeep ts) IsRefusedForm IsUnfit IsUnread (IsFineBefore ts) no_cause x.place x'.place (λ n n' o o'. o.is ∙ sym o'.is)
      x.there.inside x'.there.inside x.there.fine x'.there.fine x.there.stops x'.there.stops
