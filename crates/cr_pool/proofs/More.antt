-- An epoch on some of a bench's judges, seen from all of them.
use Rattle.std.proofs.Common.{◌≡◌, ℕ, ◌+◌, ◌<◌, ◌≤◌, List, [], ◌∷◌, ◌++◌, drop, length, map, set, slice_index_or, take, refl, sym, ap, subst, ◌∙◌, arith}
use Prim.Native.Nat.{zero, suc}
use Rattle.std.proofs.lemmas.List.{length-map, map-append}
use Rattle.cr_claims.proofs.Views.{total-append}
use Rattle.cr_outside.specs.declared.judge.Answer.{Answer}
use Rattle.cr_outside.specs.declared.judge.Judge.{Ghosts as JudgeGhosts}
use Rattle.cr_pool.specs.declared.crew.Worker.{Worker}
use Rattle.cr_pool.specs.declared.job.EpochEnd.{EpochEnd}
use Rattle.cr_pool.specs.declared.job.EpochEnd.TheVariants as ending
use Rattle.cr_pool.specs.Bench.{IsManned}
use Rattle.cr_pool.specs.Crew.{judges_in}
use Rattle.cr_pool.specs.Epoch.{Answered, AnsweredBy, AsksAt, AsksOnce, EndsBy, Epoch, IsRejectedAt, times}
use Rattle.cr_pool.specs.Epoch.Answered.{given, was_kept}
use Rattle.cr_pool.specs.Jobs.{IsJudged}
use Rattle.cr_pool.specs.Tally.{HaveOneKey, Tally, first_says, no_tally, tallies_of, tally_at, tally_of}
use Rattle.cr_pool.specs.Trials.IsRejected.{not_smaller, unlawful, answered_no}
use Rattle.cr_pool.proofs.Crews.{no_positions, no_times, nothing}
use Rattle.cr_pool.proofs.Tries.{asks_none}

at_left : {A : Type 0} (a r : List A) (k : ℕ) (d : A) → k < length a → slice_index_or (a ++ r) k d ≡ slice_index_or a k d
at_left [] r k d h = absurd (omega arith)
at_left (x ∷ a) r zero d h = refl
at_left (x ∷ a) r (suc k) d h = at_left a r k d (omega arith)

-- the first elements of two lists are those of the first list
pub written : {A : Type 0} (n : ℕ) (a r : List A) → n ≡ length a → take n (a ++ r) ≡ a
written n [] r h = ap (λ (m : ℕ). take m r) h
written zero (x ∷ a) r h = absurd (omega arith)
written (suc n) (x ∷ a) r h = ap (λ (t : List _). x ∷ t) (written n a r (omega arith))

length-append : {A : Type 0} (a r : List A) → length (a ++ r) ≡ length a + length r
length-append [] r = omega arith
length-append (x ∷ a) r = omega (arith, length-append a r)

-- what relates two lists at each place relates them still with the same elements behind both
each_more : {A : Type 0} (R : A → A → Type 0) (a b r : List A) (d : A) → length b ≡ length a → ((x : A) → R x x)
    → ((k : ℕ) → k < length a → R (slice_index_or a k d) (slice_index_or b k d)) → (k : ℕ) → R (slice_index_or (a ++ r) k d) (slice_index_or (b ++ r) k d)
each_more R [] [] r d same self each k = self (slice_index_or r k d)
each_more R [] (y ∷ b) r d same self each k = absurd (omega arith)
each_more R (x ∷ a) [] r d same self each k = absurd (omega arith)
each_more R (x ∷ a) (y ∷ b) r d same self each zero = each zero (omega arith)
each_more R (x ∷ a) (y ∷ b) r d same self each (suc k) = each_more R a b r d (omega arith) self (λ j below. each (suc j) (omega arith)) k

calls_more : (e : Epoch) (ps : List (List ℕ)) (b n r : List Tally) → length ps ≡ length b → length n ≡ length b
    → ((k : ℕ) → k < length b → AsksAt e (slice_index_or ps k []) (tally_at b k).calls (tally_at n k).calls)
    → (k : ℕ) → AsksAt e (slice_index_or (ps ++ map (λ (t : Tally). nothing) r) k []) (tally_at (b ++ r) k).calls (tally_at (n ++ r) k).calls
calls_more e [] [] [] r count same each k =
    subst (λ positions. AsksAt e positions (tally_at r k).calls (tally_at r k).calls) (sym (no_positions k r)) (asks_none e (tally_at r k).calls)
calls_more e (p ∷ ps) [] n r count same each k = absurd (omega arith)
calls_more e [] [] (u ∷ n) r count same each k = absurd (omega arith)
calls_more e [] (t ∷ b) n r count same each k = absurd (omega arith)
calls_more e (p ∷ ps) (t ∷ b) [] r count same each k = absurd (omega arith)
calls_more e (p ∷ ps) (t ∷ b) (u ∷ n) r count same each zero = each zero (omega arith)
calls_more e (p ∷ ps) (t ∷ b) (u ∷ n) r count same each (suc k) = calls_more e ps b n r (omega arith) (omega arith) (λ j below. each (suc j) (omega arith)) k

asks_more_once : (e : Epoch) (b n r : List Tally) → length n ≡ length b → AsksOnce e b n → AsksOnce e (b ++ r) (n ++ r)
asks_more_once e b n r same asks = record {
  positions = asks.positions ++ map (λ (t : Tally). nothing) r;
  each = omega (arith, asks.each, length-append asks.positions (map (λ (t : Tally). nothing) r), length-append b r, length-map r (λ (t : Tally). nothing));
  calls = λ k below. calls_more e asks.positions b n r asks.each same asks.calls k;
  once = λ i. omega (arith, asks.once i, total-append (times i) asks.positions (map (λ (t : Tally). nothing) r), no_times i r);
  few = omega (arith, asks.few, total-append (λ (t : Tally). t.asked) b r, total-append (λ (t : Tally). t.asked) n r);
}

module _ (e : Epoch) (b n r : List Tally) (same : length n ≡ length b) where
  answered_by_more : (k : ℕ) (v : List ℕ) (a : Answer) → k < length b → AnsweredBy e (tally_at b k) (tally_at n k) v a → AnsweredBy e (tally_at (b ++ r) k) (tally_at (n ++ r) k) v a
  answered_by_more k v a below it =
      subst (λ t. AnsweredBy e t (tally_at (n ++ r) k) v a) (sym (at_left b r k no_tally below))
      (subst (λ t. AnsweredBy e (tally_at b k) t v a) (sym (at_left n r k no_tally (omega arith))) it)

  pub answered_more : (v : List ℕ) (a : Answer) → Answered e b n v a → Answered e (b ++ r) (n ++ r) v a
  answered_more v a (given k below it) = given k (omega (arith, length-append b r)) (answered_by_more k v a below it)
  answered_more v a (was_kept kept told) = was_kept kept told

  rejected_more : (i : ℕ) → IsRejectedAt e b n i → IsRejectedAt e (b ++ r) (n ++ r) i
  rejected_more i (not_smaller large) = not_smaller large
  rejected_more i (unlawful bad) = unlawful bad
  rejected_more i (answered_no it) = answered_no (answered_more _ _ it)

  pub ends_more : (end : EpochEnd) → EndsBy e b n end → EndsBy e (b ++ r) (n ++ r) end
  ends_more (ending.NoneOf m) it = (it.0, λ i low. rejected_more i (it.1 i low))
  ends_more (ending.Found position bytes) it =
      let f = it.2 in (
        it.0,
        it.1,
        record {
          within = f.within;
          before_it = λ i low. rejected_more i (f.before_it i low);
          is = f.is;
          accepted = record { smaller = f.accepted.smaller; lawful = f.accepted.lawful; answered = answered_more _ _ f.accepted.answered };
        },
      )
  ends_more (ending.Fault position worker) it =
      let f = it.2 in (
        it.0,
        it.1,
        record {
          within = f.within;
          before_it = λ i low. rejected_more i (f.before_it i low);
          is_there = omega (arith, f.is_there, length-append b r);
          asks = f.asks;
          failed = record { smaller = f.failed.smaller; lawful = f.failed.lawful; answered = answered_by_more worker _ _ f.is_there f.failed.answered };
          rose = omega (arith, f.rose, ap (λ (t : Tally). t.faults) (at_left b r worker no_tally f.is_there), ap (λ (t : Tally). t.faults) (at_left n r worker no_tally (omega (arith, f.is_there))));
        },
      )
  ends_more ending.NoMemory it = tt

module _ {J K : Type 0} (judge : JudgeGhosts J K) where
  pub judged_more : (e : Epoch) (old new rest : List J) → IsJudged judge e old new → IsJudged judge e (old ++ rest) (new ++ rest)
  judged_more e old new rest it = record {
    asks = subst (λ ts. AsksOnce e ts (tallies_of judge (new ++ rest))) (sym (map-append (tally_of judge) old rest))
        (subst (λ ts. AsksOnce e (tallies_of judge old ++ tallies_of judge rest) ts) (sym (map-append (tally_of judge) new rest))
        (asks_more_once e (tallies_of judge old) (tallies_of judge new) (tallies_of judge rest) (omega (arith, it.count, length-map old (tally_of judge), length-map new (tally_of judge))) it.asks));
    count = omega (arith, it.count, length-append old rest, length-append new rest);
    keys = λ k d below. each_more (λ x y. judge.key y ≡ judge.key x) old new rest d it.count (λ x. refl) (λ j h. it.keys j d h) k;
    later = λ k d below. each_more (λ x y. judge.faults x ≤ judge.faults y) old new rest d it.count (λ x. omega arith) (λ j h. it.later j d h) k;
    silent = λ quiet. ap (λ (js : List J). js ++ rest) (it.silent quiet);
  }

  pub ends_more_judges : (e : Epoch) (old new rest : List J) (end : EpochEnd) → length new ≡ length old → EndsBy e (tallies_of judge old) (tallies_of judge new) end
      → EndsBy e (tallies_of judge (old ++ rest)) (tallies_of judge (new ++ rest)) end
  ends_more_judges e old new rest end same it =
      subst (λ ts. EndsBy e ts (tallies_of judge (new ++ rest)) end) (sym (map-append (tally_of judge) old rest))
      (subst (λ ts. EndsBy e (tallies_of judge old ++ tallies_of judge rest) ts end) (sym (map-append (tally_of judge) new rest))
      (ends_more e (tallies_of judge old) (tallies_of judge new) (tallies_of judge rest) (omega (arith, same, length-map old (tally_of judge), length-map new (tally_of judge))) end it))

  pub some_one_key : (old rest : List J) → HaveOneKey judge.key (old ++ rest) → HaveOneKey judge.key old
  some_one_key old rest one i j d low high =
      sym (ap judge.key (at_left old rest i d low)) ∙ one i j d (omega (arith, low, length-append old rest)) (omega (arith, high, length-append old rest)) ∙ ap judge.key (at_left old rest j d high)

  pub first_of_some : (old rest : List J) → 0 < length old → first_says judge.key judge.says old ≡ first_says judge.key judge.says (old ++ rest)
  first_of_some [] rest some = absurd (omega arith)
  first_of_some (j ∷ js) rest some = refl

-- The first worker's judge, changed by a call.
module _ {J K : Type 0} (judge : JudgeGhosts J K) where
  pub first_before : (ws : List (Worker J)) (d : Worker J) → 0 < length ws → tally_at (tallies_of judge (judges_in ws)) 0 ≡ tally_of judge (slice_index_or ws 0 d).judge
  first_before [] d some = absurd (omega arith)
  first_before (w ∷ ws) d some = refl

  pub first_after : (ws : List (Worker J)) (w : Worker J) → 0 < length ws → tally_at (tallies_of judge (judges_in (set ws 0 w))) 0 ≡ tally_of judge w.judge
  first_after [] w some = absurd (omega arith)
  first_after (v ∷ ws) w some = refl

  pub says_before : (ws : List (Worker J)) (d : Worker J) → 0 < length ws → first_says judge.key judge.says (judges_in ws) ≡ judge.says (judge.key (slice_index_or ws 0 d).judge)
  says_before [] d some = absurd (omega arith)
  says_before (w ∷ ws) d some = refl

  pub says_after : (ws : List (Worker J)) (w : Worker J) → 0 < length ws → first_says judge.key judge.says (judges_in (set ws 0 w)) ≡ judge.says (judge.key w.judge)
  says_after [] w some = absurd (omega arith)
  says_after (v ∷ ws) w some = refl

  pub others_still : (ws : List (Worker J)) (w : Worker J) → drop 1 (judges_in (set ws 0 w)) ≡ drop 1 (judges_in ws)
  others_still [] w = refl
  others_still (v ∷ ws) w = refl

  pub count_still : (ws : List (Worker J)) (w : Worker J) → length (judges_in (set ws 0 w)) ≡ length (judges_in ws)
  count_still [] w = refl
  count_still (v ∷ ws) w = refl

  one_with : (v w : J) (js : List J) → judge.key w ≡ judge.key v → HaveOneKey judge.key (v ∷ js) → HaveOneKey judge.key (w ∷ js)
  one_with v w js same one zero zero d low high = refl
  one_with v w js same one zero (suc j) d low high = same ∙ one zero (suc j) d (omega arith) high
  one_with v w js same one (suc i) zero d low high = one (suc i) zero d low (omega arith) ∙ sym same
  one_with v w js same one (suc i) (suc j) d low high = one (suc i) (suc j) d low high

  pub manned_still : (ws : List (Worker J)) (w d : Worker J) → judge.key w.judge ≡ judge.key (slice_index_or ws 0 d).judge → IsManned judge.key (judges_in ws)
      → IsManned judge.key (judges_in (set ws 0 w))
  manned_still [] w d same it = it
  manned_still (v ∷ ws) w d same it = (omega arith, omega (arith, it.1), one_with v.judge w.judge (judges_in ws) same it.2)

  pub keys_still : (ws : List (Worker J)) (w d : Worker J) → judge.key w.judge ≡ judge.key (slice_index_or ws 0 d).judge → map judge.key (judges_in (set ws 0 w)) ≡ map judge.key (judges_in ws)
  keys_still [] w d same = refl
  keys_still (v ∷ ws) w d same = ap (λ k. k ∷ map judge.key (judges_in ws)) same
