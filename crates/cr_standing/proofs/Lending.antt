-- The workers of a bench are judges, which tell what their own judges tell.
use Rattle.std.proofs.Common.{◌≡◌, ◌<◌, ◌≤◌, ℕ, zero, suc, ◌+◌, Bool, false, List, [], ◌∷◌, drop, length, map, slice_index_or, Option, refl, sym, ap, subst, ◌∙◌, arith}
use lib.ListN.{length-map, get_or-map}
use Rattle.std.proofs.lemmas.List.{drop-map}
use Rattle.cr_outside.specs.Judge.{Call}
use Rattle.cr_outside.specs.declared.judge.Judge.{Ghosts as JudgeGhosts}
use Rattle.cr_pool.specs.declared.crew.Worker.{Worker}
use Rattle.cr_pool.specs.Bench.{IsManned}
use Rattle.cr_pool.specs.Crew.{judges_in}
use Rattle.cr_pool.specs.Tally.{Tally, asked_in, first_says, tallies_of}
use Rattle.cr_reduce.specs.Bench.{Each, GoesOn, Judging, judging_of}
use Rattle.cr_reduce.specs.Search.{Search}
use Rattle.cr_reduce.specs.declared.end.End.{End}
use Rattle.cr_standing.specs.Ends.{EndsStanding}
use Rattle.cr_standing_workers.specs.Serving.{Serves}
use Rattle.cr_standing_workers.specs.Told.{EndsIfTold}

-- what a worker tells
abbrev pub of_worker : {J K : Type 0} → JudgeGhosts J K → JudgeGhosts (Worker J) K
of_worker judge = record { key = λ w. judge.key w.judge; says = judge.says; asked = λ w. judge.asked w.judge; calls = λ w. judge.calls w.judge; faults = λ w. judge.faults w.judge }

-- a map of a map
pub map_of_judges : {J B : Type 0} (f : J → B) (ws : List (Worker J)) → map (λ (w : Worker J). f w.judge) ws ≡ map f (judges_in ws)
map_of_judges f [] = refl
map_of_judges {J} {B} f (w ∷ ws) = ap {B = List B} (λ (bs : List B). f w.judge ∷ bs) (map_of_judges f ws)

module _ {J K : Type 0} (judge : JudgeGhosts J K) where
  pub same_tallies : (ws : List (Worker J)) → tallies_of (of_worker judge) ws ≡ tallies_of judge (judges_in ws)
  same_tallies ws = map_of_judges (λ (j : J). record { calls = judge.calls j; asked = judge.asked j; faults = judge.faults j }) ws

  abbrev told_as : List (Option (List Call)) → List ℕ → List Tally → Judging
  told_as calls faults tallies = record { calls = calls; faults = faults; asked = asked_in tallies }

  pub same_judging : (ws : List (Worker J)) → judging_of (of_worker judge) ws ≡ judging_of judge (judges_in ws)
  same_judging ws =
      let js = judges_in ws in
      ap (λ (calls : List (Option (List Call))). told_as calls (map (of_worker judge).faults ws) (tallies_of (of_worker judge) ws)) (map_of_judges judge.calls ws)
      ∙ ap (λ (faults : List ℕ). told_as (map judge.calls js) faults (tallies_of (of_worker judge) ws)) (map_of_judges judge.faults ws)
      ∙ ap (λ (tallies : List Tally). told_as (map judge.calls js) (map judge.faults js) tallies) (same_tallies ws)

  pub same_first : (ws : List (Worker J)) → first_says (of_worker judge).key (of_worker judge).says ws ≡ first_says judge.key judge.says (judges_in ws)
  same_first [] = refl
  same_first (w ∷ ws) = refl

  pub manned_workers : (ws : List (Worker J)) → IsManned judge.key (judges_in ws) → IsManned (of_worker judge).key ws
  manned_workers ws it =
      let len : length (judges_in ws) ≡ length ws = length-map ws (λ (w : Worker J). w.judge) in
      let one : (i : ℕ) (d : Worker J) → judge.key (slice_index_or (judges_in ws) i d.judge) ≡ judge.key (slice_index_or ws i d).judge =
      λ i d. ap judge.key (get_or-map (λ (w : Worker J). w.judge) ws i d) in
      (omega (arith, len, it.0), omega (arith, len, it.1), λ i j d low high. sym (one i d) ∙ it.2 i j d.judge (omega (arith, len, low)) (omega (arith, len, high)) ∙ one j d)

module _ {J K : Type 0} (judge : JudgeGhosts J K) (asks : Bool) where
  served : (old new : Worker J) → Serves (of_worker judge) asks old new → Serves judge asks old.judge new.judge
  served old new it = record { key = it.key; goes_on = it.goes_on; silent = λ quiet. ap (λ (w : Worker J). w.judge) (it.silent quiet) }

  pub each_served : (old new : List (Worker J)) → Each (Serves (of_worker judge) asks) old new → Each (Serves judge asks) (judges_in old) (judges_in new)
  each_served [] [] all = tt
  each_served [] (b ∷ new) all = absurd all
  each_served (a ∷ old) [] all = absurd all
  each_served (a ∷ old) (b ∷ new) all = (served a b all.0, each_served old new all.1)

  pub keys_served : (old new : List J) → Each (Serves judge asks) old new → map judge.key new ≡ map judge.key old
  keys_served [] [] all = refl
  keys_served [] (b ∷ new) all = absurd all
  keys_served (a ∷ old) [] all = absurd all
  keys_served (a ∷ old) (b ∷ new) all = ap {B = List K} (λ (k : K). k ∷ map judge.key new) all.0.key ∙ ap {B = List K} (λ (ks : List K). judge.key a ∷ ks) (keys_served old new all.1)

  pub silent_served : (old new : List J) → asks ≡ false → Each (Serves judge asks) old new → new ≡ old
  silent_served [] [] quiet all = refl
  silent_served [] (b ∷ new) quiet all = absurd all
  silent_served (a ∷ old) [] quiet all = absurd all
  silent_served (a ∷ old) (b ∷ new) quiet all = ap {B = List J} (λ (j : J). j ∷ new) (all.0.silent quiet) ∙ ap {B = List J} (λ (js : List J). a ∷ js) (silent_served old new quiet all.1)

  pub goes_on_served : (old new : List J) → Each (Serves judge asks) old new → GoesOn (judging_of judge old) (judging_of judge new)
  goes_on_served [] [] all = record { calls = tt; faults = tt }
  goes_on_served [] (b ∷ new) all = absurd all
  goes_on_served (a ∷ old) [] all = absurd all
  goes_on_served (a ∷ old) (b ∷ new) all =
      let rest = goes_on_served old new all.1 in
      record { calls = (all.0.goes_on.calls.0, rest.calls); faults = (all.0.goes_on.faults.0, rest.faults) }

  idle_workers : (n : ℕ) (old new : List (Worker J)) → drop n new ≡ drop n old → drop n (judges_in new) ≡ drop n (judges_in old)
  idle_workers n old new same =
      let judge_of : Worker J → J = λ w. w.judge in
      drop-map judge_of n new ∙ ap (λ (ws : List (Worker J)). judges_in ws) same ∙ sym (drop-map judge_of n old)

  -- what the reduction by these workers says of their judges
  pub lent_ends : (s : Search) (limit : Option ℕ) (workers : ℕ) (file : List ℕ) (given new : List (Worker J)) (end : End) → EndsStanding s (of_worker judge) asks limit workers file given new end
      → EndsStanding s judge asks limit workers file (judges_in given) (judges_in new) end
  lent_ends s limit workers file given new end it = record {
    chain = subst (λ (b : Judging). EndsIfTold s b (judging_of judge (judges_in new)) limit file end) (same_judging judge given)
        (subst (λ (n : Judging). EndsIfTold s (judging_of (of_worker judge) given) n limit file end) (same_judging judge new) it.chain);
    of_first = it.of_first;
    serve = each_served given new it.serve;
    idle = idle_workers workers given new it.idle;
  }

-- so it is of the judges that a bench had and has, which are theirs
pub settled : {J K : Type 0} (judge : JudgeGhosts J K) (asks : Bool) (s : List J → Search) (limit : Option ℕ) (workers : ℕ) (file : List ℕ) (lent back old new : List J) (end result : End)
    → lent ≡ old → back ≡ new → result ≡ end → EndsStanding (s lent) judge asks limit workers file lent back end → EndsStanding (s old) judge asks limit workers file old new result
settled {J} judge asks s limit workers file lent back old new end result same_old same_new is it =
    subst (λ (e : End). EndsStanding (s old) judge asks limit workers file old new e) (sym is)
    (subst (λ (n : List J). EndsStanding (s old) judge asks limit workers file old n end) same_new
    (subst (λ (o : List J). EndsStanding (s o) judge asks limit workers file o back end) same_old it))
