-- What comes back once the workers are joined, and what the reduction says then.
use Rattle.std.proofs.Common.{◌≡◌, ℕ, ◌<◌, ◌≤◌, Bool, List, [], ◌∷◌, ◌++◌, drop, inl, inr, ◌⊎◌, ◌+◌, zero, suc, length, set, slice_index_or, vec_capacity, Option, None, Some, refl, sym, ap, subst, ◌∙◌, arith}
use Rattle.std.specs.Arc.{arc_value}
use Rattle.cr_cursor.specs.Variants.{Offer}
use Rattle.cr_outside.specs.declared.judge.Judge.{Ghosts as JudgeGhosts}
use Rattle.cr_reduce.specs.Bench.{Each, judging_of}
use Rattle.cr_reduce.specs.declared.end.End.{End}
use Rattle.cr_reduce.specs.declared.end.Why.{Why}
use Rattle.cr_reduce.specs.declared.end.Why.TheVariants.{Fixed, Limit, Fault, NoMemory}
use Rattle.cr_reduce.specs.Ends.{EndsBy, end_of_walk}
use Rattle.cr_reduce.specs.Reduction.{Proposals, State, Within, cursors_of, start_of}
use Rattle.cr_reduce.specs.Search.{Search}
use Rattle.cr_reduce.specs.Trials.{HasFailed}
use Rattle.cr_reduce.specs.Walk.{EndsHere}
use Rattle.cr_standing.specs.declared.crew.Back.{Back}
use Rattle.cr_standing.specs.declared.running.Ended.{Ended}
use Rattle.cr_standing.specs.declared.walk.Walk.{Walk}
use Rattle.cr_standing.specs.Crew.{IsBack, LeavesSo}
use Rattle.cr_standing.specs.Ends.{EndsStanding, IsManaged}
use Rattle.cr_standing.specs.Walk.{IsSound, Leads, plain, standing_at}
use Rattle.cr_standing_workers.specs.Serving.{Serves}
use Rattle.cr_standing_workers.specs.Told.{ReducesFileIfTold}
use Rattle.cr_standing_workers.proofs.Judges.{each-refl, each-trans, each_length, each_more}
use Rattle.cr_standing.proofs.Reading.{ends_if_told, leads-refl, leads-trans, nothing_done}
use Rattle.cr_standing.proofs.Lending.{goes_on_served}
use Rattle.cr_standing.proofs.Positions.{ends_earlier}

-- one more at both ends, which is the same or among the first
drop_more : {A : Type 0} (n : ℕ) (xs ys : List A) (x y : A) → length ys ≡ length xs → drop n ys ≡ drop n xs → (y ≡ x) ⊎ (length xs < n) → drop n (ys ++ y ∷ []) ≡ drop n (xs ++ x ∷ [])
drop_more {A} zero xs ys x y len same (inl is) = ap (λ (l : List A). l ++ y ∷ []) same ∙ ap (λ (z : A). xs ++ z ∷ []) is
drop_more zero xs ys x y len same (inr low) = absurd (omega (arith, low))
drop_more (suc n) [] [] x y len same e = refl
drop_more (suc n) [] (b ∷ ys) x y len same e = absurd (omega (arith, len))
drop_more (suc n) (a ∷ xs) [] x y len same e = absurd (omega (arith, len))
drop_more (suc n) (a ∷ xs) (b ∷ ys) x y len same (inl is) = drop_more n xs ys x y (omega (arith, len)) same (inl is)
drop_more (suc n) (a ∷ xs) (b ∷ ys) x y len same (inr low) = drop_more n xs ys x y (omega (arith, len)) same (inr (omega (arith, low)))

-- the first of the judges went on
pub first_serves : {J K : Type 0} (judge : JudgeGhosts J K) (asks : Bool) (js : List J) (old new : J) → 0 < length js → old ≡ slice_index_or js 0 old → Serves judge asks old new → Each (Serves judge asks) js (set js 0 new)
first_serves judge asks [] old new some is served = absurd (omega (arith, some))
first_serves judge asks (j ∷ js) old new some is served = (subst (λ x. Serves judge asks x new) is served, each-refl judge asks js)

-- and the others didn't
pub first_alone : {J : Type 0} (n : ℕ) (js : List J) (new : J) → 0 < n → drop n (set js 0 new) ≡ drop n js
first_alone zero js new some = absurd (omega (arith, some))
first_alone (suc n) [] new some = refl
first_alone (suc n) (j ∷ js) new some = refl

-- an end by the first of them alone is one by them all
module _ {J K : Type 0} (s : Search) (judge : JudgeGhosts J K) (limit : Option ℕ) where
  wider : (name variant : List ℕ) (a b : J) (xs ys : List J) → HasFailed s.asks name (judging_of judge (a ∷ [])) (judging_of judge (b ∷ [])) 0 variant
      → HasFailed s.asks name (judging_of judge (a ∷ xs)) (judging_of judge (b ∷ ys)) 0 variant
  wider name variant a b xs ys it = record { asked = it.asked; called = it.called; rose = it.rose }

  first_ends : (st : State) (why : Why) (a b : J) (xs ys : List J) → ((turn worker : ℕ) → why ≡ Fault turn worker → worker ≡ 0) → EndsHere s (judging_of judge (a ∷ [])) (judging_of judge (b ∷ [])) limit st why
      → EndsHere s (judging_of judge (a ∷ xs)) (judging_of judge (b ∷ ys)) limit st why
  first_ends st Fixed a b xs ys zero_is ended = ended
  first_ends st Limit a b xs ys zero_is ended = ended
  first_ends st NoMemory a b xs ys zero_is ended = ended
  first_ends st (Fault turn worker) a b xs ys zero_is ended =
      let here = ended.2 in
      let f = here.failed in
      let is_zero : worker ≡ 0 = zero_is turn worker refl in
      let v = st.offer.bytes here.at in
      let narrow = subst (λ w. HasFailed s.asks s.name (judging_of judge (a ∷ [])) (judging_of judge (b ∷ [])) w v) is_zero f.failed in
      let wide = subst (λ w. HasFailed s.asks s.name (judging_of judge (a ∷ xs)) (judging_of judge (b ∷ ys)) w v) (sym is_zero) (wider s.name v a b xs ys narrow) in
      (ended.0, ended.1, record { at = here.at; there = here.there; failed = record { smaller = f.smaller; lawful = f.lawful; failed = wide } })

  pub first_ended : (st : State) (why : Why) (js : List J) (old new : J) → 0 < length js → old ≡ slice_index_or js 0 old → ((turn worker : ℕ) → why ≡ Fault turn worker → worker ≡ 0)
      → EndsHere s (judging_of judge (old ∷ [])) (judging_of judge (new ∷ [])) limit st why → EndsHere s (judging_of judge js) (judging_of judge (set js 0 new)) limit st why
  first_ended st why [] old new some is zero_is ended = absurd (omega (arith, some))
  first_ended st why (j ∷ js) old new some is zero_is ended = first_ends st why j new js js zero_is (subst (λ (x : J). EndsHere s (judging_of judge (x ∷ [])) (judging_of judge (new ∷ [])) limit st why) is ended)

module _ {J K T : Type 0} (s : Search) (judge : JudgeGhosts J K) (asks : Bool) (p : Proposals) (offer : T → List ℕ → Offer) (limit : Option ℕ) where
  -- one worker more was joined
  pub one_joined : (made stops : ℕ) (walk : Walk T) (others : List J) (other came : J) (b new : Back J T) → IsBack s judge asks p offer limit made stops walk others b → Serves judge asks other came
      → (came ≡ other) ⊎ (length others < stops)
      → (new.judges.items ≡ b.judges.items ++ came ∷ []) × (vec_capacity new.judges ≡ vec_capacity b.judges) → (new.walk ≡ b.walk) × (new.why ≡ b.why)
      → IsBack s judge asks p offer limit made stops walk (others ++ other ∷ []) new
  one_joined made stops walk others other came b new it served works list same = record {
    serve = subst (λ (l : List J). Each (Serves judge asks) (others ++ other ∷ []) l) (sym list.0) (each_more judge asks others b.judges.items other came it.serve served);
    idle = subst (λ (l : List J). drop stops l ≡ drop stops (others ++ other ∷ [])) (sym list.0) (drop_more stops others b.judges.items other came (each_length judge asks others b.judges.items it.serve) it.idle works);
    room = subst (λ n. made ≤ n) (sym list.1) it.room;
    leads = subst (λ (w : Walk T). Leads s (standing_at offer walk) (standing_at offer w)) (sym same.0) it.leads;
    placed = subst (λ (w : Walk T). w.position ≤ length (cursors_of (offer (arc_value w.shared).prep w.file.items))) (sym same.0) it.placed;
    within = subst (λ (w : Walk T). Within limit w.turns) (sym same.0) it.within;
    leaves = subst (λ (w : Walk T). LeavesSo s p offer limit w new.why) (sym same.0) (subst (λ (x : Option Why). LeavesSo s p offer limit b.walk x) (sym same.1) it.leaves);
  }

  -- there is room for one more
  pub has_room : (made stops : ℕ) (walk : Walk T) (others : List J) (b : Back J T) → IsBack s judge asks p offer limit made stops walk others b → length others < made → length b.judges.items < vec_capacity b.judges
  has_room made stops walk others b it few =
      let len = each_length judge asks others b.judges.items it.serve in
      omega (arith, len, few, it.room)

  -- without a crew
  pub unmanned_back : (stops : ℕ) (walk : Walk T) (js : List J) (b : Back J T) → IsSound p offer walk → Within limit walk.turns → b.judges.items ≡ js → b.walk ≡ walk → b.why ≡ None → IsBack s judge asks p offer limit 0 stops walk js b
  unmanned_back stops walk js b sound within same_judges same_walk none = record {
    serve = subst (λ (l : List J). Each (Serves judge asks) js l) (sym same_judges) (each-refl judge asks js);
    idle = ap (λ (l : List J). drop stops l) same_judges;
    room = omega arith;
    leads = subst (λ (w : Walk T). Leads s (standing_at offer walk) (standing_at offer w)) (sym same_walk) (leads-refl s (standing_at offer walk));
    placed = subst (λ (w : Walk T). w.position ≤ length (cursors_of (offer (arc_value w.shared).prep w.file.items))) (sym same_walk) (omega (arith, sound.as_plain.placed, sound.as_plain.counted));
    within = subst (λ (w : Walk T). Within limit w.turns) (sym same_walk) within;
    leaves = subst (λ (x : Option Why). LeavesSo s p offer limit b.walk x) (sym none) (subst (λ (w : Walk T). IsSound p offer w) (sym same_walk) sound);
  }

  -- whatever room there is
  pub any_room : (made stops : ℕ) (walk : Walk T) (js : List J) (b : Back J T) → IsBack s judge asks p offer limit made stops walk js b → IsBack s judge asks p offer limit 0 stops walk js b
  any_room made stops walk js b it = record { serve = it.serve; idle = it.idle; room = omega arith; leads = it.leads; placed = it.placed; within = it.within; leaves = it.leaves }

  -- where a crew's walk ended
  pub managed_back : (made workers : ℕ) (walk at : Walk T) (given js : List J) (b : Back J T) (e : Ended J T) (why : Why) → Each (Serves judge asks) given js → drop workers js ≡ drop workers given → Leads s (standing_at offer walk) (standing_at offer at)
      → IsBack s judge asks p offer limit made workers at js b → b.why ≡ Some why → e ≡ record { judges = b.judges; walk = b.walk; why = why } → IsManaged s judge asks offer limit workers walk given e
  managed_back made workers walk at given js b e why served idle led it ends is =
      let so : LeavesSo s p offer limit b.walk (Some why) = subst (λ (x : Option Why). LeavesSo s p offer limit b.walk x) ends it.leaves in
      subst (λ (x : Ended J T). IsManaged s judge asks offer limit workers walk given x) (sym is) (record {
        serve = each-trans judge asks given js b.judges.items served it.serve;
        idle = it.idle ∙ idle;
        leads = leads-trans s (standing_at offer walk) (standing_at offer at) (standing_at offer b.walk) led it.leads;
        placed = it.placed;
        within = it.within;
        ended = so.1 (judging_of judge given) (judging_of judge b.judges.items);
        of_first = λ turn worker fault. absurd (so.0 turn worker fault);
      })

  -- where the first judge's step ended it
  pub managed_step : (workers : ℕ) (walk at now : Walk T) (given js new : List J) (e : Ended J T) → Each (Serves judge asks) given js → drop workers js ≡ drop workers given → Leads s (standing_at offer walk) (standing_at offer at)
      → Each (Serves judge asks) js new → drop workers new ≡ drop workers js → Leads s (standing_at offer at) (standing_at offer now)
      → now.position ≤ length (cursors_of (offer (arc_value now.shared).prep now.file.items)) → Within limit now.turns
      → EndsHere s (judging_of judge js) (judging_of judge new) limit (standing_at offer now) e.why → ((turn worker : ℕ) → e.why ≡ Fault turn worker → worker ≡ 0)
      → e.judges.items ≡ new → e.walk ≡ now → IsManaged s judge asks offer limit workers walk given e
  managed_step workers walk at now given js new e served idle led more still on placed within ended zero_is same_judges same_walk = record {
    serve = subst (λ (l : List J). Each (Serves judge asks) given l) (sym same_judges) (each-trans judge asks given js new served more);
    idle = subst (λ (l : List J). drop workers l ≡ drop workers given) (sym same_judges) (still ∙ idle);
    leads = subst (λ (w : Walk T). Leads s (standing_at offer walk) (standing_at offer w)) (sym same_walk) (leads-trans s (standing_at offer walk) (standing_at offer at) (standing_at offer now) led on);
    placed = subst (λ (w : Walk T). w.position ≤ length (cursors_of (offer (arc_value w.shared).prep w.file.items))) (sym same_walk) placed;
    within = subst (λ (w : Walk T). Within limit w.turns) (sym same_walk) within;
    ended = subst (λ (l : List J). EndsHere s (judging_of judge given) (judging_of judge l) limit (standing_at offer e.walk) e.why) (sym same_judges)
        (subst (λ (w : Walk T). EndsHere s (judging_of judge given) (judging_of judge new) limit (standing_at offer w) e.why) (sym same_walk)
        (ends_earlier s (judging_of judge given) (judging_of judge js) (judging_of judge new) limit (standing_at offer now) e.why (goes_on_served judge asks given js served) ended));
    of_first = zero_is;
  }

  -- the end
  pub ended_walk : (workers : ℕ) (file : List ℕ) (first : Offer) (walk : Walk T) (given : List J) (e : Ended J T) (end : End) → IsManaged s judge asks offer limit workers walk given e → s.Offers file first → standing_at offer walk ≡ start_of file first
      → end ≡ end_of_walk (plain e.walk) e.why → EndsStanding s judge asks limit workers file given e.judges.items end
  ended_walk workers file first walk given e end it offered begins is =
      let before = judging_of judge given in
      let now = judging_of judge e.judges.items in
      record {
        chain = subst (λ (x : End). EndsBy (ReducesFileIfTold s before now file) file limit x x.why) (sym is)
            (ends_if_told s before now offer file first offered (plain e.walk) (subst (λ (st : State). Leads s st (standing_at offer e.walk)) begins it.leads) limit e.why it.ended it.placed it.within);
        of_first = λ turn worker fault. it.of_first turn worker (ap (λ (x : End). x.why) (sym is) ∙ fault);
        serve = it.serve;
        idle = it.idle;
      }

  pub ended_untouched : (workers : ℕ) (file : List ℕ) (given : List J) (end : End) → end.file.items ≡ file → (end.accepted.items ≡ []) × (end.turns ≡ 0) × (end.why ≡ NoMemory) → EndsStanding s judge asks limit workers file given given end
  ended_untouched workers file given end same rest = record {
    chain = nothing_done s (judging_of judge given) (judging_of judge given) limit file end same rest.0 rest.1 rest.2;
    of_first = λ turn worker fault. let other : NoMemory ≡ Fault turn worker = sym rest.2 ∙ fault in cc;
    serve = each-refl judge asks given;
    idle = refl;
  }
