-- Splitting and joining keep the rule, and what closing tells.
use Rattle.std.proofs.Common.{◌≡◌, ◌≢◌, ℕ, ◌+◌, ◌<◌, ◌≤◌, Bool, true, false, if◌then◌else◌, List, [], ◌∷◌, ◌++◌, length, get_or, set, refl, sym, ap, subst, ◌∙◌, arith, ◌⊎◌, inl, inr}
use Prim.Native.Nat.{zero, suc}
use mathlib.Core.Option.{some, some-injective}
use lib.ListN.{get_elem?}
use Rattle.atomic_table.specs.Table.{Splits, Joins}
use Rattle.atomic_table.proofs.Lists.{at_set, at_snoc, set_else}
use Rattle.cr_core.specs.declared.marks.HitKind.{HitKind}
use Rattle.cr_core.specs.declared.marks.HitKind.TheVariants.{Yes, Failed, Starved}
use Rattle.cr_core.specs.Row.{Row, kind_no, opening, last_position}
use Rattle.cr_core.specs.Sound.{Sum, total, IsOver, IsSound}
use Rattle.cr_core.specs.State.{State, IsFinished, IsFirst, first_of}
use Rattle.cr_core.specs.Laws.{TheLeastHitIsFirst}
use Rattle.cr_claims.specs.declared.view.View.{View}
use Rattle.cr_claims.specs.View.{new_view, spent_view, one_split_more, with_joined, joins}
use Rattle.cr_claims.specs.Rule.{live, in_lists, in_views, keeper_count, Fits, IsKept}
use Rattle.cr_claims.specs.Pass.{held, IsDone}
use Rattle.cr_claims.proofs.Views.{total-set, total-at, total-append, only_there, live-is, live-spent}
use Rattle.cr_claims.proofs.Steps.{Kept}

abbrev splits : View → ℕ
splits v = v.splits

abbrev one : Row → ℕ
one _ = 1

-- an empty list more
one_more : (len next least : ℕ) (sum : Sum) → IsSound len next least sum → IsSound len next least (λ f. sum f + f [])
one_more len next least sum s = record {
  each_claimed_number_stands_once = λ p. omega (arith, s.each_claimed_number_stands_once p);
  positions_rise_and_only_a_last_entry_is_open = (let h = s.positions_rise_and_only_a_last_entry_is_open in omega arith);
  the_least_word_is_the_first_or_a_hit = elim s.the_least_word_is_the_first_or_a_hit [ inl h ↦ inl h | inr (p, k, e, h) ↦ inr (p, k, e, omega arith) ];
  no_hit_lies_below_it = λ p k h. s.no_hit_lies_below_it p k (omega arith);
  a_skipped_entry_is_over = λ p h. s.a_skipped_entry_is_over p (omega arith);
  a_rejected_entry_is_below_the_length = λ p h. s.a_rejected_entry_is_below_the_length p (omega arith);
  only_a_last_entry_is_past_the_end = (let h = s.only_a_last_entry_is_past_the_end in omega arith);
  next_is_bounded = (let h = s.next_is_bounded in omega arith);
}

kind_small : (k : HitKind) → kind_no k ≤ 3
kind_small Yes = omega arith
kind_small Failed = omega arith
kind_small Starved = omega arith

-- the least word is at most its first value
least_low : (len next least : ℕ) (sum : Sum) → IsSound len next least sum → least ≤ opening len
least_low len next least sum s =
    elim s.the_least_word_is_the_first_or_a_hit [
      | inl e ↦ omega arith
      | inr (p, k, e, h) ↦ (let short = (s.no_hit_lies_below_it p k h).0 in omega (arith, kind_small k))
    ]

keeper_count-yes : (v : View) → v.keeper ≡ true → keeper_count v ≡ 1
keeper_count-yes v h = ap {B = ℕ} (λ (b : Bool). if b then 1 else 0) h

keeper_count-no : (v : View) → v.keeper ≡ false → keeper_count v ≡ 0
keeper_count-no v h = ap {B = ℕ} (λ (b : Bool). if b then 1 else 0) h

not_keeper : (v : View) (b : Bool) → v.keeper ≡ b → keeper_count v ≡ 0 → v.keeper ≡ false
not_keeper v true e h = absurd (omega (arith, keeper_count-yes v e))
not_keeper v false e h = e

no_splits : (len least : ℕ) (u : View) (b : Bool) → u.spent ≡ b → (u.spent ≡ false → Fits len least u) → live keeper_count u ≡ 0 → live splits u ≡ 0
no_splits len least u true e f h = live-spent splits u e
no_splits len least u false e f h =
    omega (arith, live-is splits u e, ((f e).only_the_keeper_splits_and_joins (not_keeper u u.keeper refl (omega (arith, live-is keeper_count u e)))).0)

-- the keeper alone has splits
keeper_splits : (len : ℕ) (words : List ℕ) (vs : List View) (id : ℕ) (v : View) (k : IsKept len words vs) → get_elem? vs id ≡ some v → v.spent ≡ false
    → v.keeper ≡ true → total (live splits) vs ≡ v.splits
keeper_splits len words vs id v k there is_live keeper =
    let only = k.one_is_the_keeper in
    only_there (live keeper_count) (live splits) vs id v there (omega (arith, live-is keeper_count v is_live, keeper_count-yes v keeper))
    (λ j u at. no_splits len k.least u u.spent refl (k.each_fits j u at)) ∙ live-is splits v is_live

pub may_split : (len id : ℕ) (v : View) → v.spent ≡ false → v.keeper ≡ true → v.splits < 4096 → Splits (Kept len) id v (one_split_more v) (new_view v)
may_split len id v is_live keeper few s k there =
    let vs = s.views in
    let l = one_split_more v in
    let r = new_view v in
    let f = k.each_fits id v there is_live in
    let named : v.len ≡ len = f.it_names_the_length in
    let new : Fits len k.least r = record {
      it_names_the_length = f.it_names_the_length;
      it_read_no_less = omega (arith, least_low len k.next k.least (in_views vs) k.is_sound);
      it_left_at_the_end = λ e. cc;
      it_joined_what_is_over = λ i. inl refl;
      only_the_keeper_splits_and_joins = λ _. (refl, refl);
    } in
    let more : Fits len k.least l = record {
      it_names_the_length = f.it_names_the_length;
      it_read_no_less = f.it_read_no_less;
      it_left_at_the_end = f.it_left_at_the_end;
      it_joined_what_is_over = f.it_joined_what_is_over;
      only_the_keeper_splits_and_joins = λ e. cc;
    } in
    let to : (g : Row → ℕ) → in_views vs g + g [] ≡ in_views (set vs id l ++ r ∷ []) g =
    λ g. omega (arith, total-append (live (in_lists g)) (set vs id l) (r ∷ []), total-set (live (in_lists g)) vs id v l there) in
    let Q : Sum → Type 0 = IsSound len k.next k.least in
    let had = keeper_splits len s.words vs id v k there is_live keeper in
    let splits_now : total (live splits) (set vs id l ++ r ∷ []) ≡ v.splits + 1 =
    omega (arith, total-append (live splits) (set vs id l) (r ∷ []), total-set (live splits) vs id v l there, live-is splits v is_live, live-is splits l is_live) in
    record {
      next = k.next;
      least = k.least;
      two_words = k.two_words;
      length_is_small = k.length_is_small;
      is_sound = subst Q (λ j g. to g j) (one_more len k.next k.least (in_views vs) k.is_sound);
      each_fits = λ j u at there_too.
          elim (at_snoc (set vs id l) r u j at) [
            | inl old ↦ elim (at_set vs id j l u old) [
              | inl (same, e) ↦ (let F : View → Type 0 = Fits len k.least in subst F e more)
              | inr (other, older) ↦ k.each_fits j u older there_too
            ]
            | inr e ↦ (let F : View → Type 0 = Fits len k.least in subst F e new)
          ];
      one_is_the_keeper =
          (let only = k.one_is_the_keeper in
          omega (arith, total-append (live keeper_count) (set vs id l) (r ∷ []), total-set (live keeper_count) vs id v l there));
      lists_number_the_splits = (let lists = k.lists_number_the_splits in omega (arith, sym (to one)));
      splits_are_few = omega arith;
    }

-- a view beside the keeper's isn't the keeper's
other_is_no_keeper : (vs : List View) (id other : ℕ) (v w : View) → total (live keeper_count) vs ≡ 1 → get_elem? vs id ≡ some v → v.spent ≡ false → v.keeper ≡ true
    → other ≢ id → get_elem? vs other ≡ some w → w.spent ≡ false → w.keeper ≡ false
other_is_no_keeper vs id other v w only there is_live keeper differ there_too is_live_too =
    let rest = set vs id spent_view in
    let at : get_elem? rest other ≡ some w = set_else vs id other spent_view differ ∙ there_too in
    let none : live keeper_count w ≡ 0 =
    omega (arith, total-at (live keeper_count) rest other w at, total-set (live keeper_count) vs id v spent_view there, live-is keeper_count v is_live, keeper_count-yes v keeper) in
    not_keeper w w.keeper refl (omega (arith, live-is keeper_count w is_live_too))

joined_over : (len least : ℕ) (l : Row) (ls : List Row) → (l ≡ []) ⊎ IsOver len least (last_position l)
    → ((i : ℕ) → (get_or ls i [] ≡ []) ⊎ IsOver len least (last_position (get_or ls i [])))
    → (i : ℕ) → (get_or (l ∷ ls) i [] ≡ []) ⊎ IsOver len least (last_position (get_or (l ∷ ls) i []))
joined_over len least l ls h hs zero = h
joined_over len least l ls h hs (suc i) = hs i

pub may_join : (len id other : ℕ) (v w : View) → v.spent ≡ false → w.spent ≡ false → v.keeper ≡ true → (w.own ≡ []) ⊎ (w.left ≡ true)
    → Joins (Kept len) id v other w (with_joined v w) spent_view
may_join len id other v w is_live is_live_too keeper rests s k there differ after =
    let vs = s.views in
    let both = with_joined v w in
    let mid = set vs id both in
    let there_too : get_elem? vs other ≡ some w = sym (set_else vs id other both differ) ∙ after in
    let f = k.each_fits id v there is_live in
    let g = k.each_fits other w there_too is_live_too in
    let plain = g.only_the_keeper_splits_and_joins (other_is_no_keeper vs id other v w k.one_is_the_keeper there is_live keeper differ there_too is_live_too) in
    let w_over : (w.own ≡ []) ⊎ IsOver len k.least (last_position w.own) =
    elim rests [ inl none ↦ inl none | inr left ↦ inr (g.it_left_at_the_end left).1 ] in
    let new : Fits len k.least both = record {
      it_names_the_length = f.it_names_the_length;
      it_read_no_less = f.it_read_no_less;
      it_left_at_the_end = f.it_left_at_the_end;
      it_joined_what_is_over = joined_over len k.least w.own v.joined w_over f.it_joined_what_is_over;
      only_the_keeper_splits_and_joins = λ e. cc;
    } in
    let to : (h : Row → ℕ) → in_views vs h ≡ in_views (set mid other spent_view) h =
    λ h. omega (
      arith,
      total-set (live (in_lists h)) mid other w spent_view after,
      total-set (live (in_lists h)) vs id v both there,
      live-is (in_lists h) v is_live,
      live-is (in_lists h) both is_live,
      live-is (in_lists h) w is_live_too,
      ap (total h) plain.1,
    ) in
    let Q : Sum → Type 0 = IsSound len k.next k.least in
    let splits_now : total (live splits) (set mid other spent_view) ≡ total (live splits) vs =
    omega (arith, total-set (live splits) mid other w spent_view after, total-set (live splits) vs id v both there, live-is splits w is_live_too, plain.0) in
    record {
      next = k.next;
      least = k.least;
      two_words = k.two_words;
      length_is_small = k.length_is_small;
      is_sound = subst Q (λ j h. to h j) k.is_sound;
      each_fits = λ j u at u_live.
          elim (at_set mid other j spent_view u at) [
            | inl (same, e) ↦ (let clash : true ≡ u.spent = ap (λ (x : View). x.spent) e in cc)
            | inr (_, old) ↦ elim (at_set vs id j both u old) [
              | inl (same, e) ↦ (let F : View → Type 0 = Fits len k.least in subst F e new)
              | inr (_, older) ↦ k.each_fits j u older u_live
            ]
          ];
      one_is_the_keeper =
          (let only = k.one_is_the_keeper in
          let no = other_is_no_keeper vs id other v w only there is_live keeper differ there_too is_live_too in
          omega (
            arith,
            total-set (live keeper_count) mid other w spent_view after,
            total-set (live keeper_count) vs id v both there,
            live-is keeper_count w is_live_too,
            keeper_count-no w no,
          ));
      lists_number_the_splits = (let lists = k.lists_number_the_splits in omega (arith, to one));
      splits_are_few = (let few = k.splits_are_few in omega arith);
    }

total-ones : (ls : List Row) → total one ls ≡ length ls
total-ones [] = refl
total-ones (l ∷ ls) = omega (arith, total-ones ls)

inside : (ls : List Row) (i : ℕ) → get_or ls i [] ≢ [] → i < length ls
inside [] i full = absurd (full refl)
inside (l ∷ ls) zero full = omega arith
inside (l ∷ ls) (suc i) full = omega (arith, inside ls i full)

-- a view that counts no list is spent, and counts nothing
no_lists : (f : Row → ℕ) (u : View) (b : Bool) → u.spent ≡ b → live (in_lists one) u ≡ 0 → live (in_lists f) u ≡ 0
no_lists f u true e h = live-spent (in_lists f) u e
no_lists f u false e h = absurd (omega (arith, live-is (in_lists one) u e))

-- where as many passes were joined as were split, the keeper holds all lists
holds_all : (len : ℕ) (words : List ℕ) (vs : List View) (id : ℕ) (v : View) (k : IsKept len words vs) → get_elem? vs id ≡ some v → v.spent ≡ false
    → v.keeper ≡ true → joins v ≡ v.splits → (f : Row → ℕ) → in_views vs f ≡ held v f
holds_all len words vs id v k there is_live keeper all f =
    let lists = k.lists_number_the_splits in
    only_there (live (in_lists one)) (live (in_lists f)) vs id v there
    (omega (arith, keeper_splits len words vs id v k there is_live keeper, live-is (in_lists one) v is_live, total-ones v.joined))
    (λ j u at. no_lists f u u.spent refl) ∙ live-is (in_lists f) v is_live

-- the state of the core that the keeper's lists make
abbrev held_state : ℕ → ℕ → ℕ → View → State
held_state len next least v = record { len = len; next = next; least = least; lists = v.own ∷ v.joined }

is_finished : (len next least : ℕ) (v : View) → Fits len least v → IsDone v → IsFinished (held_state len next least v)
is_finished len next least v f done = record {
  nothing_is_open = done.nothing_is_open;
  one_saw_the_end =
      elim done.one_left [
        | inl left ↦ (let q = f.it_left_at_the_end left in (0, omega arith, q.0, q.1))
        | inr (i, full) ↦
            (suc i, omega (arith, inside v.joined i full), full, elim (f.it_joined_what_is_over i) [ inl none ↦ absurd (full none) | inr over ↦ over ])
      ];
}

-- once all passes are joined, the keeper's lists are a sound state by themselves
pub held_is_sound : (len : ℕ) (words : List ℕ) (vs : List View) (id : ℕ) (v : View) (k : IsKept len words vs) → get_elem? vs id ≡ some v → v.spent ≡ false
    → v.keeper ≡ true → joins v ≡ v.splits → IsSound len k.next k.least (held v)
held_is_sound len words vs id v k there is_live keeper all =
    let P : Sum → Type 0 = IsSound len k.next k.least in
    let from = holds_all len words vs id v k there is_live keeper all in
    subst P (λ j f. from f j) k.is_sound

-- what the word `least` says then
pub closes : TheLeastHitIsFirst → (len : ℕ) (words : List ℕ) (vs : List View) (id : ℕ) (v : View) (n : ℕ) (k : IsKept len words vs) → get_elem? vs id ≡ some v → v.spent ≡ false
    → v.keeper ≡ true → joins v ≡ v.splits → IsDone v → get_elem? words 1 ≡ some n → IsFirst len (held v) (first_of len n)
closes law len words vs id v n k there is_live keeper all done at =
    let sound = held_is_sound len words vs id v k there is_live keeper all in
    let is : k.least ≡ n = some-injective k.least n (sym (ap (λ (ws : List ℕ). get_elem? ws 1) k.two_words) ∙ at) in
    let R : ℕ → Type 0 = λ m. IsFirst len (held v) (first_of len m) in
    subst R is (law (held_state len k.next k.least v) sound (is_finished len k.next k.least v (k.each_fits id v there is_live) done))
