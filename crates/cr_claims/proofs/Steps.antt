-- A step of one pass keeps the rule.
use Rattle.std.proofs.Common.{◌≡◌, ◌≢◌, ℕ, ◌+◌, ◌-◌, ◌%◌, ◌^◌, ◌<◌, ◌≤◌, Bool, true, false, List, [], ◌∷◌, get_or, set, refl, sym, ap, subst, ◌∙◌, arith, inl, inr}
use Prim.Native.Nat.{min}
use mathlib.Core.Option.{some}
use lib.ListN.{get_elem?}
use Rattle.atomic_table.specs.Table.{State, Me, Allows}
use Rattle.atomic_table.specs.Table.Act.{keeps as stays}
use Rattle.atomic_table.proofs.Lists.{at_set}
use Rattle.cr_core.specs.declared.marks.HitKind.{HitKind}
use Rattle.cr_core.specs.declared.marks.HitKind.TheVariants.{Yes, Failed, Starved}
use Rattle.cr_core.specs.declared.marks.Mark.{Mark}
use Rattle.cr_core.specs.declared.marks.Mark.TheVariants.{Open, No, Hit, Skipped}
use Rattle.cr_core.specs.declared.events.Settle.{Settle}
use Rattle.cr_core.specs.declared.events.Settle.TheVariants as settle
use Rattle.cr_core.specs.Row.{Row, word, past, last_position, with_last, IsLast}
use Rattle.cr_core.specs.Sound.{Sum, total, IsOver, IsSound}
use Rattle.cr_core.specs.State.{kind_of}
use Rattle.cr_core.specs.Machine.{MaySettle, MayClaim, MayHit, MayLeave, claimed, settled, lowered}
use Rattle.cr_core.specs.Laws.{ANewEntryIsLast, MarksMoveNothing}
use Rattle.cr_core.proofs.Steps.{with_row, over_falls, last_below, claims, settles, hits}
use Rattle.cr_claims.specs.declared.view.View.{View}
use Rattle.cr_claims.specs.View.{moved, with_own, looked, struck, gone}
use Rattle.cr_claims.specs.Plays.{RisesAbove, hit_list}
use Rattle.cr_claims.specs.Rule.{live, in_lists, in_views, keeper_count, Fits, IsKept}
use Rattle.cr_claims.proofs.Views.{total-set, total-at, live-is, live-spent}

abbrev pub Kept : ℕ → State ℕ View → Type 0
Kept len s = IsKept len s.words s.views

pub fits_falls : (len least low : ℕ) (v : View) → low ≤ least → Fits len least v → Fits len low v
fits_falls len least low v h f = record {
  it_names_the_length = f.it_names_the_length;
  it_read_no_less = (let r = f.it_read_no_less in omega arith);
  it_left_at_the_end = λ e. (let q = f.it_left_at_the_end e in (q.0, over_falls len low least _ h q.1));
  it_joined_what_is_over = λ i. elim (f.it_joined_what_is_over i) [ inl none ↦ inl none | inr over ↦ inr (over_falls len low least _ h over) ];
  only_the_keeper_splits_and_joins = f.only_the_keeper_splits_and_joins;
}

-- what is counted beside a view's own list
abbrev pub beside : List View → View → Sum
beside vs v = λ f. (in_views vs f - in_lists f v) + total f v.joined

pub own_apart : (vs : List View) (id : ℕ) (v : View) → get_elem? vs id ≡ some v → v.spent ≡ false
    → (f : Row → ℕ) → in_views vs f ≡ with_row (beside vs v) v.own f
own_apart vs id v there is_live f =
    omega (arith, total-at (live (in_lists f)) vs id v there, live-is (in_lists f) v is_live)

own_changed : (vs : List View) (id : ℕ) (v : View) (own : Row) (read looks : ℕ) (left : Bool) → get_elem? vs id ≡ some v → v.spent ≡ false
    → (f : Row → ℕ) → with_row (beside vs v) own f ≡ in_views (set vs id (moved own read looks left v)) f
own_changed vs id v own read looks left there is_live f =
    omega (
      arith,
      total-at (live (in_lists f)) vs id v there,
      total-set (live (in_lists f)) vs id v (moved own read looks left v) there,
      live-is (in_lists f) v is_live,
      live-is (in_lists f) (moved own read looks left v) is_live,
    )

-- a pass's own list changes as the core allows
pub moves : (len : ℕ) (words after : List ℕ) (vs : List View) (id : ℕ) (v : View) (k : IsKept len words vs) → get_elem? vs id ≡ some v → v.spent ≡ false
    → (own : Row) (read looks : ℕ) (left : Bool) (next least : ℕ)
    → after ≡ next ∷ least ∷ [] → least ≤ k.least → least ≤ read → (left ≡ true → (own ≢ []) × IsOver len least (last_position own))
    → ((rest : Sum) → IsSound len k.next k.least (with_row rest v.own) → IsSound len next least (with_row rest own))
    → IsKept len after (set vs id (moved own read looks left v))
moves len words after vs id v k there is_live own read looks left next least is falls low over step =
    let w = moved own read looks left v in
    let P : Sum → Type 0 = IsSound len k.next k.least in
    let Q : Sum → Type 0 = IsSound len next least in
    let f = k.each_fits id v there is_live in
    let from = own_apart vs id v there is_live in
    let to = own_changed vs id v own read looks left there is_live in
    let new : Fits len least w = record {
      it_names_the_length = f.it_names_the_length;
      it_read_no_less = low;
      it_left_at_the_end = over;
      it_joined_what_is_over = (fits_falls len k.least least v falls f).it_joined_what_is_over;
      only_the_keeper_splits_and_joins = f.only_the_keeper_splits_and_joins;
    } in
    record {
      next = next;
      least = least;
      two_words = is;
      length_is_small = k.length_is_small;
      is_sound = subst Q (λ j g. to g j) (step (beside vs v) (subst P (λ j g. from g j) k.is_sound));
      each_fits = λ j u at there_too.
          elim (at_set vs id j w u at) [
            | inl (same, e) ↦ (let F : View → Type 0 = Fits len least in subst F e new)
            | inr (other, old) ↦ fits_falls len k.least least u falls (k.each_fits j u old there_too)
          ];
      one_is_the_keeper = (let one = k.one_is_the_keeper in omega (arith, total-set (live keeper_count) vs id v w there));
      lists_number_the_splits =
          (let lists = k.lists_number_the_splits in
          omega (
            arith,
            total-set (live (in_lists (λ _. 1))) vs id v w there,
            total-set (live (λ u. u.splits)) vs id v w there,
          ));
      splits_are_few =
          (let few = k.splits_are_few in omega (arith, total-set (live (λ u. u.splits)) vs id v w there));
    }

-- what a pass may do by the word that it has read, it may do by a lesser one
pub settle_falls : (len low least : ℕ) (done : Settle) (l : Row) → low ≤ least → MaySettle len least done l → MaySettle len low done l
settle_falls len low least settle.Nothing l h m = m
settle_falls len low least settle.No l h m = m
settle_falls len low least settle.Skipped l h m = (m.0, over_falls len low least _ h m.1)

rises : (len next least : ℕ) (rest : Sum) (l : Row) → IsSound len next least (with_row rest l) → RisesAbove next l
rises len next least rest [] s = inl refl
rises len next least rest (e ∷ es) s = inr (last_below len next least rest e es s)

past-one : (len : ℕ) (l : Row) → past len l ≤ 1
past-one len [] = omega arith
past-one len (e ∷ []) = omega arith
past-one len (e ∷ f ∷ es) = past-one len (f ∷ es)

lists-grow : (f g : Row → ℕ) → ((l : Row) → f l ≤ g l) → (ls : List Row) → total f ls ≤ total g ls
lists-grow f g h [] = omega arith
lists-grow f g h (l ∷ ls) = omega (arith, h l, lists-grow f g h ls)

view-grows : (f g : Row → ℕ) → ((l : Row) → f l ≤ g l) → (v : View) (b : Bool) → v.spent ≡ b → live (in_lists f) v ≤ live (in_lists g) v
view-grows f g h v true e = omega (arith, live-spent (in_lists f) v e)
view-grows f g h v false e =
    omega (arith, live-is (in_lists f) v e, live-is (in_lists g) v e, h v.own, lists-grow f g h v.joined)

views-grow : (f g : Row → ℕ) → ((l : Row) → f l ≤ g l) → (vs : List View) → in_views vs f ≤ in_views vs g
views-grow f g h [] = omega arith
views-grow f g h (v ∷ vs) = omega (arith, view-grows f g h v v.spent refl, views-grow f g h vs)

-- the next claim fits its word
next_fits : (len : ℕ) (words : List ℕ) (vs : List View) (k : IsKept len words vs) → k.next + 1 < 2 ^ 64
next_fits len words vs k =
    let small = k.length_is_small in
    let bound = k.is_sound.next_is_bounded in
    let lists = k.lists_number_the_splits in
    let few = k.splits_are_few in
    omega (arith, views-grow (past len) (λ _. 1) (past-one len) vs)

first_word : (ws : List ℕ) (a b x y : ℕ) → ws ≡ a ∷ b ∷ [] → x ≡ y → set ws 0 x ≡ y ∷ b ∷ []
first_word ws a b x y h e = ap (λ (us : List ℕ). set us 0 x) h ∙ ap (λ (z : ℕ). z ∷ b ∷ []) e

second_word : (ws : List ℕ) (a b x y : ℕ) → ws ≡ a ∷ b ∷ [] → x ≡ y → set ws 1 x ≡ a ∷ y ∷ []
second_word ws a b x y h e = ap (λ (us : List ℕ). set us 1 x) h ∙ ap (λ (z : ℕ). a ∷ z ∷ []) e

pub may_claim : (len slots id : ℕ) (me : Me ℕ View) (done : Settle) → me.0.spent ≡ false → me.0.left ≡ false → MayClaim len me.0.read done me.0.own
    → Allows (Kept len) slots id me 0 (λ n. (n + 1) % 2 ^ 64)
    (λ n after. (after.0 ≡ with_own (claimed n done me.0.own) me.0) × (after.1 ≡ me.1) × RisesAbove n me.0.own)
may_claim len slots id me done is_live here may s k homes there small =
    let v = me.0 in
    let f = k.each_fits id v there is_live in
    let n = get_or s.words 0 0 in
    let is : n ≡ k.next = ap (λ (ws : List ℕ). get_or ws 0 0) k.two_words in
    let fits = next_fits len s.words s.views k in
    let low : k.least ≤ v.read = f.it_read_no_less in
    let may_now : MayClaim len k.least done v.own = (settle_falls len k.least v.read done v.own low may.0, may.1) in
    let sound : (rest : Sum) → IsSound len k.next k.least (with_row rest v.own) → IsSound len (k.next + 1) k.least (with_row rest (claimed n done v.own)) =
    λ rest q. (let P : ℕ → Type 0 = λ m. IsSound len (k.next + 1) k.least (with_row rest (claimed m done v.own)) in
    subst P (sym is) (claims len k.next k.least rest v.own done may_now q)) in
    let up : RisesAbove n v.own =
    (let P : Sum → Type 0 = IsSound len k.next k.least in
    let from = own_apart s.views id v there is_live in
    let Q : ℕ → Type 0 = λ m. RisesAbove m v.own in
    subst Q (sym is) (rises len k.next k.least (beside s.views v) v.own (subst P (λ j g. from g j) k.is_sound))) in (
      with_own (claimed n done v.own) v,
      stays,
      tt,
      moves len s.words _ s.views id v k there is_live (claimed n done v.own) v.read v.looks v.left (k.next + 1) k.least
          (first_word s.words k.next k.least _ _ k.two_words (omega arith)) (omega arith) low (λ gone. cc) sound,
      (refl, refl, up),
    )

pub may_look : (len slots id : ℕ) (me : Me ℕ View) → me.0.spent ≡ false
    → Allows (Kept len) slots id me 1 (λ n. n) (λ n after. (after.0 ≡ looked n me.0) × (after.1 ≡ me.1) × (n ≤ me.0.read))
may_look len slots id me is_live s k homes there small =
    let v = me.0 in
    let f = k.each_fits id v there is_live in
    let n = get_or s.words 1 0 in
    let is : n ≡ k.least = ap (λ (ws : List ℕ). get_or ws 1 0) k.two_words in
    let low : k.least ≤ v.read = f.it_read_no_less in (
      looked n v,
      stays,
      tt,
      moves len s.words _ s.views id v k there is_live v.own n (v.looks + 1) v.left k.next k.least
          (second_word s.words k.next k.least _ _ k.two_words is) (omega arith) (omega arith) f.it_left_at_the_end (λ rest q. q),
      (refl, refl, omega arith),
    )

kind_of-word : (p : ℕ) (k : HitKind) → kind_of (word p k % 4) ≡ k
kind_of-word p Yes = (let e : word p Yes % 4 ≡ 0 = omega arith in ap kind_of e)
kind_of-word p Failed = (let e : word p Failed % 4 ≡ 1 = omega arith in ap kind_of e)
kind_of-word p Starved = (let e : word p Starved % 4 ≡ 2 = omega arith in ap kind_of e)

-- the word of a hit holds its kind
pub hit_list-word : (p : ℕ) (k : HitKind) (l : Row) → hit_list (word p k) l ≡ with_last (Hit k) l
hit_list-word p k l = ap (λ (j : HitKind). with_last (Hit j) l) (kind_of-word p k)

with_last-some : (m : Mark) (l : Row) → l ≢ [] → with_last m l ≢ []
with_last-some m [] h = h
with_last-some m (e ∷ []) h = λ (q : with_last m (e ∷ []) ≡ []). cc
with_last-some m (e ∷ f ∷ es) h = λ (q : with_last m (e ∷ f ∷ es) ≡ []). cc

pub settled-some : (done : Settle) (l : Row) → l ≢ [] → settled done l ≢ []
settled-some settle.Nothing l h = h
settled-some settle.No l h = with_last-some No l h
settled-some settle.Skipped l h = with_last-some Skipped l h

pub last_position-settled : MarksMoveNothing → (done : Settle) (l : Row) → last_position (settled done l) ≡ last_position l
last_position-settled law settle.Nothing l = refl
last_position-settled law settle.No l = law No l
last_position-settled law settle.Skipped l = law Skipped l

pub may_hit : MarksMoveNothing → (len slots id : ℕ) (me : Me ℕ View) (k : HitKind) (w : ℕ) → me.0.spent ≡ false → MayHit len me.0.own → w ≡ word (last_position me.0.own) k
    → Allows (Kept len) slots id me 1 (λ n. min n w)
    (λ n after. (after.0 ≡ struck (min n w) (hit_list w me.0.own) me.0) × (after.1 ≡ me.1) × (n ≤ me.0.read))
may_hit law len slots id me kind w is_live may e s k homes there small =
    let v = me.0 in
    let f = k.each_fits id v there is_live in
    let n = get_or s.words 1 0 in
    let is : n ≡ k.least = ap (λ (ws : List ℕ). get_or ws 1 0) k.two_words in
    let low : k.least ≤ v.read = f.it_read_no_less in
    let new = hit_list w v.own in
    let same : new ≡ with_last (Hit kind) v.own = ap (λ (x : ℕ). hit_list x v.own) e ∙ hit_list-word (last_position v.own) kind v.own in
    let after : ℕ = lowered k.least kind v.own in
    let sound : (rest : Sum) → IsSound len k.next k.least (with_row rest v.own) → IsSound len k.next after (with_row rest new) =
    λ rest q. (let P : Row → Type 0 = λ l. IsSound len k.next after (with_row rest l) in
    subst P (sym same) (hits len k.next k.least rest v.own kind may q)) in
    let over : v.left ≡ true → (new ≢ []) × IsOver len after (last_position new) =
    λ gone. (let g = f.it_left_at_the_end gone in
    let P : Row → Type 0 = λ l. (l ≢ []) × IsOver len after (last_position l) in
    let Q : ℕ → Type 0 = λ p. IsOver len after p in
    subst P (sym same) (
      with_last-some (Hit kind) v.own g.0,
      subst Q (sym (law (Hit kind) v.own)) (over_falls len after k.least _ (omega arith) g.1),
    )) in (
      struck (min n w) new v,
      stays,
      tt,
      moves len s.words _ s.views id v k there is_live new (min n w) v.looks v.left k.next after
          (second_word s.words k.next k.least _ _ k.two_words (omega arith)) (omega arith) (omega arith) over sound,
      (refl, refl, omega arith),
    )

pub may_leave : MarksMoveNothing → (len slots id : ℕ) (me : Me ℕ View) (done : Settle) → me.0.spent ≡ false → MayLeave len me.0.read done me.0.own
    → Allows (Kept len) slots id me 1 (λ n. n) (λ n after. (after.0 ≡ gone (settled done me.0.own) me.0) × (after.1 ≡ me.1))
may_leave law len slots id me done is_live may s k homes there small =
    let v = me.0 in
    let f = k.each_fits id v there is_live in
    let n = get_or s.words 1 0 in
    let is : n ≡ k.least = ap (λ (ws : List ℕ). get_or ws 1 0) k.two_words in
    let low : k.least ≤ v.read = f.it_read_no_less in
    let may_now : MaySettle len k.least done v.own = settle_falls len k.least v.read done v.own low may.0 in
    let Q : ℕ → Type 0 = λ p. IsOver len k.least p in
    let over : (settled done v.own ≢ []) × IsOver len k.least (last_position (settled done v.own)) =
    (settled-some done v.own may.1, subst Q (sym (last_position-settled law done v.own)) (over_falls len k.least v.read _ low may.2)) in (
      gone (settled done v.own) v,
      stays,
      tt,
      moves len s.words _ s.views id v k there is_live (settled done v.own) v.read v.looks true k.next k.least
          (second_word s.words k.next k.least _ _ k.two_words is) (omega arith) low (λ _. over)
          (λ rest q. settles len k.next k.least rest v.own done may_now q),
      (refl, refl),
    )

pub last_position-hit : MarksMoveNothing → (w : ℕ) (l : Row) → last_position (hit_list w l) ≡ last_position l
last_position-hit law w l = law (Hit (kind_of (w % 4))) l

-- the last entry of a list after a claim is the claimed position, open
pub claimed-last : ANewEntryIsLast → (n : ℕ) (done : Settle) (l : Row) → IsLast (claimed n done l) (record { position = n; mark = Open })
claimed-last law n done l = law (settled done l) (record { position = n; mark = Open })
