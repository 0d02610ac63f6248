-- The rule, read as a state of the core.
use Rattle.std.proofs.Common.{◌≡◌, ℕ, ◌+◌, ◌<◌, ◌≤◌, Bool, true, false, if◌then◌else◌, List, [], ◌∷◌, ◌++◌, length, get_or, set, refl, sym, ap, subst, ◌∙◌, arith, length-append}
use Prim.Native.Nat.{zero, suc}
use mathlib.Core.Option.{some, some-injective, some-ne-none}
use lib.ListN.{get_elem?}
use Rattle.cr_core.specs.declared.marks.Mark.TheVariants.{Open, Hit}
use Rattle.cr_core.specs.Row.{Row, last_mark, with_last}
use Rattle.cr_core.specs.Sound.{Sum, total, IsSound}
use Rattle.cr_core.specs.State.{IsSoundState}
use Rattle.cr_core.specs.Machine.{MayClaim, MayHit, MayLeave, claimed, settled, lowered}
use Rattle.cr_core.proofs.Steps.{over_falls}
use Rattle.cr_claims.specs.declared.view.View.{View}
use Rattle.cr_claims.specs.View.{moved}
use Rattle.cr_claims.specs.Rule.{live, in_lists, in_views, IsKept}
use Rattle.cr_claims.specs.Laws.{lists_of, all_lists, place_of, core_of, StepsAreEvents}
use Rattle.cr_claims.proofs.Views.{total-append}
use Rattle.cr_claims.proofs.Steps.{settle_falls}

total-lists_of : (f : Row → ℕ) (v : View) → live (in_lists f) v ≡ total f (lists_of v)
total-lists_of f v = go v.spent
  where
    go : (b : Bool) → (if b then 0 else in_lists f v) ≡ total f (if b then [] else (v.own ∷ v.joined))
    go true = refl
    go false = refl

total-all_lists : (f : Row → ℕ) (vs : List View) → in_views vs f ≡ total f (all_lists vs)
total-all_lists f [] = refl
total-all_lists f (v ∷ vs) =
    omega (arith, total-append f (lists_of v) (all_lists vs), total-lists_of f v, total-all_lists f vs)

pub a_core : (len : ℕ) (words : List ℕ) (views : List View) → IsKept len words views
    → (next : ℕ) × (least : ℕ) × (words ≡ next ∷ least ∷ []) × IsSoundState (core_of len next least views)
a_core len words views k =
    let P : Sum → Type 0 = IsSound len k.next k.least in
    (k.next, k.least, k.two_words, subst P (λ j f. total-all_lists f views j) k.is_sound)

lists_of-live : (v : View) → v.spent ≡ false → lists_of v ≡ v.own ∷ v.joined
lists_of-live v h = ap (λ (b : Bool). if b then [] else (v.own ∷ v.joined)) h

get_or-after : (a b : List Row) (k : ℕ) → get_or (a ++ b) (length a + k) [] ≡ get_or b k []
get_or-after [] b k = (let e : 0 + k ≡ k = omega arith in ap (λ (n : ℕ). get_or b n []) e)
get_or-after (x ∷ a) b k =
    (let e : suc (length a) + k ≡ suc (length a + k) = omega arith in
    ap (λ (n : ℕ). get_or (x ∷ (a ++ b)) n []) e ∙ get_or-after a b k)

set-after : (a b : List Row) (k : ℕ) (l : Row) → set (a ++ b) (length a + k) l ≡ a ++ set b k l
set-after [] b k l = (let e : 0 + k ≡ k = omega arith in ap (λ (n : ℕ). set b n l) e)
set-after (x ∷ a) b k l =
    (let e : suc (length a) + k ≡ suc (length a + k) = omega arith in
    ap (λ (n : ℕ). set (x ∷ (a ++ b)) n l) e ∙ ap (λ (ls : List Row). x ∷ ls) (set-after a b k l))

-- a pass's own list stands at its place
own_there : (vs : List View) (id : ℕ) (v : View) → get_elem? vs id ≡ some v → v.spent ≡ false → get_or (all_lists vs) (place_of vs id) [] ≡ v.own
own_there [] id v h is_live = absurd (some-ne-none v (sym h))
own_there (x ∷ vs) zero v h is_live =
    let is : x ≡ v = some-injective x v h in
    let lists : lists_of x ≡ v.own ∷ v.joined = ap lists_of is ∙ lists_of-live v is_live in
    ap (λ (ls : List Row). get_or (ls ++ all_lists vs) 0 []) lists
own_there (x ∷ vs) (suc id) v h is_live = get_or-after (lists_of x) (all_lists vs) (place_of vs id) ∙ own_there vs id v h is_live

place_in : (vs : List View) (id : ℕ) (v : View) → get_elem? vs id ≡ some v → v.spent ≡ false → place_of vs id < length (all_lists vs)
place_in [] id v h is_live = absurd (some-ne-none v (sym h))
place_in (x ∷ vs) zero v h is_live =
    let is : x ≡ v = some-injective x v h in
    let lists : lists_of x ≡ v.own ∷ v.joined = ap lists_of is ∙ lists_of-live v is_live in
    omega (arith, length-append (lists_of x) (all_lists vs), ap (λ (ls : List Row). length ls) lists)
place_in (x ∷ vs) (suc id) v h is_live =
    omega (arith, length-append (lists_of x) (all_lists vs), place_in vs id v h is_live)

-- a change of a pass's own list is the same change among all lists
own_set : (vs : List View) (id : ℕ) (v : View) (own : Row) (read looks : ℕ) (left : Bool) → get_elem? vs id ≡ some v → v.spent ≡ false
    → set (all_lists vs) (place_of vs id) own ≡ all_lists (set vs id (moved own read looks left v))
own_set [] id v own read looks left h is_live = absurd (some-ne-none v (sym h))
own_set (x ∷ vs) zero v own read looks left h is_live =
    let is : x ≡ v = some-injective x v h in
    let lists : lists_of x ≡ v.own ∷ v.joined = ap lists_of is ∙ lists_of-live v is_live in
    let new : lists_of (moved own read looks left v) ≡ own ∷ v.joined = lists_of-live (moved own read looks left v) is_live in
    ap (λ (ls : List Row). set (ls ++ all_lists vs) 0 own) lists ∙ sym (ap (λ (ls : List Row). ls ++ all_lists vs) new)
own_set (x ∷ vs) (suc id) v own read looks left h is_live =
    set-after (lists_of x) (all_lists vs) (place_of vs id) own
    ∙ ap (λ (ls : List Row). lists_of x ++ ls) (own_set vs id v own read looks left h is_live)

-- and so with a list that is made of the pass's own
own_becomes : (vs : List View) (id : ℕ) (v : View) (F : Row → Row) (read looks : ℕ) (left : Bool) → get_elem? vs id ≡ some v → v.spent ≡ false
    → set (all_lists vs) (place_of vs id) (F (get_or (all_lists vs) (place_of vs id) [])) ≡ all_lists (set vs id (moved (F v.own) read looks left v))
own_becomes vs id v F read looks left there is_live =
    ap (λ (l : Row). set (all_lists vs) (place_of vs id) (F l)) (own_there vs id v there is_live)
    ∙ own_set vs id v (F v.own) read looks left there is_live

pub steps : (len next least : ℕ) (views : List View) → IsKept len (next ∷ least ∷ []) views
    → (id : ℕ) (v : View) → get_elem? views id ≡ some v → v.spent ≡ false → StepsAreEvents len next least views id v
steps len next least views k id v there is_live =
    let w = place_of views id in
    let is : k.least ≡ least = sym (some-injective least k.least (ap (λ (ws : List ℕ). get_elem? ws 1) k.two_words)) in
    let low : least ≤ v.read = (let q = (k.each_fits id v there is_live).it_read_no_less in omega arith) in
    let own : v.own ≡ get_or (all_lists views) w [] = sym (own_there views id v there is_live) in
    let inside : w < length (all_lists views) = place_in views id v there is_live in
    record {
      claim = λ done may.
          (let may_now : MayClaim len least done v.own = (settle_falls len least v.read done v.own low may.0, may.1) in
          let P : Row → Type 0 = MayClaim len least done in
          let lists = own_becomes views id v (λ l. claimed next done l) v.read v.looks v.left there is_live in
          ((inside, subst P own may_now), λ i. record { len = len; next = next + 1; least = least; lists = lists i }));
      look = λ may.
          (let P : Row → Type 0 = λ l. last_mark l ≡ Open in
          let lists = own_becomes views id v (λ l. l) least (v.looks + 1) v.left there is_live in
          ((inside, subst P own may), λ i. record { len = len; next = next; least = least; lists = lists i }));
      hit = λ kind may.
          (let P : Row → Type 0 = MayHit len in
          let word_after : lowered least kind (get_or (all_lists views) w []) ≡ lowered least kind v.own = ap (lowered least kind) (sym own) in
          let lists = own_becomes views id v (λ l. with_last (Hit kind) l) (lowered least kind v.own) v.looks v.left there is_live in
          ((inside, subst P own may), λ i. record { len = len; next = next; least = word_after i; lists = lists i }));
      leave = λ done may.
          (let may_now : MayLeave len least done v.own =
          (settle_falls len least v.read done v.own low may.0, may.1, over_falls len least v.read _ low may.2) in
          let P : Row → Type 0 = MayLeave len least done in
          let lists = own_becomes views id v (λ l. settled done l) v.read v.looks true there is_live in
          ((inside, subst P own may_now), λ i. record { len = len; next = next; least = least; lists = lists i }));
    }
