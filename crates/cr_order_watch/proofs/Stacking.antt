-- The nodes that are open, and their levels.
use Rattle.std.proofs.Common.{◌≡◌, refl, sym, ◌∙◌, ap, subst, arith, inl, inr, length-append}
use Rattle.std.specs.Prelude.{ℕ, ◌-◌, ◌<◌, ◌≤◌, ◌⊎◌, min, nat_lt, Bool, true, false, ◌||◌, Option, Some, None, List, [], ◌∷◌, ◌++◌, length, slice_get}
use Rattle.std.proofs.lemmas.Bool.{true≢false, cases_Bool, ltb-true, ltb-false}
use Rattle.cr_meaning.specs.World.{Program}
use Rattle.cr_meaning_seen.specs.Seen.{Forest, bare, node as tree, onto, here, within as deeper}
use Rattle.cr_meaning_orders.specs.Fixed.{IsFixedNode, IsFixed}
use Rattle.cr_meaning_loose.specs.Lists.{Lists, operands_at, operands_by, count_of, IsListFine, AreListsFine}
use Rattle.cr_meaning_loose.specs.Loose.{IsFixedAt, IsFirstLoose, in_list, Judged}
use Rattle.cr_meaning_loose.specs.Levels.{Level, bottom_of, closed_with, closed, AreAllFixed}
use Rattle.cr_meaning_loose.proofs.Adding.{behind_fixed, was_fixed, cut_is_loose}
use Rattle.cr_meaning_loose.proofs.Operands.{to_at, from_at, two_by}
use Rattle.cr_meaning_loose.proofs.Listing.{all_fine}
use Rattle.cr_meaning_loose.proofs.Judging.{bare_is_fixed, node_is_fixed, onto_is_fixed, loose_here, loose_above}
use Rattle.cr_order_watch.specs.Known.{is_asked, IsOpen, HasPieces, AreOpen, whole, within, IsBehind, IsCutBy, by_list, by_operand, by_itself, by_none}
use Rattle.cr_order_watch.specs.declared.opened.Open.{Open}

-- a node that ends
module _ (p : Program) (kept : Open) (level : Level) (below : List Level) (h : IsOpen p kept level below) where
  pub ends_fixed : kept.fixed ≡ true → IsFixedAt p level.number level.done
  ends_fixed e = let F : ℕ → Type 0 = λ n. IsFixedNode p n level.done in to_at p level.number level.done (subst F h.operands (h.fixed e))

  pub ends_loose : kept.fixed ≡ false → IsFixedAt p level.number level.done → ⊥
  ends_loose e at = let F : ℕ → Type 0 = λ n. IsFixedNode p n level.done in h.loose e (subst F (sym h.operands) (from_at p level.number level.done at))

  -- one that is cut off around what was cut off before
  pub cut_fixed : (number : ℕ) (inner : Forest) → kept.fixed ≡ true → kept.operands ≤ kept.ended → IsFixedAt p level.number (onto level.done (tree number inner None bare))
  cut_fixed number inner e full =
      let a = h.ended in
      let F : ℕ → Type 0 = λ n. IsFixedNode p n (onto level.done (tree number inner None bare)) in
      to_at p level.number (onto level.done (tree number inner None bare)) (subst F h.operands (behind_fixed p kept.operands level.done number inner None (omega (arith, a, full)) (h.fixed e)))

  pub cut_loose : (number : ℕ) (inner : Forest) → kept.fixed ≡ false → IsFixedAt p level.number (onto level.done (tree number inner None bare)) → ⊥
  cut_loose number inner e at =
      let F : ℕ → Type 0 = λ n. IsFixedNode p n (onto level.done (tree number inner None bare)) in
      h.loose e (was_fixed p kept.operands level.done number inner None (subst F (sym h.operands) (from_at p level.number (onto level.done (tree number inner None bare)) at)))

  pub cut_within : (number : ℕ) (inner : Forest) → kept.ended < kept.operands → IsFixedAt p level.number (onto level.done (tree number inner None bare)) → ⊥
  cut_within number inner room at =
      let a = h.ended in
      let F : ℕ → Type 0 = λ n. IsFixedNode p n (onto level.done (tree number inner None bare)) in
      cut_is_loose p kept.operands level.done number inner (omega (arith, a, room)) two (subst F (sym h.operands) (from_at p level.number (onto level.done (tree number inner None bare)) at))
    where
      two : 2 ≤ kept.operands
      two = let o = h.operands in let some : 0 < operands_by (slice_get p.ops level.number) = omega (arith, room, o) in let t = two_by (slice_get p.ops level.number) some in omega (arith, o, t)

-- ---- the last one

snoc_same : {A : Type 0} (xs ys : List A) (x y : A) → xs ++ x ∷ [] ≡ ys ++ y ∷ [] → (xs ≡ ys) × (x ≡ y)
snoc_same [] [] x y e = (refl, cc)
snoc_same [] (b ∷ ys) x y e = absurd (omega (arith, ap length e, length-append ys (y ∷ [])))
snoc_same (a ∷ xs) [] x y e = absurd (omega (arith, ap length e, length-append xs (x ∷ [])))
snoc_same (a ∷ xs) (b ∷ ys) x y e =
    let tails : xs ++ x ∷ [] ≡ ys ++ y ∷ [] = cc in
    let heads : a ≡ b = cc in
    let i = snoc_same xs ys x y tails in
    (ap (λ z. z ∷ xs) heads ∙ ap (λ l. b ∷ l) i.0, i.1)

pub record Popped (p : Program) (lists : Lists) (rest : List Open) (kept : Open) (levels : List Level) : Type 0 where
  pub level : Level
  pub below : List Level
  pub same : levels ≡ level ∷ below
  pub others : AreOpen p lists rest below
  pub this : IsOpen p kept level below
  pub pieces : HasPieces p lists kept level

pub popped : (p : Program) (lists : Lists) (all rest : List Open) (kept : Open) (levels : List Level) → AreOpen p lists all levels → all ≡ rest ++ kept ∷ [] → Popped p lists rest kept levels
popped p lists all rest kept _ (whole e root) is = absurd (omega (arith, ap length (sym e ∙ is), length-append rest (kept ∷ [])))
popped p lists all rest kept _ (within {below = b} {kept = k} {level = level} {levels = levels} others this pieces e) is =
    let i = snoc_same b rest k kept (sym e ∙ is) in
    let F : List Open → Type 0 = λ l. AreOpen p lists l levels in
    let G : Open → Type 0 = λ k. IsOpen p k level levels in
    let H : Open → Type 0 = λ k. HasPieces p lists k level in
    record { level = level; below = levels; same = refl; others = subst F i.0 others; this = subst G i.1 this; pieces = subst H i.1 pieces }

pub only_whole : (p : Program) (lists : Lists) (all : List Open) (levels : List Level) → AreOpen p lists all levels → all ≡ [] → (level : Level) × (levels ≡ level ∷ [])
only_whole p lists all _ (whole {level = level} e root) is = (level, refl)
only_whole p lists all _ (within {below = b} {kept = k} others this pieces e) is = absurd (omega (arith, ap length (sym e ∙ is), length-append b (k ∷ [])))

-- ---- what begins within

last_got : {A : Type 0} (xs : List A) (x : A) → slice_get (xs ++ x ∷ []) (length xs) ≡ Some x
last_got [] x = refl
last_got (a ∷ xs) x = last_got xs x

asked_by : (count operands ended : ℕ) → ended ≡ min count operands → (b : Bool) → (b ≡ true → ended < operands) → (ended < operands → b ≡ true) → b ≡ nat_lt count operands
asked_by count operands ended e b one two = by (nat_lt count operands) refl (cases_Bool b)
  where
    by : (t : Bool) → nat_lt count operands ≡ t → (b ≡ true) ⊎ (b ≡ false) → b ≡ nat_lt count operands
    by true t (inl h) = h ∙ sym t
    by true t (inr h) = let n = ltb-true count operands t in absurd (true≢false (sym (two (omega (arith, e, n))) ∙ h))
    by false t (inl h) = let n = ltb-false count operands t in let m = one h in absurd (omega (arith, e, n, m))
    by false t (inr h) = h ∙ sym t

pub asked_so : (p : Program) (lists : Lists) (nodes : List Open) (levels : List Level) (top : Open) → AreOpen p lists nodes levels → slice_get nodes (length nodes - 1) ≡ Some top → (top.asked || nat_lt top.ended top.operands) ≡ is_asked p levels
asked_so p lists nodes _ top (whole e root) is =
    let F : List Open → Type 0 = λ l. slice_get l (length nodes - 1) ≡ Some top in
    let bad : slice_get [] (length nodes - 1) ≡ Some top = subst F e is in absurd cc
asked_so p lists nodes _ top (within {below = b} {kept = k} {level = level} {levels = levels} others this pieces e) is =
    let last : length nodes - 1 ≡ length b = omega (arith, ap length e, length-append b (k ∷ [])) in
    let F : List Open → Type 0 = λ l. slice_get l (length nodes - 1) ≡ Some top in
    let G : ℕ → Type 0 = λ n. slice_get (b ++ k ∷ []) n ≡ Some top in
    let found : slice_get (b ++ k ∷ []) (length b) ≡ Some top = subst G last (subst F e is) in
    let both : Some k ≡ Some top = sym (last_got b k) ∙ found in
    let same : k ≡ top = cc in
    let H : Open → Type 0 = λ o. (o.asked || nat_lt o.ended o.operands) ≡ is_asked p (level ∷ levels) in
    subst H same (here k level levels this)
  where
    here : (k : Open) (level : Level) (levels : List Level) → IsOpen p k level levels → (k.asked || nat_lt k.ended k.operands) ≡ is_asked p (level ∷ levels)
    here k level levels this =
        ap (λ b. b || nat_lt k.ended k.operands) this.asked
        ∙ ap (λ b. is_asked p levels || b) (asked_by (count_of level.done) k.operands k.ended this.ended (nat_lt k.ended k.operands) (λ t. ltb-true k.ended k.operands t) (λ l. yes l))
        ∙ ap (λ n. is_asked p levels || nat_lt (count_of level.done) n) this.operands
      where
        yes : k.ended < k.operands → nat_lt k.ended k.operands ≡ true
        yes l = by (cases_Bool (nat_lt k.ended k.operands))
          where
            by : (nat_lt k.ended k.operands ≡ true) ⊎ (nat_lt k.ended k.operands ≡ false) → nat_lt k.ended k.operands ≡ true
            by (inl t) = t
            by (inr f) = let n = ltb-false k.ended k.operands f in absurd (omega (arith, n, l))

pub asked_none : (p : Program) (lists : Lists) (nodes : List Open) (levels : List Level) → AreOpen p lists nodes levels → None ≡ slice_get nodes (length nodes - 1) → false ≡ is_asked p levels
asked_none p lists nodes _ (whole {level = level} e root) is = sym (never (nat_lt (count_of level.done) (operands_at p level.number)) refl)
  where
    never : (b : Bool) → nat_lt (count_of level.done) (operands_at p level.number) ≡ b → nat_lt (count_of level.done) (operands_at p level.number) ≡ false
    never false t = t
    never true t = let n = ltb-true (count_of level.done) (operands_at p level.number) t in absurd (omega (arith, n, root))
asked_none p lists nodes _ (within {below = b} {kept = k} others this pieces e) is =
    let last : length nodes - 1 ≡ length b = omega (arith, ap length e, length-append b (k ∷ [])) in
    let F : List Open → Type 0 = λ l. None ≡ slice_get l (length nodes - 1) in
    let G : ℕ → Type 0 = λ n. None ≡ slice_get (b ++ k ∷ []) n in
    let bad : None ≡ Some k = subst G last (subst F e is) ∙ last_got b k in absurd cc

-- ---- the run ends now

abbrev pub IsAbove : Option ℕ → Forest → Type 0
IsAbove None cut = cut ≡ bare
IsAbove (Some number) cut = (inner : Forest) × (cut ≡ tree number inner None bare)

-- how far the open nodes have been gone through
pub record Cutting (p : Program) (lists : Lists) (start : List Level) (nodes : List Open) (above : Option ℕ) : Type 0 where
  pub levels : List Level
  pub cut : Forest
  pub others : AreOpen p lists nodes levels
  pub all : AreAllFixed p lists levels
  pub fixed : IsFixed p cut
  pub is_above : IsAbove above cut
  pub same : closed_with cut levels ≡ closed start
  pub bottom : bottom_of levels ≡ bottom_of start

pub cutting_starts : (p : Program) (lists : Lists) (start : List Level) (nodes : List Open) → AreAllFixed p lists start → AreOpen p lists nodes start → Cutting p lists start nodes None
cutting_starts p lists start nodes all others =
    record { levels = start; cut = bare; others = others; all = all; fixed = bare_is_fixed p; is_above = refl; same = refl; bottom = refl }

bare_right : (f : Forest) → onto f bare ≡ f
bare_right bare = refl
bare_right (tree m f x next) = ap (λ g. tree m f x g) (bare_right next)

at_above : (p : Program) (kept : Open) (level : Level) (below : List Level) (above : Option ℕ) (cut : Forest) → IsOpen p kept level below → IsAbove above cut → kept.fixed ≡ true → IsBehind kept above
    → IsFixedAt p level.number (onto level.done cut)
at_above p kept level below None cut h is e full = let F : Forest → Type 0 = λ f. IsFixedAt p level.number f in subst F (sym (ap (onto level.done) is ∙ bare_right level.done)) (ends_fixed p kept level below h e)
at_above p kept level below (Some number) cut h is e full = let F : Forest → Type 0 = λ f. IsFixedAt p level.number (onto level.done f) in subst F (sym is.1) (cut_fixed p kept level below h number is.0 e full)

not_above : (p : Program) (kept : Open) (level : Level) (below : List Level) (above : Option ℕ) (cut : Forest) → IsOpen p kept level below → IsAbove above cut → kept.fixed ≡ false
    → IsFixedAt p level.number (onto level.done cut) → ⊥
not_above p kept level below None cut h is e at = let F : Forest → Type 0 = λ f. IsFixedAt p level.number f in ends_loose p kept level below h e (subst F (ap (onto level.done) is ∙ bare_right level.done) at)
not_above p kept level below (Some number) cut h is e at = let F : Forest → Type 0 = λ f. IsFixedAt p level.number (onto level.done f) in cut_loose p kept level below h number is.0 e (subst F is.1 at)

-- lists around what is cut off behind the operands
behind_fine : (p : Program) (lists : Lists) (kept : Open) (level : Level) (below : List Level) (above : Option ℕ) (cut : Forest) → IsOpen p kept level below → IsAbove above cut → IsBehind kept above
    → AreListsFine p lists level.number level.done cut
behind_fine p lists kept level below None cut h is full = let F : Forest → Type 0 = λ f. AreListsFine p lists level.number level.done f in subst F (sym is) tt
behind_fine p lists kept level below (Some number) cut h is full =
    let F : Forest → Type 0 = λ f. AreListsFine p lists level.number level.done f in
    let o = h.operands in let a = h.ended in
    subst F (sym is.1) (all_fine (IsListFine p lists level.number level.done (tree number is.0 None bare) true) (λ list room. absurd (omega (arith, o, a, room, full))) (lists number), tt)

-- there is the whole program below a node that is open
pub has_below : (p : Program) (lists : Lists) (nodes : List Open) (levels : List Level) → AreOpen p lists nodes levels → (next : Level) × ((rest : List Level) × (levels ≡ next ∷ rest))
has_below p lists nodes _ (whole {level = level} e root) = (level, ([], refl))
has_below p lists nodes _ (within {level = level} {levels = levels} others this pieces e) = (level, (levels, refl))

module _ (p : Program) (lists : Lists) (start : List Level) (nodes rest : List Open) (kept : Open) (above : Option ℕ) (c : Cutting p lists start nodes above) (is : nodes ≡ rest ++ kept ∷ []) where
  it : Popped p lists rest kept c.levels
  it = popped p lists nodes rest kept c.levels c.others is

  all_there : AreAllFixed p lists (it.level ∷ it.below)
  all_there = let F : List Level → Type 0 = λ l. AreAllFixed p lists l in subst F it.same c.all

  pub cutting_goes : (number : ℕ) → number ≡ kept.node → kept.fixed ≡ true → IsBehind kept above → Cutting p lists start rest (Some number)
  cutting_goes number named e full =
      let b = has_below p lists rest it.below it.others in
      let F : ℕ → Type 0 = λ n. IsAbove (Some n) (tree it.level.number (onto it.level.done c.cut) None bare) in
      record {
        levels = it.below;
        cut = tree it.level.number (onto it.level.done c.cut) None bare;
        others = it.others;
        all = all_there.1;
        fixed = node_is_fixed p it.level.number (onto it.level.done c.cut) bare None (onto_is_fixed p it.level.done c.cut all_there.0.0 c.fixed) (at_above p kept it.level it.below above c.cut it.this c.is_above e full) (bare_is_fixed p);
        is_above = subst F (sym it.this.node ∙ sym named) (onto it.level.done c.cut, refl);
        same =
            ap (λ l. closed_with (tree it.level.number (onto it.level.done c.cut) None bare) l) b.1.1
            ∙ ap (λ l. closed_with c.cut (it.level ∷ l)) (sym b.1.1)
            ∙ ap (λ l. closed_with c.cut l) (sym it.same)
            ∙ c.same;
        bottom = ap bottom_of b.1.1 ∙ ap (λ l. bottom_of (it.level ∷ l)) (sym b.1.1) ∙ ap bottom_of (sym it.same) ∙ c.bottom;
      }

  -- what is found there is found of the whole
  whole_finds : (found : ℕ) → ((below : Level) (others : List Level) → it.below ≡ below ∷ others → AreAllFixed p lists (it.level ∷ below ∷ others)
      → IsFirstLoose p lists found (bottom_of (it.level ∷ below ∷ others)) bare (closed_with c.cut (it.level ∷ below ∷ others))) → IsFirstLoose p lists found (bottom_of start) bare (closed start)
  whole_finds found f =
      let b = has_below p lists rest it.below it.others in
      let two : c.levels ≡ it.level ∷ b.0 ∷ b.1.0 = it.same ∙ ap (λ l. it.level ∷ l) b.1.1 in
      let F : List Level → Type 0 = λ l. AreAllFixed p lists l in
      let G : List Level → Type 0 = λ l. IsFirstLoose p lists found (bottom_of l) bare (closed_with c.cut l) in
      let H : ℕ → Type 0 = λ n. IsFirstLoose p lists found n bare (closed_with c.cut c.levels) in
      let K : Forest → Type 0 = λ g. IsFirstLoose p lists found (bottom_of start) bare g in
      subst K c.same (subst H c.bottom (subst G (sym two) (f b.0 b.1.0 b.1.1 (subst F two c.all))))

  named_so : (found : ℕ) → found ≡ kept.node → IsFirstLoose p lists it.level.number (bottom_of start) bare (closed start) → IsFirstLoose p lists found (bottom_of start) bare (closed start)
  named_so found e h = let F : ℕ → Type 0 = λ n. IsFirstLoose p lists n (bottom_of start) bare (closed start) in subst F (sym (e ∙ it.this.node)) h

  finds_node : AreListsFine p lists it.level.number it.level.done c.cut → (IsFixedAt p it.level.number (onto it.level.done c.cut) → ⊥) → IsFirstLoose p lists it.level.number (bottom_of start) bare (closed start)
  finds_node fine not_so = whole_finds it.level.number (λ below others same all. loose_here p lists c.cut it.level below others c.fixed fine all not_so)

pub cutting_finds : (p : Program) (lists : Lists) (start : List Level) (nodes rest : List Open) (kept : Open) (above : Option ℕ) (found : ℕ) → (c : Cutting p lists start nodes above) → (is : nodes ≡ rest ++ kept ∷ [])
    → ((level : Level) (below : List Level) → IsOpen p kept level below → HasPieces p lists kept level → IsCutBy p lists kept level above (Some found)) → IsFirstLoose p lists found (bottom_of start) bare (closed start)
cutting_finds p lists start nodes rest kept above found c is f = by above c is (f (it p lists start nodes rest kept above c is).level (it p lists start nodes rest kept above c is).below (it p lists start nodes rest kept above c is).this (it p lists start nodes rest kept above c is).pieces)
  where
    by : (inside : Option ℕ) (c : Cutting p lists start nodes inside) (is : nodes ≡ rest ++ kept ∷ []) → IsCutBy p lists kept (it p lists start nodes rest kept inside c is).level inside (Some found)
        → IsFirstLoose p lists found (bottom_of start) bare (closed start)
    by (Some number) c is (by_list room first) =
        let i = it p lists start nodes rest kept (Some number) c is in
        let F : Forest → Type 0 = λ g. IsFirstLoose p lists found i.level.number i.level.done g in
        let G : Forest → Type 0 = λ g. IsFixed p g in
        let fixed : IsFixed p (tree number c.is_above.0 None bare) = subst G c.is_above.1 c.fixed in
        whole_finds p lists start nodes rest kept (Some number) c is found
        (λ below others same all. loose_above p lists found c.cut i.level (below ∷ others) all
        (subst F (sym c.is_above.1) (in_list (λ n f e o. fixed n f e (deeper o)) (fixed number c.is_above.0 None here) (first c.is_above.0))))
    by (Some number) c is (by_operand named room fine) =
        let i = it p lists start nodes rest kept (Some number) c is in
        let F : Forest → Type 0 = λ g. AreListsFine p lists i.level.number i.level.done g in
        let G : Forest → Type 0 = λ g. IsFixedAt p i.level.number (onto i.level.done g) → ⊥ in
        named_so p lists start nodes rest kept (Some number) c is found named
        (finds_node p lists start nodes rest kept (Some number) c is (subst F (sym c.is_above.1) (fine c.is_above.0, tt))
        (subst G (sym c.is_above.1) (cut_within p kept i.level i.below i.this number c.is_above.0 room)))
    by inside c is (by_itself named e full) =
        let i = it p lists start nodes rest kept inside c is in
        named_so p lists start nodes rest kept inside c is found named
        (finds_node p lists start nodes rest kept inside c is (behind_fine p lists kept i.level i.below inside c.cut i.this c.is_above full) (not_above p kept i.level i.below inside c.cut i.this c.is_above e))

pub cutting_on : (p : Program) (lists : Lists) (start : List Level) (nodes rest : List Open) (kept : Open) (above : Option ℕ) (number : ℕ) → (c : Cutting p lists start nodes above) → (is : nodes ≡ rest ++ kept ∷ []) → number ≡ kept.node
    → ((level : Level) (below : List Level) → IsOpen p kept level below → HasPieces p lists kept level → IsCutBy p lists kept level above None) → Cutting p lists start rest (Some number)
cutting_on p lists start nodes rest kept above number c is named f = by above c is (f (it p lists start nodes rest kept above c is).level (it p lists start nodes rest kept above c is).below (it p lists start nodes rest kept above c is).this (it p lists start nodes rest kept above c is).pieces)
  where
    by : (inside : Option ℕ) (c : Cutting p lists start nodes inside) (is : nodes ≡ rest ++ kept ∷ []) → IsCutBy p lists kept (it p lists start nodes rest kept inside c is).level inside None → Cutting p lists start rest (Some number)
    by inside c is (by_none e full) = cutting_goes p lists start nodes rest kept inside c is number named e full

pub cutting_ends : (p : Program) (lists : Lists) (start : List Level) (nodes : List Open) (above : Option ℕ) → Cutting p lists start nodes above → nodes ≡ [] → Judged p lists (closed start) None
cutting_ends p lists start nodes above c is =
    let i = only_whole p lists nodes c.levels c.others is in
    let F : List Level → Type 0 = λ l. AreAllFixed p lists l in
    let G : Forest → Type 0 = λ f. IsFixed p f in
    let all : AreAllFixed p lists (i.0 ∷ []) = subst F i.1 c.all in
    subst G (ap (λ l. closed_with c.cut l) (sym i.1) ∙ c.same) (onto_is_fixed p i.0.done c.cut all.0.0 c.fixed)
