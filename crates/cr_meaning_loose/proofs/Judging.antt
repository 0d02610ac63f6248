-- Which evaluation is loose first, among nodes that have begun and not ended.
use Rattle.std.proofs.Common.{◌≡◌, refl, sym, ◌∙◌, ap, subst, inl, inr}
use Rattle.std.specs.Prelude.{ℕ, ◌⊎◌, Bool, Option, Some, None, List, [], ◌∷◌, length, slice_get}
use Rattle.cr_meaning.specs.Events.{Event}
use Rattle.cr_meaning.specs.World.{Program}
use Rattle.cr_meaning.specs.declared.op.Op.{Op}
use Rattle.cr_meaning_seen.specs.Seen.{Forest, bare, node as tree, onto, Occurs, here, within, later}
use Rattle.cr_meaning_orders.specs.Fixed.{IsFixedNode, IsFixed}
use Rattle.cr_meaning_loose.specs.Laws
use Rattle.cr_meaning_loose.specs.Lists.{Lists, is_cut, IsListFine, AreFine, IsFirstNot, AreListsFine}
use Rattle.cr_meaning_loose.specs.Loose.{IsFixedAt, IsFirstLoose, inside, itself, in_list, behind}
use Rattle.cr_meaning_loose.specs.Levels.{Level, bottom_of, closed_with, closed, AreAllFixed, IsFailed}
use Rattle.cr_meaning_loose.proofs.Listing.{fixed_is_fine, root_fine, onto_one}

-- ---- forests

pub bare_is_fixed : (p : Program) → IsFixed p bare
bare_is_fixed p number inner end o = absurd (elim o [ ])

pub node_is_fixed : (p : Program) (number : ℕ) (inner next : Forest) (end : Option (List Event)) → IsFixed p inner → IsFixedAt p number inner → IsFixed p next → IsFixed p (tree number inner end next)
node_is_fixed p number inner next end f at g = by
  where
    by : IsFixed p (tree number inner end next)
    by _ _ _ here = at
    by n i e (within o) = f n i e o
    by n i e (later o) = g n i e o

pub onto_is_fixed : (p : Program) (one more : Forest) → IsFixed p one → IsFixed p more → IsFixed p (onto one more)
onto_is_fixed p bare more f g = g
onto_is_fixed p (tree number inner end next) more f g =
    node_is_fixed p number inner (onto next more) end (λ n i e o. f n i e (within o)) (f number inner end here) (onto_is_fixed p next more (λ n i e o. f n i e (later o)) g)

-- ---- lists

pub not_fine : (fine : ℕ → Type 0) (loose : ℕ) (lists : List ℕ) → IsFirstNot fine loose lists → AreFine fine lists → ⊥
not_fine fine loose [] h all = h
not_fine fine loose (list ∷ lists) (inl h) all = h.0 all.0
not_fine fine loose (list ∷ lists) (inr h) all = not_fine fine loose lists h.1 all.1

first_not : (fine : ℕ → Type 0) (one other : ℕ) (lists : List ℕ) → IsFirstNot fine one lists → IsFirstNot fine other lists → one ≡ other
first_not fine one other [] h k = absurd h
first_not fine one other (list ∷ lists) (inl h) (inl k) = h.1 ∙ sym k.1
first_not fine one other (list ∷ lists) (inl h) (inr k) = absurd (h.0 k.0)
first_not fine one other (list ∷ lists) (inr h) (inl k) = absurd (k.0 h.0)
first_not fine one other (list ∷ lists) (inr h) (inr k) = first_not fine one other lists h.1 k.1

module _ (p : Program) (lists : Lists) where
  abbrev pub FineWith : ℕ → Forest → ℕ → Forest → Option (List Event) → ℕ → Type 0
  FineWith owner done number inner end = IsListFine p lists owner done (tree number inner end bare) (is_cut end)

  bare_right : (forest : Forest) → onto forest bare ≡ forest
  bare_right bare = refl
  bare_right (tree number inner end next) = ap (λ f. tree number inner end f) (bare_right next)

  pub fine_onto : (owner : ℕ) (done one more : Forest) → AreListsFine p lists owner done one → AreListsFine p lists owner (onto done one) more → AreListsFine p lists owner done (onto one more)
  fine_onto owner done bare more h k = let F : Forest → Type 0 = λ f. AreListsFine p lists owner f more in subst F (bare_right done) k
  fine_onto owner done (tree number inner end next) more h k =
      let F : Forest → Type 0 = λ f. AreListsFine p lists owner f more in
      (h.0, fine_onto owner (onto done (tree number inner end bare)) next more h.1 (subst F (sym (onto_one done number inner next end)) k))

  -- ---- which is the first

  -- the first of what comes first, or else of what comes behind
  pub loose_before : (loose owner : ℕ) (done one more : Forest) → IsFirstLoose p lists loose owner done one → IsFirstLoose p lists loose owner done (onto one more)
  loose_before loose owner done bare more h = absurd (elim h [ ])
  loose_before loose owner done (tree number inner end next) more (inside h) = inside h
  loose_before loose owner done (tree _ inner end next) more (itself f fine not_so) = itself f fine not_so
  loose_before loose owner done (tree number inner end next) more (in_list f at h) = in_list f at h
  loose_before loose owner done (tree number inner end next) more (behind f at fine h) = behind f at fine (loose_before loose owner (onto done (tree number inner end bare)) next more h)

  pub loose_behind : (loose owner : ℕ) (done one more : Forest) → IsFixed p one → AreListsFine p lists owner done one → IsFirstLoose p lists loose owner (onto done one) more
      → IsFirstLoose p lists loose owner done (onto one more)
  loose_behind loose owner done bare more f fine h = let F : Forest → Type 0 = λ g. IsFirstLoose p lists loose owner g more in subst F (bare_right done) h
  loose_behind loose owner done (tree number inner end next) more f fine h =
      let F : Forest → Type 0 = λ g. IsFirstLoose p lists loose owner g more in
      behind (λ n i e o. f n i e (within o)) (f number inner end here) fine.0
      (loose_behind loose owner (onto done (tree number inner end bare)) next more (λ n i e o. f n i e (later o)) fine.1 (subst F (sym (onto_one done number inner next end)) h))

  -- where all is fixed none is
  pub none_is_loose : (loose owner : ℕ) (done forest : Forest) → IsFirstLoose p lists loose owner done forest → IsFixed p forest → AreListsFine p lists owner done forest → ⊥
  none_is_loose loose owner done bare h f fine = elim h [ ]
  none_is_loose loose owner done (tree number inner end next) (inside h) f fine =
      none_is_loose loose number bare inner h (λ n i e o. f n i e (within o)) (fixed_is_fine p lists number inner (f number inner end here))
  none_is_loose loose owner done (tree _ inner end next) (itself g also not_so) f fine = not_so (f loose inner end here)
  none_is_loose loose owner done (tree number inner end next) (in_list g at h) f fine = not_fine (FineWith owner done number inner end) loose (lists number) h fine.0
  none_is_loose loose owner done (tree number inner end next) (behind g at also h) f fine =
      none_is_loose loose owner (onto done (tree number inner end bare)) next h (λ n i e o. f n i e (later o)) fine.1

  -- nor within an evaluation that is fixed
  none_within : (loose number : ℕ) (inner : Forest) → IsFirstLoose p lists loose number bare inner → IsFixed p inner → IsFixedAt p number inner → ⊥
  none_within loose number inner h f at = none_is_loose loose number bare inner h f (fixed_is_fine p lists number inner at)

  one_loose : (one other owner : ℕ) (done forest : Forest) → IsFirstLoose p lists one owner done forest → IsFirstLoose p lists other owner done forest → one ≡ other
  one_loose one other owner done bare h k = elim h [ ]
  one_loose one other owner done (tree number inner end next) (inside h) (inside k) = one_loose one other number bare inner h k
  one_loose one other owner done (tree _ inner end next) (inside h) (itself f fine k) = absurd (none_is_loose one other bare inner h f fine)
  one_loose one other owner done (tree number inner end next) (inside h) (in_list f at k) = absurd (none_within one number inner h f at)
  one_loose one other owner done (tree number inner end next) (inside h) (behind f at fine k) = absurd (none_within one number inner h f at)
  one_loose one other owner done (tree _ inner end next) (itself f fine h) (inside k) = absurd (none_is_loose other one bare inner k f fine)
  one_loose one other owner done (tree _ inner end next) (itself f fine h) (itself g also k) = refl
  one_loose one other owner done (tree _ inner end next) (itself f fine h) (in_list g at k) = absurd (h at)
  one_loose one other owner done (tree _ inner end next) (itself f fine h) (behind g at also k) = absurd (h at)
  one_loose one other owner done (tree number inner end next) (in_list f at h) (inside k) = absurd (none_within other number inner k f at)
  one_loose one other owner done (tree _ inner end next) (in_list f at h) (itself g also k) = absurd (k at)
  one_loose one other owner done (tree number inner end next) (in_list f at h) (in_list g there k) = first_not (FineWith owner done number inner end) one other (lists number) h k
  one_loose one other owner done (tree number inner end next) (in_list f at h) (behind g there fine k) = absurd (not_fine (FineWith owner done number inner end) one (lists number) h fine)
  one_loose one other owner done (tree number inner end next) (behind f at fine h) (inside k) = absurd (none_within other number inner k f at)
  one_loose one other owner done (tree _ inner end next) (behind f at fine h) (itself g also k) = absurd (k at)
  one_loose one other owner done (tree number inner end next) (behind f at fine h) (in_list g there k) = absurd (not_fine (FineWith owner done number inner end) other (lists number) k fine)
  one_loose one other owner done (tree number inner end next) (behind f at fine h) (behind g there also k) = one_loose one other owner (onto done (tree number inner end bare)) next h k

pub loose_is_not_fixed : Laws.LooseIsNotFixed
loose_is_not_fixed p lists loose forest h f = none_is_loose p lists loose (length p.ops) bare forest h f (root_fine p lists bare forest)

pub one_is_first : Laws.OneIsFirst
one_is_first p lists one other forest h k = one_loose p lists one other (length p.ops) bare forest h k

-- ---- levels

abbrev ended : Level → List Event → Forest
ended top events = tree top.number top.done (Some events) bare

abbrev pub after : Level → Level → List Event → Level
after top below events = record { number = below.number; done = onto below.done (ended top events) }

module _ (p : Program) (lists : Lists) where
  -- it stays the first when a node ends
  pub fails_on : (loose : ℕ) (top below : Level) (rest : List Level) (events : List Event) → IsFailed p lists loose (top ∷ below ∷ rest) → IsFailed p lists loose (after top below events ∷ rest)
  fails_on loose top below rest events (inl h) = inl (h.0.1, loose_behind p lists loose below.number bare below.done (ended top events) h.0.0.0 h.0.0.1 (inside h.1))
  fails_on loose top below rest events (inr (inl h)) = inl (h.0, loose_before p lists loose below.number bare below.done (ended top events) h.1)
  fails_on loose top below rest events (inr (inr h)) = inr h

  -- the node that ends is the first
  pub fails_now : (top below : Level) (rest : List Level) (events : List Event) → AreAllFixed p lists (top ∷ below ∷ rest) → (IsFixedAt p top.number top.done → ⊥)
      → IsFailed p lists top.number (after top below events ∷ rest)
  fails_now top below rest events f not_so =
      inl (f.1.1, loose_behind p lists top.number below.number bare below.done (ended top events) f.1.0.0 f.1.0.1 (itself f.0.0 f.0.1 not_so))

  -- a list that ends with it is
  pub fails_list : (loose : ℕ) (top below : Level) (rest : List Level) (events : List Event) → AreAllFixed p lists (top ∷ below ∷ rest) → IsFixedAt p top.number top.done
      → IsFirstNot (FineWith p lists below.number below.done top.number top.done (Some events)) loose (lists top.number) → IsFailed p lists loose (after top below events ∷ rest)
  fails_list loose top below rest events f at h =
      inl (f.1.1, loose_behind p lists loose below.number bare below.done (ended top events) f.1.0.0 f.1.0.1 (in_list f.0.0 at h))

  -- it ends, and is fixed, as are the lists that end with it
  pub still_fixed : (top below : Level) (rest : List Level) (events : List Event) → AreAllFixed p lists (top ∷ below ∷ rest) → IsFixedAt p top.number top.done
      → AreFine (FineWith p lists below.number below.done top.number top.done (Some events)) (lists top.number) → AreAllFixed p lists (after top below events ∷ rest)
  still_fixed top below rest events f at fine = (
    (
      onto_is_fixed p below.done (ended top events) f.1.0.0 (node_is_fixed p top.number top.done bare (Some events) f.0.0 at (bare_is_fixed p)),
      fine_onto p lists below.number bare below.done (ended top events) f.1.0.1 (fine, tt),
    ),
    f.1.1,
  )

  -- ---- the run ends now

  -- what is loose in what was cut off above
  pub loose_above : (loose : ℕ) (cut : Forest) (top : Level) (rest : List Level) → AreAllFixed p lists (top ∷ rest) → IsFirstLoose p lists loose top.number top.done cut
      → IsFirstLoose p lists loose (bottom_of (top ∷ rest)) bare (closed_with cut (top ∷ rest))
  loose_above loose cut top [] f h = loose_behind p lists loose top.number bare top.done cut f.0.0 f.0.1 h
  loose_above loose cut top (below ∷ rest) f h =
      loose_above loose (tree top.number (onto top.done cut) None bare) below rest f.1 (inside (loose_behind p lists loose top.number bare top.done cut f.0.0 f.0.1 h))

  pub failed_closes : (loose : ℕ) (cut : Forest) (levels : List Level) → IsFailed p lists loose levels → IsFirstLoose p lists loose (bottom_of levels) bare (closed_with cut levels)
  failed_closes loose cut [] h = absurd h
  failed_closes loose cut (top ∷ []) (inl h) = loose_before p lists loose top.number bare top.done cut h.1
  failed_closes loose cut (top ∷ []) (inr h) = absurd h
  failed_closes loose cut (top ∷ below ∷ rest) (inl h) =
      loose_above loose (tree top.number (onto top.done cut) None bare) below rest h.0 (inside (loose_before p lists loose top.number bare top.done cut h.1))
  failed_closes loose cut (top ∷ below ∷ rest) (inr h) = failed_closes loose (tree top.number (onto top.done cut) None bare) (below ∷ rest) h

  -- the node that is cut off now is the first
  pub loose_here : (cut : Forest) (top below : Level) (rest : List Level) → IsFixed p cut → AreListsFine p lists top.number top.done cut → AreAllFixed p lists (top ∷ below ∷ rest)
      → (IsFixedAt p top.number (onto top.done cut) → ⊥) → IsFirstLoose p lists top.number (bottom_of (top ∷ below ∷ rest)) bare (closed_with cut (top ∷ below ∷ rest))
  loose_here cut top below rest c fine f not_so =
      loose_above top.number (tree top.number (onto top.done cut) None bare) below rest f.1
      (itself (onto_is_fixed p top.done cut f.0.0 c) (fine_onto p lists top.number bare top.done cut f.0.1 fine) not_so)
