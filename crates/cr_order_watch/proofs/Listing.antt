-- What is kept of the initialisers of lists, and what it tells of a list.
use Rattle.std.proofs.Common.{◌≡◌, refl, sym, ◌∙◌, ap, subst, arith, inl, inr, take, drop, get_or}
use Rattle.std.specs.Prelude.{ℕ, zero, suc, ◌+◌, ◌-◌, ◌<◌, ◌≤◌, ◌==◌, ◌⊎◌, Bool, true, false, not, ◌&&◌, ◌||◌, Option, Some, None, List, [], ◌∷◌, ◌++◌, length, slice_get, slice_index_or, Result, Ok, Err, IfOk, IfSome, IfNone}
use Rattle.std.specs.List.{list_any}
use Rattle.std.proofs.lemmas.Bool.{true≢false, false≢true, cases_Bool, cases_eq, eqb-true}
use Rattle.std.proofs.lemmas.Bool.Decides.{nat_tests}
use Rattle.cr_footprint.specs.Cell.{Cell}
use Rattle.cr_footprint.specs.Foot.{Sets, sets, no_events}
use Rattle.cr_footprint.specs.declared.foot.Foot.{Foot}
use Rattle.cr_meaning.specs.Events.{Event}
use Rattle.cr_meaning.specs.World.{Program}
use Rattle.cr_meaning_seen.specs.Seen.{Forest, bare, node as tree, onto, piece}
use Rattle.cr_meaning_orders.specs.Fixed.{IsFixedNode}
use Rattle.cr_meaning_loose.specs.Lists.{Lists, operands_at, stands_in, around_by, around, is_some_list, is_listed, goes_on, count_of, do_all, from_by, last_of, last_in, one_if, IsListFixed, IsListFine, AreFine, IsFirstNot}
use Rattle.cr_meaning_loose.specs.Levels.{Level}
use Rattle.cr_meaning_loose.proofs.Adding.{at_it, few_fixed}
use Rattle.cr_meaning_loose.proofs.Listing.{fine_by, all_fine, counts_more, last_on, last_off, last_in_listed}
use Rattle.cr_order_watch.specs.Known.{IsSum, IsOpen, IsOwner, IsDecided, IsFirstOf, ArePieces, HasPieces, Hold, Before, at_first, behind_one, IsBehind, IsCutBy, by_list, by_operand, by_itself, by_none}
use Rattle.cr_order_watch.specs.declared.opened.Open.{Open}
use Rattle.cr_order_watch.specs.declared.opened.Piece.{Piece}

-- ---- the lists around a node

-- a node without one
pub around_none : (outer : List (Option ℕ)) (more number : ℕ) → slice_index_or outer number None ≡ None → around_by outer more number ≡ []
around_none outer zero number e = refl
around_none outer (suc more) number e = ap (λ o. elim o as (λ _. List ℕ) [ None ↦ [] | Some list ↦ list ∷ around_by outer more list ]) e

around_more : (outer : List (Option ℕ)) (more number list : ℕ) → slice_index_or outer number None ≡ Some list → around_by outer (suc more) number ≡ list ∷ around_by outer more list
around_more outer more number list e = ap (λ o. elim o as (λ _. List ℕ) [ None ↦ [] | Some list ↦ list ∷ around_by outer more list ]) e

pub unlisted : (outer : List (Option ℕ)) (number : ℕ) → slice_index_or outer number None ≡ None → is_listed (around outer) number ≡ false
unlisted outer number e = ap is_some_list (around_none outer (length outer) number e)

pub listed : (outer : List (Option ℕ)) (number list : ℕ) → slice_index_or outer number None ≡ Some list → is_listed (around outer) number ≡ true
listed [] number list e = absurd cc
listed (first ∷ outer) number list e = ap is_some_list (around_more (first ∷ outer) (length outer) number list e)

-- ---- how far they have been gone through: what the rest tells

pub record Rest (fine : ℕ → Type 0) (rest all : List ℕ) : Type 0 where
  pub fixed : AreFine fine rest → AreFine fine all
  pub first : (list : ℕ) → IsFirstNot fine list rest → IsFirstNot fine list all
  pub inner : (list : ℕ) → list_any (λ l. l == list) rest ≡ true → list_any (λ l. l == list) all ≡ true

pub rest_starts : (fine : ℕ → Type 0) (all : List ℕ) → Rest fine all all
rest_starts fine all = record { fixed = λ h. h; first = λ list h. h; inner = λ list h. h }

or_right : (a b : Bool) → b ≡ true → (a || b) ≡ true
or_right true b e = refl
or_right false b e = e

pub rest_goes : (fine : ℕ → Type 0) (list : ℕ) (rest all : List ℕ) → Rest fine (list ∷ rest) all → fine list → Rest fine rest all
rest_goes fine list rest all h is = record {
  fixed = λ k. h.fixed (is, k);
  first = λ l k. h.first l (inr (is, k));
  inner = λ l k. h.inner l (or_right (list == l) (list_any (λ x. x == l) rest) k);
}

pub rest_finds : (fine : ℕ → Type 0) (list : ℕ) (rest all : List ℕ) → Rest fine (list ∷ rest) all → (fine list → ⊥) → IsFirstNot fine list all
rest_finds fine list rest all h not_so = h.first list (inl (not_so, refl))

-- ---- pieces

-- one more
pub pieces_on : (p : Program) (pieces : List Piece) (done : Forest) (new : Piece) (number : ℕ) (inner : Forest) (events : List Event) → ArePieces p pieces done → new.node ≡ number
    → IsSum p new.loud new.foot (tree number inner (Some events) bare) → ArePieces p (pieces ++ new ∷ []) (onto done (tree number inner (Some events) bare))
pieces_on p [] bare new number inner events h is sum = ((is, sum), tt)
pieces_on p [] (tree m f x next) new number inner events h is sum = absurd h
pieces_on p (first ∷ pieces) bare new number inner events h is sum = absurd h
pieces_on p (first ∷ pieces) (tree m f None next) new number inner events h is sum = absurd h
pieces_on p (first ∷ pieces) (tree m f (Some e) next) new number inner events h is sum = (h.0, pieces_on p pieces next new number inner events h.1 is sum)

pub pieces_grow : (p : Program) (pieces all : List Piece) (done : Forest) (new : Piece) (number : ℕ) (inner : Forest) (events : List Event) → ArePieces p pieces done → new.node ≡ number
    → IsSum p new.loud new.foot (tree number inner (Some events) bare) → all ≡ pieces ++ new ∷ [] → ArePieces p all (onto done (tree number inner (Some events) bare))
pieces_grow p pieces all done new number inner events h is sum e =
    let G : List Piece → Type 0 = λ l. ArePieces p l (onto done (tree number inner (Some events) bare)) in
    subst G (sym e) (pieces_on p pieces done new number inner events h is sum)

pub listed_on : (p : Program) (outer : List (Option ℕ)) (all : List Piece) (done : Forest) (number list : ℕ) (inner : Forest) (events : List Event) → slice_index_or outer number None ≡ Some list
    → ArePieces p all (onto (last_of (is_listed (around outer)) done) (tree number inner (Some events) bare)) → ArePieces p all (last_of (is_listed (around outer)) (onto done (tree number inner (Some events) bare)))
listed_on p outer all done number list inner events in_one h =
    let F : Forest → Type 0 = λ f. ArePieces p all f in
    subst F (sym (last_on (is_listed (around outer)) done number inner (Some events) (listed outer number list in_one))) h

pub listed_off : (p : Program) (outer : List (Option ℕ)) (all : List Piece) (done : Forest) (number : ℕ) (inner : Forest) (events : List Event) → slice_index_or outer number None ≡ None → all ≡ []
    → ArePieces p all (last_of (is_listed (around outer)) (onto done (tree number inner (Some events) bare)))
listed_off p outer all done number inner events in_none e =
    let F : Forest → Type 0 = λ f. ArePieces p all f in
    let G : List Piece → Type 0 = λ l. ArePieces p l bare in
    subst F (sym (last_off (is_listed (around outer)) done number inner (Some events) (unlisted outer number in_none))) (subst G (sym e) tt)

-- ---- the last of them

all_hold : (p : Program) (test : ℕ → Bool) (pieces : List Piece) (forest : Forest) → ArePieces p pieces forest → Hold test pieces 0 → do_all test forest ≡ true
all_hold p test [] bare h holds = refl
all_hold p test [] (tree m f x next) h holds = absurd h
all_hold p test (first ∷ pieces) bare h holds = absurd h
all_hold p test (first ∷ pieces) (tree m f None next) h holds = absurd h
all_hold p test (first ∷ pieces) (tree m f (Some e) next) h holds =
    both (test m) (do_all test next) (ap test (sym h.0.0) ∙ holds 0 first (omega arith) refl) (all_hold p test pieces next h.1 (λ k piece few is. holds (suc k) piece (omega arith) is))
  where
    both : (a b : Bool) → a ≡ true → b ≡ true → (a && b) ≡ true
    both true b e k = k
    both false b e k = absurd (false≢true e)

whole_last : (test : ℕ → Bool) (forest : Forest) → do_all test forest ≡ true → last_of test forest ≡ forest
whole_last test bare e = refl
whole_last test (tree m f x next) e = ap (λ b. from_by b (tree m f x next) (last_of test next)) e

one_fails : (p : Program) (test : ℕ → Bool) (pieces : List Piece) (forest : Forest) (at : ℕ) (piece : Piece) → ArePieces p pieces forest → slice_get pieces at ≡ Some piece → test piece.node ≡ false → do_all test forest ≡ false
one_fails p test [] forest at piece h is off = absurd cc
one_fails p test (first ∷ pieces) bare at piece h is off = absurd h
one_fails p test (first ∷ pieces) (tree m f None next) at piece h is off = absurd h
one_fails p test (first ∷ pieces) (tree m f (Some e) next) zero piece h is off =
    let same : first ≡ piece = cc in
    let G : Piece → Type 0 = λ x. test x.node ≡ false in
    let here : test first.node ≡ false = subst G (sym same) off in
    ap (λ b. b && do_all test next) (ap test (sym h.0.0) ∙ here)
one_fails p test (first ∷ pieces) (tree m f (Some e) next) (suc at) piece h is off = right (test m) (do_all test next) (one_fails p test pieces next at piece h.1 is off)
  where
    right : (a b : Bool) → b ≡ false → (a && b) ≡ false
    right true b e = e
    right false b e = refl

pub last_pieces : (p : Program) (test : ℕ → Bool) (pieces : List Piece) (forest : Forest) (from : ℕ) → ArePieces p pieces forest → Hold test pieces from → Before test pieces from
    → ArePieces p (drop from pieces) (last_of test forest)
last_pieces p test pieces forest zero h holds before = let F : Forest → Type 0 = λ f. ArePieces p pieces f in subst F (sym (whole_last test forest (all_hold p test pieces forest h holds))) h
last_pieces p test [] forest (suc from) h holds (behind_one piece is off) = absurd cc
last_pieces p test (first ∷ pieces) bare (suc from) h holds before = absurd h
last_pieces p test (first ∷ pieces) (tree m f None next) (suc from) h holds before = absurd h
last_pieces p test (first ∷ pieces) (tree m f (Some e) next) (suc from) h holds (behind_one piece is off) =
    let F : Forest → Type 0 = λ g. ArePieces p (drop from pieces) g in
    let later : last_of test (tree m f (Some e) next) ≡ last_of test next =
    ap (λ b. from_by b (tree m f (Some e) next) (last_of test next)) (one_fails p test (first ∷ pieces) (tree m f (Some e) next) from piece h is off) in
    subst F (sym later) (last_pieces p test pieces next from h.1 (λ k x few is. holds (suc k) x (omega (arith, few)) is) (before_by from is))
  where
    before_by : (n : ℕ) → slice_get (first ∷ pieces) n ≡ Some piece → Before test pieces n
    before_by zero is = at_first
    before_by (suc n) is = behind_one piece is off

-- whether it holds of the last one
pub last_fails : (p : Program) (test : ℕ → Bool) (pieces : List Piece) (forest : Forest) (piece : Piece) → ArePieces p pieces forest → slice_get pieces (length pieces - 1) ≡ Some piece → test piece.node ≡ false → last_of test forest ≡ bare
last_fails p test [] forest piece h is off = absurd cc
last_fails p test (first ∷ pieces) bare piece h is off = absurd h
last_fails p test (first ∷ pieces) (tree m f None next) piece h is off = absurd h
last_fails p test (first ∷ []) (tree m f (Some e) bare) piece h is off =
    ap (λ b. from_by b (tree m f (Some e) bare) bare) (one_fails p test (first ∷ []) (tree m f (Some e) bare) 0 piece h is off)
last_fails p test (first ∷ []) (tree m f (Some e) (tree n g x next)) piece h is off = absurd h.1
last_fails p test (first ∷ second ∷ pieces) (tree m f (Some e) next) one h is off =
    let F : ℕ → Type 0 = λ n. slice_get (first ∷ second ∷ pieces) n ≡ Some one in
    let G : ℕ → Type 0 = λ n. slice_get (second ∷ pieces) n ≡ Some one in
    let last : length (first ∷ second ∷ pieces) - 1 ≡ suc (length pieces) = omega arith in
    let later : length pieces ≡ length (second ∷ pieces) - 1 = omega arith in
    let there : slice_get (second ∷ pieces) (length pieces) ≡ Some one = subst F last is in
    ap (λ b. from_by b (tree m f (Some e) next) (last_of test next)) (one_fails p test (first ∷ second ∷ pieces) (tree m f (Some e) next) (suc (length pieces)) one h there off)
    ∙ last_fails p test (second ∷ pieces) next one h.1 (subst G later there) off

pub last_holds : (p : Program) (test : ℕ → Bool) (pieces : List Piece) (forest : Forest) (piece : Piece) → ArePieces p pieces forest → slice_get pieces (length pieces - 1) ≡ Some piece → test piece.node ≡ true → 1 ≤ count_of (last_of test forest)
last_holds p test [] forest piece h is on = absurd cc
last_holds p test (first ∷ pieces) bare piece h is on = absurd h
last_holds p test (first ∷ pieces) (tree m f None next) piece h is on = absurd h
last_holds p test (first ∷ []) (tree m f (Some e) bare) piece h is on =
    let same : first ≡ piece = cc in
    let G : Piece → Type 0 = λ x. test x.node ≡ true in
    let here : test m ≡ true = ap test (sym h.0.0) ∙ subst G (sym same) on in
    let all : last_of test (tree m f (Some e) bare) ≡ tree m f (Some e) bare = ap (λ b. from_by (b && true) (tree m f (Some e) bare) bare) here in
    let F : Forest → Type 0 = λ g. 1 ≤ count_of g in
    subst F (sym all) (omega arith)
last_holds p test (first ∷ []) (tree m f (Some e) (tree n g x next)) piece h is on = absurd h.1
last_holds p test (first ∷ second ∷ pieces) (tree m f (Some e) next) one h is on =
    let F : ℕ → Type 0 = λ n. slice_get (first ∷ second ∷ pieces) n ≡ Some one in
    let G : ℕ → Type 0 = λ n. slice_get (second ∷ pieces) n ≡ Some one in
    let last : length (first ∷ second ∷ pieces) - 1 ≡ suc (length pieces) = omega arith in
    let later : length pieces ≡ length (second ∷ pieces) - 1 = omega arith in
    let there : slice_get (second ∷ pieces) (length pieces) ≡ Some one = subst F last is in
    by (do_all test (tree m f (Some e) next)) (last_holds p test (second ∷ pieces) next one h.1 (subst G later there) on)
  where
    by : (b : Bool) → 1 ≤ count_of (last_of test next) → 1 ≤ count_of (from_by b (tree m f (Some e) next) (last_of test next))
    by true few = omega arith
    by false few = few

-- ---- lists that end with an operand

module _ (p : Program) (lists : Lists) (owner : Open) (level : Level) (levels : List Level) (number : ℕ) (inner : Forest) (events : List Event) (h : IsOwner p lists owner level levels number inner events) where
  abbrev this : Forest
  this = tree number inner (Some events) bare

  owner_ended : owner.ended ≡ suc (count_of level.done)
  owner_ended = let a = h.open_so.ended in let c = counts_more level.done number inner (Some events) in let r = h.room in omega (arith, a, c, r)

  -- the next operand
  pub goes_so : (list : ℕ) → goes_on p lists owner.node owner.ended list ≡ goes_on p lists level.number (suc (count_of level.done)) list
  goes_so list = ap (λ n. goes_on p lists n owner.ended list) h.open_so.node ∙ ap (λ n. goes_on p lists level.number n list) owner_ended

  pub fine_goes : (list : ℕ) → goes_on p lists owner.node owner.ended list ≡ true → IsListFine p lists level.number level.done this false list
  fine_goes list on room over =
      absurd (false≢true (sym (ap not (sym (goes_so list) ∙ on)) ∙ over))

  -- the kept ones are enough
  pub owner_pieces : ArePieces p owner.pieces (last_of (is_listed lists) (onto level.done this))
  owner_pieces = h.pieces (let c = counts_more level.done number inner (Some events) in let r = h.room in omega (arith, c, r))

  pub in_owner : (list : ℕ) (some : List Piece) → ((q : Program) (forest : Forest) → ArePieces q owner.pieces forest → ArePieces q some (last_in lists list forest)) → ArePieces p some (last_in lists list (onto level.done this))
  in_owner list some f =
      let F : Forest → Type 0 = λ g. ArePieces p some g in
      subst F (last_in_listed lists list (onto level.done this)) (f p (last_of (is_listed lists) (onto level.done this)) owner_pieces)

  pub decided : (list : ℕ) (fixed : Bool) → goes_on p lists owner.node owner.ended list ≡ false
      → (fixed ≡ true → IsFixedNode p (count_of (last_in lists list (onto level.done this))) (last_in lists list (onto level.done this)))
      × (fixed ≡ false → IsFixedNode p (count_of (last_in lists list (onto level.done this))) (last_in lists list (onto level.done this)) → ⊥)
      → IsDecided fixed (IsListFine p lists level.number level.done this false list)
  decided list fixed off f = by fixed refl
    where
      over_now : goes_on p lists level.number (suc (count_of level.done)) list ≡ false
      over_now = sym (goes_so list) ∙ off

      same : count_of (last_in lists list (onto level.done this)) + one_if (goes_on p lists level.number (suc (count_of level.done)) list) ≡ count_of (last_in lists list (onto level.done this))
      same = let e : one_if (goes_on p lists level.number (suc (count_of level.done)) list) ≡ 0 = ap one_if over_now in omega (arith, e)

      F : ℕ → Type 0
      F = λ n. IsFixedNode p n (last_in lists list (onto level.done this))

      by : (b : Bool) → fixed ≡ b → IsDecided b (IsListFine p lists level.number level.done this false list)
      by true e = λ room over. subst F (sym same) (f.0 e)
      by false e = λ fine. f.1 e (subst F same (fine room_now (ap not over_now)))
        where
          room_now : count_of level.done < operands_at p level.number
          room_now = let r = h.room in let o = h.open_so.operands in omega (arith, r, o)

  -- where all its operands so far are fixed
  pub fixed_fine : owner.fixed ≡ true → AreFine (IsListFine p lists level.number level.done this false) (lists number)
  fixed_fine e =
      let F : ℕ → Type 0 = λ n. IsFixedNode p n (onto level.done this) in
      all_fine (IsListFine p lists level.number level.done this false)
      (fine_by p lists level.number level.done number inner (Some events) (subst F h.open_so.operands (h.open_so.fixed e)) false) (lists number)

-- ---- an operand that is cut off

module _ (p : Program) (lists : Lists) (owner : Open) (level : Level) (levels : List Level) (number : ℕ) (inner : Forest) (h : IsOpen p owner level levels) (pieces : HasPieces p lists owner level) (room : owner.ended < owner.operands) (list : ℕ) (stands : stands_in lists list number ≡ true) where
  abbrev cut_one : Forest
  cut_one = tree number inner None bare

  abbrev before : Forest
  before = last_in lists list level.done

  few : count_of level.done < owner.operands
  few = let e = h.ended in omega (arith, e, room)

  cut_goes_so : goes_on p lists owner.node (owner.ended + 1) list ≡ goes_on p lists level.number (suc (count_of level.done)) list
  cut_goes_so =
      let e = h.ended in let f = few in
      let n : owner.ended + 1 ≡ suc (count_of level.done) = omega (arith, e, f) in
      ap (λ k. goes_on p lists k (owner.ended + 1) list) h.node ∙ ap (λ k. goes_on p lists level.number k list) n

  with_it : last_in lists list (onto level.done cut_one) ≡ onto before cut_one
  with_it = last_on (stands_in lists list) level.done number inner None stands

  shared_by : (more : Bool) → goes_on p lists level.number (suc (count_of level.done)) list ≡ more → 1 ≤ count_of before + one_if more → IsListFine p lists level.number level.done cut_one true list → ⊥
  shared_by more e some fine =
      let o = h.operands in let f = few in
      let G : Bool → Type 0 = λ b. IsListFixed p lists list b (onto level.done cut_one) in
      let F : Forest → Type 0 = λ g. IsFixedNode p (count_of g + one_if more) g in
      let it : IsFixedNode p (count_of (onto before cut_one) + one_if more) (onto before cut_one) = subst F with_it (subst G e (fine (omega (arith, o, f)) refl)) in
      let c = counts_more before number inner None in
      let bad = it.whole (count_of before) number inner (omega (arith, c)) (at_it before number inner None) in
      omega (arith, bad, c, some)

  pub shared_goes : goes_on p lists owner.node (owner.ended + 1) list ≡ true → IsListFine p lists level.number level.done cut_one true list → ⊥
  shared_goes on = shared_by true (sym cut_goes_so ∙ on) (omega arith)

  kept_so : ArePieces p owner.pieces (last_of (is_listed lists) level.done)
  kept_so = pieces (let f = few in omega (arith, f))

  one_if_any : (b : Bool) → b ≡ false → one_if b ≡ 0
  one_if_any b e = ap one_if e

  pub shared_last : (piece : Piece) → goes_on p lists owner.node (owner.ended + 1) list ≡ false → slice_get owner.pieces (length owner.pieces - 1) ≡ Some piece → stands_in lists list piece.node ≡ true
      → IsListFine p lists level.number level.done cut_one true list → ⊥
  shared_last piece off is on =
      let F : Forest → Type 0 = λ g. 1 ≤ count_of g in
      let some : 1 ≤ count_of before = subst F (last_in_listed lists list level.done) (last_holds p (stands_in lists list) owner.pieces (last_of (is_listed lists) level.done) piece kept_so is on) in
      shared_by false (sym cut_goes_so ∙ off) (omega (arith, some))

  alone_by : before ≡ bare → goes_on p lists owner.node (owner.ended + 1) list ≡ false → IsListFine p lists level.number level.done cut_one true list
  alone_by none off room_there over =
      let F : Forest → Type 0 = λ g. IsFixedNode p (count_of g + one_if (goes_on p lists level.number (suc (count_of level.done)) list)) g in
      let e = one_if_any (goes_on p lists level.number (suc (count_of level.done)) list) (sym cut_goes_so ∙ off) in
      let all : last_in lists list (onto level.done cut_one) ≡ cut_one = with_it ∙ ap (λ g. onto g cut_one) none in
      subst F (sym all) (few_fixed p (count_of cut_one + one_if (goes_on p lists level.number (suc (count_of level.done)) list)) cut_one (omega (arith, e)))

  pub alone_last : (piece : Piece) → goes_on p lists owner.node (owner.ended + 1) list ≡ false → slice_get owner.pieces (length owner.pieces - 1) ≡ Some piece → stands_in lists list piece.node ≡ false
      → IsListFine p lists level.number level.done cut_one true list
  alone_last piece off is not_on = alone_by (sym (last_in_listed lists list level.done) ∙ last_fails p (stands_in lists list) owner.pieces (last_of (is_listed lists) level.done) piece kept_so is not_on) off

  pub alone_none : goes_on p lists owner.node (owner.ended + 1) list ≡ false → None ≡ slice_get owner.pieces (length owner.pieces - 1) → IsListFine p lists level.number level.done cut_one true list
  alone_none off is = alone_by (sym (last_in_listed lists list level.done) ∙ ap (last_in lists list) (by owner.pieces (last_of (is_listed lists) level.done) kept_so is)) off
    where
      last_there : (first : Piece) (some : List Piece) → None ≡ slice_get (first ∷ some) (length some) → ⊥
      last_there first [] e = absurd cc
      last_there first (second ∷ some) e = last_there second some e

      by : (some : List Piece) (forest : Forest) → ArePieces p some forest → None ≡ slice_get some (length some - 1) → forest ≡ bare
      by [] bare k e = refl
      by [] (tree m f x next) k e = absurd k
      by (first ∷ some) forest k e = absurd (last_there first some (e ∙ ap (slice_get (first ∷ some)) (omega arith)))

-- ---- one list at a time

-- the chain of lists, where so many are left to go
pub chain_ends : (outer : List (Option ℕ)) (more at list : ℕ) (all : Bool) → slice_index_or outer at None ≡ None → list_any (λ x. x == list) (around_by outer more at) ≡ all → false ≡ all
chain_ends outer more at list all is h = sym (ap (list_any (λ x. x == list)) (around_none outer more at is)) ∙ h

pub chain_goes : (outer : List (Option ℕ)) (left more at list next : ℕ) (all : Bool) → left ≡ more + 1 → slice_index_or outer at None ≡ Some next → list_any (λ x. x == list) (around_by outer left at) ≡ all
    → ((next == list) || list_any (λ x. x == list) (around_by outer more next)) ≡ all
chain_goes outer left more at list next all step is h =
    let F : ℕ → Type 0 = λ n. list_any (λ x. x == list) (around_by outer n at) ≡ all in
    let one : left ≡ suc more = omega (arith, step) in
    sym (ap (list_any (λ x. x == list)) (around_more outer more at next is)) ∙ subst F one h

pub chain_over : (outer : List (Option ℕ)) (left at list : ℕ) (all : Bool) → left ≡ 0 → list_any (λ x. x == list) (around_by outer left at) ≡ all → false ≡ all
chain_over outer left at list all none h = let F : ℕ → Type 0 = λ n. list_any (λ x. x == list) (around_by outer n at) ≡ all in subst F none h

pub rest_none : (fine : ℕ → Type 0) (outer : List (Option ℕ)) (more at : ℕ) (all : List ℕ) → slice_index_or outer at None ≡ None → Rest fine (around_by outer more at) all → AreFine fine all
rest_none fine outer more at all is h = let F : List ℕ → Type 0 = λ l. AreFine fine l in h.fixed (subst F (sym (around_none outer more at is)) tt)

pub rest_over : (fine : ℕ → Type 0) (outer : List (Option ℕ)) (left at : ℕ) (all : List ℕ) → left ≡ 0 → Rest fine (around_by outer left at) all → AreFine fine all
rest_over fine outer left at all none h = let F : ℕ → Type 0 = λ n. AreFine fine (around_by outer n at) in h.fixed (subst F (sym none) tt)

pub rest_next : (fine : ℕ → Type 0) (outer : List (Option ℕ)) (left more at list : ℕ) (all : List ℕ) → left ≡ more + 1 → slice_index_or outer at None ≡ Some list → Rest fine (around_by outer left at) all
    → Rest fine (list ∷ around_by outer more list) all
rest_next fine outer left more at list all step is h =
    let F : ℕ → Type 0 = λ n. Rest fine (around_by outer n at) all in
    let G : List ℕ → Type 0 = λ l. Rest fine l all in
    let one : left ≡ suc more = omega (arith, step) in
    subst G (around_more outer more at list is) (subst F one h)

-- ---- where the last begin

pub past : {A : Type 0} (xs : List A) (k : ℕ) (x : A) → length xs ≤ k → slice_get xs k ≡ Some x → ⊥
past [] k x few is = cc
past (y ∷ xs) zero x few is = omega (arith, few)
past (y ∷ xs) (suc k) x few is = past xs k x (omega (arith, few)) is

pub there : {A : Type 0} (xs : List A) (k : ℕ) → k < length xs → (x : A) × (slice_get xs k ≡ Some x)
there [] k few = absurd (omega (arith, few))
there (y ∷ xs) zero few = (y, refl)
there (y ∷ xs) (suc k) few = there xs k (omega (arith, few))

pub hold_end : (test : ℕ → Bool) (pieces : List Piece) (from : ℕ) → from ≡ length pieces → Hold test pieces from
hold_end test pieces from e k piece few is = absurd (past pieces k piece (omega (arith, e, few)) is)

pub hold_more : (test : ℕ → Bool) (pieces : List Piece) (from more : ℕ) → Hold test pieces from → from ≡ more + 1 → ((piece : Piece) → slice_get pieces more ≡ Some piece → test piece.node ≡ true) → Hold test pieces more
hold_more test pieces from more h step at k piece few is = by (cases_eq k more)
  where
    by : (k ≡ more) ⊎ (k ≡ more → ⊥) → test piece.node ≡ true
    by (inl e) = let F : ℕ → Type 0 = λ n. slice_get pieces n ≡ Some piece in at piece (subst F e is)
    by (inr other) = h k piece (above (λ e. other e)) is
      where
        above : (k ≡ more → ⊥) → from ≤ k
        above differ = omega (arith, few, step, differ)

pub before_one : (test : ℕ → Bool) (pieces : List Piece) (from more : ℕ) → from ≡ more + 1 → from ≤ length pieces → ((piece : Piece) → slice_get pieces more ≡ Some piece → test piece.node ≡ false) → Before test pieces from
before_one test pieces from more step within off =
    let i = there pieces more (omega (arith, step, within)) in
    let one : suc more ≡ from = omega (arith, step) in
    let F : ℕ → Type 0 = λ n. Before test pieces n in
    subst F one (behind_one i.0 i.1 (off i.0 i.1))

pub before_none : (test : ℕ → Bool) (pieces : List Piece) (from : ℕ) → from ≡ 0 → Before test pieces from
before_none test pieces from e = let F : ℕ → Type 0 = λ n. Before test pieces n in subst F (sym e) at_first

-- ---- copies

pub copy_sum : (p : Program) (loud : Bool) (none copy foot : Foot) (forest : Forest) → sets none ≡ no_events → ((cell : Cell) → (sets copy).reads cell ≡ ((sets none).reads cell || (sets foot).reads cell))
    → ((cell : Cell) → (sets copy).writes cell ≡ ((sets none).writes cell || (sets foot).writes cell)) → IsSum p loud foot forest → IsSum p loud copy forest
copy_sum p loud none copy foot forest empty reads writes sum = record {
  loud_so = sum.loud_so;
  reads = λ cell. reads cell ∙ ap (λ (s : Sets). s.reads cell || (sets foot).reads cell) empty ∙ sum.reads cell;
  writes = λ cell. writes cell ∙ ap (λ (s : Sets). s.writes cell || (sets foot).writes cell) empty ∙ sum.writes cell;
}

get_there : {A : Type 0} (d : A) (xs : List A) (k : ℕ) → k < length xs → slice_get xs k ≡ Some (get_or xs k d)
get_there d [] k room = absurd (omega (arith, room))
get_there d (y ∷ ys) zero room = refl
get_there d (y ∷ ys) (suc k) room = get_there d ys k (omega (arith, room))

pub got : {A : Type 0} (xs : List A) (k : ℕ) (d : A) → k < length xs → (x : A) → x ≡ get_or xs k d → slice_get xs k ≡ Some x
got xs k d room x is = get_there d xs k room ∙ ap Some (sym is)

pub if_ok_weaker : {A E : Type 0} {F G : A → Type 0} (r : Result A E) → ((x : A) → F x → G x) → IfOk r F → IfOk r G
if_ok_weaker (Ok x) f h = f x h
if_ok_weaker (Err e) f h = h

pub decided_true : (fact : Type 0) (b : Bool) → b ≡ true → IsDecided b fact → fact
decided_true fact true e h = h
decided_true fact false e h = absurd (false≢true e)

pub decided_false : (fact : Type 0) (b : Bool) → b ≡ false → IsDecided b fact → fact → ⊥
decided_false fact true e h = absurd (true≢false e)
decided_false fact false e h = h

-- ---- what is cut off

self_is : (n : ℕ) → (n == n) ≡ true
self_is n = grind (arith, nat_tests)

pub rest_stands : (fine : ℕ → Type 0) (list : ℕ) (rest all : List ℕ) → Rest fine (list ∷ rest) all → list_any (λ l. l == list) all ≡ true
rest_stands fine list rest all h = h.inner list (ap (λ b. b || list_any (λ l. l == list) rest) (self_is list))

module _ (p : Program) (lists : Lists) (owner : Open) (level : Level) (levels : List Level) (number : ℕ) (inner : Forest) (h : IsOpen p owner level levels) (pieces : HasPieces p lists owner level) (room : owner.ended < owner.operands) (list : ℕ) (stands : stands_in lists list number ≡ true) where
  pub shared_none : goes_on p lists owner.node (owner.ended + 1) list ≡ false → length owner.pieces ≡ 0 → IsListFine p lists level.number level.done (tree number inner None bare) true list
  shared_none off none = alone_none p lists owner level levels number inner h pieces room list stands off (by owner.pieces none)
    where
      by : (some : List Piece) → length some ≡ 0 → None ≡ slice_get some (length some - 1)
      by [] e = refl
      by (first ∷ some) e = absurd (omega (arith, e))

  pub shared_by_last : (b : Bool) → goes_on p lists owner.node (owner.ended + 1) list ≡ false → 0 < length owner.pieces → ((piece : Piece) → slice_get owner.pieces (length owner.pieces - 1) ≡ Some piece → b ≡ stands_in lists list piece.node)
      → IsDecided (not b) (IsListFine p lists level.number level.done (tree number inner None bare) true list)
  shared_by_last b off some f = by b refl
    where
      last : (x : Piece) × (slice_get owner.pieces (length owner.pieces - 1) ≡ Some x)
      last = there owner.pieces (length owner.pieces - 1) (omega (arith, some))

      by : (c : Bool) → b ≡ c → IsDecided (not c) (IsListFine p lists level.number level.done (tree number inner None bare) true list)
      by true e = shared_last p lists owner level levels number inner h pieces room list stands last.0 off last.1 (sym (f last.0 last.1) ∙ e)
      by false e = alone_last p lists owner level levels number inner h pieces room list stands last.0 off last.1 (sym (f last.0 last.1) ∙ e)

pub place_by_list : (p : Program) (lists : Lists) (owner : Open) (level : Level) (number list : ℕ) → owner.ended < owner.operands → ((inner : Forest) → IsFirstOf (IsListFine p lists level.number level.done (tree number inner None bare) true) (Some list) (lists number))
    → IsCutBy p lists owner level (Some number) (Some list)
place_by_list p lists owner level number list room f = by_list room f

pub place_by_node : (p : Program) (lists : Lists) (owner : Open) (level : Level) (number : ℕ) → owner.ended < owner.operands → ((inner : Forest) → IsFirstOf (IsListFine p lists level.number level.done (tree number inner None bare) true) None (lists number))
    → IsCutBy p lists owner level (Some number) (Some owner.node)
place_by_node p lists owner level number room f = by_operand refl room f

pub cut_behind : (p : Program) (lists : Lists) (owner : Open) (level : Level) (inside : Option ℕ) (found : Option ℕ) → IsBehind owner inside → IfSome found (λ node. (node ≡ owner.node) × (owner.fixed ≡ false)) → IfNone found (owner.fixed ≡ true)
    → IsCutBy p lists owner level inside found
cut_behind p lists owner level inside None full some none = by_none none full
cut_behind p lists owner level inside (Some found) full some none = by_itself some.0 some.1 full

pub not_empty : {A : Type 0} (xs : List A) (b : Bool) → b ≡ (length xs == 0) → b ≡ false → 0 < length xs
not_empty [] b e off = absurd (true≢false (sym e ∙ off))
not_empty (x ∷ xs) b e off = omega arith

-- ---- an operand that ends

-- nothing but its pieces is another
pub record IsSameBut (one other : Open) : Type 0 where
  pub node : other.node ≡ one.node
  pub operands : other.operands ≡ one.operands
  pub ended : other.ended ≡ one.ended
  pub asked : other.asked ≡ one.asked
  pub fixed : other.fixed ≡ one.fixed
  pub loud : other.loud ≡ one.loud
  pub foot : other.foot ≡ one.foot

pub with_pieces : (p : Program) (one other : Open) (level : Level) (levels : List Level) → IsOpen p one level levels → IsSameBut one other → IsOpen p other level levels
with_pieces p one other level levels h s =
    let A : ℕ → Type 0 = λ n. IsFixedNode p n level.done in
    let B : ℕ → Type 0 = λ n. IsFixedNode p n level.done → ⊥ in
    let C : Bool → Foot → Type 0 = λ b f. IsSum p b f level.done in
    record {
      node = s.node ∙ h.node;
      operands = s.operands ∙ h.operands;
      ended = let a = s.ended in let b = s.operands in let e = h.ended in omega (arith, a, b, e);
      asked = s.asked ∙ h.asked;
      fixed = λ e. subst A (sym s.operands) (h.fixed (sym s.fixed ∙ e));
      loose = λ e. subst B (sym s.operands) (h.loose (sym s.fixed ∙ e));
      sums = λ e some.
          let F : Bool → Type 0 = λ b. C b other.foot in
          let G : Foot → Type 0 = λ f. C one.loud f in
          subst F (sym s.loud) (subst G (sym s.foot) (h.sums (sym s.fixed ∙ e) (few s.asked s.operands some)));
    }
  where
    few : other.asked ≡ one.asked → other.operands ≡ one.operands → (other.asked ≡ true) ⊎ (count_of level.done ≤ other.operands) → (one.asked ≡ true) ⊎ (count_of level.done ≤ one.operands)
    few a b (inl e) = inl (sym a ∙ e)
    few a b (inr l) = inr (omega (arith, b, l))

pub room_before : (p : Program) (below : Open) (level : Level) (levels : List Level) → IsOpen p below level levels → below.ended < below.operands → count_of level.done ≤ below.operands
room_before p below level levels h room = let e = h.ended in omega (arith, e, room)

pub owner_so : (p : Program) (lists : Lists) (below new : Open) (level : Level) (levels : List Level) (number : ℕ) (inner : Forest) (events : List Event) → IsOpen p below level levels → below.ended < below.operands
    → IsOpen p new (record { number = level.number; done = onto level.done (tree number inner (Some events) bare) }) levels → ArePieces p new.pieces (last_of (is_listed lists) (onto level.done (tree number inner (Some events) bare)))
    → IsOwner p lists new level levels number inner events
owner_so p lists below new level levels number inner events h room it pieces =
    let e = h.ended in let a = h.operands in let b = it.operands in
    record { open_so = it; pieces = λ few. pieces; room = omega (arith, e, room, a, b) }

-- ---- what ends behind the operands

pub behind_pieces : (p : Program) (lists : Lists) (below new : Open) (level : Level) (levels : List Level) (number : ℕ) (inner : Forest) (events : List Event) → IsOpen p below level levels
    → IsOpen p new (record { number = level.number; done = onto level.done (tree number inner (Some events) bare) }) levels → below.operands ≤ below.ended
    → HasPieces p lists new (record { number = level.number; done = onto level.done (tree number inner (Some events) bare) })
behind_pieces p lists below new level levels number inner events h it full few =
    let e = h.ended in let a = h.operands in let b = it.operands in let c = counts_more level.done number inner (Some events) in absurd (omega (arith, e, full, a, b, c, few))

pub behind_fine : (p : Program) (lists : Lists) (below : Open) (level : Level) (levels : List Level) (number : ℕ) (inner : Forest) (events : List Event) → IsOpen p below level levels → below.operands ≤ below.ended
    → AreFine (IsListFine p lists level.number level.done (tree number inner (Some events) bare) false) (lists number)
behind_fine p lists below level levels number inner events h full =
    all_fine (IsListFine p lists level.number level.done (tree number inner (Some events) bare) false) (λ list room. let e = h.ended in let a = h.operands in absurd (omega (arith, e, full, a, room))) (lists number)

-- ---- slices

take_over : {A : Type 0} (xs : List A) (k : ℕ) → length xs ≤ k → take k xs ≡ xs
take_over [] zero room = refl
take_over [] (suc k) room = refl
take_over (x ∷ xs) zero room = absurd (omega (arith, room))
take_over (x ∷ xs) (suc k) room = ap (λ l. x ∷ l) (take_over xs k (omega (arith, room)))

drop_len : {A : Type 0} (xs : List A) (n : ℕ) → length (drop n xs) ≤ length xs - n
drop_len xs zero = omega arith
drop_len [] (suc n) = omega arith
drop_len (x ∷ xs) (suc n) = let h = drop_len xs n in omega (arith, h)

pub whole_rest : {A : Type 0} (xs : List A) (n : ℕ) → take (length xs - n) (drop n xs) ≡ drop n xs
whole_rest xs n = take_over (drop n xs) (length xs - n) (drop_len xs n)

-- ---- numbers

pub other_number : (a b : ℕ) → (a ≡ b → ⊥) → (a == b) ≡ false
other_number a b differ = by (cases_Bool (a == b))
  where
    by : ((a == b) ≡ true) ⊎ ((a == b) ≡ false) → (a == b) ≡ false
    by (inl e) = absurd (differ (eqb-true a b e))
    by (inr e) = e
