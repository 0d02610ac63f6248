-- Initialiser lists: where those of a declarator have a fixed order, so have those of each list.
use Rattle.std.proofs.Common.{◌≡◌, refl, sym, ◌∙◌, ap, subst, arith, inl, inr}
use Rattle.std.specs.Prelude.{ℕ, zero, suc, ◌+◌, ◌-◌, ◌<◌, ◌≤◌, ◌==◌, ◌⊎◌, Bool, true, false, not, ◌&&◌, ◌||◌, Option, Some, None, List, [], ◌∷◌, length, slice_get}
use Rattle.std.specs.List.{list_any}
use Rattle.std.proofs.lemmas.Bool.{true≢false, false≢true}
use Rattle.cr_meaning.specs.Events.{Event}
use Rattle.cr_meaning.specs.World.{Program}
use Rattle.cr_meaning.specs.declared.op.Op.{Op}
use Rattle.cr_meaning_seen.specs.Seen.{Forest, bare, node as tree, onto, piece}
use Rattle.cr_meaning_orders.specs.Fixed.{IsFixedNode}
use Rattle.cr_meaning_loose.specs.Loose.{IsFixedAt}
use Rattle.cr_meaning_loose.specs.Lists.{Lists, operands_by, operands_at, stands_in, is_some_list, is_listed, goes_on, count_of, do_all, from_by, last_of, last_in, one_if, is_cut, IsListFine, AreFine, AreListsFine}
use Rattle.cr_meaning_loose.proofs.Adding.{before_it, few_are}
use Rattle.cr_meaning_loose.proofs.Operands.{from_at, two_at}

-- ---- the last of some evaluations

abbrev pub dropped : ℕ → Forest → Forest
dropped zero forest = forest
dropped (suc k) bare = bare
dropped (suc k) (tree number inner end next) = dropped k next

pub last_dropped : (test : ℕ → Bool) (forest : Forest) → (k : ℕ) × (last_of test forest ≡ dropped k forest)
last_dropped test bare = (0, refl)
last_dropped test (tree number inner end next) = by (do_all test (tree number inner end next)) (last_dropped test next)
  where
    by : (b : Bool) → (k : ℕ) × (last_of test next ≡ dropped k next) → (k : ℕ) × (from_by b (tree number inner end next) (last_of test next) ≡ dropped k (tree number inner end next))
    by true i = (0, refl)
    by false i = (suc i.0, i.1)

piece_dropped : (k : ℕ) (forest : Forest) (place : ℕ) → piece (dropped k forest) place ≡ piece forest (k + place)
piece_dropped zero forest place = let e : place ≡ 0 + place = omega arith in ap (piece forest) e
piece_dropped (suc k) bare place = refl
piece_dropped (suc k) (tree number inner end next) place =
    let e : suc (k + place) ≡ suc k + place = omega arith in piece_dropped k next place ∙ ap (piece (tree number inner end next)) e

-- ---- what is fixed

-- the first of the operands
pub prefix_fixed : (p : Program) (count : ℕ) (done more : Forest) → IsFixedNode p count (onto done more) → IsFixedNode p count done
prefix_fixed p count done more h = record {
  loud = h.loud;
  kept = h.kept;
  quiet = λ place operand few other is. h.quiet place operand few other (before_it done more place (few_are done operand place is) ∙ is);
  spared = λ operand few is. h.spared operand few (before_it done more h.loud (few_are done operand h.loud is) ∙ is);
  whole = λ place m f few is. h.whole place m f few (before_it done more place (few_are done (tree m f None bare) place is) ∙ is);
}

-- the last of them
module _ (p : Program) (count k : ℕ) (forest : Forest) (two : 2 ≤ count) (all : count_of forest ≤ count) (h : IsFixedNode p count forest) where
  at : (place : ℕ) (operand : Forest) → piece (dropped k forest) place ≡ Some operand → (k + place < count) × (piece forest (k + place) ≡ Some operand)
  at place operand is =
      let there : piece forest (k + place) ≡ Some operand = sym (piece_dropped k forest place) ∙ is in
      let few = few_are forest operand (k + place) there in (omega (arith, few, all), there)

  pub suffix_fixed : (some : ℕ) → IsFixedNode p some (dropped k forest)
  suffix_fixed some = by (nat_cases k h.loud)
    where
      nat_cases : (a b : ℕ) → (a ≤ b) ⊎ (b < a)
      nat_cases zero b = inl (omega arith)
      nat_cases (suc a) zero = inr (omega arith)
      nat_cases (suc a) (suc b) = more (nat_cases a b)
        where
          more : (a ≤ b) ⊎ (b < a) → (suc a ≤ suc b) ⊎ (suc b < suc a)
          more (inl l) = inl (omega (arith, l))
          more (inr l) = inr (omega (arith, l))

      by : (k ≤ h.loud) ⊎ (h.loud < k) → IsFixedNode p some (dropped k forest)
      by (inl l) = record {
        loud = h.loud - k;
        kept = h.kept;
        quiet = λ place operand few other is. let i = at place operand is in h.quiet (k + place) operand i.0 (λ e. other (omega (arith, e, l))) i.1;
        spared = λ operand few is.
            let i = at (h.loud - k) operand is in
            let e : k + (h.loud - k) ≡ h.loud = omega (arith, l) in
            let F : ℕ → Type 0 = λ n. (n < count) × (piece forest n ≡ Some operand) in
            let j = subst F e i in h.spared operand j.0 j.1;
        whole = λ place m f few is. let i = at place (tree m f None bare) is in let bad = h.whole (k + place) m f i.0 i.1 in absurd (omega (arith, bad, two));
      }
      by (inr l) = record {
        loud = count;
        kept = h.kept;
        quiet = λ place operand few other is. let i = at place operand is in h.quiet (k + place) operand i.0 (λ e. omega (arith, e, l)) i.1;
        spared = λ operand few is. let i = at count operand is in let bad = i.0 in absurd (omega (arith, bad));
        whole = λ place m f few is. let i = at place (tree m f None bare) is in let bad = h.whole (k + place) m f i.0 i.1 in absurd (omega (arith, bad, two));
      }

-- ---- lists

pub counts_more : (done : Forest) (number : ℕ) (inner : Forest) (end : Option (List Event)) → count_of (onto done (tree number inner end bare)) ≡ count_of done + 1
counts_more bare number inner end = refl
counts_more (tree m f x next) number inner end = let c = counts_more next number inner end in omega (arith, c)

-- where those of the owner so far are fixed
pub fine_by : (p : Program) (lists : Lists) (owner : ℕ) (done : Forest) (number : ℕ) (inner : Forest) (end : Option (List Event)) → IsFixedNode p (operands_at p owner) (onto done (tree number inner end bare))
    → (cut : Bool) (list : ℕ) → IsListFine p lists owner done (tree number inner end bare) cut list
fine_by p lists owner done number inner end h cut list room over =
    let more = one_if (goes_on p lists owner (suc (count_of done)) list) in
    let this : Forest = tree number inner end bare in
    let c = counts_more done number inner end in
    let i = last_dropped (stands_in lists list) (onto done this) in
    let F : Forest → Type 0 = λ f. IsFixedNode p (count_of f + more) f in
    subst F (sym i.1) (suffix_fixed p (operands_at p owner) i.0 (onto done this) (two_at p owner (omega (arith, room))) (omega (arith, c, room)) h (count_of (dropped i.0 (onto done this)) + more))

pub all_fine : (fine : ℕ → Type 0) → ((list : ℕ) → fine list) → (lists : List ℕ) → AreFine fine lists
all_fine fine f [] = tt
all_fine fine f (list ∷ lists) = (f list, all_fine fine f lists)

pub onto_one : (done : Forest) (number : ℕ) (inner next : Forest) (end : Option (List Event)) → onto (onto done (tree number inner end bare)) next ≡ onto done (tree number inner end next)
onto_one bare number inner next end = refl
onto_one (tree m f x more) number inner next end = ap (λ g. tree m f x g) (onto_one more number inner next end)

fine_from : (p : Program) (lists : Lists) (owner : ℕ) (done rest : Forest) → IsFixedNode p (operands_at p owner) (onto done rest) → AreListsFine p lists owner done rest
fine_from p lists owner done bare h = tt
fine_from p lists owner done (tree number inner end next) h =
    let F : Forest → Type 0 = λ f. IsFixedNode p (operands_at p owner) f in
    let again = subst F (sym (onto_one done number inner next end)) h in (
      all_fine (IsListFine p lists owner done (tree number inner end bare) (is_cut end)) (fine_by p lists owner done number inner end (prefix_fixed p (operands_at p owner) (onto done (tree number inner end bare)) next again) (is_cut end)) (lists number),
      fine_from p lists owner (onto done (tree number inner end bare)) next again,
    )

pub fixed_is_fine : (p : Program) (lists : Lists) (owner : ℕ) (inner : Forest) → IsFixedAt p owner inner → AreListsFine p lists owner bare inner
fixed_is_fine p lists owner inner at = fine_from p lists owner bare inner (from_at p owner inner at)

-- the whole program's node has no operands without an order
past : (ops : List Op) → slice_get ops (length ops) ≡ None
past [] = refl
past (op ∷ ops) = past ops

pub root_operands : (p : Program) → operands_at p (length p.ops) ≡ 0
root_operands p = ap operands_by (past p.ops)

pub root_fine : (p : Program) (lists : Lists) (done rest : Forest) → AreListsFine p lists (length p.ops) done rest
root_fine p lists done bare = tt
root_fine p lists done (tree number inner end next) = (
  all_fine (IsListFine p lists (length p.ops) done (tree number inner end bare) (is_cut end)) (λ list room. let e = root_operands p in absurd (omega (arith, room, e))) (lists number),
  root_fine p lists (onto done (tree number inner end bare)) next,
)

-- ---- one more evaluation

do_all_on : (test : ℕ → Bool) (done : Forest) (number : ℕ) (inner : Forest) (end : Option (List Event)) → do_all test (onto done (tree number inner end bare)) ≡ (do_all test done && test number)
do_all_on test bare number inner end = by (test number)
  where
    by : (b : Bool) → (b && true) ≡ b
    by true = refl
    by false = refl
do_all_on test (tree m f x next) number inner end = ap (λ b. test m && b) (do_all_on test next number inner end) ∙ assoc (test m) (do_all test next) (test number)
  where
    assoc : (a b c : Bool) → (a && (b && c)) ≡ ((a && b) && c)
    assoc true b c = refl
    assoc false b c = refl

and_right : (a b : Bool) → b ≡ true → (a && b) ≡ a
and_right true b e = e
and_right false b e = refl

and_off : (a b : Bool) → b ≡ false → (a && b) ≡ false
and_off true b e = e
and_off false b e = refl

-- it is of the list
pub last_on : (test : ℕ → Bool) (done : Forest) (number : ℕ) (inner : Forest) (end : Option (List Event)) → test number ≡ true
    → last_of test (onto done (tree number inner end bare)) ≡ onto (last_of test done) (tree number inner end bare)
last_on test bare number inner end is = ap (λ b. from_by (b && true) (tree number inner end bare) bare) is
last_on test (tree m f x next) number inner end is =
    let this : Forest = tree number inner end bare in
    ap (λ b. from_by (test m && b) (tree m f x (onto next this)) (last_of test (onto next this))) (do_all_on test next number inner end ∙ and_right (do_all test next) (test number) is)
    ∙ ap (λ g. from_by (test m && do_all test next) (tree m f x (onto next this)) g) (last_on test next number inner end is)
    ∙ by (test m && do_all test next)
  where
    by : (b : Bool) → from_by b (tree m f x (onto next (tree number inner end bare))) (onto (last_of test next) (tree number inner end bare)) ≡ onto (from_by b (tree m f x next) (last_of test next)) (tree number inner end bare)
    by true = refl
    by false = refl

-- it isn't
pub last_off : (test : ℕ → Bool) (done : Forest) (number : ℕ) (inner : Forest) (end : Option (List Event)) → test number ≡ false → last_of test (onto done (tree number inner end bare)) ≡ bare
last_off test bare number inner end is = ap (λ b. from_by (b && true) (tree number inner end bare) bare) is
last_off test (tree m f x next) number inner end is =
    let this : Forest = tree number inner end bare in
    ap (λ b. from_by b (tree m f x (onto next this)) (last_of test (onto next this))) (and_off (test m) (do_all test (onto next this)) (do_all_on test next number inner end ∙ and_off (do_all test next) (test number) is))
    ∙ last_off test next number inner end is

-- a test that holds of fewer, of the last of which a wider one holds
pub last_last : (test wide : ℕ → Bool) → ((node : ℕ) → test node ≡ true → wide node ≡ true) → (forest : Forest) → last_of test (last_of wide forest) ≡ last_of test forest
last_last test wide more bare = refl
last_last test wide more (tree number inner end next) = by (do_all wide (tree number inner end next)) refl (last_last test wide more next)
  where
    this : Forest
    this = tree number inner end next

    none : (b : Bool) → do_all test this ≡ b → do_all wide this ≡ false → from_by b this (last_of test next) ≡ last_of test next
    none false e off = refl
    none true e off = absurd (true≢false (sym (all this e) ∙ off))
      where
        all : (forest : Forest) → do_all test forest ≡ true → do_all wide forest ≡ true
        all bare e = refl
        all (tree m f x later) e = both (wide m) (do_all wide later) (more m (first (test m) (do_all test later) e)) (all later (second (test m) (do_all test later) e))
          where
            first : (a b : Bool) → (a && b) ≡ true → a ≡ true
            first true b h = refl
            first false b h = absurd (false≢true h)

            second : (a b : Bool) → (a && b) ≡ true → b ≡ true
            second true b h = h
            second false b h = absurd (false≢true h)

            both : (a b : Bool) → a ≡ true → b ≡ true → (a && b) ≡ true
            both true b h k = k
            both false b h k = absurd (false≢true h)

    by : (b : Bool) → do_all wide this ≡ b → last_of test (last_of wide next) ≡ last_of test next → last_of test (from_by b this (last_of wide next)) ≡ last_of test this
    by true e later = refl
    by false e later = later ∙ sym (none (do_all test this) refl e)

-- ---- what stands in a list is an initialiser of one

pub stands_is_listed : (lists : Lists) (list node : ℕ) → stands_in lists list node ≡ true → is_listed lists node ≡ true
stands_is_listed lists list node is = by (lists node) is
  where
    by : (all : List ℕ) → list_any (λ l. l == list) all ≡ true → is_some_list all ≡ true
    by [] e = absurd (false≢true e)
    by (l ∷ all) e = refl

pub last_in_listed : (lists : Lists) (list : ℕ) (forest : Forest) → last_in lists list (last_of (is_listed lists) forest) ≡ last_in lists list forest
last_in_listed lists list forest = last_last (stands_in lists list) (is_listed lists) (stands_is_listed lists list) forest
