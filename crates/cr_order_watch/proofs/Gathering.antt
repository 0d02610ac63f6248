-- Some operands, gone through from the first on.
use Rattle.std.proofs.Common.{◌≡◌, refl, sym, ◌∙◌, ap, subst, arith}
use Rattle.std.specs.Prelude.{ℕ, zero, suc, ◌<◌, Bool, true, false, ◌&&◌, ◌||◌, Some, None, List, [], ◌∷◌, length, slice_get}
use Rattle.cr_footprint.specs.Cell.{Cell, IsLeast}
use Rattle.cr_footprint.specs.Foot.{Sets, sets, union_of, meets}
use Rattle.cr_footprint.specs.declared.foot.Foot.{Foot}
use Rattle.cr_meaning.specs.Events.{Event}
use Rattle.cr_meaning.specs.World.{Program}
use Rattle.cr_meaning_seen.specs.Seen.{Forest, bare, node as tree, onto}
use Rattle.cr_meaning_orders.specs.Fixed.{IsFixedNode}
use Rattle.cr_meaning_loose.specs.Sums.{is_loud_at, reads_cell, writes_cell, is_loud, is_read, is_written, do_meet}
use Rattle.cr_meaning_loose.specs.Lists.{count_of}
use Rattle.cr_meaning_loose.proofs.Summing.{some_onto}
use Rattle.cr_meaning_loose.proofs.Adding.{bare_fixed, more_fixed, both_loud_are_loose, met_are_loose}
use Rattle.cr_meaning_loose.proofs.Listing.{prefix_fixed}
use Rattle.cr_order_watch.specs.Known.{IsSum, ArePieces}
use Rattle.cr_order_watch.specs.declared.opened.Piece.{Piece}

-- ---- one more

module _ (p : Program) (count : ℕ) (done : Forest) (number : ℕ) (inner : Forest) (events : List Event) (one_loud loud : Bool) (one foot : Foot) where
  abbrev more : Forest
  more = tree number inner (Some events) bare

  module _ (mine : IsSum p one_loud one done) (sum : IsSum p loud foot more) (room : count_of done < count) where
    pub both_loud : (one_loud && loud) ≡ true → IsFixedNode p count (onto done more) → ⊥
    both_loud e = both_loud_are_loose p count done number inner events room (sym (ap (λ b. b && is_loud p more) mine.loud_so) ∙ ap (λ b. one_loud && b) (sym sum.loud_so) ∙ e)

    meets_so : (cell : Cell) → meets (sets one) (sets foot) cell ≡ do_meet done more cell
    meets_so cell =
        ap (λ b. (b && ((sets foot).reads cell || (sets foot).writes cell)) || ((sets foot).writes cell && ((sets one).reads cell || b))) (mine.writes cell)
        ∙ ap (λ b. (is_written cell done && ((sets foot).reads cell || (sets foot).writes cell)) || ((sets foot).writes cell && (b || is_written cell done))) (mine.reads cell)
        ∙ ap (λ b. (is_written cell done && ((sets foot).reads cell || b)) || (b && (is_read cell done || is_written cell done))) (sum.writes cell)
        ∙ ap (λ b. (is_written cell done && (b || is_written cell more)) || (is_written cell more && (is_read cell done || is_written cell done))) (sum.reads cell)

    pub met : (cell : Cell) → IsLeast (meets (sets one) (sets foot)) cell → IsFixedNode p count (onto done more) → ⊥
    met cell least = met_are_loose p count done number inner events cell room (sym (meets_so cell) ∙ least.inside)

    pub joins : (all : Foot) (louder : Bool) → IsFixedNode p count done → (one_loud && loud) ≡ false → louder ≡ (one_loud || loud) → sets all ≡ union_of (sets one) (sets foot)
        → ((cell : Cell) → meets (sets one) (sets foot) cell ≡ false) → IsSum p louder all (onto done more) × IsFixedNode p count (onto done more)
    joins all louder h quiet either joined apart = (
      record {
        loud_so = either ∙ ap (λ b. b || loud) mine.loud_so ∙ ap (λ b. is_loud p done || b) sum.loud_so ∙ sym (some_onto (is_loud_at p) done more);
        reads = λ cell. ap (λ (s : Sets). s.reads cell) joined ∙ ap (λ b. b || (sets foot).reads cell) (mine.reads cell) ∙ ap (λ b. is_read cell done || b) (sum.reads cell) ∙ sym (some_onto (reads_cell cell) done more);
        writes = λ cell. ap (λ (s : Sets). s.writes cell) joined ∙ ap (λ b. b || (sets foot).writes cell) (mine.writes cell) ∙ ap (λ b. is_written cell done || b) (sum.writes cell) ∙ sym (some_onto (writes_cell cell) done more);
      },
      more_fixed p count done number inner events (sym (ap (λ b. b && is_loud p more) mine.loud_so) ∙ ap (λ b. one_loud && b) (sym sum.loud_so) ∙ quiet) (λ cell. sym (meets_so cell) ∙ apart cell) room h,
    )

-- ---- all of them

abbrev pub taken : ℕ → Forest → Forest
taken zero forest = bare
taken (suc n) bare = bare
taken (suc n) (tree number inner end next) = tree number inner end (taken n next)

abbrev pub left_of : ℕ → Forest → Forest
left_of zero forest = forest
left_of (suc n) bare = bare
left_of (suc n) (tree number inner end next) = left_of n next

rejoined : (n : ℕ) (forest : Forest) → onto (taken n forest) (left_of n forest) ≡ forest
rejoined zero forest = refl
rejoined (suc n) bare = refl
rejoined (suc n) (tree number inner end next) = ap (λ f. tree number inner end f) (rejoined n next)

pub record Next (p : Program) (forest : Forest) (n : ℕ) (piece : Piece) : Type 0 where
  pub number : ℕ
  pub inner : Forest
  pub events : List Event
  pub one_more : taken (suc n) forest ≡ onto (taken n forest) (tree number inner (Some events) bare)
  pub sum : IsSum p piece.loud piece.foot (tree number inner (Some events) bare)
  pub few : count_of (taken n forest) < count_of forest

pub next_piece : (p : Program) (pieces : List Piece) (forest : Forest) (n : ℕ) (piece : Piece) → ArePieces p pieces forest → slice_get pieces n ≡ Some piece → Next p forest n piece
next_piece p [] forest n piece h is = absurd cc
next_piece p (first ∷ pieces) bare n piece h is = absurd h
next_piece p (first ∷ pieces) (tree m f None next) n piece h is = absurd h
next_piece p (first ∷ pieces) (tree m f (Some e) next) zero piece h is =
    let same : first ≡ piece = cc in
    let G : Piece → Type 0 = λ x. IsSum p x.loud x.foot (tree m f (Some e) bare) in
    record { number = m; inner = f; events = e; one_more = refl; sum = subst G same h.0.1; few = omega arith }
next_piece p (first ∷ pieces) (tree m f (Some e) next) (suc n) piece h is =
    let i = next_piece p pieces next n piece h.1 is in
    let few = i.few in
    record { number = i.number; inner = i.inner; events = i.events; one_more = ap (λ g. tree m f (Some e) g) i.one_more; sum = i.sum; few = omega (arith, few) }

all_taken : (p : Program) (pieces : List Piece) (forest : Forest) → ArePieces p pieces forest → taken (length pieces) forest ≡ forest
all_taken p [] bare h = refl
all_taken p [] (tree m f x next) h = absurd h
all_taken p (first ∷ pieces) bare h = absurd h
all_taken p (first ∷ pieces) (tree m f None next) h = absurd h
all_taken p (first ∷ pieces) (tree m f (Some e) next) h = ap (λ g. tree m f (Some e) g) (all_taken p pieces next h.1)

-- how far it is known
pub record Gathered (p : Program) (pieces : List Piece) (n : ℕ) (loud : Bool) (foot : Foot) (forest : Forest) : Type 0 where
  pub sum : IsSum p loud foot (taken n forest)
  pub fixed : IsFixedNode p (count_of forest) (taken n forest)

pub gather_starts : (p : Program) (pieces : List Piece) (loud : Bool) (foot : Foot) (forest : Forest) → IsSum p loud foot bare → Gathered p pieces 0 loud foot forest
gather_starts p pieces loud foot forest none = record { sum = none; fixed = bare_fixed p (count_of forest) }

pub gather_goes : (p : Program) (pieces : List Piece) (n : ℕ) (piece : Piece) (loud : Bool) (foot : Foot) (forest : Forest) → (i : Next p forest n piece)
    → IsSum p loud foot (onto (taken n forest) (tree i.number i.inner (Some i.events) bare)) × IsFixedNode p (count_of forest) (onto (taken n forest) (tree i.number i.inner (Some i.events) bare))
    → Gathered p pieces (suc n) loud foot forest
gather_goes p pieces n piece loud foot forest i h =
    let F : Forest → Type 0 = λ f. IsSum p loud foot f in
    let G : Forest → Type 0 = λ f. IsFixedNode p (count_of forest) f in
    record { sum = subst F (sym i.one_more) h.0; fixed = subst G (sym i.one_more) h.1 }

-- two of them see one another
pub gather_fails : (p : Program) (n : ℕ) (piece : Piece) (forest : Forest) → (i : Next p forest n piece) → (IsFixedNode p (count_of forest) (onto (taken n forest) (tree i.number i.inner (Some i.events) bare)) → ⊥)
    → IsFixedNode p (count_of forest) forest → ⊥
gather_fails p n piece forest i not_so h =
    let G : Forest → Type 0 = λ f. IsFixedNode p (count_of forest) f in
    not_so (subst G i.one_more (prefix_fixed p (count_of forest) (taken (suc n) forest) (left_of (suc n) forest) (subst G (sym (rejoined (suc n) forest)) h)))

pub gather_ends : (p : Program) (pieces : List Piece) (n : ℕ) (loud : Bool) (foot : Foot) (forest : Forest) → ArePieces p pieces forest → n ≡ length pieces → Gathered p pieces n loud foot forest → IsFixedNode p (count_of forest) forest
gather_ends p pieces n loud foot forest h e g =
    let G : Forest → Type 0 = λ f. IsFixedNode p (count_of forest) f in
    subst G (ap (λ k. taken k forest) e ∙ all_taken p pieces forest h) g.fixed
