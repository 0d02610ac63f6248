-- Two memories that agree: what is read of the one is read of the other.
use Rattle.std.proofs.Common.{◌≡◌, refl, sym, ◌∙◌, ap, subst}
use Rattle.std.specs.Prelude.{ℕ, zero, suc, ◌==◌, ℤ, Bool, true, false, not, ◌&&◌, ◌||◌, is_none, Option, Some, None, Result, Ok, Err, List, [], ◌∷◌, length, take, drop, slice_index_or, if◌then◌else◌}
use Rattle.cr_footprint.specs.Cell.{Cell as Place}
use Rattle.cr_memory.specs.declared.value.Pointer.{Pointer}
use Rattle.cr_memory.specs.declared.value.Pointer.TheVariants.{Null, At}
use Rattle.cr_memory.specs.declared.value.Scalar.{Scalar}
use Rattle.cr_memory.specs.declared.value.Scalar.TheVariants.{Pointer as PointerKind}
use Rattle.cr_memory.specs.declared.value.Cell.{Cell}
use Rattle.cr_memory.specs.declared.value.Cell.TheVariants.{Unset, Number, Pointer as PointerCell}
use Rattle.cr_memory.specs.declared.value.Guard.{Guard}
use Rattle.cr_memory.specs.declared.value.Guard.TheVariants.{Free}
use Rattle.cr_memory.specs.declared.value.Trap.{Trap}
use Rattle.cr_memory.specs.declared.value.Trap.TheVariants.{Undefined, Left}
use Rattle.cr_memory.specs.declared.value.TheConstants.{ENDED, NULL_OR_END, UNSET, OTHER_TYPE, END_COMPARED}
use Rattle.cr_memory.specs.Kind.{is_same}
use Rattle.cr_memory.specs.Memory.{Object, Memory, live_object, count_of, has_ended}
use Rattle.cr_memory.specs.Access.{is_null_or_end, is_literal, number_of, cell_of, some_object, cell_at, shape_at, cells_at, shape_run_at, holds_such, is_unset, have_kinds, reaching, reach_of, load_of, cells_of}
use Rattle.cr_memory.specs.Pointers.{moved_by, shift_of, with_both, difference_of, differ_of, order_of, less_of, is_in_literal, equality_by, same_of}
use Rattle.cr_meaning.specs.World.{then_by}
use Rattle.cr_meaning_frames.specs.Frame.{Lives, Agree}

-- ---- results

-- what the one gives the other gives; nothing is said where the one is a case
abbrev pub Same : {A : Type 0} → Result A Trap → Result A Trap → Type 0
Same {A = A} (Ok a) other = let one : Result A Trap = Ok a in other ≡ one
Same (Err trap) other = Unit {0}

pub same_self : {A : Type 0} (r : Result A Trap) → Same r r
same_self (Ok a) = refl
same_self (Err trap) = tt

pub same_then : {A B : Type 0} (r other : Result A Trap) (f g : A → Result B Trap) → Same r other → ((a : A) → Same (f a) (g a)) → Same (then_by r f) (then_by other g)
same_then {A = A} (Ok a) other f g e h = let F : Result A Trap → Type 0 = λ x. Same (f a) (then_by x g) in subst F (sym e) (h a)
same_then (Err trap) other f g e h = tt

-- a case that doesn't come in the one doesn't come in the other
pub same_unless : {A : Type 0} (b c : Bool) (trap : Trap) (one other : Result A Trap) → (b ≡ false → c ≡ false) → (b ≡ false → Same one other)
    → Same (if b then Err trap else one) (if c then Err trap else other)
same_unless true c trap one other h k = tt
same_unless {A = A} false c trap one other h k = let F : Bool → Type 0 = λ x. Same one (if x then Err trap else other) in subst F (sym (h refl)) (k refl)

pub same_if : {A : Type 0} (b : Bool) (one one' other other' : Result A Trap) → Same one one' → Same other other' → Same (if b then one else other) (if b then one' else other')
same_if true one one' other other' h k = h
same_if false one one' other other' h k = k

-- ---- lists

abbrev pub Covers : (ℕ → Bool) → ℕ → ℕ → Type 0
Covers P first zero = Unit {0}
Covers P first (suc count) = (P first ≡ true) × Covers P (suc first) count

covers_less : (P : ℕ → Bool) (first count : ℕ) → Covers P (suc first) count → Covers (λ i. P (suc i)) first count
covers_less P first zero c = tt
covers_less P first (suc count) c = (c.0, covers_less P (suc first) count c.1)

same_suc : {m n : ℕ} → suc m ≡ suc n → m ≡ n
same_suc e = cc

run_same : {A : Type 0} (P : ℕ → Bool) (first count : ℕ) (xs ys : List A) (d : A) → length ys ≡ length xs → ((i : ℕ) → P i ≡ true → slice_index_or ys i d ≡ slice_index_or xs i d)
    → Covers P first count → take count (drop first ys) ≡ take count (drop first xs)
run_same P first count [] [] d e f c = refl
run_same P first count [] (y ∷ ys) d e f c = absurd cc
run_same P first count (x ∷ xs) [] d e f c = absurd cc
run_same P zero zero (x ∷ xs) (y ∷ ys) d e f c = refl
run_same P zero (suc count) (x ∷ xs) (y ∷ ys) d e f c =
    let rest : take count ys ≡ take count xs = run_same (λ i. P (suc i)) zero count xs ys d (same_suc e) (λ i. f (suc i)) (covers_less P zero count c.1) in
    let first : y ≡ x = f zero c.0 in cc
run_same P (suc first) count (x ∷ xs) (y ∷ ys) d e f c = run_same (λ i. P (suc i)) first count xs ys d (same_suc e) (λ i. f (suc i)) (covers_less P first count c)

-- ---- memories

module _ (cells : Place → Bool) (one other : Memory) (h : Agree cells one other) where
  alive_by : (o : Option Object) (number : ℕ) → live_object one number ≡ o → is_none o ≡ false → is_none (live_object other number) ≡ false
  alive_by None number e k = absurd cc
  alive_by (Some object) number e k = ap (λ (x : Option Object). is_none x) (h.lives number object e).lives

  pub alive : (at : Pointer) → has_ended one at ≡ false → has_ended other at ≡ false
  alive Null k = refl
  alive (At object cell low high stride) k = alive_by (live_object one object) object refl k

  pub same_alive : {A : Type 0} (at : Pointer) (trap : Trap) (r r' : Result A Trap) → Same r r'
      → Same (if has_ended one at then Err trap else r) (if has_ended other at then Err trap else r')
  same_alive at trap r r' k = same_unless (has_ended one at) (has_ended other at) trap r r' (alive at) (λ e. k)

  -- where a pointer points to: an object that lives in both
  pub record Pointed (number : ℕ) : Type 0 where
    pub object : Object
    pub here : live_object one number ≡ Some object
    pub there : Lives cells number object other

  pointed_by : (o : Option Object) (number : ℕ) → live_object one number ≡ o → is_none o ≡ false → Pointed number
  pointed_by None number e k = absurd cc
  pointed_by (Some object) number e k = record { object = object; here = e; there = h.lives number object e }

  pointed : (at : Pointer) → has_ended one at ≡ false → is_null_or_end at ≡ false → Pointed (number_of at)
  pointed Null k inside = absurd cc
  pointed (At object cell low high stride) k inside = pointed_by (live_object one object) object refl k

  shape_same : (at : Pointer) → Pointed (number_of at) → shape_at other at ≡ shape_at one at
  shape_same at k =
      ap (λ (o : Option Object). slice_index_or (some_object o).shape (cell_of at) (PointerKind 0, Free)) k.there.lives
      ∙ (ap (λ (x : List (Scalar × Guard)). slice_index_or x (cell_of at) (PointerKind 0, Free)) k.there.shape
      ∙ sym (ap (λ (o : Option Object). slice_index_or (some_object o).shape (cell_of at) (PointerKind 0, Free)) k.here))

  shape_run_same : (at : Pointer) (count : ℕ) → Pointed (number_of at) → shape_run_at other at count ≡ shape_run_at one at count
  shape_run_same at count k =
      ap (λ (o : Option Object). take count (drop (cell_of at) (some_object o).shape)) k.there.lives
      ∙ (ap (λ (x : List (Scalar × Guard)). take count (drop (cell_of at) x)) k.there.shape
      ∙ sym (ap (λ (o : Option Object). take count (drop (cell_of at) (some_object o).shape)) k.here))

  cell_same : (at : Pointer) → cells (number_of at, cell_of at) ≡ true → Pointed (number_of at) → cell_at other at ≡ cell_at one at
  cell_same at c k =
      ap (λ (o : Option Object). slice_index_or (some_object o).cells (cell_of at) Unset) k.there.lives
      ∙ (k.there.same (cell_of at) c ∙ sym (ap (λ (o : Option Object). slice_index_or (some_object o).cells (cell_of at) Unset) k.here))

  cells_same : (at : Pointer) (count : ℕ) → Covers (λ i. cells (number_of at, i)) (cell_of at) count → Pointed (number_of at) → cells_at other at count ≡ cells_at one at count
  cells_same at count c k =
      ap (λ (o : Option Object). take count (drop (cell_of at) (some_object o).cells)) k.there.lives
      ∙ (run_same (λ i. cells (number_of at, i)) (cell_of at) count k.object.cells k.there.other.cells Unset k.there.count k.there.same c
      ∙ sym (ap (λ (o : Option Object). take count (drop (cell_of at) (some_object o).cells)) k.here))

  -- ---- accesses

  same_reaching : {A : Type 0} (at : Pointer) (r r' : Result A Trap) → (has_ended one at ≡ false → is_null_or_end at ≡ false → Same r r')
      → Same (reaching (has_ended one at) (is_null_or_end at) r) (reaching (has_ended other at) (is_null_or_end at) r')
  same_reaching at r r' k =
      same_unless (has_ended one at) (has_ended other at) (Undefined ENDED) _ _ (alive at) (λ live. same_unless (is_null_or_end at) (is_null_or_end at) (Undefined NULL_OR_END) r r' (λ e. e) (k live))

  pub same_reach : (at : Pointer) → Same (reach_of one at) (reach_of other at)
  same_reach at = same_reaching at _ _ (λ live inside. refl)

  held_alive : (held : Cell) → holds_such (has_ended one) held ≡ false → holds_such (has_ended other) held ≡ false
  held_alive Unset k = refl
  held_alive (Number value) k = refl
  held_alive (PointerCell at) k = alive at k

  pub same_load : (at : Pointer) (kind : Scalar) → cells (number_of at, cell_of at) ≡ true → Same (load_of one at kind) (load_of other at kind)
  same_load at kind c = same_reaching at _ _ (λ live inside.
      let k = pointed at live inside in
      let F : Cell → Type 0 = λ held. Same
      (if holds_such (has_ended one) (cell_at one at) then Err (Undefined ENDED) else (if not (is_same (shape_at one at).0 kind) then Err (Left OTHER_TYPE) else (if is_unset (cell_at one at) then Err (Undefined UNSET) else Ok (cell_at one at))))
      (if holds_such (has_ended other) held then Err (Undefined ENDED) else (if not (is_same (shape_at other at).0 kind) then Err (Left OTHER_TYPE) else (if is_unset held then Err (Undefined UNSET) else Ok held))) in
      subst F (sym (cell_same at c k))
      (same_unless _ _ (Undefined ENDED) _ _ (held_alive (cell_at one at)) (λ e.
      same_unless _ _ (Left OTHER_TYPE) _ _ (λ f. ap (λ (x : Scalar × Guard). not (is_same x.0 kind)) (shape_same at k) ∙ f) (λ f. same_self _))))

  pub same_cells : (at : Pointer) (kinds : List Scalar) → Covers (λ i. cells (number_of at, i)) (cell_of at) (length kinds) → Same (cells_of one at kinds) (cells_of other at kinds)
  same_cells at kinds c = same_reaching at _ _ (λ live inside.
      let k = pointed at live inside in
      same_unless _ _ (Left OTHER_TYPE) _ _ (λ f. ap (λ (x : List (Scalar × Guard)). not (have_kinds x kinds)) (shape_run_same at (length kinds) k) ∙ f)
      (λ f. ap (λ (x : List Cell). Ok x) (cells_same at (length kinds) c k)))

  -- ---- pointers

  pub same_shift : (at : Pointer) (by : ℤ) → Same (shift_of one at by) (shift_of other at by)
  same_shift at by = same_alive at (Undefined ENDED) _ _ (same_self (moved_by at by))

  either : (left right : Pointer) → (has_ended one left || has_ended one right) ≡ false → (has_ended other left || has_ended other right) ≡ false
  either left right k = both_false (has_ended one left) (has_ended one right) (has_ended other left) (has_ended other right) (alive left) (alive right) k
    where
      both_false : (a b c d : Bool) → (a ≡ false → c ≡ false) → (b ≡ false → d ≡ false) → (a || b) ≡ false → (c || d) ≡ false
      both_false true b c d f g k = absurd cc
      both_false false b c d f g k = ap (λ x. x || d) (f refl) ∙ g k

  same_both : {A : Type 0} (left right : Pointer) (r r' : Result A Trap) → ((has_ended one left || has_ended one right) ≡ false → Same r r')
      → Same (with_both (has_ended one) left right r) (with_both (has_ended other) left right r')
  same_both left right r r' k = same_unless _ _ (Undefined ENDED) r r' (either left right) k

  pub same_differ : (left right : Pointer) → Same (differ_of one left right) (differ_of other left right)
  same_differ left right = same_both left right _ _ (λ e. same_self (difference_of left right))

  pub same_less : (left right : Pointer) → Same (less_of one left right) (less_of other left right)
  same_less left right = same_both left right _ _ (λ e. same_self (order_of left right))

  left_false : (a b : Bool) → (a || b) ≡ false → a ≡ false
  left_false true b e = absurd cc
  left_false false b e = refl

  right_false : (a b : Bool) → (a || b) ≡ false → b ≡ false
  right_false true b e = absurd cc
  right_false false b e = e

  count_same : (number : ℕ) → Pointed number → count_of (live_object other number) ≡ count_of (live_object one number)
  count_same number k = ap (λ (o : Option Object). count_of o) k.there.lives ∙ (k.there.count ∙ sym (ap (λ (o : Option Object). count_of o) k.here))

  literal_same : (at : Pointer) → Pointed (number_of at) → is_in_literal (shape_at other) at ≡ is_in_literal (shape_at one) at
  literal_same at k = ap (λ (own : Scalar × Guard). not (is_null_or_end at) && is_literal own.1) (shape_same at k)

  -- the look-ups matter for two places of live objects alone
  same_equal : (left right : Pointer) → (has_ended one left || has_ended one right) ≡ false
      → Same (equality_by (λ object. count_of (live_object one object)) (shape_at one) left right) (equality_by (λ object. count_of (live_object other object)) (shape_at other) left right)
  same_equal Null Null k = refl
  same_equal Null (At object cell low high stride) k = refl
  same_equal (At object cell low high stride) Null k = refl
  same_equal (At object cell low high stride) (At object' cell' low' high' stride') k =
      let l = pointed_by (live_object one object) object refl (left_false (is_none (live_object one object)) (is_none (live_object one object')) k) in
      let r = pointed_by (live_object one object') object' refl (right_false (is_none (live_object one object)) (is_none (live_object one object')) k) in
      same_if (object == object') _ _ _ _ (same_self _) (same_unless _ _ (Left END_COMPARED) _ _
      (λ e. ap (λ x. (x == cell) || (count_of (live_object other object') == cell')) (count_same object l)
      ∙ (ap (λ x. (count_of (live_object one object) == cell) || (x == cell')) (count_same object' r) ∙ e))
      (λ e. same_unless _ _ (Left END_COMPARED) _ _
      (λ f. ap (λ x. x && is_in_literal (shape_at other) (At object' cell' low' high' stride')) (literal_same (At object cell low high stride) l)
      ∙ (ap (λ x. is_in_literal (shape_at one) (At object cell low high stride) && x) (literal_same (At object' cell' low' high' stride') r) ∙ f)) (λ f. refl)))

  pub same_equality : (left right : Pointer) → Same (same_of one left right) (same_of other left right)
  same_equality left right = same_both left right _ _ (same_equal left right)
