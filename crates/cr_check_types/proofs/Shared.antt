-- Tables in which each type has one row, and one shape more.
use Rattle.std.proofs.Common.{◌≡◌, ℕ, zero, suc, ◌+◌, ◌<◌, ◌≤◌, ◌==◌, ◌&&◌, List, [], ◌∷◌, ◌++◌, Option, None, Some, Bool, true, false, length, get_or, slice_get, slice_index_or, inl, inr, refl, sym, ap, subst, ◌∙◌, arith, length-append, cond}
use Rattle.std.proofs.lemmas.Bool.{and_parts, cases_Bool, eq-eqb, eqb-true, false≢true, cond-true, cond-false}
use Rattle.std.proofs.lemmas.List.{ext_get_or}
use Rattle.std.specs.Option.{is_some}
use Rattle.std.proofs.lemmas.Option.{slice_get-get_or, slice_get_within, get_or_from_slice_get}
use Rattle.cr_ints.specs.declared.kind.IntKind.{IntKind}
use Rattle.cr_ints.specs.declared.kind.IntKind.TheVariants.{Bool as BoolKind, Char, SChar, UChar, Short, UShort, Int as IntKind_Int, UInt, Long, ULong, LLong, ULLong}
use Rattle.cr_syntax.specs.declared.ctype.CType.{CType}
use Rattle.cr_syntax.specs.declared.ctype.CType.TheVariants.{Void, Int, Pointer, Array, Struct, Function, Unknown}
use Rattle.cr_check_types.specs.declared.shape.Shape.{Shape}
use Rattle.cr_check_types.specs.Types.{Qualified, plain, pointer, array, unknown, type_by, type_of, type_at, room_in, room_of, IsTable, IsRow, IsShape, Grows}
use Rattle.cr_check_types.specs.Relations.{number_of}
use Rattle.cr_check_types.specs.Shared.{IsDistinct, IsCanonical, HasNoRow, Gains, IsWith, has, gains, normal_by, normal_of, qualifiers_of, Key, key_by, key_of, same_key, IsOther, IsAbsent, AreShared}
use Rattle.cr_check_types.proofs.Tables.{append_row, append_grows, append_table, shape_at, slice_of}

-- ---- one type, one shape

-- a pointer, an array, or what is a plain type by its words
data Level (of : CType) : Type 0 where
  points : (row : ℕ) → of ≡ Pointer row → Level of
  counts : (row n : ℕ) → of ≡ Array row n → Level of
  flat : ((c v : Bool) (look : ℕ → Qualified) → type_by of c v look ≡ plain of c v)
      → ((c v : Bool) → normal_by of c v ≡ record { of = of; constant = c; volatile = v }) → Level of

level : (of : CType) → Level of
level (Pointer row) = points row refl
level (Array row n) = counts row n refl
level Void = flat (λ c v look. refl) (λ c v. refl)
level (Int kind) = flat (λ c v look. refl) (λ c v. refl)
level (Struct node) = flat (λ c v look. refl) (λ c v. refl)
level (Function node) = flat (λ c v look. refl) (λ c v. refl)
level Unknown = flat (λ c v look. refl) (λ c v. refl)

-- the shape of a plain type
abbrev shape_in : Qualified → Shape
shape_in (plain of c v) = record { of = of; constant = c; volatile = v }
shape_in (pointer c v t) = record { of = Void; constant = c; volatile = v }
shape_in (array n t) = record { of = Void; constant = false; volatile = false }

abbrev below : Qualified → Qualified
below (plain of c v) = unknown
below (pointer c v t) = t
below (array n t) = t

abbrev is_constant : Qualified → Bool
is_constant (plain of c v) = c
is_constant (pointer c v t) = c
is_constant (array n t) = false

abbrev is_volatile : Qualified → Bool
is_volatile (plain of c v) = v
is_volatile (pointer c v t) = v
is_volatile (array n t) = false

abbrev count_in : Qualified → ℕ
count_in (plain of c v) = 0
count_in (pointer c v t) = 0
count_in (array n t) = n

abbrev level_number : Qualified → ℕ
level_number (plain of c v) = 0
level_number (pointer c v t) = 1
level_number (array n t) = 2

-- where rows below the shapes' are told apart by their types
abbrev Tells : (ℕ → Qualified) → ℕ → ℕ → Type 0
Tells look bound most = (p q : ℕ) → p < bound → q < most → look p ≡ look q → p ≡ q

apart : {X : Type 0} (m n : ℕ) → m ≡ n → (m == n) ≡ false → X
apart m n e f = absurd (false≢true (sym f ∙ eq-eqb m n e))

same_by : (of other : CType) (c v d w : Bool) (look : ℕ → Qualified) → Level of → Level other → Tells look (room_in of) (room_in other)
    → type_by of c v look ≡ type_by other d w look → normal_by of c v ≡ normal_by other d w
same_by of other c v d w look (points row p) (points next q) tells e =
    let t : Tells look (suc row) (suc next) = rw (p, q) at tells in
    let f : pointer c v (look row) ≡ pointer d w (look next) = rw (p, q) at e in
    let r = t row next (omega arith) (omega arith) (ap below f) in
    let g : record { of = Pointer row; constant = c; volatile = v } ≡ record { of = Pointer next; constant = d; volatile = w } =
    rw (r, ap is_constant f, ap is_volatile f) refl in
    rw (p, q) g
same_by of other c v d w look (counts row n p) (counts next m q) tells e =
    let t : Tells look (suc row) (suc next) = rw (p, q) at tells in
    let f : array n (look row) ≡ array m (look next) = rw (p, q) at e in
    let r = t row next (omega arith) (omega arith) (ap below f) in
    rw (p, q) (rw (r, ap count_in f) refl)
same_by of other c v d w look (flat p n) (flat q m) tells e =
    n c v ∙ ap shape_in (sym (p c v look) ∙ e ∙ q d w look) ∙ sym (m d w)
same_by of other c v d w look (points row p) (counts next m q) tells e = apart 1 2 (ap level_number (rw (p, q) at e)) refl
same_by of other c v d w look (counts row n p) (points next q) tells e = apart 2 1 (ap level_number (rw (p, q) at e)) refl
same_by of other c v d w look (points row p) (flat q m) tells e = apart 1 0 (ap level_number ((rw p at e) ∙ q d w look)) refl
same_by of other c v d w look (counts row n p) (flat q m) tells e = apart 2 0 (ap level_number ((rw p at e) ∙ q d w look)) refl
same_by of other c v d w look (flat p n) (points next q) tells e = apart 0 1 (ap level_number (sym (p c v look) ∙ (rw q at e))) refl
same_by of other c v d w look (flat p n) (counts next m q) tells e = apart 0 2 (ap level_number (sym (p c v look) ∙ (rw q at e))) refl

same_shape : (s t : Shape) (look : ℕ → Qualified) → normal_of s ≡ s → normal_of t ≡ t → Tells look (room_of s) (room_of t)
    → type_of look s ≡ type_of look t → s ≡ t
same_shape s t look n m tells e =
    sym n ∙ same_by s.of t.of s.constant s.volatile t.constant t.volatile look (level s.of) (level t.of) tells e ∙ m

-- ---- one type, one row

abbrev some_row : Option ℕ → ℕ
some_row None = 0
some_row (Some row) = row

distinct_below : (shapes : List Shape) (rows : Key → Option ℕ) → AreShared shapes rows → (bound row other : ℕ) → row < bound
    → row < length shapes → other < length shapes → type_at shapes row ≡ type_at shapes other → row ≡ other
distinct_below shapes rows h zero row other low a b e = absurd (let no : ⊥ = omega (arith, low) in no)
distinct_below shapes rows h (suc bound) row other low a b e =
    let d : Shape = record { of = Unknown; constant = false; volatile = false } in
    let s = get_or shapes row d in
    let t = get_or shapes other d in
    let is = shape_at shapes row d h.table a in
    let are = shape_at shapes other d h.table b in
    let at = slice_get-get_or shapes row d a in
    let there = slice_get-get_or shapes other d b in
    let room = is.below in
    let space = are.below in
    let same : s ≡ t = same_shape s t (type_at shapes) (h.normal row s at) (h.normal other t there)
    (λ p q l m f. distinct_below shapes rows h bound p q (omega (arith, l, room, low)) (omega (arith, l, room, a)) (omega (arith, m, space, b)) f)
    (sym is.is ∙ e ∙ are.is) in
    ap some_row (sym (h.found row s at) ∙ ap (λ x. rows (key_of x)) same ∙ h.found other t there)

pub distinct : (shapes : List Shape) (rows : Key → Option ℕ) → AreShared shapes rows → IsDistinct shapes
distinct shapes rows h row other a b e = distinct_below shapes rows h (suc row) row other (omega arith) a b e

pub canonical : (shapes : List Shape) (rows : Key → Option ℕ) → AreShared shapes rows → IsCanonical shapes
canonical shapes rows h = record { table = h.table; normal = h.normal; distinct = distinct shapes rows h }

-- tables with the same types in the same rows
pub same_table : (a b : List Shape) → IsCanonical a → IsCanonical b → length a ≡ length b → ((row : ℕ) → type_at a row ≡ type_at b row) → a ≡ b
same_table a b h k count same =
    let d : Shape = record { of = Unknown; constant = false; volatile = false } in
    ext_get_or d a b count
    (λ row low.
    let under : row < length b = omega (arith, low, count) in
    let is = shape_at a row d h.table low in
    let are = shape_at b row d k.table under in
    let room = is.below in
    let space = are.below in
    same_shape (get_or a row d) (get_or b row d) (type_at a)
    (h.normal row (get_or a row d) (slice_get-get_or a row d low)) (k.normal row (get_or b row d) (slice_get-get_or b row d under))
    (λ p q l m e. h.distinct p q (omega (arith, l, room, low)) (omega (arith, m, space, low)) e)
    (sym is.is ∙ same row ∙ are.is ∙ ap (λ look. type_of look (get_or b row d)) (λ i. λ p. sym (same p) i)))

-- a type whose shape has no row has none
pub no_row : (shapes : List Shape) (rows : Key → Option ℕ) (s : Shape) → AreShared shapes rows → normal_of s ≡ s → IsAbsent shapes s
    → room_of s ≤ length shapes → HasNoRow shapes (type_of (type_at shapes) s)
no_row shapes rows s h normal absent room row low e =
    let t = get_or shapes row s in
    let is = shape_at shapes row s h.table low in
    let at = slice_get-get_or shapes row s low in
    let under = is.below in
    let same : t ≡ s = same_shape t s (type_at shapes) (h.normal row t at) normal
    (λ p q l m f. distinct shapes rows h p q (omega (arith, l, under, low)) (omega (arith, m, room)) f)
    (sym is.is ∙ e) in
    absent row (at ∙ ap Some same)

-- ---- keys

-- the kind of a number, as `number_of` numbers them
abbrev pub kind_of : ℕ → IntKind
kind_of zero = BoolKind
kind_of (suc zero) = Char
kind_of (suc (suc zero)) = SChar
kind_of (suc (suc (suc zero))) = UChar
kind_of (suc (suc (suc (suc zero)))) = Short
kind_of (suc (suc (suc (suc (suc zero))))) = UShort
kind_of (suc (suc (suc (suc (suc (suc zero)))))) = IntKind_Int
kind_of (suc (suc (suc (suc (suc (suc (suc zero))))))) = UInt
kind_of (suc (suc (suc (suc (suc (suc (suc (suc zero)))))))) = Long
kind_of (suc (suc (suc (suc (suc (suc (suc (suc (suc zero))))))))) = ULong
kind_of (suc (suc (suc (suc (suc (suc (suc (suc (suc (suc zero)))))))))) = LLong
kind_of (suc (suc (suc (suc (suc (suc (suc (suc (suc (suc (suc more))))))))))) = ULLong

pub kind_is : (kind : IntKind) → kind_of (number_of kind) ≡ kind
kind_is BoolKind = refl
kind_is Char = refl
kind_is SChar = refl
kind_is UChar = refl
kind_is Short = refl
kind_is UShort = refl
kind_is IntKind_Int = refl
kind_is UInt = refl
kind_is Long = refl
kind_is ULong = refl
kind_is LLong = refl
kind_is ULLong = refl

abbrev type_from : ℕ → ℕ → ℕ → CType
type_from zero x y = Void
type_from (suc zero) x y = Int (kind_of x)
type_from (suc (suc zero)) x y = Pointer x
type_from (suc (suc (suc zero))) x y = Array x y
type_from (suc (suc (suc (suc zero)))) x y = Struct x
type_from (suc (suc (suc (suc (suc zero))))) x y = Function x
type_from (suc (suc (suc (suc (suc (suc more)))))) x y = Unknown

abbrev constant_from : ℕ → Bool
constant_from zero = false
constant_from (suc zero) = false
constant_from (suc (suc more)) = true

abbrev volatile_from : ℕ → Bool
volatile_from zero = false
volatile_from (suc zero) = true
volatile_from (suc (suc zero)) = false
volatile_from (suc (suc (suc more))) = true

abbrev shape_from : Key → Shape
shape_from k = record { of = type_from k.0.0 k.1.0 k.1.1; constant = constant_from k.0.1; volatile = volatile_from k.0.1 }

type_is : (of : CType) (q : ℕ) → type_from (key_by of q).0.0 (key_by of q).1.0 (key_by of q).1.1 ≡ of
type_is Void q = refl
type_is (Int kind) q = ap Int (kind_is kind)
type_is (Pointer row) q = refl
type_is (Array row n) q = refl
type_is (Struct node) q = refl
type_is (Function node) q = refl
type_is Unknown q = refl

flags_at : (of : CType) (q : ℕ) → (key_by of q).0.1 ≡ q
flags_at Void q = refl
flags_at (Int kind) q = refl
flags_at (Pointer row) q = refl
flags_at (Array row n) q = refl
flags_at (Struct node) q = refl
flags_at (Function node) q = refl
flags_at Unknown q = refl

constant_is : (c v : Bool) → constant_from (qualifiers_of c v) ≡ c
constant_is false false = refl
constant_is false true = refl
constant_is true false = refl
constant_is true true = refl

volatile_is : (c v : Bool) → volatile_from (qualifiers_of c v) ≡ v
volatile_is false false = refl
volatile_is false true = refl
volatile_is true false = refl
volatile_is true true = refl

shape_is : (s : Shape) → shape_from (key_of s) ≡ s
shape_is s =
    let q = qualifiers_of s.constant s.volatile in
    let t = type_is s.of q in
    let f = flags_at s.of q in
    rw (t, f, constant_is s.constant s.volatile, volatile_is s.constant s.volatile) refl

same_is : (a b : Key) → same_key a b ≡ true → a ≡ b
same_is ((p, q), (x, y)) ((r, s), (z, w)) e =
    let both = and_parts ((p == r) && (q == s)) ((x == z) && (y == w)) e in
    let one = and_parts (p == r) (q == s) both.0 in
    let two = and_parts (x == z) (y == w) both.1 in
    rw (eqb-true p r one.0, eqb-true q s one.1, eqb-true x z two.0, eqb-true y w two.1) refl

same_itself : (a : Key) → same_key a a ≡ true
same_itself ((p, q), (x, y)) = rw (eq-eqb p p refl, eq-eqb q q refl, eq-eqb x x refl, eq-eqb y y refl) refl

-- ---- looking for a shape

-- no row is known by its key
pub missing : (shapes : List Shape) (rows : Key → Option ℕ) (s : Shape) → AreShared shapes rows → rows (key_of s) ≡ None → IsAbsent shapes s
missing shapes rows s h none row at = absurd (false≢true (let e = sym none ∙ h.found row s at in ap is_some e))

-- the row that is known has another shape
pub elsewhere : (shapes : List Shape) (rows : Key → Option ℕ) (s : Shape) (known : ℕ) → AreShared shapes rows → rows (key_of s) ≡ Some known
    → IsOther shapes known s → IsAbsent shapes s
elsewhere shapes rows s known h is other row at =
    let same : row ≡ known = ap some_row (sym (h.found row s at) ∙ is) in
    other (subst (λ k. slice_get shapes k ≡ Some s) same at)

-- a row has a shape, or another one
pub same_there : (shapes : List Shape) (row : ℕ) (found s : Shape) (same : Bool) → row < length shapes → IsShape shapes row found
    → same ≡ same_key (key_of found) (key_of s) → same ≡ true → IsRow shapes row (type_of (type_at shapes) s)
same_there shapes row found s same low is e t =
    let equal : found ≡ s = sym (shape_is found) ∙ ap shape_from (same_is (key_of found) (key_of s) (sym e ∙ t)) ∙ shape_is s in
    record { within = low; is = is.is ∙ ap (type_of (type_at shapes)) equal }

pub same_other : (shapes : List Shape) (row : ℕ) (found s : Shape) (same : Bool) → slice_get shapes row ≡ Some found
    → same ≡ same_key (key_of found) (key_of s) → same ≡ false → IsOther shapes row s
same_other shapes row found s same at e f is =
    let equal : found ≡ s = sym (get_or_from_slice_get shapes row found found at) ∙ get_or_from_slice_get shapes row s found is in
    false≢true (sym f ∙ e ∙ ap (λ x. same_key (key_of found) (key_of x)) (sym equal) ∙ same_itself (key_of found))

pub past_other : (shapes : List Shape) (row : ℕ) (s : Shape) → length shapes ≤ row → IsOther shapes row s
past_other shapes row s past at = let low = slice_get_within shapes row s at in omega (arith, low, past)

-- ---- one row more

-- the map of rows with one key more
pub record Puts (rows more : Key → Option ℕ) (key : Key) (row : ℕ) : Type 0 where
  pub at : (q : Key) → more q ≡ cond (same_key key q) (Some row) (rows q)

pub puts_at : (rows more : Key → Option ℕ) (given key : Key) (row n : ℕ) → given ≡ key → row ≡ n
    → ((q : Key) → more q ≡ cond (same_key given q) (Some row) (rows q)) → Puts rows more key n
puts_at rows more given key row n e f h = subst (λ k. Puts rows more k n) e (subst (λ m. Puts rows more given m) f (record { at = h }))

put_other : (shapes : List Shape) (rows more : Key → Option ℕ) (s t : Shape) (n row : ℕ) → IsAbsent shapes s → Puts rows more (key_of s) n
    → slice_get shapes row ≡ Some t → rows (key_of t) ≡ Some row → more (key_of t) ≡ Some row
put_other shapes rows more s t n row absent p at e = elim (cases_Bool (same_key (key_of s) (key_of t))) [
  | inl same ↦ absurd (absent row (at ∙ ap Some (sym (sym (shape_is s) ∙ ap shape_from (same_is (key_of s) (key_of t) same) ∙ shape_is t))))
  | inr other ↦ p.at (key_of t) ∙ cond-false (same_key (key_of s) (key_of t)) (Some n) (rows (key_of t)) other ∙ e
]

-- the rows that were there are found
pub put_before : (shapes : List Shape) (rows more : Key → Option ℕ) (s : Shape) (n : ℕ) → AreShared shapes rows → IsAbsent shapes s
    → Puts rows more (key_of s) n → AreShared shapes more
put_before shapes rows more s n h absent p = record {
  table = h.table;
  normal = h.normal;
  found = λ row t at. put_other shapes rows more s t n row absent p at (h.found row t at);
}

-- and the row behind them
pub put_behind : (shapes : List Shape) (rows more : Key → Option ℕ) (s : Shape) → AreShared shapes rows → normal_of s ≡ s → IsAbsent shapes s
    → room_of s ≤ length shapes → Puts rows more (key_of s) (length shapes) → AreShared (shapes ++ s ∷ []) more
put_behind shapes rows more s h normal absent room p = record {
  table = append_table shapes s h.table room;
  normal = λ row t at. elim (slice_of shapes s t row at) [
    | inl older ↦ h.normal row t older
    | inr last ↦ rw last.1 normal
  ];
  found = λ row t at. elim (slice_of shapes s t row at) [
    | inl older ↦ put_other shapes rows more s t (length shapes) row absent p older (h.found row t older)
    | inr last ↦ rw (last.0, last.1) (p.at (key_of s) ∙ cond-true (same_key (key_of s) (key_of s)) (Some (length shapes)) (rows (key_of s)) (same_itself (key_of s)))
  ];
}

pub append_gains : (shapes : List Shape) (rows : Key → Option ℕ) (s : Shape) → AreShared shapes rows → normal_of s ≡ s → IsAbsent shapes s
    → room_of s ≤ length shapes → IsWith shapes (type_of (type_at shapes) s) (shapes ++ s ∷ [])
append_gains shapes rows s h normal absent room = gains (record {
  none = no_row shapes rows s h normal absent room;
  longer = omega (arith, length-append shapes (s ∷ []));
  grows = append_grows shapes s;
  last = append_row shapes [] s;
})
