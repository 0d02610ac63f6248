-- Products that are cut off where they don't fit.
use Rattle.std.proofs.Common.{◌≡◌, ℕ, zero, suc, ◌+◌, ◌-◌, ◌*◌, ◌<◌, ◌≤◌, ◌^◌, min, Bool, inl, inr, subst, refl, ap, sym, ◌∙◌, arith}
use Rattle.std.proofs.Math.Nat.{mul_assoc}
use Rattle.std.proofs.lemmas.Bool.{cases_lt}
use Rattle.cr_syntax.specs.declared.ctype.CType.{CType}
use Rattle.cr_syntax.specs.declared.ctype.CType.TheVariants.{Void, Int, Pointer, Array, Struct, Function, Unknown}
use Rattle.cr_check_types.specs.declared.shape.Shape.{Shape}
use Rattle.cr_check_types.specs.Types.{Qualified, array, type_by, type_of, room_in, room_of}
use Rattle.cr_check_types.specs.Layouts.{fitted, count_of, element_of}

cut_by : (m a c : ℕ) → m < a → min (min a m * c) m ≡ min (a * c) m
cut_by m a zero h = omega arith
cut_by m a (suc c) h =
    let e : min a m ≡ m = omega (arith, h) in
    let p : m * suc c ≡ m + m * c = omega arith in
    let q : a * suc c ≡ a + a * c = omega arith in
    rw (e, p, q) (omega (arith, h))

pub cut : (a c : ℕ) → fitted (fitted a * c) ≡ fitted (a * c)
cut a c = elim (cases_lt (2 ^ 64 - 1) a) [
  | inl more ↦ cut_by (2 ^ 64 - 1) a c more
  | inr fits ↦ let e : min a (2 ^ 64 - 1) ≡ a = omega (arith, fits) in ap (λ n. fitted (n * c)) e
]

pub cut_step : (a n c : ℕ) → fitted (fitted (a * n) * c) ≡ fitted (a * (n * c))
cut_step a n c = cut (a * n) c ∙ ap fitted (mul_assoc a n c)

-- what is no array is its one element
pub record IsSingle (t : Qualified) : Type 0 where
  pub element : element_of t ≡ t
  pub count : count_of t ≡ 1

single_by : (of : CType) (c v : Bool) (look : ℕ → Qualified) → ((row n : ℕ) → of ≡ Array row n → ⊥) → IsSingle (type_by of c v look)
single_by (Array row n) c v look other = absurd (other row n refl)
single_by (Pointer row) c v look other = record { element = refl; count = refl }
single_by Void c v look other = record { element = refl; count = refl }
single_by (Int kind) c v look other = record { element = refl; count = refl }
single_by (Struct node) c v look other = record { element = refl; count = refl }
single_by (Function node) c v look other = record { element = refl; count = refl }
single_by Unknown c v look other = record { element = refl; count = refl }

pub single : (t : Qualified) (s : Shape) (look : ℕ → Qualified) → t ≡ type_of look s → ((row n : ℕ) → s.of ≡ Array row n → ⊥) → IsSingle t
single t s look e other = subst IsSingle (sym e) (single_by s.of s.constant s.volatile look other)

pub counted : (count each total : ℕ) → count < 2 ^ 64 → each ≡ 1 → fitted (count * each) ≡ total → count ≡ total
counted count each total fits e f =
    let one : count * each ≡ count = rw e (omega arith) in
    let whole : fitted count ≡ total = ap fitted (sym one) ∙ f in
    omega (arith, fits, whole)

-- a step from an array to its elements
pub record IsArray (t : Qualified) (n : ℕ) (below : Qualified) : Type 0 where
  pub count : count_of t ≡ n * count_of below
  pub element : element_of t ≡ element_of below

pub array_is : (t : Qualified) (s : Shape) (look : ℕ → Qualified) (row n : ℕ) → t ≡ type_of look s → s.of ≡ Array row n → IsArray t n (look row)
array_is t s look row n e f =
    let is : t ≡ array n (look row) = e ∙ ap (λ of. type_by of s.constant s.volatile look) f in
    record { count = rw is refl; element = rw is refl }

pub room_is : (s : Shape) (row n bound : ℕ) → room_of s ≤ bound → s.of ≡ Array row n → row < bound
room_is s row n bound h f = by s.of h f
  where
    by : (of : CType) → room_in of ≤ bound → of ≡ Array row n → row < bound
    by of k e = let r = rw e at k in omega (arith, r)
