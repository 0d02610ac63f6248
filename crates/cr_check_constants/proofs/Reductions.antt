-- A number and what is left of it modulo 2^64 convert to one value.
use Rattle.std.proofs.Common.{◌≡◌, ◌≢◌, ℕ, zero, suc, ◌+◌, ◌*◌, ◌/◌, ◌<◌, ◌^◌, ℤ, pos, negsuc, ◌+ℤ◌, ◌⊎◌, inl, inr, sym, ◌∙◌, lit<, arith}
use Rattle.std.proofs.lemmas.Nat.{div-add-mod'}
use Rattle.std.proofs.Math.Nat.{mul_assoc, mod-lt}
use Rattle.std.proofs.lemmas.Int.{ints}
use Rattle.std.specs.Int.{int_rem_euclid}
use Rattle.cr_ints.specs.declared.kind.IntKind.{IntKind}
use Rattle.cr_ints.specs.declared.kind.IntKind.TheVariants.{Bool as BoolKind, Char, SChar, UChar, Short, UShort, Int, UInt, Long, ULong, LLong, ULLong}
use Rattle.cr_ints.specs.IntKind.{width_of, IsInteger}
use Rattle.cr_ints.specs.Conversions.{wrapped, convert_of}
use Rattle.cr_ints.specs.Laws.{IsCongruent}
use Rattle.cr_ints.proofs.Ranges.{each, wrapped-represents, remainder}
use Rattle.cr_ints.proofs.Congruence.{congruent-unique, wrapped-congruent, convert_of-wraps}

-- ---- congruent numbers

split : (a b : ℕ) → ((c : ℕ) × (a ≡ b + c)) ⊎ ((c : ℕ) × (b ≡ a + c))
split zero b = inr (b, omega arith)
split (suc a) zero = inl (suc a, omega arith)
split (suc a) (suc b) = elim (split a b) [ inl p ↦ inl (p.0, let e = p.1 in omega arith) | inr p ↦ inr (p.0, let e = p.1 in omega arith) ]

spread : (b c m : ℕ) → (b + c) * m ≡ b * m + c * m
spread b c m = omega arith

-- two numbers that are congruent to one
apart : (a b m : ℕ) (x r v : ℤ) → r ≡ x +ℤ pos (a * m) → v ≡ x +ℤ pos (b * m) → IsCongruent m r v
apart a b m x r v e f = elim (split a b) [
  | inl p ↦ let s = spread b p.0 m in let t : a * m ≡ b * m + p.0 * m = rw p.1 s in (p.0, inl (omega (arith, ints)))
  | inr p ↦ let s = spread a p.0 m in let t : b * m ≡ a * m + p.0 * m = rw p.1 s in (p.0, inr (omega (arith, ints)))
]

-- congruence goes on from one number to the next
pub chained : (m : ℕ) (r x v : ℤ) → IsCongruent m r x → IsCongruent m x v → IsCongruent m r v
chained m r x v (a, inl e) (b, inl f) = (a + b, inl (let s = spread a b m in omega (arith, ints)))
chained m r x v (a, inl e) (b, inr f) = apart a b m x r v e f
chained m r x v (a, inr e) (b, inl f) = joined a b m r x v e f
  where
    joined : (c d n : ℕ) (p y w : ℤ) → y ≡ p +ℤ pos (c * n) → y ≡ w +ℤ pos (d * n) → IsCongruent n p w
    joined c d n p y w g h = elim (split c d) [
      | inl q ↦ let s = spread d q.0 n in let t : c * n ≡ d * n + q.0 * n = rw q.1 s in (q.0, inr (omega (arith, ints)))
      | inr q ↦ let s = spread c q.0 n in let t : d * n ≡ c * n + q.0 * n = rw q.1 s in (q.0, inl (omega (arith, ints)))
    ]
chained m r x v (a, inr e) (b, inr f) = (a + b, inr (let s = spread a b m in omega (arith, ints)))

-- ---- reductions

-- what is left modulo a number is congruent modulo each of its divisors
left_congruent : (m k : ℕ) (value : ℤ) → 0 < k * m → IsCongruent m (int_rem_euclid value (pos (k * m))) value
left_congruent m k (pos a) h =
    let d = div-add-mod' a (k * m) in let s = mul_assoc (a / (k * m)) k m in
    (a / (k * m) * k, inr (omega (arith, ints)))
left_congruent m k (negsuc a) h =
    let d = div-add-mod' a (k * m) in let s = mul_assoc (a / (k * m) + 1) k m in
    let l = mod-lt a h in
    ((a / (k * m) + 1) * k, inl (omega (arith, ints)))

-- the conversions of both are one, to any kind but `_Bool`
same_wrapped : (kind : IntKind) (k : ℕ) (value : ℤ) → 0 < k * 2 ^ width_of kind
    → wrapped kind (int_rem_euclid value (pos (k * 2 ^ width_of kind))) ≡ wrapped kind value
same_wrapped kind k value h =
    let rest = int_rem_euclid value (pos (k * 2 ^ width_of kind)) in
    congruent-unique kind (wrapped kind rest) (wrapped kind value) value
    (wrapped-represents kind rest) (wrapped-represents kind value)
    (chained (2 ^ width_of kind) (wrapped kind rest) rest value (wrapped-congruent kind rest) (left_congruent (2 ^ width_of kind) k value h))
    (wrapped-congruent kind value)

reduced_wrapped : (kind : IntKind) (value : ℤ) → wrapped kind (int_rem_euclid value (pos (2 ^ 64))) ≡ wrapped kind value
reduced_wrapped = each (λ kind. (value : ℤ) → wrapped kind (int_rem_euclid value (pos (2 ^ 64))) ≡ wrapped kind value)
    (λ v. same_wrapped BoolKind (2 ^ 63) v (lit< tt)) (λ v. same_wrapped Char (2 ^ 56) v (lit< tt))
    (λ v. same_wrapped SChar (2 ^ 56) v (lit< tt)) (λ v. same_wrapped UChar (2 ^ 56) v (lit< tt))
    (λ v. same_wrapped Short (2 ^ 48) v (lit< tt)) (λ v. same_wrapped UShort (2 ^ 48) v (lit< tt))
    (λ v. same_wrapped Int (2 ^ 32) v (lit< tt)) (λ v. same_wrapped UInt (2 ^ 32) v (lit< tt))
    (λ v. same_wrapped Long 1 v (lit< tt)) (λ v. same_wrapped ULong 1 v (lit< tt))
    (λ v. same_wrapped LLong 1 v (lit< tt)) (λ v. same_wrapped ULLong 1 v (lit< tt))

pub converts : (value : ℤ) (kind : IntKind) → kind ≢ BoolKind
    → convert_of (int_rem_euclid value (pos (2 ^ 64))) kind ≡ convert_of value kind
converts value kind other =
    convert_of-wraps (int_rem_euclid value (pos (2 ^ 64))) kind other ∙ reduced_wrapped kind value ∙ sym (convert_of-wraps value kind other)

-- and what is left is an integer of some kind
pub reduced_integer : (value : ℤ) → IsInteger (int_rem_euclid value (pos (2 ^ 64)))
reduced_integer value = let r = remainder value (2 ^ 64) (lit< tt) in let b = r.below in
    rw r.is (record { from_least = omega (arith, ints); to_greatest = omega (arith, ints) })
