-- The bits of a value in two's complement.
use Rattle.std.proofs.Common.{◌≡◌, ◌≢◌, ℕ, zero, suc, true, unsigned_abs, ◌-◌, ◌<◌, ◌≤◌, ◌^◌, ℤ, pos, negsuc, neg_ℤ, ◌-ℤ◌, ◌⊎◌, inl, inr, refl, sym, ap, ◌∙◌, subst, arith}
use Rattle.std.proofs.lemmas.Int.{ints}
use Rattle.std.proofs.lemmas.Nat.{pow_pos}
use Rattle.cr_ints.specs.declared.kind.IntKind.{IntKind}
use Rattle.cr_ints.specs.declared.kind.IntKind.TheVariants.{Bool as BoolKind, Char, SChar, UChar, Short, UShort, Int, UInt, Long, ULong, LLong, ULLong}
use Rattle.cr_ints.specs.IntKind.{width_of, is_signed, greatest_of, unsigned_of, Represents}
use Rattle.cr_ints.specs.Conversions.{convert_of, wrapped}
use Rattle.cr_ints.specs.Bits.{bits_of, of_bits, not_of}
use Rattle.cr_ints.specs.Laws.{IsCongruent}
use Rattle.cr_ints.proofs.Ranges.{each}
use Rattle.cr_ints.proofs.Congruence.{congruent-unique, wrapped-congruent, convert_of-wraps, convert_of-represents}

turned : (modulus : ℕ) (left right : ℤ) → IsCongruent modulus left right → IsCongruent modulus right left
turned modulus left right (times, inl e) = (times, inr e)
turned modulus left right (times, inr e) = (times, inl e)

-- a value of an unsigned kind has no sign
plain : (kind : IntKind) (value : ℤ) → Represents (unsigned_of kind) value → pos (unsigned_abs value) ≡ value
plain = each (λ kind. (value : ℤ) → Represents (unsigned_of kind) value → pos (unsigned_abs value) ≡ value)
    (λ v h. omega (arith, ints)) (λ v h. omega (arith, ints)) (λ v h. omega (arith, ints)) (λ v h. omega (arith, ints))
    (λ v h. omega (arith, ints)) (λ v h. omega (arith, ints)) (λ v h. omega (arith, ints)) (λ v h. omega (arith, ints))
    (λ v h. omega (arith, ints)) (λ v h. omega (arith, ints)) (λ v h. omega (arith, ints)) (λ v h. omega (arith, ints))

pub bits-is : (kind : IntKind) (value : ℤ) → pos (bits_of kind value) ≡ convert_of value (unsigned_of kind)
bits-is kind value = plain kind (convert_of value (unsigned_of kind)) (convert_of-represents value (unsigned_of kind))

-- a kind that isn't `_Bool`, and its unsigned kind
pub record Plain (kind : IntKind) : Type 0 where
  pub itself : kind ≢ BoolKind
  pub unsigned : unsigned_of kind ≢ BoolKind
  pub width : width_of (unsigned_of kind) ≡ width_of kind
  pub greatest : unsigned_abs (greatest_of (unsigned_of kind)) ≡ 2 ^ width_of kind - 1

bits-congruent : (kind : IntKind) (value : ℤ) → Plain kind → IsCongruent (2 ^ width_of kind) value (pos (bits_of kind value))
bits-congruent kind value p =
    let P : ℕ → Type 0 = λ w. IsCongruent (2 ^ w) (wrapped (unsigned_of kind) value) value in
    let is : pos (bits_of kind value) ≡ wrapped (unsigned_of kind) value = bits-is kind value ∙ convert_of-wraps value (unsigned_of kind) p.unsigned in
    let Q : ℤ → Type 0 = λ z. IsCongruent (2 ^ width_of kind) z value in
    turned (2 ^ width_of kind) (pos (bits_of kind value)) value (subst Q (sym is) (subst P p.width (wrapped-congruent (unsigned_of kind) value)))

-- the value with given bits is the only one of the kind that is congruent to them
by_congruence : (kind : IntKind) (value : ℤ) (bits : ℕ) → kind ≢ BoolKind → Represents kind value → IsCongruent (2 ^ width_of kind) value (pos bits)
    → of_bits kind bits ≡ value
by_congruence kind value bits other h c =
    convert_of-wraps (pos bits) kind other
    ∙ congruent-unique kind (wrapped kind (pos bits)) value (pos bits)
    (rw (← convert_of-wraps (pos bits) kind other) (convert_of-represents (pos bits) kind)) h (wrapped-congruent kind (pos bits)) c

pub plain_kind : (kind : IntKind) → kind ≢ BoolKind → Plain kind
plain_kind BoolKind other = absurd (other refl)
plain_kind Char other = record { itself = other; unsigned = λ e. cc e; width = refl; greatest = refl }
plain_kind SChar other = record { itself = other; unsigned = λ e. cc e; width = refl; greatest = refl }
plain_kind UChar other = record { itself = other; unsigned = λ e. cc e; width = refl; greatest = refl }
plain_kind Short other = record { itself = other; unsigned = λ e. cc e; width = refl; greatest = refl }
plain_kind UShort other = record { itself = other; unsigned = λ e. cc e; width = refl; greatest = refl }
plain_kind Int other = record { itself = other; unsigned = λ e. cc e; width = refl; greatest = refl }
plain_kind UInt other = record { itself = other; unsigned = λ e. cc e; width = refl; greatest = refl }
plain_kind Long other = record { itself = other; unsigned = λ e. cc e; width = refl; greatest = refl }
plain_kind ULong other = record { itself = other; unsigned = λ e. cc e; width = refl; greatest = refl }
plain_kind LLong other = record { itself = other; unsigned = λ e. cc e; width = refl; greatest = refl }
plain_kind ULLong other = record { itself = other; unsigned = λ e. cc e; width = refl; greatest = refl }

-- ---- the way there and back

bool-bits : (value : ℤ) → Represents BoolKind value → of_bits BoolKind (bits_of BoolKind value) ≡ value
bool-bits (pos zero) h = refl
bool-bits (pos (suc zero)) h = refl
bool-bits (pos (suc (suc n))) h = absurd (omega (arith, ints, h))
bool-bits (negsuc n) h = absurd (omega (arith, ints, h))

is_bool : (kind : IntKind) → (kind ≡ BoolKind) ⊎ (kind ≢ BoolKind)
is_bool = each (λ kind. (kind ≡ BoolKind) ⊎ (kind ≢ BoolKind)) (inl refl)
    (inr (λ e. cc e)) (inr (λ e. cc e)) (inr (λ e. cc e)) (inr (λ e. cc e)) (inr (λ e. cc e)) (inr (λ e. cc e))
    (inr (λ e. cc e)) (inr (λ e. cc e)) (inr (λ e. cc e)) (inr (λ e. cc e)) (inr (λ e. cc e))

kept_by : (kind : IntKind) (value : ℤ) → (kind ≡ BoolKind) ⊎ (kind ≢ BoolKind) → Represents kind value → of_bits kind (bits_of kind value) ≡ value
kept_by kind value (inl e) h =
    let P : IntKind → Type 0 = λ k. Represents k value → of_bits k (bits_of k value) ≡ value in subst P (sym e) (bool-bits value) h
kept_by kind value (inr other) h =
    by_congruence kind value (bits_of kind value) other h (bits-congruent kind value (plain_kind kind other))

pub bits-kept : (kind : IntKind) (value : ℤ) → Represents kind value → of_bits kind (bits_of kind value) ≡ value
bits-kept kind value h = kept_by kind value (is_bool kind) h

-- ---- complements

signed_other : (kind : IntKind) → is_signed kind ≡ true → kind ≢ BoolKind
signed_other kind s e = cc (sym s ∙ ap is_signed e)

-- the least value is one further from 0 than the greatest
mirrored : (kind : IntKind) (value : ℤ) → is_signed kind ≡ true → Represents kind value → Represents kind (neg_ℤ value -ℤ pos 1)
mirrored = each (λ kind. (value : ℤ) → is_signed kind ≡ true → Represents kind value → Represents kind (neg_ℤ value -ℤ pos 1))
    (λ v s h. absurd (cc s)) (λ v s h. record { from_least = omega (arith, ints, h.to_greatest); to_greatest = omega (arith, ints, h.from_least) }) (λ v s h. record { from_least = omega (arith, ints, h.to_greatest); to_greatest = omega (arith, ints, h.from_least) }) (λ v s h. absurd (cc s))
    (λ v s h. record { from_least = omega (arith, ints, h.to_greatest); to_greatest = omega (arith, ints, h.from_least) }) (λ v s h. absurd (cc s)) (λ v s h. record { from_least = omega (arith, ints, h.to_greatest); to_greatest = omega (arith, ints, h.from_least) }) (λ v s h. absurd (cc s))
    (λ v s h. record { from_least = omega (arith, ints, h.to_greatest); to_greatest = omega (arith, ints, h.from_least) }) (λ v s h. absurd (cc s)) (λ v s h. record { from_least = omega (arith, ints, h.to_greatest); to_greatest = omega (arith, ints, h.from_least) }) (λ v s h. absurd (cc s))

complement_congruent : (modulus bits : ℕ) (value : ℤ) → bits < modulus → IsCongruent modulus value (pos bits)
    → IsCongruent modulus (neg_ℤ value -ℤ pos 1) (pos (modulus - 1 - bits))
complement_congruent modulus bits value b (times, inl e) = (suc times, inr (omega (arith, ints)))
complement_congruent modulus bits value b (zero, inr e) = (1, inr (omega (arith, ints)))
complement_congruent modulus bits value b (suc times, inr e) = (times, inl (omega (arith, ints)))

bits_below : (kind : IntKind) (value : ℤ) → Plain kind → bits_of kind value < 2 ^ width_of kind
bits_below kind value p =
    let r = convert_of-represents value (unsigned_of kind) in
    let g = p.greatest in
    let e = bits-is kind value in
    let t : unsigned_abs (convert_of value (unsigned_of kind)) ≤ unsigned_abs (greatest_of (unsigned_of kind)) = at_most kind _ r in
    let q = pow_pos (width_of kind) in
    omega (arith, ints)
  where
    at_most : (k : IntKind) (v : ℤ) → Represents (unsigned_of k) v → unsigned_abs v ≤ unsigned_abs (greatest_of (unsigned_of k))
    at_most = each (λ k. (v : ℤ) → Represents (unsigned_of k) v → unsigned_abs v ≤ unsigned_abs (greatest_of (unsigned_of k)))
        (λ v h. omega (arith, ints)) (λ v h. omega (arith, ints)) (λ v h. omega (arith, ints)) (λ v h. omega (arith, ints))
        (λ v h. omega (arith, ints)) (λ v h. omega (arith, ints)) (λ v h. omega (arith, ints)) (λ v h. omega (arith, ints))
        (λ v h. omega (arith, ints)) (λ v h. omega (arith, ints)) (λ v h. omega (arith, ints)) (λ v h. omega (arith, ints))

pub complement : (kind : IntKind) (value : ℤ) → is_signed kind ≡ true → Represents kind value → not_of kind value ≡ neg_ℤ value -ℤ pos 1
complement kind value s h =
    let p = plain_kind kind (signed_other kind s) in
    ap (λ n. of_bits kind (n - bits_of kind value)) p.greatest
    ∙ by_congruence kind (neg_ℤ value -ℤ pos 1) (2 ^ width_of kind - 1 - bits_of kind value) p.itself (mirrored kind value s h)
    (complement_congruent (2 ^ width_of kind) (bits_of kind value) value (bits_below kind value p) (bits-congruent kind value p))
