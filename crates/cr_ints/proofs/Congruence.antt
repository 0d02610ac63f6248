-- A range has exactly one value that is congruent to a given one.
use Rattle.std.proofs.Common.{◌≡◌, ◌≢◌, ℕ, zero, suc, Bool, true, false, if◌then◌else◌, ◌==◌, unsigned_abs, ◌+◌, ◌*◌, ◌/◌, ◌%◌, ◌<◌, ◌^◌, ℤ, pos, negsuc, ◌+ℤ◌, ◌-ℤ◌, ◌⊎◌, inl, inr, refl, sym, ap, ◌∙◌, arith}
use Rattle.std.proofs.Math.Nat.{add-mul-mod_self_right, mod-eq_of_lt}
use Rattle.std.proofs.lemmas.Nat.{pow_pos, div-add-mod'}
use Rattle.std.proofs.lemmas.Int.{ints}
use Rattle.std.specs.Int.{int_rem_euclid}
use Rattle.cr_ints.specs.declared.kind.IntKind.{IntKind}
use Rattle.cr_ints.specs.declared.kind.IntKind.TheVariants.{Bool as BoolKind, Char, SChar, UChar, Short, UShort, Int, UInt, Long, ULong, LLong, ULLong}
use Rattle.cr_ints.specs.IntKind.{width_of, least_of, Represents}
use Rattle.cr_ints.specs.Conversions.{wrapped, convert_of}
use Rattle.cr_ints.specs.Laws.{IsCongruent}
use Rattle.cr_ints.proofs.Ranges.{greatest_from_least, wrapped-represents}

-- a value of the range, by its distance from the least one
pub record Place (kind : IntKind) (value : ℤ) : Type 0 where
  pub offset : ℕ
  pub is : value ≡ least_of kind +ℤ pos offset
  pub below : offset < 2 ^ width_of kind

place_by : (kind : IntKind) (value distance : ℤ) → distance ≡ value -ℤ least_of kind → Represents kind value → Place kind value
place_by kind value (pos n) e h = let g = greatest_from_least kind in let p = pow_pos (width_of kind) in
    record { offset = n; is = omega (arith, ints); below = omega (arith, ints, h) }
place_by kind value (negsuc n) e h = absurd (omega (arith, ints, h))

pub place : (kind : IntKind) (value : ℤ) → Represents kind value → Place kind value
place kind value h = place_by kind value (value -ℤ least_of kind) refl h

same_rest : (modulus a b x y : ℕ) → a < modulus → b < modulus → a + x * modulus ≡ b + y * modulus → a ≡ b
same_rest modulus a b x y p q e = sym (rest modulus a x p) ∙ ap (λ n. n % modulus) e ∙ rest modulus b y q
  where
    rest : (m c z : ℕ) → c < m → (c + z * m) % m ≡ c
    rest m c z h = add-mul-mod_self_right c z m ∙ mod-eq_of_lt h

-- two values of the range that are congruent to one value are one
same_value : (modulus : ℕ) (least left right value : ℤ) (a b x y : ℕ) → a < modulus → b < modulus
    → left ≡ least +ℤ pos a → right ≡ least +ℤ pos b
    → (left ≡ value +ℤ pos (x * modulus)) ⊎ (value ≡ left +ℤ pos (x * modulus))
    → (right ≡ value +ℤ pos (y * modulus)) ⊎ (value ≡ right +ℤ pos (y * modulus)) → a ≡ b
same_value modulus least left right value a b x y p q l r (inl f) (inl g) = same_rest modulus a b y x p q (omega (arith, ints))
same_value modulus least left right value a b x y p q l r (inl f) (inr g) = same_rest modulus a b 0 (x + y) p q (omega (arith, ints))
same_value modulus least left right value a b x y p q l r (inr f) (inl g) = same_rest modulus a b (x + y) 0 p q (omega (arith, ints))
same_value modulus least left right value a b x y p q l r (inr f) (inr g) = same_rest modulus a b x y p q (omega (arith, ints))

pub congruent-unique : (kind : IntKind) (left right value : ℤ) → Represents kind left → Represents kind right
    → IsCongruent (2 ^ width_of kind) left value → IsCongruent (2 ^ width_of kind) right value → left ≡ right
congruent-unique kind left right value h k f g =
    let l = place kind left h in let r = place kind right k in
    let e = same_value _ (least_of kind) left right value l.offset r.offset f.0 g.0 l.below r.below l.is r.is f.1 g.1 in
    l.is ∙ ap (λ n. least_of kind +ℤ pos n) e ∙ sym r.is

wrapped-congruent_by : (kind : IntKind) (value distance : ℤ) → distance ≡ value -ℤ least_of kind
    → IsCongruent (2 ^ width_of kind) (least_of kind +ℤ int_rem_euclid distance (pos (2 ^ width_of kind))) value
wrapped-congruent_by kind value (pos a) e =
    let d = div-add-mod' a (2 ^ width_of kind) in (a / 2 ^ width_of kind, inr (omega (arith, ints)))
wrapped-congruent_by kind value (negsuc a) e =
    let d = div-add-mod' a (2 ^ width_of kind) in let p = pow_pos (width_of kind) in (a / 2 ^ width_of kind + 1, inl (omega (arith, ints)))

pub wrapped-congruent : (kind : IntKind) (value : ℤ) → IsCongruent (2 ^ width_of kind) (wrapped kind value) value
wrapped-congruent kind value = wrapped-congruent_by kind value (value -ℤ least_of kind) refl

-- the value itself, where the range has it
pub wrapped-kept : (kind : IntKind) (value : ℤ) → Represents kind value → wrapped kind value ≡ value
wrapped-kept kind value h =
    congruent-unique kind _ value value (wrapped-represents kind value) h (wrapped-congruent kind value) (0, inl (omega (arith, ints)))

-- a conversion to any kind but `_Bool` wraps
pub convert_of-wraps : (value : ℤ) (kind : IntKind) → kind ≢ BoolKind → convert_of value kind ≡ wrapped kind value
convert_of-wraps value BoolKind other = absurd (other refl)
convert_of-wraps value Char other = refl
convert_of-wraps value SChar other = refl
convert_of-wraps value UChar other = refl
convert_of-wraps value Short other = refl
convert_of-wraps value UShort other = refl
convert_of-wraps value Int other = refl
convert_of-wraps value UInt other = refl
convert_of-wraps value Long other = refl
convert_of-wraps value ULong other = refl
convert_of-wraps value LLong other = refl
convert_of-wraps value ULLong other = refl

bool-kept : (value : ℤ) → Represents BoolKind value → convert_of value BoolKind ≡ value
bool-kept (pos zero) h = refl
bool-kept (pos (suc zero)) h = refl
bool-kept (pos (suc (suc n))) h = absurd (omega (arith, ints, h))
bool-kept (negsuc n) h = absurd (omega (arith, ints, h))

bool-represents : (b : Bool) → Represents BoolKind (if b then pos 0 else pos 1)
bool-represents true = record { from_least = omega (arith, ints); to_greatest = omega (arith, ints) }
bool-represents false = record { from_least = omega (arith, ints); to_greatest = omega (arith, ints) }

pub convert_of-represents : (value : ℤ) (kind : IntKind) → Represents kind (convert_of value kind)
convert_of-represents value BoolKind = bool-represents (unsigned_abs value == 0)
convert_of-represents value Char = wrapped-represents Char value
convert_of-represents value SChar = wrapped-represents SChar value
convert_of-represents value UChar = wrapped-represents UChar value
convert_of-represents value Short = wrapped-represents Short value
convert_of-represents value UShort = wrapped-represents UShort value
convert_of-represents value Int = wrapped-represents Int value
convert_of-represents value UInt = wrapped-represents UInt value
convert_of-represents value Long = wrapped-represents Long value
convert_of-represents value ULong = wrapped-represents ULong value
convert_of-represents value LLong = wrapped-represents LLong value
convert_of-represents value ULLong = wrapped-represents ULLong value

pub convert_of-kept : (value : ℤ) (kind : IntKind) → Represents kind value → convert_of value kind ≡ value
convert_of-kept value BoolKind h = bool-kept value h
convert_of-kept value Char h = wrapped-kept Char value h
convert_of-kept value SChar h = wrapped-kept SChar value h
convert_of-kept value UChar h = wrapped-kept UChar value h
convert_of-kept value Short h = wrapped-kept Short value h
convert_of-kept value UShort h = wrapped-kept UShort value h
convert_of-kept value Int h = wrapped-kept Int value h
convert_of-kept value UInt h = wrapped-kept UInt value h
convert_of-kept value Long h = wrapped-kept Long value h
convert_of-kept value ULong h = wrapped-kept ULong value h
convert_of-kept value LLong h = wrapped-kept LLong value h
convert_of-kept value ULLong h = wrapped-kept ULLong value h
