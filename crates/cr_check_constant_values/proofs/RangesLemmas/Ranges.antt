-- Which values the rules of constants give.
use Rattle.std.proofs.Common.{◌≡◌, ℕ, ℤ, pos, ◌-◌, ◌^◌, ◌<◌, ◌==◌, Bool, true, false, List, [], ◌∷◌, Option, None, Some, cond, refl, sym, ap, subst, ◌∙◌, arith, if◌then◌else◌, ◌≤ℤ◌}
use Rattle.std.specs.Prelude.{int_le, nat_le}
use Rattle.std.specs.List.{find, count_by}
use Rattle.std.specs.Option.{option_or}
use Rattle.std.specs.Int.Signed.{le_z_yes}
use Rattle.std.proofs.lemmas.Bool.{and_parts}
use Rattle.std.proofs.lemmas.Int.{ints}
use Rattle.cr_ints.specs.declared.kind.IntKind.{IntKind}
use Rattle.cr_ints.specs.declared.kind.IntKind.TheVariants.{Char, Int, Long, LLong, ULong}
use Rattle.cr_ints.specs.IntKind.{least_of, greatest_of, Represents, can_represent}
use Rattle.cr_ints.proofs.Congruence.{convert_of-represents}
use Rattle.cr_ints.proofs.Promotions.{promote_of-represents}
use Rattle.cr_ints.proofs.Ranges.{narrow_least}
use Rattle.cr_tokens.specs.Numbers.{base_of, body_of, radix_of, is_unsigned}
use Rattle.cr_check_constants.specs.Constants.{in_kind}
use Rattle.cr_check_constants.specs.declared.constant.Constant.TheVariants as constant
use Rattle.cr_check_constants.specs.declared.constant.Operand.{Operand}
use Rattle.cr_check_constants.specs.Literals.{digits_of, magnitude_of, is_long_letter, reaches, with_signs, first_sign, first_kind, valued, inside_of, code_of, character_of_code}
use Rattle.cr_check_constant_values.specs.Ranges.Laws.{IsInRange, IntegersAreInRange, CharactersAreInRange, EnumeratorsAreInRange, SizesAreInRange}

at_most : (a b : ℤ) → int_le a b ≡ true → a ≤ℤ b
at_most a b e = le_z_yes (rw e tt)

-- ---- integer constants

-- what is found passes the test
found_passes : (test : IntKind → Bool) (kinds : List IntKind) (kind : IntKind) → find test kinds ≡ Some kind → test kind ≡ true
found_passes test [] kind e = absurd (cc e)
found_passes test (first ∷ kinds) kind e = by (test first) refl e (λ f. found_passes test kinds kind f)
  where
    by : (b : Bool) → test first ≡ b → cond b (Some first) (find test kinds) ≡ Some kind → (find test kinds ≡ Some kind → test kind ≡ true) → test kind ≡ true
    by true q f rest = let same : first ≡ kind = cc f in ap test (sym same) ∙ q
    by false q f rest = rest f

abbrev Reached : ℕ → Option IntKind → Type 0
Reached number o = (kind : IntKind) → o ≡ Some kind → reaches number kind ≡ true

sign_reaches : (radix : ℕ) (unsigned : Bool) (number : ℕ) (kind : IntKind) → Reached number (first_sign radix unsigned number kind)
sign_reaches radix unsigned number kind own e = found_passes (reaches number) (with_signs radix unsigned kind) own e

or_reaches : (number : ℕ) (one other : Option IntKind) → Reached number one → Reached number other → Reached number (option_or one other)
or_reaches number None other h g = g
or_reaches number (Some kind) other h g = h

either_reaches : (number : ℕ) (b : Bool) (one other : Option IntKind) → Reached number one → Reached number other → Reached number (if b then one else other)
either_reaches number true one other h g = h
either_reaches number false one other h g = g

kind_reaches : (radix : ℕ) (unsigned : Bool) (longs number : ℕ) → Reached number (first_kind radix unsigned longs number)
unfolding first_kind
kind_reaches radix unsigned longs number =
    let int = sign_reaches radix unsigned number Int in
    let long = sign_reaches radix unsigned number Long in
    let longest = sign_reaches radix unsigned number LLong in
    either_reaches number (longs == 0) _ _ (or_reaches number _ _ int (or_reaches number _ _ long longest)) (either_reaches number (longs == 1) _ _ (or_reaches number _ _ long longest) longest)

-- a number that isn't negative, and that the kind reaches
within : (number : ℕ) (kind : IntKind) → reaches number kind ≡ true → Represents kind (pos number)
within number kind e = record {
  from_least = (let low = (narrow_least kind).1 in omega (arith, ints, low));
  to_greatest = at_most (pos number) (greatest_of kind) e;
}

-- the value of an operand that is given one
of_value : (kind : IntKind) (w : ℤ) (x : Operand) → record { kind = kind; constant = constant.Value w } ≡ x → Represents kind w → IsInRange x
of_value kind w x e h v f =
    let value : constant.Value w ≡ constant.Value v = ap (λ (o : Operand). o.constant) e ∙ f in
    let same : w ≡ v = cc value in
    subst (λ (o : Operand). Represents o.kind v) e (subst (Represents kind) same h)

valued_within : (number : ℕ) (o : Option IntKind) (x : Operand) → Reached number o → valued number o ≡ Some x → IsInRange x
valued_within number None x h e = absurd (cc e)
valued_within number (Some kind) x h e = let same : record { kind = kind; constant = constant.Value (pos number) } ≡ x = cc e in of_value kind (pos number) x same (within number kind (h kind refl))

pub integers : IntegersAreInRange
integers spelling x e =
    let radix = radix_of (base_of spelling) in
    let number = magnitude_of radix (digits_of (body_of (base_of spelling) spelling)) in
    valued_within number (first_kind radix (is_unsigned spelling) (count_by is_long_letter spelling) number) x (kind_reaches radix (is_unsigned spelling) (count_by is_long_letter spelling) number) e

-- ---- character constants

char_within : (code : ℕ) → Represents Int (in_kind Char (pos code))
unfolding in_kind
char_within code = promote_of-represents Char _ (convert_of-represents (pos code) Char)

code_within : (code : ℕ) (x : Operand) → character_of_code code ≡ Some x → IsInRange x
code_within code x e = by (nat_le code 255) e
  where
    by : (b : Bool) → (if b then Some (record { kind = Int; constant = constant.Value (in_kind Char (pos code)) }) else None) ≡ Some x → IsInRange x
    by true f = let same : record { kind = Int; constant = constant.Value (in_kind Char (pos code)) } ≡ x = cc f in of_value Int (in_kind Char (pos code)) x same (char_within code)
    by false f = absurd (cc f)

pub characters : CharactersAreInRange
characters spelling x e = code_within (code_of (inside_of spelling)) x e

-- ---- enumerators and sizes

enumerator_by : (value v : ℤ) (b : Bool) → can_represent Int value ≡ b → (if b then Some value else None) ≡ Some v → Represents Int v
enumerator_by value v true q e =
    let both = and_parts (int_le (least_of Int) value) (int_le value (greatest_of Int)) q in
    let same : value ≡ v = cc e in
    subst (Represents Int) same (record { from_least = at_most (least_of Int) value both.0; to_greatest = at_most value (greatest_of Int) both.1 })
enumerator_by value v false q e = absurd (cc e)

pub enumerators : EnumeratorsAreInRange
enumerators (constant.Value value) v e = enumerator_by value v (can_represent Int value) refl e
enumerators constant.Undefined v e = absurd (cc e)
enumerators constant.NotConstant v e = absurd (cc e)

size_within : (bytes : ℕ) → bytes < 2 ^ 64 → Represents ULong (pos bytes)
size_within bytes low = record { from_least = omega (arith, ints); to_greatest = omega (arith, ints, low) }

pub sizes : SizesAreInRange
sizes bytes low v e = of_value ULong (pos bytes) _ refl (size_within bytes low) v e
