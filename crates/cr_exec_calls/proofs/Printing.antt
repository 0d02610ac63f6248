-- The values that a call of the library takes.
use Rattle.std.proofs.Common.{◌≡◌, List, [], ◌∷◌, length, get_or, refl, sym, ap, arith}
use Rattle.cr_meaning.specs.declared.value.Value.{Value}

pub single : (given : List Value) (value : Value) → length given ≡ 1 → value ≡ get_or given 0 value → given ≡ value ∷ []
single [] value size e = absurd (omega (arith, size))
single (one ∷ []) value size e = ap (λ (v : Value). v ∷ []) (sym e)
single (one ∷ (other ∷ given)) value size e = absurd (omega (arith, size))
