-- The operations on bits (C11 6.5.3.3p4, 6.5.10 to 6.5.12). Each is that of the bits of its operands, as numbers without
-- sign; the kind's value with the bits that come of it is the result.
use Rattle.std.specs.Prelude.{ℕ, ℤ, pos, ◌-◌, unsigned_abs, bit_and, bit_or, bit_xor}
use Rattle.cr_ints.specs.declared.kind.IntKind.{IntKind}
use Rattle.cr_ints.specs.IntKind.{greatest_of, unsigned_of}
use Rattle.cr_ints.specs.Conversions.{convert_of}

-- the bits of a value of the kind in two's complement (6.2.6.2p2): its conversion to the unsigned kind
abbrev pub bits_of : IntKind → ℤ → ℕ
bits_of kind value = unsigned_abs (convert_of value (unsigned_of kind))

-- the value of the kind with these bits: their conversion back
abbrev pub of_bits : IntKind → ℕ → ℤ
of_bits kind bits = convert_of (pos bits) kind

-- 6.5.10p4
abbrev pub bitand_of : IntKind → ℤ → ℤ → ℤ
bitand_of kind left right = of_bits kind (bit_and (bits_of kind left) (bits_of kind right))

-- 6.5.12p4
abbrev pub bitor_of : IntKind → ℤ → ℤ → ℤ
bitor_of kind left right = of_bits kind (bit_or (bits_of kind left) (bits_of kind right))

-- 6.5.11p4
abbrev pub bitxor_of : IntKind → ℤ → ℤ → ℤ
bitxor_of kind left right = of_bits kind (bit_xor (bits_of kind left) (bits_of kind right))

-- each bit is turned: the greatest value of the unsigned kind less the operand (6.5.3.3p4)
abbrev pub not_of : IntKind → ℤ → ℤ
not_of kind value = of_bits kind (unsigned_abs (greatest_of (unsigned_of kind)) - bits_of kind value)
