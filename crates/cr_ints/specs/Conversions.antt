-- Conversions of integers (C11 6.3.1), over integers without bounds.
use Rattle.std.specs.Prelude.{◌≡◌, ℤ, pos, ◌+ℤ◌, ◌-ℤ◌, ◌==◌, nat_le, unsigned_abs, if◌then◌else◌}
use Rattle.std.specs.Int.{int_rem_euclid}
use Rattle.cr_ints.specs.declared.kind.IntKind.{IntKind}
use Rattle.cr_ints.specs.declared.kind.IntKind.TheVariants.{Bool as BoolKind, Int, UInt}
use Rattle.cr_ints.specs.IntKind.{modulus_of, is_signed, least_of, can_represent_all, rank_of, unsigned_of}

-- ---- one value

-- the value of the kind's range that is the given one plus or minus a multiple of the number of values in the range:
-- for an unsigned kind the conversion of 6.3.1.3p2, for a signed one this project's choice in 6.3.1.3p3
abbrev pub wrapped : IntKind → ℤ → ℤ
wrapped kind value = least_of kind +ℤ int_rem_euclid (value -ℤ least_of kind) (modulus_of kind)

-- the value converted to a kind (6.3.1.2 for `_Bool`, 6.3.1.3 for the others)
abbrev pub convert_of : ℤ → IntKind → ℤ
convert_of value BoolKind = if unsigned_abs value == 0 then pos 0 else pos 1
convert_of value kind = wrapped kind value

-- ---- the type of an expression

-- the integer promotions (6.3.1.1p2): a kind of at most the rank of `int` becomes `int` where that can represent
-- all its values, and else `unsigned int`; the others stay
abbrev pub promote_of : IntKind → IntKind
promote_of kind =
    if nat_le (rank_of kind) (rank_of Int)
    then (if can_represent_all Int kind then Int else UInt)
    else kind

-- an operand of this kind is what the integer promotions leave as it is
abbrev pub IsPromoted : IntKind → Type 0
IsPromoted kind = promote_of kind ≡ kind

-- two kinds of which both or neither is signed: the one of greater rank
abbrev pub higher_of : IntKind → IntKind → IntKind
higher_of left right = if nat_le (rank_of right) (rank_of left) then left else right

-- an unsigned and a signed kind: the unsigned one where its rank is no less; else the signed one where that can
-- represent all values of the unsigned one; else the unsigned kind that corresponds to the signed one
abbrev pub mixed_of : IntKind → IntKind → IntKind
mixed_of unsigned signed =
    if nat_le (rank_of signed) (rank_of unsigned)
    then unsigned
    else (if can_represent_all signed unsigned then signed else unsigned_of signed)

-- the common kind of two promoted ones
abbrev pub balanced_of : IntKind → IntKind → IntKind
balanced_of left right =
    if is_signed left
    then (if is_signed right then higher_of left right else mixed_of right left)
    else (if is_signed right then mixed_of left right else higher_of left right)

-- the usual arithmetic conversions (6.3.1.8p1): both operands are promoted first
abbrev pub common_of : IntKind → IntKind → IntKind
common_of left right = balanced_of (promote_of left) (promote_of right)
