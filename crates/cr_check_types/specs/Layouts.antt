-- The sizes of types in bytes and in cells, their alignments, and where members stand: this project's choices, a structure
-- being laid out with natural alignment.
use Rattle.std.specs.Prelude.{ℕ, ◌+◌, ◌-◌, ◌*◌, ◌/◌, ◌^◌, List, min, max, slice_index_or}
use Rattle.cr_ints.specs.declared.kind.IntKind.{IntKind}
use Rattle.cr_ints.specs.IntKind.{width_of}
use Rattle.cr_syntax.specs.declared.ctype.CType.{CType}
use Rattle.cr_syntax.specs.declared.ctype.CType.TheVariants.{Int, Struct}
use Rattle.cr_check_types.specs.declared.layout.Layout.{Layout}
use Rattle.cr_check_types.specs.Types.{Qualified, plain, pointer, array}

-- numbers that don't fit 64 bits count as the greatest that does
abbrev pub fitted : ℕ → ℕ
fitted number = min number (2 ^ 64 - 1)

-- how many elements an array of arrays has in all, and what they are; another type is its own one element
abbrev pub count_of : Qualified → ℕ
count_of (plain of c v) = 1
count_of (pointer c v t) = 1
count_of (array n t) = n * count_of t

abbrev pub element_of : Qualified → Qualified
element_of (plain of c v) = plain of c v
element_of (pointer c v t) = pointer c v t
element_of (array n t) = element_of t

-- so many bytes, aligned so, and one cell
abbrev pub scalar : ℕ → Layout
scalar bytes = record { size = bytes; alignment = bytes; cells = 1 }

-- what has no size
abbrev pub nothing : Layout
nothing = record { size = 0; alignment = 1; cells = 0 }

-- the bytes of an integer: its bits by 8, and 1 for `_Bool`
abbrev pub bytes_of : IntKind → ℕ
bytes_of kind = (width_of kind + 7) / 8

-- what is no array: an integer, a pointer of 8 bytes, or a structure, whose layout its node has
abbrev pub layout_by : List Layout → CType → Layout
layout_by layouts (Int kind) = scalar (bytes_of kind)
layout_by layouts (Struct node) = slice_index_or layouts node nothing
layout_by layouts other = nothing

abbrev pub single_of : List Layout → Qualified → Layout
single_of layouts (plain of c v) = layout_by layouts of
single_of layouts (pointer c v t) = scalar 8
single_of layouts (array n t) = nothing

-- so many elements one behind another (6.2.5p20)
abbrev pub times : ℕ → Layout → Layout
times count one =
    record { size = fitted (count * one.size); alignment = one.alignment; cells = fitted (count * one.cells) }

abbrev pub layout_of : List Layout → Qualified → Layout
layout_of layouts type = times (count_of type) (single_of layouts (element_of type))

-- ---- structures

-- the first multiple of the alignment from the number on
abbrev pub aligned : ℕ → ℕ → ℕ
aligned number alignment = fitted ((number + (alignment - 1)) / alignment * alignment)

-- where a member stands behind what is laid out so far, and what is laid out with it (6.7.2.1p15)
abbrev pub offset_of : Layout → Layout → ℕ
offset_of before member = aligned before.size member.alignment

abbrev pub with_member : Layout → Layout → Layout
with_member before member = record {
  size = fitted (offset_of before member + member.size);
  alignment = max before.alignment member.alignment;
  cells = fitted (before.cells + member.cells);
}

-- the whole structure: padded to its alignment (6.7.2.1p17)
abbrev pub closed : Layout → Layout
closed members = record members { size = aligned members.size members.alignment }
