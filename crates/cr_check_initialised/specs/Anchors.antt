-- What of each expression's address is constant (C11 6.6p9), by its parts.
use Rattle.std.specs.Prelude.{ℕ, ◌&&◌, List, Bool, true, false, Option, None, Some, slice_get, slice_index_or, if◌then◌else◌}
use Rattle.cr_check_constants.specs.declared.constant.Constant.{Constant}
use Rattle.cr_check_operands.specs.Values.{Seen}
use Rattle.cr_check_expressions.specs.declared.form.Form.{Form}
use Rattle.cr_check_expressions.specs.declared.form.Form.TheVariants as form
use Rattle.cr_check_expressions.specs.Known.{Meaning, an_object, an_enumerator, a_function, a_type, unclear}
use Rattle.cr_check_expressions.specs.Ruled.{operand}
use Rattle.cr_check_initialisers.specs.declared.anchor.Anchor.{Anchor}
use Rattle.cr_check_initialisers.specs.declared.anchor.Anchor.TheVariants.{Moving, Place}
use Rattle.cr_check_initialisers.specs.Anchors.{is_address, reached, address_of, member_of, subscripted, cast_to}
use Rattle.cr_check_declarators.specs.declared.words.Specified.{Specified}
use Rattle.cr_check_declarations.specs.declared.tree.Tree.{Tree}
use Rattle.cr_check_declarations.specs.Before.{Before, type_in}
use Rattle.cr_check_initialised.specs.Durations.{is_static}

-- ---- names

abbrev pub names_object : Meaning → Bool
names_object (an_object type register) = true
names_object (an_enumerator value) = false
names_object (a_function signature) = false
names_object a_type = false
names_object unclear = false

-- what a name stands for, which a node declares, is an object of static duration
abbrev pub names_static : Meaning → Tree → (ℕ → Specified) → Option ℕ → Bool
names_static meaning t said node = names_object meaning && is_static t said node

-- ---- parts

abbrev pub anchor_at : List Anchor → ℕ → Anchor
anchor_at anchors part = slice_index_or anchors part Moving

abbrev pub anchor_if : (ℕ → Anchor) → Option ℕ → Anchor
anchor_if at None = Moving
anchor_if at (Some part) = at part

abbrev pub anchor_in : (ℕ → Anchor) → List ℕ → ℕ → Anchor
anchor_in at parts k = anchor_if at (slice_get parts k)

-- the part's value is an address constant
abbrev pub has_address : (ℕ → Seen) → (ℕ → Anchor) → List ℕ → ℕ → Bool
has_address seen at parts k = is_address (anchor_in at parts k) (operand seen parts k).type

-- what it is as an integer constant
abbrev pub constant_in : (ℕ → Seen) → List ℕ → ℕ → Constant
constant_in seen parts k = (operand seen parts k).constant

-- ---- the rule, a form of expression each

-- a name and a string literal (6.2.4p3, 6.4.5p6), what stands in brackets (6.5.1p5), operators (6.5.2.1, 6.5.2.3, 6.5.3.2), a cast (6.5.4);
-- no other operator gives an address constant
abbrev pub anchor_by : Form → Before → (ℕ → Anchor) → Bool → List ℕ → Anchor
anchor_by form.Name b at static parts = if static then Place else Moving
anchor_by form.Text b at static parts = Place
anchor_by form.Group b at static parts = anchor_in at parts 0
anchor_by form.Subscript b at static parts =
    subscripted (has_address b.seen at parts 0) (constant_in b.seen parts 0) (has_address b.seen at parts 1) (constant_in b.seen parts 1)
anchor_by form.Member b at static parts = member_of (anchor_in at parts 0)
anchor_by form.PointerMember b at static parts = reached (has_address b.seen at parts 0)
anchor_by form.Address b at static parts = address_of (anchor_in at parts 0)
anchor_by form.Dereference b at static parts = reached (has_address b.seen at parts 0)
anchor_by form.Cast b at static parts =
    cast_to (type_in b.named (slice_get parts 0)) (has_address b.seen at parts 1) (constant_in b.seen parts 1)
anchor_by f b at static parts = Moving
