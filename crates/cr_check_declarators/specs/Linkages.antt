-- Linkage (C11 6.2.2), and what the declarations of one name may do together.
use Rattle.std.specs.Prelude.{Bool, true, false, not, ◌&&◌, ◌||◌, Option, Some, None, if◌then◌else◌}
use Rattle.cr_check_enclosing.specs.declared.context.Place.{Place}
use Rattle.cr_check_enclosing.specs.declared.context.Place.TheVariants as place
use Rattle.cr_check_declarators.specs.declared.words.Class.{Class}
use Rattle.cr_check_declarators.specs.declared.words.Class.TheVariants as class
use Rattle.cr_check_declarators.specs.declared.linkages.Linkage.{Linkage}
use Rattle.cr_check_declarators.specs.declared.linkages.Linkage.TheVariants.{Alone, Internal, External}
use Rattle.cr_check_declarators.specs.declared.linkages.Declaration.{Declaration}

-- 6.2.2p4: that of the visible declaration, if it has one, else external
abbrev pub inherited : Option Linkage → Linkage
inherited (Some Internal) = Internal
inherited other = External

-- p3 to p6, at file scope; a function without a storage class is declared as with `extern` (p5)
abbrev pub at_file : Option Class → Bool → Option Linkage → Linkage
at_file (Some class.Typedef) function visible = Alone
at_file (Some class.Static) function visible = Internal
at_file (Some class.Extern) function visible = inherited visible
at_file (Some class.Auto) function visible = External
at_file (Some class.Register) function visible = External
at_file None function visible = if function then inherited visible else External

-- in a block (p4 to p6)
abbrev pub in_block : Option Class → Bool → Option Linkage → Linkage
in_block (Some class.Typedef) function visible = Alone
in_block (Some class.Extern) function visible = inherited visible
in_block other function visible = if function then inherited visible else Alone

abbrev pub linkage_of : Place → Option Class → Bool → Option Linkage → Linkage
linkage_of place.File class function visible = at_file class function visible
linkage_of place.Definition class function visible = at_file class function visible
linkage_of place.Block class function visible = in_block class function visible
linkage_of place.Clause class function visible = in_block class function visible
linkage_of other class function visible = Alone

-- ---- declarations of one linked name

abbrev pub same_linkage : Linkage → Linkage → Bool
same_linkage Alone Alone = true
same_linkage Internal Internal = true
same_linkage External External = true
same_linkage one other = false

-- K10: a function is defined once (6.9p3, p5), an object initialised at file scope once, and linkage doesn't change (6.2.2p7)
abbrev pub repeats : Option Declaration → Declaration → Bool
repeats None now = false
repeats (Some before) now =
    not (same_linkage before.linkage now.linkage) || ((before.defines && now.defines) || (before.initialised && now.initialised))

-- and no name of the library is defined (own)
abbrev pub is_again_of : Option Declaration → Declaration → Bool → Bool
is_again_of earlier now library = (library && now.defines) || repeats earlier now

-- what all declarations so far did
abbrev pub with_declaration_of : Option Declaration → Declaration → Declaration
with_declaration_of None now = now
with_declaration_of (Some before) now = record {
  linkage = now.linkage;
  defines = before.defines || now.defines;
  initialised = before.initialised || now.initialised;
}

-- ---- initialisers

-- K11: types and functions have none, nor has a name with linkage in a block (6.7.9p5)
abbrev pub may_be_initialised_of : Place → Bool → Bool → Linkage → Bool
may_be_initialised_of place.Block typedef function linkage = not typedef && (not function && same_linkage linkage Alone)
may_be_initialised_of place.Clause typedef function linkage = not typedef && (not function && same_linkage linkage Alone)
may_be_initialised_of at typedef function linkage = not typedef && not function
