-- A unit has one typing: two of them differ in their tables alone.
use Rattle.std.specs.Prelude.{◌≡◌, ℕ, List, Option, map}
use Rattle.cr_check_types.specs.declared.shape.Shape.{Shape}
use Rattle.cr_check_types.specs.Types.{Qualified, type_at}
use Rattle.cr_check_operands.specs.Values.{seen_at}
use Rattle.cr_check_expressions.specs.declared.known.Member.{Member}
use Rattle.cr_check_expressions.specs.declared.least.Break.{Break}
use Rattle.cr_check_expressions.specs.Known.{meaning_at}
use Rattle.cr_check_expressions.specs.Breaks.{IsFirst}
use Rattle.cr_check_declarations.specs.declared.tree.Tree.{Tree}
use Rattle.cr_check_declarations.specs.Faults.{has_at}
use Rattle.cr_check_initialisers.specs.Plans.{entries_of}
use Rattle.cr_check_unit.specs.declared.typing.Typing.{Typing}
use Rattle.cr_check_unit.specs.declared.entry.Entry.{Entry}
use Rattle.cr_check_unit.specs.declared.statements.Marked.{Marked}
use Rattle.cr_check_unit.specs.Typing.{entry_at, before_in, source_in, IsTyping}
use Rattle.cr_check_unit.specs.Breaks.{IsBroken}
use Rattle.cr_check_unit.specs.Statements.{scene_in, AreMarked, IsUnitBroken}

-- ---- what two nodes have, each by its own table

abbrev pub member_at : List Shape → Member → ℕ × Qualified
member_at shapes member = (member.name, type_at shapes member.row)

-- the same types, at whatever rows they stand, and the same of all else
pub record AreAlike (shapes later : List Shape) (d e : Entry) : Type 0 where
  pub fact : seen_at shapes d.fact ≡ seen_at later e.fact
  pub own : has_at shapes d.own ≡ has_at later e.own
  pub declared : meaning_at shapes d.parameters d.declared ≡ meaning_at later e.parameters e.declared
  pub parameters : map (type_at shapes) d.parameters ≡ map (type_at later) e.parameters
  pub members : map (member_at shapes) d.members ≡ map (member_at later) e.members
  pub fixed : d.fixed ≡ e.fixed
  pub anchor : d.anchor ≡ e.anchor
  pub lines : entries_of shapes d.lines ≡ entries_of later e.lines
  pub linked : d.linked ≡ e.linked
  pub composite : type_at shapes d.composite ≡ type_at later e.composite
  pub composite_parameters : map (type_at shapes) d.composite_parameters ≡ map (type_at later) e.composite_parameters

-- ---- laws

-- in two typings of a unit each node has the same
abbrev pub OneTyping : Type 0
OneTyping = (u : Tree) (texts : List (List ℕ)) (shapes later : List Shape) (t s : Typing)
    → IsTyping u texts shapes t → IsTyping u texts later s → (i : ℕ) → AreAlike shapes later (entry_at t i) (entry_at s i)

-- so all that rules read of them is the same
abbrev pub SameReadings : Type 0
SameReadings = (u : Tree) (texts : List (List ℕ)) (shapes later : List Shape) (t s : Typing)
    → IsTyping u texts shapes t → IsTyping u texts later s
    → (before_in shapes t ≡ before_in later s) × (source_in (type_at shapes) u texts t ≡ source_in (type_at later) u texts s)

-- what statements are checked by is the same too: which labels repeat, which one a `goto` names, and what functions give
abbrev pub SameScenes : Type 0
SameScenes = (u : Tree) (texts : List (List ℕ)) (shapes later : List Shape) (t s : Typing) (m n : Marked)
    → IsTyping u texts shapes t → IsTyping u texts later s → AreMarked shapes u t m → AreMarked later u s n
    → scene_in shapes u t m ≡ scene_in later u s n

-- and the same constraints are broken, by expressions and declarations, and by statements
abbrev pub SameBreaks : Type 0
SameBreaks = (u : Tree) (texts : List (List ℕ)) (shapes later : List Shape) (t s : Typing)
    → IsTyping u texts shapes t → IsTyping u texts later s → (b : Break) → IsBroken u texts shapes t b → IsBroken u texts later s b

abbrev pub SameUnitBreaks : Type 0
SameUnitBreaks = (u : Tree) (texts : List (List ℕ)) (shapes later : List Shape) (t s : Typing) (m n : Marked)
    → IsTyping u texts shapes t → IsTyping u texts later s → AreMarked shapes u t m → AreMarked later u s n
    → (b : Break) → IsUnitBroken u texts shapes t m b → IsUnitBroken u texts later s n b

-- so a unit has one first break, whatever the table
abbrev pub OneFirst : Type 0
OneFirst = (u : Tree) (texts : List (List ℕ)) (shapes later : List Shape) (t s : Typing) (m n : Marked) (x y : Option Break)
    → IsTyping u texts shapes t → IsTyping u texts later s → AreMarked shapes u t m → AreMarked later u s n
    → IsFirst (IsUnitBroken u texts shapes t m) x → IsFirst (IsUnitBroken u texts later s n) y → x ≡ y
