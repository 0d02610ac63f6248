-- The constraints that an initialiser can break, by what it initialises: K11, K12, K13 and K37.
use Rattle.std.specs.Prelude.{ℕ, ◌-◌, ◌==◌, ◌&&◌, ◌||◌, List, [], ◌∷◌, ◌++◌, Bool, true, false, not, Option, nat_lt}
use Rattle.cr_check_constants.specs.declared.constant.Constant.TheVariants.{NotConstant}
use Rattle.cr_syntax.specs.declared.ctype.CType.{CType}
use Rattle.cr_syntax.specs.declared.ctype.CType.TheVariants.{Function, Unknown}
use Rattle.cr_check_types.specs.Types.{Qualified, plain, pointer, array}
use Rattle.cr_check_operands.specs.Values.{Valued, value_in, value_of_seen}
use Rattle.cr_check_operands.specs.Rules.{assignable}
use Rattle.cr_check_expressions.specs.declared.least.Break.{Break}
use Rattle.cr_check_expressions.specs.Breaks.{fault}
use Rattle.cr_check_initialisers.specs.Known.{Known}
use Rattle.cr_check_initialisers.specs.Places.{is_char, is_unknown}
use Rattle.cr_check_initialisers.specs.Plans.{Entry, put, excess, count_in}
use Rattle.cr_check_initialisers.specs.Anchors.{is_value, is_address, is_array, is_pointer}

-- what is judged: a place that has a type, and isn't that of an initialised function, which breaks K11 by its declarator
abbrev pub is_object_by : CType → Bool
is_object_by Unknown = false
is_object_by (Function node) = false
is_object_by other = true

abbrev pub is_object : Qualified → Bool
is_object (plain of c v) = is_object_by of
is_object (pointer c v t) = true
is_object (array n t) = true

-- K13: a string literal initialises an array of characters that has room for it without its zero (6.7.9p14), or a pointer
abbrev pub has_room : ℕ → ℕ → Bool
has_room size count = size == 0 || not (nat_lt size (count - 1))

abbrev pub suits_literal : Qualified → ℕ → Bool
suits_literal (plain of c v) count = false
suits_literal (pointer c v t) count = true
suits_literal (array n t) count = is_char t && has_room n count

abbrev pub is_bad_literal : Known → Qualified → ℕ → Bool
is_bad_literal k type node = is_object type && (k.literal node && not (suits_literal type (count_in (k.seen node).type)))

-- K37: another expression is assignable to its place (6.7.9p11, p13), and an array takes none (p14, p16); a literal has this to keep
-- for a pointer alone
abbrev pub suits : Qualified → Valued → Bool
suits type value = not (is_array type) && assignable (value_in type NotConstant) value

abbrev pub is_typed : Known → Qualified → ℕ → Bool
is_typed k type node = is_object type && not (is_unknown (k.seen node).type)

abbrev pub is_badly_typed : Known → Qualified → ℕ → Bool
is_badly_typed k type node =
    is_typed k type node && ((not (k.literal node) || is_pointer type) && not (suits type (value_of_seen (k.seen node))))

-- K12: what initialises an object of static duration is an integer constant expression or an address constant (6.7.9p4, 6.6p9)
abbrev pub is_constant : Known → ℕ → Bool
is_constant k node = is_value (k.seen node).constant || is_address (k.anchor node) (k.seen node).type

abbrev pub is_varying : Known → Bool → ℕ → Bool
is_varying k static node = static && (not (is_unknown (k.seen node).type) && not (is_constant k node))

-- What an entry can break, a line of the table each; `equals` is the token of the declarator's `=`. K11: a list has no more initialisers
-- than places (6.7.9p2).
abbrev pub faults_of : Known → Bool → ℕ → Entry → List (Option Break)
faults_of k static equals (put place node user) =
    fault 37 equals (is_badly_typed k place.type node)
    ∷ fault 13 (k.first node) (is_bad_literal k place.type node) ∷ fault 12 (k.first node) (is_varying k static node) ∷ []
faults_of k static equals (excess list) = fault 11 (k.first list) true ∷ []

-- what all entries can
unfoldable pub plan_faults : Known → Bool → ℕ → List Entry → List (Option Break)
plan_faults k static equals [] = []
plan_faults k static equals (x ∷ xs) = faults_of k static equals x ++ plan_faults k static equals xs
