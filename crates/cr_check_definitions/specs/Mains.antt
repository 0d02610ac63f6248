-- The definition of `main` (C11 5.1.2.2.1).
use Rattle.std.specs.Prelude.{ℕ, Bool, true, false, not, ◌&&◌, ◌==◌, List, Option, None, Some, codes, slice_get, if◌then◌else◌}
use Rattle.std.specs.List.{list_any}
use Rattle.std.specs.Str.{bytes_eq}
use Rattle.cr_syntax.specs.declared.node.Kind.{Kind}
use Rattle.cr_syntax.specs.declared.node.Kind.TheVariants as kind
use Rattle.cr_check_types.specs.Types.{Qualified, plain, pointer, array}
use Rattle.cr_scopes_events.specs.Declarators.{declarator_of}
use Rattle.cr_scopes_events.specs.Scripts.{kind_at, parts_at}
use Rattle.cr_check_declarators.specs.Functions.{is_char_leaf, is_int, is_plain_int}
use Rattle.cr_check_expressions.specs.Known.{Meaning, an_object, an_enumerator, a_function, a_type, unclear}
use Rattle.cr_check_definitions.specs.Known.{Known}

abbrev pub is_unqualified : Bool → Bool → Bool
is_unqualified constant volatile = not constant && not volatile

abbrev pub is_plain_char : Qualified → Bool
is_plain_char (plain of c v) = is_char_leaf of && is_unqualified c v
is_plain_char (pointer c v t) = false
is_plain_char (array n t) = false

abbrev pub is_word : Qualified → Bool
is_word (plain of c v) = false
is_word (pointer c v t) = is_unqualified c v && is_plain_char t
is_word (array n t) = false

-- `char **`; a parameter's own qualifiers are no part of the function's type (6.7.6.3p15)
abbrev pub is_words : Qualified → Bool
is_words (plain of c v) = false
is_words (pointer c v t) = is_word t
is_words (array n t) = false

abbrev pub holds_of : (Qualified → Bool) → Option Qualified → Bool
holds_of test None = false
holds_of test (Some type) = test type

abbrev pub takes_nothing_or_words : ℕ → (ℕ → Option Qualified) → Bool
takes_nothing_or_words count parameter =
    if count == 2 then holds_of is_int (parameter 0) && holds_of is_words (parameter 1) else count == 0

-- `int main(void)`, `int main()`, or with an `int` and a `char **`, adjusted
abbrev pub has_mains_type : Meaning → Bool
has_mains_type (an_object type register) = false
has_mains_type (an_enumerator value) = false
has_mains_type (a_function signature) =
    is_plain_int signature.gives && (not signature.more && takes_nothing_or_words signature.count signature.parameter)
has_mains_type a_type = false
has_mains_type unclear = false

abbrev pub is_spelled_main : Known → Option ℕ → Bool
is_spelled_main k None = false
is_spelled_main k (Some token) = bytes_eq (k.spelling token) (codes "main")

abbrev pub is_named_main : Known → ℕ → Bool
is_named_main k node = is_spelled_main k (declarator_of k.nodes node).name

-- the whole declarator of a definition
abbrev pub is_main_if : Known → Option ℕ → Bool
is_main_if k None = false
is_main_if k (Some node) = is_named_main k node && has_mains_type (k.stands node)

abbrev pub is_main_by : Known → ℕ → Option Kind → Bool
is_main_by k item (Some kind.FunctionDefinition) = is_main_if k (slice_get (parts_at k.nodes item) 1)
is_main_by k item other = false

-- an external declaration defines it
abbrev pub is_main : Known → ℕ → Bool
is_main k item = is_main_by k item (kind_at k.nodes item)

abbrev pub has_main : Known → List ℕ → Bool
has_main k items = list_any (is_main k) items
