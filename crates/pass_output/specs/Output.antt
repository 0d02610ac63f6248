-- Pass o: what `printf` prints.
use Rattle.std.specs.Prelude.{ℕ, ◌-◌, ◌==◌, ◌||◌, Bool, nat_le, nat_lt, List, [], ◌∷◌, ◌++◌, Option, None, Some, codes, drop, length, slice_get, slice_index_or, if◌then◌else◌}
use Rattle.std.specs.List.{position}
use Rattle.cr_tokens.specs.declared.token.Token.{Token}
use Rattle.cr_syntax.specs.declared.node.Kind.{Kind}
use Rattle.cr_syntax.specs.declared.node.Kind.TheVariants as kind
use Rattle.cr_syntax.specs.declared.node.Node.{Node}
use Rattle.pass_edit.specs.declared.change.Change.{Change}
use Rattle.pass_edit.specs.declared.change.Text.TheVariants as change_to
use Rattle.pass_edit.specs.declared.form.Kept.{Kept}
use Rattle.pass_edit.specs.Menu.{Offering}
use Rattle.pass_levels.specs.declared.counted.Counted.{Counted}
use Rattle.pass_levels.specs.Gathered.{gathered}
use Rattle.pass_levels.specs.Level.{level_of}
use Rattle.pass_levels.specs.Nodes.{bytes_of, node_at}
use Rattle.pass_levels.specs.Places.{gone, replaced, spelling_at}
use Rattle.pass_output.specs.declared.conversions.Conversion.{Conversion}
use Rattle.pass_output.specs.Conversions.{conversion_at, end_before, is_other}
use Rattle.pass_output.specs.Formats.{Facts, conversions_in, counted_by, format_at, within}

-- Level 0: a conversion goes, with its argument and the comma before that.
abbrev pub argument_goes : Facts → Node → Change
argument_goes f n = gone f.tokens (n.first - 1) n.last

abbrev pub taken_by : Option ℕ → Facts → ℕ → Node → Conversion → List Counted
taken_by None f token n c = []
taken_by (Some argument) f token n c = counted_by n (within f.tokens token c.start c.end change_to.Nothing ∷ (argument_goes f (node_at f.nodes argument) ∷ [])) ∷ []

-- each conversion has the argument of its number behind the format
abbrev pub taken_at : Facts → ℕ → Node → List Conversion → ℕ → List Counted
taken_at f token n conversions at = taken_by (slice_get (drop 1 n.parts) at) f token n (conversion_at conversions at)

abbrev pub taken_in : Option ℕ → Facts → Node → List Counted
taken_in None f n = []
taken_in (Some token) f n = gathered (taken_at f token n (conversions_in f token)) (length (conversions_in f token))

abbrev pub taken_give : Facts → ℕ → List Counted
taken_give f k = taken_in (format_at f k) f (node_at f.nodes k)

-- Level 1: the bytes before, between and behind the conversions of a format go.
abbrev pub bytes_go : Facts → ℕ → ℕ → ℕ → List Change
bytes_go f token from to = if nat_lt from to then within f.tokens token from to change_to.Nothing ∷ [] else []

abbrev pub bytes_before : Facts → ℕ → List Conversion → ℕ → List Change
bytes_before f token conversions at = bytes_go f token (end_before conversions at) (conversion_at conversions at).start

-- behind the last one they end at the literal's quote
abbrev pub bytes_behind : Facts → ℕ → List Conversion → List Change
bytes_behind f token conversions = bytes_go f token (end_before conversions (length conversions)) (length (spelling_at f.file f.tokens token) - 1)

abbrev pub bytes_beside : Facts → ℕ → List Conversion → List Change
bytes_beside f token conversions = gathered (bytes_before f token conversions) (length conversions) ++ bytes_behind f token conversions

-- where there are any
abbrev pub bared_by : Node → List Change → List Counted
bared_by n edit = if nat_le 1 (length edit) then counted_by n edit ∷ [] else []

-- and a conversion stands there
abbrev pub bared_of : Facts → ℕ → Node → List Conversion → List Counted
bared_of f token n conversions = if nat_le 1 (length conversions) then bared_by n (bytes_beside f token conversions) else []

abbrev pub bared_in : Option ℕ → Facts → Node → List Counted
bared_in None f n = []
bared_in (Some token) f n = bared_of f token n (conversions_in f token)

abbrev pub bared_give : Facts → ℕ → List Counted
bared_give f k = bared_in (format_at f k) f (node_at f.nodes k)

-- Level 2: a conversion of another integer becomes `%d`; its argument, where that is a cast, becomes what is cast, and an integer constant loses
-- its suffix (6.4.4.1).
abbrev pub is_suffix : ℕ → Bool
is_suffix b = (b == 117) || (b == 85) || (b == 108) || (b == 76)

abbrev pub suffix_goes : Option ℕ → Facts → ℕ → List Change
suffix_goes None f token = []
suffix_goes (Some at) f token = within f.tokens token at (length (spelling_at f.file f.tokens token)) change_to.Nothing ∷ []

abbrev pub part_at : List ℕ → ℕ → ℕ
part_at parts at = slice_index_or parts at 0

abbrev pub plain_by : Kind → Facts → Node → List Change
plain_by kind.Cast f n = replaced f.tokens n.first n.last (bytes_of f.tokens (node_at f.nodes (part_at n.parts 1))) ∷ []
plain_by kind.Integer f n = suffix_goes (position is_suffix (spelling_at f.file f.tokens n.first)) f n.first
plain_by _ f n = []

abbrev pub number_by : Option ℕ → Facts → ℕ → Node → Conversion → List Counted
number_by None f token n c = []
number_by (Some argument) f token n c = if is_other c.letter
    then counted_by n (within f.tokens token c.start c.end (change_to.Kept 0 2) ∷ plain_by (node_at f.nodes argument).kind f (node_at f.nodes argument)) ∷ [] else []

abbrev pub number_at : Facts → ℕ → Node → List Conversion → ℕ → List Counted
number_at f token n conversions at = number_by (slice_get (drop 1 n.parts) at) f token n (conversion_at conversions at)

abbrev pub numbers_in : Option ℕ → Facts → Node → List Counted
numbers_in None f n = []
numbers_in (Some token) f n = gathered (number_at f token n (conversions_in f token)) (length (conversions_in f token))

abbrev pub numbers_give : Facts → ℕ → List Counted
numbers_give f k = numbers_in (format_at f k) f (node_at f.nodes k)

-- the conversion that comes at level 2
abbrev pub kept_d : Kept
kept_d = record { bytes = codes "%d"; tokens = []; forms = []; runs = [] }

abbrev pub facts_in : List ℕ → List Token → List Node → Facts
facts_in file tokens nodes = record { file = file; tokens = tokens; nodes = nodes }

-- What pass o offers: at level 0 conversions go with their arguments, at level 1 formats become their conversions, and at level 2 conversions
-- become `%d`.
abbrev pub o_offering : List ℕ → List Token → List Node → Offering
o_offering file tokens nodes = record {
  levels = level_of (taken_give (facts_in file tokens nodes)) (length nodes)
      ∷ (level_of (bared_give (facts_in file tokens nodes)) (length nodes)
      ∷ (level_of (numbers_give (facts_in file tokens nodes)) (length nodes)
      ∷ []));
  kept = kept_d;
}
