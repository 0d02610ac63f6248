-- Pass i: calls become what they call.
use Rattle.std.specs.Prelude.{ℕ, Bool, true, false, not, ◌&&◌, ◌==◌, nat_le, List, [], ◌∷◌, ◌++◌, Option, None, Some, drop, length, slice_get, slice_index_or, if◌then◌else◌}
use Rattle.std.specs.List.{flat_map, list_all, position}
use Rattle.cr_tokens.specs.declared.token.Token.{Token}
use Rattle.cr_syntax.specs.declared.node.Kind.{Kind}
use Rattle.cr_syntax.specs.declared.node.Kind.TheVariants as kind
use Rattle.cr_syntax.specs.declared.node.Node.{Node}
use Rattle.cr_scopes.specs.declared.names.Names.{Names}
use Rattle.pass_edit.specs.declared.change.Change.{Change}
use Rattle.pass_edit.specs.declared.change.Text.TheVariants.{Filled}
use Rattle.pass_edit.specs.declared.form.Kept.{Kept}
use Rattle.pass_edit.specs.declared.form.Sign.{Sign}
use Rattle.pass_edit.specs.declared.form.Sign.TheVariants.{OpenBrace, OpenParenthesis}
use Rattle.pass_edit.specs.Menu.{Offering}
use Rattle.pass_levels.specs.declared.counted.Counted.{Counted}
use Rattle.pass_levels.specs.Gathered.{gathered}
use Rattle.pass_levels.specs.Level.{level_of}
use Rattle.pass_levels.specs.Nodes.{node_at}
use Rattle.pass_levels.specs.Places.{gone, replaced, with_comma}
use Rattle.pass_params.specs.Functions.{number_of, part_at, same_number, uses_by}
use Rattle.pass_params.specs.Ordered.{ordered}
use Rattle.pass_inline.specs.declared.callees.Body.{Body}
use Rattle.pass_inline.specs.declared.callees.Body.TheVariants.{Other, Returned, WithoutReturn}
use Rattle.pass_inline.specs.declared.callees.Callee.{Callee}
use Rattle.pass_inline.specs.declared.callees.Declared.{Declared}
use Rattle.pass_inline.specs.declared.known.Known.{Known}
use Rattle.pass_inline.specs.declared.known.Way.{Way}
use Rattle.pass_inline.specs.declared.known.Way.TheVariants.{Block, Expression}
use Rattle.pass_inline.specs.Callees.{callees_in, declared_in, is_within}
use Rattle.pass_inline.specs.Spelled.{arguments_in, forms_of}

-- What is known of a unit where its calls are spelled out: its functions that are defined, and its declarations.
pub record Facts : Type 0 where
  pub tokens : List Token
  pub nodes : List Node
  pub names : Names
  pub callees : List Callee
  pub declared : List Declared

abbrev pub facts_in : List Token → List Node → Names → Facts
facts_in tokens nodes names = record { tokens = tokens; nodes = nodes; names = names; callees = callees_in nodes names; declared = declared_in nodes names }

abbrev pub facts_of : Known → Facts
facts_of known = record { tokens = known.tokens.now; nodes = known.nodes.now; names = known.names.now; callees = known.callees.now; declared = known.declared.now }

-- The definition and the declarations of a function go.

abbrev pub node_gone : Facts → Node → Change
node_gone f n = gone f.tokens n.first n.last

abbrev pub definition_goes : Facts → Option ℕ → Callee → List Change
definition_goes f number callee = if same_number number callee.number then node_gone f (node_at f.nodes callee.definition) ∷ [] else []

-- a declarator among others goes with its comma
abbrev pub declarator_goes : Facts → Option ℕ → List (Option ℕ) → List ℕ → ℕ → List Change
declarator_goes f number numbers row at = if same_number number (slice_index_or numbers at None)
    then with_comma f.tokens at (length row) (node_at f.nodes (part_at row at)).first (node_at f.nodes (part_at row at)).last ∷ [] else []

-- a declaration all of whose declarators are the function's goes whole
abbrev pub declaration_goes : Facts → Option ℕ → Declared → List Change
declaration_goes f number d = if nat_le 1 (length d.numbers) && list_all (same_number number) d.numbers
    then node_gone f (node_at f.nodes d.declaration) ∷ []
    else gathered (declarator_goes f number d.numbers (drop 1 (node_at f.nodes d.declaration).parts)) (length d.numbers)

abbrev pub function_goes : Facts → Option ℕ → List Change
function_goes f number = flat_map (definition_goes f number) f.callees ++ flat_map (declaration_goes f number) f.declared

-- it goes where a token is the only use of what it names
abbrev pub is_only_use : Names → ℕ → Bool
is_only_use names token = list_all (λ used. used == token) (uses_by names (number_of names token))

abbrev pub goes_too : Facts → ℕ → List Change
goes_too f token = if is_only_use f.names token then function_goes f (number_of f.names token) else []

-- Calls of a function that are spelled out: an expression for one whose body is `return E;`, a block for one without return.

abbrev pub fits : Way → Body → Bool
fits Expression (Returned expression) = true
fits Block WithoutReturn = true
fits way body = false

abbrev pub opening : Way → Sign
opening Expression = OpenParenthesis
opening Block = OpenBrace

-- the place among all functions of the one that a token names; the first, where several definitions have its name
abbrev pub place_of : Facts → ℕ → Option ℕ
place_of f token = position (λ callee. same_number (number_of f.names token) callee.number) f.callees

-- the function at a place; where there is none, no call fits
abbrev pub callee_at : List Callee → ℕ → Callee
callee_at callees at = slice_index_or callees at (record { definition = 0; function = 0; number = None; body = Other })

-- a token stands outside the definition of a function
abbrev pub is_outside : List Node → ℕ → ℕ → Bool
is_outside nodes definition token = not (is_within (node_at nodes definition).first (node_at nodes definition).last token)

-- The call's text comes in the place of a node, and where the call is the only use of its function, that goes.
abbrev pub inlining : Facts → Way → ℕ → ℕ → Node → Counted
inlining f way at call n = record {
  first = n.first;
  last = n.last;
  edit = ordered (replaced f.tokens n.first n.last (Filled (opening way) at call) ∷ goes_too f (node_at f.nodes call).first);
}

-- outside the function's own definition
abbrev pub inlining_if : Facts → Way → Callee → ℕ → ℕ → Node → List Counted
inlining_if f way callee at call n = if fits way callee.body && is_outside f.nodes callee.definition (node_at f.nodes call).first
    then inlining f way at call n ∷ [] else []

abbrev pub inlining_by : Option ℕ → Facts → Way → ℕ → Node → List Counted
inlining_by None f way call n = []
inlining_by (Some at) f way call n = inlining_if f way (callee_at f.callees at) at call n

abbrev pub call_gives : Facts → Way → ℕ → Node → List Counted
call_gives f way call n = inlining_by (place_of f (node_at f.nodes call).first) f way call n

-- Level 0: a call becomes an expression.
abbrev pub call_by : Kind → Facts → Way → ℕ → Node → List Counted
call_by kind.Call f way k n = call_gives f way k n
call_by _ f way k n = []

abbrev pub calls_give : Facts → ℕ → List Counted
calls_give f k = call_by (node_at f.nodes k).kind f Expression k (node_at f.nodes k)

-- Level 1: an expression statement that is a call becomes a block.
abbrev pub statement_of : Option ℕ → Facts → Node → List Counted
statement_of None f n = []
statement_of (Some part) f n = call_by (node_at f.nodes part).kind f Block part n

abbrev pub statement_by : Kind → Facts → Node → List Counted
statement_by kind.ExpressionStatement f n = statement_of (slice_get n.parts 0) f n
statement_by _ f n = []

abbrev pub statements_give : Facts → ℕ → List Counted
statements_give f k = statement_by (node_at f.nodes k).kind f (node_at f.nodes k)

-- the forms of the functions, the arguments of the calls, and the tokens that both name
abbrev pub kept_by : List Token → List Node → Names → List Callee → Kept
kept_by tokens nodes names callees = record { bytes = []; tokens = tokens; forms = forms_of nodes names callees; runs = arguments_in nodes }

-- What pass i offers: at level 0 calls become what their function returns, at level 1 expression statements become their function's body.
abbrev pub i_offering : List Token → List Node → Names → Offering
i_offering tokens nodes names = record {
  levels = level_of (calls_give (facts_in tokens nodes names)) (length nodes) ∷ (level_of (statements_give (facts_in tokens nodes names)) (length nodes) ∷ []);
  kept = kept_by tokens nodes names (callees_in nodes names);
}
