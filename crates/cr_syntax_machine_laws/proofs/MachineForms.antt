-- A row of the refused forms that names a token behind a tree, or where one begins: the machine refuses the token there by that row.
use Rattle.std.proofs.Common.{◌≡◌, ℕ, zero, suc, ◌+◌, ◌<◌, ◌≤◌, Bool, true, false, ◌&&◌, ◌||◌, ◌==◌, List, [], ◌∷◌, length, Option, None, Some, ◌⊎◌, inl, inr, ⊎_elim, refl, sym, ap, subst, ◌∙◌, arith}
use Rattle.std.specs.Prelude.{slice_get}
use Rattle.std.proofs.lemmas.Bool.{eqb-true, eq-eqb, both_ways, and_from, or_parts, or_from, cases_Bool, cases_lt, or_right}
use Rattle.cr_syntax.specs.declared.word.Word.{Word}
use Rattle.cr_syntax.specs.declared.word.Word.TheVariants as word
use Rattle.cr_syntax.specs.declared.node.Kind.{Kind}
use Rattle.cr_syntax.specs.declared.node.Kind.TheVariants as kind
use Rattle.cr_syntax.specs.declared.part.Part.{Part}
use Rattle.cr_syntax.specs.declared.part.Part.TheVariants as part
use Rattle.cr_syntax.specs.declared.part.Context.{Context}
use Rattle.cr_syntax.specs.Words.{Lexeme}
use Rattle.cr_syntax.specs.Scopes.{Scopes}
use Rattle.cr_syntax.specs.Trees.{Trees, none, node, one, ◌&◌}
use Rattle.cr_syntax.specs.Context.{fresh, past_part}
use Rattle.cr_syntax.specs.Grammar.{inner_list, closing}
use Rattle.cr_syntax.specs.Grammar as grammar
use Rattle.cr_syntax.specs.Spells.{Limit, AtMost, Upto, Is, Spells, a, rest}
use Rattle.cr_syntax.specs.Spells as spells
use Rattle.cr_syntax.specs.Units.{most_levels, Has, has_here, has_inside, has_after, one_begins_at, one_ends_at, after_first, initializer_at, cast_operand_at, postfix_before, member_before, switch_body_at, begins_statement}
use Rattle.cr_syntax_machine.specs.Machine.{Goal, Prog, Manner, Runs, Done, Allows, plain, opens, reopens, named, the, has, give, call, choose, bar, made, drops, run_give, run_take, run_pass, run_no, run_yes, run_here, run_call}
use Rattle.cr_syntax_machine.specs.Machine.{whole, expression, commas, assignment, conditional, operands, cast, unary, measured, postfix, called, grouped, texts, arguments, suffixes, type_name, row, more, element, structure, members, member, member_declarators, enumeration, enumerators, enumerator, qualifiers, declarator, declarator_suffixes, abstract_suffixes, size, parameters, more_parameters, parameter}
use Rattle.cr_syntax_machine.specs.Machine.{unit, externals, external, declaration, init_declarators, initialized, initializer, initializers, statement, block, if_rest, switch_rest, while_rest, do_rest, for_rest, return_rest, for_clauses, clause, compound, items, item}
use Rattle.cr_syntax_machine.specs.Machine as m
use Rattle.cr_syntax_machine.specs.MachineBody as program
use Rattle.cr_syntax_machine.specs.MachineBody.{body, declaration_rest, expression_rest, assigned, operated, prefixed, suffixed, sized, other_primary, suffixes_end, other_element, array_start, member_end, declared_on, labelled, unlabelled, switch_body, is_designator, is_label, label_start, statement_start, Words, is_identifier, start_goal, tighter, assignment_operators, operators, unary_prefixes, cast_prefixes, constants, postfix_operators, specifier_words, row_kind, in_row, in_parameters}
use Rattle.cr_syntax_machine_laws.specs.MachineLaws.{IsStart}
use Rattle.cr_syntax.specs.Reads.{same_word, is_word}
use Rattle.cr_syntax.specs.Expressions.{Start, ShowsFrom, OutsideFrom, compound_literal, called_expression, bit_field, unused_keyword}
use Rattle.cr_syntax.proofs.Tests.{both, some_one}
use Rattle.cr_syntax_machine_laws.proofs.MachineRuns.{reach, same}
use Rattle.cr_syntax_machine_laws.proofs.MachineEnds.{Way, barring, Ends, refused_so, end_pass, end_no, end_bar, end_free, end_here, end_look, end_set, end_behind, end_inside}
use Rattle.cr_syntax_machine.proofs.MachineSpells as facts
use Rattle.cr_syntax_machine.proofs.MachineSpells.{and_none, is_one, forth}
use Rattle.cr_syntax_machine_laws.proofs.MachineGives.{AllRows, no_rows, also, gives}
use Rattle.cr_syntax_machine_laws.proofs.MachineKept.{Kept, runs_kept}
use Rattle.cr_syntax_machine_laws.proofs.MachineMeans.{Means, IsDeclared, with_name, without, has_some}
use Rattle.cr_syntax_machine_laws.proofs.MachineSound.{each, runs_sound, part_some}
use Rattle.cr_syntax_machine_laws.proofs.MachineFirst.{none_true, yes, differs, sorted}
use Rattle.cr_syntax_machine_laws.proofs.MachineTasks as task
use Rattle.cr_syntax_machine_laws.proofs.MachineBegins.{named_first, is_named}
use Rattle.cr_syntax_machine_laws.proofs.MachineDeclarators.{qualifiers_go, named_qualifier}
use Rattle.cr_syntax_machine_laws.proofs.MachineComplete.{completes, spelled_is_read, free_at_end, begun_same}
use Rattle.cr_syntax_machine_laws.proofs.MachineWays.{Point, at, same_way}
use Rattle.cr_syntax_machine_laws.proofs.MachineMarks.{Barred, barred_on, or_so, Marks, Behind, marks_choose, same_test, marked}
use Rattle.std.proofs.Math.Bool.{or-false}

-- The brace of a compound literal, the bracket of a called expression, the colon of a bit-field; the dot and the bracket of
-- a designator; a label, or a word that begins another statement, as the body of the switch that begins at token s. Two more name no token: a label or a switch, a definition.
pub data Form : Type 0 where
  literal : Form
  calling : Form
  field : Form
  dotted : Form
  indexed : Form
  case_body : ℕ → Form
  default_body : ℕ → Form
  statement_body : ℕ → Word → Form
  some_label : Form
  some_definition : Form

abbrev pub row_of : Form → ℕ
row_of literal = 3
row_of calling = 4
row_of field = 5
row_of dotted = 2
row_of indexed = 2
row_of (case_body s) = 6
row_of (default_body s) = 6
row_of (statement_body s w) = 7
row_of _ = 0

abbrev pub token_of : Form → Option Word
token_of literal = Some word.LeftBrace
token_of calling = Some word.LeftParen
token_of field = Some word.Colon
token_of dotted = Some word.Dot
token_of indexed = Some word.LeftBracket
token_of (case_body s) = Some word.Case
token_of (default_body s) = Some word.Default
token_of (statement_body s w) = Some w
token_of _ = None

abbrev pub is_literal : Form → Bool
is_literal literal = true
is_literal _ = false

abbrev pub is_calling : Form → Bool
is_calling calling = true
is_calling _ = false

abbrev pub is_field : Form → Bool
is_field field = true
is_field _ = false

abbrev pub is_designating : Form → Bool
is_designating dotted = true
is_designating indexed = true
is_designating _ = false

-- of the switch that begins at token i
abbrev pub is_switching : Form → ℕ → Bool
is_switching (case_body s) i = i == s
is_switching (default_body s) i = i == s
is_switching (statement_body s w) i = begins_statement w && (i == s)
is_switching _ i = false

abbrev pub is_labelling : Form → Bool
is_labelling some_label = true
is_labelling _ = false

abbrev pub is_defining : Form → Bool
is_defining some_definition = true
is_defining _ = false

-- statements, and units, are asked for the form's mark
abbrev pub asks_block : Form → Bool
asks_block some_label = false
asks_block _ = true

abbrev pub asks_unit : Form → Bool
asks_unit some_definition = false
asks_unit r = asks_block r

-- a node behind which, or behind a part of which, the form's token stands, or a part of which begins with it
abbrev pub mark : Form → ℕ → Kind → ℕ → ℕ → Trees → Bool
mark r k kind.Cast i j b = is_literal r && one_begins_at k (after_first b)
mark r k kind.Call i j b = is_calling r && (j == k)
mark r k kind.Subscript i j b = is_calling r && (j == k)
mark r k kind.Member i j b = is_calling r && (j == k)
mark r k kind.PointerMember i j b = is_calling r && (j == k)
mark r k kind.PostIncrement i j b = is_calling r && (j == k)
mark r k kind.PostDecrement i j b = is_calling r && (j == k)
mark r k kind.Integer i j b = is_calling r && (j == k)
mark r k kind.Character i j b = is_calling r && (j == k)
mark r k kind.Text i j b = is_calling r && (j == k)
mark r k kind.Group i j b = is_calling r && (j == k)
mark r k kind.MemberDeclaration i j b = is_field r && one_ends_at k (after_first b)
mark r k kind.InitDeclarator i j b = is_designating r && one_begins_at k (after_first b)
mark r k kind.InitializerList i j b = is_designating r && one_begins_at k b
mark r k kind.Switch i j b = is_labelling r || is_switching r i && one_begins_at k (after_first b)
mark r k kind.Label i j b = is_labelling r
mark r k kind.Case i j b = is_labelling r
mark r k kind.Default i j b = is_labelling r
mark r k kind.FunctionDefinition i j b = is_defining r
mark r k _ i j b = false

-- Each form's test is the one of its row.

pub has_all : {test other : Kind → ℕ → ℕ → Trees → Bool} {t : Trees} → ((l : Kind) (i j : ℕ) (b : Trees) → test l i j b ≡ true → other l i j b ≡ true) → Has test t → Has other t
has_all f (has_here {k = l} {i = i} {j = j} {a = b} q) = has_here (f l i j b q)
has_all f (has_inside h) = has_inside (has_all f h)
has_all f (has_after h) = has_after (has_all f h)

-- trees without such a node
pub lacks_none : {test : Kind → ℕ → ℕ → Trees → Bool} → Has test none → ⊥
lacks_none h = elim h [ ]

pub lacks_and : {test : Kind → ℕ → ℕ → Trees → Bool} (t u : Trees) → (Has test t → ⊥) → (Has test u → ⊥) → Has test (t & u) → ⊥
lacks_and none u x y h = y h
lacks_and (node l i j b n) u x y (has_here q) = x (has_here q)
lacks_and (node l i j b n) u x y (has_inside h) = x (has_inside h)
lacks_and (node l i j b n) u x y (has_after h) = lacks_and n u (λ h'. x (has_after h')) y h

pub lacks_one : {test : Kind → ℕ → ℕ → Trees → Bool} {l : Kind} {i j : ℕ} {b : Trees} → test l i j b ≡ false → (Has test b → ⊥) → Has test (one l i j b) → ⊥
lacks_one {test = test} {l = l} {i = i} {j = j} {b = b} n x (has_here q) = both_ways (test l i j b) n q
lacks_one n x (has_inside h) = x h
lacks_one n x (has_after h) = lacks_none h

pub literal_mark : (k : ℕ) (l : Kind) (i j : ℕ) (b : Trees) → cast_operand_at k l i j b ≡ true → mark literal k l i j b ≡ true
literal_mark k kind.Cast i j b q = q
literal_mark k _ i j b q = none_true q

pub calling_mark : (k : ℕ) (l : Kind) (i j : ℕ) (b : Trees) → postfix_before k l i j b ≡ true → mark calling k l i j b ≡ true
calling_mark k kind.Call i j b q = q
calling_mark k kind.Subscript i j b q = q
calling_mark k kind.Member i j b q = q
calling_mark k kind.PointerMember i j b q = q
calling_mark k kind.PostIncrement i j b q = q
calling_mark k kind.PostDecrement i j b q = q
calling_mark k kind.Integer i j b q = q
calling_mark k kind.Character i j b q = q
calling_mark k kind.Text i j b q = q
calling_mark k kind.Group i j b q = q
calling_mark k _ i j b q = none_true q

pub field_mark : (k : ℕ) (l : Kind) (i j : ℕ) (b : Trees) → member_before k l i j b ≡ true → mark field k l i j b ≡ true
field_mark k kind.MemberDeclaration i j b q = q
field_mark k _ i j b q = none_true q

pub designator_mark : (r : Form) → is_designating r ≡ true → (k : ℕ) (l : Kind) (i j : ℕ) (b : Trees) → initializer_at k l i j b ≡ true → mark r k l i j b ≡ true
designator_mark r n k kind.InitDeclarator i j b q = and_from (is_designating r) (one_begins_at k (after_first b)) n q
designator_mark r n k kind.InitializerList i j b q = and_from (is_designating r) (one_begins_at k b) n q
designator_mark r n k _ i j b q = none_true q

pub switch_mark : (r : Form) (s : ℕ) → ((i : ℕ) → is_switching r i ≡ (i == s)) → (k : ℕ) (l : Kind) (i j : ℕ) (b : Trees) → switch_body_at s k l i j b ≡ true → mark r k l i j b ≡ true
switch_mark r s f k kind.Switch i j b q = or_right (is_labelling r) (is_switching r i && one_begins_at k (after_first b)) (subst (λ x. x && one_begins_at k (after_first b) ≡ true) (sym (f i)) q)
switch_mark r s f k _ i j b q = none_true q

literal_facts : (r : Form) → is_literal r ≡ true → (token_of r ≡ Some word.LeftBrace) × (3 ≡ row_of r)
literal_facts literal q = (refl, refl)
literal_facts _ q = none_true q

calling_facts : (r : Form) → is_calling r ≡ true → (token_of r ≡ Some word.LeftParen) × (4 ≡ row_of r)
calling_facts calling q = (refl, refl)
calling_facts _ q = none_true q

field_facts : (r : Form) → is_field r ≡ true → (token_of r ≡ Some word.Colon) × (5 ≡ row_of r)
field_facts field q = (refl, refl)
field_facts _ q = none_true q

designator_facts : (r : Form) → is_designating r ≡ true → (w : Word) × (token_of r ≡ Some w) × (2 ≡ row_of r) × (is_designator w ≡ true) × (same_word w word.RightBrace ≡ false)
designator_facts dotted q = (word.Dot, refl, refl, refl, refl)
designator_facts indexed q = (word.LeftBracket, refl, refl, refl, refl)
designator_facts _ q = none_true q

data Switching (r : Form) : Type 0 where
  by_label : {w : Word} → token_of r ≡ Some w → 6 ≡ row_of r → is_label w ≡ true → Switching r
  by_statement : {w : Word} → token_of r ≡ Some w → 7 ≡ row_of r → begins_statement w ≡ true → Switching r

switching_facts : (r : Form) (s : ℕ) → is_switching r s ≡ true → Switching r
switching_facts (case_body s') s q = by_label {w = word.Case} refl refl refl
switching_facts (default_body s') s q = by_label {w = word.Default} refl refl refl
switching_facts (statement_body s' w) s q = by_statement {w = w} refl refl (both (begins_statement w) (s == s') q).0
switching_facts _ s q = none_true q

-- such a word is no label
pub statement_is_no_label : (w : Word) → begins_statement w ≡ true → (is_label w ≡ false) × (same_word w word.Case ≡ false) × (same_word w word.Default ≡ false)
statement_is_no_label word.Case q = none_true q
statement_is_no_label word.Default q = none_true q
statement_is_no_label _ q = (refl, refl, refl)

-- a label where a switch's body is wanted
label_starts : (ts : List Lexeme) (i : ℕ) (w : Word) → is_label w ≡ true → Is ts i w → is_word ts i word.Case || is_word ts i word.Default ≡ true
label_starts ts i word.Case l q = subst (λ b. b || is_word ts i word.Default ≡ true) (sym (yes q)) refl
label_starts ts i word.Default l q = subst (λ b. b || is_word ts i word.Default ≡ true) (sym (differs q word.Case refl)) (yes q)
label_starts ts i _ l q = none_true l

no_labelling : (r : Form) → asks_block r ≡ true → is_labelling r ≡ false
no_labelling some_label q = none_true q
no_labelling _ q = refl

unit_facts : (r : Form) → asks_unit r ≡ true → (asks_block r ≡ true) × (is_defining r ≡ false)
unit_facts some_definition q = none_true q
unit_facts some_label q = none_true q
unit_facts _ q = (refl, refl)

-- Kinds that bear no mark, and those of postfix expressions that do.

abbrev pub is_unmarked : Kind → Bool
is_unmarked kind.Cast = false
is_unmarked kind.Call = false
is_unmarked kind.Subscript = false
is_unmarked kind.Member = false
is_unmarked kind.PointerMember = false
is_unmarked kind.PostIncrement = false
is_unmarked kind.PostDecrement = false
is_unmarked kind.Integer = false
is_unmarked kind.Character = false
is_unmarked kind.Text = false
is_unmarked kind.Group = false
is_unmarked kind.MemberDeclaration = false
is_unmarked kind.InitDeclarator = false
is_unmarked kind.InitializerList = false
is_unmarked kind.Switch = false
is_unmarked kind.Label = false
is_unmarked kind.Case = false
is_unmarked kind.Default = false
is_unmarked kind.FunctionDefinition = false
is_unmarked _ = true

abbrev pub is_joined : Kind → Bool
is_joined kind.Call = true
is_joined kind.Subscript = true
is_joined kind.Member = true
is_joined kind.PointerMember = true
is_joined kind.PostIncrement = true
is_joined kind.PostDecrement = true
is_joined kind.Integer = true
is_joined kind.Character = true
is_joined kind.Text = true
is_joined kind.Group = true
is_joined _ = false

unmarked : (r : Form) (k : ℕ) (l : Kind) → is_unmarked l ≡ true → (i j : ℕ) (b : Trees) → mark r k l i j b ≡ false
unmarked r k kind.Cast q i j b = none_true q
unmarked r k kind.Call q i j b = none_true q
unmarked r k kind.Subscript q i j b = none_true q
unmarked r k kind.Member q i j b = none_true q
unmarked r k kind.PointerMember q i j b = none_true q
unmarked r k kind.PostIncrement q i j b = none_true q
unmarked r k kind.PostDecrement q i j b = none_true q
unmarked r k kind.Integer q i j b = none_true q
unmarked r k kind.Character q i j b = none_true q
unmarked r k kind.Text q i j b = none_true q
unmarked r k kind.Group q i j b = none_true q
unmarked r k kind.MemberDeclaration q i j b = none_true q
unmarked r k kind.InitDeclarator q i j b = none_true q
unmarked r k kind.InitializerList q i j b = none_true q
unmarked r k kind.Switch q i j b = none_true q
unmarked r k kind.Label q i j b = none_true q
unmarked r k kind.Case q i j b = none_true q
unmarked r k kind.Default q i j b = none_true q
unmarked r k kind.FunctionDefinition q i j b = none_true q
unmarked r k _ q i j b = refl

joined : (r : Form) (k : ℕ) (l : Kind) → is_joined l ≡ true → (i j : ℕ) (b : Trees) → (mark r k l i j b ≡ is_calling r && (j == k)) × (is_identifier (one l i j b) ≡ false)
joined r k kind.Call q i j b = (refl, refl)
joined r k kind.Subscript q i j b = (refl, refl)
joined r k kind.Member q i j b = (refl, refl)
joined r k kind.PointerMember q i j b = (refl, refl)
joined r k kind.PostIncrement q i j b = (refl, refl)
joined r k kind.PostDecrement q i j b = (refl, refl)
joined r k kind.Integer q i j b = (refl, refl)
joined r k kind.Character q i j b = (refl, refl)
joined r k kind.Text q i j b = (refl, refl)
joined r k kind.Group q i j b = (refl, refl)
joined r k _ q i j b = none_true q

abbrev all_kinds : (Kind → Bool) → Words → Bool
all_kinds test [] = true
all_kinds test (x ∷ xs) = test x.1 && all_kinds test xs

rows_of : (test : Kind → Bool) (xs : Words) → all_kinds test xs ≡ true → AllRows (λ w l. test l ≡ true) xs
rows_of test [] q = no_rows
rows_of test (x ∷ xs) q = let v = both (test x.1) (all_kinds test xs) q in also {w = x.0} {k = x.1} v.0 (rows_of test xs v.1)

operators_unmarked : (p : Part) → all_kinds is_unmarked (operators p) ≡ true
operators_unmarked part.LogicalOr = refl
operators_unmarked part.LogicalAnd = refl
operators_unmarked part.Or = refl
operators_unmarked part.Xor = refl
operators_unmarked part.And = refl
operators_unmarked part.Equality = refl
operators_unmarked part.Relational = refl
operators_unmarked part.Shift = refl
operators_unmarked part.Additive = refl
operators_unmarked part.Multiplicative = refl
operators_unmarked _ = refl

specifiers_unmarked : (p : Part) → all_kinds is_unmarked (specifier_words p) ≡ true
specifiers_unmarked part.Specifiers = refl
specifiers_unmarked _ = refl

row_unmarked : (p : Part) → is_unmarked (row_kind p) ≡ true
row_unmarked part.Specifiers = refl
row_unmarked _ = refl

-- Which of a row's trees begin or end at a token.

pub begins_second : (k : ℕ) {l l' : Kind} {s e i j : ℕ} {b b' t u : Trees} → t ≡ one l s e b → u ≡ one l' i j b' → one_begins_at k (after_first (t & u & none)) ≡ (i == k)
begins_second k {i = i} {u = u} q q' =
    subst (λ x. one_begins_at k (after_first (x & u & none)) ≡ (i == k)) (sym q) (subst (λ y. one_begins_at k (y & none) ≡ (i == k)) (sym q') (or-false (i == k)))

ends_nowhere : (k : ℕ) (t u : Trees) → one_ends_at k t ≡ false → one_ends_at k u ≡ false → one_ends_at k (t & u) ≡ false
ends_nowhere k none u x y = y
ends_nowhere k (node l i j b n) u x y = let v = or_parts (j == k) (one_ends_at k n) x in or_from (j == k) (one_ends_at k (n & u)) v.0 (ends_nowhere k n u v.1 y)

ends_later : (k : ℕ) (t u : Trees) → has_some t ≡ true → one_ends_at k (after_first t) ≡ false → one_ends_at k u ≡ false → one_ends_at k (after_first (t & u)) ≡ false
ends_later k none u q x y = cc
ends_later k (node l i j b n) u q x y = ends_nowhere k n u x y

begins_nowhere : (k : ℕ) (t u : Trees) → one_begins_at k t ≡ false → one_begins_at k u ≡ false → one_begins_at k (t & u) ≡ false
begins_nowhere k none u x y = y
begins_nowhere k (node l i j b n) u x y = let v = or_parts (i == k) (one_begins_at k n) x in or_from (i == k) (one_begins_at k (n & u)) v.0 (begins_nowhere k n u v.1 y)

-- an initializer more in a list
begins_more : (f : Bool) (k : ℕ) (t : Trees) {l : Kind} {i j : ℕ} {b u : Trees} → f && one_begins_at k t ≡ false → u ≡ one l i j b → f && (i == k) ≡ false → f && one_begins_at k (t & u & none) ≡ false
begins_more false k t x e y = refl
begins_more true k t {i = i} {u = u} x e y = begins_nowhere k t (u & none) x (subst (λ z. one_begins_at k (z & none) ≡ false) (sym e) (or_from (i == k) false y refl))

begins_none : (f : Bool) (k : ℕ) → f && one_begins_at k none ≡ false
begins_none true k = refl
begins_none false k = refl

-- a tree alone, and one that begins at token i
pub record IsOne (t : Trees) : Type 0 where
  pub kind : Kind
  pub first : ℕ
  pub past : ℕ
  pub parts : Trees
  pub is : t ≡ one kind first past parts

pub record Begun (i : ℕ) (t : Trees) : Type 0 where
  pub kind : Kind
  pub past : ℕ
  pub parts : Trees
  pub is : t ≡ one kind i past parts

some_more : (t u : Trees) → has_some t ≡ true → has_some (t & u & none) ≡ true
some_more none u q = cc
some_more (node l i j b n) u q = refl

-- a declarator more in a member
declares_more : (f : Bool) (k : ℕ) (t : Trees) {l : Kind} {i j : ℕ} {b u : Trees} → has_some t ≡ true → f && one_ends_at k (after_first t) ≡ false → u ≡ one l i j b → f && (j == k) ≡ false →
    f && one_ends_at k (after_first (t & u & none)) ≡ false
declares_more false k t q x e y = refl
declares_more true k t {j = j} {u = u} q x e y = ends_later k t (u & none) q x (subst (λ z. one_ends_at k (z & none) ≡ false) (sym e) (or_from (j == k) false y refl))

declares_none : (f : Bool) (k : ℕ) {l : Kind} {i j : ℕ} {b t : Trees} → t ≡ one l i j b → f && one_ends_at k (after_first (t & none)) ≡ false
declares_none false k e = refl
declares_none true k e = subst (λ z. one_ends_at k (after_first (z & none)) ≡ false) (sym e) refl

module _ (r : Form) (k : ℕ) where
  -- no node bears the mark
  abbrev pub Clean : Trees → Type 0
  Clean t = Has (mark r k) t → ⊥

  pub clean_none : Clean none
  clean_none h = elim h [ ]

  pub clean_and : (t u : Trees) → Clean t → Clean u → Clean (t & u)
  clean_and none u x y h = y h
  clean_and (node l i j b n) u x y (has_here q) = x (has_here q)
  clean_and (node l i j b n) u x y (has_inside h) = x (has_inside h)
  clean_and (node l i j b n) u x y (has_after h) = clean_and n u (λ h'. x (has_after h')) y h

  pub clean_alone : {t : Trees} → Clean t → Clean (t & none)
  clean_alone {t = t} x = clean_and t none x clean_none

  pub clean_two : {t u : Trees} → Clean t → Clean u → Clean (t & u & none)
  clean_two {t = t} {u = u} x y = clean_and t (u & none) x (clean_alone {t = u} y)

  clean_by : {l : Kind} {i j : ℕ} {b : Trees} → mark r k l i j b ≡ false → Clean b → Clean (one l i j b)
  clean_by {l = l} {i = i} {j = j} {b = b} n x (has_here q) = both_ways (mark r k l i j b) n q
  clean_by n x (has_inside h) = x h
  clean_by n x (has_after h) = clean_none h

  pub clean_one : {l : Kind} {i j : ℕ} {b : Trees} → is_unmarked l ≡ true → Clean b → Clean (one l i j b)
  clean_one {l = l} {i = i} {j = j} {b = b} q x = clean_by (unmarked r k l q i j b) x

  clean_row : (p : Part) (s e : ℕ) (t : Trees) → Clean t → Clean (in_row p s e t)
  clean_row p s e none x = clean_one (row_unmarked p) x
  clean_row p s e (node l i j b none) x = x
  clean_row p s e (node l i j b (node l' i' j' b' n)) x = clean_one (row_unmarked p) x

  clean_parameters : (s e : ℕ) (t : Trees) → Clean t → Clean (in_parameters s e t)
  clean_parameters s e none x = clean_one refl x
  clean_parameters s e (node l i j b none) x = by l x
    where
      by : (l : Kind) → Clean (node l i j b none) → Clean (in_parameters s e (node l i j b none))
      by kind.Void x = clean_one refl clean_none
      by _ x = x
  clean_parameters s e (node l i j b (node l' i' j' b' n)) x = by l x
    where
      by : (l : Kind) → Clean (node l i j b (node l' i' j' b' n)) → Clean (in_parameters s e (node l i j b (node l' i' j' b' n)))
      by kind.Void x = clean_one refl x
      by _ x = clean_one refl x

  -- a goal's answer bears no mark, where what was read before bears none
  abbrev pub Unmarked : Goal → Scopes → ℕ → Trees → Scopes → ℕ → Type 0
  Unmarked (commas d s x) c i t e j = Clean x → Clean t
  Unmarked (operands p d s x) c i t e j = Clean x → Clean t
  Unmarked (arguments d x) c i t e j = Clean x → Clean t
  Unmarked (suffixes d s x) c i t e j = Clean x → Clean t
  Unmarked (more p h d s x) c i t e j = Clean x → Clean t
  Unmarked (members d s x) c i t e j = Clean x → Clean t
  Unmarked (member_declarators h d s x) c i t e j = Clean x → has_some x ≡ true → is_field r && one_ends_at k (after_first x) ≡ false → Clean t
  Unmarked (enumerators d s x) c i t e j = Clean x → Clean t
  Unmarked (declarator_suffixes d s x) c i t e j = Clean x → Clean t
  Unmarked (abstract_suffixes d s x) c i t e j = Clean x → Clean t
  Unmarked (more_parameters d s x) c i t e j = Clean x → Clean t
  Unmarked (unit l d) c i t e j = asks_unit r ≡ true → Clean t
  Unmarked (externals l d x) c i t e j = Clean x → asks_unit r ≡ true → Clean t
  Unmarked (external l d) c i t e j = asks_unit r ≡ true → Clean t
  Unmarked (init_declarators h d s x) c i t e j = Clean x → Clean t
  Unmarked (initialized d q x) c i t e j = Clean x → IsOne x → Clean t
  Unmarked (initializer d) c i t e j = Clean t × Begun i t
  Unmarked (initializers d s x) c i t e j = (Clean x → is_designating r && one_begins_at k x ≡ false → is_designating r && (i == k) ≡ false → Clean t) × Begun s t
  Unmarked (statement l d) c i t e j = asks_block r ≡ true → Clean t
  Unmarked (block l d) c i t e j = asks_block r ≡ true → Clean t
  Unmarked (if_rest l d s) c i t e j = asks_block r ≡ true → Clean t
  Unmarked (switch_rest l d s) c i t e j = asks_block r ≡ true → Clean t
  Unmarked (while_rest l d s) c i t e j = asks_block r ≡ true → Clean t
  Unmarked (do_rest l d s) c i t e j = asks_block r ≡ true → Clean t
  Unmarked (for_rest l d s) c i t e j = asks_block r ≡ true → Clean t
  Unmarked (for_clauses l d s x) c i t e j = Clean x → asks_block r ≡ true → Clean t
  Unmarked (compound l d) c i t e j = (asks_block r ≡ true → Clean t) × Begun i t
  Unmarked (items l d s x) c i t e j = (Clean x → asks_block r ≡ true → Clean t) × Begun s t
  Unmarked (item l d) c i t e j = asks_block r ≡ true → Clean t
  Unmarked g c i t e j = Clean t

  clean_start : (p : Part) (d : ℕ) (c : Scopes) (i : ℕ) (t : Trees) (e : Scopes) (j : ℕ) → Unmarked (start_goal p d) c i t e j → Clean t
  clean_start part.Expression d c i t e j x = x
  clean_start part.Assignment d c i t e j x = x
  clean_start _ d c i t e j x = x

  clean_tighter : (p : Part) (d : ℕ) (c : Scopes) (i : ℕ) (t : Trees) (e : Scopes) (j : ℕ) → Unmarked (tighter p d) c i t e j → Clean t
  clean_tighter part.LogicalOr d c i t e j x = x
  clean_tighter part.LogicalAnd d c i t e j x = x
  clean_tighter part.Or d c i t e j x = x
  clean_tighter part.Xor d c i t e j x = x
  clean_tighter part.And d c i t e j x = x
  clean_tighter part.Equality d c i t e j x = x
  clean_tighter part.Relational d c i t e j x = x
  clean_tighter part.Shift d c i t e j x = x
  clean_tighter part.Additive d c i t e j x = x
  clean_tighter _ d c i t e j x = x

arguments_later : {ts : List Lexeme} {limit : Limit} {h : Context} {c e : Scopes} {d i j : ℕ} {t : Trees} →
    Spells ts limit (rest (inner_list part.Assignment ∷ closing word.RightParen ∷ [])) h c e d t i j → i < j
arguments_later (spells.list_last x (spells.token q w s)) = let n = forth x in let n' = forth s in omega arith
arguments_later (spells.list_more x q w s) = let n = forth x in let n' = arguments_later s in omega arith

pub direct_later : {ts : List Lexeme} {limit : Limit} {h : Context} {c e : Scopes} {d i j : ℕ} {t : Trees} → Spells ts limit (a part.DirectDeclarator) h c e d t i j → i < j
direct_later (spells.of_chain x f s) = elim x [ ]
direct_later (spells.of_alternative grammar.name_declarator f (spells.declared q g w s)) = let n = forth s in omega arith
direct_later (spells.of_alternative grammar.group_declarator f (spells.opens q w s)) = let n = forth s in omega arith
direct_later (spells.of_alternative grammar.array_declarator f (spells.part x s)) = let n = direct_later x in let n' = forth s in omega arith
direct_later (spells.of_alternative grammar.function_declarator f (spells.part x s)) = let n = direct_later x in let n' = forth s in omega arith

declarator_later : {ts : List Lexeme} {limit : Limit} {h : Context} {c e : Scopes} {d i j : ℕ} {t : Trees} → Spells ts limit (a part.Declarator) h c e d t i j → i < j
declarator_later (spells.of_chain grammar.declarator_direct f s) = direct_later s
declarator_later (spells.of_alternative grammar.pointer_declarator f (spells.opens q w s)) = let n = forth s in omega arith

-- a declarator with a name ends before a colon
before_colon : {ts : List Lexeme} {limit : Limit} {h : Context} {c e : Scopes} {d i j : ℕ} {t : Trees} → Spells ts limit (a part.Declarator) h c e d t i j → Is ts j word.Colon →
    Runs body ts limit (body (declarator named h d)) c i (Done t e j)
before_colon {ts = ts} {limit = limit} (spells.of_chain grammar.declarator_direct f s) q =
    completes ts limit task.direct s named refl _ (run_pass (differs q word.LeftBracket refl) (run_pass (differs q word.LeftParen refl) run_give))
before_colon {ts = ts} {limit = limit} {h = h} {c = c} {e = e} {d = d} {i = i} {j = j} (spells.of_alternative grammar.pointer_declarator f (spells.opens q' v (spells.qualified {t = t} x s))) q =
    subst (λ z. Runs body ts limit (body (declarator named h d)) c i (Done (one kind.PointerDeclarator i j z) e j)) (and_none t)
    (run_here (run_take (yes q') v (run_call (qualifiers_go ts limit x (named_qualifier c (named_first facts.by_declarator s)))
    (run_no refl (run_call (before_colon s q) (run_yes (is_named facts.by_declarator s) (run_here run_give)))))))

module _ (ts us : List Lexeme) (limit top : Limit) (r : Form) (k : ℕ) (stands : (w : Word) → token_of r ≡ Some w → Is ts k w)
    (alike : (n : ℕ) → n < k → slice_get us n ≡ slice_get ts n)
    (allowed : (g : Manner) (n d : ℕ) → n < k → Allows limit g n d → Allows top g n d) where
  abbrev Owes : Prog → (Trees → Scopes → ℕ → Type 0) → Scopes → ℕ → Type 0
  Owes = Marks body ts us limit top (row_of r) k (Unmarked r k)

  abbrev Bars : Prog → Scopes → ℕ → Type 0
  Bars p c i = Barred body ts top (row_of r) k p c i

  abbrev There : Prog → (Trees → Scopes → ℕ → Type 0) → Scopes → ℕ → Type 0
  There = Behind body ts us limit top (row_of r) k (Unmarked r k)

  abbrev Reads : Goal → Scopes → ℕ → Trees → Scopes → ℕ → Type 0
  Reads g c i t e j = Runs body us limit (body g) c i (Done t e j)

  words_owe : (g : Manner) (test : Kind → Bool) (xs : Words) → all_kinds test xs ≡ true → (d : ℕ) (p : Kind → Prog) (q : Prog) (f : Trees → Scopes → ℕ → Type 0) (c : Scopes) (i : ℕ) →
      ((l : Kind) → test l ≡ true → There (p l) f c (i + 1)) → Owes q f c i → Owes (choose g xs d p q) f c i
  words_owe g test xs n d p q f c i x y = marks_choose body ts us limit top (row_of r) k (Unmarked r k) g d p q f c i (λ w l. test l ≡ true) (rows_of test xs n) (λ w l z. x l z) y

  -- what is read up to token k means the same on the other text
  means_there : (g : Goal) {c e : Scopes} {i j : ℕ} {t : Trees} → Reads g c i t e j → j ≤ k → Means ts top g c i t e j
  means_there g {c = c} {e = e} {i = i} {j = j} {t = t} h le = gives body us ts limit top Kept (Means ts top) runs_kept (each ts top) h (Means ts top g c i)
      (λ n lt. sym (alike n (omega arith))) (λ x n d lt w. allowed x n d (omega arith) w) (each ts top g c i)

  -- the form's token, where its row is known
  at_token : {i : ℕ} (w : Word) → token_of r ≡ Some w → i ≡ k → Is ts i w
  at_token {i = i} w q e = subst (λ j. Is ts j w) (sym e) (stands w q)

  ends_at : {p : Prog} {c : Scopes} {i : ℕ} (n : ℕ) (x : m.Test) (d : ℕ) → n ≡ row_of r → i ≡ k → Ends body ts top p c i (barring x n d) i → Bars p c i
  ends_at {p = p} {c = c} {i = i} n x d q e z =
      record { test = x; level = d; ends = subst (λ j. Ends body ts top p c i (barring x (row_of r) d) j) e (subst (λ l. Ends body ts top p c i (barring x l d) i) q z) }

  -- A postfix expression that is no identifier, made here.

  called_here : (l : Kind) → is_joined l ≡ true → (d s : ℕ) (b : Trees) (c : Scopes) (i : ℕ) → is_calling r ≡ true → i ≡ k → Bars (suffixed d s b l) c i
  called_here l j d s b c i y e =
      let v = calling_facts r y in
      let q : Is ts i word.LeftParen = at_token word.LeftParen v.0 e in
      ends_at 4 (the word.LeftParen) d v.1 e
      (end_here (end_inside (end_pass (differs q word.LeftBracket refl) (end_pass (differs q word.Dot refl) (end_pass (differs q word.Arrow refl)
      (end_pass (differs q word.PlusPlus refl) (end_pass (differs q word.MinusMinus refl) (end_no (joined r k l j s i b).1 (end_bar (yes q))))))))))

  joins : (l : Kind) → is_joined l ≡ true → (d s : ℕ) (b : Trees) (f : Trees → Scopes → ℕ → Type 0) (c : Scopes) (i : ℕ) →
      ((t : Trees) (e : Scopes) (j : ℕ) → (Clean r k b → Clean r k t) → f t e j) →
      Owes (suffixed d s b l) f c i ⊎ ((is_calling r ≡ true) × (i ≡ k)) × Bars (suffixed d s b l) c i
  joins l j d s b f c i g = ⊎_elim
      (λ y. let v = both (is_calling r) (i == k) y in let e : i ≡ k = eqb-true i k v.1 in inr ((v.0, e), called_here l j d s b c i v.0 e))
      (λ y. inl (λ t e n le h x. inl (g t e n (λ z. x (clean_by r k ((joined r k l j s i b).0 ∙ y) z)))))
      (cases_Bool (is_calling r && (i == k)))

  joins_there : (l : Kind) → is_joined l ≡ true → (d s : ℕ) (b : Trees) (f : Trees → Scopes → ℕ → Type 0) (c : Scopes) (i : ℕ) →
      ((t : Trees) (e : Scopes) (j : ℕ) → (Clean r k b → Clean r k t) → f t e j) → There (suffixed d s b l) f c i
  joins_there l j d s b f c i g = or_so (joins l j d s b f c i g) (λ z. let e = z.0.1 in (omega arith, z.1))

  texts_there : {d i j : ℕ} {c e : Scopes} {t : Trees} → is_calling r ≡ true → Reads (texts d) c i t e j → j ≡ k → Runs body ts top (body (texts d)) c i (Done t e j)
  texts_there y (run_pass q run_give) w = run_pass (differs (at_token word.LeftParen (calling_facts r y).0 w) word.Text refl) run_give
  texts_there {d = d} {i = i} {c = c} y (run_take q v (run_call h run_give)) w =
      let n = reach h in
      run_take (same_test body ts us limit top (row_of r) k (Unmarked r k) alike allowed c i (the word.Text) (omega arith) q) (allowed plain i d (omega arith) v)
      (run_call (texts_there y h w) run_give)

  text_joins : (d s : ℕ) (c : Scopes) (i : ℕ) → There (call (texts d) (λ _. suffixed d s none kind.Text)) (λ t e j. Clean r k t) c i
  text_joins d s c i = ⊎_elim
      (λ y. let v = both (is_calling r) (i == k) y in let e : i ≡ k = eqb-true i k v.1 in
      inr (omega arith, barred_on (called_here kind.Text refl d s none c i v.0 e) (λ x n z. end_behind (run_pass (differs (at_token word.LeftParen (calling_facts r v.0).0 e) word.Text refl) run_give) z)))
      (λ y. inl (λ t e j le h x. or_so (joins kind.Text refl d s none (λ t e j. Clean r k t) e j (λ t' e' j' z. z (clean_none r k)))
      (λ z. (before y le z.0.0 z.0.1, barred_on z.1 (λ x' n v. end_behind (texts_there z.0.0 h z.0.1) v)))))
      (cases_Bool (is_calling r && (i == k)))
    where
      before : {j : ℕ} → is_calling r && (i == k) ≡ false → i ≤ j → is_calling r ≡ true → j ≡ k → i < k
      before y le q e = ⊎_elim (λ lt. lt) (λ ge. let e' : i ≡ k = omega arith in absurd (both_ways (is_calling r && (i == k)) y (and_from (is_calling r) (i == k) q (eq-eqb i k e')))) (cases_lt i k)

  arguments_there : (x : Trees) {d i j : ℕ} {c e : Scopes} {t : Trees} → Reads (arguments d x) c i t e j → j ≡ k → (i < k) × Runs body ts top (body (arguments d x)) c i (Done t e j)
  arguments_there x {d = d} {i = i} {j = j} {c = c} {e = e} h w =
      let v = means_there (arguments d x) h (omega arith) in
      let n = arguments_later (v.2 fresh) in
      (omega arith, subst (λ y. Runs body ts top (body (arguments d x)) c i (Done y e j)) (sym v.1) (completes ts top task.arguments (v.2 fresh) x))

  arguments_join : (d s : ℕ) (c : Scopes) (i : ℕ) → Owes (call (arguments d none) (λ x. suffixed d s x kind.Call)) (λ t e j. Clean r k t) c i
  arguments_join d s c i = λ t e j le h x. or_so (joins kind.Call refl d s t (λ t e j. Clean r k t) e j (λ t' e' j' z. z (x (clean_none r k))))
      (λ z. let v = arguments_there none h z.0.1 in (v.0, barred_on z.1 (λ x' n y. end_behind v.1 y)))

  -- The operand of a cast, which begins here.

  operand_there : (d s : ℕ) (c : Scopes) (i : ℕ) {l : Kind} {s' e' : ℕ} {b t : Trees} → t ≡ one l s' e' b → Clean r k t →
      There (bar (the word.LeftBrace) 3 (d + 1) (call (cast (d + 1)) (λ x. made kind.Cast s (t & x & none)))) (λ t e j. Clean r k t) c i
  operand_there d s c i e x = ⊎_elim
      (λ y. let v = both (is_literal r) (i == k) y in let w = literal_facts r v.0 in let e' : i ≡ k = eqb-true i k v.1 in
      inr (omega arith, ends_at 3 (the word.LeftBrace) (d + 1) w.1 e' (end_bar (yes (at_token word.LeftBrace w.0 e')))))
      (λ y. inl (λ u f j le h x'. let w = is_one (runs_sound (cast (d + 1)) c f i j u h fresh) in
      inl (clean_by r k ((ap (λ b. is_literal r && b) (begins_second k e w.2)) ∙ y) (clean_two r k x x'))))
      (cases_Bool (is_literal r && (i == k)))

  -- The declarator of a member, which ends here.

  declarator_there : {h : Context} {d i j : ℕ} {c e : Scopes} {t : Trees} → is_field r ≡ true → Reads (declarator named h d) c i t e j → j ≡ k →
      (i < k) × Runs body ts top (body (declarator named h d)) c i (Done t e j)
  declarator_there {h = h} {d = d} {i = i} {j = j} {c = c} {e = e} {t = t} y x w = by (means_there (declarator named h d) x (omega arith))
    where
      by : IsDeclared ts top named h d c i t e j → (i < k) × Runs body ts top (body (declarator named h d)) c i (Done t e j)
      by (with_name z z' o s) = let n = declarator_later s in (omega arith, before_colon s (at_token word.Colon (field_facts r y).0 w))
      by (without z z' s) = none_true z'

  declarator_one : {h : Context} {d i j : ℕ} {c e : Scopes} {t : Trees} → IsDeclared us limit named h d c i t e j → (l : Kind) × (b : Trees) × (t ≡ one l i j b)
  declarator_one (with_name z z' o s) = is_one s
  declarator_one (without z z' s) = none_true z'

  member_owes : (h : Context) (d s : ℕ) (x : Trees) (c : Scopes) (i : ℕ) → Owes (call (declarator named h d) (λ t. drops (member_end h d s x t))) (Unmarked r k (member_declarators h d s x) c i) c i
  member_owes h d s x c i = λ t e j le g y. ⊎_elim
      (λ z. let v = both (is_field r) (j == k) z in let w = field_facts r v.0 in let e' : j ≡ k = eqb-true j k v.1 in let n = declarator_there v.0 g e' in
      inr (n.0, barred_on (ends_at 5 (the word.Colon) d w.1 e' (end_look (end_set (end_bar (yes (at_token word.Colon w.0 e')))))) (λ x' n' z'. end_behind n.1 z')))
      (λ z. let w = declarator_one (runs_sound (declarator named h d) c e i j t g) in
      inl (
        inl (λ t' e' j' _ _ y'. inl (λ q o f. y' (clean_two r k q y) (some_more x t o) (declares_more (is_field r) k x o f w.2 z))),
        (inl (λ q o f. clean_by r k (declares_more (is_field r) k x o f w.2 z) (clean_two r k q y)), tt),
      ))
      (cases_Bool (is_field r && (j == k)))

  -- An initializer, which begins here.

  designates : (d : ℕ) (f : Trees → Prog) (c : Scopes) (i : ℕ) → is_designating r ≡ true → i ≡ k → Bars (call (initializer d) f) c i
  designates d f c i y e =
      let w = designator_facts r y in
      ends_at 2 (has is_designator) d w.2 e (end_inside (end_here (end_bar (sorted is_designator true (at_token w.0 w.1 e) w.3))))

  or_designates : (i : ℕ) {A B : Type 0} → (is_designating r ≡ true → i ≡ k → B) → (is_designating r && (i == k) ≡ false → A) → A ⊎ B
  or_designates i f g = ⊎_elim (λ y. let v = both (is_designating r) (i == k) y in inr (f v.0 (eqb-true i k v.1))) (λ y. inl (g y)) (cases_Bool (is_designating r && (i == k)))

  initial_owes : (d q : ℕ) (x : Trees) (c : Scopes) (i : ℕ) →
      There (call (initializer d) (λ t. made kind.InitDeclarator q (x & t & none))) (λ t e j. Clean r k x → IsOne x → Clean r k t) c i
  initial_owes d q x c i = or_designates i (λ y e. (omega arith, designates d _ c i y e))
      (λ y t e j _ _ z. inl (λ v o. clean_by r k ((ap (λ b. is_designating r && b) (begins_second k o.is z.1.is)) ∙ y) (clean_two r k v z.0)))

  begun_list : (s p : ℕ) (b : Trees) → Begun s (one kind.InitializerList s p b)
  begun_list s p b = record { kind = kind.InitializerList; past = p; parts = b; is = refl }

  list_owes : (d s : ℕ) (c : Scopes) (i : ℕ) → There (call (initializers d s none) give) (λ t e j. Clean r k t × Begun s t) c i
  list_owes d s c i = or_designates i (λ y e. (omega arith, barred_on (designates (d + 1) _ c i y e) (λ x n z. end_inside z)))
      (λ y t e j _ _ z. inl (z.0 (clean_none r k) (begins_none (is_designating r) k) y, z.1))

  initializers_owe : (d s : ℕ) (x : Trees) (c : Scopes) (i : ℕ) → Owes (body (initializers d s x)) (Unmarked r k (initializers d s x) c i) c i
  initializers_owe d s x c i = λ t e j _ _ z. inl (
    or_designates (j + 1) (λ y e'. (omega arith, barred_on (designates (d + 1) _ e (j + 1) y e') (λ x' n z'. let w = designator_facts r y in end_pass (differs (at_token w.0 w.1 e') word.RightBrace w.4) (end_inside z'))))
        (λ y. (
          inl (λ v b o. clean_by r k (begins_more (is_designating r) k x b z.1.is o) (clean_two r k v z.0), begun_list s (j + 1 + 1) (x & t & none)),
          λ t' e' j' _ _ z'. inl (λ v b o. z'.0 (clean_two r k v z.0) (begins_more (is_designating r) k x b z.1.is o) y, z'.1),
        )),
    (inl (λ v b o. clean_by r k (begins_more (is_designating r) k x b z.1.is o) (clean_two r k v z.0), begun_list s (j + 1) (x & t & none)), tt),
  )

  -- A declarator in a declaration, which has an initializer or none.

  pub declarator_alone : {h : Context} {d i j : ℕ} {c e : Scopes} {t : Trees} → Reads (declarator named h d) c i t e j → IsOne t
  declarator_alone {h = h} {d = d} {i = i} {j = j} {c = c} {e = e} {t = t} g =
      let w = declarator_one (runs_sound (declarator named h d) c e i j t g) in record { kind = w.0; first = i; past = j; parts = w.1; is = w.2 }

  declared_owes : (h : Context) (d s : ℕ) (x : Trees) (q : ℕ) (y : Trees) (c : Scopes) (i : ℕ) (f : Trees → Scopes → ℕ → Type 0) → Clean r k y → IsOne y →
      ((t : Trees) (e : Scopes) (j : ℕ) → (Clean r k x → Clean r k t) → f t e j) → Owes (declared_on h d s x q y) f c i
  declared_owes h d s x q y c i f v o g = λ t e j _ _ z. let w = z v o in inl (
    inl (λ t' e' j' _ _ z'. inl (g t' e' j' (λ u. z' (clean_two r k u w)))),
    (inl (g (one kind.Declaration s (j + 1) (x & t & none)) e (j + 1) (λ u. clean_one r k refl (clean_two r k u w))), tt),
  )

  -- The body of a switch, which begins here.

  switches : (l : m.Labels) (d s : ℕ) (x : Trees) (c : Scopes) (i : ℕ) → is_switching r s ≡ true → i ≡ k → Bars (switch_body l d s x) c i
  switches l d s x c i y e = by (switching_facts r s y)
    where
      by : Switching r → Bars (switch_body l d s x) c i
      by (by_label {w = w} q n z) = ends_at 6 label_start (d + 1) n e (end_bar (label_starts ts i w z (at_token w q e)))
      by (by_statement {w = w} q n z) =
          let v = at_token w q e in
          let f = statement_is_no_label w z in
          ends_at 7 statement_start (d + 1) n e
          (end_free (or_from (is_word ts i word.Case) (is_word ts i word.Default) (differs v word.Case f.1) (differs v word.Default f.2)) (end_bar (sorted begins_statement true v z)))

  switch_owes : (l : m.Labels) (d s : ℕ) (x : Trees) (c : Scopes) (i : ℕ) {l' : Kind} {s' e' : ℕ} {b : Trees} → x ≡ one l' s' e' b → Clean r k x →
      There (switch_body l d s x) (λ t e j. asks_block r ≡ true → Clean r k t) c i
  switch_owes l d s x c i q z = ⊎_elim
      (λ y. let v = both (is_switching r s) (i == k) y in let e : i ≡ k = eqb-true i k v.1 in inr (omega arith, switches l d s x c i v.0 e))
      (λ y. inl (λ t e j _ _ z'. inl (λ o. clean_by r k
      (or_from (is_labelling r) (is_switching r s && one_begins_at k (after_first (x & t & none))) (no_labelling r o) ((ap (λ b. is_switching r s && b) (begins_second k q z'.1.is)) ∙ y))
      (clean_two r k z (z'.0 o)))))
      (cases_Bool (is_switching r s && (i == k)))

  -- Statements.

  -- behind a name that may be a label
  marked_owes : (l : m.Labels) (d s : ℕ) (p : m.Prog) (c : Scopes) (i : ℕ) → Owes p (λ t e j. asks_block r ≡ true → Clean r k t) c i → Owes (program.marked l d s p) (λ t e j. asks_block r ≡ true → Clean r k t) c i
  marked_owes l d s p c i x = ((λ y. (inl (λ t e j _ _ x. inl (λ o. clean_by r k (no_labelling r o) (clean_alone r k (x o)))), tt), λ y. tt), x)

  -- behind the specifiers of a declaration
  rest_owes : (d s : ℕ) (t : Trees) (f : Trees → Scopes → ℕ → Type 0) (c : Scopes) (i : ℕ) → Clean r k t → ((u : Trees) (e : Scopes) (j : ℕ) → Clean r k u → f u e j) → Owes (declaration_rest d s t) f c i
  rest_owes d s t f c i x g = (inl (g _ c (i + 1) (clean_one r k refl (clean_alone r k x))), λ u e j _ _ y. inl (g u e j (y (clean_alone r k x))))

  unlabelled_owes : (l : m.Labels) (d s : ℕ) (c : Scopes) (i : ℕ) → Owes (unlabelled l d s) (λ t e j. asks_block r ≡ true → Clean r k t) c i
  unlabelled_owes l d s c i = (
    λ t e j _ _ x. inl x.0,
    (
      inl (λ t e j _ _ x. inl x),
      (
        inl (λ t e j _ _ x. inl x),
        (
          inl (λ t e j _ _ x. inl x),
          (
            inl (λ t e j _ _ x. inl x),
            (
              inl (λ t e j _ _ x. inl x),
              (
                inl (inl (inl (λ o. clean_one r k refl (clean_none r k)), tt), tt),
                (
                  inl (inl (λ o. clean_one r k refl (clean_none r k)), tt),
                  (
                    inl (inl (λ o. clean_one r k refl (clean_none r k)), tt),
                    (
                      inl (λ t e j _ _ x. inl (λ o. x)),
                      (
                        inl (λ o. clean_one r k refl (clean_none r k)),
                        (
                          inl (marked_owes l d s (m.stop d) c (i + 1) tt),
                          λ t e j _ _ x. inl (λ y. marked_owes l d s (expression_rest d s t) e j (inl (λ o. clean_one r k refl (clean_alone r k x)), tt), λ y. (inl (λ o. clean_one r k refl (clean_alone r k x)), tt)),
                        ),
                      ),
                    ),
                  ),
                ),
              ),
            ),
          ),
        ),
      ),
    ),
  )

  labelled_owes : (l : m.Labels) (d s : ℕ) (c : Scopes) (i : ℕ) → Owes (labelled l d s (unlabelled l d s)) (λ t e j. asks_block r ≡ true → Clean r k t) c i
  labelled_owes l d s c i = (
    inl (λ t e j _ _ x. inl (inl (λ t' e' j' _ _ x'. inl (λ o. clean_by r k (no_labelling r o) (clean_two r k x (x' o)))), tt)),
    (inl (inl (λ t e j _ _ x. inl (λ o. clean_by r k (no_labelling r o) (clean_alone r k (x o)))), tt), unlabelled_owes l d s c i),
  )

  -- What the goals owe.

  owes : (g : Goal) (c : Scopes) (i : ℕ) → Owes (body g) (Unmarked r k g c i) c i
  owes (whole p d) c i = λ t e j _ _ x. inl (clean_start r k p d c i t e j x)
  owes (expression d) c i = λ t e j _ _ x. inl (λ t' e' j' _ _ x'. inl (x' x))
  owes (commas d s y) c i = (inl (λ t e j _ _ x. inl (λ t' e' j' _ _ x'. inl (λ z. x' (clean_one r k refl (clean_two r k z x))))), λ z. z)
  owes (assignment d) c i = λ t e j _ _ x. inl (
    λ u. words_owe opens is_unmarked assignment_operators refl d (assigned d i t) (give t) (Unmarked r k (assignment d) c i) e j
        (λ l n. inl (λ t' e' j' _ _ x'. inl (clean_one r k n (clean_two r k x x')))) x,
    λ u. x,
  )
  owes (conditional d) c i = λ t e j _ _ x. inl (
    inl (λ t' e' j' _ _ x'. inl (inl (λ t'' e'' j'' _ _ x''. inl (clean_one r k refl (clean_and r k t (t' & t'' & none) x (clean_two r k x' x'')))), tt)),
    x,
  )
  owes (m.binary p d) c i = λ t e j _ _ x. inl (λ t' e' j' _ _ x'. inl (x' (clean_tighter r k p d c i t e j x)))
  owes (operands p d s y) c i = words_owe plain is_unmarked (operators p) (operators_unmarked p) d (operated p d s y) (give y) (Unmarked r k (operands p d s y) c i) c i
      (λ l n. inl (λ t e j _ _ x. inl (λ t' e' j' _ _ x'. inl (λ z. x' (clean_one r k n (clean_two r k z (clean_tighter r k p d c (i + 1) t e j x))))))) (λ z. z)
  owes (cast d) c i = (
    inl (
      λ t e j _ h x. inl (operand_there d i e (j + 1) (is_one (runs_sound (type_name (d + 1)) c e (i + 1) j t h fresh)).2 x, tt),
      λ t e j _ _ x. inl x,
    ),
    λ t e j _ _ x. inl x,
  )
  owes (unary d) c i = words_owe opens is_unmarked unary_prefixes refl d (prefixed (unary (d + 1)) i) (choose opens cast_prefixes d (prefixed (cast (d + 1)) i) (sized d i)) (Unmarked r k (unary d) c i) c i
      (λ l n. inl (λ t e j _ _ x. inl (clean_one r k n (clean_alone r k x))))
      (words_owe opens is_unmarked cast_prefixes refl d (prefixed (cast (d + 1)) i) (sized d i) (Unmarked r k (unary d) c i) c i
      (λ l n. inl (λ t e j _ _ x. inl (clean_one r k n (clean_alone r k x))))
      (inl (λ t e j _ _ x. inl x), λ t e j _ _ x. inl x))
  owes (measured d s) c i = (
    inl (
      λ t e j _ _ x. inl (inl (clean_one r k refl (clean_alone r k x)), tt),
      λ t e j _ _ x. inl (clean_one r k refl (clean_alone r k x)),
    ),
    λ t e j _ _ x. inl (clean_one r k refl (clean_alone r k x)),
  )
  owes (postfix d) c i = (
    inl (λ t e j _ _ x. inl x),
    words_owe plain is_joined constants refl d (suffixed d i none) (other_primary d i) (Unmarked r k (postfix d) c i) c i
        (λ l n. joins_there l n d i none (Unmarked r k (postfix d) c i) c (i + 1) (λ t e j z. z (clean_none r k)))
        (text_joins d i c (i + 1), (inl (λ t e j _ _ x. inl x), tt)),
  )
  owes (called d s) c i = (
    inl (joins_there kind.Call refl d s none (Unmarked r k (called d s) c i) c (i + 1 + 1) (λ t e j z. z (clean_none r k)), arguments_join d s c (i + 1)),
    λ t e j _ _ x. inl (x (clean_one r k refl (clean_none r k))),
  )
  owes (grouped d s) c i = λ t e j _ _ x. inl (joins_there kind.Group refl d s (t & none) (Unmarked r k (grouped d s) c i) e (j + 1) (λ t' e' j' z. z (clean_alone r k x)), tt)
  owes (texts d) c i = (inl (λ t e j _ _ x. inl x), clean_none r k)
  owes (arguments d y) c i = λ t e j _ _ x. inl (
    inl (λ t' e' j' _ _ x'. inl (λ z. x' (clean_two r k z x))),
    (inl (λ z. clean_two r k z x), tt),
  )
  owes (suffixes d s y) c i = (
    inl (λ t e j _ _ x. inl (joins_there kind.Subscript refl d s (y & t & none) (Unmarked r k (suffixes d s y) c i) e (j + 1) (λ t' e' j' z q. z (clean_two r k q x)), tt)),
    (
      inl (joins_there kind.Member refl d s (y & none) (Unmarked r k (suffixes d s y) c i) c (i + 1 + 1) (λ t e j z q. z (clean_alone r k q)), tt),
      (
        inl (joins_there kind.PointerMember refl d s (y & none) (Unmarked r k (suffixes d s y) c i) c (i + 1 + 1) (λ t e j z q. z (clean_alone r k q)), tt),
        words_owe plain is_joined postfix_operators refl d (suffixed d s (y & none)) (suffixes_end d y) (Unmarked r k (suffixes d s y) c i) c i
            (λ l n. joins_there l n d s (y & none) (Unmarked r k (suffixes d s y) c i) c (i + 1) (λ t e j z q. z (clean_alone r k q)))
            (λ u z. z, λ u z. z),
      ),
    ),
  )
  owes (type_name d) c i = λ t e j _ _ x. inl (λ t' e' j' _ _ x'. inl (clean_one r k refl (clean_two r k x x')), x)
  owes (row p h d) c i = λ t e j _ _ x. inl (λ t' e' j' _ _ x'. inl (x' (clean_alone r k x)))
  owes (more p h d s y) c i = (λ t e j _ _ x. inl (λ t' e' j' _ _ x'. inl (λ z. x' (clean_two r k z x))), λ z. clean_row r k p s i y z)
  owes (element p h d) c i = words_owe plain is_unmarked (specifier_words p) (specifiers_unmarked p) d (λ l. made l i none) (other_element h d i) (Unmarked r k (element p h d) c i) c i
      (λ l n. inl (clean_one r k n (clean_none r k)))
      (inl (λ t e j _ _ x. inl x), (inl (λ t e j _ _ x. inl x), (inl (clean_one r k refl (clean_none r k)), tt)))
  owes (structure d s) c i = (
    inl (inl (λ t e j _ _ x. inl (x (clean_none r k))), clean_one r k refl (clean_none r k)),
    (inl (λ t e j _ _ x. inl (x (clean_none r k))), tt),
  )
  owes (members d s y) c i = λ t e j _ _ x. inl (
    inl (λ z. clean_one r k refl (clean_two r k z x)),
    λ t' e' j' _ _ x'. inl (λ z. x' (clean_two r k z x)),
  )
  owes (member d) c i = λ t e j _ h x. let s = runs_sound (row part.PlainSpecifiers fresh d) c e i j t h in
      inl (λ t' e' j' _ _ x'. inl (x' (clean_alone r k x) (part_some s none) (declares_none (is_field r) k (is_one s).2)))
  owes (member_declarators h d s y) c i = member_owes h d s y c i
  owes (enumeration d s) c i = (
    inl (inl (λ t e j _ _ x. inl (x (clean_none r k))), clean_one r k refl (clean_none r k)),
    (inl (λ t e j _ _ x. inl (x (clean_none r k))), tt),
  )
  owes (enumerators d s y) c i = λ t e j _ _ x. inl (
    inl (
      inl (λ z. clean_one r k refl (clean_two r k z x)),
      λ t' e' j' _ _ x'. inl (λ z. x' (clean_two r k z x)),
    ),
    (inl (λ z. clean_one r k refl (clean_two r k z x)), tt),
  )
  owes (enumerator d) c i = (
    inl (inl (λ t e j _ _ x. inl (clean_one r k refl (clean_alone r k x))), clean_one r k refl (clean_none r k)),
    tt,
  )
  owes (qualifiers d) c i = (inl (λ t e j _ _ x. inl x), clean_none r k)
  owes (declarator w h d) c i = (
    inl (λ t e j _ _ x. inl (
      λ o. (λ t' e' j' _ _ x'. inl (λ u. clean_one r k refl (clean_alone r k x'), λ u. clean_one r k refl (clean_alone r k x')), clean_one r k refl (clean_none r k)),
      λ o t' e' j' _ _ x'. inl (λ u. clean_one r k refl (clean_alone r k x'), λ u. clean_one r k refl (clean_alone r k x')),
    )),
    (
      inl (λ t e j _ _ x. inl (
        inl (
          λ u t' e' j' _ _ x'. inl (x' (clean_one r k refl (clean_alone r k x))),
          λ u t' e' j' _ _ x'. inl (x' (clean_one r k refl (clean_alone r k x))),
        ),
        tt,
      )),
      (λ o. (inl (λ t e j _ _ x. inl (x (clean_one r k refl (clean_none r k)))), arrays), λ o. arrays),
    ),
  )
    where
      arrays : Owes (array_start w d i) (Unmarked r k (declarator w h d) c i) c i
      arrays = (λ o. (inl (λ t e j _ _ x. inl (λ t' e' j' _ _ x'. inl (x' (clean_one r k refl x)))), tt), λ o. tt)
  owes (declarator_suffixes d s y) c i = (
    inl (λ t e j _ _ x. inl (λ t' e' j' _ _ x'. inl (λ z. x' (clean_one r k refl (clean_and r k y t z x))))),
    (
      inl (
        inl (λ t e j _ _ x. inl (λ z. x (clean_one r k refl (clean_alone r k z)))),
        λ t e j _ _ x. inl (inl (λ t' e' j' _ _ x'. inl (λ z. x' (clean_one r k refl (clean_two r k z x)))), tt),
      ),
      λ z. z,
    ),
  )
  owes (abstract_suffixes d s y) c i = (inl (λ t e j _ _ x. inl (λ t' e' j' _ _ x'. inl (λ z. x' (clean_one r k refl (clean_and r k y t z x))))), λ z. z)
  owes (size d) c i = (inl (clean_none r k), λ t e j _ _ x. inl (inl (clean_alone r k x), tt))
  owes (parameters d) c i = λ t e j _ _ x. inl (λ t' e' j' _ _ x'. inl (x' (clean_alone r k x)))
  owes (more_parameters d s y) c i = (
    inl (inl (λ z. clean_one r k refl z), λ t e j _ _ x. inl (λ t' e' j' _ _ x'. inl (λ z. x' (clean_two r k z x)))),
    λ z. clean_parameters r k s i y z,
  )
  owes (parameter d) c i = λ t e j _ _ x. inl (
    λ t' e' j' _ _ x'. inl (λ u. clean_one r k refl (clean_two r k x x'), λ u. clean_one r k refl (clean_two r k x x')),
    x,
  )
  owes (unit l d) c i = λ t e j _ _ x. inl (λ t' e' j' _ _ x'. inl (λ o. x' (clean_alone r k (x o)) o))
  owes (externals l d y) c i = (λ t e j _ _ x. inl (λ t' e' j' _ _ x'. inl (λ q o. x' (clean_two r k q (x o)) o)), λ q o. q)
  owes (external l d) c i = λ t e j _ _ x. inl (
    inl (λ o. clean_one r k refl (clean_alone r k x)),
    λ t' e' j' _ g x'. inl (
      (λ u t'' e'' j'' _ _ x''. inl (λ o. let w = unit_facts r o in clean_by r k w.1 (clean_and r k t (t' & t'' & none) x (clean_two r k x' (x''.0 w.0)))), λ u. tt),
      declared_owes (past_part fresh t) d i (t & none) j t' e' j' (Unmarked r k (external l d) c i) x' (declarator_alone g) (λ u e j z o. z (clean_alone r k x)),
    ),
  )
  owes (declaration d) c i = λ t e j _ _ x. inl (rest_owes d i t (λ u e j. Clean r k u) e j x (λ u e j y. y))
  owes (init_declarators h d s y) c i = λ t e j _ g x. inl (declared_owes h d s y i t e j (Unmarked r k (init_declarators h d s y) c i) x (declarator_alone g) (λ u e j z. z))
  owes (initialized d q y) c i = (initial_owes d q y c (i + 1), λ v o. v)
  owes (initializer d) c i = (
    list_owes d i c (i + 1),
    λ t e j _ g x. inl (x, let w = is_one (runs_sound (assignment d) c e i j t g fresh) in record { kind = w.0; past = j; parts = w.1; is = w.2 }),
  )
  owes (initializers d s y) c i = initializers_owe d s y c i
  owes (statement l d) c i = (λ u. labelled_owes l d i c i, λ u. unlabelled_owes l d i c i)
  owes (block l d) c i = λ t e j _ _ x. inl x
  owes (if_rest l d s) c i = (
    inl (λ t e j _ _ x. inl (
      inl (λ t' e' j' _ _ x'. inl (
        λ u o. clean_one r k refl (clean_two r k x (x' o)),
        λ u. (
          inl (λ t'' e'' j'' _ _ x''. inl (λ o. clean_one r k refl (clean_and r k t (t' & t'' & none) x (clean_two r k (x' o) (x'' o))))),
          λ o. clean_one r k refl (clean_two r k x (x' o)),
        ),
      )),
      tt,
    )),
    tt,
  )
  owes (switch_rest l d s) c i = (
    inl (λ t e j _ g x. inl (switch_owes l d s t e (j + 1) (is_one (runs_sound (expression (d + 1)) ([] ∷ c) e (i + 1) j t g fresh)).2 x, tt)),
    tt,
  )
  owes (while_rest l d s) c i = (inl (λ t e j _ _ x. inl (inl (λ t' e' j' _ _ x'. inl (λ o. clean_one r k refl (clean_two r k x (x' o)))), tt)), tt)
  owes (do_rest l d s) c i = λ t e j _ _ x. inl (
    inl (inl (λ t' e' j' _ _ x'. inl (inl (inl (λ o. clean_one r k refl (clean_two r k (x o) x')), tt), tt)), tt),
    tt,
  )
  owes (for_rest l d s) c i = (
    inl (
      λ t e j _ _ x. inl (λ t' e' j' _ _ x'. inl (λ o. x' (clean_alone r k x) o)),
      λ t e j _ _ x. inl (λ t' e' j' _ _ x'. inl (λ o. x' x o)),
    ),
    tt,
  )
  owes (return_rest d s) c i = (inl (clean_one r k refl (clean_none r k)), λ t e j _ _ x. inl (inl (clean_one r k refl (clean_alone r k x)), tt))
  owes (for_clauses l d s y) c i = λ t e j _ _ x. inl (
    inl (λ t' e' j' _ _ x'. inl (λ q o. clean_one r k refl (clean_and r k (y & t) (t' & none) (clean_and r k y t q x) (clean_alone r k (x' o))))),
    λ t' e' j' _ _ x'. inl (
      inl (λ t'' e'' j'' _ _ x''. inl (λ q o. clean_one r k refl (clean_and r k (y & t & t' & none) (t'' & none) (clean_and r k y (t & t' & none) q (clean_two r k x x')) (clean_alone r k (x'' o))))),
      tt,
    ),
  )
  owes (clause d) c i = (inl (clean_none r k), λ t e j _ _ x. inl (inl (clean_alone r k x), tt))
  owes (compound l d) c i = (inl (λ t e j _ _ x. inl (λ o. x.0 (clean_none r k) o, x.1)), tt)
  owes (items l d s y) c i = (
    inl (λ q o. clean_one r k refl q, record { kind = kind.Compound; past = i + 1; parts = y; is = refl }),
    λ t e j _ _ x. inl (λ t' e' j' _ _ x'. inl (λ q o. x'.0 (clean_two r k q (x o)) o, x'.1)),
  )
  owes (item l d) c i = (
    λ t e j _ _ x. inl (
      λ y. marked_owes l d i (declaration_rest d i t) e j (rest_owes d i t (λ u e j. asks_block r ≡ true → Clean r k u) e j x (λ u e j z o. z)),
      λ y. rest_owes d i t (λ u e j. asks_block r ≡ true → Clean r k u) e j x (λ u e j z o. z),
    ),
    λ t e j _ _ x. inl x,
  )

  pub barred_there : (g : Goal) {c e : Scopes} {i j : ℕ} {t : Trees} → Reads g c i t e j → Unmarked r k g c i t e j ⊎ (i < k) × Bars (body g) c i
  barred_there g {c = c} {i = i} h = marked body ts us limit top (row_of r) k (Unmarked r k) alike allowed owes h (Unmarked r k g c i) (owes g c i)

-- A form that names no token bars none, so no tree that is read bears its mark.
module _ (r : Form) (none_named : token_of r ≡ None) (us : List Lexeme) (limit : Limit) where
  named_none : {A : Type 0} {w : Word} → token_of r ≡ Some w → A
  named_none q = cc

  pub unmarked_by : (g : Goal) {c e : Scopes} {i j : ℕ} {t : Trees} → Runs body us limit (body g) c i (Done t e j) → Unmarked r 0 g c i t e j
  unmarked_by g h = ⊎_elim (λ x. x) (λ x. absurd (omega arith)) (barred_there us us limit limit r 0 (λ w q. named_none q) (λ n lt. refl) (λ a n d lt w. w) g h)

  pub declarator_is_one : {h : Context} {d i j : ℕ} {c e : Scopes} {t : Trees} → Runs body us limit (body (declarator named h d)) c i (Done t e j) → IsOne t
  declarator_is_one h = declarator_alone us us limit limit r 0 (λ w q. named_none q) (λ n lt. refl) (λ a n d lt w. w) h

  -- the parts of a declaration with a declarator
  pub declaration_parts : {d q : ℕ} {t t' t1 : Trees} {c c' c1 e e' e1 : Scopes} {i i' i1 j j' j1 : ℕ} → Runs body us limit (body (row part.Specifiers fresh d)) c i (Done t e j) →
      Runs body us limit (body (declarator named (past_part fresh t) d)) c' i' (Done t' e' j') → Runs body us limit (body (initialized d q t')) c1 i1 (Done t1 e1 j1) →
      Clean r 0 ((t & none) & t1 & none)
  declaration_parts {d = d} {q = q} {t = t} {t' = t'} h h' h1 = clean_two r 0 (clean_alone r 0 (unmarked_by (row part.Specifiers fresh d) h))
      (unmarked_by (initialized d q t') h1 (unmarked_by (declarator named (past_part fresh t) d) h') (declarator_is_one h'))

-- the list goes on to its tokens
pub within : (ts : List Lexeme) (k : ℕ) {w : Word} → Is ts k w → k < length ts
within [] k q = cc
within (x ∷ ts) zero q = omega arith
within (x ∷ ts) (suc k) q = let n = within ts k q in omega arith

pub allows_before : (k most : ℕ) (g : Manner) (n d : ℕ) → n < k → Allows (Upto k most) g n d → Allows (AtMost most) g n d
allows_before k most plain n d lt w = tt
allows_before k most opens n d lt w = w lt
allows_before k most reopens n d lt w = (tt, w.1 lt)

-- a form's token behind its tree is refused by the form's row
pub form_is_barred : (r : Form) {ts : List Lexeme} (s : Start) {k : ℕ} {w : Word} {test : Kind → ℕ → ℕ → Trees → Bool} → IsStart s.part → token_of r ≡ Some w → Is ts k w →
    ((l : Kind) (i j : ℕ) (b : Trees) → test l i j b ≡ true → mark r k l i j b ≡ true) → ShowsFrom ts s k test →
    Barred body ts (AtMost most_levels) (row_of r) k (body (start_goal s.part s.depth)) s.scopes s.at
form_is_barred r {ts = ts} s {k = k} z o q f b = ⊎_elim
    (λ x. absurd (clean_start r k s.part s.depth s.scopes s.at b.trees b.continues.spelled.after (length b.continues.text) x (has_all f b.has)))
    (λ x. x.1)
    (barred_there ts b.continues.text (Upto k most_levels) (AtMost most_levels) r k (λ v o'. subst (λ x. Is ts k x) (some_one (sym o ∙ o')) q) alike (allows_before k most_levels) (start_goal s.part s.depth)
    (spelled_is_read b.continues.text (Upto k most_levels) z b.continues.spelled.spells (free_at_end b.continues.text 13)))
  where
    alike : (n : ℕ) → n < k → slice_get b.continues.text n ≡ slice_get ts n
    alike n lt = let le = within ts k q in begun_same ts b.continues.text k b.continues.alike n lt (omega arith)

-- where a row of the refused forms other than that of the keywords names a token, the machine refuses it by that row
pub outside_is_barred : {ts : List Lexeme} (s : Start) {k n : ℕ} → IsStart s.part → (n ≡ 1 → ⊥) → OutsideFrom ts s k n →
    Barred body ts (AtMost most_levels) n k (body (start_goal s.part s.depth)) s.scopes s.at
outside_is_barred s z f (unused_keyword q u) = absurd (f refl)
outside_is_barred s {k = k} z f (compound_literal q b) = form_is_barred literal s z refl q (literal_mark k) b
outside_is_barred s {k = k} z f (called_expression q b) = form_is_barred calling s z refl q (calling_mark k) b
outside_is_barred s {k = k} z f (bit_field q b) = form_is_barred field s z refl q (field_mark k) b

-- token k is refused by row n
pub data IsBarring (n k : ℕ) : Point → Type 0 where
  by_row : {x : m.Test} {d : ℕ} → IsBarring n k (at (barring x n d) k)

-- where the machine refuses a token, no such row names another one, and no other row that one
pub outside_is_end : {ts : List Lexeme} (s : Start) {i k n : ℕ} {w : Way} → IsStart s.part → Ends body ts (AtMost most_levels) (body (start_goal s.part s.depth)) s.scopes s.at w k →
    (n ≡ 1 → ⊥) → OutsideFrom ts s i n → IsBarring n i (at w k)
outside_is_end s {i = i} {n = n} z y f o = let b = outside_is_barred s z f o in subst (λ p. IsBarring n i p) (same_way b.ends y) by_row

-- where it reads the part, such a row names no token
pub outside_is_refused : {ts : List Lexeme} (s : Start) {i j n : ℕ} {t : Trees} {e : Scopes} → IsStart s.part → Runs body ts (AtMost most_levels) (body (start_goal s.part s.depth)) s.scopes s.at (Done t e j) →
    (n ≡ 1 → ⊥) → OutsideFrom ts s i n → ⊥
outside_is_refused s z h f o = let b = outside_is_barred s z f o in let q = same h (refused_so b.ends) in cc
