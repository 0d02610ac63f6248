-- First tokens of specifiers and declarators, and what is said after a row of specifiers.
use Rattle.std.proofs.Common.{◌≡◌, ℕ, Bool, true, false, not, ◌&&◌, ◌||◌, List, [], ◌∷◌, refl, sym, ap, subst, ◌∙◌}
use Rattle.cr_syntax.specs.declared.word.Word.{Word}
use Rattle.cr_syntax.specs.declared.word.Word.TheVariants as word
use Rattle.cr_syntax.specs.Symbols.{Depth}
use Rattle.cr_syntax.specs.Symbols as symbol
use Rattle.cr_syntax.specs.declared.scopes.TypeName.{TypeName}
use Rattle.cr_syntax.specs.declared.part.Part.{Part}
use Rattle.cr_syntax.specs.declared.part.Part.TheVariants as part
use Rattle.cr_syntax.specs.declared.part.Context.{Context}
use Rattle.cr_syntax.specs.Words.{Lexeme, spelling_at}
use Rattle.cr_syntax.specs.Scopes.{Scopes, is_type}
use Rattle.cr_syntax.specs.Trees.{Trees, none, node, ◌&◌}
use Rattle.cr_syntax.specs.Context.{past_part, any_kind, is_type_specifier}
use Rattle.cr_syntax.specs.Grammar.{many}
use Rattle.cr_syntax.specs.Grammar as grammar
use Rattle.cr_syntax.specs.Spells.{Limit, Is, IsIdentifier, Spells, a, rest}
use Rattle.cr_syntax.specs.Spells as spells
use Rattle.cr_syntax.specs.Reads.{is_word, same_word}
use Rattle.cr_syntax_machine.specs.Machine as m
use Rattle.cr_syntax_machine.specs.MachineBody.{is_plain_start, is_specifier_start, is_declarator, element_start, type_start}
use Rattle.cr_syntax_machine_laws.proofs.MachineMeans.{element_part, IsOpen}
use Rattle.cr_syntax_machine.proofs.MachineSpells.{is_one, Names, by_declarator, by_direct}
use Rattle.cr_syntax_machine_laws.proofs.MachineFirst.{none_true, yes, differs, sorted, same_is}
use Rattle.cr_syntax_machine_laws.proofs.MachineTasks.{past_row}
use Rattle.std.proofs.lemmas.Bool.{false_from_ne_true, or_left, or_right}
use Rattle.std.proofs.Math.Bool.{or-false, or_assoc}

-- Specifiers.

pub data PlainFirst (ts : List Lexeme) (c : Scopes) (i : ℕ) (typed : Bool) : Type 0 where
  by_plain : {w : Word} → Is ts i w → is_plain_start w ≡ true → PlainFirst ts c i typed
  by_type : IsIdentifier ts c i true → typed ≡ false → PlainFirst ts c i typed

pub data ElementFirst (ts : List Lexeme) (c : Scopes) (i : ℕ) (typed : Bool) : Type 0 where
  by_storage : {w : Word} → Is ts i w → is_specifier_start w ≡ true → ElementFirst ts c i typed
  of_plain : PlainFirst ts c i typed → ElementFirst ts c i typed

pub plain_first : {ts : List Lexeme} {limit : Limit} {h : Context} {c e : Scopes} {d i j : ℕ} {t : Trees} → Spells ts limit (a part.Plain) h c e d t i j → PlainFirst ts c i h.typed
plain_first (spells.of_chain x f s) = elim x [ ]
plain_first (spells.of_alternative grammar.qualifier_const f (spells.token q w s)) = by_plain q refl
plain_first (spells.of_alternative grammar.qualifier_volatile f (spells.token q w s)) = by_plain q refl
plain_first (spells.of_alternative grammar.type_void f (spells.token q w s)) = by_plain q refl
plain_first (spells.of_alternative grammar.type_char f (spells.token q w s)) = by_plain q refl
plain_first (spells.of_alternative grammar.type_short f (spells.token q w s)) = by_plain q refl
plain_first (spells.of_alternative grammar.type_int f (spells.token q w s)) = by_plain q refl
plain_first (spells.of_alternative grammar.type_long f (spells.token q w s)) = by_plain q refl
plain_first (spells.of_alternative grammar.type_signed f (spells.token q w s)) = by_plain q refl
plain_first (spells.of_alternative grammar.type_unsigned f (spells.token q w s)) = by_plain q refl
plain_first (spells.of_alternative grammar.type_bool f (spells.token q w s)) = by_plain q refl
plain_first (spells.of_alternative grammar.struct_content f (spells.token q w s)) = by_plain q refl
plain_first (spells.of_alternative grammar.struct_tag f (spells.token q w s)) = by_plain q refl
plain_first (spells.of_alternative grammar.enum_content f (spells.token q w s)) = by_plain q refl
plain_first (spells.of_alternative grammar.enum_tag f (spells.token q w s)) = by_plain q refl
plain_first (spells.of_alternative grammar.typedef_name f (spells.type_identifier q n w s)) = by_type q n

pub specifier_first : {ts : List Lexeme} {limit : Limit} {h : Context} {c e : Scopes} {d i j : ℕ} {t : Trees} → Spells ts limit (a part.Specifier) h c e d t i j → ElementFirst ts c i h.typed
specifier_first (spells.of_chain grammar.specifier_plain f s) = of_plain (plain_first s)
specifier_first (spells.of_alternative grammar.specifier_typedef f (spells.token q w s)) = by_storage q refl
specifier_first (spells.of_alternative grammar.specifier_extern f (spells.token q w s)) = by_storage q refl
specifier_first (spells.of_alternative grammar.specifier_static f (spells.token q w s)) = by_storage q refl
specifier_first (spells.of_alternative grammar.specifier_auto f (spells.token q w s)) = by_storage q refl
specifier_first (spells.of_alternative grammar.specifier_register f (spells.token q w s)) = by_storage q refl
specifier_first (spells.of_alternative grammar.specifier_inline f (spells.token q w s)) = by_storage q refl

plain_is_specifier : (w : Word) → is_plain_start w ≡ true → is_specifier_start w ≡ true
plain_is_specifier word.Typedef q = none_true q
plain_is_specifier word.Extern q = none_true q
plain_is_specifier word.Static q = none_true q
plain_is_specifier word.Auto q = none_true q
plain_is_specifier word.Register q = none_true q
plain_is_specifier word.Inline q = none_true q
plain_is_specifier _ q = q

pub type_test : (ts : List Lexeme) (c : Scopes) (i : ℕ) (typed : Bool) → IsIdentifier ts c i true → typed ≡ false → m.passes ts c i (m.type_identifier typed) ≡ true
type_test ts c i typed q n = (ap (λ b. b && is_type c (spelling_at ts i) && not typed) (yes q.0)) ∙ (ap (λ b. b && not typed) q.1) ∙ (ap (λ b. not b) n)

plain_yes : {ts : List Lexeme} {c : Scopes} {i : ℕ} {typed : Bool} → PlainFirst ts c i typed → m.passes ts c i (m.or (m.has is_plain_start) (m.type_identifier typed)) ≡ true
plain_yes {ts = ts} {c = c} {i = i} {typed = typed} (by_plain q n) = or_left (m.has_word ts i is_plain_start) (m.passes ts c i (m.type_identifier typed)) (sorted is_plain_start true q n)
plain_yes {ts = ts} {c = c} {i = i} {typed = typed} (by_type q n) = or_right (m.has_word ts i is_plain_start) (m.passes ts c i (m.type_identifier typed)) (type_test ts c i typed q n)

pub specifier_yes : {ts : List Lexeme} {c : Scopes} {i : ℕ} {typed : Bool} → ElementFirst ts c i typed → m.passes ts c i (m.or (m.has is_specifier_start) (m.type_identifier typed)) ≡ true
specifier_yes {ts = ts} {c = c} {i = i} {typed = typed} (by_storage q n) = or_left (m.has_word ts i is_specifier_start) (m.passes ts c i (m.type_identifier typed)) (sorted is_specifier_start true q n)
specifier_yes {ts = ts} {c = c} {i = i} {typed = typed} (of_plain (by_plain {w = w} q n)) =
    or_left (m.has_word ts i is_specifier_start) (m.passes ts c i (m.type_identifier typed)) (sorted is_specifier_start true q (plain_is_specifier w n))
specifier_yes {ts = ts} {c = c} {i = i} {typed = typed} (of_plain (by_type q n)) = or_right (m.has_word ts i is_specifier_start) (m.passes ts c i (m.type_identifier typed)) (type_test ts c i typed q n)

-- the words that no specifier begins with
pub data NoSpecifier : Word → Type 0 where
  no_left_brace : NoSpecifier word.LeftBrace
  no_right_brace : NoSpecifier word.RightBrace
  no_ellipsis : NoSpecifier word.Ellipsis
  no_right_paren : NoSpecifier word.RightParen
  no_else : NoSpecifier word.Else

not_specifier : (v w : Word) → NoSpecifier w → is_specifier_start v ≡ true → same_word v w ≡ false
not_specifier v w n s = false_from_ne_true (same_word v w) (λ q. by n (subst (λ x. is_specifier_start x ≡ true) (same_is v w q) s))
  where
    by : {x : Word} → NoSpecifier x → is_specifier_start x ≡ true → ⊥
    by no_left_brace q = none_true q
    by no_right_brace q = none_true q
    by no_ellipsis q = none_true q
    by no_right_paren q = none_true q
    by no_else q = none_true q

pub never_element : {ts : List Lexeme} {c : Scopes} {i : ℕ} {typed : Bool} {w : Word} → ElementFirst ts c i typed → NoSpecifier w → is_word ts i w ≡ false
never_element {w = w} (by_storage {w = v} q s) n = differs q w (not_specifier v w n s)
never_element {w = w} (of_plain (by_plain {w = v} q s)) n = differs q w (not_specifier v w n (plain_is_specifier v s))
never_element (of_plain (by_type q s)) no_left_brace = differs q.0 word.LeftBrace refl
never_element (of_plain (by_type q s)) no_right_brace = differs q.0 word.RightBrace refl
never_element (of_plain (by_type q s)) no_ellipsis = differs q.0 word.Ellipsis refl
never_element (of_plain (by_type q s)) no_right_paren = differs q.0 word.RightParen refl
never_element (of_plain (by_type q s)) no_else = differs q.0 word.Else refl

pub element_first : (p : Part) {ts : List Lexeme} {limit : Limit} {h : Context} {c e : Scopes} {d i j : ℕ} {t : Trees} → Spells ts limit (a (element_part p)) h c e d t i j → ElementFirst ts c i h.typed
element_first part.Specifiers s = specifier_first s
element_first _ s = of_plain (plain_first s)

pub element_yes : (p : Part) {ts : List Lexeme} {limit : Limit} {h : Context} {c e : Scopes} {d i j : ℕ} {t : Trees} → Spells ts limit (a (element_part p)) h c e d t i j →
    m.passes ts c i (element_start p h.typed) ≡ true
element_yes part.Specifiers s = specifier_yes (specifier_first s)
element_yes _ s = plain_yes (plain_first s)

pub plains_first : {ts : List Lexeme} {limit : Limit} {h : Context} {c e : Scopes} {d i j : ℕ} {t : Trees} → Spells ts limit (a part.PlainSpecifiers) h c e d t i j → PlainFirst ts c i h.typed
plains_first (spells.of_chain grammar.plain_one f s) = plain_first s
plains_first (spells.of_alternative grammar.specifier_qualifier_list f (spells.part x s)) = plain_first x

pub specifiers_first : {ts : List Lexeme} {limit : Limit} {h : Context} {c e : Scopes} {d i j : ℕ} {t : Trees} → Spells ts limit (a part.Specifiers) h c e d t i j → ElementFirst ts c i h.typed
specifiers_first (spells.of_chain grammar.specifiers_one f s) = specifier_first s
specifiers_first (spells.of_alternative grammar.declaration_specifiers f (spells.part x s)) = specifier_first x

pub type_yes : {ts : List Lexeme} {limit : Limit} {h : Context} {c e : Scopes} {d i j : ℕ} {t : Trees} → Spells ts limit (a part.TypeName) h c e d t i j → m.passes ts c i type_start ≡ true
type_yes (spells.of_chain grammar.type_name_plain f s) = plain_yes (plains_first s)
type_yes (spells.of_alternative grammar.type_name f (spells.part x s)) = plain_yes (plains_first x)

pub member_first : {ts : List Lexeme} {limit : Limit} {h : Context} {c e : Scopes} {d i j : ℕ} {t : Trees} → Spells ts limit (a part.MemberDeclaration) h c e d t i j → ElementFirst ts c i false
member_first (spells.of_alternative grammar.struct_declaration f (spells.part x s)) = of_plain (plains_first x)
member_first (spells.of_chain x f s) = elim x [ ]

pub parameter_first : {ts : List Lexeme} {limit : Limit} {h : Context} {c e : Scopes} {d i j : ℕ} {t : Trees} → Spells ts limit (a part.Parameter) h c e d t i j → ElementFirst ts c i false
parameter_first (spells.of_chain grammar.parameter_unnamed f s) = specifiers_first s
parameter_first (spells.of_alternative grammar.parameter_declaration f (spells.part x s)) = specifiers_first x

-- What is said after specifiers.

abbrev one_typed : Trees → Bool
one_typed none = false
one_typed (node k i j b n) = is_type_specifier k

plain_typed : {ts : List Lexeme} {limit : Limit} {h' : Context} {c e : Scopes} {d i j : ℕ} {t : Trees} → Spells ts limit (a part.Plain) h' c e d t i j → (h : Context) → (past_part h t).typed ≡ h.typed || one_typed t
plain_typed (spells.of_chain x f s) h = elim x [ ]
plain_typed (spells.of_alternative grammar.qualifier_const f s) h = refl
plain_typed (spells.of_alternative grammar.qualifier_volatile f s) h = refl
plain_typed (spells.of_alternative grammar.type_void f s) h = refl
plain_typed (spells.of_alternative grammar.type_char f s) h = refl
plain_typed (spells.of_alternative grammar.type_short f s) h = refl
plain_typed (spells.of_alternative grammar.type_int f s) h = refl
plain_typed (spells.of_alternative grammar.type_long f s) h = refl
plain_typed (spells.of_alternative grammar.type_signed f s) h = refl
plain_typed (spells.of_alternative grammar.type_unsigned f s) h = refl
plain_typed (spells.of_alternative grammar.type_bool f s) h = refl
plain_typed (spells.of_alternative grammar.struct_content f s) h = refl
plain_typed (spells.of_alternative grammar.struct_tag f s) h = refl
plain_typed (spells.of_alternative grammar.enum_content f s) h = refl
plain_typed (spells.of_alternative grammar.enum_tag f s) h = refl
plain_typed (spells.of_alternative grammar.typedef_name f s) h = refl

specifier_typed : {ts : List Lexeme} {limit : Limit} {h' : Context} {c e : Scopes} {d i j : ℕ} {t : Trees} → Spells ts limit (a part.Specifier) h' c e d t i j → (h : Context) → (past_part h t).typed ≡ h.typed || one_typed t
specifier_typed (spells.of_chain grammar.specifier_plain f s) h = plain_typed s h
specifier_typed (spells.of_alternative grammar.specifier_typedef f s) h = refl
specifier_typed (spells.of_alternative grammar.specifier_extern f s) h = refl
specifier_typed (spells.of_alternative grammar.specifier_static f s) h = refl
specifier_typed (spells.of_alternative grammar.specifier_auto f s) h = refl
specifier_typed (spells.of_alternative grammar.specifier_register f s) h = refl
specifier_typed (spells.of_alternative grammar.specifier_inline f s) h = refl

element_typed : (p : Part) {ts : List Lexeme} {limit : Limit} {h' : Context} {c e : Scopes} {d i j : ℕ} {t : Trees} → Spells ts limit (a (element_part p)) h' c e d t i j → (h : Context) → (past_part h t).typed ≡ h.typed || one_typed t
element_typed part.Specifiers s h = specifier_typed s h
element_typed _ s h = plain_typed s h

pub past_one : {ts : List Lexeme} {limit : Limit} {p : Part} {h' : Context} {c e : Scopes} {d i j : ℕ} {t : Trees} → Spells ts limit (a p) h' c e d t i j → (h : Context) (u : Trees) → past_row h (t & u) ≡ past_row (past_part h t) u
past_one s h u = let w = is_one s in subst (λ x. past_row h (x & u) ≡ past_row (past_part h x) u) (sym w.2) refl

any_one : {ts : List Lexeme} {limit : Limit} {p : Part} {h' : Context} {c e : Scopes} {d i j : ℕ} {t : Trees} → Spells ts limit (a p) h' c e d t i j → (u : Trees) →
    any_kind is_type_specifier (t & u) ≡ one_typed t || any_kind is_type_specifier u
any_one s u = let w = is_one s in subst (λ x. any_kind is_type_specifier (x & u) ≡ one_typed x || any_kind is_type_specifier u) (sym w.2) refl

any_typed : {ts : List Lexeme} {limit : Limit} {q : Part}
    (f : (h' : Context) (c e : Scopes) (d i j : ℕ) (t : Trees) → Spells ts limit (a q) h' c e d t i j → (h : Context) → (past_part h t).typed ≡ h.typed || one_typed t)
    {h' : Context} {c e : Scopes} {d i j : ℕ} {t : Trees} → Spells ts limit (rest (many q ∷ [])) h' c e d t i j → (h : Context) → (past_row h t).typed ≡ h.typed || any_kind is_type_specifier t
any_typed f (spells.many_none spells.done) h = sym (or-false h.typed)
any_typed f (spells.many_more {t = t} {u = u} x s) h =
    ap (λ y. y.typed) (past_one x h u) ∙ any_typed f s (past_part h t) ∙ ap (λ y. y || any_kind is_type_specifier u) (f _ _ _ _ _ _ _ x h)
    ∙ or_assoc h.typed (one_typed t) (any_kind is_type_specifier u) ∙ ap (λ y. h.typed || y) (sym (any_one x u))

pub row_typed : (p : Part) {ts : List Lexeme} {limit : Limit} {h' : Context} {c e : Scopes} {d i j : ℕ} {t : Trees} → Spells ts limit (rest (many (element_part p) ∷ [])) h' c e d t i j → (h : Context) →
    (past_row h t).typed ≡ h.typed || any_kind is_type_specifier t
row_typed p s h = any_typed (λ h' c e d i j t x h. element_typed p x h) s h

-- Declarators.

closing_same : {ts : List Lexeme} {limit : Limit} {l : Depth} {w : Word} {h : Context} {c e : Scopes} {d i j : ℕ} {t : Trees} → Spells ts limit (rest (symbol.Token l w ∷ [])) h c e d t i j → c ≡ e
closing_same (spells.token q w spells.done) = refl

array_open : {ts : List Lexeme} {limit : Limit} {h : Context} {c e : Scopes} {d i j : ℕ} {t : Trees} →
    Spells ts limit (rest (grammar.opening word.LeftBracket ∷ symbol.Size ∷ grammar.closing word.RightBracket ∷ [])) h c e d t i j → IsOpen c → IsOpen e
array_open (spells.opens q w (spells.size_none s)) o = subst (λ y. IsOpen y) (closing_same s) o
array_open (spells.opens q w (spells.size_some y s)) o = subst (λ y. IsOpen y) (closing_same s) refl

function_open : {ts : List Lexeme} {limit : Limit} {h : Context} {c e : Scopes} {d i j : ℕ} {t : Trees} →
    Spells ts limit (rest (grammar.opening word.LeftParen ∷ symbol.Prototype ∷ grammar.closing word.RightParen ∷ [])) h c e d t i j → IsOpen c → IsOpen e
function_open (spells.opens q w (spells.prototype_none s)) o = subst (λ y. IsOpen y) (closing_same s) o
function_open (spells.opens q w (spells.prototype_some y s)) o = subst (λ y. IsOpen y) (closing_same s) refl

-- a declarator with a name leaves the scope of its own parameters open
pub owned : {ts : List Lexeme} {limit : Limit} {p : Part} {h : Context} {c e : Scopes} {d i j : ℕ} {t : Trees} → Names p → Spells ts limit (a p) h c e d t i j → IsOpen e
owned by_declarator (spells.of_chain grammar.declarator_direct f s) = owned by_direct s
owned by_declarator (spells.of_alternative grammar.pointer_declarator f (spells.opens q w (spells.qualified k s))) = owned by_declarator s
owned by_direct (spells.of_chain x f s) = elim x [ ]
owned by_direct (spells.of_alternative grammar.name_declarator f (spells.declared q g w s)) = name_open s
  where
    name_open : {ts : List Lexeme} {limit : Limit} {h : Context} {own : List TypeName} {c e : Scopes} {d i j : ℕ} {t : Trees} → Spells ts limit (rest []) h (own ∷ c) e d t i j → IsOpen e
    name_open spells.done = refl
owned by_direct (spells.of_alternative grammar.group_declarator f (spells.opens q w (spells.part x s))) = subst (λ y. IsOpen y) (closing_same s) (owned by_declarator x)
owned by_direct (spells.of_alternative grammar.array_declarator f (spells.part x s)) = array_open s (owned by_direct x)
owned by_direct (spells.of_alternative grammar.function_declarator f (spells.part x s)) = function_open s (owned by_direct x)

pub is_named : {ts : List Lexeme} {limit : Limit} {p : Part} {h : Context} {c e : Scopes} {d i j : ℕ} {t : Trees} → Names p → Spells ts limit (a p) h c e d t i j → is_declarator t ≡ true
is_named by_declarator (spells.of_chain grammar.declarator_direct f s) = is_named by_direct s
is_named by_declarator (spells.of_alternative grammar.pointer_declarator f s) = refl
is_named by_direct (spells.of_chain x f s) = elim x [ ]
is_named by_direct (spells.of_alternative grammar.name_declarator f s) = refl
is_named by_direct (spells.of_alternative grammar.group_declarator f s) = refl
is_named by_direct (spells.of_alternative grammar.array_declarator f s) = refl
is_named by_direct (spells.of_alternative grammar.function_declarator f s) = refl

pub data Unnamed : Part → Type 0 where
  by_abstract : Unnamed part.Abstract
  by_direct_abstract : Unnamed part.DirectAbstract

pub is_unnamed : {ts : List Lexeme} {limit : Limit} {p : Part} {h : Context} {c e : Scopes} {d i j : ℕ} {t : Trees} → Unnamed p → Spells ts limit (a p) h c e d t i j → is_declarator t ≡ false
is_unnamed by_abstract (spells.of_chain grammar.abstract_direct f s) = is_unnamed by_direct_abstract s
is_unnamed by_abstract (spells.of_alternative grammar.abstract_pointer f s) = refl
is_unnamed by_direct_abstract (spells.of_chain x f s) = elim x [ ]
is_unnamed by_direct_abstract (spells.of_alternative grammar.abstract_group f s) = refl
is_unnamed by_direct_abstract (spells.of_alternative grammar.abstract_array f s) = refl
is_unnamed by_direct_abstract (spells.of_alternative grammar.abstract_array_of f s) = refl

-- how a declarator with a name begins
pub data NamedFirst (ts : List Lexeme) (c : Scopes) (i : ℕ) (typed : Bool) : Type 0 where
  by_star : Is ts i word.Star → NamedFirst ts c i typed
  by_paren : Is ts i word.LeftParen → NamedFirst ts c i typed
  by_name : Is ts i word.Identifier → typed || not (is_type c (spelling_at ts i)) ≡ true → NamedFirst ts c i typed

pub named_first : {ts : List Lexeme} {limit : Limit} {p : Part} {h : Context} {c e : Scopes} {d i j : ℕ} {t : Trees} → Names p → Spells ts limit (a p) h c e d t i j → NamedFirst ts c i h.typed
named_first by_declarator (spells.of_chain grammar.declarator_direct f s) = named_first by_direct s
named_first by_declarator (spells.of_alternative grammar.pointer_declarator f (spells.opens q w s)) = by_star q
named_first by_direct (spells.of_chain x f s) = elim x [ ]
named_first by_direct (spells.of_alternative grammar.name_declarator f (spells.declared q g w s)) = by_name q g
named_first by_direct (spells.of_alternative grammar.group_declarator f (spells.opens q w s)) = by_paren q
named_first by_direct (spells.of_alternative grammar.array_declarator f (spells.part x s)) = named_first by_direct x
named_first by_direct (spells.of_alternative grammar.function_declarator f (spells.part x s)) = named_first by_direct x

-- how one without a name begins
pub data UnnamedFirst (ts : List Lexeme) (i : ℕ) : Type 0 where
  at_star : Is ts i word.Star → UnnamedFirst ts i
  at_paren : Is ts i word.LeftParen → UnnamedFirst ts i
  at_bracket : Is ts i word.LeftBracket → UnnamedFirst ts i

pub unnamed_first : {ts : List Lexeme} {limit : Limit} {p : Part} {h : Context} {c e : Scopes} {d i j : ℕ} {t : Trees} → Unnamed p → Spells ts limit (a p) h c e d t i j → UnnamedFirst ts i
unnamed_first by_abstract (spells.of_chain grammar.abstract_direct f s) = unnamed_first by_direct_abstract s
unnamed_first by_abstract (spells.of_alternative grammar.abstract_pointer f (spells.opens q w s)) = at_star q
unnamed_first by_direct_abstract (spells.of_chain x f s) = elim x [ ]
unnamed_first by_direct_abstract (spells.of_alternative grammar.abstract_group f (spells.opens q w s)) = at_paren q
unnamed_first by_direct_abstract (spells.of_alternative grammar.abstract_array f (spells.opens q w s)) = at_bracket q
unnamed_first by_direct_abstract (spells.of_alternative grammar.abstract_array_of f (spells.part x s)) = unnamed_first by_direct_abstract x
