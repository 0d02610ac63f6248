-- At one token the levels of a program's tests never rise: each has the levels of the one before it or fewer, and where
-- the program stops it says no more than the last of them. So says `Steady`, of a program and then goal by goal.
use Rattle.std.proofs.Common.{◌≡◌, ℕ, ◌+◌, ◌<◌, ◌≤◌, Bool, true, false, not, ◌&&◌, ◌||◌, List, [], ◌∷◌, None, Some, refl, sym, ap, subst, ◌∙◌, arith, ◌⊎◌, inl, inr}
use Rattle.std.proofs.lemmas.Bool.{both_ways, or_cases, or_from}
use Rattle.cr_syntax.specs.declared.word.Word.{Word}
use Rattle.cr_syntax.specs.declared.word.Word.TheVariants as word
use Rattle.cr_syntax.specs.declared.node.Kind.{Kind}
use Rattle.cr_syntax.specs.declared.part.Part.{Part}
use Rattle.cr_syntax.specs.declared.part.Part.TheVariants as part
use Rattle.cr_syntax.specs.declared.part.Context.{Context}
use Rattle.cr_syntax.specs.Words.{Lexeme, spelling_at}
use Rattle.cr_syntax.specs.Scopes.{Scopes, is_type, enter}
use Rattle.cr_syntax.specs.Trees.{Trees, none, ◌&◌}
use Rattle.cr_syntax.specs.Context.{fresh, past_token, past_part}
use Rattle.cr_syntax.specs.Spells.{Is}
use Rattle.cr_syntax.specs.Reads.{is_word, same_word}
use Rattle.cr_syntax.specs.Units.{is_unused, StandsIn, subscript_for_call}
use Rattle.cr_syntax_machine.specs.Machine.{Goal, Prog, Manner, Test, Wanted, named, unnamed, either, plain, opens, reopens, the, has, ordinary, type_identifier, declared, or, passes, has_word, is_bracket, levels_at, brought, choose, give, stop, refuse, take, bar, peek, when, here, look, set, bring, call, made, Labels, anywhere, own_block, in_block, nowhere}
use Rattle.cr_syntax_machine.specs.Machine.{whole, expression, commas, assignment, conditional, binary, operands, cast, unary, measured, postfix, called, grouped, texts, arguments, suffixes, type_name, row, more, element, structure, members, member, member_declarators, enumeration, enumerators, enumerator, qualifiers, declarator, declarator_suffixes, abstract_suffixes, size, parameters, more_parameters, parameter}
use Rattle.cr_syntax_machine.specs.Machine.{unit, externals, external, declaration, init_declarators, initialized, initializer, initializers, statement, block, if_rest, switch_rest, while_rest, do_rest, for_rest, return_rest, for_clauses, clause, compound, items, item}
use Rattle.cr_syntax_machine.specs.MachineBody.{Words, body, declared_on, unlabelled, labelled, marked, declaration_rest, expression_rest, is_label, assigned, operated, prefixed, suffixed, sized, other_primary, suffixes_end, other_element, array_start, may_omit, start_goal, tighter, assignment_operators, operators, unary_prefixes, cast_prefixes, constants, postfix_operators, specifier_words, plain_words, element_start, is_plain_start, is_specifier_start, is_abstract_start, is_declarator_start, declarator_start}
use Rattle.cr_syntax.proofs.Tests.{both, not_true}
use Rattle.cr_syntax_machine_laws.proofs.MachineFirst.{none_true, true_false, some_word_of}

-- Levels.

-- the levels that a goal's number says
abbrev pub depth_of : Goal → ℕ
depth_of (whole p d) = d
depth_of (expression d) = d
depth_of (commas d s a) = d
depth_of (assignment d) = d
depth_of (conditional d) = d
depth_of (binary p d) = d
depth_of (operands p d s a) = d
depth_of (cast d) = d
depth_of (unary d) = d
depth_of (measured d s) = d
depth_of (postfix d) = d
depth_of (called d s) = d
depth_of (grouped d s) = d
depth_of (texts d) = d
depth_of (arguments d a) = d
depth_of (suffixes d s a) = d
depth_of (type_name d) = d
depth_of (row p h d) = d
depth_of (more p h d s a) = d
depth_of (element p h d) = d
depth_of (structure d s) = d
depth_of (members d s a) = d
depth_of (member d) = d
depth_of (member_declarators h d s a) = d
depth_of (enumeration d s) = d
depth_of (enumerators d s a) = d
depth_of (enumerator d) = d
depth_of (qualifiers d) = d
depth_of (declarator w h d) = d
depth_of (declarator_suffixes d s a) = d
depth_of (abstract_suffixes d s a) = d
depth_of (size d) = d
depth_of (parameters d) = d
depth_of (more_parameters d s a) = d
depth_of (parameter d) = d
depth_of (unit l d) = d
depth_of (externals l d x) = d
depth_of (external l d) = d
depth_of (declaration d) = d
depth_of (init_declarators h d s x) = d
depth_of (initialized d q x) = d
depth_of (initializer d) = d
depth_of (initializers d s x) = d
depth_of (statement l d) = d
depth_of (block l d) = d
depth_of (if_rest l d s) = d
depth_of (switch_rest l d s) = d
depth_of (while_rest l d s) = d
depth_of (do_rest l d s) = d
depth_of (for_rest l d s) = d
depth_of (return_rest d s) = d
depth_of (for_clauses l d s x) = d
depth_of (clause d) = d
depth_of (compound l d) = d
depth_of (items l d s x) = d
depth_of (item l d) = d

-- those open at a goal's first token
abbrev pub levels_in : Goal → ℕ
levels_in (measured d s) = d + 1
levels_in (grouped d s) = d + 1
levels_in (arguments d a) = d + 1
levels_in (members d s a) = d + 1
levels_in (enumerators d s a) = d + 1
levels_in (size d) = d + 1
levels_in (initializers d s x) = d + 1
levels_in (do_rest l d s) = d + 1
levels_in (for_clauses l d s x) = d + 1
levels_in (items l d s x) = d + 1
levels_in g = depth_of g

-- at the token that a goal answers at, it tests none with fewer
abbrev pub levels_out : Goal → ℕ
levels_out (measured d s) = d + 1
levels_out (arguments d a) = d + 1
levels_out (members d s a) = d + 1
levels_out (enumerators d s a) = d + 1
levels_out (size d) = d + 1
levels_out (initializers d s x) = d + 1
levels_out (items l d s x) = d + 1
levels_out g = depth_of g

-- The bare grammar's labels, and what is said where they are.
abbrev pub Bare : Labels → Type 0 → Type 0
Bare anywhere f = f
Bare _ f = ⊥

bare_so : {f : Type 0} (l : Labels) → Bare l f → f
bare_so anywhere y = y
bare_so own_block y = absurd y
bare_so in_block y = absurd y
bare_so nowhere y = absurd y

-- A goal of the bare grammar may be called where the last test had b levels: it begins with no more. The floor is a level
-- below which all that is to be refused is refused otherwise; a unit and its external definitions stand below it.
abbrev pub Enters : ℕ → Goal → ℕ → Type 0
Enters floor (unit l d) b = Bare l ((d ≤ b) × (d < floor))
Enters floor (externals l d x) b = Bare l ((d ≤ b) × (d < floor))
Enters floor (external l d) b = Bare l ((d ≤ b) × (d < floor))
Enters floor (statement l d) b = Bare l (d ≤ b)
Enters floor (block l d) b = Bare l (d ≤ b)
Enters floor (if_rest l d s) b = Bare l (d ≤ b)
Enters floor (switch_rest l d s) b = Bare l (d ≤ b)
Enters floor (while_rest l d s) b = Bare l (d ≤ b)
Enters floor (do_rest l d s) b = Bare l (d + 1 ≤ b)
Enters floor (for_rest l d s) b = Bare l (d ≤ b)
Enters floor (for_clauses l d s x) b = Bare l (d + 1 ≤ b)
Enters floor (compound l d) b = Bare l (d ≤ b)
Enters floor (items l d s x) b = Bare l (d + 1 ≤ b)
Enters floor (item l d) b = Bare l (d ≤ b)
Enters floor g b = levels_in g ≤ b

pub enters_low : (floor : ℕ) (g : Goal) (b : ℕ) → Enters floor g b → levels_in g ≤ b
enters_low floor (unit l d) b x = (bare_so l x).0
enters_low floor (externals l d y) b x = (bare_so l x).0
enters_low floor (external l d) b x = (bare_so l x).0
enters_low floor (statement l d) b x = bare_so l x
enters_low floor (block l d) b x = bare_so l x
enters_low floor (if_rest l d s) b x = bare_so l x
enters_low floor (switch_rest l d s) b x = bare_so l x
enters_low floor (while_rest l d s) b x = bare_so l x
enters_low floor (do_rest l d s) b x = bare_so l x
enters_low floor (for_rest l d s) b x = bare_so l x
enters_low floor (for_clauses l d s y) b x = bare_so l x
enters_low floor (compound l d) b x = bare_so l x
enters_low floor (items l d s y) b x = bare_so l x
enters_low floor (item l d) b x = bare_so l x
enters_low floor _ b x = x

-- those open behind a token
abbrev pub levels_behind : Manner → ℕ → ℕ
levels_behind plain d = d
levels_behind opens d = d + 1
levels_behind reopens d = d + 1

-- Tests.

-- whether a test lets no unused keyword pass, a bracket only where it opens a level, and a switch's label only where it
-- opens none
abbrev pub fits : Manner → Test → Bool
fits plain (the w) = not (is_unused w) && not (is_bracket w)
fits opens (the w) = not (is_unused w) && not (is_label w)
fits reopens (the w) = not (is_unused w) && (not (is_bracket w) && not (is_label w))
fits g (has f) = false
fits g ordinary = true
fits g (type_identifier typed) = true
fits g (declared typed) = true
fits g (or x y) = fits g x && fits g y

-- whether it asks for `[`
abbrev pub tries : Test → Bool
tries (the word.LeftBracket) = true
tries _ = false

abbrev pub all_fit : Manner → Words → Bool
all_fit g [] = true
all_fit g (r ∷ rs) = fits g (the r.0) && (not (tries (the r.0)) && all_fit g rs)

-- Programs that consume the next token or refuse it.

-- goals that do
abbrev pub is_eager : Goal → Bool
is_eager (cast d) = true
is_eager (unary d) = true
is_eager (postfix d) = true
is_eager (type_name d) = true
is_eager (row p h d) = true
is_eager (element p h d) = true
is_eager (declarator w h d) = true
is_eager (assignment d) = true
is_eager (conditional d) = true
is_eager (binary p d) = true
is_eager (external l d) = true
is_eager (declaration d) = true
is_eager (compound l d) = true
is_eager _ = false

-- and test it with so many levels or more
abbrev pub IsEager : ℕ → Prog → Type 0
IsEager b (give t) = ⊥
IsEager b (stop d) = Unit {0}
IsEager b (refuse n r) = Unit {0}
IsEager b (take g x d p q) = (b ≤ levels_at g d) × (fits g x ≡ true) × IsEager b q
IsEager b (bar x n d p) = IsEager b p
IsEager b (peek x p q) = IsEager b p × IsEager b q
IsEager b (when v p q) = (v ≡ true → IsEager b p) × (v ≡ false → IsEager b q)
IsEager b (here p) = (i : ℕ) → IsEager b (p i)
IsEager b (look p) = (c : Scopes) → IsEager b (p c)
IsEager b (set e p) = IsEager b p
IsEager b (bring k v p) = IsEager b p
IsEager b (call g p) = (is_eager g ≡ true) × (b ≤ levels_in g)

eager_choose : (g : Manner) (rs : Words) (b d : ℕ) (p : Kind → Prog) (q : Prog) → b ≤ levels_at g d → all_fit g rs ≡ true → IsEager b q → IsEager b (choose g rs d p q)
eager_choose g [] b d p q le f x = x
eager_choose g (r ∷ rs) b d p q le f x =
    let v = both (fits g (the r.0)) (not (tries (the r.0)) && all_fit g rs) f in
    (le, v.0, eager_choose g rs b d p q le (both (not (tries (the r.0))) (all_fit g rs) v.1).1 x)

specifiers_fit : (p : Part) → all_fit plain (specifier_words p) ≡ true
specifiers_fit part.Specifiers = refl
specifiers_fit _ = refl

tighter_eager : (p : Part) (d : ℕ) → (is_eager (tighter p d) ≡ true) × (d ≤ levels_in (tighter p d))
tighter_eager part.LogicalOr d = (refl, omega arith)
tighter_eager part.LogicalAnd d = (refl, omega arith)
tighter_eager part.Or d = (refl, omega arith)
tighter_eager part.Xor d = (refl, omega arith)
tighter_eager part.And d = (refl, omega arith)
tighter_eager part.Equality d = (refl, omega arith)
tighter_eager part.Relational d = (refl, omega arith)
tighter_eager part.Shift d = (refl, omega arith)
tighter_eager part.Additive d = (refl, omega arith)
tighter_eager _ d = (refl, omega arith)

pub eager : (g : Goal) → is_eager g ≡ true → IsEager (levels_in g) (body g)
eager (cast d) q = λ i. (omega arith, refl, (refl, omega arith))
eager (unary d) q = λ i.
    eager_choose opens unary_prefixes d d (prefixed (unary (d + 1)) i) (choose opens cast_prefixes d (prefixed (cast (d + 1)) i) (sized d i)) (omega arith) refl
    (eager_choose opens cast_prefixes d d (prefixed (cast (d + 1)) i) (sized d i) (omega arith) refl (omega arith, refl, (refl, omega arith)))
eager (postfix d) q = λ i. (
  omega arith,
  refl,
  eager_choose plain constants d d (suffixed d i none) (other_primary d i) (omega arith) refl (omega arith, refl, (omega arith, refl, tt)),
)
eager (type_name d) q = λ i. (refl, omega arith)
eager (row p h d) q = λ i. (refl, omega arith)
eager (element p h d) q = λ i.
    eager_choose plain (specifier_words p) d d (λ k. made k i none) (other_element h d i) (omega arith) (specifiers_fit p) (omega arith, refl, (omega arith, refl, (omega arith, refl, tt)))
eager (declarator w h d) q = λ i. (omega arith, refl, (omega arith, refl, (λ y. (omega arith, refl, arrays i), λ y. arrays i)))
  where
    arrays : (i : ℕ) → IsEager d (array_start w d i)
    arrays i = (λ y. (omega arith, refl, tt), λ y. tt)
eager (assignment d) q = λ i. (refl, omega arith)
eager (conditional d) q = λ i. (refl, omega arith)
eager (binary p d) q = λ i. tighter_eager p d
eager (external l d) q = λ i. (refl, omega arith)
eager (declaration d) q = λ i. (refl, omega arith)
eager (compound l d) q = λ i c. (omega arith, refl, tt)
eager _ q = none_true q

-- Programs that find the next token: a test before which nothing is given or refused lets it pass.

-- how a token is one that a goal begins with
abbrev pub IsFound : List Lexeme → Goal → Scopes → ℕ → Type 0
IsFound ts (type_name d) c i = passes ts c i (element_start part.PlainSpecifiers false) ≡ true
IsFound ts (row p h d) c i = passes ts c i (element_start p h.typed) ≡ true
IsFound ts (element p h d) c i = passes ts c i (element_start p h.typed) ≡ true
IsFound ts (declarator unnamed h d) c i = passes ts c i (has is_abstract_start) ≡ true
IsFound ts (declarator either h d) c i = (passes ts c i (has is_declarator_start) ≡ true) × (passes ts c i (type_identifier h.typed) ≡ false)
IsFound ts (declaration d) c i = passes ts c i (element_start part.Specifiers false) ≡ true
IsFound ts (compound l d) c i = is_word ts i word.LeftBrace ≡ true
IsFound ts _ c i = ⊥

module _ (ts : List Lexeme) where
  abbrev pub Finds : Prog → Scopes → ℕ → Type 0
  Finds (give t) c i = ⊥
  Finds (stop d) c i = ⊥
  Finds (refuse n r) c i = ⊥
  Finds (take g x d p q) c i = passes ts c i x ≡ false → Finds q c i
  Finds (bar x n d p) c i = (passes ts c i x ≡ false) × Finds p c i
  Finds (peek x p q) c i = (passes ts c i x ≡ true → Finds p c i) × (passes ts c i x ≡ false → Finds q c i)
  Finds (when v p q) c i = (v ≡ true → Finds p c i) × (v ≡ false → Finds q c i)
  Finds (here p) c i = Finds (p i) c i
  Finds (look p) c i = Finds (p c) c i
  Finds (set e p) c i = Finds p e i
  Finds (bring k v p) c i = Finds p (enter (brought ts i k v) c) i
  Finds (call g p) c i = IsFound ts g c i

-- whether a table has the word
abbrev has_row : Word → Words → Bool
has_row w [] = false
has_row w (r ∷ rs) = same_word w r.0 || has_row w rs

plain_among : (w : Word) → is_plain_start w ≡ true → has_row w plain_words ≡ false → same_word w word.Struct ≡ false → same_word w word.Enum ≡ false → ⊥
plain_among word.Const q x y z = true_false x
plain_among word.Volatile q x y z = true_false x
plain_among word.Void q x y z = true_false x
plain_among word.Char q x y z = true_false x
plain_among word.Short q x y z = true_false x
plain_among word.Int q x y z = true_false x
plain_among word.Long q x y z = true_false x
plain_among word.Signed q x y z = true_false x
plain_among word.Unsigned q x y z = true_false x
plain_among word.Bool q x y z = true_false x
plain_among word.Struct q x y z = true_false y
plain_among word.Enum q x y z = true_false z
plain_among _ q x y z = none_true q

specifier_among : (w : Word) → is_specifier_start w ≡ true → has_row w (specifier_words part.Specifiers) ≡ false → same_word w word.Struct ≡ false → same_word w word.Enum ≡ false → ⊥
specifier_among word.Typedef q x y z = true_false x
specifier_among word.Extern q x y z = true_false x
specifier_among word.Static q x y z = true_false x
specifier_among word.Auto q x y z = true_false x
specifier_among word.Register q x y z = true_false x
specifier_among word.Inline q x y z = true_false x
specifier_among word.Const q x y z = true_false x
specifier_among word.Volatile q x y z = true_false x
specifier_among word.Void q x y z = true_false x
specifier_among word.Char q x y z = true_false x
specifier_among word.Short q x y z = true_false x
specifier_among word.Int q x y z = true_false x
specifier_among word.Long q x y z = true_false x
specifier_among word.Signed q x y z = true_false x
specifier_among word.Unsigned q x y z = true_false x
specifier_among word.Bool q x y z = true_false x
specifier_among word.Struct q x y z = true_false y
specifier_among word.Enum q x y z = true_false z
specifier_among _ q x y z = none_true q

abstract_among : (w : Word) → is_abstract_start w ≡ true → same_word w word.Star ≡ false → same_word w word.LeftParen ≡ false → same_word w word.LeftBracket ≡ false → ⊥
abstract_among word.Star q x y z = true_false x
abstract_among word.LeftParen q x y z = true_false y
abstract_among word.LeftBracket q x y z = true_false z
abstract_among _ q x y z = none_true q

declarator_among : (w : Word) → is_declarator_start w ≡ true → same_word w word.Identifier ≡ false → same_word w word.Star ≡ false → same_word w word.LeftParen ≡ false → same_word w word.LeftBracket ≡ false → ⊥
declarator_among word.Identifier q v x y z = true_false v
declarator_among word.Star q v x y z = true_false x
declarator_among word.LeftParen q v x y z = true_false y
declarator_among word.LeftBracket q v x y z = true_false z
declarator_among _ q v x y z = none_true q

-- a word that a token isn't, and the token's own
apart : (ts : List Lexeme) (i : ℕ) (w v : Word) → Is ts i w → is_word ts i v ≡ false → same_word w v ≡ false
apart ts i w v z n = sym (ap (λ o. elim o as (λ _. Bool) [ None ↦ false | Some u ↦ same_word u v ]) z) ∙ n

-- an identifier may be declared or is a type
no_name : (x y z : Bool) → x && (z || not y) ≡ false → x && y && not z ≡ false → x ≡ false
no_name false y z a b = refl
no_name true y true a b = a
no_name true true false a b = b
no_name true false false a b = a

module _ (ts : List Lexeme) (i : ℕ) where
  -- no row of a table is the token's
  abbrev NoRow : Words → Type 0
  NoRow rs = (w : Word) → Is ts i w → has_row w rs ≡ false

  finds_choose : (g : Manner) (rs : Words) (d : ℕ) (p : Kind → Prog) (q : Prog) (c : Scopes) → (NoRow rs → Finds ts q c i) → Finds ts (choose g rs d p q) c i
  finds_choose g [] d p q c f = f (λ w z. refl)
  finds_choose g (r ∷ rs) d p q c f = λ n. finds_choose g rs d p q c (λ o. f (λ w z. or_from (same_word w r.0) (has_row w rs) (apart ts i w r.0 z n) (o w z)))

  element_found : (p : Part) (c : Scopes) (typed : Bool) → passes ts c i (element_start p typed) ≡ true → NoRow (specifier_words p) → is_word ts i word.Struct ≡ false → is_word ts i word.Enum ≡ false →
      passes ts c i (type_identifier typed) ≡ false → ⊥
  element_found part.Specifiers c typed q n s e t = elim (or_cases (has_word ts i is_specifier_start) (passes ts c i (type_identifier typed)) q) [
    | inl y ↦ (let w = some_word_of ts i is_specifier_start y in specifier_among w.0 w.2 (n w.0 w.1) (apart ts i w.0 word.Struct w.1 s) (apart ts i w.0 word.Enum w.1 e))
    | inr y ↦ both_ways (passes ts c i (type_identifier typed)) t y
  ]
  element_found _ c typed q n s e t = elim (or_cases (has_word ts i is_plain_start) (passes ts c i (type_identifier typed)) q) [
    | inl y ↦ (let w = some_word_of ts i is_plain_start y in plain_among w.0 w.2 (n w.0 w.1) (apart ts i w.0 word.Struct w.1 s) (apart ts i w.0 word.Enum w.1 e))
    | inr y ↦ both_ways (passes ts c i (type_identifier typed)) t y
  ]

  abstract_found : has_word ts i is_abstract_start ≡ true → is_word ts i word.Star ≡ false → is_word ts i word.LeftParen ≡ false → is_word ts i word.LeftBracket ≡ false → ⊥
  abstract_found q s p b =
      let w = some_word_of ts i is_abstract_start q in
      abstract_among w.0 w.2 (apart ts i w.0 word.Star w.1 s) (apart ts i w.0 word.LeftParen w.1 p) (apart ts i w.0 word.LeftBracket w.1 b)

  declarator_found : (c : Scopes) (typed : Bool) → has_word ts i is_declarator_start ≡ true → passes ts c i (type_identifier typed) ≡ false → is_word ts i word.Star ≡ false → is_word ts i word.LeftParen ≡ false →
      passes ts c i (declared typed) ≡ false → is_word ts i word.LeftBracket ≡ false → ⊥
  declarator_found c typed q t s p n b =
      let w = some_word_of ts i is_declarator_start q in
      declarator_among w.0 w.2 (apart ts i w.0 word.Identifier w.1 (no_name (is_word ts i word.Identifier) (is_type c (spelling_at ts i)) typed n t))
      (apart ts i w.0 word.Star w.1 s) (apart ts i w.0 word.LeftParen w.1 p) (apart ts i w.0 word.LeftBracket w.1 b)

pub finds : (ts : List Lexeme) (g : Goal) (c : Scopes) (i : ℕ) → IsFound ts g c i → Finds ts (body g) c i
finds ts (type_name d) c i q = q
finds ts (row p h d) c i q = q
finds ts (element p h d) c i q = finds_choose ts i plain (specifier_words p) d (λ k. made k i none) (other_element h d i) c (λ n s e t. element_found ts i p c h.typed q n s e t)
finds ts (declarator unnamed h d) c i q = λ s p. (λ y. none_true y, λ y. (λ z b. abstract_found ts i q s p b, λ z. true_false z))
finds ts (declarator either h d) c i q = λ s p. (λ y n. (λ z b. declarator_found ts i c h.typed q.0 q.1 s p n b, λ z. true_false z), λ y. true_false y)
finds ts (declaration d) c i q = q
finds ts (compound l d) c i q = λ n. both_ways (is_word ts i word.LeftBrace) n q
finds ts _ c i q = absurd q

-- behind a `*` each identifier may be declared
behind_star : (ts : List Lexeme) (w : Wanted) (h : Context) (d : ℕ) (c : Scopes) (i : ℕ) → may_omit w ≡ true → passes ts c i (declarator_start w) ≡ true → IsFound ts (declarator w (past_token h) d) c i
behind_star ts named h d c i o q = none_true o
behind_star ts unnamed h d c i o q = q
behind_star ts either h d c i o q = (q, no_type (is_word ts i word.Identifier) (is_type c (spelling_at ts i)))
  where
    no_type : (x y : Bool) → x && y && false ≡ false
    no_type true true = refl
    no_type true false = refl
    no_type false y = refl

-- Steady programs.

-- what a row of the refused forms asks of the program behind: the bracket that stands in its token's place isn't passed by
pub data Replaced (n d : ℕ) (o : Bool) (p : Prog) : Type 0 where
  by_none : ((v : Word) → StandsIn n v → ⊥) → Replaced n d o p
  by_trial : ((v : Word) → StandsIn n v → v ≡ word.LeftBracket) → o ≡ true → Replaced n d o p
  by_take : IsEager d p → Replaced n d o p

module _ (ts : List Lexeme) (known : Goal → Scopes → ℕ → Trees → Scopes → ℕ → Type 0) (floor : ℕ) where
  -- Tests at one token: those before had b levels or more, and so has each before an answer at least l. A `[` was asked
  -- for where o says so.
  abbrev pub Steady : Prog → ℕ → ℕ → Bool → Scopes → ℕ → Type 0
  Steady (give t) l b o c i = l ≤ b
  Steady (stop d) l b o c i = d ≤ b
  Steady (refuse n r) l b o c i = ⊥
  Steady (take g x d p q) l b o c i = (levels_at g d ≤ b) × (fits g x ≡ true) × Steady p l (levels_behind g d) false c (i + 1) × Steady q l (levels_at g d) (tries x || o) c i
  Steady (bar x n d p) l b o c i = (d ≤ b) × Replaced n d o p × Steady p l b o c i
  Steady (peek x p q) l b o c i = IsEager b p × ((passes ts c i x ≡ true → Finds ts p c i) ⊎ (b < floor)) × Steady p l b o c i × Steady q l b o c i
  Steady (when v p q) l b o c i = (v ≡ true → Steady p l b o c i) × (v ≡ false → Steady q l b o c i)
  Steady (here p) l b o c i = Steady (p i) l b o c i
  Steady (look p) l b o c i = Steady (p c) l b o c i
  Steady (set e p) l b o c i = Steady p l b o e i
  Steady (bring k v p) l b o c i = Steady p l b o (enter (brought ts i k v) c) i
  Steady (call g p) l b o c i = Enters floor g b × ((t : Trees) (e : Scopes) (j : ℕ) → known g c i t e j → Steady (p t) l (levels_out g) false e j)

  steady_choose : (g : Manner) (rs : Words) (d : ℕ) (p : Kind → Prog) (q : Prog) (l : ℕ) (o : Bool) (c : Scopes) (i : ℕ) → all_fit g rs ≡ true → ((k : Kind) → Steady (p k) l (levels_behind g d) false c (i + 1)) →
      Steady q l (levels_at g d) o c i → Steady (choose g rs d p q) l (levels_at g d) o c i
  steady_choose g [] d p q l o c i f x y = y
  steady_choose g (r ∷ rs) d p q l o c i f x y =
      let v = both (fits g (the r.0)) (not (tries (the r.0)) && all_fit g rs) f in
      let u = both (not (tries (the r.0))) (all_fit g rs) v.1 in
      (omega arith, v.0, x r.1, subst (λ z. Steady (choose g rs d p q) l (levels_at g d) (z || o) c i) (sym (not_true (tries (the r.0)) u.0)) (steady_choose g rs d p q l o c i u.1 x y))

pub start_levels : (floor : ℕ) (p : Part) (d : ℕ) → Enters floor (start_goal p d) d × (d ≤ levels_out (start_goal p d))
start_levels floor part.Expression d = (omega arith, omega arith)
start_levels floor part.Assignment d = (omega arith, omega arith)
start_levels floor _ d = (omega arith, omega arith)

tighter_levels : (floor : ℕ) (p : Part) (d : ℕ) → Enters floor (tighter p d) d × (d ≤ levels_out (tighter p d))
tighter_levels floor part.LogicalOr d = (omega arith, omega arith)
tighter_levels floor part.LogicalAnd d = (omega arith, omega arith)
tighter_levels floor part.Or d = (omega arith, omega arith)
tighter_levels floor part.Xor d = (omega arith, omega arith)
tighter_levels floor part.And d = (omega arith, omega arith)
tighter_levels floor part.Equality d = (omega arith, omega arith)
tighter_levels floor part.Relational d = (omega arith, omega arith)
tighter_levels floor part.Shift d = (omega arith, omega arith)
tighter_levels floor part.Additive d = (omega arith, omega arith)
tighter_levels floor _ d = (omega arith, omega arith)

operators_fit : (p : Part) → all_fit plain (operators p) ≡ true
operators_fit part.LogicalOr = refl
operators_fit part.LogicalAnd = refl
operators_fit part.Or = refl
operators_fit part.Xor = refl
operators_fit part.And = refl
operators_fit part.Equality = refl
operators_fit part.Relational = refl
operators_fit part.Shift = refl
operators_fit part.Additive = refl
operators_fit part.Multiplicative = refl
operators_fit _ = refl

bracket_for_call : (v : Word) → StandsIn 4 v → v ≡ word.LeftBracket
bracket_for_call v subscript_for_call = refl

pub none_for_keyword : (v : Word) → StandsIn 1 v → ⊥
none_for_keyword v z = elim z [ ]

none_for_label : (v : Word) → StandsIn 6 v → ⊥
none_for_label v z = elim z [ ]

none_for_field : (v : Word) → StandsIn 5 v → ⊥
none_for_field v z = elim z [ ]

-- what is known of a goal's answer: behind a row of specifiers stands no type where one may stand
abbrev pub Known : List Lexeme → Goal → Scopes → ℕ → Trees → Scopes → ℕ → Type 0
Known ts (row p h d) c i t e j = passes ts e j (type_identifier (past_part h t).typed) ≡ false
Known ts g c i t e j = Unit {0}

module _ (ts : List Lexeme) (floor : ℕ) where
  abbrev pub Goes : Prog → ℕ → ℕ → Bool → Scopes → ℕ → Type 0
  Goes = Steady ts (Known ts) floor

  -- the words of a table, each with its program
  words : (g : Manner) (rs : Words) (d : ℕ) (p : Kind → Prog) (q : Prog) (l : ℕ) (o : Bool) (c : Scopes) (i : ℕ) → all_fit g rs ≡ true → ((k : Kind) → Goes (p k) l (levels_behind g d) false c (i + 1)) →
      Goes q l (levels_at g d) o c i → Goes (choose g rs d p q) l (levels_at g d) o c i
  words = steady_choose ts (Known ts) floor

  -- a declarator of a declaration, and what stands behind it
  declared_steady : (h : Context) (d s : ℕ) (x : Trees) (q : ℕ) (a : Trees) (c : Scopes) (i : ℕ) → Goes (declared_on h d s x q a) d d false c i
  declared_steady h d s x q a c i = (omega arith, λ t e j _. (omega arith, refl, (omega arith, λ t' e' j' _. omega arith), (omega arith, refl, omega arith, omega arith)))

  -- behind a name that may be a label
  marked_steady : (d s : ℕ) (p : Prog) (c : Scopes) (i : ℕ) → Goes p d d false c i → Goes (marked anywhere d s p) d d false c i
  marked_steady d s p c i x = (
    (λ y. (omega arith, refl, tt), λ y. true_false y),
    inl (λ q. (λ y n. both_ways (is_word ts i word.Colon) n q, λ y. true_false y)),
    (λ y. (omega arith, refl, (omega arith, λ t e j _. omega arith), omega arith), λ y. true_false y),
    x,
  )

  -- behind the specifiers of a declaration
  rest_steady : (d s : ℕ) (t : Trees) (c : Scopes) (i : ℕ) → Goes (declaration_rest d s t) d d false c i
  rest_steady d s t c i = (omega arith, refl, omega arith, (omega arith, λ t e j _. omega arith))

  -- a statement without a label of a switch
  unlabelled_steady : (d s : ℕ) (c : Scopes) (i : ℕ) → Goes (unlabelled anywhere d s) d d false c i
  unlabelled_steady d s c i = (
    (refl, omega arith),
    inl (λ q. q),
    (omega arith, λ t e j _. omega arith),
    (
      omega arith,
      refl,
      (omega arith, λ t e j _. omega arith),
      (
        omega arith,
        refl,
        (omega arith, λ t e j _. omega arith),
        (
          omega arith,
          refl,
          (omega arith, λ t e j _. omega arith),
          (
            omega arith,
            refl,
            (omega arith, λ t e j _. omega arith),
            (
              omega arith,
              refl,
              (omega arith, λ t e j _. omega arith),
              (
                omega arith,
                refl,
                (omega arith, refl, (omega arith, refl, omega arith, omega arith), omega arith),
                (
                  omega arith,
                  refl,
                  (omega arith, refl, omega arith, omega arith),
                  (
                    omega arith,
                    refl,
                    (omega arith, refl, omega arith, omega arith),
                    (
                      omega arith,
                      refl,
                      (omega arith, λ t e j _. omega arith),
                      (
                        omega arith,
                        refl,
                        omega arith,
                        (
                          omega arith,
                          refl,
                          marked_steady d s (stop d) c (i + 1) (omega arith),
                          (omega arith, λ t e j _. (λ y. marked_steady d s (expression_rest d s t) e j (omega arith, refl, omega arith, omega arith), λ y. (omega arith, refl, omega arith, omega arith))),
                        ),
                      ),
                    ),
                  ),
                ),
              ),
            ),
          ),
        ),
      ),
    ),
  )

  labelled_steady : (d s : ℕ) (c : Scopes) (i : ℕ) → Goes (labelled anywhere d s (unlabelled anywhere d s)) d d false c i
  labelled_steady d s c i = (
    omega arith,
    refl,
    (omega arith, λ t e j _. (omega arith, refl, (omega arith, λ t' e' j' _. omega arith), omega arith)),
    (omega arith, refl, (omega arith, refl, (omega arith, λ t' e' j' _. omega arith), omega arith), unlabelled_steady d s c i),
  )

  pub steady : (g : Goal) (c : Scopes) (i b : ℕ) → Enters floor g b → Goes (body g) (levels_out g) (levels_in g) false c i
  steady (whole p d) c i _ y = let v = start_levels floor p d in (v.0, λ t e j _. (v.1, by_none none_for_keyword, v.1))
  steady (expression d) c i _ y = (omega arith, λ t e j _. (omega arith, λ t' e' j' _. omega arith))
  steady (commas d s a) c i _ y = (omega arith, refl, (omega arith, λ t e j _. (omega arith, λ t' e' j' _. omega arith)), omega arith)
  steady (assignment d) c i _ y = (
    omega arith,
    λ t e j _. (λ u. words opens assignment_operators d (assigned d i t) (give t) d false e j refl (λ k. (omega arith, λ t' e' j' _. omega arith)) (omega arith), λ u. omega arith),
  )
  steady (conditional d) c i _ y = (
    omega arith,
    λ t e j _. (omega arith, refl, (omega arith, λ t' e' j' _. (omega arith, refl, (omega arith, λ t'' e'' j'' _. omega arith), omega arith)), omega arith),
  )
  steady (binary p d) c i _ y = let v = tighter_levels floor p d in (v.0, λ t e j _. (v.1, λ t' e' j' _. omega arith))
  steady (operands p d s a) c i _ y =
      let v = tighter_levels floor p d in
      words plain (operators p) d (operated p d s a) (give a) d false c i (operators_fit p) (λ k. (v.0, λ t e j _. (v.1, λ t' e' j' _. omega arith))) (omega arith)
  steady (cast d) c i _ y = (
    omega arith,
    refl,
    (
      (refl, omega arith),
      inl (λ q. q),
      (omega arith, λ t e j _. (omega arith, refl, (omega arith, by_take (refl, omega arith), (omega arith, λ t' e' j' _. omega arith)), omega arith)),
      (omega arith, λ t e j _. omega arith),
    ),
    (omega arith, λ t e j _. omega arith),
  )
  steady (unary d) c i _ y =
      words opens unary_prefixes d (prefixed (unary (d + 1)) i) (choose opens cast_prefixes d (prefixed (cast (d + 1)) i) (sized d i)) d false c i refl (λ k. (omega arith, λ t e j _. omega arith))
      (words opens cast_prefixes d (prefixed (cast (d + 1)) i) (sized d i) d false c i refl (λ k. (omega arith, λ t e j _. omega arith))
      (omega arith, refl, (omega arith, λ t e j _. omega arith), (omega arith, λ t e j _. omega arith)))
  steady (measured d s) c i _ y = (
    omega arith,
    refl,
    ((refl, omega arith), inl (λ q. q), (omega arith, λ t e j _. (omega arith, refl, omega arith, omega arith)), (omega arith, λ t e j _. omega arith)),
    (omega arith, λ t e j _. omega arith),
  )
  steady (postfix d) c i _ y = (
    omega arith,
    refl,
    (omega arith, λ t e j _. omega arith),
    words plain constants d (suffixed d i none) (other_primary d i) d false c i refl (λ k. (omega arith, λ t e j _. omega arith))
        (omega arith, refl, (omega arith, λ t e j _. (omega arith, λ t' e' j' _. omega arith)), (omega arith, refl, (omega arith, λ t e j _. omega arith), omega arith)),
  )
  steady (called d s) c i _ y = (
    omega arith,
    refl,
    (omega arith, refl, (omega arith, λ t e j _. omega arith), (omega arith, λ t e j _. (omega arith, λ t' e' j' _. omega arith))),
    (omega arith, λ t e j _. omega arith),
  )
  steady (grouped d s) c i _ y = (omega arith, λ t e j _. (omega arith, refl, (omega arith, λ t' e' j' _. omega arith), omega arith))
  steady (texts d) c i _ y = (omega arith, refl, (omega arith, λ t e j _. omega arith), omega arith)
  steady (arguments d a) c i _ y = (omega arith, λ t e j _. (omega arith, refl, (omega arith, λ t' e' j' _. omega arith), (omega arith, refl, omega arith, omega arith)))
  steady (suffixes d s a) c i _ y = (
    omega arith,
    refl,
    (omega arith, λ t e j _. (omega arith, refl, (omega arith, λ t' e' j' _. omega arith), omega arith)),
    (
      omega arith,
      refl,
      (omega arith, refl, (omega arith, λ t e j _. omega arith), omega arith),
      (
        omega arith,
        refl,
        (omega arith, refl, (omega arith, λ t e j _. omega arith), omega arith),
        words plain postfix_operators d (suffixed d s (a & none)) (suffixes_end d a) d true c i refl (λ k. (omega arith, λ t e j _. omega arith)) (λ u. omega arith, λ u. (omega arith, by_trial bracket_for_call refl, omega arith)),
      ),
    ),
  )
  steady (type_name d) c i _ y = (omega arith, λ t e j _. ((refl, omega arith), inl (λ q. q), (omega arith, λ t' e' j' _. omega arith), omega arith))
  steady (row p h d) c i _ y = (omega arith, λ t e j _. (omega arith, λ t' e' j' _. omega arith))
  steady (more p h d s a) c i _ y = ((refl, omega arith), inl (λ q. q), (omega arith, λ t e j _. (omega arith, λ t' e' j' _. omega arith)), omega arith)
  steady (element p h d) c i _ y = words plain (specifier_words p) d (λ k. made k i none) (other_element h d i) d false c i (specifiers_fit p) (λ k. omega arith)
      (omega arith, refl, (omega arith, λ t e j _. omega arith), (omega arith, refl, (omega arith, λ t e j _. omega arith), (omega arith, refl, omega arith, omega arith)))
  steady (structure d s) c i _ y = (omega arith, refl, (omega arith, refl, (omega arith, λ t e j _. omega arith), omega arith), (omega arith, refl, (omega arith, λ t e j _. omega arith), omega arith))
  steady (members d s a) c i _ y = (omega arith, λ t e j _. (omega arith, refl, omega arith, (omega arith, λ t' e' j' _. omega arith)))
  steady (member d) c i _ y = (omega arith, λ t e j _. (omega arith, λ t' e' j' _. omega arith))
  steady (member_declarators h d s a) c i _ y = (
    omega arith,
    λ t e j _. (omega arith, by_none none_for_field, (omega arith, refl, (omega arith, λ t' e' j' _. omega arith), (omega arith, refl, omega arith, omega arith))),
  )
  steady (enumeration d s) c i _ y = (omega arith, refl, (omega arith, refl, (omega arith, λ t e j _. omega arith), omega arith), (omega arith, refl, (omega arith, λ t e j _. omega arith), omega arith))
  steady (enumerators d s a) c i _ y = (
    omega arith,
    λ t e j _. (omega arith, refl, (omega arith, refl, omega arith, (omega arith, λ t' e' j' _. omega arith)), (omega arith, refl, omega arith, omega arith)),
  )
  steady (enumerator d) c i _ y = (omega arith, refl, (omega arith, refl, (omega arith, λ t e j _. omega arith), omega arith), omega arith)
  steady (qualifiers d) c i _ y = (omega arith, refl, (omega arith, λ t e j _. omega arith), omega arith)
  steady (declarator w h d) c i _ y = (
    omega arith,
    refl,
    (
      omega arith,
      λ t e j _. (
        λ o. ((refl, omega arith), inl (behind_star ts w h (d + 1) e j o), (omega arith, λ t' e' j' _. (λ y. omega arith, λ y. omega arith)), omega arith),
        λ o. (omega arith, λ t' e' j' _. (λ y. omega arith, λ y. omega arith)),
      ),
    ),
    (
      omega arith,
      refl,
      (omega arith, λ t e j _. (omega arith, refl, (λ y. (omega arith, λ t' e' j' _. omega arith), λ y. (omega arith, λ t' e' j' _. omega arith)), omega arith)),
      (λ o. (omega arith, refl, (omega arith, λ t e j _. omega arith), arrays), λ o. arrays),
    ),
  )
    where
      arrays : Goes (array_start w d i) d d false c i
      arrays = (λ o. (omega arith, refl, (omega arith, λ t e j _. (omega arith, λ t' e' j' _. omega arith)), omega arith), λ o. omega arith)
  steady (declarator_suffixes d s a) c i _ y = (
    omega arith,
    refl,
    (omega arith, λ t e j _. (omega arith, λ t' e' j' _. omega arith)),
    (
      omega arith,
      refl,
      (omega arith, refl, (omega arith, λ t e j _. omega arith), (omega arith, λ t e j _. (omega arith, refl, (omega arith, λ t' e' j' _. omega arith), omega arith))),
      omega arith,
    ),
  )
  steady (abstract_suffixes d s a) c i _ y = (omega arith, refl, (omega arith, λ t e j _. (omega arith, λ t' e' j' _. omega arith)), omega arith)
  steady (size d) c i _ y = (omega arith, refl, omega arith, (omega arith, λ t e j _. (omega arith, refl, omega arith, omega arith)))
  steady (parameters d) c i _ y = (omega arith, λ t e j _. (omega arith, λ t' e' j' _. omega arith))
  steady (more_parameters d s a) c i _ y = (omega arith, refl, (omega arith, refl, omega arith, (omega arith, λ t e j _. (omega arith, λ t' e' j' _. omega arith))), omega arith)
  steady (parameter d) c i _ y = (omega arith, λ t e j z. ((refl, omega arith), inl (λ q. (q, z)), (omega arith, λ t' e' j' _. (λ u. omega arith, λ u. omega arith)), omega arith))
  steady (unit anywhere d) c i _ y = ((omega arith, y.1), λ t e j _. ((omega arith, y.1), λ t' e' j' _. omega arith))
  steady (externals anywhere d x) c i _ y = ((refl, omega arith), inr y.1, ((omega arith, y.1), λ t e j _. ((omega arith, y.1), λ t' e' j' _. omega arith)), omega arith)
  steady (external anywhere d) c i _ y = (
    omega arith,
    λ t e j _. (
      omega arith,
      refl,
      omega arith,
      (
        omega arith,
        λ t' e' j' _. (
          (λ v c' f. (refl, omega arith), λ v. tt),
          inl (λ q. (λ v. q, λ v. true_false v)),
          (λ v. (omega arith, λ t'' e'' j'' _. omega arith), λ v. true_false v),
          declared_steady (past_part fresh t) d i (t & none) j t' e' j',
        ),
      ),
    ),
  )
  steady (declaration d) c i _ y = (omega arith, λ t e j _. rest_steady d i t e j)
  steady (init_declarators h d s x) c i _ y = (omega arith, λ t e j _. declared_steady h d s x i t e j)
  steady (initialized d q x) c i _ y = (omega arith, refl, (omega arith, λ t e j _. omega arith), omega arith)
  steady (initializer d) c i _ y = (omega arith, by_take (omega arith, refl, (refl, omega arith)), (omega arith, refl, (omega arith, λ t e j _. omega arith), (omega arith, λ t e j _. omega arith)))
  steady (initializers d s x) c i _ y = (
    omega arith,
    λ t e j _. (omega arith, refl, (omega arith, refl, omega arith, (omega arith, λ t' e' j' _. omega arith)), (omega arith, refl, omega arith, omega arith)),
  )
  steady (statement anywhere d) c i _ y = (λ v. labelled_steady d i c i, λ v. true_false v)
  steady (block anywhere d) c i _ y = (omega arith, λ t e j _. omega arith)
  steady (if_rest anywhere d s) c i _ y = (
    omega arith,
    refl,
    (
      omega arith,
      λ t e j _. (
        omega arith,
        refl,
        (omega arith, λ t' e' j' _. (λ v. omega arith, λ v. (omega arith, refl, (omega arith, λ t'' e'' j'' _. omega arith), omega arith))),
        omega arith,
      ),
    ),
    omega arith,
  )
  steady (switch_rest anywhere d s) c i _ y = (
    omega arith,
    refl,
    (
      omega arith,
      λ t e j _. (
        omega arith,
        refl,
        (omega arith, by_none none_for_label, (omega arith, by_take (λ c'. (refl, omega arith)), (omega arith, λ t' e' j' _. omega arith))),
        omega arith,
      ),
    ),
    omega arith,
  )
  steady (while_rest anywhere d s) c i _ y = (omega arith, refl, (omega arith, λ t e j _. (omega arith, refl, (omega arith, λ t' e' j' _. omega arith), omega arith)), omega arith)
  steady (do_rest anywhere d s) c i _ y = (
    omega arith,
    λ t e j _. (
      omega arith,
      refl,
      (omega arith, refl, (omega arith, λ t' e' j' _. (omega arith, refl, (omega arith, refl, omega arith, omega arith), omega arith)), omega arith),
      omega arith,
    ),
  )
  steady (for_rest anywhere d s) c i _ y = (
    omega arith,
    refl,
    (
      (refl, omega arith),
      inl (λ q. q),
      (omega arith, λ t e j _. (omega arith, λ t' e' j' _. omega arith)),
      (omega arith, λ t e j _. (omega arith, λ t' e' j' _. omega arith)),
    ),
    omega arith,
  )
  steady (return_rest d s) c i _ y = (omega arith, refl, omega arith, (omega arith, λ t e j _. (omega arith, refl, omega arith, omega arith)))
  steady (for_clauses anywhere d s x) c i _ y = (
    omega arith,
    λ t e j _. (
      omega arith,
      refl,
      (omega arith, λ t' e' j' _. omega arith),
      (omega arith, λ t' e' j' _. (omega arith, refl, (omega arith, λ t'' e'' j'' _. omega arith), omega arith)),
    ),
  )
  steady (clause d) c i _ y = (omega arith, refl, omega arith, (omega arith, λ t e j _. (omega arith, refl, omega arith, omega arith)))
  steady (compound anywhere d) c i _ y = (omega arith, refl, (omega arith, λ t e j _. omega arith), omega arith)
  steady (items anywhere d s x) c i _ y = (omega arith, refl, omega arith, (omega arith, λ t e j _. (omega arith, λ t' e' j' _. omega arith)))
  steady (item anywhere d) c i _ y = (
    (λ j. (refl, omega arith)),
    inl (λ q. q),
    (omega arith, λ t e j _. (λ v. marked_steady d i (declaration_rest d i t) e j (rest_steady d i t e j), λ v. rest_steady d i t e j)),
    (omega arith, λ t e j _. omega arith),
  )
  steady _ c i _ y = absurd y
