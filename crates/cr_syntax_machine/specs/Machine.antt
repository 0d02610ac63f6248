-- The parser as a machine: programs as data, and one relation that says how they run.
--
-- A goal is what one function of the parser reads, and `body` in `MachineBody` gives each goal its program. The code
-- follows a program step by step:
--   take      if the next token passes the test, it is consumed and the first program goes on, else the second;
--             `opens` asks for room for a level first, and `reopens` for a token that closes a level and opens another
--   choose    a row of `take`s: the table of words and kinds is a function of the code
--   expect    a token that must come: another one is refused at its place
--   bar       a token that a row of the refused forms names is refused here
--   peek      a look at the next token that decides where to go and consumes nothing
--   when      a test of a tree that was read
--   here      the number of the next token
--   call      another function, and what to do with its trees; the first refusal ends all
--   look, set, begins, drops, bring     the scopes, which the code keeps in one list
--   give, stop     the answer, or the refusal of the next token where so many levels are open
--   refuse    a token that was read is refused, since the next one shows that a row of the refused forms names it
-- A loop of the grammar is a goal that has what was read so far as an argument, and the code writes it as a loop.
-- There is no fuel: the code ends, so a run exists, and no goal has two.
use Rattle.std.specs.Prelude.{◌≡◌, ℕ, ◌+◌, Bool, true, false, not, ◌||◌, ◌&&◌, if◌then◌else◌, nat_lt, List, [], ◌∷◌, None, Some}
use Rattle.cr_syntax.specs.declared.word.Word.{Word}
use Rattle.cr_syntax.specs.declared.word.Word.TheVariants as word
use Rattle.cr_syntax.specs.declared.node.Kind.{Kind}
use Rattle.cr_syntax.specs.declared.part.Part.{Part}
use Rattle.cr_syntax.specs.declared.part.Context.{Context}
use Rattle.cr_syntax.specs.declared.scopes.TypeName.{TypeName}
use Rattle.cr_syntax.specs.Words.{Lexeme, word_at, spelling_at}
use Rattle.cr_syntax.specs.Scopes.{Scopes, is_type, enter}
use Rattle.cr_syntax.specs.Trees.{Trees, one}
use Rattle.cr_syntax.specs.Spells.{Limit, Within, Stands}
use Rattle.cr_syntax.specs.Reads.{is_word}
use Rattle.cr_syntax.specs.Units.{most_levels, is_unused, is_opening, Refusal, Unexpected, Ended, TooDeep, OutsideSubset}

-- Which declarators may come: one with a name, one without (C11 6.7.7), or either.
pub data Wanted : Type 0 where
  named : Wanted
  unnamed : Wanted
  either : Wanted

-- Which labels a statement may have: all of them anywhere, as the grammar alone has it; or, as the subset has it, all of
-- them here, among the items of a switch's own block; an identifier, but no `case` and no `default`, among the items of
-- another block; or none.
pub data Labels : Type 0 where
  anywhere : Labels
  own_block : Labels
  in_block : Labels
  nowhere : Labels

-- What a function of the parser reads. The first number is that of the levels open where it begins; of a loop, and of the
-- rest of a node, it is that of the levels open at the node. Then come the node's first token and the trees read so far.
pub data Goal : Type 0 where
  -- an expression, an assignment or a conditional, and no unused keyword behind it
  whole : Part → ℕ → Goal
  -- expressions (6.5)
  expression : ℕ → Goal
  commas : ℕ → ℕ → Trees → Goal
  assignment : ℕ → Goal
  conditional : ℕ → Goal
  binary : Part → ℕ → Goal
  operands : Part → ℕ → ℕ → Trees → Goal
  cast : ℕ → Goal
  unary : ℕ → Goal
  -- after `sizeof`
  measured : ℕ → ℕ → Goal
  postfix : ℕ → Goal
  -- after an identifier
  called : ℕ → ℕ → Goal
  -- after the `(` of a parenthesised expression, with what stands behind its `)`
  grouped : ℕ → ℕ → Goal
  -- after a string literal: others side by side
  texts : ℕ → Goal
  -- behind the `(` of a call, arguments and their `)`
  arguments : ℕ → Trees → Goal
  suffixes : ℕ → ℕ → Trees → Goal
  -- type names (6.7.7)
  type_name : ℕ → Goal
  -- specifiers: `Specifiers` with storage classes (6.7), or `PlainSpecifiers`
  row : Part → Context → ℕ → Goal
  more : Part → Context → ℕ → ℕ → Trees → Goal
  element : Part → Context → ℕ → Goal
  -- after `struct`, its members, one of them, and the declarators of one (6.7.2.1)
  structure : ℕ → ℕ → Goal
  members : ℕ → ℕ → Trees → Goal
  member : ℕ → Goal
  member_declarators : Context → ℕ → ℕ → Trees → Goal
  -- after `enum`, its enumerators, and one of them (6.7.2.2)
  enumeration : ℕ → ℕ → Goal
  enumerators : ℕ → ℕ → Trees → Goal
  enumerator : ℕ → Goal
  -- declarators (6.7.6, 6.7.7)
  qualifiers : ℕ → Goal
  declarator : Wanted → Context → ℕ → Goal
  declarator_suffixes : ℕ → ℕ → Trees → Goal
  abstract_suffixes : ℕ → ℕ → Trees → Goal
  -- behind a `[` of a declarator, an array's size or none, and its `]`
  size : ℕ → Goal
  parameters : ℕ → Goal
  more_parameters : ℕ → ℕ → Trees → Goal
  parameter : ℕ → Goal
  -- external definitions (6.9): a unit, those behind the ones read, one of them
  unit : Labels → ℕ → Goal
  externals : Labels → ℕ → Trees → Goal
  external : Labels → ℕ → Goal
  -- declarations (6.7): one, its declarators, and behind a declarator an initializer or none (6.7.9)
  declaration : ℕ → Goal
  init_declarators : Context → ℕ → ℕ → Trees → Goal
  initialized : ℕ → ℕ → Trees → Goal
  initializer : ℕ → Goal
  -- behind the `{` of a list of initializers
  initializers : ℕ → ℕ → Trees → Goal
  -- statements (6.8), and a statement that is a block by itself
  statement : Labels → ℕ → Goal
  block : Labels → ℕ → Goal
  -- behind the keyword of a statement (6.8.4, 6.8.5, 6.8.6)
  if_rest : Labels → ℕ → ℕ → Goal
  switch_rest : Labels → ℕ → ℕ → Goal
  while_rest : Labels → ℕ → ℕ → Goal
  do_rest : Labels → ℕ → ℕ → Goal
  for_rest : Labels → ℕ → ℕ → Goal
  return_rest : ℕ → ℕ → Goal
  -- of a `for`: what stands behind its first clause, and a clause with its `;`
  for_clauses : Labels → ℕ → ℕ → Trees → Goal
  clause : ℕ → Goal
  -- a block, its items, and one of them (6.8.2)
  compound : Labels → ℕ → Goal
  items : Labels → ℕ → ℕ → Trees → Goal
  item : Labels → ℕ → Goal

-- A test of the next token in the scopes.
pub data Test : Type 0 where
  -- this word
  the : Word → Test
  -- a word of some sort
  has : (Word → Bool) → Test
  -- an identifier that is no type
  ordinary : Test
  -- an identifier that is a type, where no type specifier stands before it
  type_identifier : Bool → Test
  -- an identifier that may be declared, where a type specifier or another token stands before it or doesn't
  declared : Bool → Test
  -- one of two tests
  or : Test → Test → Test

abbrev pub has_word : List Lexeme → ℕ → (Word → Bool) → Bool
has_word ts i f = elim (word_at ts i) [ None ↦ false | Some w ↦ f w ]

abbrev pub passes : List Lexeme → Scopes → ℕ → Test → Bool
passes ts c i (the w) = is_word ts i w
passes ts c i (has f) = has_word ts i f
passes ts c i ordinary = is_word ts i word.Identifier && not (is_type c (spelling_at ts i))
passes ts c i (type_identifier typed) = is_word ts i word.Identifier && is_type c (spelling_at ts i) && not typed
passes ts c i (declared typed) = is_word ts i word.Identifier && (typed || not (is_type c (spelling_at ts i)))
passes ts c i (or x y) = passes ts c i x || passes ts c i y

-- What a token does to the levels: nothing, open one, or close one and open another.
pub data Manner : Type 0 where
  plain : Manner
  opens : Manner
  reopens : Manner

-- the limit lets token i stand so, where d levels are open at its node or, for `plain`, at the token
abbrev pub Allows : Limit → Manner → ℕ → ℕ → Type 0
Allows limit plain i d = Stands limit i d
Allows limit opens i d = Within limit i d
Allows limit reopens i d = Stands limit i (d + 1) × Within limit i d

-- A program. The level's number is that of the levels open where the token would stand.
pub data Prog : Type 0 where
  give : Trees → Prog
  stop : ℕ → Prog
  -- a token before, with this number, is refused by a row, since the next one shows what it is
  refuse : ℕ → ℕ → Prog
  take : Manner → Test → ℕ → Prog → Prog → Prog
  bar : Test → ℕ → ℕ → Prog → Prog
  peek : Test → Prog → Prog → Prog
  when : Bool → Prog → Prog → Prog
  here : (ℕ → Prog) → Prog
  look : (Scopes → Prog) → Prog
  set : Scopes → Prog → Prog
  -- the identifier with this number, one that was read, enters the innermost scope, as a type or not
  bring : ℕ → Bool → Prog → Prog
  call : Goal → (Trees → Prog) → Prog

-- why a token, or the end, is refused
pub data Cause : Type 0 where
  unexpected : Cause
  ended : Cause
  too_deep : Cause
  outside : ℕ → Cause
  -- the token with this number is what a row names, seen only at a token behind it
  earlier : ℕ → ℕ → Cause

-- What a program answers: the trees, the scopes after them and the token after them, or a refusal and its token.
pub data Reply : Type 0 where
  Done : Trees → Scopes → ℕ → Reply
  Failed : Cause → ℕ → Reply

abbrev pub refusal_of : Cause → ℕ → Refusal
refusal_of unexpected k = Unexpected k
refusal_of ended k = Ended
refusal_of too_deep k = TooDeep k
refusal_of (outside n) k = OutsideSubset k n
refusal_of (earlier m n) k = OutsideSubset m n

abbrev pub is_bracket : Word → Bool
is_bracket word.LeftParen = true
is_bracket word.LeftBracket = true
is_bracket word.LeftBrace = true
is_bracket _ = false

-- a bracket that has no room for its level, where d are open
abbrev pub overflows : Word → ℕ → Bool
overflows w d = is_bracket w && not (nat_lt d most_levels)

-- the cause at a token that nothing fits, where d levels are open
abbrev pub verdict : List Lexeme → ℕ → ℕ → Cause
verdict ts i d = elim (word_at ts i) [
  | None ↦ ended
  | Some w ↦ if is_unused w then outside 1 else (if overflows w d then too_deep else unexpected)
]

-- a word that opens a level and has no room for it, where d are open
abbrev pub exceeds : Word → ℕ → Bool
exceeds w d = is_opening w && not (nat_lt d most_levels)

-- the cause at a token that a row of the refused forms names
abbrev pub barred : List Lexeme → ℕ → ℕ → ℕ → Cause
barred ts n i d = elim (word_at ts i) [ None ↦ ended | Some w ↦ if exceeds w d then too_deep else outside n ]

-- the spelling of token k, one before token i
abbrev pub name_before : List Lexeme → ℕ → ℕ → List ℕ
name_before ts i k = if nat_lt k i then spelling_at ts k else []

abbrev pub brought : List Lexeme → ℕ → ℕ → Bool → TypeName
brought ts i k type = record { name = name_before ts i k; is_type = type }

-- Runs body ts limit p c i r: on the tokens, from token i on and in the scopes c, the program p answers r.
pub data Runs (body : Goal → Prog) (ts : List Lexeme) (limit : Limit) : Prog → Scopes → ℕ → Reply → Type 0 where
  run_give : {t : Trees} {c : Scopes} {i : ℕ} → Runs body ts limit (give t) c i (Done t c i)
  run_stop : {d : ℕ} {c : Scopes} {i : ℕ} → Runs body ts limit (stop d) c i (Failed (verdict ts i d) i)
  run_refuse : {m n : ℕ} {c : Scopes} {i : ℕ} → Runs body ts limit (refuse m n) c i (Failed (earlier m n) i)
  -- a token
  run_take : {m : Manner} {x : Test} {d : ℕ} {p q : Prog} {c : Scopes} {i : ℕ} {r : Reply} →
      passes ts c i x ≡ true → Allows limit m i d → Runs body ts limit p c (i + 1) r → Runs body ts limit (take m x d p q) c i r
  run_deep : {m : Manner} {x : Test} {d : ℕ} {p q : Prog} {c : Scopes} {i : ℕ} →
      passes ts c i x ≡ true → (Allows limit m i d → ⊥) → Runs body ts limit (take m x d p q) c i (Failed too_deep i)
  run_pass : {m : Manner} {x : Test} {d : ℕ} {p q : Prog} {c : Scopes} {i : ℕ} {r : Reply} →
      passes ts c i x ≡ false → Runs body ts limit q c i r → Runs body ts limit (take m x d p q) c i r
  -- a refused form
  run_bar : {x : Test} {n d : ℕ} {p : Prog} {c : Scopes} {i : ℕ} →
      passes ts c i x ≡ true → Runs body ts limit (bar x n d p) c i (Failed (barred ts n i d) i)
  run_free : {x : Test} {n d : ℕ} {p : Prog} {c : Scopes} {i : ℕ} {r : Reply} →
      passes ts c i x ≡ false → Runs body ts limit p c i r → Runs body ts limit (bar x n d p) c i r
  -- a look at a token or a tree
  run_seen : {x : Test} {p q : Prog} {c : Scopes} {i : ℕ} {r : Reply} →
      passes ts c i x ≡ true → Runs body ts limit p c i r → Runs body ts limit (peek x p q) c i r
  run_unseen : {x : Test} {p q : Prog} {c : Scopes} {i : ℕ} {r : Reply} →
      passes ts c i x ≡ false → Runs body ts limit q c i r → Runs body ts limit (peek x p q) c i r
  run_yes : {b : Bool} {p q : Prog} {c : Scopes} {i : ℕ} {r : Reply} →
      b ≡ true → Runs body ts limit p c i r → Runs body ts limit (when b p q) c i r
  run_no : {b : Bool} {p q : Prog} {c : Scopes} {i : ℕ} {r : Reply} →
      b ≡ false → Runs body ts limit q c i r → Runs body ts limit (when b p q) c i r
  -- the place and the scopes
  run_here : {f : ℕ → Prog} {c : Scopes} {i : ℕ} {r : Reply} → Runs body ts limit (f i) c i r → Runs body ts limit (here f) c i r
  run_look : {f : Scopes → Prog} {c : Scopes} {i : ℕ} {r : Reply} → Runs body ts limit (f c) c i r → Runs body ts limit (look f) c i r
  run_set : {p : Prog} {c e : Scopes} {i : ℕ} {r : Reply} → Runs body ts limit p e i r → Runs body ts limit (set e p) c i r
  run_bring : {k : ℕ} {b : Bool} {p : Prog} {c : Scopes} {i : ℕ} {r : Reply} →
      Runs body ts limit p (enter (brought ts i k b) c) i r → Runs body ts limit (bring k b p) c i r
  -- another function
  run_call : {g : Goal} {f : Trees → Prog} {t : Trees} {c e : Scopes} {i j : ℕ} {r : Reply} →
      Runs body ts limit (body g) c i (Done t e j) → Runs body ts limit (f t) e j r → Runs body ts limit (call g f) c i r
  run_fail : {g : Goal} {f : Trees → Prog} {c : Scopes} {i k : ℕ} {x : Cause} →
      Runs body ts limit (body g) c i (Failed x k) → Runs body ts limit (call g f) c i (Failed x k)

-- Programs that stand often.

-- the levels open at a token that must come
abbrev pub levels_at : Manner → ℕ → ℕ
levels_at reopens d = d + 1
levels_at _ d = d

abbrev pub expect : Manner → Word → ℕ → Prog → Prog
expect m w d p = take m (the w) d p (stop (levels_at m d))

-- the first word of a table that comes, with its kind
abbrev pub choose : Manner → List (Word × Kind) → ℕ → (Kind → Prog) → Prog → Prog
choose m [] d f q = q
choose m (r ∷ rs) d f q = take m (the r.0) d (f r.1) (choose m rs d f q)

-- a node from token s to here, and what to do with it
abbrev pub into : Kind → ℕ → Trees → (Trees → Prog) → Prog
into k s t f = here (λ e. f (one k s e t))

abbrev pub made : Kind → ℕ → Trees → Prog
made k s t = into k s t give

-- the innermost scope, and those around it
abbrev pub innermost_of : Scopes → List TypeName
innermost_of [] = []
innermost_of (names ∷ c) = names

abbrev pub around : Scopes → Scopes
around [] = []
around (names ∷ c) = c

-- a scope begins, a scope ends
abbrev pub begins : Prog → Prog
begins p = look (λ c. set ([] ∷ c) p)

abbrev pub drops : Prog → Prog
drops p = look (λ c. set (around c) p)
