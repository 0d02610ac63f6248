-- Reading a tree against the tokens: by recursion on the tree, and along a right side.
-- `reads` gives the scopes after the tree, or none where it doesn't spell the tokens.
use Rattle.std.specs.Prelude.{ℕ, zero, suc, ◌+◌, ◌-◌, Bool, true, false, not, ◌&&◌, ◌||◌, ◌==◌, List, [], ◌∷◌, Option, None, Some, if◌then◌else◌, nat_lt, nat_le}
use denote.Enum.Bare.{sameb}
use Rattle.cr_syntax.specs.contracts.word.Word as word_type
use Rattle.cr_syntax.specs.declared.word.Word.{Word}
use Rattle.cr_syntax.specs.declared.word.Word.TheVariants as word
use Rattle.cr_syntax.specs.declared.node.Kind.{Kind}
use Rattle.cr_syntax.specs.Symbols.{Depth}
use Rattle.cr_syntax.specs.declared.part.Part.{Part}
use Rattle.cr_syntax.specs.declared.part.Part.TheVariants as part
use Rattle.cr_syntax.specs.Symbols as symbol
use Rattle.cr_syntax.specs.declared.part.Context.{Context}
use Rattle.cr_syntax.specs.Chains.{Makes, Chains, Enters, Drops, Refuses}
use Rattle.cr_syntax.specs.Words.{Lexeme, word_at, spelling_at}
use Rattle.cr_syntax.specs.Scopes.{Scopes, is_type, enter}
use Rattle.cr_syntax.specs.Trees.{Trees, none, node, one}
use Rattle.cr_syntax.specs.Context.{past_token, past_part, at_start, declared_name, fits_together, may_stand}
use Rattle.cr_syntax.specs.Grammar.{Side}
use Rattle.cr_syntax.specs.Tables.{side_of, part_of}
use Rattle.cr_syntax.specs.Chains.{step_of, same_part}
use Rattle.cr_syntax.specs.Spells.{levels}
use Rattle.cr_syntax.specs.Units.{most_levels}

-- from a right side, a context, the scopes, the levels open, the place and the end to the scopes after
abbrev pub Reader : Type 0
Reader = Side → Context → Scopes → ℕ → ℕ → ℕ → Option Scopes

abbrev pub same_word : Word → Word → Bool
same_word v w = sameb word_type.the_type v w

-- token i is this word
abbrev pub is_word : List Lexeme → ℕ → Word → Bool
is_word ts i w = elim (word_at ts i) [ None ↦ false | Some v ↦ same_word v w ]

-- the next n tokens are this word
abbrev pub are_words : List Lexeme → Word → ℕ → ℕ → Bool
are_words ts w zero i = true
are_words ts w (suc n) i = is_word ts i w && are_words ts w n (i + 1)

-- token i is a type qualifier, and so are the next n tokens
abbrev pub is_qualifier : List Lexeme → ℕ → Bool
is_qualifier ts i = is_word ts i word.Const || is_word ts i word.Volatile

abbrev pub are_qualifiers : List Lexeme → ℕ → ℕ → Bool
are_qualifiers ts zero i = true
are_qualifiers ts (suc n) i = is_qualifier ts i && are_qualifiers ts n (i + 1)

abbrev pub span_qualifies : List Lexeme → ℕ → ℕ → Bool
span_qualifies ts i j = nat_le i j && are_qualifiers ts (j - i) i

abbrev pub span_is : List Lexeme → Word → ℕ → ℕ → Bool
span_is ts w i j = nat_le i j && are_words ts w (j - i) i

abbrev pub has_room : ℕ → Bool
has_room d = nat_lt d most_levels

abbrev pub is_none : Trees → Bool
is_none none = true
is_none (node k i j a n) = false

-- the first tree of a row: its first token, the token after it, whether it is the last, and it alone
abbrev pub first_of : Trees → ℕ
first_of none = 0
first_of (node k i j a n) = i

abbrev pub after_of : Trees → ℕ
after_of none = 0
after_of (node k i j a n) = j

abbrev pub is_last : Trees → Bool
is_last none = true
is_last (node k i j a n) = is_none n

abbrev pub alone : Trees → Trees
alone none = none
alone (node k i j a n) = one k i j a

abbrev pub begins_at : Trees → ℕ → Bool
begins_at none i = false
begins_at (node k i' j a n) i = i' == i

abbrev pub leads_declaration : Trees → Bool
leads_declaration none = false
leads_declaration (node k i j a n) = same_part (part_of k) part.Declaration

abbrev pub entered : List Lexeme → Context → Trees → Option Scopes → Option Scopes
entered ts h t None = None
entered ts h t (Some []) = None
entered ts h t (Some (own ∷ e)) = Some (enter (declared_name ts (past_part h t)) e)

abbrev pub dropped : Option Scopes → Option Scopes
dropped None = None
dropped (Some []) = None
dropped (Some (own ∷ e)) = Some e

-- more links than any chain has
abbrev pub most_links : ℕ
most_links = 20

-- a node as a part, where `inside` reads its parts
unfoldable pub as_part : List Lexeme → Reader → ℕ → Part → Context → Scopes → ℕ → Kind → ℕ → ℕ → Trees → Option Scopes
as_part ts inside zero p h c d k i j t = None
as_part ts inside (suc n) p h c d k i j t = elim (step_of p k) [
  | Makes ↦ if fits_together k t then inside (side_of k) (at_start p h) c d i j else None
  | Chains q ↦ if may_stand p (one k i j t) then as_part ts inside n q (at_start p h) c d k i j t else None
  | Enters ↦ entered ts h (one k i j t) (as_part ts inside n part.Declarator h c d k i j t)
  | Drops ↦ dropped (as_part ts inside n part.Declarator h c d k i j t)
  | Refuses ↦ None
]

-- the first tree of a row as a part that begins at a place
abbrev pub lead : List Lexeme → Reader → Trees → Part → Context → Scopes → ℕ → ℕ → Option Scopes
lead ts inside none p h c d i = None
lead ts inside (node k i' j a n) p h c d i = if i' == i then as_part ts inside most_links p h c d k i j a else None

-- the parts of a list from its first on, where `next` reads the row after the first tree
abbrev pub list_on : List Lexeme → Trees → Reader → Depth → Part → Side → Context → ℕ → ℕ → Option Scopes → Option Scopes
list_on ts t next l p s h d j None = None
list_on ts t next l p s h d j (Some e) =
    if is_last t then next s (past_part h (alone t)) e d (after_of t) j
    else (if is_word ts (after_of t) word.Comma then next (symbol.List l p ∷ s) (past_token h) e d (after_of t + 1) j else None)

-- a row of trees t, where `inside` reads the parts of its first tree and `next` the row after it
unfoldable pub along : List Lexeme → Trees → Reader → Reader → Reader
along ts t inside next [] h c d i j = if is_none t && (i == j) then Some c else None
along ts t inside next (symbol.Token l w ∷ s) h c d i j =
    if is_word ts i w then along ts t inside next s (past_token h) c d (i + 1) j else None
along ts t inside next (symbol.Opens l w ∷ s) h c d i j =
    if is_word ts i w && has_room (levels l d) then along ts t inside next s (past_token h) c d (i + 1) j else None
along ts t inside next (symbol.Reopens w ∷ s) h c d i j =
    if is_word ts i w && has_room d then along ts t inside next s (past_token h) c d (i + 1) j else None
along ts t inside next (symbol.Part l p ∷ s) h c d i j =
    elim (lead ts inside t p h c (levels l d) i) [ None ↦ None | Some e ↦ next s (past_part h (alone t)) e d (after_of t) j ]
along ts t inside next (symbol.Optional l p ∷ s) h c d i j =
    if is_none t then along ts t inside next s h c d i j
    else elim (lead ts inside t p h c (levels l d) i) [ None ↦ None | Some e ↦ next s (past_part h (alone t)) e d (after_of t) j ]
along ts t inside next (symbol.Many l p ∷ s) h c d i j =
    if is_none t then along ts t inside next s h c d i j
    else elim (lead ts inside t p h c (levels l d) i) [ None ↦ None | Some e ↦ next (symbol.Many l p ∷ s) (past_part h (alone t)) e d (after_of t) j ]
along ts t inside next (symbol.List l p ∷ s) h c d i j = list_on ts t next l p s h d j (lead ts inside t p h c (levels l d) i)
along ts t inside next (symbol.OptionalList l p ∷ s) h c d i j =
    if is_none t then along ts t inside next s h c d i j
    else list_on ts t next l p s h d j (lead ts inside t p h c (levels l d) i)
along ts t inside next (symbol.Tag ∷ s) h c d i j =
    if is_word ts i word.Identifier
    then (if is_word ts (i + 1) word.LeftBrace && has_room d then along ts t inside next s (past_token h) c d (i + 1 + 1) j else None)
    else (if is_word ts i word.LeftBrace && has_room d then along ts t inside next s (past_token h) c d (i + 1) j else None)
along ts t inside next (symbol.TrailingComma ∷ s) h c d i j =
    if is_word ts i word.Comma
    then (if is_word ts (i + 1) word.RightBrace then along ts t inside next s (past_token h) c d (i + 1 + 1) j else None)
    else (if is_word ts i word.RightBrace then along ts t inside next s (past_token h) c d (i + 1) j else None)
along ts t inside next (symbol.Qualified p ∷ []) h c d i j =
    if span_qualifies ts i (first_of t)
    then elim (lead ts inside t p h c (d + 1) (first_of t)) [ None ↦ None | Some e ↦ next [] h e d (after_of t) j ]
    else None
along ts t inside next (symbol.Qualified p ∷ x ∷ s) h c d i j = None
along ts t inside next (symbol.OptionalQualified p ∷ []) h c d i j =
    if is_none t then (if span_qualifies ts i j then Some c else None)
    else (if span_qualifies ts i (first_of t)
    then elim (lead ts inside t p h c (d + 1) (first_of t)) [ None ↦ None | Some e ↦ next [] h e d (after_of t) j ]
    else None)
along ts t inside next (symbol.OptionalQualified p ∷ x ∷ s) h c d i j = None
along ts t inside next (symbol.Ordinary ∷ s) h c d i j =
    if is_word ts i word.Identifier && not (is_type c (spelling_at ts i)) then along ts t inside next s (past_token h) c d (i + 1) j else None
along ts t inside next (symbol.TypeIdentifier ∷ s) h c d i j =
    if is_word ts i word.Identifier && is_type c (spelling_at ts i) && not h.typed then along ts t inside next s (past_token h) c d (i + 1) j else None
along ts t inside next (symbol.Declared ∷ s) h c d i j =
    if is_word ts i word.Identifier && (h.typed || not (is_type c (spelling_at ts i))) then along ts t inside next s (past_token h) ([] ∷ c) d (i + 1) j else None
along ts t inside next (symbol.Enumerates ∷ s) h c d i j =
    if is_word ts i word.Identifier
    then elim (along ts t inside next s (past_token h) c d (i + 1) j) [ None ↦ None | Some e ↦ Some (enter (record { name = spelling_at ts i; is_type = false }) e) ]
    else None
along ts t inside next (symbol.Value ∷ s) h c d i j =
    if is_none t then along ts t inside next s h c d i j
    else (if is_word ts i word.Equal
    then elim (lead ts inside t part.Conditional h c d (i + 1)) [ None ↦ None | Some e ↦ next s (past_part h (alone t)) e d (after_of t) j ]
    else None)
along ts t inside next (symbol.Enters ∷ s) h [] d i j = None
along ts t inside next (symbol.Enters ∷ s) h (own ∷ c) d i j = along ts t inside next s h (own ∷ enter (declared_name ts h) c) d i j
along ts t inside next (symbol.Begins ∷ s) h c d i j = along ts t inside next s h ([] ∷ c) d i j
along ts t inside next (symbol.Ends ∷ s) h [] d i j = None
along ts t inside next (symbol.Ends ∷ s) h (own ∷ c) d i j = along ts t inside next s h c d i j
along ts t inside next (symbol.Prototype ∷ s) h c d i j =
    if is_none t then along ts t inside next s h c d i j
    else elim c [
      | [] ↦ None
      | own ∷ c' ↦
          elim (lead ts inside t part.Parameters h ([] ∷ c') (d + 1) i) [
            | None ↦ None
            | Some e ↦
                elim e [ [] ↦ None | names ∷ e' ↦ next s (past_part h (alone t)) ((if h.bare then names else own) ∷ e') d (after_of t) j ]
          ]
    ]
along ts t inside next (symbol.Size ∷ s) h c d i j =
    if is_none t then along ts t inside next s h c d i j
    else elim c [
      | [] ↦ None
      | own ∷ c' ↦
          elim (lead ts inside t part.Conditional h c' (d + 1) i) [ None ↦ None | Some e ↦ next s (past_part h (alone t)) (own ∷ e) d (after_of t) j ]
    ]
along ts t inside next (symbol.Texts ∷ []) h c d i j = if is_none t && nat_lt i j && span_is ts word.Text i j then Some c else None
along ts t inside next (symbol.Texts ∷ x ∷ s) h c d i j = None
along ts t inside next (symbol.Init ∷ s) h c d i j =
    if leads_declaration t && begins_at t i
    then elim (lead ts inside t part.Declaration h c (d + 1) i) [ None ↦ None | Some e ↦ next s (past_part h (alone t)) e d (after_of t) j ]
    else (if begins_at t i
    then elim (lead ts inside t part.Expression h c (d + 1) i) [
      | None ↦ None
      | Some e ↦
          if is_word ts (after_of t) word.Semicolon then next s (past_token h) e d (after_of t + 1) j else None
    ]
    else (if is_word ts i word.Semicolon then along ts t inside next s (past_token h) c d (i + 1) j else None))
along ts t inside next (symbol.Clause ∷ s) h c d i j =
    if begins_at t i
    then elim (lead ts inside t part.Expression h c (d + 1) i) [
      | None ↦ None
      | Some e ↦
          if is_word ts (after_of t) word.Semicolon then next s (past_token h) e d (after_of t + 1) j else None
    ]
    else (if is_word ts i word.Semicolon then along ts t inside next s (past_token h) c d (i + 1) j else None)
along ts t inside next (symbol.Step ∷ s) h c d i j =
    if begins_at t i
    then elim (lead ts inside t part.Expression h c (d + 1) i) [
      | None ↦ None
      | Some e ↦
          if is_word ts (after_of t) word.RightParen && has_room d then next s (past_token h) e d (after_of t + 1) j else None
    ]
    else (if is_word ts i word.RightParen && has_room d then along ts t inside next s (past_token h) c d (i + 1) j else None)
along ts t inside next (symbol.Else ∷ s) h c d i j =
    if is_none t then along ts t inside next s h c d i j
    else (if is_word ts i word.Else && has_room d
    then elim (lead ts inside t part.Statement h ([] ∷ c) (d + 1) (i + 1)) [
      | None ↦ None
      | Some e ↦
          elim e [ [] ↦ None | names ∷ e' ↦ next s (past_part h (alone t)) e' d (after_of t) j ]
    ]
    else None)

-- reads nothing
abbrev pub no_reader : Reader
no_reader s h c d i j = None

-- a row of trees along a right side
unfoldable pub reads : List Lexeme → Trees → Reader
reads ts none = along ts none no_reader no_reader
reads ts (node k i j a n) = along ts (node k i j a n) (reads ts a) (reads ts n)

-- the parts of a row's first tree, and the row after it
abbrev pub parts_of : Trees → Trees
parts_of none = none
parts_of (node k i j a n) = a

abbrev pub next_of : Trees → Trees
next_of none = none
next_of (node k i j a n) = n

-- the first tree of a row as a part that begins at a place
abbrev pub leads : List Lexeme → Trees → Part → Context → Scopes → ℕ → ℕ → Option Scopes
leads ts t p h c d i = lead ts (reads ts (parts_of t)) t p h c d i
