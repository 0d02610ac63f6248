-- Reading, symbol by symbol, at any row of trees.
use Rattle.std.proofs.Common.{◌≡◌, ℕ, ◌+◌, false, not, ◌&&◌, ◌||◌, List, [], ◌∷◌, Option, None, Some, refl}
use Rattle.std.specs.Prelude.{if◌then◌else◌, ◌==◌, nat_lt}
use Rattle.cr_syntax.specs.declared.word.Word.{Word}
use Rattle.cr_syntax.specs.declared.word.Word.TheVariants as word
use Rattle.cr_syntax.specs.declared.scopes.TypeName.{TypeName}
use Rattle.cr_syntax.specs.Symbols.{Depth}
use Rattle.cr_syntax.specs.declared.part.Part.{Part}
use Rattle.cr_syntax.specs.declared.part.Part.TheVariants as part
use Rattle.cr_syntax.specs.Symbols as symbol
use Rattle.cr_syntax.specs.declared.part.Context.{Context}
use Rattle.cr_syntax.specs.Words.{Lexeme, spelling_at}
use Rattle.cr_syntax.specs.Scopes.{Scopes, is_type, enter}
use Rattle.cr_syntax.specs.Trees.{Trees, none, node}
use Rattle.cr_syntax.specs.Context.{past_token, declared_name}
use Rattle.cr_syntax.specs.Grammar.{Side}
use Rattle.cr_syntax.specs.Spells.{levels}
use Rattle.cr_syntax.specs.Reads.{is_word, span_is, span_qualifies, has_room, is_none, first_of, begins_at, leads_declaration, list_on, along, reads, next_of, leads}
use Rattle.cr_syntax.specs.Steps.{part_on, clause_on, step_on, else_on, prototype_on, size_on, qualified_on}

pub reads_token : (ts : List Lexeme) (t : Trees) (s : Side) (h : Context) (c : Scopes) (d i j : ℕ) (l : Depth) (w : Word) →
    reads ts t (symbol.Token l w ∷ s) h c d i j ≡ (if is_word ts i w then reads ts t s (past_token h) c d (i + 1) j else None)
unfolding reads along
reads_token ts none s h c d i j l w = refl
reads_token ts (node k i' j' b n) s h c d i j l w = refl

pub reads_opens : (ts : List Lexeme) (t : Trees) (s : Side) (h : Context) (c : Scopes) (d i j : ℕ) (l : Depth) (w : Word) →
    reads ts t (symbol.Opens l w ∷ s) h c d i j ≡ (if is_word ts i w && has_room (levels l d) then reads ts t s (past_token h) c d (i + 1) j else None)
unfolding reads along
reads_opens ts none s h c d i j l w = refl
reads_opens ts (node k i' j' b n) s h c d i j l w = refl

pub reads_reopens : (ts : List Lexeme) (t : Trees) (s : Side) (h : Context) (c : Scopes) (d i j : ℕ) (w : Word) →
    reads ts t (symbol.Reopens w ∷ s) h c d i j ≡ (if is_word ts i w && has_room d then reads ts t s (past_token h) c d (i + 1) j else None)
unfolding reads along
reads_reopens ts none s h c d i j w = refl
reads_reopens ts (node k i' j' b n) s h c d i j w = refl

pub reads_part : (ts : List Lexeme) (t : Trees) (s : Side) (h : Context) (c : Scopes) (d i j : ℕ) (l : Depth) (p : Part) →
    reads ts t (symbol.Part l p ∷ s) h c d i j ≡ (part_on ts t s h d j (leads ts t p h c (levels l d) i))
unfolding reads along
reads_part ts none s h c d i j l p = refl
reads_part ts (node k i' j' b n) s h c d i j l p = refl

pub reads_optional : (ts : List Lexeme) (t : Trees) (s : Side) (h : Context) (c : Scopes) (d i j : ℕ) (l : Depth) (p : Part) →
    reads ts t (symbol.Optional l p ∷ s) h c d i j ≡ (if is_none t then reads ts t s h c d i j else part_on ts t s h d j (leads ts t p h c (levels l d) i))
unfolding reads along
reads_optional ts none s h c d i j l p = refl
reads_optional ts (node k i' j' b n) s h c d i j l p = refl

pub reads_many : (ts : List Lexeme) (t : Trees) (s : Side) (h : Context) (c : Scopes) (d i j : ℕ) (l : Depth) (p : Part) →
    reads ts t (symbol.Many l p ∷ s) h c d i j ≡ (if is_none t then reads ts t s h c d i j else part_on ts t (symbol.Many l p ∷ s) h d j (leads ts t p h c (levels l d) i))
unfolding reads along
reads_many ts none s h c d i j l p = refl
reads_many ts (node k i' j' b n) s h c d i j l p = refl

pub reads_list : (ts : List Lexeme) (t : Trees) (s : Side) (h : Context) (c : Scopes) (d i j : ℕ) (l : Depth) (p : Part) →
    reads ts t (symbol.List l p ∷ s) h c d i j ≡ (list_on ts t (reads ts (next_of t)) l p s h d j (leads ts t p h c (levels l d) i))
unfolding reads along
reads_list ts none s h c d i j l p = refl
reads_list ts (node k i' j' b n) s h c d i j l p = refl

pub reads_optional_list : (ts : List Lexeme) (t : Trees) (s : Side) (h : Context) (c : Scopes) (d i j : ℕ) (l : Depth) (p : Part) →
    reads ts t (symbol.OptionalList l p ∷ s) h c d i j ≡ (if is_none t then reads ts t s h c d i j else list_on ts t (reads ts (next_of t)) l p s h d j (leads ts t p h c (levels l d) i))
unfolding reads along
reads_optional_list ts none s h c d i j l p = refl
reads_optional_list ts (node k i' j' b n) s h c d i j l p = refl

pub reads_tag : (ts : List Lexeme) (t : Trees) (s : Side) (h : Context) (c : Scopes) (d i j : ℕ) →
    reads ts t (symbol.Tag ∷ s) h c d i j ≡ (if is_word ts i word.Identifier then (if is_word ts (i + 1) word.LeftBrace && has_room d then reads ts t s (past_token h) c d (i + 1 + 1) j else None) else (if is_word ts i word.LeftBrace && has_room d then reads ts t s (past_token h) c d (i + 1) j else None))
unfolding reads along
reads_tag ts none s h c d i j = refl
reads_tag ts (node k i' j' b n) s h c d i j = refl

pub reads_trailing : (ts : List Lexeme) (t : Trees) (s : Side) (h : Context) (c : Scopes) (d i j : ℕ) →
    reads ts t (symbol.TrailingComma ∷ s) h c d i j ≡ (if is_word ts i word.Comma then (if is_word ts (i + 1) word.RightBrace then reads ts t s (past_token h) c d (i + 1 + 1) j else None) else (if is_word ts i word.RightBrace then reads ts t s (past_token h) c d (i + 1) j else None))
unfolding reads along
reads_trailing ts none s h c d i j = refl
reads_trailing ts (node k i' j' b n) s h c d i j = refl

pub reads_ordinary : (ts : List Lexeme) (t : Trees) (s : Side) (h : Context) (c : Scopes) (d i j : ℕ) →
    reads ts t (symbol.Ordinary ∷ s) h c d i j ≡ (if is_word ts i word.Identifier && not (is_type c (spelling_at ts i)) then reads ts t s (past_token h) c d (i + 1) j else None)
unfolding reads along
reads_ordinary ts none s h c d i j = refl
reads_ordinary ts (node k i' j' b n) s h c d i j = refl

pub reads_type_identifier : (ts : List Lexeme) (t : Trees) (s : Side) (h : Context) (c : Scopes) (d i j : ℕ) →
    reads ts t (symbol.TypeIdentifier ∷ s) h c d i j ≡ (if is_word ts i word.Identifier && is_type c (spelling_at ts i) && not h.typed then reads ts t s (past_token h) c d (i + 1) j else None)
unfolding reads along
reads_type_identifier ts none s h c d i j = refl
reads_type_identifier ts (node k i' j' b n) s h c d i j = refl

pub reads_declared : (ts : List Lexeme) (t : Trees) (s : Side) (h : Context) (c : Scopes) (d i j : ℕ) →
    reads ts t (symbol.Declared ∷ s) h c d i j ≡ (if is_word ts i word.Identifier && (h.typed || not (is_type c (spelling_at ts i))) then reads ts t s (past_token h) ([] ∷ c) d (i + 1) j else None)
unfolding reads along
reads_declared ts none s h c d i j = refl
reads_declared ts (node k i' j' b n) s h c d i j = refl

pub reads_enumerates : (ts : List Lexeme) (t : Trees) (s : Side) (h : Context) (c : Scopes) (d i j : ℕ) →
    reads ts t (symbol.Enumerates ∷ s) h c d i j ≡ (if is_word ts i word.Identifier then elim (reads ts t s (past_token h) c d (i + 1) j) as (λ _. Option Scopes) [ None ↦ None | Some e ↦ Some (enter (record { name = spelling_at ts i; is_type = false }) e) ] else None)
unfolding reads along
reads_enumerates ts none s h c d i j = refl
reads_enumerates ts (node k i' j' b n) s h c d i j = refl

pub reads_value : (ts : List Lexeme) (t : Trees) (s : Side) (h : Context) (c : Scopes) (d i j : ℕ) →
    reads ts t (symbol.Value ∷ s) h c d i j ≡ (if is_none t then reads ts t s h c d i j else (if is_word ts i word.Equal then part_on ts t s h d j (leads ts t part.Conditional h c d (i + 1)) else None))
unfolding reads along
reads_value ts none s h c d i j = refl
reads_value ts (node k i' j' b n) s h c d i j = refl

pub reads_begins : (ts : List Lexeme) (t : Trees) (s : Side) (h : Context) (c : Scopes) (d i j : ℕ) →
    reads ts t (symbol.Begins ∷ s) h c d i j ≡ (reads ts t s h ([] ∷ c) d i j)
unfolding reads along
reads_begins ts none s h c d i j = refl
reads_begins ts (node k i' j' b n) s h c d i j = refl

pub reads_enters : (ts : List Lexeme) (t : Trees) (s : Side) (h : Context) (own : List TypeName) (c : Scopes) (d i j : ℕ) →
    reads ts t (symbol.Enters ∷ s) h (own ∷ c) d i j ≡ reads ts t s h (own ∷ enter (declared_name ts h) c) d i j
unfolding reads along
reads_enters ts none s h own c d i j = refl
reads_enters ts (node k i' j' b n) s h own c d i j = refl

pub reads_ends : (ts : List Lexeme) (t : Trees) (s : Side) (h : Context) (own : List TypeName) (c : Scopes) (d i j : ℕ) →
    reads ts t (symbol.Ends ∷ s) h (own ∷ c) d i j ≡ reads ts t s h c d i j
unfolding reads along
reads_ends ts none s h own c d i j = refl
reads_ends ts (node k i' j' b n) s h own c d i j = refl

pub reads_clause : (ts : List Lexeme) (t : Trees) (s : Side) (h : Context) (c : Scopes) (d i j : ℕ) →
    reads ts t (symbol.Clause ∷ s) h c d i j ≡ (if begins_at t i then clause_on ts t s h d j (leads ts t part.Expression h c (d + 1) i) else (if is_word ts i word.Semicolon then reads ts t s (past_token h) c d (i + 1) j else None))
unfolding reads along
reads_clause ts none s h c d i j = refl
reads_clause ts (node k i' j' b n) s h c d i j = refl

pub reads_init : (ts : List Lexeme) (t : Trees) (s : Side) (h : Context) (c : Scopes) (d i j : ℕ) →
    reads ts t (symbol.Init ∷ s) h c d i j ≡ (if leads_declaration t && begins_at t i then part_on ts t s h d j (leads ts t part.Declaration h c (d + 1) i) else (if begins_at t i then clause_on ts t s h d j (leads ts t part.Expression h c (d + 1) i) else (if is_word ts i word.Semicolon then reads ts t s (past_token h) c d (i + 1) j else None)))
unfolding reads along
reads_init ts none s h c d i j = refl
reads_init ts (node k i' j' b n) s h c d i j = refl

pub reads_step : (ts : List Lexeme) (t : Trees) (s : Side) (h : Context) (c : Scopes) (d i j : ℕ) →
    reads ts t (symbol.Step ∷ s) h c d i j ≡ (if begins_at t i then step_on ts t s h d j (leads ts t part.Expression h c (d + 1) i) else (if is_word ts i word.RightParen && has_room d then reads ts t s (past_token h) c d (i + 1) j else None))
unfolding reads along
reads_step ts none s h c d i j = refl
reads_step ts (node k i' j' b n) s h c d i j = refl

pub reads_else : (ts : List Lexeme) (t : Trees) (s : Side) (h : Context) (c : Scopes) (d i j : ℕ) →
    reads ts t (symbol.Else ∷ s) h c d i j ≡ (if is_none t then reads ts t s h c d i j else (if is_word ts i word.Else && has_room d then else_on ts t s h d j (leads ts t part.Statement h ([] ∷ c) (d + 1) (i + 1)) else None))
unfolding reads along
reads_else ts none s h c d i j = refl
reads_else ts (node k i' j' b n) s h c d i j = refl

pub reads_prototype : (ts : List Lexeme) (t : Trees) (s : Side) (h : Context) (own : List TypeName) (c : Scopes) (d i j : ℕ) →
    reads ts t (symbol.Prototype ∷ s) h (own ∷ c) d i j ≡ (if is_none t then reads ts t s h (own ∷ c) d i j else prototype_on ts t s h own d j (leads ts t part.Parameters h ([] ∷ c) (d + 1) i))
unfolding reads along
reads_prototype ts none s h own c d i j = refl
reads_prototype ts (node k i' j' b n) s h own c d i j = refl

pub reads_size : (ts : List Lexeme) (t : Trees) (s : Side) (h : Context) (own : List TypeName) (c : Scopes) (d i j : ℕ) →
    reads ts t (symbol.Size ∷ s) h (own ∷ c) d i j ≡ (if is_none t then reads ts t s h (own ∷ c) d i j else size_on ts t s h own d j (leads ts t part.Conditional h c (d + 1) i))
unfolding reads along
reads_size ts none s h own c d i j = refl
reads_size ts (node k i' j' b n) s h own c d i j = refl

pub reads_qualified : (ts : List Lexeme) (t : Trees) (p : Part) (h : Context) (c : Scopes) (d i j : ℕ) →
    reads ts t (symbol.Qualified p ∷ []) h c d i j ≡ (if span_qualifies ts i (first_of t) then qualified_on ts t h d j (leads ts t p h c (d + 1) (first_of t)) else None)
unfolding reads along
reads_qualified ts none p h c d i j = refl
reads_qualified ts (node k i' j' b n) p h c d i j = refl

pub reads_optional_qualified : (ts : List Lexeme) (t : Trees) (p : Part) (h : Context) (c : Scopes) (d i j : ℕ) →
    reads ts t (symbol.OptionalQualified p ∷ []) h c d i j ≡ (if is_none t then (if span_qualifies ts i j then Some c else None) else (if span_qualifies ts i (first_of t) then qualified_on ts t h d j (leads ts t p h c (d + 1) (first_of t)) else None))
unfolding reads along
reads_optional_qualified ts none p h c d i j = refl
reads_optional_qualified ts (node k i' j' b n) p h c d i j = refl

pub reads_texts : (ts : List Lexeme) (t : Trees) (h : Context) (c : Scopes) (d i j : ℕ) →
    reads ts t (symbol.Texts ∷ []) h c d i j ≡ (if is_none t && nat_lt i j && span_is ts word.Text i j then Some c else None)
unfolding reads along
reads_texts ts none h c d i j = refl
reads_texts ts (node k i' j' b n) h c d i j = refl

pub reads_done : (ts : List Lexeme) (t : Trees) (h : Context) (c : Scopes) (d i j : ℕ) →
    reads ts t [] h c d i j ≡ (if is_none t && (i == j) then Some c else None)
unfolding reads along
reads_done ts none h c d i j = refl
reads_done ts (node k i' j' b n) h c d i j = refl
