-- In a unit each dot has a name behind it.
use Rattle.std.proofs.Common.{◌≡◌, inl, inr, ℕ, zero, suc, ◌+◌, ◌≤◌, ◌<◌, length, Bool, true, false, not, ◌||◌, ◌&&◌, List, [], ◌∷◌, refl, sym, ◌∙◌, subst, arith}
use Rattle.std.proofs.lemmas.Bool.{cases_eq, cases_lt, or_cases}
use denote.Enum.Bare.{same_true}
use Rattle.cr_syntax.specs.contracts.word.Word as word_type
use Rattle.cr_syntax.specs.declared.word.Word.{Word}
use Rattle.cr_syntax.specs.declared.word.Word.TheVariants as word
use Rattle.cr_syntax.specs.declared.node.Kind.{Kind}
use Rattle.cr_syntax.specs.declared.part.Part.{Part}
use Rattle.cr_syntax.specs.Symbols as symbol
use Rattle.cr_syntax.specs.declared.part.Context.{Context}
use Rattle.cr_syntax.specs.Words.{Lexeme}
use Rattle.cr_syntax.specs.Scopes.{Scopes}
use Rattle.cr_syntax.specs.Trees.{Trees}
use Rattle.cr_syntax.specs.Grammar.{Side, Alternative}
use Rattle.cr_syntax.specs.Grammar as grammar
use Rattle.cr_syntax.specs.Reads.{same_word}
use Rattle.cr_syntax.specs.Spells.{Limit, Phrase, a, rest, Is, AreQualifiers, qualifiers_none, qualifiers_more, Spells}
use Rattle.cr_syntax.specs.Spells as spells
use Rattle.cr_syntax.specs.Units.{IsUnit}
use Rattle.cr_syntax.proofs.Tests.{both, some_one}

-- a right side that begins with a name
abbrev names : Side → Bool
names (symbol.Token l w ∷ s) = same_word w word.Identifier
names _ = false

-- a right side whose dots have names behind them
abbrev fits : Side → Bool
fits [] = true
fits (symbol.Token l w ∷ s) = (not (same_word w word.Dot) || names s) && fits s
fits (symbol.Opens l w ∷ s) = not (same_word w word.Dot) && fits s
fits (symbol.Reopens w ∷ s) = not (same_word w word.Dot) && fits s
fits (_ ∷ s) = fits s

fit : {p : Part} {k : Kind} {s : Side} → Alternative p k s → fits s ≡ true
fit grammar.function_definition = refl
fit _ = refl

abbrev Fits : Phrase → Type 0
Fits (a p) = Unit {0}
Fits (rest s) = fits s ≡ true

-- each dot from token i to before token j has a name behind it
record Named (ts : List Lexeme) (i j : ℕ) : Type 0 where
  each : (k : ℕ) → i ≤ k → k < j → Is ts k word.Dot → Is ts (k + 1) word.Identifier

nothing : {ts : List Lexeme} {i : ℕ} → Named ts i i
nothing = record { each = λ k low high. absurd (omega arith) }

beside : {ts : List Lexeme} {i j k : ℕ} → Named ts i j → Named ts j k → Named ts i k
beside {ts} {i} {j} {k} x y = record {
  each = λ n low high. elim (cases_lt n j) as (λ _. Is ts n word.Dot → Is ts (n + 1) word.Identifier) [
    | inl lt ↦ x.each n low lt
    | inr ge ↦ y.each n ge high
  ];
}

-- a token that is no dot
token : {ts : List Lexeme} {i j : ℕ} (w : Word) → not (same_word w word.Dot) ≡ true → Is ts i w → Named ts (i + 1) j → Named ts i j
token {ts} {i} w q is x = record {
  each = λ n low high dot. elim (cases_eq n i) [
    | inl e ↦
        let P : ℕ → Type 0 = λ m. Is ts m word.Dot in
        let same : w ≡ word.Dot = some_one (sym is ∙ subst P e dot) in
        let Q : Word → Type 0 = λ v. not (same_word v word.Dot) ≡ true in
        let wrong : not true ≡ true = subst Q same q in
        absurd (cc wrong)
    | inr ne ↦ x.each n (omega arith) high dot
  ];
}

-- a token with a name behind it
named : {ts : List Lexeme} {i j : ℕ} → Is ts (i + 1) word.Identifier → Named ts (i + 1) j → Named ts i j
named {ts} {i} is x = record {
  each = λ n low high dot. elim (cases_eq n i) [
    | inl e ↦ let P : ℕ → Type 0 = λ m. Is ts (m + 1) word.Identifier in subst P (sym e) is
    | inr ne ↦ x.each n (omega arith) high dot
  ];
}

qualifiers : {ts : List Lexeme} {limit : Limit} {d i j : ℕ} → AreQualifiers ts limit d i j → Named ts i j
qualifiers qualifiers_none = nothing
qualifiers (qualifiers_more (inl is) st more) = token word.Const refl is (qualifiers more)
qualifiers (qualifiers_more (inr is) st more) = token word.Volatile refl is (qualifiers more)

name_first : {ts : List Lexeme} {limit : Limit} {h : Context} {c e : Scopes} {d i j : ℕ} {t : Trees} (s : Side) →
    Spells ts limit (rest s) h c e d t i j → names s ≡ true → Is ts i word.Identifier
name_first {ts} {i = i} (symbol.Token l w ∷ s) (spells.token is st x) q =
    let same : w ≡ word.Identifier = same_true word_type.the_type tt w word.Identifier q in
    let P : Word → Type 0 = λ v. Is ts i v in subst P same is
name_first _ x q = absurd (cc q)

walk : {ts : List Lexeme} {limit : Limit} {p : Phrase} {h : Context} {c e : Scopes} {d i j : ℕ} {t : Trees} →
    Spells ts limit p h c e d t i j → Fits p → Named ts i j
walk (spells.of_alternative alt f x) q = walk x (fit alt)
walk (spells.of_chain ch m x) q = walk x tt
walk (spells.init_declarator_alone x) q = walk x tt
walk (spells.parameter_declarator x) q = walk x tt
walk (spells.member_declarator x) q = walk x tt
walk (spells.done) q = nothing
walk (spells.token {w = w} {s = s} is st x) q =
    let two = both (not (same_word w word.Dot) || names s) (fits s) q in
    elim (or_cases (not (same_word w word.Dot)) (names s) two.0) [
      | inl nd ↦ token w nd is (walk x two.1)
      | inr n ↦ named (name_first s x n) (walk x two.1)
    ]
walk (spells.opens {w = w} {s = s} is st x) q =
    let two = both (not (same_word w word.Dot)) (fits s) q in token w two.0 is (walk x two.1)
walk (spells.reopens {w = w} {s = s} is st wi x) q =
    let two = both (not (same_word w word.Dot)) (fits s) q in token w two.0 is (walk x two.1)
walk (spells.part x y) q = beside (walk x tt) (walk y q)
walk (spells.optional_none x) q = walk x q
walk (spells.optional_some x y) q = beside (walk x tt) (walk y q)
walk (spells.many_none x) q = walk x q
walk (spells.many_more x y) q = beside (walk x tt) (walk y q)
walk (spells.list_last x y) q = beside (walk x tt) (walk y q)
walk (spells.list_more x is st y) q = beside (walk x tt) (token word.Comma refl is (walk y q))
walk (spells.list_none x) q = walk x q
walk (spells.list_some x) q = walk x q
walk (spells.tag_none is wi x) q = token word.LeftBrace refl is (walk x q)
walk (spells.tag_some is st is' wi x) q = token word.Identifier refl is (token word.LeftBrace refl is' (walk x q))
walk (spells.comma_none is st x) q = token word.RightBrace refl is (walk x q)
walk (spells.comma_some is st is' st' x) q = token word.Comma refl is (token word.RightBrace refl is' (walk x q))
walk (spells.qualified cs x) q = beside (qualifiers cs) (walk x tt)
walk (spells.qualified_none cs) q = qualifiers cs
walk (spells.qualified_some cs x) q = beside (qualifiers cs) (walk x tt)
walk (spells.ordinary is st x) q = token word.Identifier refl is.0 (walk x q)
walk (spells.type_identifier is ht st x) q = token word.Identifier refl is.0 (walk x q)
walk (spells.declared is ht st x) q = token word.Identifier refl is (walk x q)
walk (spells.enumerates is st x) q = token word.Identifier refl is (walk x q)
walk (spells.value_none x) q = walk x q
walk (spells.value_some is st x y) q = token word.Equal refl is (beside (walk x tt) (walk y q))
walk (spells.enters x) q = walk x q
walk (spells.begins x) q = walk x q
walk (spells.ends x) q = walk x q
walk (spells.prototype_none x) q = walk x q
walk (spells.prototype_some x y) q = beside (walk x tt) (walk y q)
walk (spells.size_none x) q = walk x q
walk (spells.size_some x y) q = beside (walk x tt) (walk y q)
walk (spells.texts_one is st) q = token word.Text refl is nothing
walk (spells.texts_more is st x) q = token word.Text refl is (walk x q)
walk (spells.init_declaration x y) q = beside (walk x tt) (walk y q)
walk (spells.init_clause x) q = walk x q
walk (spells.clause_none is st x) q = token word.Semicolon refl is (walk x q)
walk (spells.clause_some x is st y) q = beside (walk x tt) (token word.Semicolon refl is (walk y q))
walk (spells.step_none is st wi x) q = token word.RightParen refl is (walk x q)
walk (spells.step_some x is st wi y) q = beside (walk x tt) (token word.RightParen refl is (walk y q))
walk (spells.else_none x) q = walk x q
walk (spells.else_some is wi x y) q = token word.Else refl is (beside (walk x tt) (walk y q))

-- a token that is a word is one of the list
inside : (ts : List Lexeme) (k : ℕ) (w : Word) → Is ts k w → k < length ts
inside [] k w is = absurd (cc is)
inside (x ∷ ts) zero w is = omega arith
inside (x ∷ ts) (suc k) w is = let rest : k < length ts = inside ts k w is in omega arith

-- in a unit each dot has a name behind it
pub unit_named : (limit : Limit) (ts : List Lexeme) (t : Trees) → IsUnit limit ts t → (k : ℕ) → Is ts k word.Dot → Is ts (k + 1) word.Identifier
unit_named limit ts t u k dot = (walk u.spells refl).each k (omega arith) (inside ts k word.Dot dot) dot
