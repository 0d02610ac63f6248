-- A text of the grammar has none of the keywords that no alternative has.
use Rattle.std.proofs.Common.{◌≡◌, ℕ, ◌+◌, ◌<◌, ◌≤◌, Bool, true, false, not, ◌&&◌, List, [], ◌∷◌, ⊎_elim, refl, sym, subst, ◌∙◌, arith, inl, inr}
use Rattle.std.proofs.lemmas.Bool.{cases_lt}
use Rattle.cr_syntax.specs.declared.word.Word.{Word}
use Rattle.cr_syntax.specs.declared.node.Kind.{Kind}
use Rattle.cr_syntax.specs.declared.node.Kind.TheVariants as kind
use Rattle.cr_syntax.specs.declared.part.Part.{Part}
use Rattle.cr_syntax.specs.Symbols.{Symbol}
use Rattle.cr_syntax.specs.Symbols as symbol
use Rattle.cr_syntax.specs.declared.part.Context.{Context}
use Rattle.cr_syntax.specs.Words.{Lexeme}
use Rattle.cr_syntax.specs.Scopes.{Scopes}
use Rattle.cr_syntax.specs.Trees.{Trees}
use Rattle.cr_syntax.specs.Grammar.{Side, Alternative}
use Rattle.cr_syntax.specs.Tables.{side_of, rule_of}
use Rattle.cr_syntax.specs.Spells.{Limit, Is, Phrase, a, rest, Spells, AreQualifiers, qualifiers_none, qualifiers_more}
use Rattle.cr_syntax.specs.Spells as spells
use Rattle.cr_syntax.specs.Units.{is_unused}
use Rattle.cr_syntax.specs.Expressions.{Start, BeginsFrom}
use Rattle.cr_syntax.proofs.Alternatives.{side_only}
use Rattle.cr_syntax.proofs.Tests.{both, not_true, some_one}
use Rattle.cr_syntax_machine_laws.proofs.MachineRuns.{word_same}
use Rattle.cr_syntax_machine_laws.proofs.MachineComplete.{begun_same}
use Rattle.cr_syntax_machine_laws.proofs.MachineForms.{within}

abbrev is_used : Symbol → Bool
is_used (symbol.Token l w) = not (is_unused w)
is_used (symbol.Opens l w) = not (is_unused w)
is_used (symbol.Reopens w) = not (is_unused w)
is_used _ = true

-- a right side names no unused keyword
abbrev all_used : Side → Bool
all_used [] = true
all_used (x ∷ s) = is_used x && all_used s

side_used : (k : Kind) → all_used (side_of k) ≡ true
unfolding rule_of
side_used kind.FunctionDefinition = refl
side_used _ = refl

alternative_used : {p : Part} {k : Kind} {s : Side} → Alternative p k s → all_used s ≡ true
alternative_used {k = k} m = subst (λ s. all_used s ≡ true) (side_only m) (side_used k)

abbrev IsUsed : Phrase → Type 0
IsUsed (a p) = Unit {0}
IsUsed (rest s) = all_used s ≡ true

-- no token from i to before j is an unused keyword
pub record AreUsed (ts : List Lexeme) (i j : ℕ) : Type 0 where
  pub all : (n : ℕ) (w : Word) → i ≤ n → n < j → Is ts n w → is_unused w ≡ false

module _ {ts : List Lexeme} where
  no_token : {i j : ℕ} → j ≤ i → AreUsed ts i j
  no_token le = record { all = λ n w ge lt q. absurd (omega arith) }

  and_then : {i j k : ℕ} → AreUsed ts i j → AreUsed ts j k → AreUsed ts i k
  and_then {j = j} x y = record { all = λ n w ge lt q. ⊎_elim (λ b. x.all n w ge b q) (λ b. y.all n w b lt q) (cases_lt n j) }

  one_token : {i : ℕ} {v : Word} → Is ts i v → is_unused v ≡ false → AreUsed ts i (i + 1)
  one_token {i = i} q u = record {
    all = λ n w ge lt q'.
        let e : n ≡ i = omega arith in
        subst (λ v. is_unused v ≡ false) (some_one (sym q ∙ subst (λ k. Is ts k w) e q')) u;
  }

  first : {i j : ℕ} {v : Word} → Is ts i v → is_unused v ≡ false → AreUsed ts (i + 1) j → AreUsed ts i j
  first q u x = and_then (one_token q u) x

  qualifiers_used : {limit : Limit} {d i j : ℕ} → AreQualifiers ts limit d i j → AreUsed ts i j
  qualifiers_used qualifiers_none = no_token (omega arith)
  qualifiers_used (qualifiers_more (inl q) w k) = first q refl (qualifiers_used k)
  qualifiers_used (qualifiers_more (inr q) w k) = first q refl (qualifiers_used k)

  pub used : {limit : Limit} {p : Phrase} {h : Context} {c e : Scopes} {d i j : ℕ} {t : Trees} → Spells ts limit p h c e d t i j → IsUsed p → AreUsed ts i j
  used (spells.of_alternative m f s) u = used s (alternative_used m)
  used (spells.of_chain m f s) u = used s tt
  used (spells.init_declarator_alone s) u = used s tt
  used (spells.parameter_declarator s) u = used s tt
  used (spells.member_declarator s) u = used s tt
  used spells.done u = no_token (omega arith)
  used (spells.token {w = w} {s = r} q v s) u = let x = both (not (is_unused w)) (all_used r) u in first q (not_true (is_unused w) x.0) (used s x.1)
  used (spells.opens {w = w} {s = r} q v s) u = let x = both (not (is_unused w)) (all_used r) u in first q (not_true (is_unused w) x.0) (used s x.1)
  used (spells.reopens {w = w} {s = r} q v v' s) u = let x = both (not (is_unused w)) (all_used r) u in first q (not_true (is_unused w) x.0) (used s x.1)
  used (spells.part x s) u = and_then (used x tt) (used s u)
  used (spells.optional_none s) u = used s u
  used (spells.optional_some x s) u = and_then (used x tt) (used s u)
  used (spells.many_none s) u = used s u
  used (spells.many_more x s) u = and_then (used x tt) (used s u)
  used (spells.list_last x s) u = and_then (used x tt) (used s u)
  used (spells.list_more x q v s) u = and_then (used x tt) (first q refl (used s u))
  used (spells.list_none s) u = used s u
  used (spells.list_some s) u = used s u
  used (spells.tag_none q v s) u = first q refl (used s u)
  used (spells.tag_some q v q' v' s) u = first q refl (first q' refl (used s u))
  used (spells.comma_none q v s) u = first q refl (used s u)
  used (spells.comma_some q v q' v' s) u = first q refl (first q' refl (used s u))
  used (spells.qualified k x) u = and_then (qualifiers_used k) (used x tt)
  used (spells.qualified_none k) u = qualifiers_used k
  used (spells.qualified_some k x) u = and_then (qualifiers_used k) (used x tt)
  used (spells.ordinary q v s) u = first q.0 refl (used s u)
  used (spells.type_identifier q f v s) u = first q.0 refl (used s u)
  used (spells.declared q f v s) u = first q refl (used s u)
  used (spells.enumerates q v s) u = first q refl (used s u)
  used (spells.value_none s) u = used s u
  used (spells.value_some q v x s) u = first q refl (and_then (used x tt) (used s u))
  used (spells.enters s) u = used s u
  used (spells.begins s) u = used s u
  used (spells.ends s) u = used s u
  used (spells.prototype_none s) u = used s u
  used (spells.prototype_some x s) u = and_then (used x tt) (used s u)
  used (spells.size_none s) u = used s u
  used (spells.size_some x s) u = and_then (used x tt) (used s u)
  used (spells.texts_one q v) u = one_token q refl
  used (spells.texts_more q v s) u = first q refl (used s u)
  used (spells.init_declaration x s) u = and_then (used x tt) (used s u)
  used (spells.init_clause s) u = used s u
  used (spells.clause_none q v s) u = first q refl (used s u)
  used (spells.clause_some x q v s) u = and_then (used x tt) (first q refl (used s u))
  used (spells.step_none q v v' s) u = first q refl (used s u)
  used (spells.step_some x q v v' s) u = and_then (used x tt) (first q refl (used s u))
  used (spells.else_none s) u = used s u
  used (spells.else_some q v x s) u = first q refl (and_then (used x tt) (used s u))

-- the tokens that begin a text have none
pub begun_is_used : {limit : Limit} {ts : List Lexeme} (s : Start) {i k : ℕ} {w : Word} → BeginsFrom limit ts s k → s.at ≤ i → i < k → Is ts i w → is_unused w ≡ false
begun_is_used {ts = ts} s {i = i} {k = k} {w = w} b ge lt q =
    let le = b.continues.reaches in
    (used b.continues.spelled.spells tt).all i w ge (omega arith) (word_same ts b.continues.text i (begun_same ts b.continues.text k b.continues.alike i lt (within ts i q)) ∙ q)
