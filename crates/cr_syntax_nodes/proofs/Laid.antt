-- What is spelled is laid out as its right side says.
use Rattle.std.proofs.Common.{◌≡◌, ℕ, ◌+◌, ◌<◌, ◌≤◌, true, List, [], ◌∷◌, ◌⊎◌, inl, inr, refl, subst, arith}
use Rattle.std.proofs.lemmas.Bool.{cases_lt}
use Rattle.cr_syntax.specs.declared.word.Word.{Word}
use Rattle.cr_syntax.specs.declared.word.Word.TheVariants as word
use Rattle.cr_syntax.specs.declared.node.Kind.{Kind}
use Rattle.cr_syntax.specs.declared.part.Part.{Part}
use Rattle.cr_syntax.specs.declared.part.Part.TheVariants as part
use Rattle.cr_syntax.specs.declared.part.Context.{Context}
use Rattle.cr_syntax.specs.Words.{Lexeme}
use Rattle.cr_syntax.specs.Scopes.{Scopes}
use Rattle.cr_syntax.specs.Trees.{Trees, none, node, ◌&◌}
use Rattle.cr_syntax.specs.Symbols.{Depth}
use Rattle.cr_syntax.specs.Symbols as symbol
use Rattle.cr_syntax.specs.Grammar.{Side}
use Rattle.cr_syntax.specs.Spells.{Limit, Is, Qualifies, AreQualifiers, qualifiers_none, qualifiers_more, Spells, rest}
use Rattle.cr_syntax.specs.Spells as spells
use Rattle.cr_syntax_nodes.specs.Nodes.{Rises, no_more, one_more}
use Rattle.cr_syntax_nodes.specs.Laid.{stands_for, AreAll, AllQualify, IsClause, IsFirstClause, IsLaid}
use Rattle.cr_syntax_nodes.proofs.Made.{rises, qualifiers_forth}
use Rattle.cr_syntax_nodes.proofs.Stands.{part_is, on_one}

-- tokens of one sort

one_first : {P : ℕ → Type 0} (i j : ℕ) → P i → ((m : ℕ) → i + 1 ≤ m → m < j → P m) → (m : ℕ) → i ≤ m → m < j → P m
one_first {P} i j p f m le lt = elim (cases_lt i m) as (λ _. P m) [
  | inl more ↦ f m (omega (arith, more)) lt
  | inr same ↦ (let e : i ≡ m = omega (arith, le, same) in subst P e p)
]

all_qualify : {ts : List Lexeme} {limit : Limit} {d i j : ℕ} → AreQualifiers ts limit d i j → AllQualify ts i j
all_qualify qualifiers_none = λ m le lt. absurd (omega (arith, le, lt))
all_qualify {ts = ts} {i = i} {j = j} (qualifiers_more q w k) = one_first {P = Qualifies ts} i j q (all_qualify k)

-- lists

list_longer : (ts : List Lexeme) (l : Depth) (p : Part) (s : Side) (k : Kind) (t u : Trees) (i j n : ℕ) → stands_for p k ≡ true → Is ts j word.Comma →
    IsLaid ts (symbol.List l p ∷ s) u (j + 1) n → IsLaid ts (symbol.List l p ∷ s) (node k i j t u) i n
list_longer ts l p s k t none i j n f q z = absurd z.0
list_longer ts l p s k t (node m a b v u) i j n f q z = (((f, refl), (q, z.0)), z.1)

list_there : (ts : List Lexeme) (l : Depth) (p : Part) (s : Side) (t : Trees) (i n : ℕ) → IsLaid ts (symbol.List l p ∷ s) t i n → IsLaid ts (symbol.OptionalList l p ∷ s) t i n
list_there ts l p s none i n z = absurd z.0
list_there ts l p s (node k a b t u) i n z = z

-- clauses

clause_gone : (ts : List Lexeme) (w : Word) (more : Trees → ℕ → Type 0) (t : Trees) (i j : ℕ) → Rises (i + 1) j t → Is ts i w → more t (i + 1) → IsClause ts w more t i
clause_gone ts w more none i j r q z = (q, z)
clause_gone ts w more (node k a b t u) i j (one_more le le' r) q z = (λ e. absurd (omega (arith, e, le)), λ other. (q, z))

clause_there : (ts : List Lexeme) (w : Word) (more : Trees → ℕ → Type 0) (k : Kind) (t u : Trees) (i j : ℕ) → stands_for part.Expression k ≡ true → Is ts j w → more u (j + 1) → IsClause ts w more (node k i j t u) i
clause_there ts w more k t u i j f q z = (λ e. (f, (q, z)), λ other. absurd (other refl))

first_clause : (ts : List Lexeme) (more : Trees → ℕ → Type 0) (t : Trees) (i : ℕ) → IsClause ts word.Semicolon more t i → IsFirstClause ts more t i
first_clause ts more none i z = z
first_clause ts more (node k a b t u) i z = (λ e. inr (z.0 e), z.1)

pub laid : {ts : List Lexeme} {limit : Limit} {s : Side} {h : Context} {c e : Scopes} {d i j : ℕ} {t : Trees} → Spells ts limit (rest s) h c e d t i j → IsLaid ts s t i j
laid spells.done = refl
laid (spells.token q w z) = (q, laid z)
laid (spells.opens q w z) = (q, laid z)
laid (spells.reopens q w v z) = (q, laid z)
laid {ts = ts} {i = i} {j = n} (spells.part {l = l} {p = p} {s = s} {u = u} x z) = on_one (λ y. IsLaid ts (symbol.Part l p ∷ s) (y & u) i n) (part_is x) (λ k b f. ((f, refl), laid z))
laid (spells.optional_none z) = laid z
laid {ts = ts} {i = i} {j = n} (spells.optional_some {l = l} {p = p} {s = s} {u = u} x z) = on_one (λ y. IsLaid ts (symbol.Optional l p ∷ s) (y & u) i n) (part_is x) (λ k b f. ((f, refl), laid z))
laid (spells.many_none z) = (tt, laid z)
laid {ts = ts} {i = i} {j = n} (spells.many_more {l = l} {p = p} {s = s} {u = u} x z) =
    let r = laid z in
    on_one (λ y. IsLaid ts (symbol.Many l p ∷ s) (y & u) i n) (part_is x) (λ k b f. (((f, refl), r.0), r.1))
laid {ts = ts} {i = i} {j = n} (spells.list_last {l = l} {p = p} {s = s} x z) = on_one (λ y. IsLaid ts (symbol.List l p ∷ s) y i n) (part_is x) (λ k b f. ((f, refl), laid z))
laid {ts = ts} {i = i} {j = n} (spells.list_more {l = l} {p = p} {s = s} {j = j} {u = u} x q w z) =
    on_one (λ y. IsLaid ts (symbol.List l p ∷ s) (y & u) i n) (part_is x) (λ k b f. list_longer ts l p s k b u i j n f q (laid z))
laid (spells.list_none z) = laid z
laid {ts = ts} {i = i} {j = n} {t = t} (spells.list_some {l = l} {p = p} {s = s} z) = list_there ts l p s t i n (laid z)
laid (spells.tag_none q w z) = inl (q, laid z)
laid (spells.tag_some q w q' w' z) = inr (q, (q', laid z))
laid (spells.comma_none q w z) = inl (q, laid z)
laid (spells.comma_some q w q' w' z) = inr (q, (q', laid z))
laid {ts = ts} {i = i} {j = n} (spells.qualified {p = p} m x) = on_one (λ y. IsLaid ts (symbol.Qualified p ∷ []) y i n) (part_is x) (λ k b f. ((qualifiers_forth m, all_qualify m), (f, refl)))
laid (spells.qualified_none m) = (qualifiers_forth m, all_qualify m)
laid {ts = ts} {i = i} {j = n} (spells.qualified_some {p = p} m x) = on_one (λ y. IsLaid ts (symbol.OptionalQualified p ∷ []) y i n) (part_is x) (λ k b f. ((qualifiers_forth m, all_qualify m), (f, refl)))
laid (spells.ordinary q w z) = (q.0, laid z)
laid (spells.type_identifier q f w z) = (q.0, laid z)
laid (spells.declared q f w z) = (q, laid z)
laid (spells.enumerates q w z) = (q, laid z)
laid (spells.value_none z) = laid z
laid {ts = ts} {i = i} {j = n} (spells.value_some {s = s} {u = u} q w x z) = on_one (λ y. IsLaid ts (symbol.Value ∷ s) (y & u) i n) (part_is x) (λ k b f. (q, ((f, refl), laid z)))
laid (spells.enters z) = laid z
laid (spells.begins z) = laid z
laid (spells.ends z) = laid z
laid (spells.prototype_none z) = laid z
laid {ts = ts} {i = i} {j = n} (spells.prototype_some {s = s} {u = u} x z) = on_one (λ y. IsLaid ts (symbol.Prototype ∷ s) (y & u) i n) (part_is x) (λ k b f. ((f, refl), laid z))
laid (spells.size_none z) = laid z
laid {ts = ts} {i = i} {j = n} (spells.size_some {s = s} {u = u} x z) = on_one (λ y. IsLaid ts (symbol.Size ∷ s) (y & u) i n) (part_is x) (λ k b f. ((f, refl), laid z))
laid {ts = ts} {i = i} (spells.texts_one q w) = (omega arith, one_first {P = λ m. Is ts m word.Text} i (i + 1) q (λ m le lt. absurd (omega (arith, le, lt))))
laid {ts = ts} {i = i} {j = n} (spells.texts_more q w z) = let r = laid z in (omega (arith, r.0), one_first {P = λ m. Is ts m word.Text} i n q r.1)
laid {ts = ts} {i = i} {j = n} (spells.init_declaration {s = s} {u = u} x z) =
    on_one (λ y. IsLaid ts (symbol.Init ∷ s) (y & u) i n) (part_is x) (λ k b f. (λ e. inl (f, laid z), λ other. absurd (other refl)))
laid {ts = ts} {i = i} {j = n} {t = t} (spells.init_clause {s = s} z) = first_clause ts (λ u m. IsLaid ts s u m n) t i (laid z)
laid {ts = ts} {i = i} {j = n} {t = t} (spells.clause_none {s = s} q w z) = clause_gone ts word.Semicolon (λ u m. IsLaid ts s u m n) t i n (rises z) q (laid z)
laid {ts = ts} {i = i} {j = n} (spells.clause_some {s = s} {j = j} {u = u} x q w z) =
    on_one (λ y. IsLaid ts (symbol.Clause ∷ s) (y & u) i n) (part_is x) (λ k b f. clause_there ts word.Semicolon (λ v m. IsLaid ts s v m n) k b u i j f q (laid z))
laid {ts = ts} {i = i} {j = n} {t = t} (spells.step_none {s = s} q w v z) = clause_gone ts word.RightParen (λ u m. IsLaid ts s u m n) t i n (rises z) q (laid z)
laid {ts = ts} {i = i} {j = n} (spells.step_some {s = s} {j = j} {u = u} x q w v z) =
    on_one (λ y. IsLaid ts (symbol.Step ∷ s) (y & u) i n) (part_is x) (λ k b f. clause_there ts word.RightParen (λ v m. IsLaid ts s v m n) k b u i j f q (laid z))
laid (spells.else_none z) = laid z
laid {ts = ts} {i = i} {j = n} (spells.else_some {s = s} {u = u} q w x z) = on_one (λ y. IsLaid ts (symbol.Else ∷ s) (y & u) i n) (part_is x) (λ k b f. (q, ((f, refl), laid z)))
