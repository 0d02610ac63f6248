-- A node that stands in what is spelled is made by its alternative.
use Rattle.std.proofs.Common.{◌≡◌, ℕ, ◌≤◌, true, List, sym, subst, arith, inl, inr}
use Rattle.cr_syntax.specs.declared.node.Kind.{Kind}
use Rattle.cr_syntax.specs.declared.part.Part.{Part}
use Rattle.cr_syntax.specs.declared.part.Context.{Context}
use Rattle.cr_syntax.specs.Words.{Lexeme}
use Rattle.cr_syntax.specs.Scopes.{Scopes}
use Rattle.cr_syntax.specs.Trees.{Trees, ◌&◌}
use Rattle.cr_syntax.specs.Context.{fits_together}
use Rattle.cr_syntax.specs.Grammar.{Side, Alternative}
use Rattle.cr_syntax.specs.Spells.{Limit, Phrase, Spells, a, rest, AreQualifiers, qualifiers_none, qualifiers_more}
use Rattle.cr_syntax.specs.Spells as spells
use Rattle.cr_syntax.proofs.Alternatives.{side_only}
use Rattle.cr_syntax_nodes.specs.Nodes.{IsMade, Rises, no_more, one_more}
use Rattle.cr_syntax_nodes.proofs.Occurs.{Occurs, here, inside, behind, apart, in_none}

in_two : {k : Kind} {i j : ℕ} {b : Trees} {G : Type 0} (t u : Trees) → (Occurs k i j b t → G) → (Occurs k i j b u → G) → Occurs k i j b (t & u) → G
in_two t u f g o = elim (apart t u o) [ inl z ↦ f z | inr z ↦ g z ]

made_so : {ts : List Lexeme} {limit : Limit} {p : Part} {k : Kind} {s : Side} {h : Context} {c e : Scopes} {d i j : ℕ} {t : Trees} →
    Alternative p k s → fits_together k t ≡ true → Spells ts limit (rest s) h c e d t i j → IsMade ts limit k i j t
made_so {ts = ts} {limit = limit} {h = h} {c = c} {e = e} {d = d} {i = i} {j = j} {t = t} m f s =
    record { said = h; before = c; after = e; depth = d; spells = subst (λ x. Spells ts limit (rest x) h c e d t i j) (sym (side_only m)) s; fits = f }

pub made_in : {ts : List Lexeme} {limit : Limit} {q : Phrase} {h : Context} {c e : Scopes} {d x y : ℕ} {t : Trees} {k : Kind} {i j : ℕ} {b : Trees} →
    Spells ts limit q h c e d t x y → Occurs k i j b t → IsMade ts limit k i j b
made_in (spells.of_alternative m f s) here = made_so m f s
made_in (spells.of_alternative m f s) (inside o) = made_in s o
made_in (spells.of_alternative m f s) (behind o) = in_none o
made_in (spells.of_chain z f s) o = made_in s o
made_in (spells.init_declarator_alone s) o = made_in s o
made_in (spells.parameter_declarator s) o = made_in s o
made_in (spells.member_declarator s) o = made_in s o
made_in spells.done o = in_none o
made_in (spells.token q w s) o = made_in s o
made_in (spells.opens q w s) o = made_in s o
made_in (spells.reopens q w v s) o = made_in s o
made_in (spells.part {t = t} {u = u} x s) o = in_two t u (λ z. made_in x z) (λ z. made_in s z) o
made_in (spells.optional_none s) o = made_in s o
made_in (spells.optional_some {t = t} {u = u} x s) o = in_two t u (λ z. made_in x z) (λ z. made_in s z) o
made_in (spells.many_none s) o = made_in s o
made_in (spells.many_more {t = t} {u = u} x s) o = in_two t u (λ z. made_in x z) (λ z. made_in s z) o
made_in (spells.list_last x s) o = made_in x o
made_in (spells.list_more {t = t} {u = u} x q w s) o = in_two t u (λ z. made_in x z) (λ z. made_in s z) o
made_in (spells.list_none s) o = made_in s o
made_in (spells.list_some s) o = made_in s o
made_in (spells.tag_none q w s) o = made_in s o
made_in (spells.tag_some q w q' w' s) o = made_in s o
made_in (spells.comma_none q w s) o = made_in s o
made_in (spells.comma_some q w q' w' s) o = made_in s o
made_in (spells.qualified k x) o = made_in x o
made_in (spells.qualified_none k) o = in_none o
made_in (spells.qualified_some k x) o = made_in x o
made_in (spells.ordinary q w s) o = made_in s o
made_in (spells.type_identifier q f w s) o = made_in s o
made_in (spells.declared q f w s) o = made_in s o
made_in (spells.enumerates q w s) o = made_in s o
made_in (spells.value_none s) o = made_in s o
made_in (spells.value_some {t = t} {u = u} q w x s) o = in_two t u (λ z. made_in x z) (λ z. made_in s z) o
made_in (spells.enters s) o = made_in s o
made_in (spells.begins s) o = made_in s o
made_in (spells.ends s) o = made_in s o
made_in (spells.prototype_none s) o = made_in s o
made_in (spells.prototype_some {t = t} {u = u} x s) o = in_two t u (λ z. made_in x z) (λ z. made_in s z) o
made_in (spells.size_none s) o = made_in s o
made_in (spells.size_some {t = t} {u = u} x s) o = in_two t u (λ z. made_in x z) (λ z. made_in s z) o
made_in (spells.texts_one q w) o = in_none o
made_in (spells.texts_more q w s) o = in_none o
made_in (spells.init_declaration {t = t} {u = u} x s) o = in_two t u (λ z. made_in x z) (λ z. made_in s z) o
made_in (spells.init_clause s) o = made_in s o
made_in (spells.clause_none q w s) o = made_in s o
made_in (spells.clause_some {t = t} {u = u} x q w s) o = in_two t u (λ z. made_in x z) (λ z. made_in s z) o
made_in (spells.step_none q w v s) o = made_in s o
made_in (spells.step_some {t = t} {u = u} x q w v s) o = in_two t u (λ z. made_in x z) (λ z. made_in s z) o
made_in (spells.else_none s) o = made_in s o
made_in (spells.else_some {t = t} {u = u} q w x s) o = in_two t u (λ z. made_in x z) (λ z. made_in s z) o

-- Parts rise.

pub forth : {i j : ℕ} {t : Trees} → Rises i j t → i ≤ j
forth (no_more le) = le
forth (one_more le le' r) = let n = forth r in omega arith

later : {i j n : ℕ} {t : Trees} → n ≤ i → Rises i j t → Rises n j t
later le (no_more le') = no_more (omega arith)
later le (one_more le' le'' r) = one_more (omega arith) le'' r

joined : {i j n : ℕ} {t u : Trees} → Rises i j t → Rises j n u → Rises i n (t & u)
joined (no_more le) q = later le q
joined (one_more le le' r) q = one_more le le' (joined r q)

ended : {i j n : ℕ} {t : Trees} → Rises i j t → j ≤ n → Rises i n t
ended (no_more le) le' = no_more (omega arith)
ended (one_more le le' r) le'' = one_more le le' (ended r le'')

pub qualifiers_forth : {ts : List Lexeme} {limit : Limit} {d i j : ℕ} → AreQualifiers ts limit d i j → i ≤ j
qualifiers_forth qualifiers_none = omega arith
qualifiers_forth (qualifiers_more q w k) = let n = qualifiers_forth k in omega arith

pub rises : {ts : List Lexeme} {limit : Limit} {q : Phrase} {h : Context} {c e : Scopes} {d i j : ℕ} {t : Trees} → Spells ts limit q h c e d t i j → Rises i j t
rises (spells.of_alternative m f s) = one_more (omega arith) (forth (rises s)) (no_more (omega arith))
rises (spells.of_chain m f s) = rises s
rises (spells.init_declarator_alone s) = rises s
rises (spells.parameter_declarator s) = rises s
rises (spells.member_declarator s) = rises s
rises spells.done = no_more (omega arith)
rises (spells.token q w s) = later (omega arith) (rises s)
rises (spells.opens q w s) = later (omega arith) (rises s)
rises (spells.reopens q w v s) = later (omega arith) (rises s)
rises (spells.part x s) = joined (rises x) (rises s)
rises (spells.optional_none s) = rises s
rises (spells.optional_some x s) = joined (rises x) (rises s)
rises (spells.many_none s) = rises s
rises (spells.many_more x s) = joined (rises x) (rises s)
rises (spells.list_last x s) = ended (rises x) (forth (rises s))
rises (spells.list_more x q w s) = joined (rises x) (later (omega arith) (rises s))
rises (spells.list_none s) = rises s
rises (spells.list_some s) = rises s
rises (spells.tag_none q w s) = later (omega arith) (rises s)
rises (spells.tag_some q w q' w' s) = later (omega arith) (rises s)
rises (spells.comma_none q w s) = later (omega arith) (rises s)
rises (spells.comma_some q w q' w' s) = later (omega arith) (rises s)
rises (spells.qualified k x) = later (qualifiers_forth k) (rises x)
rises (spells.qualified_none k) = no_more (qualifiers_forth k)
rises (spells.qualified_some k x) = later (qualifiers_forth k) (rises x)
rises (spells.ordinary q w s) = later (omega arith) (rises s)
rises (spells.type_identifier q f w s) = later (omega arith) (rises s)
rises (spells.declared q f w s) = later (omega arith) (rises s)
rises (spells.enumerates q w s) = later (omega arith) (rises s)
rises (spells.value_none s) = rises s
rises (spells.value_some q w x s) = joined (later (omega arith) (rises x)) (rises s)
rises (spells.enters s) = rises s
rises (spells.begins s) = rises s
rises (spells.ends s) = rises s
rises (spells.prototype_none s) = rises s
rises (spells.prototype_some x s) = joined (rises x) (rises s)
rises (spells.size_none s) = rises s
rises (spells.size_some x s) = joined (rises x) (rises s)
rises (spells.texts_one q w) = no_more (omega arith)
rises (spells.texts_more q w s) = let le = forth (rises s) in no_more (omega arith)
rises (spells.init_declaration x s) = joined (rises x) (rises s)
rises (spells.init_clause s) = rises s
rises (spells.clause_none q w s) = later (omega arith) (rises s)
rises (spells.clause_some x q w s) = joined (rises x) (later (omega arith) (rises s))
rises (spells.step_none q w v s) = later (omega arith) (rises s)
rises (spells.step_some x q w v s) = joined (rises x) (later (omega arith) (rises s))
rises (spells.else_none s) = rises s
rises (spells.else_some q w x s) = joined (later (omega arith) (rises x)) (rises s)
