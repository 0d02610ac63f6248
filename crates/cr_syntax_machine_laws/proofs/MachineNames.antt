-- A name alone, which is a label where a colon stands behind it: an identifier that was read as an expression, or a typedef
-- name that was read as a row of specifiers.
use Rattle.std.proofs.Common.{◌≡◌, ℕ, ◌+◌, Bool, true, false, ◌||◌, ◌⊎◌, inl, inr, ⊎_elim, List, [], ◌∷◌, refl, subst}
use Rattle.std.proofs.lemmas.Bool.{both_ways}
use Rattle.cr_syntax.specs.declared.word.Word.TheVariants as word
use Rattle.cr_syntax.specs.declared.node.Kind.{Kind}
use Rattle.cr_syntax.specs.declared.node.Kind.TheVariants as kind
use Rattle.cr_syntax.specs.declared.part.Part.{Part}
use Rattle.cr_syntax.specs.declared.part.Part.TheVariants as part
use Rattle.cr_syntax.specs.Symbols as symbol
use Rattle.cr_syntax.specs.declared.part.Context.{Context}
use Rattle.cr_syntax.specs.Words.{Lexeme}
use Rattle.cr_syntax.specs.Scopes.{Scopes}
use Rattle.cr_syntax.specs.Trees.{Trees, none, one, ◌&◌}
use Rattle.cr_syntax.specs.Context.{fresh, past_token, at_start}
use Rattle.cr_syntax.specs.Grammar.{Side, Alternative, opening, inner}
use Rattle.cr_syntax.specs.Grammar as grammar
use Rattle.cr_syntax.specs.Spells.{Limit, Is, Stands, Within, Spells, a, rest}
use Rattle.cr_syntax.specs.Spells as spells
use Rattle.cr_syntax_machine.specs.MachineBody.{is_identifier, is_type_name}
use Rattle.cr_syntax_machine.proofs.MachineSpells.{Names, by_declarator, by_direct}
use Rattle.cr_syntax_machine_laws.proofs.MachineFirst.{none_true}

-- token i is an identifier, and all that stands from there to before token j
pub record OneName (ts : List Lexeme) (limit : Limit) (c e : Scopes) (d i j : ℕ) : Type 0 where
  pub is : Is ts i word.Identifier
  pub stands : Stands limit i d
  pub end : j ≡ i + 1
  pub same : e ≡ c

-- whether a tree is one identifier or one typedef name
abbrev pub is_name : Trees → Bool
is_name t = is_identifier t || is_type_name t

name_alternative : {p : Part} {k : Kind} {s : Side} (i j : ℕ) (t : Trees) → Alternative p k s → is_name (one k i j t) ≡ true → (s ≡ symbol.Ordinary ∷ []) ⊎ (s ≡ symbol.TypeIdentifier ∷ [])
name_alternative i j t grammar.identifier y = inl refl
name_alternative i j t grammar.typedef_name y = inr refl
name_alternative i j t _ y = none_true y

no_name : {ts : List Lexeme} {limit : Limit} {p : Part} {h : Context} {c e : Scopes} {d i j : ℕ} {t : Trees} → Names p → Spells ts limit (a p) h c e d t i j → is_name t ≡ false
no_name by_declarator (spells.of_chain grammar.declarator_direct f s) = no_name by_direct s
no_name by_declarator (spells.of_alternative grammar.pointer_declarator f s) = refl
no_name by_direct (spells.of_chain x f s) = elim x [ ]
no_name by_direct (spells.of_alternative grammar.name_declarator f s) = refl
no_name by_direct (spells.of_alternative grammar.group_declarator f s) = refl
no_name by_direct (spells.of_alternative grammar.array_declarator f s) = refl
no_name by_direct (spells.of_alternative grammar.function_declarator f s) = refl

module _ {ts : List Lexeme} {limit : Limit} where
  at_ordinary : {h : Context} {c e : Scopes} {d i j : ℕ} {t : Trees} → Spells ts limit (rest (symbol.Ordinary ∷ [])) h c e d t i j → OneName ts limit c e d i j
  at_ordinary (spells.ordinary q w spells.done) = record { is = q.0; stands = w; end = refl; same = refl }

  at_type : {h : Context} {c e : Scopes} {d i j : ℕ} {t : Trees} → Spells ts limit (rest (symbol.TypeIdentifier ∷ [])) h c e d t i j → OneName ts limit c e d i j
  at_type (spells.type_identifier q g w spells.done) = record { is = q.0; stands = w; end = refl; same = refl }

  -- a part whose tree is one name is that name
  pub one_name : {p : Part} {h : Context} {c e : Scopes} {d i j : ℕ} {t : Trees} → Spells ts limit (a p) h c e d t i j → is_name t ≡ true → OneName ts limit c e d i j
  one_name {p = p} {h = h} {c = c} {e = e} {d = d} {i = i} {j = j} (spells.of_alternative {t = t} m f s) y = ⊎_elim
      (λ q. at_ordinary (subst (λ x. Spells ts limit (rest x) (at_start p h) c e d t i j) q s))
      (λ q. at_type (subst (λ x. Spells ts limit (rest x) (at_start p h) c e d t i j) q s)) (name_alternative i j t m y)
  one_name (spells.of_chain m f s) y = one_name s y
  one_name {t = t} (spells.init_declarator_alone s) y = absurd (both_ways (is_name t) (no_name by_declarator s) y)
  one_name {t = t} (spells.parameter_declarator s) y = absurd (both_ways (is_name t) (no_name by_declarator s) y)
  one_name {t = t} (spells.member_declarator s) y = absurd (both_ways (is_name t) (no_name by_declarator s) y)

  -- a name with a colon and a statement behind it
  pub label_spelled : {c e f : Scopes} {d i j k : ℕ} {u : Trees} → OneName ts limit c e d i j → Is ts j word.Colon → Within limit j d → ((h : Context) → Spells ts limit (a part.Statement) h e f (d + 1) u (j + 1) k) →
      (h : Context) → Spells ts limit (a part.Statement) h c f d (one kind.Label i k (u & none)) i k
  label_spelled {e = e} {f = f} {d = d} {i = i} {k = k} {u = u} n q w y h =
      spells.of_alternative grammar.labeled_statement refl (spells.token n.is n.stands
      (subst (λ z. Spells ts limit (rest (opening word.Colon ∷ inner part.Statement ∷ [])) (past_token fresh) z f d (u & none) (i + 1) k) n.same
      (subst (λ z. Spells ts limit (rest (opening word.Colon ∷ inner part.Statement ∷ [])) (past_token fresh) e f d (u & none) z k) n.end
      (spells.opens q w (spells.part (y _) spells.done)))))
