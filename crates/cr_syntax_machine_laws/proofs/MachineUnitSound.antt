-- What the machine reads as a declaration, a statement or a unit is spelled: the programs of these goals give what their meanings say.
use Rattle.std.proofs.Common.{◌≡◌, ℕ, ◌+◌, ◌<◌, true, false, not, List, [], ◌∷◌, length, refl, sym, ap, subst, ◌∙◌, arith}
use Rattle.cr_syntax.specs.declared.word.Word.TheVariants as word
use Rattle.cr_syntax.specs.declared.node.Kind.TheVariants as kind
use Rattle.cr_syntax.specs.declared.part.Part.{Part}
use Rattle.cr_syntax.specs.declared.part.Part.TheVariants as part
use Rattle.cr_syntax.specs.Symbols as symbol
use Rattle.cr_syntax.specs.declared.part.Context.{Context}
use Rattle.cr_syntax.specs.Words.{Lexeme}
use Rattle.cr_syntax.specs.Scopes.{Scopes, enter}
use Rattle.cr_syntax.specs.Trees.{Trees, none, one, ◌&◌}
use Rattle.cr_syntax.specs.Context.{fresh, past_token, past_part, declared_name, ends_open, else_is_nearest}
use Rattle.cr_syntax.specs.Grammar.{Side, token, part}
use Rattle.cr_syntax.specs.Grammar as grammar
use Rattle.cr_syntax.specs.Spells.{Limit, Is, Stands, Spells, a, rest}
use Rattle.cr_syntax.specs.Spells as spells
use Rattle.cr_syntax.specs.Units.{unit_side}
use Rattle.cr_syntax_machine.specs.Machine.{Goal, Prog, Labels, named, around, innermost_of, stop, unit, externals, external, declaration, init_declarators, initialized, initializer, initializers, statement, block, if_rest, switch_rest, while_rest, do_rest, for_rest, return_rest, for_clauses, clause, compound, items, item}
use Rattle.cr_syntax_machine.specs.MachineBody.{body, declared_on, defined, unlabelled, marked, declaration_rest, expression_rest, is_identifier, is_type_name}
use Rattle.cr_syntax_machine.proofs.MachineSpells.{and_none, and_and, pushed, is_one, name_brought}
use Rattle.cr_syntax_machine_laws.proofs.MachineNames.{OneName, one_name, label_spelled}
use Rattle.cr_syntax_machine_laws.proofs.MachineGives.{Gives}
use Rattle.std.proofs.lemmas.Bool.{or_left, or_right}
use Rattle.cr_syntax_machine_laws.proofs.MachineKept.{Kept}
use Rattle.cr_syntax_machine_laws.proofs.MachineMeans.{Means, Reads, IsDeclared, with_name, without, IsClause, no_clause, one_clause, IsOpen, open_of}

-- an `if` with one branch, and with two of which the first ends in no `if` without `else`
pub nearest_one : {ts : List Lexeme} {limit : Limit} {p p' : Part} {h h' : Context} {c c' e e' : Scopes} {d d' i i' j j' : ℕ} {t u : Trees} →
    Spells ts limit (a p) h c e d t i j → Spells ts limit (a p') h' c' e' d' u i' j' → else_is_nearest (t & u & none) ≡ true
nearest_one {i = i} {i' = i'} {j = j} {j' = j'} {u = u} x y =
    let w = is_one x in
    let v = is_one y in
    subst (λ z. else_is_nearest (z & u & none) ≡ true) (sym w.2) (subst (λ z. else_is_nearest (one w.0 i j w.1 & z & none) ≡ true) (sym v.2) refl)

pub nearest_two : {ts : List Lexeme} {limit : Limit} {p p' p'' : Part} {h h' h'' : Context} {c c' c'' e e' e'' : Scopes} {d d' d'' i i' i'' j j' j'' : ℕ} {t u v : Trees} →
    Spells ts limit (a p) h c e d t i j → Spells ts limit (a p') h' c' e' d' u i' j' → Spells ts limit (a p'') h'' c'' e'' d'' v i'' j'' → ends_open u ≡ false → else_is_nearest (t & u & v & none) ≡ true
nearest_two {i = i} {i' = i'} {j = j} {j' = j'} {u = u} {v = v} x y z q =
    let w = is_one x in
    let w' = is_one y in
    let w'' = is_one z in
    let n : ends_open (one w'.0 i' j' w'.1) ≡ false = subst (λ r. ends_open r ≡ false) w'.2 q in
    subst (λ r. else_is_nearest (r & u & v & none) ≡ true) (sym w.2)
    (subst (λ r. else_is_nearest (one w.0 i j w.1 & r & v & none) ≡ true) (sym w'.2)
    (subst (λ r. else_is_nearest (one w.0 i j w.1 & one w'.0 i' j' w'.1 & r & none) ≡ true) (sym w''.2) (ap not n)))

module _ (us : List Lexeme) (top : Limit) where
  abbrev Owned : Prog → (Trees → Scopes → ℕ → Type 0) → Scopes → ℕ → Type 0
  Owned = Gives us top Kept (Means us top)

  abbrev Given : Goal → Scopes → ℕ → Type 0
  Given g c i = Owned (body g) (Means us top g c i) c i

  -- Scopes.

  -- a scope ends
  pub ended : {s : Side} {h : Context} {c e : Scopes} {d i j : ℕ} {t : Trees} → IsOpen c → Spells us top (rest s) h (around c) e d t i j → Spells us top (rest (symbol.Ends ∷ s)) h c e d t i j
  ended {s = s} {h = h} {e = e} {d = d} {i = i} {j = j} {t = t} o x = subst (λ v. Spells us top (rest (symbol.Ends ∷ s)) h v e d t i j) (sym o) (spells.ends x)

  -- a declarator's name enters
  pub entered : {s : Side} {h : Context} {c e : Scopes} {d i j : ℕ} {t : Trees} → IsOpen c → Spells us top (rest s) h (innermost_of c ∷ enter (declared_name us h) (around c)) e d t i j →
      Spells us top (rest (symbol.Enters ∷ s)) h c e d t i j
  entered {s = s} {h = h} {e = e} {d = d} {i = i} {j = j} {t = t} o x = subst (λ v. Spells us top (rest (symbol.Enters ∷ s)) h v e d t i j) (sym o) (spells.enters x)

  -- Declarations.

  -- behind a declarator: what follows it in its declaration
  declared_means : (h : Context) (d s : ℕ) (x : Trees) (q : ℕ) (y : Trees) (c e : Scopes) (i : ℕ) (f : Trees → Scopes → ℕ → Type 0) → IsDeclared us top named h d c q y e i →
      ((t : Trees) (e' : Scopes) (j : ℕ) → Means us top (init_declarators h d s x) c q t e' j → f t e' j) → Owned (declared_on h d s x q y) f e i
  declared_means h d s x q y c e i f (without z z' r) k = cc
  declared_means h d s x q y c e i f (with_name z z' o r) k = λ t e' j _ _ m.
      let m' = m h c e o (ap (λ v. enter v (around e)) (name_brought r h)) r in (
        λ q' w t' e'' j' _ _ n. k t' e'' j' (t & n.0, n.1 ∙ ap (λ v. one kind.Declaration s j' v) (pushed x t n.0), spells.list_more m' q' w n.2),
        (λ q' w. k _ _ _ (t, ap (λ v. one kind.Declaration s (j + 1) (x & v)) (and_none t), spells.list_last m' (spells.token q' w spells.done)), tt),
      )

  -- a declaration, from its specifiers and its declarators
  declaration_of : {c e f : Scopes} {d i j k : ℕ} {t u : Trees} → Spells us top (a part.Specifiers) fresh c e d t i j → Means us top (init_declarators (past_part fresh t) d i (t & none)) e j u f k →
      Reads us top part.Declaration d c i u f k
  declaration_of {c = c} {f = f} {d = d} {i = i} {k = k} {t = t} x m h =
      subst (λ v. Spells us top (a part.Declaration) h c f d v i k) (sym (m.1 ∙ ap (λ z. one kind.Declaration i k z) (and_and t none m.0)))
      (spells.of_alternative grammar.declaration refl (spells.part x (spells.list_some m.2)))

  pub bare_declaration : {c e : Scopes} {d i j : ℕ} {t : Trees} → Spells us top (a part.Specifiers) fresh c e d t i j → Is us j word.Semicolon → Stands top j d →
      Reads us top part.Declaration d c i (one kind.Declaration i (j + 1) (t & none)) e (j + 1)
  bare_declaration x q w h = spells.of_alternative grammar.declaration refl (spells.part x (spells.list_none (spells.token q w spells.done)))

  pub gives_unit : (l : Labels) (d : ℕ) (c : Scopes) (i : ℕ) → Given (unit l d) c i
  gives_unit l d c i = λ t e j _ _ x t' e' j' _ _ m h.
      subst (λ v. Spells us top (rest unit_side) h c e' d v i j') (sym (m.1 ∙ and_and t none m.0)) (spells.part (x _) (m.2 _))

  pub gives_externals : (l : Labels) (d : ℕ) (y : Trees) (c : Scopes) (i : ℕ) → Given (externals l d y) c i
  gives_externals l d y c i = (
    λ t e j _ _ x t' e' j' _ _ m. (t & m.0, m.1 ∙ pushed y t m.0, λ h. spells.many_more (x _) (m.2 _)),
    (none, sym (and_none y), λ h. spells.many_none spells.done),
  )

  pub gives_external : (l : Labels) (d : ℕ) (c : Scopes) (i : ℕ) → Given (external l d) c i
  gives_external l d c i = λ t e j _ _ x. (
    λ q w h. spells.of_chain grammar.external_declaration refl (bare_declaration x q w _),
    λ y e' j' _ _ m. (
      definition x m,
      declared_means (past_part fresh t) d i (t & none) j y e e' j' (Means us top (external l d) c i) m (λ u f k n h. spells.of_chain grammar.external_declaration refl (declaration_of x n _)),
    ),
  )
    where
      definition : {e e' : Scopes} {j j' : ℕ} {t y : Trees} → Spells us top (a part.Specifiers) fresh c e d t i j → IsDeclared us top named (past_part fresh t) d e j y e' j' →
          Owned (defined l d i t y) (Means us top (external l d) c i) e' j'
      definition x (without z z' r) = cc
      definition {e' = e'} {j' = j'} {t = t} {y = y} x (with_name z z' o r) = (
        λ _ b f k _ n m h. spells.of_alternative grammar.function_definition refl (spells.part x (spells.part r (entered o (spells.part
            (subst (λ v. Spells us top (a part.Compound) (past_part (past_part fresh t) y) (innermost_of e' ∷ enter v (around e')) f d b j' k) (name_brought r (past_part fresh t)) (m _))
            (ended (open_of f (omega arith)) spells.done))))),
        λ _. tt,
      )

  pub gives_declaration : (d : ℕ) (c : Scopes) (i : ℕ) → Given (declaration d) c i
  gives_declaration d c i = λ t e j _ _ x. (λ q w h. bare_declaration x q w h, λ u f k _ _ m h. declaration_of x m h)

  pub gives_init_declarators : (h : Context) (d s : ℕ) (x : Trees) (c : Scopes) (i : ℕ) → Given (init_declarators h d s x) c i
  gives_init_declarators h d s x c i = λ y e j _ _ m. declared_means h d s x i y c e j (Means us top (init_declarators h d s x) c i) m (λ t e' j' n. n)

  pub gives_initialized : (d q : ℕ) (y : Trees) (c : Scopes) (i : ℕ) → Given (initialized d q y) c i
  gives_initialized d q y c i = (
    λ q' w t e j _ _ x h c0 e0 o z r. spells.of_alternative grammar.init_declarator refl (spells.part r (entered o (spells.ends
        (subst (λ v. Spells us top (rest (token word.Equal ∷ part part.Initializer ∷ [])) (past_part h y) v e d (t & none) i j) z (spells.token q' w (spells.part (x _) spells.done)))))),
    λ h c0 e0 o z r. subst (λ v. Spells us top (a part.InitDeclarator) h c0 v d y q i) (sym z)
        (spells.init_declarator_alone (subst (λ v. Spells us top (a part.Declarator) h c0 v d y q i) o r)),
  )

  pub gives_initializer : (d : ℕ) (c : Scopes) (i : ℕ) → Given (initializer d) c i
  gives_initializer d c i = (
    λ q w t e j _ _ m h. subst (λ v. Spells us top (a part.Initializer) h c e d v i j) (sym m.1) (spells.of_alternative grammar.initializer_list refl (spells.opens q w (m.2 _))),
    λ t e j _ _ x h. spells.of_chain grammar.initializer_expression refl (x _),
  )

  pub gives_initializers : (d s : ℕ) (y : Trees) (c : Scopes) (i : ℕ) → Given (initializers d s y) c i
  gives_initializers d s y c i = λ t e j _ _ x. (
    λ q w. (
      λ q' w'. (t, ap (λ z. one kind.InitializerList s (j + 1 + 1) (y & z)) (and_none t), λ h. spells.list_last (x _) (spells.comma_some q w q' w' spells.done)),
      λ t' e' j' _ _ m. (t & m.0, m.1 ∙ ap (λ z. one kind.InitializerList s j' z) (pushed y t m.0), λ h. spells.list_more (x _) q w (m.2 _)),
    ),
    (λ q w. (t, ap (λ z. one kind.InitializerList s (j + 1) (y & z)) (and_none t), λ h. spells.list_last (x _) (spells.comma_none q w spells.done)), tt),
  )

  -- Statements.

  -- behind a name from token i on, which is a label where a colon follows it
  marked_means : (l : Labels) (d i : ℕ) (p : Prog) (f : Trees → Scopes → ℕ → Type 0) (c e : Scopes) (j : ℕ) → OneName us top c e d i j → ((u : Trees) (e' : Scopes) (k : ℕ) → Reads us top part.Statement d c i u e' k → f u e' k) →
      Owned p f e j → Owned (marked l d i p) f e j
  marked_means l d i p f c e j n g x = ((λ _. (λ q w u e' k _ _ y. g _ e' k (λ h. label_spelled n q w y h), tt), λ _. tt), x)

  -- behind the specifiers of a declaration
  rest_means : (d i : ℕ) (t : Trees) (f : Trees → Scopes → ℕ → Type 0) {c e : Scopes} {j : ℕ} → Spells us top (a part.Specifiers) fresh c e d t i j →
      ((u : Trees) (e' : Scopes) (k : ℕ) → Reads us top part.Declaration d c i u e' k → f u e' k) → Owned (declaration_rest d i t) f e j
  rest_means d i t f {j = j} x g = (λ q w. g _ _ (j + 1) (λ h. bare_declaration x q w h), λ u e' k _ _ m. g u e' k (λ h. declaration_of x m h))

  pub gives_statement : (l : Labels) (d : ℕ) (c : Scopes) (i : ℕ) → Given (statement l d) c i
  gives_statement l d c i = (
    λ _. (
      λ q w t e j _ _ x. (λ q' w' b f k _ _ y h. spells.of_alternative grammar.case_statement refl (spells.token q w (spells.part (x _) (spells.opens q' w' (spells.part (y _) spells.done)))), tt),
      (λ q w. (λ q' w' b f k _ _ y h. spells.of_alternative grammar.default_statement refl (spells.token q w (spells.opens q' w' (spells.part (y _) spells.done))), tt), others),
    ),
    λ _. others,
  )
    where
      whole : {e : Scopes} {j : ℕ} {t : Trees} → Reads us top part.Expression d c i t e j → Is us j word.Semicolon → Stands top j d → Reads us top part.Statement d c i (one kind.ExpressionStatement i (j + 1) (t & none)) e (j + 1)
      whole x q w h = spells.of_alternative grammar.expression_statement refl (spells.optional_some (x _) (spells.token q w spells.done))

      others : Owned (unlabelled l d i) (Means us top (statement l d) c i) c i
      others = (
        λ t e j _ _ x h. spells.of_chain grammar.statement_compound refl (x _),
        (
          λ q w t e j _ _ x. x (λ c0 r h f u k z. spells.token q w z),
          (
            λ q w t e j _ _ x. x (λ c0 r h f u k z. spells.token q w z),
            (
              λ q w t e j _ _ x. x (λ c0 r h f u k z. spells.token q w z),
              (
                λ q w t e j _ _ x. x (λ c0 r h f u k z. spells.opens q w z),
                (
                  λ q w t e j _ _ x. x (λ c0 r h f u k z. spells.token q w z),
                  (
                    λ q w. (λ q' w'. (λ q'' w'' h. spells.of_alternative grammar.goto_statement refl (spells.token q w (spells.token q' w' (spells.token q'' w'' spells.done))), tt), tt),
                    (
                      λ q w. (λ q' w' h. spells.of_alternative grammar.break_statement refl (spells.token q w (spells.token q' w' spells.done)), tt),
                      (
                        λ q w. (λ q' w' h. spells.of_alternative grammar.continue_statement refl (spells.token q w (spells.token q' w' spells.done)), tt),
                        (
                          λ q w t e j _ _ x. x (λ r h f u k z. spells.token q w z),
                          (
                            λ q w h. spells.of_alternative grammar.expression_statement refl (spells.optional_none (spells.token q w spells.done)),
                            (
                              λ q w. marked_means l d i (stop d) (Means us top (statement l d) c i) c c (i + 1) (record { is = q.0.0; stands = w; end = refl; same = refl }) (λ u f k s. s) tt,
                              λ t e j _ _ x. (
                                λ y. marked_means l d i (expression_rest d i t) (Means us top (statement l d) c i) c e j (one_name (x fresh) (or_left (is_identifier t) (is_type_name t) y)) (λ u f k s. s) (whole x, tt),
                                λ y. (whole x, tt),
                              ),
                            ),
                          ),
                        ),
                      ),
                    ),
                  ),
                ),
              ),
            ),
          ),
        ),
      )

  pub gives_block : (l : Labels) (d : ℕ) (c : Scopes) (i : ℕ) → Given (block l d) c i
  gives_block l d c i = λ t e j _ k x. (innermost_of e, λ h. subst (λ v. Spells us top (a part.Statement) h ([] ∷ c) v d t i j) (open_of e (omega arith)) (x h))

  pub gives_if_rest : (l : Labels) (d s : ℕ) (c : Scopes) (i : ℕ) → Given (if_rest l d s) c i
  gives_if_rest l d s c i = (
    λ q w t e j _ k x. (
      λ q' w' b f n _ k' y.
          let alone : Means us top (if_rest l d s) c i (one kind.If s n (t & b & none)) (around f) n = λ begun h. spells.of_alternative grammar.if_statement (nearest_one (x fresh) (y.1 fresh)) (spells.begins (begun _ _ _ _ _ _
          (spells.opens q w (spells.part (x _) (spells.reopens q' w'.0 w'.1 (spells.begins (spells.part (y.1 _) (spells.ends (spells.else_none (ended (open_of f (omega arith)) spells.done)))))))))) in (
            λ _. alone,
            λ z. (
              λ q'' w'' b' f' n' _ k'' y' begun h. spells.of_alternative grammar.if_statement (nearest_two (x fresh) (y.1 fresh) (y'.1 fresh) z) (spells.begins (begun _ _ _ _ _ _
                  (spells.opens q w (spells.part (x _) (spells.reopens q' w'.0 w'.1 (spells.begins (spells.part (y.1 _) (spells.ends
                  (spells.else_some q'' w'' (y'.1 _) (ended (open_of f' (omega arith)) spells.done)))))))))),
              alone,
            ),
          ),
      tt,
    ),
    tt,
  )

  pub gives_switch_rest : (l : Labels) (d s : ℕ) (c : Scopes) (i : ℕ) → Given (switch_rest l d s) c i
  gives_switch_rest l d s c i = (
    λ q w t e j _ k x. (
      λ q' w' b f n _ k' y begun h. spells.of_alternative grammar.switch_statement refl (spells.begins (begun _ _ _ _ _ _
          (spells.opens q w (spells.part (x _) (spells.reopens q' w'.0 w'.1 (spells.begins (spells.part (y _)
          (ended (open_of f (omega arith)) (ended (open_of (around f) (two_open f (omega arith))) spells.done))))))))),
      tt,
    ),
    tt,
  )
    where
      two_open : (f : Scopes) → 1 < length f → 0 < length (around f)
      two_open [] lt = absurd (omega arith)
      two_open (names ∷ f) lt = omega arith

  pub gives_while_rest : (l : Labels) (d s : ℕ) (c : Scopes) (i : ℕ) → Given (while_rest l d s) c i
  gives_while_rest l d s c i = (
    λ q w t e j _ k x. (
      λ q' w' b f n _ k' y begun h. spells.of_alternative grammar.while_statement refl (spells.begins (begun _ _ _ _ _ _
          (spells.opens q w (spells.part (x _) (spells.reopens q' w'.0 w'.1 (spells.begins (spells.part (y.1 _) (spells.ends (ended (open_of f (omega arith)) spells.done))))))))),
      tt,
    ),
    tt,
  )

  pub gives_do_rest : (l : Labels) (d s : ℕ) (c : Scopes) (i : ℕ) → Given (do_rest l d s) c i
  gives_do_rest l d s c i = λ b f n _ k y. (
    λ q w. (
      λ q' w' t e j _ k' x. (
        λ q1 w1. (
          λ q2 w2 begun h. spells.of_alternative grammar.do_statement refl (spells.begins (begun _ _ _ _ _ _
              (spells.begins (spells.part (y.1 _) (spells.ends (spells.token q w (spells.opens q' w' (spells.part (x _) (spells.token q1 w1 (spells.token q2 w2 (ended (open_of e (omega arith)) spells.done))))))))))),
          tt,
        ),
        tt,
      ),
      tt,
    ),
    tt,
  )

  -- a clause, and what follows
  pub clause_of : {s : Side} {h : Context} {c e f : Scopes} {d i j k : ℕ} {t u : Trees} → IsClause us top (d + 1) c i t e j → Spells us top (rest s) (past_token h) e f d u j k →
      Spells us top (rest (symbol.Clause ∷ s)) h c f d (t & u) i k
  clause_of (no_clause q w) z = spells.clause_none q w z
  clause_of {s = s} {h = h} {c = c} {f = f} {d = d} {i = i} {k = k} {u = u} (one_clause {t = t} x q w) z =
      subst (λ v. Spells us top (rest (symbol.Clause ∷ s)) h c f d v i k) (sym (and_and t none u)) (spells.clause_some (x _) q w z)

  pub gives_for_rest : (l : Labels) (d s : ℕ) (c : Scopes) (i : ℕ) → Given (for_rest l d s) c i
  gives_for_rest l d s c i = (
    λ q w. (
      λ t e j _ k x t' e' j' _ _ m begun h.
          let n = m (omega arith) in
          subst (λ v. Spells us top (a part.Statement) h c e' d v s j') (sym (n.1 ∙ ap (λ z. one kind.For s j' z) (and_and t none n.0)))
          (spells.of_alternative grammar.for_statement refl (spells.begins (begun _ _ _ _ _ _ (spells.opens q w (spells.init_declaration (x _) (n.2 _)))))),
      λ t e j _ k x t' e' j' _ _ m begun h.
          let n = m (omega arith) in
          subst (λ v. Spells us top (a part.Statement) h c e' d v s j') (sym n.1)
          (spells.of_alternative grammar.for_statement refl (spells.begins (begun _ _ _ _ _ _ (spells.opens q w (spells.init_clause (clause_of x (n.2 _))))))),
    ),
    tt,
  )

  pub gives_for_clauses : (l : Labels) (d s : ℕ) (y : Trees) (c : Scopes) (i : ℕ) → Given (for_clauses l d s y) c i
  gives_for_clauses l d s y c i = λ t e j _ k x. (
    λ q w b f n _ k' z o. (
      t & b & none,
      ap (λ v. one kind.For s n v) (and_and y t (b & none)),
      λ h. clause_of x (spells.step_none q w.0 w.1 (spells.begins (spells.part (z.1 _) (spells.ends (ended (open_of f (omega arith)) spells.done))))),
    ),
    λ u e' j' _ k' x'. (
      λ q w b f n _ k'' z o. (
        t & u & b & none,
        ap (λ v. one kind.For s n v) (and_and y (t & u & none) (b & none) ∙ ap (λ v. y & v) (pushed t u (b & none))),
        λ h. clause_of x (spells.step_some (x' _) q w.0 w.1 (spells.begins (spells.part (z.1 _) (spells.ends (ended (open_of f (omega arith)) spells.done))))),
      ),
      tt,
    ),
  )

  pub gives_clause : (d : ℕ) (c : Scopes) (i : ℕ) → Given (clause d) c i
  gives_clause d c i = (λ q w. no_clause q w, λ t e j _ _ x. (λ q w. one_clause x q w, tt))

  pub gives_return_rest : (d s : ℕ) (c : Scopes) (i : ℕ) → Given (return_rest d s) c i
  gives_return_rest d s c i = (
    λ q w behind h. spells.of_alternative grammar.return_statement refl (behind _ _ _ _ _ (spells.optional_none (spells.token q w spells.done))),
    λ t e j _ _ x. (λ q w behind h. spells.of_alternative grammar.return_statement refl (behind _ _ _ _ _ (spells.optional_some (x _) (spells.token q w spells.done))), tt),
  )

  pub gives_compound : (l : Labels) (d : ℕ) (c : Scopes) (i : ℕ) → Given (compound l d) c i
  gives_compound l d c i = (
    λ q w t e j _ k m h. subst (λ v. Spells us top (a part.Compound) h c (around e) d v i j) (sym m.1)
        (spells.of_alternative grammar.compound_statement refl (spells.begins (spells.opens q w (m.2 (open_of e (omega arith)) _)))),
    tt,
  )

  pub gives_items : (l : Labels) (d s : ℕ) (y : Trees) (c : Scopes) (i : ℕ) → Given (items l d s y) c i
  gives_items l d s y c i = (
    λ q w. (none, ap (λ z. one kind.Compound s (i + 1) z) (sym (and_none y)), λ o h. spells.many_none (spells.token q w (ended o spells.done))),
    λ t e j _ _ x t' e' j' _ _ m. (t & m.0, m.1 ∙ ap (λ z. one kind.Compound s j' z) (pushed y t m.0), λ o h. spells.many_more (x _) (m.2 o _)),
  )

  pub gives_item : (l : Labels) (d : ℕ) (c : Scopes) (i : ℕ) → Given (item l d) c i
  gives_item l d c i = (
    λ t e j _ _ x. (
      λ y. marked_means l d i (declaration_rest d i t) (Means us top (item l d) c i) c e j (one_name x (or_right (is_identifier t) (is_type_name t) y)) (λ u e' k s h. spells.of_chain grammar.item_statement refl (s _)) (declared x),
      λ y. declared x,
    ),
    λ t e j _ _ x h. spells.of_chain grammar.item_statement refl (x _),
  )
    where
      declared : {e : Scopes} {j : ℕ} {t : Trees} → Spells us top (a part.Specifiers) fresh c e d t i j → Owned (declaration_rest d i t) (Means us top (item l d) c i) e j
      declared {t = t} x = rest_means d i t (Means us top (item l d) c i) x (λ u e' k s h. spells.of_chain grammar.item_declaration refl (s _))
