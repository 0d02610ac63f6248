-- The clauses of a `for` are told by where its parts begin.
use Rattle.std.proofs.Common.{◌≡◌, ◌≢◌, ℕ, ◌+◌, ◌<◌, ◌==◌, ◌⊎◌, inl, inr, Bool, true, false, true≢false, List, [], ◌∷◌, ◌++◌, Option, None, Some, length, drop, slice_get, option_to_list, if◌then◌else◌, refl, sym, ap, subst, ◌∙◌, arith}
use Rattle.std.proofs.lemmas.Bool.{eq-eqb, eqb-true}
use Rattle.cr_syntax.specs.declared.word.Word.{Word}
use Rattle.cr_syntax.specs.declared.word.Word.TheVariants as word
use Rattle.cr_syntax.specs.declared.node.Kind.{Kind}
use Rattle.cr_syntax.specs.declared.node.Kind.TheVariants as kind
use Rattle.cr_syntax.specs.declared.node.Node.{Node}
use Rattle.cr_syntax.specs.declared.part.Part.TheVariants as part
use Rattle.cr_syntax.specs.Words.{Lexeme}
use Rattle.cr_syntax.specs.Trees.{Trees, none, node}
use Rattle.cr_syntax.specs.Kept.{PartsAreBelow, AreBelow, row_in}
use Rattle.cr_syntax.specs.Symbols as symbol
use Rattle.cr_syntax.specs.Grammar.{Side, inner}
use Rattle.cr_syntax.specs.Tables.{rule_of, side_of}
use Rattle.cr_syntax.specs.Spells.{Is}
use Rattle.cr_syntax.proofs.Arena.{below_first, below_rest, row_at}
use Rattle.cr_syntax_nodes.specs.declared.clauses.Clause.{Clause}
use Rattle.cr_syntax_nodes.specs.Laid.{stands_for, IsPart, IsClause, IsFirstClause, IsLaid}
use Rattle.cr_syntax_nodes.specs.Loops.{absent, behind_clause, clause_by, clause_if, clause_of, left_by, left_of, clauses_of, IsPartAt, IsClauseAt, IsFirstClauseAt, IsLoop}
use Rattle.cr_syntax_nodes.proofs.Numbers.{some_at}

expression_ends : (k : Kind) (last : ℕ) → stands_for part.Expression k ≡ true → behind_clause k last ≡ last + 1 + 1
unfolding rule_of
expression_ends kind.Declaration last u = absurd cc
expression_ends _ last u = refl

declaration_ends : (k : Kind) (last : ℕ) → stands_for part.Declaration k ≡ true → behind_clause k last ≡ last + 1
unfolding rule_of
declaration_ends kind.Declaration last u = refl
declaration_ends _ last u = absurd cc

-- A clause that is read, what is left of the parts, and what is said of them.
record IsTaken (At : Option ℕ → ℕ → Type 0) (nodes : List Node) (more : Trees → ℕ → Type 0) (ps : List ℕ) (c : Clause) : Type 0 where
  there : At c.node c.next
  left : more (row_in nodes (left_of c ps)) c.next
  below : AreBelow (left_of c ps) (length nodes)
  row : ps ≡ option_to_list c.node ++ left_of c ps

-- by the node of the next part, which begins at token i or not
by_begin : (Q : Clause → Type 0) (p : ℕ) (n : Node) (i : ℕ) → (n.first ≡ i → Q (record { node = Some p; next = behind_clause n.kind n.last })) → (n.first ≢ i → Q (absent i)) → Q (clause_by p n i)
by_begin Q p n i f g = by (n.first == i) refl
  where
    by : (b : Bool) → (n.first == i) ≡ b → Q (if b then (record { node = Some p; next = behind_clause n.kind n.last }) else absent i)
    by true q = f (eqb-true n.first i q)
    by false q = g (λ e. absurd (true≢false (sym (eq-eqb n.first i e) ∙ q)))

module _ (ts : List Lexeme) (nodes : List Node) (f : PartsAreBelow nodes) where
  clause_taken : (w : Word) (more : Trees → ℕ → Type 0) (ps : List ℕ) (i : ℕ) → AreBelow ps (length nodes) → IsClause ts w more (row_in nodes ps) i → IsTaken (λ o j. IsClauseAt ts nodes w o i j) nodes more ps (clause_of nodes ps i)
  clause_taken w more [] i b z = record { there = (z.0, refl); left = z.1; below = b; row = refl }
  clause_taken w more (p ∷ ps) i b z = subst (λ o. IsTaken (λ o' j. IsClauseAt ts nodes w o' i j) nodes more (p ∷ ps) (clause_if o p i)) (sym m.1)
      (by_begin (λ c. IsTaken (λ o j. IsClauseAt ts nodes w o i j) nodes more (p ∷ ps) c) p m.0 i
      (λ e. let y = opened.0 e in let ends = expression_ends m.0.kind m.0.last y.0 in record {
        there = (m.0, (record { at = m.1; stands = y.0; first = e }, (y.1.0, ends)));
        left = subst (λ j. more (row_in nodes ps) j) (sym ends) y.1.1;
        below = below_rest p ps (length nodes) b;
        row = refl;
      })
      (λ other. let y = opened.1 other in record {
        there = (y.0, refl);
        left = subst (λ t. more t (i + 1)) (sym tree) y.1;
        below = b;
        row = refl;
      }))
    where
      m : (n : Node) × (slice_get nodes p ≡ Some n)
      m = some_at nodes p (below_first p ps (length nodes) b)

      tree : row_in nodes (p ∷ ps) ≡ node m.0.kind m.0.first (m.0.last + 1) (row_in nodes m.0.parts) (row_in nodes ps)
      tree = row_at nodes f p m.0 ps m.1

      opened : IsClause ts w more (node m.0.kind m.0.first (m.0.last + 1) (row_in nodes m.0.parts) (row_in nodes ps)) i
      opened = subst (λ t. IsClause ts w more t i) tree z

  first_taken : (more : Trees → ℕ → Type 0) (ps : List ℕ) (i : ℕ) → AreBelow ps (length nodes) → IsFirstClause ts more (row_in nodes ps) i → IsTaken (λ o j. IsFirstClauseAt ts nodes o i j) nodes more ps (clause_of nodes ps i)
  first_taken more [] i b z = record { there = (z.0, refl); left = z.1; below = b; row = refl }
  first_taken more (p ∷ ps) i b z = subst (λ o. IsTaken (λ o' j. IsFirstClauseAt ts nodes o' i j) nodes more (p ∷ ps) (clause_if o p i)) (sym m.1)
      (by_begin (λ c. IsTaken (λ o j. IsFirstClauseAt ts nodes o i j) nodes more (p ∷ ps) c) p m.0 i
      (λ e. elim (opened.0 e) [
        | inl y ↦ (let ends = declaration_ends m.0.kind m.0.last y.0 in record {
          there = (m.0, inl (record { at = m.1; stands = y.0; first = e }, ends));
          left = subst (λ j. more (row_in nodes ps) j) (sym ends) y.1;
          below = below_rest p ps (length nodes) b;
          row = refl;
        })
        | inr y ↦ (let ends = expression_ends m.0.kind m.0.last y.0 in record {
          there = (m.0, inr (record { at = m.1; stands = y.0; first = e }, (y.1.0, ends)));
          left = subst (λ j. more (row_in nodes ps) j) (sym ends) y.1.1;
          below = below_rest p ps (length nodes) b;
          row = refl;
        })
      ])
      (λ other. let y = opened.1 other in record {
        there = (y.0, refl);
        left = subst (λ t. more t (i + 1)) (sym tree) y.1;
        below = b;
        row = refl;
      }))
    where
      m : (n : Node) × (slice_get nodes p ≡ Some n)
      m = some_at nodes p (below_first p ps (length nodes) b)

      tree : row_in nodes (p ∷ ps) ≡ node m.0.kind m.0.first (m.0.last + 1) (row_in nodes m.0.parts) (row_in nodes ps)
      tree = row_at nodes f p m.0 ps m.1

      opened : IsFirstClause ts more (node m.0.kind m.0.first (m.0.last + 1) (row_in nodes m.0.parts) (row_in nodes ps)) i
      opened = subst (λ t. IsFirstClause ts more t i) tree z

  -- the body, alone behind the clauses
  record IsAlone (i : ℕ) (ps : List ℕ) : Type 0 where
    number : ℕ
    body : Node
    is : IsPartAt nodes part.Statement i number body
    row : ps ≡ number ∷ []

  abbrev body_side : Side
  body_side = symbol.Begins ∷ inner part.Statement ∷ symbol.Ends ∷ symbol.Ends ∷ []

  alone : (ps : List ℕ) (i j : ℕ) → AreBelow ps (length nodes) → IsLaid ts body_side (row_in nodes ps) i j → IsAlone i ps
  alone [] i j b z = absurd z
  alone (p ∷ []) i j b z =
      let m = some_at nodes p (below_first p [] (length nodes) b) in
      let y = subst (λ t. IsLaid ts body_side t i j) (row_at nodes f p m.0 [] m.1) z in
      record { number = p; body = m.0; is = record { at = m.1; stands = y.0.0; first = y.0.1 }; row = refl }
  alone (p ∷ q ∷ ps) i j b z =
      let m = some_at nodes p (below_first p (q ∷ ps) (length nodes) b) in
      let o = some_at nodes q (below_first q ps (length nodes) (below_rest p (q ∷ ps) (length nodes) b)) in
      let y = subst (λ t. IsLaid ts body_side t i j) (row_at nodes f p m.0 (q ∷ ps) m.1) z in
      absurd (subst (λ t. IsLaid ts (symbol.Ends ∷ symbol.Ends ∷ []) t (m.0.last + 1) j) (row_at nodes f q o.0 ps o.1) y.1)

  pub loop : (n : Node) → AreBelow n.parts (length nodes) → IsLaid ts (side_of kind.For) (row_in nodes n.parts) n.first (n.last + 1) → IsLoop ts nodes n (clauses_of nodes n)
  unfolding rule_of
  loop n b h =
      let end = n.last + 1 in
      let c = clause_of nodes n.parts (n.first + 1 + 1) in
      let ps = left_of c n.parts in
      let d = clause_of nodes ps c.next in
      let qs = left_of d ps in
      let e = clause_of nodes qs d.next in
      let one = first_taken (λ t i. IsLaid ts (symbol.Clause ∷ symbol.Step ∷ body_side) t i end) n.parts (n.first + 1 + 1) b h.1.1 in
      let two = clause_taken word.Semicolon (λ t i. IsLaid ts (symbol.Step ∷ body_side) t i end) ps c.next one.below one.left in
      let three = clause_taken word.RightParen (λ t i. IsLaid ts body_side t i end) qs d.next two.below two.left in
      let four = alone (left_of e qs) e.next end three.below three.left in
      record {
        test_at = c.next;
        step_at = d.next;
        body_at = e.next;
        number = four.number;
        body = four.body;
        first = one.there;
        test = two.there;
        step = three.there;
        is_body = four.is;
        row = one.row ∙ ap (λ (x : List ℕ). option_to_list c.node ++ x) (two.row ∙ ap (λ (x : List ℕ). option_to_list d.node ++ x) (three.row ∙ ap (λ (x : List ℕ). option_to_list e.node ++ x) four.row));
      }
