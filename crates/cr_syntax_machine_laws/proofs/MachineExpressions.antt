-- The machine reads what is spelled as an expression, where it reads all that is smaller.
use Rattle.std.proofs.Common.{◌≡◌, ℕ, suc, ◌+◌, ◌<◌, Bool, true, false, not, ◌&&◌, List, [], ◌∷◌, refl, sym, ap, subst, ◌∙◌, arith}
use Rattle.cr_syntax.specs.declared.word.Word.{Word}
use Rattle.cr_syntax.specs.declared.word.Word.TheVariants as word
use Rattle.cr_syntax.specs.declared.node.Kind.{Kind}
use Rattle.cr_syntax.specs.declared.node.Kind.TheVariants as kind
use Rattle.cr_syntax.specs.declared.part.Part.{Part}
use Rattle.cr_syntax.specs.declared.part.Part.TheVariants as part
use Rattle.cr_syntax.specs.Symbols as symbol
use Rattle.cr_syntax.specs.Symbols.{Depth}
use Rattle.cr_syntax.specs.declared.part.Context.{Context}
use Rattle.cr_syntax.specs.Words.{Lexeme, spelling_at}
use Rattle.cr_syntax.specs.Scopes.{Scopes, is_type}
use Rattle.cr_syntax.specs.Trees.{Trees, none, one, ◌&◌}
use Rattle.cr_syntax.specs.Grammar.{Side, inner_list, closing, token, binary, prefix, assignment_by}
use Rattle.cr_syntax.specs.Grammar as grammar
use Rattle.cr_syntax.specs.Spells.{Limit, Is, IsIdentifier, Stands, levels, Spells, a, rest}
use Rattle.cr_syntax.specs.Spells as spells
use Rattle.cr_syntax.specs.Reads.{is_word, same_word}
use Rattle.cr_syntax_machine.specs.Machine.{Reply, Done, plain, opens, reopens, give, call, the, run_give, run_take, run_pass, run_free, run_seen, run_unseen, run_yes, run_no, run_here, run_call}
use Rattle.cr_syntax_machine.specs.Machine as m
use Rattle.cr_syntax_machine.specs.MachineBody.{body, assigned, operated, prefixed, suffixed, sized, other_primary, suffixes_end, is_unary, is_identifier, tighter, assignment_operators, operators, unary_prefixes, cast_prefixes, constants, postfix_operators}
use Rattle.cr_syntax_machine_laws.specs.MachineLaws.{rank_of, IsFree}
use Rattle.cr_syntax_machine_laws.proofs.MachineMeans.{is_level}
use Rattle.cr_syntax_machine.proofs.MachineSpells.{and_none, pushed}
use Rattle.cr_syntax_machine_laws.proofs.MachineFirst.{none_true, yes, differs, free_by, lower, fails, all_differ, Row, row_here, row_next, takes, skips, ends, tail, First, never, never_paren, never_brace, not_type, first_expression, first_assignment, first_cast, unary_is, a_unary}
use Rattle.cr_syntax_machine_laws.proofs.MachineTasks.{measure, lone_by, lone_free, base, below, Goes, Answers, Started, by_group, by_others, Completes, Smaller}
use Rattle.cr_syntax_machine_laws.proofs.MachineTasks as task
use Rattle.cr_syntax_machine_laws.proofs.MachineBegins.{type_yes}

-- an identifier and the machine's test of it
ordinary_yes : (ts : List Lexeme) (c : Scopes) (i : ℕ) → IsIdentifier ts c i false → m.passes ts c i m.ordinary ≡ true
ordinary_yes ts c i q = (ap (λ b. b && not (is_type c (spelling_at ts i))) (yes q.0)) ∙ (ap (λ b. not b) q.1)

pub ordinary_no : (ts : List Lexeme) (c : Scopes) (i : ℕ) → is_word ts i word.Identifier ≡ false → m.passes ts c i m.ordinary ≡ false
ordinary_no ts c i q = ap (λ b. b && not (is_type c (spelling_at ts i))) q

module _ (ts : List Lexeme) (limit : Limit) where
  -- Ends of loops.

  suffixes_done : (d s : ℕ) (t : Trees) (e : Scopes) (j : ℕ) → IsFree ts 0 j → Answers ts limit (m.suffixes d s t) e j t e j
  suffixes_done d s t e j f =
      run_pass (fails f word.LeftBracket (omega arith)) (run_pass (fails f word.Dot (omega arith)) (run_pass (fails f word.Arrow (omega arith))
      (ends body ts limit postfix_operators plain d (suffixed d s (t & none)) (suffixes_end d t) f refl (by (is_identifier t)))))
    where
      by : (b : Bool) → Goes ts limit (m.when b (give t) (m.bar (the word.LeftParen) 4 d (give t))) e j (Done t e j)
      by true = run_yes refl run_give
      by false = run_no refl (run_free (fails f word.LeftParen (omega arith)) run_give)

  operands_done : (p : Part) → is_level p ≡ true → (d s : ℕ) (t : Trees) (e : Scopes) (j : ℕ) → IsFree ts (suc (base p)) j → Answers ts limit (m.operands p d s t) e j t e j
  operands_done part.LogicalOr l d s t e j f = ends body ts limit (operators part.LogicalOr) plain d (operated part.LogicalOr d s t) (give t) f refl run_give
  operands_done part.LogicalAnd l d s t e j f = ends body ts limit (operators part.LogicalAnd) plain d (operated part.LogicalAnd d s t) (give t) f refl run_give
  operands_done part.Or l d s t e j f = ends body ts limit (operators part.Or) plain d (operated part.Or d s t) (give t) f refl run_give
  operands_done part.Xor l d s t e j f = ends body ts limit (operators part.Xor) plain d (operated part.Xor d s t) (give t) f refl run_give
  operands_done part.And l d s t e j f = ends body ts limit (operators part.And) plain d (operated part.And d s t) (give t) f refl run_give
  operands_done part.Equality l d s t e j f = ends body ts limit (operators part.Equality) plain d (operated part.Equality d s t) (give t) f refl run_give
  operands_done part.Relational l d s t e j f = ends body ts limit (operators part.Relational) plain d (operated part.Relational d s t) (give t) f refl run_give
  operands_done part.Shift l d s t e j f = ends body ts limit (operators part.Shift) plain d (operated part.Shift d s t) (give t) f refl run_give
  operands_done part.Additive l d s t e j f = ends body ts limit (operators part.Additive) plain d (operated part.Additive d s t) (give t) f refl run_give
  operands_done part.Multiplicative l d s t e j f = ends body ts limit (operators part.Multiplicative) plain d (operated part.Multiplicative d s t) (give t) f refl run_give
  operands_done _ l d s t e j f = none_true l

  assign_done : (d s : ℕ) (t : Trees) (e : Scopes) (j : ℕ) → IsFree ts 12 j → (b : Bool) →
      Goes ts limit (m.when b (m.choose opens assignment_operators d (assigned d s t) (give t)) (give t)) e j (Done t e j)
  assign_done d s t e j f true = run_yes refl (ends body ts limit assignment_operators opens d (assigned d s t) (give t) f refl run_give)
  assign_done d s t e j f false = run_no refl run_give

  -- From a unary expression up.

  as_cast : {d i j : ℕ} {c e : Scopes} {t : Trees} → Started ts limit d c i (Done t e j) → Answers ts limit (m.cast d) c i t e j
  as_cast (by_group q w v x) = run_here (run_take (yes q) w (run_unseen v (run_call x run_give)))
  as_cast (by_others n x) = run_here (run_pass n (run_call x run_give))

  as_unary : {d i j : ℕ} {c e : Scopes} {t : Trees} → Started ts limit d c i (Done t e j) → Answers ts limit (m.unary d) c i t e j
  as_unary {d = d} {i = i} {c = c} (by_group q w v x) = run_here
      (skips body ts limit unary_prefixes opens d (prefixed (m.unary (d + 1)) i) (m.choose opens cast_prefixes d (prefixed (m.cast (d + 1)) i) (sized d i)) q refl
      (skips body ts limit cast_prefixes opens d (prefixed (m.cast (d + 1)) i) (sized d i) q refl
      (run_pass (differs q word.Sizeof refl) (run_call (run_here (run_pass (ordinary_no ts c i (differs q word.Identifier refl))
      (skips body ts limit constants plain d (suffixed d i none) (other_primary d i) q refl
      (run_pass (differs q word.Text refl) (run_take (yes q) w (run_call x run_give)))))) run_give))))
  as_unary (by_others n x) = x

  as_measured : (d s : ℕ) {i j : ℕ} {c e : Scopes} {t : Trees} → Started ts limit (d + 1) c i (Done t e j) → Answers ts limit (m.measured d s) c i (one kind.SizeofExpression s j (t & none)) e j
  as_measured d s (by_group q w v x) = run_here (run_take (yes q) w (run_unseen v (run_call x (run_here run_give))))
  as_measured d s (by_others n x) = run_here (run_pass n (run_call x (run_here run_give)))

  climbs : {d i j : ℕ} {c e : Scopes} {t : Trees} → Started ts limit d c i (Done t e j) → IsFree ts 11 j → Answers ts limit (m.conditional d) c i t e j
  climbs {d = d} {i = i} {j = j} {c = c} {e = e} {t = t} x f =
      let y5 : Answers ts limit (m.binary part.Multiplicative d) c i t e j = run_here (run_call (as_cast x) (tail (operands_done part.Multiplicative refl d i t e j (lower f (omega arith))))) in
      let y6 : Answers ts limit (m.binary part.Additive d) c i t e j = run_here (run_call y5 (tail (operands_done part.Additive refl d i t e j (lower f (omega arith))))) in
      let y7 : Answers ts limit (m.binary part.Shift d) c i t e j = run_here (run_call y6 (tail (operands_done part.Shift refl d i t e j (lower f (omega arith))))) in
      let y8 : Answers ts limit (m.binary part.Relational d) c i t e j = run_here (run_call y7 (tail (operands_done part.Relational refl d i t e j (lower f (omega arith))))) in
      let y9 : Answers ts limit (m.binary part.Equality d) c i t e j = run_here (run_call y8 (tail (operands_done part.Equality refl d i t e j (lower f (omega arith))))) in
      let y10 : Answers ts limit (m.binary part.And d) c i t e j = run_here (run_call y9 (tail (operands_done part.And refl d i t e j (lower f (omega arith))))) in
      let y11 : Answers ts limit (m.binary part.Xor d) c i t e j = run_here (run_call y10 (tail (operands_done part.Xor refl d i t e j (lower f (omega arith))))) in
      let y12 : Answers ts limit (m.binary part.Or d) c i t e j = run_here (run_call y11 (tail (operands_done part.Or refl d i t e j (lower f (omega arith))))) in
      let y13 : Answers ts limit (m.binary part.LogicalAnd d) c i t e j = run_here (run_call y12 (tail (operands_done part.LogicalAnd refl d i t e j (lower f (omega arith))))) in
      let y14 : Answers ts limit (m.binary part.LogicalOr d) c i t e j = run_here (run_call y13 (tail (operands_done part.LogicalOr refl d i t e j (lower f (omega arith))))) in
      run_here (run_call y14 (run_pass (fails f word.Question (omega arith)) run_give))

  -- a primary expression is read through `unary`
  through : {w : Word} {d i : ℕ} {c : Scopes} {r : Reply} → Is ts i w → all_differ w unary_prefixes ≡ true → all_differ w cast_prefixes ≡ true → same_word w word.Sizeof ≡ false →
      same_word w word.LeftParen ≡ false → Goes ts limit (body (m.postfix d)) c i r → Started ts limit d c i r
  through {d = d} {i = i} q x y z n h = by_others (differs q word.LeftParen n) (run_here
      (skips body ts limit unary_prefixes opens d (prefixed (m.unary (d + 1)) i) (m.choose opens cast_prefixes d (prefixed (m.cast (d + 1)) i) (sized d i)) q x
      (skips body ts limit cast_prefixes opens d (prefixed (m.cast (d + 1)) i) (sized d i) q y
      (run_pass (differs q word.Sizeof z) (tail h)))))

  -- a level's operand alone, or an operator between two
  pub data AtLevel (n : ℕ) (p : Part) (c e : Scopes) (d i j : ℕ) : Trees → Type 0 where
    level_alone : {h : Context} {t : Trees} (s : Spells ts limit (a (below p)) h c e d t i j) → measure s < n → AtLevel n p c e d i j t
    level_node : {h : Context} {t : Trees} {w : Word} {k : Kind} → Row w k (operators p) → base p < rank_of w → (s : Spells ts limit (rest (binary p w (below p))) h c e d t i j) → measure s < n →
        AtLevel n p c e d i j (one k i j t)

  pub at_level : {n : ℕ} {h : Context} {c e : Scopes} {d i j : ℕ} {t : Trees} (p : Part) → is_level p ≡ true → (s : Spells ts limit (a p) h c e d t i j) → measure s < suc n → AtLevel n p c e d i j t
  at_level part.LogicalOr l (spells.of_chain grammar.binary_14 f s) lt = level_alone s (omega arith)
  at_level part.LogicalOr l (spells.of_alternative grammar.logical_or f s) lt = level_node row_here (omega arith) s (omega arith)
  at_level part.LogicalAnd l (spells.of_chain grammar.binary_13 f s) lt = level_alone s (omega arith)
  at_level part.LogicalAnd l (spells.of_alternative grammar.logical_and f s) lt = level_node row_here (omega arith) s (omega arith)
  at_level part.Or l (spells.of_chain grammar.binary_12 f s) lt = level_alone s (omega arith)
  at_level part.Or l (spells.of_alternative grammar.inclusive_or f s) lt = level_node row_here (omega arith) s (omega arith)
  at_level part.Xor l (spells.of_chain grammar.binary_11 f s) lt = level_alone s (omega arith)
  at_level part.Xor l (spells.of_alternative grammar.exclusive_or f s) lt = level_node row_here (omega arith) s (omega arith)
  at_level part.And l (spells.of_chain grammar.binary_10 f s) lt = level_alone s (omega arith)
  at_level part.And l (spells.of_alternative grammar.and f s) lt = level_node row_here (omega arith) s (omega arith)
  at_level part.Equality l (spells.of_chain grammar.binary_9 f s) lt = level_alone s (omega arith)
  at_level part.Equality l (spells.of_alternative grammar.equal f s) lt = level_node row_here (omega arith) s (omega arith)
  at_level part.Equality l (spells.of_alternative grammar.not_equal f s) lt = level_node (row_next refl row_here) (omega arith) s (omega arith)
  at_level part.Relational l (spells.of_chain grammar.binary_8 f s) lt = level_alone s (omega arith)
  at_level part.Relational l (spells.of_alternative grammar.less f s) lt = level_node row_here (omega arith) s (omega arith)
  at_level part.Relational l (spells.of_alternative grammar.greater f s) lt = level_node (row_next refl row_here) (omega arith) s (omega arith)
  at_level part.Relational l (spells.of_alternative grammar.less_equal f s) lt = level_node (row_next refl (row_next refl row_here)) (omega arith) s (omega arith)
  at_level part.Relational l (spells.of_alternative grammar.greater_equal f s) lt = level_node (row_next refl (row_next refl (row_next refl row_here))) (omega arith) s (omega arith)
  at_level part.Shift l (spells.of_chain grammar.binary_7 f s) lt = level_alone s (omega arith)
  at_level part.Shift l (spells.of_alternative grammar.shift_left f s) lt = level_node row_here (omega arith) s (omega arith)
  at_level part.Shift l (spells.of_alternative grammar.shift_right f s) lt = level_node (row_next refl row_here) (omega arith) s (omega arith)
  at_level part.Additive l (spells.of_chain grammar.binary_6 f s) lt = level_alone s (omega arith)
  at_level part.Additive l (spells.of_alternative grammar.add f s) lt = level_node row_here (omega arith) s (omega arith)
  at_level part.Additive l (spells.of_alternative grammar.subtract f s) lt = level_node (row_next refl row_here) (omega arith) s (omega arith)
  at_level part.Multiplicative l (spells.of_chain grammar.binary_5 f s) lt = level_alone s (omega arith)
  at_level part.Multiplicative l (spells.of_alternative grammar.multiply f s) lt = level_node row_here (omega arith) s (omega arith)
  at_level part.Multiplicative l (spells.of_alternative grammar.divide f s) lt = level_node (row_next refl row_here) (omega arith) s (omega arith)
  at_level part.Multiplicative l (spells.of_alternative grammar.remainder f s) lt = level_node (row_next refl (row_next refl row_here)) (omega arith) s (omega arith)
  at_level _ l s lt = none_true l

  -- an assignment's conditional alone, or an operator
  pub data AtAssignment (n : ℕ) (c e : Scopes) (d i j : ℕ) : Trees → Type 0 where
    assign_alone : {h : Context} {t : Trees} (s : Spells ts limit (a part.Conditional) h c e d t i j) → measure s < n → AtAssignment n c e d i j t
    assign_node : {h : Context} {t : Trees} {w : Word} {k : Kind} → Row w k assignment_operators → 11 < rank_of w → (s : Spells ts limit (rest (assignment_by w)) h c e d t i j) → measure s < n →
        AtAssignment n c e d i j (one k i j t)

  pub at_assignment : {n : ℕ} {h : Context} {c e : Scopes} {d i j : ℕ} {t : Trees} (s : Spells ts limit (a part.Assignment) h c e d t i j) → measure s < suc n → AtAssignment n c e d i j t
  at_assignment (spells.of_chain grammar.assignment_conditional f s) lt = assign_alone s (omega arith)
  at_assignment (spells.of_alternative grammar.assign f s) lt = assign_node row_here (omega arith) s (omega arith)
  at_assignment (spells.of_alternative grammar.multiply_assign f s) lt = assign_node (row_next refl row_here) (omega arith) s (omega arith)
  at_assignment (spells.of_alternative grammar.divide_assign f s) lt = assign_node (row_next refl (row_next refl row_here)) (omega arith) s (omega arith)
  at_assignment (spells.of_alternative grammar.remainder_assign f s) lt = assign_node (row_next refl (row_next refl (row_next refl row_here))) (omega arith) s (omega arith)
  at_assignment (spells.of_alternative grammar.add_assign f s) lt = assign_node (row_next refl (row_next refl (row_next refl (row_next refl row_here)))) (omega arith) s (omega arith)
  at_assignment (spells.of_alternative grammar.subtract_assign f s) lt = assign_node (row_next refl (row_next refl (row_next refl (row_next refl (row_next refl row_here))))) (omega arith) s (omega arith)
  at_assignment (spells.of_alternative grammar.shift_left_assign f s) lt = assign_node (row_next refl (row_next refl (row_next refl (row_next refl (row_next refl (row_next refl row_here)))))) (omega arith) s (omega arith)
  at_assignment (spells.of_alternative grammar.shift_right_assign f s) lt = assign_node (row_next refl (row_next refl (row_next refl (row_next refl (row_next refl (row_next refl (row_next refl row_here))))))) (omega arith) s (omega arith)
  at_assignment (spells.of_alternative grammar.and_assign f s) lt = assign_node (row_next refl (row_next refl (row_next refl (row_next refl (row_next refl (row_next refl (row_next refl (row_next refl row_here)))))))) (omega arith) s (omega arith)
  at_assignment (spells.of_alternative grammar.xor_assign f s) lt = assign_node (row_next refl (row_next refl (row_next refl (row_next refl (row_next refl (row_next refl (row_next refl (row_next refl (row_next refl row_here))))))))) (omega arith) s (omega arith)
  at_assignment (spells.of_alternative grammar.or_assign f s) lt = assign_node (row_next refl (row_next refl (row_next refl (row_next refl (row_next refl (row_next refl (row_next refl (row_next refl (row_next refl (row_next refl row_here)))))))))) (omega arith) s (omega arith)

  -- a prefix operator, `sizeof`, or a postfix expression alone
  pub data AtUnary (n : ℕ) (c e : Scopes) (d i j : ℕ) : Trees → Type 0 where
    unary_alone : {h : Context} {t : Trees} (s : Spells ts limit (a part.Postfix) h c e d t i j) → measure s < n → AtUnary n c e d i j t
    before_unary : {h : Context} {t : Trees} {w : Word} {k : Kind} → Row w k unary_prefixes → same_word w word.LeftParen ≡ false →
        (s : Spells ts limit (rest (prefix w part.Unary)) h c e d t i j) → measure s < n → AtUnary n c e d i j (one k i j t)
    before_cast : {h : Context} {t : Trees} {w : Word} {k : Kind} → Row w k cast_prefixes → same_word w word.LeftParen ≡ false → all_differ w unary_prefixes ≡ true →
        (s : Spells ts limit (rest (prefix w part.Cast)) h c e d t i j) → measure s < n → AtUnary n c e d i j (one k i j t)
    of_expression : {h : Context} {t : Trees} (s : Spells ts limit (rest (prefix word.Sizeof part.Unary)) h c e d t i j) → measure s < n → AtUnary n c e d i j (one kind.SizeofExpression i j t)
    of_type : {h : Context} {t : Trees} (s : Spells ts limit (rest (grammar.opening word.Sizeof ∷ grammar.inner_opening word.LeftParen ∷ grammar.innermost part.TypeName ∷ grammar.inner_closing word.RightParen ∷ [])) h c e d t i j) →
        measure s < n → AtUnary n c e d i j (one kind.SizeofType i j t)

  pub at_unary : {n : ℕ} {h : Context} {c e : Scopes} {d i j : ℕ} {t : Trees} (s : Spells ts limit (a part.Unary) h c e d t i j) → measure s < suc n → AtUnary n c e d i j t
  at_unary (spells.of_chain grammar.unary_postfix f s) lt = unary_alone s (omega arith)
  at_unary (spells.of_alternative grammar.pre_increment f s) lt = before_unary row_here refl s (omega arith)
  at_unary (spells.of_alternative grammar.pre_decrement f s) lt = before_unary (row_next refl row_here) refl s (omega arith)
  at_unary (spells.of_alternative grammar.address_of f s) lt = before_cast row_here refl refl s (omega arith)
  at_unary (spells.of_alternative grammar.dereference f s) lt = before_cast (row_next refl row_here) refl refl s (omega arith)
  at_unary (spells.of_alternative grammar.plus f s) lt = before_cast (row_next refl (row_next refl row_here)) refl refl s (omega arith)
  at_unary (spells.of_alternative grammar.minus f s) lt = before_cast (row_next refl (row_next refl (row_next refl row_here))) refl refl s (omega arith)
  at_unary (spells.of_alternative grammar.complement f s) lt = before_cast (row_next refl (row_next refl (row_next refl (row_next refl row_here)))) refl refl s (omega arith)
  at_unary (spells.of_alternative grammar.logical_not f s) lt = before_cast (row_next refl (row_next refl (row_next refl (row_next refl (row_next refl row_here))))) refl refl s (omega arith)
  at_unary (spells.of_alternative grammar.sizeof_expression f s) lt = of_expression s (omega arith)
  at_unary (spells.of_alternative grammar.sizeof_type f s) lt = of_type s (omega arith)

  -- What ends in a token, and what holds where it does.
  pub closing_run : {l : Depth} {w : Word} {h : Context} {c e : Scopes} {d i j : ℕ} {t : Trees} → Spells ts limit (rest (symbol.Token l w ∷ [])) h c e d t i j →
      (f : Scopes → Trees → ℕ → Type 0) → (Is ts i w → Stands limit i (levels l d) → f c none (i + 1)) → f e t j
  closing_run (spells.token q w spells.done) f x = x q w

  -- strings side by side
  texts_go : {h : Context} {c e : Scopes} {d i j : ℕ} {t : Trees} → Spells ts limit (rest (symbol.Texts ∷ [])) h c e d t i j → is_word ts j word.Text ≡ false →
      Is ts i word.Text × Stands limit i d × (none ≡ t) × Answers ts limit (m.texts d) c (i + 1) none e j
  texts_go (spells.texts_one q w) n = (q, w, refl, run_pass n run_give)
  texts_go (spells.texts_more q w s) n = let r = texts_go s n in (q, w, refl, run_take (yes r.0) r.1 (tail r.3))

  arguments_first : {r : Side} {h : Context} {c e : Scopes} {d i j : ℕ} {t : Trees} → Spells ts limit (rest (inner_list part.Assignment ∷ r)) h c e d t i j → First ts c i
  arguments_first (spells.list_last x s) = first_assignment x
  arguments_first (spells.list_more x q w s) = first_assignment x

  -- one identifier is read as an expression, where nothing behind it goes on with one
  pub name_expression : {d i : ℕ} {c : Scopes} → IsIdentifier ts c i false → Stands limit i d → IsFree ts 13 (i + 1) → Answers ts limit (m.expression d) c i (one kind.Identifier i (i + 1) none) c (i + 1)
  name_expression {d = d} {i = i} {c = c} q w f =
      let t : Trees = one kind.Identifier i (i + 1) none in
      let y : Answers ts limit (m.postfix d) c i t c (i + 1) = run_here (run_take (ordinary_yes ts c i q) w (tail (run_pass (fails f word.LeftParen (omega arith)) (run_here (tail (suffixes_done d i t c (i + 1) (lower f (omega arith)))))))) in
      let x : Started ts limit d c i (Done t c (i + 1)) = through q.0 refl refl refl refl y in
      run_here (run_call (run_here (run_call (climbs x (lower f (omega arith))) (assign_done d i t c (i + 1) (lower f (omega arith)) true))) (tail (run_pass (fails f word.Comma (omega arith)) run_give)))

  module _ (n : ℕ) (b : Smaller ts limit n) where
    pub whole_expression : {h : Context} {c e : Scopes} {d i j : ℕ} {t : Trees} (s : Spells ts limit (a part.Expression) h c e d t i j) → measure s < n → IsFree ts 13 j →
        Answers ts limit (m.expression d) c i t e j
    whole_expression s lt f = b.read task.expression s lt (lower f (omega arith)) _ (run_pass (fails f word.Comma (omega arith)) run_give)

    level_full : (p : Part) (l : is_level p ≡ true) {h : Context} {c e : Scopes} {d i j : ℕ} {t : Trees} (s : Spells ts limit (a p) h c e d t i j) → measure s < n → IsFree ts (suc (base p)) j →
        Answers ts limit (m.binary p d) c i t e j
    level_full p l {e = e} {d = d} {i = i} {j = j} {t = t} s lt f = b.read (task.level p l) s lt (lower f (omega arith)) _ (operands_done p l d i t e j f)

    operand : (p : Part) (l : is_level p ≡ true) {h : Context} {c e : Scopes} {d i j : ℕ} {t : Trees} (s : Spells ts limit (a (below p)) h c e d t i j) → measure s < n → IsFree ts (base p) j →
        Answers ts limit (tighter p d) c i t e j
    operand part.LogicalOr l s lt f = level_full part.LogicalAnd refl s lt f
    operand part.LogicalAnd l s lt f = level_full part.Or refl s lt f
    operand part.Or l s lt f = level_full part.Xor refl s lt f
    operand part.Xor l s lt f = level_full part.And refl s lt f
    operand part.And l s lt f = level_full part.Equality refl s lt f
    operand part.Equality l s lt f = level_full part.Relational refl s lt f
    operand part.Relational l s lt f = level_full part.Shift refl s lt f
    operand part.Shift l s lt f = level_full part.Additive refl s lt f
    operand part.Additive l s lt f = level_full part.Multiplicative refl s lt f
    operand part.Multiplicative l s lt f = b.read task.cast s lt f
    operand _ l s lt f = none_true l

    pub level_reads : (p : Part) (l : is_level p ≡ true) (h : Context) {c e : Scopes} {d i j : ℕ} {t : Trees} → AtLevel n p c e d i j t → Completes ts limit (task.level p l) h c e d t i j
    level_reads p l h (level_alone s lt) f r y = run_here (run_call (operand p l s lt f) (tail y))
    level_reads p l h {d = d} {i = i} (level_node row lt' (spells.part {t = t} x (spells.token q w (spells.part y spells.done))) lt) f r z =
        b.read (task.level p l) x (omega arith) (free_by q lt') r
        (takes body ts limit row plain d (operated p d i t) (give t) q w (run_call (operand p l y (omega arith) f) (run_here (tail z))))

    pub expression_reads : {h : Context} {c e : Scopes} {d i j : ℕ} {t : Trees} (s : Spells ts limit (a part.Expression) h c e d t i j) → measure s < suc n → Completes ts limit task.expression h c e d t i j
    expression_reads (spells.of_chain grammar.expression_assignment f s) lt fr r y = run_here (run_call (b.read task.assignment s (omega arith) fr) (tail y))
    expression_reads (spells.of_alternative grammar.comma f (spells.part x (spells.token q w (spells.part y spells.done)))) lt fr r z =
        b.read task.expression x (omega arith) (free_by q (omega arith)) r (run_take (yes q) w (run_call (b.read task.assignment y (omega arith) fr) (run_here (tail z))))

    pub assignment_reads : (h : Context) {c e : Scopes} {d i j : ℕ} {t : Trees} → AtAssignment n c e d i j t → Completes ts limit task.assignment h c e d t i j
    assignment_reads h {e = e} {d = d} {i = i} {j = j} {t = t} (assign_alone s lt) fr =
        run_here (run_call (b.read task.conditional s lt (lower fr (omega arith))) (assign_done d i t e j fr (is_unary t)))
    assignment_reads h {d = d} {i = i} (assign_node row lt' (spells.part {t = t} x (spells.opens q w (spells.part y spells.done))) lt) fr =
        run_here (run_call (climbs (b.read task.unary x (omega arith) (free_by q (omega arith))) (free_by q lt'))
        (run_yes (unary_is a_unary x) (takes body ts limit row opens d (assigned d i t) (give t) q w (run_call (b.read task.assignment y (omega arith) fr) (run_here run_give)))))

    pub conditional_reads : {h : Context} {c e : Scopes} {d i j : ℕ} {t : Trees} (s : Spells ts limit (a part.Conditional) h c e d t i j) → measure s < suc n → Completes ts limit task.conditional h c e d t i j
    conditional_reads (spells.of_chain grammar.conditional_binary f s) lt fr =
        run_here (run_call (level_full part.LogicalOr refl s (omega arith) (lower fr (omega arith))) (run_pass (fails fr word.Question (omega arith)) run_give))
    conditional_reads (spells.of_alternative grammar.conditional f (spells.part x (spells.opens q w (spells.part y (spells.reopens q' w' v' (spells.part z spells.done)))))) lt fr =
        run_here (run_call (level_full part.LogicalOr refl x (omega arith) (free_by q (omega arith)))
        (run_take (yes q) w (run_call (whole_expression y (omega arith) (free_by q' (omega arith)))
        (run_take (yes q') (w', v') (run_call (b.read task.conditional z (omega arith) fr) (run_here run_give))))))

    pub cast_reads : {h : Context} {c e : Scopes} {d i j : ℕ} {t : Trees} (s : Spells ts limit (a part.Cast) h c e d t i j) → measure s < suc n → Completes ts limit task.cast h c e d t i j
    cast_reads (spells.of_chain grammar.cast_unary f s) lt fr = as_cast (b.read task.unary s (omega arith) fr)
    cast_reads (spells.of_alternative grammar.cast f (spells.opens q w (spells.part x (spells.reopens q' w' v' (spells.part y spells.done))))) lt fr =
        run_here (run_take (yes q) w (run_seen (type_yes x) (run_call (b.read task.type_name x (omega arith) q')
        (run_take (yes q') (w', v') (run_free (never (first_cast y) never_brace) (run_call (b.read task.cast y (omega arith) fr) (run_here run_give)))))))

    -- the programs behind the tables of prefix operators
    before : {w : Word} {d i : ℕ} {c : Scopes} {r : Reply} → Is ts i w → all_differ w unary_prefixes ≡ true → all_differ w cast_prefixes ≡ true → Goes ts limit (sized d i) c i r → Goes ts limit (body (m.unary d)) c i r
    before {d = d} {i = i} q x y h = run_here
        (skips body ts limit unary_prefixes opens d (prefixed (m.unary (d + 1)) i) (m.choose opens cast_prefixes d (prefixed (m.cast (d + 1)) i) (sized d i)) q x
        (skips body ts limit cast_prefixes opens d (prefixed (m.cast (d + 1)) i) (sized d i) q y h))

    pub unary_reads : (h : Context) {c e : Scopes} {d i j : ℕ} {t : Trees} → AtUnary n c e d i j t → Completes ts limit task.unary h c e d t i j
    unary_reads h {e = e} {d = d} {i = i} {j = j} {t = t} (unary_alone s lt) = λ fr. b.read task.postfix s lt (lone_free fr) _ (suffixes_done d i t e j fr)
    unary_reads h {d = d} {i = i} (before_unary row apart (spells.opens q w (spells.part x spells.done)) lt) = λ fr. by_others (differs q word.LeftParen apart) (run_here
        (takes body ts limit row opens d (prefixed (m.unary (d + 1)) i) (m.choose opens cast_prefixes d (prefixed (m.cast (d + 1)) i) (sized d i)) q w
        (run_call (as_unary (b.read task.unary x (omega arith) fr)) (run_here run_give))))
    unary_reads h {d = d} {i = i} (before_cast row apart other (spells.opens q w (spells.part x spells.done)) lt) = λ fr. by_others (differs q word.LeftParen apart) (run_here
        (skips body ts limit unary_prefixes opens d (prefixed (m.unary (d + 1)) i) (m.choose opens cast_prefixes d (prefixed (m.cast (d + 1)) i) (sized d i)) q other
        (takes body ts limit row opens d (prefixed (m.cast (d + 1)) i) (sized d i) q w (run_call (b.read task.cast x (omega arith) fr) (run_here run_give)))))
    unary_reads h {d = d} {i = i} (of_expression (spells.opens q w (spells.part x spells.done)) lt) = λ fr.
        by_others (differs q word.LeftParen refl) (before q refl refl (run_take (yes q) w (tail (as_measured d i (b.read task.unary x (omega arith) fr)))))
    unary_reads h {c = c} {e = e} {d = d} {i = i} {j = j} (of_type (spells.opens q w (spells.opens q' w' (spells.part {t = t} x s))) lt) =
        closing_run s (λ e u j. Completes ts limit task.unary h c e d (one kind.SizeofType i j (t & u)) i j) (λ q'' w'' fr.
        by_others (differs q word.LeftParen refl) (before q refl refl (run_take (yes q) w (tail
        (run_here (run_take (yes q') w' (run_seen (type_yes x) (run_call (b.read task.type_name x (omega arith) q'') (run_take (yes q'') w'' (run_here run_give))))))))))

    -- an identifier before its suffixes
    by_identifier : {d i : ℕ} {c : Scopes} {r : Reply} → IsIdentifier ts c i false → Stands limit i d → Goes ts limit (body (m.called d i)) c (i + 1) r → Started ts limit d c i r
    by_identifier {i = i} {c = c} q w h = through q.0 refl refl refl refl (run_here (run_take (ordinary_yes ts c i q) w (tail h)))

    by_constant : {w : Word} {k : Kind} {d i : ℕ} {c : Scopes} {r : Reply} → Row w k constants → Is ts i w → Stands limit i d → all_differ w unary_prefixes ≡ true → all_differ w cast_prefixes ≡ true →
        same_word w word.Sizeof ≡ false → same_word w word.LeftParen ≡ false → same_word w word.Identifier ≡ false → Goes ts limit (body (m.suffixes d i (one k i (i + 1) none))) c (i + 1) r → Started ts limit d c i r
    by_constant {d = d} {i = i} {c = c} row q w x y z p other h = through q x y z p (run_here (run_pass (ordinary_no ts c i (differs q word.Identifier other))
        (takes body ts limit row plain d (suffixed d i none) (other_primary d i) q w (run_here (tail h)))))

    pub primary_reads : {h : Context} {c e : Scopes} {d i j : ℕ} {t : Trees} (s : Spells ts limit (a part.Primary) h c e d t i j) → measure s < suc n → Completes ts limit task.postfix h c e d t i j
    primary_reads (spells.of_chain x f s) lt = elim x [ ]
    primary_reads (spells.of_alternative grammar.identifier f (spells.ordinary q w spells.done)) lt = λ lo r z. by_identifier q w (run_pass lo.paren (run_here (tail z)))
    primary_reads (spells.of_alternative grammar.integer_constant f (spells.token q w spells.done)) lt = λ lo r z. by_constant row_here q w refl refl refl refl refl z
    primary_reads (spells.of_alternative grammar.character_constant f (spells.token q w spells.done)) lt = λ lo r z. by_constant (row_next refl row_here) q w refl refl refl refl refl z
    primary_reads {e = e} {d = d} {i = i} {j = j} {t = t} (spells.of_alternative {c = c} grammar.string_literal f s) lt = λ lo r z.
        let x = texts_go s lo.text in
        through x.0 refl refl refl refl (run_here (run_pass (ordinary_no ts c i (differs x.0 word.Identifier refl))
        (skips body ts limit constants plain d (suffixed d i none) (other_primary d i) x.0 refl
        (run_take (yes x.0) x.1 (run_call x.3 (run_here (tail (subst (λ y. Goes ts limit (body (m.suffixes d i (one kind.Text i j y))) e j r) (sym x.2) z))))))))
    primary_reads {h = h} {c = c} {d = d} {i = i} (spells.of_alternative grammar.parenthesized f (spells.opens q w (spells.part {t = t} x s))) lt =
        closing_run s (λ e u j. Completes ts limit task.postfix h c e d (one kind.Group i j (t & u)) i j) (λ q' w' lo r z.
        by_group q w (not_type (first_expression x)) (run_call (whole_expression x (omega arith) (free_by q' (omega arith))) (run_take (yes q') w' (run_here (tail z)))))

    stepped : {w : Word} {k : Kind} (d s : ℕ) (t : Trees) {i : ℕ} {c : Scopes} {r : Reply} → Row w k postfix_operators → Is ts i w → Stands limit i d → same_word w word.LeftBracket ≡ false → same_word w word.Dot ≡ false →
        same_word w word.Arrow ≡ false → Goes ts limit (suffixed d s (t & none) k) c (i + 1) r → Goes ts limit (body (m.suffixes d s t)) c i r
    stepped d s t row q w x y z h = run_pass (differs q word.LeftBracket x) (run_pass (differs q word.Dot y) (run_pass (differs q word.Arrow z)
        (takes body ts limit row plain d (suffixed d s (t & none)) (suffixes_end d t) q w h)))

    pub postfix_reads : {h : Context} {c e : Scopes} {d i j : ℕ} {t : Trees} (s : Spells ts limit (a part.Postfix) h c e d t i j) → measure s < suc n → Completes ts limit task.postfix h c e d t i j
    postfix_reads (spells.of_chain grammar.postfix_primary f s) lt = primary_reads s (omega arith)
    postfix_reads {h = h} {c = c} {d = d} {i = i} (spells.of_alternative grammar.call f (spells.ordinary q w (spells.opens q' w' (spells.list_none s)))) lt =
        closing_run s (λ e u j. Completes ts limit task.postfix h c e d (one kind.Call i j u) i j) (λ q'' w'' lo r z.
        by_identifier q w (run_take (yes q') w' (run_take (yes q'') w'' (run_here (tail z)))))
    postfix_reads (spells.of_alternative grammar.call f (spells.ordinary q w (spells.opens q' w' (spells.list_some s)))) lt = λ lo r z.
        by_identifier q w (run_take (yes q') w' (run_pass (never (arguments_first s) never_paren) (run_call (b.read task.arguments s (omega arith) none) (run_here (tail z)))))
    postfix_reads {h = h} {c = c} {d = d} {i = i} (spells.of_alternative grammar.subscript f (spells.part {t = t} x (spells.opens q w (spells.part {t = u} y s)))) lt =
        closing_run s (λ e v j. Completes ts limit task.postfix h c e d (one kind.Subscript i j (t & u & v)) i j) (λ q' w' lo r z.
        b.read task.postfix x (omega arith) (lone_by q refl refl) r
        (run_take (yes q) w (run_call (whole_expression y (omega arith) (free_by q' (omega arith))) (run_take (yes q') w' (run_here (tail z))))))
    postfix_reads {h = h} {c = c} {d = d} {i = i} (spells.of_alternative grammar.member f (spells.part {t = t} x (spells.token q w s))) lt =
        closing_run s (λ e v j. Completes ts limit task.postfix h c e d (one kind.Member i j (t & v)) i j) (λ q' w' lo r z.
        b.read task.postfix x (omega arith) (lone_by q refl refl) r (run_pass (differs q word.LeftBracket refl) (run_take (yes q) w (run_take (yes q') w' (run_here (tail z))))))
    postfix_reads {h = h} {c = c} {d = d} {i = i} (spells.of_alternative grammar.pointer_member f (spells.part {t = t} x (spells.token q w s))) lt =
        closing_run s (λ e v j. Completes ts limit task.postfix h c e d (one kind.PointerMember i j (t & v)) i j) (λ q' w' lo r z.
        b.read task.postfix x (omega arith) (lone_by q refl refl) r
        (run_pass (differs q word.LeftBracket refl) (run_pass (differs q word.Dot refl) (run_take (yes q) w (run_take (yes q') w' (run_here (tail z)))))))
    postfix_reads {h = h} {c = c} {d = d} {i = i} (spells.of_alternative grammar.post_increment f (spells.part {t = t} x s)) lt =
        closing_run s (λ e v j. Completes ts limit task.postfix h c e d (one kind.PostIncrement i j (t & v)) i j) (λ q w lo r z.
        b.read task.postfix x (omega arith) (lone_by q refl refl) r (stepped d i t row_here q w refl refl refl (run_here (tail z))))
    postfix_reads {h = h} {c = c} {d = d} {i = i} (spells.of_alternative grammar.post_decrement f (spells.part {t = t} x s)) lt =
        closing_run s (λ e v j. Completes ts limit task.postfix h c e d (one kind.PostDecrement i j (t & v)) i j) (λ q w lo r z.
        b.read task.postfix x (omega arith) (lone_by q refl refl) r (stepped d i t (row_next refl row_here) q w refl refl refl (run_here (tail z))))

    pub arguments_read : {h : Context} {c e : Scopes} {d i j : ℕ} {t : Trees} (s : Spells ts limit (rest (inner_list part.Assignment ∷ closing word.RightParen ∷ [])) h c e d t i j) → measure s < suc n →
        Completes ts limit task.arguments h c e d t i j
    arguments_read {c = c} {d = d} {i = i} (spells.list_last {e = e'} {j = j'} {t = t} x s) lt =
        closing_run s (λ e u j. (y : Trees) → Answers ts limit (m.arguments d y) c i (y & t) e j) (λ q w y.
        subst (λ v. Answers ts limit (m.arguments d y) c i (y & v) e' (j' + 1)) (and_none t)
        (run_call (b.read task.assignment x (omega arith) (free_by q (omega arith))) (run_pass (differs q word.Comma refl) (run_take (yes q) w run_give))))
    arguments_read {c = c} {e = e} {d = d} {i = i} {j = j} (spells.list_more {t = u} {u = v} x q w s) lt = λ y.
        subst (λ z. Answers ts limit (m.arguments d y) c i z e j) (pushed y u v)
        (run_call (b.read task.assignment x (omega arith) (free_by q (omega arith))) (run_take (yes q) w (tail (b.read task.arguments s (omega arith) (y & u & none)))))
