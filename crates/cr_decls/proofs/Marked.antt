-- Statements that an identifier labels, and those that none does.
use Rattle.std.proofs.Common.{◌≡◌, ℕ, ◌+◌, Bool, true, false, true≢false, not, ◌&&◌, List, refl, sym, ap, ◌∙◌}
use Rattle.cr_syntax.specs.declared.word.Word.TheVariants as word
use Rattle.cr_syntax.specs.Words.{Lexeme, spelling_at}
use Rattle.cr_syntax.specs.Scopes.{Scopes, is_type}
use Rattle.cr_syntax.specs.Trees.{Trees}
use Rattle.cr_syntax.specs.Spells.{Is}
use Rattle.cr_syntax.specs.Reads.{is_word}
use Rattle.cr_syntax.proofs.Tests.{is_of}
use Rattle.cr_syntax_machine.specs.Machine as m
use Rattle.cr_syntax_machine.specs.Machine.{Goal, Prog, Test, Manner, Reply, call, give, take, type_identifier, has_word, passes, run_here, run_look, run_set, run_take, run_deep, run_pass, run_free, run_seen, run_unseen, run_yes, run_no, run_call, run_fail}
use Rattle.cr_syntax_machine.specs.MachineBody as programs
use Rattle.cr_syntax_machine.specs.MachineBody.{body, may_label, in_compound, is_label, declaration_start, named_statement}
use Rattle.cr_syntax_machine_laws.proofs.MachineFirst.{differs, yes, sorted}
use Rattle.cr_syntax_machine_laws.proofs.MachineMarked.{name_starts_none, label_goes, item_label_goes, expression_goes, item_declares}
use Rattle.cr_exprs_descent.specs.Answers.{RunsTo}
use Rattle.cr_exprs_descent.proofs.Runs.{handed}
use Rattle.cr_decls.specs.declared.labels.Labels.{Labels}
use Rattle.cr_decls.specs.declared.labels.Labels.TheVariants.{OwnBlock, InBlock, Nowhere}
use Rattle.cr_decls.specs.Programs.{labels_of, is_marked, label_rest, expression_statement, unlabelled, labelled}

both_left : (a b : Bool) → a && b ≡ true → a ≡ true
both_left true b q = refl
both_left false b q = absurd cc

both_right : (a b : Bool) → a && b ≡ true → b ≡ true
both_right true b q = q
both_right false b q = absurd cc

-- the identifier and the colon of a label, and what stands behind an identifier that is none
name_is : (ts : List Lexeme) (i : ℕ) → is_marked ts i ≡ true → Is ts i word.Identifier
name_is ts i n = is_of ts i word.Identifier (both_left (is_word ts i word.Identifier) (is_word ts (i + 1) word.Colon) n)

pub colon_stands : (ts : List Lexeme) (i : ℕ) → is_marked ts i ≡ true → is_word ts (i + 1) word.Colon ≡ true
colon_stands ts i n = both_right (is_word ts i word.Identifier) (is_word ts (i + 1) word.Colon) n

no_colon : (ts : List Lexeme) (i : ℕ) → is_marked ts i ≡ false → Is ts i word.Identifier → is_word ts (i + 1) word.Colon ≡ false
no_colon ts i n q = ap (λ x. x && is_word ts (i + 1) word.Colon) (sym (yes q)) ∙ n

typed_name : (ts : List Lexeme) (c : Scopes) (i : ℕ) → passes ts c i (type_identifier false) ≡ true → Is ts i word.Identifier
typed_name ts c i z = is_of ts i word.Identifier (both_left (is_word ts i word.Identifier) (is_type c (spelling_at ts i)) (both_left (is_word ts i word.Identifier && is_type c (spelling_at ts i)) (not false) z))

module _ {ts : List Lexeme} where
  -- where an identifier stands, a statement is none that begins with a keyword
  named_in : {l : m.Labels} {d s : ℕ} {c : Scopes} {y : Reply} → Is ts s word.Identifier → RunsTo ts (named_statement l d s) c s y → RunsTo ts (programs.unlabelled l d s) c s y
  named_in q r =
      run_unseen (differs q word.LeftBrace refl) (run_pass (differs q word.If refl) (run_pass (differs q word.Switch refl) (run_pass (differs q word.While refl) (run_pass (differs q word.Do refl)
      (run_pass (differs q word.For refl) (run_pass (differs q word.Goto refl) (run_pass (differs q word.Break refl) (run_pass (differs q word.Continue refl) (run_pass (differs q word.Return refl) (run_pass (differs q word.Semicolon refl) r))))))))))

  statement_in : {l : m.Labels} {d s : ℕ} {c : Scopes} {y : Reply} (b : Bool) → may_label l ≡ b → Is ts s word.Identifier → RunsTo ts (programs.unlabelled l d s) c s y → RunsTo ts (body (m.statement l d)) c s y
  statement_in true h q r = run_here (run_yes h (run_pass (differs q word.Case refl) (run_pass (differs q word.Default refl) r)))
  statement_in false h q r = run_here (run_no h (run_free (sorted is_label false q refl) r))

  pub label_in : (l : m.Labels) {d s : ℕ} {c : Scopes} {y : Reply} → is_marked ts s ≡ true → RunsTo ts (label_rest l d s) c (s + 1) y → RunsTo ts (body (m.statement l d)) c s y
  label_in l {s = s} n r = let q = name_is ts s n in statement_in (may_label l) refl q (named_in q (label_goes l q tt (is_of ts (s + 1) word.Colon (colon_stands ts s n)) r))

  item_by : (l : m.Labels) {d s : ℕ} {c : Scopes} {y : Reply} (b : Bool) → passes ts c s (type_identifier false) ≡ b → is_marked ts s ≡ true → RunsTo ts (label_rest l d s) c (s + 1) y → RunsTo ts (body (m.item l d)) c s y
  item_by l {s = s} true z n r = item_label_goes l z tt (is_of ts (s + 1) word.Colon (colon_stands ts s n)) r (name_is ts s n)
  item_by l {s = s} {c = c} {y = y} false z n r = run_unseen (name_starts_none ts c s (name_is ts s n) z) (handed y (label_in l n r))

  pub labelled_item : (l : m.Labels) {d s : ℕ} {c : Scopes} {y : Reply} → is_marked ts s ≡ true → RunsTo ts (label_rest l d s) c (s + 1) y → RunsTo ts (body (m.item l d)) c s y
  labelled_item l {s = s} {c = c} n r = item_by l (passes ts c s (type_identifier false)) refl n r

  pub declaration_item : (l : m.Labels) {d s : ℕ} {c : Scopes} {y : Reply} → passes ts c s declaration_start ≡ true → is_marked ts s ≡ false → RunsTo ts (body (m.declaration d)) c s y → RunsTo ts (body (m.item l d)) c s y
  declaration_item l {s = s} h n r = item_declares l h (no_colon ts s n) r

  unnamed_in : (l : m.Labels) {d s : ℕ} {c : Scopes} {y : Reply} → is_marked ts s ≡ false → RunsTo ts (expression_statement d s) c s y → RunsTo ts (named_statement l d s) c s y
  unnamed_in l {s = s} {c = c} n (run_take z w r) = run_take z w (run_unseen (no_colon ts s n (typed_name ts c s z)) r)
  unnamed_in l n (run_deep z w) = absurd (w tt)
  unnamed_in l {s = s} n (run_pass z r) = expression_goes l z (no_colon ts s n) r

-- A statement that no identifier labels is read in the same way whichever labels may stand, since in its parts the same may.

other_token : {ts : List Lexeme} {x : Test} {k : Manner} {d : ℕ} {p p' q q' : Prog} {c : Scopes} {i : ℕ} {y : Reply} → (RunsTo ts p c (i + 1) y → RunsTo ts p' c (i + 1) y) → (RunsTo ts q c i y → RunsTo ts q' c i y) →
    RunsTo ts (take k x d p q) c i y → RunsTo ts (take k x d p' q') c i y
other_token f g (run_take h w r) = run_take h w (f r)
other_token f g (run_deep h w) = run_deep h w
other_token f g (run_pass h r) = run_pass h (g r)

other_goal : {ts : List Lexeme} {g g' : Goal} {c : Scopes} {i : ℕ} {y : Reply} → ((z : Reply) → RunsTo ts (body g) c i z → RunsTo ts (body g') c i z) → RunsTo ts (call g give) c i y → RunsTo ts (call g' give) c i y
other_goal f (run_call h r) = run_call (f _ h) r
other_goal f (run_fail h) = run_fail (f _ h)

block_in : {ts : List Lexeme} {d : ℕ} {c : Scopes} {i : ℕ} {z : Reply} (l : Labels) → RunsTo ts (call (m.compound m.in_block d) give) c i z → RunsTo ts (call (m.compound (in_compound (labels_of l)) d) give) c i z
block_in OwnBlock h = h
block_in InBlock h = h
block_in Nowhere h = h

module _ {ts : List Lexeme} {d s : ℕ} {c : Scopes} {i : ℕ} {z : Reply} where
  if_in : (l : Labels) → RunsTo ts (body (m.if_rest m.nowhere d s)) c i z → RunsTo ts (body (m.if_rest (labels_of l) d s)) c i z
  if_in OwnBlock h = h
  if_in InBlock h = h
  if_in Nowhere h = h

  switch_in : (l : Labels) → RunsTo ts (body (m.switch_rest m.nowhere d s)) c i z → RunsTo ts (body (m.switch_rest (labels_of l) d s)) c i z
  switch_in OwnBlock h = h
  switch_in InBlock h = h
  switch_in Nowhere h = h

  while_in : (l : Labels) → RunsTo ts (body (m.while_rest m.nowhere d s)) c i z → RunsTo ts (body (m.while_rest (labels_of l) d s)) c i z
  while_in OwnBlock h = h
  while_in InBlock h = h
  while_in Nowhere h = h

  do_in : (l : Labels) → RunsTo ts (body (m.do_rest m.nowhere d s)) c i z → RunsTo ts (body (m.do_rest (labels_of l) d s)) c i z
  do_in OwnBlock h = h
  do_in InBlock h = h
  do_in Nowhere h = h

  clauses_in : (x : Trees) (l : Labels) → RunsTo ts (body (m.for_clauses m.nowhere d s x)) c i z → RunsTo ts (body (m.for_clauses (labels_of l) d s x)) c i z
  clauses_in x OwnBlock h = h
  clauses_in x InBlock h = h
  clauses_in x Nowhere h = h

for_in : {ts : List Lexeme} {d s : ℕ} {c : Scopes} {i : ℕ} {y : Reply} (l : Labels) → RunsTo ts (body (m.for_rest m.nowhere d s)) c i y → RunsTo ts (body (m.for_rest (labels_of l) d s)) c i y
for_in l (run_look (run_set (run_pass h r))) = run_look (run_set (run_pass h r))
for_in l (run_look (run_set (run_deep h w))) = run_look (run_set (run_deep h w))
for_in l (run_look (run_set (run_take h w (run_seen g (run_call a r))))) = run_look (run_set (run_take h w (run_seen g (run_call a (other_goal (λ z x. clauses_in _ l x) r)))))
for_in l (run_look (run_set (run_take h w (run_seen g (run_fail a))))) = run_look (run_set (run_take h w (run_seen g (run_fail a))))
for_in l (run_look (run_set (run_take h w (run_unseen g (run_call a r))))) = run_look (run_set (run_take h w (run_unseen g (run_call a (other_goal (λ z x. clauses_in _ l x) r)))))
for_in l (run_look (run_set (run_take h w (run_unseen g (run_fail a))))) = run_look (run_set (run_take h w (run_unseen g (run_fail a))))

unlabelled_in : {ts : List Lexeme} {d s : ℕ} {c : Scopes} {y : Reply} (l : Labels) → is_marked ts s ≡ false → RunsTo ts (unlabelled d s) c s y → RunsTo ts (programs.unlabelled (labels_of l) d s) c s y
unlabelled_in l n (run_seen h r) = run_seen h (block_in l r)
unlabelled_in l n (run_unseen h r) =
    run_unseen h (other_token (other_goal (λ z x. if_in l x)) (other_token (other_goal (λ z x. switch_in l x)) (other_token (other_goal (λ z x. while_in l x)) (other_token (other_goal (λ z x. do_in l x)) (other_token (other_goal (λ z x. for_in l x))
    (other_token (λ x. x) (other_token (λ x. x) (other_token (λ x. x) (other_token (λ x. x) (other_token (λ x. x) (unnamed_in (labels_of l) n)))))))))) r)

-- where `case` and `default` may stand, and where they may not
pub labelled_statement : {ts : List Lexeme} {d s : ℕ} {c : Scopes} {y : Reply} (l : Labels) → may_label (labels_of l) ≡ true → is_marked ts s ≡ false → RunsTo ts (labelled d s) c s y → RunsTo ts (body (m.statement (labels_of l) d)) c s y
labelled_statement OwnBlock q n h = run_here (run_yes q (other_token (λ x. x) (other_token (λ x. x) (unlabelled_in OwnBlock n)) h))
labelled_statement InBlock q n h = absurd (true≢false (sym q))
labelled_statement Nowhere q n h = absurd (true≢false (sym q))

pub plain_statement : {ts : List Lexeme} {d s : ℕ} {c : Scopes} {y : Reply} (l : Labels) → may_label (labels_of l) ≡ false → is_marked ts s ≡ false → has_word ts s is_label ≡ false → RunsTo ts (unlabelled d s) c s y → RunsTo ts (body (m.statement (labels_of l) d)) c s y
plain_statement l q n f h = run_here (run_no q (run_free f (unlabelled_in l n h)))
