-- What the subset's machine does, the bare grammar's does too, but where the subset's refuses a label in its place, a token
-- before that is one, or a definition with `...`.
use Rattle.std.proofs.Common.{◌≡◌, ℕ, ◌+◌, ◌≤◌, Bool, true, false, List, Option, None, Some, ◌⊎◌, inl, inr, ⊎_elim, refl, arith}
use Rattle.std.proofs.lemmas.Bool.{cases_Bool, both_ways, false_from_ne_true}
use Rattle.cr_syntax.specs.declared.word.Word.{Word}
use Rattle.cr_syntax.specs.declared.word.Word.TheVariants as word
use Rattle.cr_syntax.specs.Words.{Lexeme, word_at}
use Rattle.cr_syntax.specs.Scopes.{Scopes, enter}
use Rattle.cr_syntax.specs.Trees.{Trees}
use Rattle.cr_syntax.specs.Spells.{Limit}
use Rattle.cr_syntax.specs.Reads.{is_word}
use Rattle.cr_syntax_machine.specs.Machine.{Goal, Prog, Manner, Test, Labels, anywhere, own_block, in_block, nowhere, plain, opens, the, has, Reply, Done, Failed, Runs, Allows, passes, has_word, brought, refuse, take, bar, peek, when, here, look, set, bring, call, run_take, run_deep, run_pass, run_bar, run_free, run_seen, run_unseen, run_yes, run_no, run_here, run_look, run_set, run_bring, run_call, run_fail}
use Rattle.cr_syntax_machine.specs.Machine.{unit, externals, external, statement, block, if_rest, switch_rest, while_rest, do_rest, for_rest, for_clauses, compound, items, item}
use Rattle.cr_syntax_machine.specs.MachineBody.{body, is_label, unlabelled, labelled, marked, defined}
use Rattle.cr_syntax_machine_laws.specs.MachineLaws.{end_of}
use Rattle.cr_syntax_machine_laws.proofs.MachineRuns.{reach, same, again}
use Rattle.cr_syntax.proofs.Tests.{is_of}
use Rattle.cr_syntax_machine_laws.proofs.MachineFirst.{none_true, true_false, yes, sorted}
use Rattle.cr_syntax_machine_laws.proofs.MachineEnds.{Way, barring, naming, Ends, end_refuse, end_take, end_crowded, end_pass, end_bar, end_free, end_seen, end_unseen, end_yes, end_no, end_here, end_look, end_set, end_bring, end_behind, end_inside}

-- the goal of the bare grammar
abbrev pub loose : Goal → Goal
loose (unit l d) = unit anywhere d
loose (externals l d x) = externals anywhere d x
loose (external l d) = external anywhere d
loose (statement l d) = statement anywhere d
loose (block l d) = block anywhere d
loose (if_rest l d s) = if_rest anywhere d s
loose (switch_rest l d s) = switch_rest anywhere d s
loose (while_rest l d s) = while_rest anywhere d s
loose (do_rest l d s) = do_rest anywhere d s
loose (for_rest l d s) = for_rest anywhere d s
loose (for_clauses l d s x) = for_clauses anywhere d s x
loose (compound l d) = compound anywhere d
loose (items l d s x) = items anywhere d s x
loose (item l d) = item anywhere d
loose g = g

-- The second program is the first with the goals of the bare grammar.
pub data Looser : Prog → Prog → Type 0 where
  itself : {p : Prog} → Looser p p
  with_take : {g : Manner} {x : Test} {d : ℕ} {p p' q q' : Prog} → Looser p p' → Looser q q' → Looser (take g x d p q) (take g x d p' q')
  with_bar : {x : Test} {n d : ℕ} {p p' : Prog} → Looser p p' → Looser (bar x n d p) (bar x n d p')
  with_peek : {x : Test} {p p' q q' : Prog} → Looser p p' → Looser q q' → Looser (peek x p q) (peek x p' q')
  with_when : {b : Bool} {p p' q q' : Prog} → Looser p p' → Looser q q' → Looser (when b p q) (when b p' q')
  with_here : {f f' : ℕ → Prog} → ((i : ℕ) → Looser (f i) (f' i)) → Looser (here f) (here f')
  with_look : {f f' : Scopes → Prog} → ((c : Scopes) → Looser (f c) (f' c)) → Looser (look f) (look f')
  with_set : {c : Scopes} {p p' : Prog} → Looser p p' → Looser (set c p) (set c p')
  with_bring : {n : ℕ} {b : Bool} {p p' : Prog} → Looser p p' → Looser (bring n b p) (bring n b p')
  -- a goal of the bare grammar in the place of the subset's, or the same goal
  with_call : {g : Goal} {f f' : Trees → Prog} → ((t : Trees) → Looser (f t) (f' t)) → Looser (call g f) (call (loose g) f')
  behind_call : {g : Goal} {f f' : Trees → Prog} → ((t : Trees) → Looser (f t) (f' t)) → Looser (call g f) (call g f')
  -- where no label may stand, and where no function with `...` may be defined
  no_label : {d n m : ℕ} {p p' u v z z' : Prog} → Looser p p' →
      Looser (when false z (bar (has is_label) 6 d p)) (when true (take plain (the word.Case) n u (take plain (the word.Default) m v p')) z')
  no_ellipsis : {b : Bool} {n r : ℕ} {p p' z : Prog} → Looser p p' → Looser (when b p (refuse n r)) (when true p' z)
  -- where no identifier may be a label
  no_mark : {n r : ℕ} {p z z' : Prog} → Looser (when false z (refuse n r)) (when true p z')

-- The programs of the goals.

looser_definition : (l : Labels) (d s : ℕ) (t a : Trees) → Looser (defined l d s t a) (defined anywhere d s t a)
looser_definition anywhere d s t a = itself
looser_definition own_block d s t a = no_ellipsis (with_look (λ c. with_set (with_bring (with_look (λ e. with_set (with_call (λ b. itself)))))))
looser_definition in_block d s t a = no_ellipsis (with_look (λ c. with_set (with_bring (with_look (λ e. with_set (with_call (λ b. itself)))))))
looser_definition nowhere d s t a = no_ellipsis (with_look (λ c. with_set (with_bring (with_look (λ e. with_set (with_call (λ b. itself)))))))

looser_marked : (l : Labels) (d s : ℕ) (p : Prog) → Looser (marked l d s p) (marked anywhere d s p)
looser_marked anywhere d s p = itself
looser_marked own_block d s p = with_peek (with_when (with_take (with_call (λ b. itself)) itself) itself) itself
looser_marked in_block d s p = with_peek (with_when (with_take (with_call (λ b. itself)) itself) itself) itself
looser_marked nowhere d s p = with_peek no_mark itself

looser_unlabelled : (l : Labels) (d s : ℕ) → Looser (unlabelled l d s) (unlabelled anywhere d s)
looser_unlabelled l d s = with_peek (with_call (λ t. itself)) (with_take (with_call (λ t. itself)) (with_take (with_call (λ t. itself)) (with_take (with_call (λ t. itself))
    (with_take (with_call (λ t. itself)) (with_take (with_call (λ t. itself)) (with_take itself (with_take itself (with_take itself (with_take itself (with_take itself
    (with_take (looser_marked l d s _) (behind_call (λ a. with_when (looser_marked l d s _) itself)))))))))))))

looser_labelled : (d s : ℕ) → Looser (labelled own_block d s (unlabelled own_block d s)) (labelled anywhere d s (unlabelled anywhere d s))
looser_labelled d s = with_take (behind_call (λ a. with_take (with_call (λ b. itself)) itself)) (with_take (with_take (with_call (λ b. itself)) itself) (looser_unlabelled own_block d s))

looser_statement : (l : Labels) (d : ℕ) → Looser (body (statement l d)) (body (statement anywhere d))
looser_statement anywhere d = itself
looser_statement own_block d = with_here (λ s. with_when (looser_labelled d s) (with_bar (looser_unlabelled own_block d s)))
looser_statement in_block d = with_here (λ s. no_label (looser_unlabelled in_block d s))
looser_statement nowhere d = with_here (λ s. no_label (looser_unlabelled nowhere d s))

pub looser : (g : Goal) → Looser (body g) (body (loose g))
looser (unit l d) = with_call (λ t. with_call (λ u. itself))
looser (externals l d x) = with_peek (with_call (λ t. with_call (λ u. itself))) itself
looser (external l d) = with_here (λ s. behind_call (λ t. with_take itself (with_here (λ q. behind_call (λ a. with_peek (looser_definition l d s t a) itself)))))
looser (statement l d) = looser_statement l d
looser (block l d) = with_look (λ c. with_set (with_call (λ t. itself)))
looser (if_rest l d s) = with_look (λ c. with_set (with_take (behind_call (λ a. with_take (with_call (λ b. with_when itself (with_take (with_call (λ t. itself)) itself))) itself)) itself))
looser (switch_rest l d s) = with_look (λ c. with_set (with_take (behind_call (λ a. with_take (with_bar (with_bar (with_look (λ e. with_set (with_call (λ b. itself)))))) itself)) itself))
looser (while_rest l d s) = with_look (λ c. with_set (with_take (behind_call (λ a. with_take (with_call (λ b. itself)) itself)) itself))
looser (do_rest l d s) = with_look (λ c. with_set (with_call (λ a. itself)))
looser (for_rest l d s) = with_look (λ c. with_set (with_take (with_peek (behind_call (λ t. with_call (λ u. itself))) (behind_call (λ t. with_call (λ u. itself)))) itself))
looser (for_clauses l d s x) = behind_call (λ t. with_take (with_call (λ b. itself)) (behind_call (λ u. with_take (with_call (λ b. itself)) itself)))
looser (compound l d) = with_here (λ s. with_look (λ c. with_set (with_take (with_call (λ t. itself)) itself)))
looser (items l d s x) = with_take itself (with_call (λ t. with_call (λ u. itself)))
looser (item l d) = with_peek (with_here (λ s. behind_call (λ t. with_when (looser_marked l d s _) itself))) (with_call (λ t. itself))
looser _ = itself

-- a refusal that is the subset's own: of a label, or of a token before
pub data IsOwn (ts : List Lexeme) (k : ℕ) : Way → Type 0 where
  own_label : {d : ℕ} → has_word ts k is_label ≡ true → IsOwn ts k (barring (has is_label) 6 d)
  own_earlier : {n r : ℕ} → IsOwn ts k (naming n r)

-- What the bare grammar's machine does where the subset's is refused at token k: it is refused in the same way there, or,
-- where the refusal is the subset's own, it gets as far.
pub data Follows (ts : List Lexeme) (limit : Limit) (q : Prog) (c : Scopes) (i : ℕ) (w : Way) (k : ℕ) : Type 0 where
  so_too : Ends body ts limit q c i w k → Follows ts limit q c i w k
  departs : IsOwn ts k w → ((r : Reply) → Runs body ts limit q c i r → k ≤ end_of r) → Follows ts limit q c i w k

-- the subset's machine is refused in a way of its own, at a token before j or there
pub record Departs (ts : List Lexeme) (limit : Limit) (p : Prog) (c : Scopes) (i j : ℕ) : Type 0 where
  pub way : Way
  pub at : ℕ
  pub own : IsOwn ts at way
  pub ends : Ends body ts limit p c i way at
  pub by : at ≤ j

pub label_is : (o : Option Word) → elim o as (λ _. Bool) [ None ↦ false | Some v ↦ is_label v ] ≡ true → (o ≡ Some word.Case) ⊎ (o ≡ Some word.Default)
label_is None q = none_true q
label_is (Some word.Case) q = inl refl
label_is (Some word.Default) q = inr refl
label_is (Some _) q = none_true q

pub label_yes : (ts : List Lexeme) (i : ℕ) (w : Word) → is_label w ≡ true → is_word ts i w ≡ true → has_word ts i is_label ≡ true
label_yes ts i w l y = sorted is_label true (is_of ts i w y) l

pub label_no : (ts : List Lexeme) (i : ℕ) (w : Word) → is_label w ≡ true → has_word ts i is_label ≡ false → is_word ts i w ≡ false
label_no ts i w l y = false_from_ne_true (is_word ts i w) (λ y'. both_ways (has_word ts i is_label) y (label_yes ts i w l y'))

pub label_none : (ts : List Lexeme) (i : ℕ) → is_word ts i word.Case ≡ false → is_word ts i word.Default ≡ false → has_word ts i is_label ≡ false
label_none ts i y y' = false_from_ne_true (has_word ts i is_label)
    (λ q. ⊎_elim (λ z. both_ways (is_word ts i word.Case) y (yes z)) (λ z. both_ways (is_word ts i word.Default) y' (yes z)) (label_is (word_at ts i) q))

module _ {ts : List Lexeme} {limit : Limit} where
  -- What is behind an instruction that is known.

  pub behind_take : {g : Manner} {x : Test} {d : ℕ} {p q : Prog} {c : Scopes} {i : ℕ} {r : Reply} → passes ts c i x ≡ true → Allows limit g i d →
      Runs body ts limit (take g x d p q) c i r → Runs body ts limit p c (i + 1) r
  behind_take y a (run_take y' a' h) = h
  behind_take y a (run_deep y' a') = absurd (a' a)
  behind_take y a (run_pass y' h) = cc

  pub behind_pass : {g : Manner} {x : Test} {d : ℕ} {p q : Prog} {c : Scopes} {i : ℕ} {r : Reply} → passes ts c i x ≡ false →
      Runs body ts limit (take g x d p q) c i r → Runs body ts limit q c i r
  behind_pass y (run_take y' a' h) = cc
  behind_pass y (run_deep y' a') = cc
  behind_pass y (run_pass y' h) = h

  pub behind_free : {x : Test} {n d : ℕ} {p : Prog} {c : Scopes} {i : ℕ} {r : Reply} → passes ts c i x ≡ false → Runs body ts limit (bar x n d p) c i r → Runs body ts limit p c i r
  behind_free y (run_bar y') = cc
  behind_free y (run_free y' h) = h

  pub behind_seen : {x : Test} {p q : Prog} {c : Scopes} {i : ℕ} {r : Reply} → passes ts c i x ≡ true → Runs body ts limit (peek x p q) c i r → Runs body ts limit p c i r
  behind_seen y (run_seen y' h) = h
  behind_seen y (run_unseen y' h) = cc

  pub behind_unseen : {x : Test} {p q : Prog} {c : Scopes} {i : ℕ} {r : Reply} → passes ts c i x ≡ false → Runs body ts limit (peek x p q) c i r → Runs body ts limit q c i r
  behind_unseen y (run_seen y' h) = cc
  behind_unseen y (run_unseen y' h) = h

  pub behind_yes : {b : Bool} {p q : Prog} {c : Scopes} {i : ℕ} {r : Reply} → b ≡ true → Runs body ts limit (when b p q) c i r → Runs body ts limit p c i r
  behind_yes y (run_yes y' h) = h
  behind_yes y (run_no y' h) = cc

  pub behind_no : {b : Bool} {p q : Prog} {c : Scopes} {i : ℕ} {r : Reply} → b ≡ false → Runs body ts limit (when b p q) c i r → Runs body ts limit q c i r
  behind_no y (run_yes y' h) = cc
  behind_no y (run_no y' h) = h

  pub behind_here : {f : ℕ → Prog} {c : Scopes} {i : ℕ} {r : Reply} → Runs body ts limit (here f) c i r → Runs body ts limit (f i) c i r
  behind_here (run_here h) = h

  pub behind_look : {f : Scopes → Prog} {c : Scopes} {i : ℕ} {r : Reply} → Runs body ts limit (look f) c i r → Runs body ts limit (f c) c i r
  behind_look (run_look h) = h

  pub behind_set : {p : Prog} {c e : Scopes} {i : ℕ} {r : Reply} → Runs body ts limit (set e p) c i r → Runs body ts limit p e i r
  behind_set (run_set h) = h

  pub behind_bring : {n : ℕ} {b : Bool} {p : Prog} {c : Scopes} {i : ℕ} {r : Reply} → Runs body ts limit (bring n b p) c i r → Runs body ts limit p (enter (brought ts i n b) c) i r
  behind_bring (run_bring h) = h

  pub behind_goal : {g : Goal} {f : Trees → Prog} {t : Trees} {c e : Scopes} {i j : ℕ} {r : Reply} → Runs body ts limit (body g) c i (Done t e j) →
      Runs body ts limit (call g f) c i r → Runs body ts limit (f t) e j r
  behind_goal {f = f} {r = r} h (run_call h' k) = again (λ t e j. Runs body ts limit (f t) e j r) (same h h') k
  behind_goal h (run_fail h') = let q = same h h' in cc

  -- What is read.

  pub loosened : {p q : Prog} {c : Scopes} {i : ℕ} {t : Trees} {e : Scopes} {j : ℕ} → Looser p q → Runs body ts limit p c i (Done t e j) → Runs body ts limit q c i (Done t e j)
  loosened itself h = h
  loosened (with_take y y') (run_take x a h) = run_take x a (loosened y h)
  loosened (with_take y y') (run_pass x h) = run_pass x (loosened y' h)
  loosened (with_bar y) (run_free x h) = run_free x (loosened y h)
  loosened (with_peek y y') (run_seen x h) = run_seen x (loosened y h)
  loosened (with_peek y y') (run_unseen x h) = run_unseen x (loosened y' h)
  loosened (with_when y y') (run_yes x h) = run_yes x (loosened y h)
  loosened (with_when y y') (run_no x h) = run_no x (loosened y' h)
  loosened {i = i} (with_here y) (run_here h) = run_here (loosened (y i) h)
  loosened {c = c} (with_look y) (run_look h) = run_look (loosened (y c) h)
  loosened (with_set y) (run_set h) = run_set (loosened y h)
  loosened (with_bring y) (run_bring h) = run_bring (loosened y h)
  loosened (with_call {g = g} y) (run_call {t = t} h k) = run_call (loosened (looser g) h) (loosened (y t) k)
  loosened (behind_call y) (run_call {t = t} h k) = run_call h (loosened (y t) k)
  loosened {i = i} (no_label y) (run_no x (run_free x' h)) = run_yes refl (run_pass (label_no ts i word.Case refl x') (run_pass (label_no ts i word.Default refl x') (loosened y h)))
  loosened (no_label y) (run_yes x h) = none_true x
  loosened (no_ellipsis y) (run_no x h) = elim h [ ]
  loosened (no_ellipsis y) (run_yes x h) = run_yes refl (loosened y h)
  loosened no_mark (run_no x h) = elim h [ ]
  loosened no_mark (run_yes x h) = none_true x

  -- What is refused.

  onward : {p q : Prog} {c e : Scopes} {i j k : ℕ} {w : Way} → Follows ts limit p c i w k → (Ends body ts limit p c i w k → Ends body ts limit q e j w k) →
      ((r : Reply) → Runs body ts limit q e j r → Runs body ts limit p c i r) → Follows ts limit q e j w k
  onward (so_too z) f g = so_too (f z)
  onward (departs o z) f g = departs o (λ r h. z r (g r h))

  within_goal : {g : Goal} {f : Trees → Prog} {c : Scopes} {i k : ℕ} {w : Way} → Follows ts limit (body g) c i w k → Follows ts limit (call g f) c i w k
  within_goal (so_too z) = so_too (end_inside z)
  within_goal {g = g} {f = f} {c = c} {i = i} {k = k} (departs o z) = departs o so
    where
      so : (r : Reply) → Runs body ts limit (call g f) c i r → k ≤ end_of r
      so r (run_call {t = t} {e = e} {j = j} h h') = let n = z (Done t e j) h in let n' = reach h' in omega arith
      so r (run_fail {k = n} {x = x} h) = z (Failed x n) h

  pub followed : {p q : Prog} {c : Scopes} {i k : ℕ} {w : Way} → Looser p q → Ends body ts limit p c i w k → Follows ts limit q c i w k
  followed itself z = so_too z
  followed (with_take y y') (end_take x a z) = onward (followed y z) (end_take x a) (λ r. behind_take x a)
  followed (with_take y y') (end_crowded x a) = so_too (end_crowded x a)
  followed (with_take y y') (end_pass x z) = onward (followed y' z) (end_pass x) (λ r. behind_pass x)
  followed (with_bar y) (end_bar x) = so_too (end_bar x)
  followed (with_bar y) (end_free x z) = onward (followed y z) (end_free x) (λ r. behind_free x)
  followed (with_peek y y') (end_seen x z) = onward (followed y z) (end_seen x) (λ r. behind_seen x)
  followed (with_peek y y') (end_unseen x z) = onward (followed y' z) (end_unseen x) (λ r. behind_unseen x)
  followed (with_when y y') (end_yes x z) = onward (followed y z) (end_yes x) (λ r. behind_yes x)
  followed (with_when y y') (end_no x z) = onward (followed y' z) (end_no x) (λ r. behind_no x)
  followed {i = i} (with_here y) (end_here z) = onward (followed (y i) z) end_here (λ r. behind_here)
  followed {c = c} (with_look y) (end_look z) = onward (followed (y c) z) end_look (λ r. behind_look)
  followed (with_set y) (end_set z) = onward (followed y z) end_set (λ r. behind_set)
  followed (with_bring y) (end_bring z) = onward (followed y z) end_bring (λ r. behind_bring)
  followed (with_call {g = g} y) (end_behind {t = t} h z) = let h' = loosened (looser g) h in onward (followed (y t) z) (end_behind h') (λ r. behind_goal h')
  followed (with_call {g = g} y) (end_inside z) = within_goal (followed (looser g) z)
  followed (behind_call y) (end_behind {t = t} h z) = onward (followed (y t) z) (end_behind h) (λ r. behind_goal h)
  followed (behind_call y) (end_inside z) = so_too (end_inside z)
  followed (no_label y) (end_yes x z) = none_true x
  followed (no_label y) (end_no x (end_bar x')) = departs (own_label x') (λ r h. reach h)
  followed {i = i} (no_label y) (end_no x (end_free x' z)) =
      let v = label_no ts i word.Case refl x' in
      let v' = label_no ts i word.Default refl x' in
      onward (followed y z) (λ z'. end_yes refl (end_pass v (end_pass v' z'))) (λ r h. behind_pass v' (behind_pass v (behind_yes refl h)))
  followed (no_ellipsis y) (end_yes x z) = onward (followed y z) (end_yes refl) (λ r. behind_yes refl)
  followed (no_ellipsis y) (end_no x end_refuse) = departs own_earlier (λ r h. reach h)
  followed no_mark (end_no x end_refuse) = departs own_earlier (λ r h. reach h)
  followed no_mark (end_yes x z) = none_true x

  -- What the bare grammar's machine reads, the subset's reads or refuses in a way of its own.

  pub part_way : {p q : Prog} {c e : Scopes} {i i' j j' : ℕ} → Departs ts limit p c i j → j ≤ j' → ((w : Way) (k : ℕ) → Ends body ts limit p c i w k → Ends body ts limit q e i' w k) →
      Departs ts limit q e i' j'
  part_way d le f = let n = d.by in record { way = d.way; at = d.at; own = d.own; ends = f d.way d.at d.ends; by = omega arith }

  or_part : {p q : Prog} {c e : Scopes} {i i' j : ℕ} {t : Trees} {s : Scopes} → Runs body ts limit p c i (Done t s j) ⊎ Departs ts limit p c i j →
      (Runs body ts limit p c i (Done t s j) → Runs body ts limit q e i' (Done t s j)) → ((w : Way) (k : ℕ) → Ends body ts limit p c i w k → Ends body ts limit q e i' w k) →
      Runs body ts limit q e i' (Done t s j) ⊎ Departs ts limit q e i' j
  or_part x f g = ⊎_elim (λ h. inl (f h)) (λ d. inr (part_way d (omega arith) g)) x

  at_label : {d : ℕ} {p z : Prog} {c : Scopes} {i j : ℕ} → has_word ts i is_label ≡ true → i ≤ j → Departs ts limit (when false z (bar (has is_label) 6 d p)) c i j
  at_label {d = d} {i = i} y le = record { way = barring (has is_label) 6 d; at = i; own = own_label y; ends = end_no refl (end_bar y); by = le }

  at_earlier : {b : Bool} {n r : ℕ} {p : Prog} {c : Scopes} {i j : ℕ} → b ≡ false → i ≤ j → Departs ts limit (when b p (refuse n r)) c i j
  at_earlier {n = n} {r = r} {i = i} y le = record { way = naming n r; at = i; own = own_earlier; ends = end_no y end_refuse; by = le }

  pub tightened : {q p : Prog} {c : Scopes} {i : ℕ} {t : Trees} {e : Scopes} {j : ℕ} → Looser p q → Runs body ts limit q c i (Done t e j) →
      Runs body ts limit p c i (Done t e j) ⊎ Departs ts limit p c i j
  tightened itself h = inl h
  tightened (with_take y y') (run_take x a h) = or_part (tightened y h) (run_take x a) (λ w k. end_take x a)
  tightened (with_take y y') (run_pass x h) = or_part (tightened y' h) (run_pass x) (λ w k. end_pass x)
  tightened (with_bar y) (run_free x h) = or_part (tightened y h) (run_free x) (λ w k. end_free x)
  tightened (with_peek y y') (run_seen x h) = or_part (tightened y h) (run_seen x) (λ w k. end_seen x)
  tightened (with_peek y y') (run_unseen x h) = or_part (tightened y' h) (run_unseen x) (λ w k. end_unseen x)
  tightened (with_when y y') (run_yes x h) = or_part (tightened y h) (run_yes x) (λ w k. end_yes x)
  tightened (with_when y y') (run_no x h) = or_part (tightened y' h) (run_no x) (λ w k. end_no x)
  tightened {i = i} (with_here y) (run_here h) = or_part (tightened (y i) h) run_here (λ w k. end_here)
  tightened {c = c} (with_look y) (run_look h) = or_part (tightened (y c) h) run_look (λ w k. end_look)
  tightened (with_set y) (run_set h) = or_part (tightened y h) run_set (λ w k. end_set)
  tightened (with_bring y) (run_bring h) = or_part (tightened y h) run_bring (λ w k. end_bring)
  tightened (with_call {g = g} y) (run_call {t = t} h k) =
      let n = reach k in
      ⊎_elim (λ h'. or_part (tightened (y t) k) (run_call h') (λ w k. end_behind h')) (λ d. inr (part_way d n (λ w k. end_inside))) (tightened (looser g) h)
  tightened (behind_call y) (run_call {t = t} h k) = or_part (tightened (y t) k) (run_call h) (λ w k. end_behind h)
  tightened (no_label y) (run_no x h) = true_false x
  tightened (no_ellipsis y) (run_no x h) = true_false x
  tightened {i = i} (no_label y) (run_yes x (run_take x' a h)) = inr (at_label (label_yes ts i word.Case refl x') (let n = reach h in omega arith))
  tightened {i = i} (no_label y) (run_yes x (run_pass x' (run_take x'' a h))) = inr (at_label (label_yes ts i word.Default refl x'') (let n = reach h in omega arith))
  tightened {i = i} (no_label y) (run_yes x (run_pass x' (run_pass x'' h))) =
      let v = label_none ts i x' x'' in
      or_part (tightened y h) (λ h'. run_no refl (run_free v h')) (λ w k z. end_no refl (end_free v z))
  tightened (no_ellipsis {b = b} y) (run_yes x h) = ⊎_elim (λ q. or_part (tightened y h) (run_yes q) (λ w k. end_yes q)) (λ q. inr (at_earlier q (reach h))) (cases_Bool b)
  tightened no_mark (run_yes x h) = inr (at_earlier refl (reach h))
  tightened no_mark (run_no x h) = true_false x
