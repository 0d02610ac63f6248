-- What is spelled, the machine reads; and so the tokens of an expression have one tree.
use Rattle.std.proofs.Common.{◌≡◌, ℕ, zero, suc, ◌+◌, ◌<◌, ◌≤◌, List, [], ◌∷◌, length, None, Some, refl, sym, ap, subst, ◌∙◌, arith}
use Rattle.std.specs.Prelude.{slice_get}
use Rattle.cr_syntax.specs.declared.word.Word.{Word}
use Rattle.cr_syntax.specs.declared.part.Part.{Part}
use Rattle.cr_syntax.specs.declared.part.Part.TheVariants as part
use Rattle.cr_syntax.specs.declared.part.Context.{Context}
use Rattle.cr_syntax.specs.Words.{Lexeme}
use Rattle.cr_syntax.specs.Scopes.{Scopes}
use Rattle.cr_syntax.specs.Trees.{Trees}
use Rattle.cr_syntax.specs.Spells.{Limit, Free, AtMost, Upto, Phrase, Spells, a}
use Rattle.cr_syntax_machine.specs.Machine.{Prog, Manner, Allows, Reply, Cause, Done, Failed, Runs}
use Rattle.cr_syntax_machine.specs.Machine as m
use Rattle.cr_syntax.specs.Expressions.{Start, Spelled, BeginsFrom, RunEnds}
use Rattle.cr_syntax_machine.specs.MachineBody.{body, start_goal}
use Rattle.cr_syntax_machine_laws.specs.MachineLaws.{end_of, IsFree, IsStart, start_expression, start_assignment, start_conditional}
use Rattle.cr_syntax_machine_laws.proofs.MachineRuns.{same, local, OnDone, word_in, relimited, StaysRefused}
use Rattle.cr_syntax_machine_laws.proofs.MachineFirst.{lower}
use Rattle.cr_syntax_machine_laws.proofs.MachineSound.{runs_sound}
use Rattle.cr_syntax_machine_laws.proofs.MachineTasks.{Task, Completes, Smaller, measure}
use Rattle.cr_syntax_machine_laws.proofs.MachineTasks as task
use Rattle.cr_syntax_machine_laws.proofs.MachineExpressions.{level_reads, expression_reads, assignment_reads, conditional_reads, cast_reads, unary_reads, postfix_reads, arguments_read, at_level, at_assignment, at_unary, whole_expression}
use Rattle.cr_syntax_machine_laws.proofs.MachineTypes.{element_reads, elements_read, specifiers_read, plain_specifiers_read, type_name_reads, member_list_reads, member_reads, members_read, enumerators_read, enumerator_reads}
use Rattle.cr_syntax_machine_laws.proofs.MachineDeclarators.{declarator_reads, direct_reads, abstract_reads, direct_abstract_reads, parameters_read, parameter_list_reads, variadic_list_reads, parameter_reads}
use Rattle.cr_syntax_machine_laws.proofs.MachineDeclarations.{initializer_reads, initializers_read, init_declarators_read, declaration_reads, external_reads, externals_read}
use Rattle.cr_syntax_machine_laws.proofs.MachineStatements.{statement_reads, compound_reads, items_read, item_reads}

module _ (ts : List Lexeme) (limit : Limit) where
  reads : (n : ℕ) → Smaller ts limit n → {p : Phrase} {h : Context} {c e : Scopes} {d i j : ℕ} {t : Trees} (k : Task p) (s : Spells ts limit p h c e d t i j) → measure s < suc n →
      Completes ts limit k h c e d t i j
  reads n b task.expression s lt = expression_reads ts limit n b s lt
  reads n b {h = h} task.assignment s lt = assignment_reads ts limit n b h (at_assignment ts limit s lt)
  reads n b task.conditional s lt = conditional_reads ts limit n b s lt
  reads n b {h = h} (task.level p l) s lt = level_reads ts limit n b p l h (at_level ts limit p l s lt)
  reads n b task.cast s lt = cast_reads ts limit n b s lt
  reads n b {h = h} task.unary s lt = unary_reads ts limit n b h (at_unary ts limit s lt)
  reads n b task.postfix s lt = postfix_reads ts limit n b s lt
  reads n b task.arguments s lt = arguments_read ts limit n b s lt
  reads n b task.type_name s lt = type_name_reads ts limit n b s lt
  reads n b task.specifiers s lt = specifiers_read ts limit n b s lt
  reads n b task.plain_specifiers s lt = plain_specifiers_read ts limit n b s lt
  reads n b (task.element p) s lt = element_reads ts limit n b p s lt
  reads n b (task.elements p) s lt = elements_read ts limit n b p s lt
  reads n b task.member s lt = member_reads ts limit n b s lt
  reads n b task.members s lt = members_read ts limit n b s lt
  reads n b task.member_list s lt = member_list_reads ts limit n b s lt
  reads n b task.enumerators s lt = enumerators_read ts limit n b s lt
  reads n b task.enumerator s lt = enumerator_reads ts limit n b s lt
  reads n b task.declarator s lt = declarator_reads ts limit n b s lt
  reads n b task.direct s lt = direct_reads ts limit n b s lt
  reads n b task.abstract s lt = abstract_reads ts limit n b s lt
  reads n b task.direct_abstract s lt = direct_abstract_reads ts limit n b s lt
  reads n b task.parameters s lt = parameters_read ts limit n b s lt
  reads n b task.parameter s lt = parameter_reads ts limit n b s lt
  reads n b task.parameter_list s lt = parameter_list_reads ts limit n b s lt
  reads n b task.variadic_list s lt = variadic_list_reads ts limit n b s lt
  reads n b task.external s lt = external_reads ts limit n b s lt
  reads n b task.externals s lt = externals_read ts limit n b s lt
  reads n b task.declaration s lt = declaration_reads ts limit n b s lt
  reads n b task.init_declarators s lt = init_declarators_read ts limit n b s lt
  reads n b task.initializer s lt = initializer_reads ts limit n b s lt
  reads n b task.initializers s lt = initializers_read ts limit n b s lt
  reads n b task.statement s lt = statement_reads ts limit n b s lt
  reads n b task.compound s lt = compound_reads ts limit n b s lt
  reads n b task.items s lt = items_read ts limit n b s lt
  reads n b task.item s lt = item_reads ts limit n b s lt

  smaller : (n : ℕ) → Smaller ts limit n
  smaller zero = record { read = λ k s lt. absurd (omega arith) }
  smaller (suc n) = record { read = reads n (smaller n) }

  -- what is spelled, the machine reads
  pub completes : {p : Phrase} {h : Context} {c e : Scopes} {d i j : ℕ} {t : Trees} (k : Task p) (s : Spells ts limit p h c e d t i j) → Completes ts limit k h c e d t i j
  completes k s = (smaller (suc (measure s))).read k s (omega arith)

  pub spelled_is_read : {p : Part} {h : Context} {c e : Scopes} {d i j : ℕ} {t : Trees} → IsStart p → Spells ts limit (a p) h c e d t i j → IsFree ts 13 j →
      Runs body ts limit (body (start_goal p d)) c i (Done t e j)
  spelled_is_read start_expression s f = whole_expression ts limit (suc (measure s)) (smaller (suc (measure s))) s (omega arith) f
  spelled_is_read start_assignment s f = completes task.assignment s (lower f (omega arith))
  spelled_is_read start_conditional s f = completes task.conditional s (lower f (omega arith))

  pub read_is_spelled : {p : Part} (h : Context) {c e : Scopes} {d i j : ℕ} {t : Trees} → IsStart p → Runs body ts limit (body (start_goal p d)) c i (Done t e j) → Spells ts limit (a p) h c e d t i j
  read_is_spelled h {c = c} {e = e} {d = d} {i = i} {j = j} {t = t} start_expression x = runs_sound (start_goal part.Expression d) c e i j t x h
  read_is_spelled h {c = c} {e = e} {d = d} {i = i} {j = j} {t = t} start_assignment x = runs_sound (start_goal part.Assignment d) c e i j t x h
  read_is_spelled h {c = c} {e = e} {d = d} {i = i} {j = j} {t = t} start_conditional x = runs_sound (start_goal part.Conditional d) c e i j t x h

-- behind the last token nothing goes on
pub get_past : (ts : List Lexeme) → slice_get ts (length ts) ≡ None
get_past [] = refl
get_past (x ∷ ts) = get_past ts

pub free_at_end : (ts : List Lexeme) (n : ℕ) → IsFree ts n (length ts)
free_at_end ts n = record { all = λ w q. none_some (sym (ap word_in (get_past ts)) ∙ q) }
  where
    none_some : {A : Type 0} {w : Word} → None ≡ Some w → A
    none_some q = cc

pub done_alike : {t u : Trees} {e f : Scopes} {i j : ℕ} → Done t e i ≡ Done u f j → (t ≡ u) × (e ≡ f)
done_alike {t = t} {e = e} q = subst (λ r. OnDone r (λ u f k. (t ≡ u) × (e ≡ f))) q (refl, refl)

pub one_tree : {ts : List Lexeme} {limit : Limit} {p : Part} {h h' : Context} {c e f : Scopes} {d i : ℕ} {t u : Trees} → IsStart p →
    Spells ts limit (a p) h c e d t i (length ts) → Spells ts limit (a p) h' c f d u i (length ts) → (t ≡ u) × (e ≡ f)
one_tree {ts = ts} {limit = limit} k s s' = done_alike (same (spelled_is_read ts limit k s (free_at_end ts 13)) (spelled_is_read ts limit k s' (free_at_end ts 13)))

-- A run that no level stops is one without a limit.

abbrev pub IsNotDeep : Reply → Type 0
IsNotDeep (Done t e j) = Unit {0}
IsNotDeep (Failed x k) = x ≡ m.too_deep → ⊥

pub allows_free : (g : Manner) (i d : ℕ) → Allows Free g i d
allows_free m.plain i d = tt
allows_free m.opens i d = tt
allows_free m.reopens i d = (tt, tt)

pub unlimited : {ts : List Lexeme} {limit : Limit} {p : Prog} {c : Scopes} {i : ℕ} {r : Reply} → Runs body ts limit p c i r → IsNotDeep r → Runs body ts Free p c i r
unlimited {limit = limit} {r = r} h n = relimited (λ g i d lt w. allows_free g i d) (by r n) h
  where
    by : (r : Reply) → IsNotDeep r → StaysRefused limit Free r
    by (Done t e j) n = tt
    by (Failed x k) n = λ e. absurd (n e)

pub get_some : (ts : List Lexeme) (i : ℕ) → i < length ts → (x : Lexeme) × (slice_get ts i ≡ Some x)
get_some [] i lt = absurd (omega arith)
get_some (x ∷ ts) zero lt = (x, refl)
get_some (x ∷ ts) (suc i) lt = get_some ts i (omega arith)

-- the tokens of a list, in a text that begins with them
pub begun_same : (ts us : List Lexeme) (k : ℕ) → ((i : ℕ) (x : Lexeme) → i < k → slice_get ts i ≡ Some x → slice_get us i ≡ Some x) → (n : ℕ) → n < k → n < length ts → slice_get us n ≡ slice_get ts n
begun_same ts us k f n lt far = let w = get_some ts n far in f n w.0 lt w.1 ∙ sym w.1

-- a text that goes on with token k is read to its end, so the answer isn't at k
goes_on : {ts : List Lexeme} {limit : Limit} (s : Start) {r : Reply} → IsStart s.part → IsNotDeep r → Runs body ts limit (body (start_goal s.part s.depth)) s.scopes s.at r →
    end_of r < length ts → (b : BeginsFrom Free ts s (end_of r + 1)) → r ≡ Done b.trees b.continues.spelled.after (length b.continues.text)
goes_on {ts = ts} s {r = r} k n h lt b =
    same (local (unlimited h n) alike) (spelled_is_read b.continues.text Free k b.continues.spelled.spells (free_at_end b.continues.text 13))
  where
    alike : (i : ℕ) → i ≤ end_of r → slice_get b.continues.text i ≡ slice_get ts i
    alike i le = begun_same ts b.continues.text (end_of r + 1) b.continues.alike i (omega arith) (omega arith)

pub longest : {ts : List Lexeme} {limit : Limit} (s : Start) {e : Scopes} {j : ℕ} {t : Trees} → IsStart s.part →
    Runs body ts limit (body (start_goal s.part s.depth)) s.scopes s.at (Done t e j) → RunEnds ts s j
longest s {j = j} k h lt b = let le = b.continues.reaches in let q : j ≡ length b.continues.text = ap end_of (goes_on s k tt h lt b) in absurd (omega arith)

pub refused : {ts : List Lexeme} {limit : Limit} (s : Start) {x : Cause} {k : ℕ} → IsStart s.part → (x ≡ m.too_deep → ⊥) →
    Runs body ts limit (body (start_goal s.part s.depth)) s.scopes s.at (Failed x k) → RunEnds ts s k
refused s k n h lt b = let q = goes_on s k n h lt b in cc

-- A run within a limit is one within it up to a token behind the answer's.

pub allows_upto : (n most : ℕ) (g : Manner) (i d : ℕ) → Allows (AtMost most) g i d → Allows (Upto n most) g i d
allows_upto n most m.plain i d w = tt
allows_upto n most m.opens i d w = λ lt. w
allows_upto n most m.reopens i d w = (tt, λ lt. w.1)

refuses_upto : (n most : ℕ) (g : Manner) (i d : ℕ) → i < n → (Allows (AtMost most) g i d → ⊥) → Allows (Upto n most) g i d → ⊥
refuses_upto n most m.plain i d lt w v = w tt
refuses_upto n most m.opens i d lt w v = w (v lt)
refuses_upto n most m.reopens i d lt w v = w (tt, v.1 lt)

pub upto : {ts : List Lexeme} {most : ℕ} {p : Prog} {c : Scopes} {i : ℕ} {r : Reply} (n : ℕ) → end_of r < n → Runs body ts (AtMost most) p c i r → Runs body ts (Upto n most) p c i r
upto {most = most} {r = r} n lt h = relimited (λ g i d lt' w. allows_upto n most g i d w) (by r lt) h
  where
    by : (r : Reply) → end_of r < n → StaysRefused (AtMost most) (Upto n most) r
    by (Done t e j) lt = tt
    by (Failed x k) lt = λ e g d w. refuses_upto n most g k d lt w

pub refused_within : {ts : List Lexeme} {most : ℕ} (s : Start) {x : Cause} {k : ℕ} → IsStart s.part → k < length ts →
    Runs body ts (AtMost most) (body (start_goal s.part s.depth)) s.scopes s.at (Failed x k) → BeginsFrom (Upto (k + 1) most) ts s (k + 1) → ⊥
refused_within {ts = ts} {most = most} s {k = k} z lt h b =
    let q = same (local (upto (k + 1) (omega arith) h) alike) (spelled_is_read b.continues.text (Upto (k + 1) most) z b.continues.spelled.spells (free_at_end b.continues.text 13)) in cc
  where
    alike : (i : ℕ) → i ≤ k → slice_get b.continues.text i ≡ slice_get ts i
    alike i le = begun_same ts b.continues.text (k + 1) b.continues.alike i (omega arith) (omega arith)

-- a list that is refused at its end spells no tree
pub ended_is_none : {ts : List Lexeme} {limit : Limit} (s : Start) {x : Cause} {t : Trees} → IsStart s.part → (x ≡ m.too_deep → ⊥) →
    Runs body ts limit (body (start_goal s.part s.depth)) s.scopes s.at (Failed x (length ts)) → Spelled Free ts s (length ts) t → ⊥
ended_is_none {ts = ts} s z n h y = let q = same (unlimited h n) (spelled_is_read ts Free z y.spells (free_at_end ts 13)) in cc
