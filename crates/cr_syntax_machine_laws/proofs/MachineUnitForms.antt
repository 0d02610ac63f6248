-- A row of the refused forms that names a token of a unit behind a tree, or where one begins: the machine refuses the token there.
use Rattle.std.proofs.Common.{◌≡◌, ℕ, ◌<◌, ◌≤◌, Bool, true, ◌&&◌, ◌==◌, ap, List, length, Some, ◌⊎◌, ⊎_elim, refl, sym, subst, ◌∙◌, arith}
use Rattle.std.specs.Prelude.{slice_get}
use Rattle.cr_syntax.specs.declared.word.Word.{Word}
use Rattle.cr_syntax.specs.declared.word.Word.TheVariants as word
use Rattle.cr_syntax.specs.declared.node.Kind.{Kind}
use Rattle.cr_syntax.specs.Words.{Lexeme}
use Rattle.cr_syntax.specs.Scopes.{Scopes}
use Rattle.cr_syntax.specs.Trees.{Trees}
use Rattle.cr_syntax.specs.Context.{fresh}
use Rattle.cr_syntax.specs.Spells.{Limit, AtMost, Upto, Is, Spells, rest}
use Rattle.cr_syntax.specs.Units.{unit_side, file_scope, most_levels, Completes, Shows, initializer_at, cast_operand_at, postfix_before, member_before, switch_body_at, begins_statement}
use Rattle.cr_syntax_machine.specs.Machine.{unit, anywhere, nowhere, Labels, Done, Failed, Runs}
use Rattle.cr_syntax_machine.specs.MachineBody.{body}
use Rattle.cr_syntax.proofs.Tests.{some_one}
use Rattle.cr_syntax_machine_laws.proofs.MachineRuns.{same, word_same}
use Rattle.cr_syntax_machine_laws.proofs.MachineComplete.{begun_same}
use Rattle.cr_syntax_machine_laws.proofs.MachineEnds.{Way, barring, Ends, refused_so, cause_by}
use Rattle.cr_syntax_machine_laws.proofs.MachineWays.{at, same_way}
use Rattle.cr_syntax_machine_laws.proofs.MachineMarks.{Barred}
use Rattle.cr_syntax_machine_laws.proofs.MachineForms.{Form, literal, calling, field, dotted, indexed, case_body, default_body, statement_body, row_of, token_of, mark, asks_unit, has_all, literal_mark, calling_mark, field_mark, designator_mark, switch_mark, barred_there, within, allows_before, IsBarring, by_row}
use Rattle.cr_syntax_machine_laws.proofs.MachineLoose.{IsOwn, so_too, departs, looser, loosened, followed}

-- what is a unit, the bare grammar's machine reads
abbrev pub ReadsUnits : Type 0
ReadsUnits = (us : List Lexeme) (limit : Limit) (t : Trees) (e : Scopes) → Spells us limit (rest unit_side) fresh file_scope e 0 t 0 (length us) →
    Runs body us limit (body (unit anywhere 0)) file_scope 0 (Done t e (length us))

-- the tokens of a list, as the text has them that it begins
pub same_token : {limit : Limit} {ts : List Lexeme} {k : ℕ} {t : Trees} (b : Completes limit ts k t) (n : ℕ) → n < k → n < length ts → slice_get b.text n ≡ slice_get ts n
same_token {ts = ts} {k = k} b n lt far = begun_same ts b.text k b.alike n lt far

pub token_in : {limit : Limit} {ts : List Lexeme} {k : ℕ} {t : Trees} (b : Completes limit ts k t) (n : ℕ) {w : Word} → n < k → Is ts n w → Is b.text n w
token_in {ts = ts} b n lt q = word_same ts b.text n (same_token b n lt (within ts n q)) ∙ q

-- token k of a unit is refused by row n
abbrev pub IsBarred : List Lexeme → Labels → ℕ → ℕ → Type 0
IsBarred ts l n k = Barred body ts (AtMost most_levels) n k (body (unit l 0)) file_scope 0

abbrev pub UnitEnds : List Lexeme → Labels → Way → ℕ → Type 0
UnitEnds ts l w k = Ends body ts (AtMost most_levels) (body (unit l 0)) file_scope 0 w k

module _ (complete : ReadsUnits) {ts : List Lexeme} {k : ℕ} where
  unit_form : (r : Form) {w : Word} {test : Kind → ℕ → ℕ → Trees → Bool} → asks_unit r ≡ true → token_of r ≡ Some w → Is ts k w →
      ((l : Kind) (i j : ℕ) (b : Trees) → test l i j b ≡ true → mark r k l i j b ≡ true) → Shows ts k test → IsBarred ts anywhere (row_of r) k
  unit_form r z o q f b =
      let us = b.completes.text in
      let u = b.completes.is_unit in
      ⊎_elim (λ x. absurd (x z (has_all f b.has))) (λ x. x.1)
      (barred_there ts us (Upto k most_levels) (AtMost most_levels) r k (λ v o'. subst (λ x. Is ts k x) (some_one (sym o ∙ o')) q)
      (λ n lt. let le = within ts k q in same_token b.completes n lt (omega arith)) (allows_before k most_levels) (unit anywhere 0)
      (complete us (Upto k most_levels) b.trees u.after u.spells))

  pub designator_is_barred : Is ts k word.Dot ⊎ Is ts k word.LeftBracket → Shows ts k (initializer_at k) → IsBarred ts anywhere 2 k
  designator_is_barred q b = ⊎_elim (λ x. unit_form dotted refl refl x (designator_mark dotted refl k) b) (λ x. unit_form indexed refl refl x (designator_mark indexed refl k) b) q

  pub literal_is_barred : Is ts k word.LeftBrace → Shows ts k (cast_operand_at k) → IsBarred ts anywhere 3 k
  literal_is_barred q b = unit_form literal refl refl q (literal_mark k) b

  pub call_is_barred : Is ts k word.LeftParen → Shows ts k (postfix_before k) → IsBarred ts anywhere 4 k
  call_is_barred q b = unit_form calling refl refl q (calling_mark k) b

  pub field_is_barred : Is ts k word.Colon → Shows ts k (member_before k) → IsBarred ts anywhere 5 k
  field_is_barred q b = unit_form field refl refl q (field_mark k) b

  pub body_label_is_barred : (s : ℕ) → Is ts k word.Case ⊎ Is ts k word.Default → Shows ts k (switch_body_at s k) → IsBarred ts anywhere 6 k
  body_label_is_barred s q b = ⊎_elim
      (λ x. unit_form (case_body s) refl refl x (switch_mark (case_body s) s (λ i. refl) k) b)
      (λ x. unit_form (default_body s) refl refl x (switch_mark (default_body s) s (λ i. refl) k) b) q

  pub body_is_barred : (s : ℕ) {w : Word} → Is ts k w → begins_statement w ≡ true → Shows ts k (switch_body_at s k) → IsBarred ts anywhere 7 k
  body_is_barred s {w = w} q y b = unit_form (statement_body s w) refl refl q (switch_mark (statement_body s w) s (λ i. ap (λ x. x && (i == s)) y) k) b

-- Where the bare grammar's machine refuses token k by a row, the subset's refuses it so, or refuses it, or one before, in a way of its own.
pub data Refuses (ts : List Lexeme) (n k : ℕ) (w : Way) (j : ℕ) : Type 0 where
  by_that_row : IsBarring n k (at w j) → Refuses ts n k w j
  by_its_own : IsOwn ts j w → j ≤ k → Refuses ts n k w j

pub bars_too : {ts : List Lexeme} {n k j : ℕ} {w : Way} → IsBarred ts anywhere n k → UnitEnds ts nowhere w j → Refuses ts n k w j
bars_too {ts = ts} {n = n} {k = k} {j = j} {w = w} b z = elim (followed (looser (unit nowhere 0)) z) [
  | so_too z' ↦ by_that_row (subst (λ p. IsBarring n k p) (same_way b.ends z') by_row)
  | departs o f ↦ by_its_own o (f (Failed (cause_by ts k (barring b.test n b.level)) k) (refused_so b.ends))
]

-- what the subset's machine reads the bare grammar's reads, and what it refuses, but in a way of its own, that refuses so
pub reads_loosely : {ts : List Lexeme} {limit : Limit} {t : Trees} {e : Scopes} {j : ℕ} → Runs body ts limit (body (unit nowhere 0)) file_scope 0 (Done t e j) →
    Runs body ts limit (body (unit anywhere 0)) file_scope 0 (Done t e j)
reads_loosely h = loosened (looser (unit nowhere 0)) h

pub bars_none : {ts : List Lexeme} {n k j : ℕ} {t : Trees} {e : Scopes} → IsBarred ts anywhere n k → Runs body ts (AtMost most_levels) (body (unit nowhere 0)) file_scope 0 (Done t e j) → ⊥
bars_none b h = let q = same (reads_loosely h) (refused_so b.ends) in cc
