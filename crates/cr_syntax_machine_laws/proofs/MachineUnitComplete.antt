-- The machine reads each unit, and so the tokens of a unit have one tree.
use Rattle.std.proofs.Common.{◌≡◌, ℕ, Bool, true, false, List, length, None, Some, refl, ap, subst}
use Rattle.cr_syntax.specs.declared.part.Context.{Context}
use Rattle.cr_syntax.specs.Words.{Lexeme, word_at}
use Rattle.cr_syntax.specs.Scopes.{Scopes}
use Rattle.cr_syntax.specs.Trees.{Trees, none, ◌&◌}
use Rattle.cr_syntax.specs.Spells.{Limit, Spells, rest}
use Rattle.cr_syntax.specs.Spells as spells
use Rattle.cr_syntax.specs.Units.{IsUnit, unit_side, file_scope}
use Rattle.cr_syntax_machine.specs.Machine.{Runs, Done, has_word, run_call}
use Rattle.cr_syntax_machine.specs.Machine as m
use Rattle.cr_syntax_machine.specs.MachineBody.{body, is_any}
use Rattle.cr_syntax_machine_laws.proofs.MachineRuns.{same, word_in}
use Rattle.cr_syntax_machine.proofs.MachineSpells.{and_and}
use Rattle.cr_syntax_machine_laws.proofs.MachineFirst.{tail}
use Rattle.cr_syntax_machine_laws.proofs.MachineTasks as task
use Rattle.cr_syntax_machine_laws.proofs.MachineComplete.{completes, get_past, done_alike}

-- behind the last token stands no word
none_past : (ts : List Lexeme) → has_word ts (length ts) is_any ≡ false
none_past ts = ap (λ o. elim o as (λ _. Bool) [ None ↦ false | Some w ↦ is_any w ]) word_past
  where
    word_past : word_at ts (length ts) ≡ None
    word_past = ap word_in (get_past ts)

-- external definitions up to the end are read
pub unit_reads : {ts : List Lexeme} {limit : Limit} {h : Context} {c e : Scopes} {d i : ℕ} {t : Trees} → Spells ts limit (rest unit_side) h c e d t i (length ts) →
    Runs body ts limit (body (m.unit m.anywhere d)) c i (Done t e (length ts))
unit_reads {ts = ts} {limit = limit} {c = c} {e = e} {d = d} {i = i} (spells.part {t = t} {u = u} x s) =
    subst (λ z. Runs body ts limit (body (m.unit m.anywhere d)) c i (Done z e (length ts))) (and_and t none u)
    (run_call (completes ts limit task.external x)
    (tail (completes ts limit task.externals s (t & none) (none_past ts))))

pub unit_is_read : {ts : List Lexeme} {limit : Limit} {t : Trees} (x : IsUnit limit ts t) → Runs body ts limit (body (m.unit m.anywhere 0)) file_scope 0 (Done t x.after (length ts))
unit_is_read x = unit_reads x.spells

-- the tokens of a unit have one tree
pub one_unit : {ts : List Lexeme} {limit : Limit} {t u : Trees} → IsUnit limit ts t → IsUnit limit ts u → t ≡ u
one_unit x y = (done_alike (same (unit_is_read x) (unit_is_read y))).0
