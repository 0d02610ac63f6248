-- Whether a function's own parameters end in `...`.
use Rattle.std.proofs.Common.{◌≡◌, ℕ, true, false, not, List, None, Some, refl, ap}
use Rattle.cr_syntax.specs.declared.node.Kind.TheVariants as kind
use Rattle.cr_syntax.specs.Words.{Lexeme}
use Rattle.cr_syntax.specs.Scopes.{Scopes}
use Rattle.cr_syntax.specs.Trees.{Trees, none, node}
use Rattle.cr_syntax.specs.Units.{own_parameters}
use Rattle.cr_syntax_machine.specs.Machine as m
use Rattle.cr_syntax_machine.specs.Machine.{run_no, run_refuse}
use Rattle.cr_syntax_machine.specs.MachineBody.{may_define, defined, ends_variadic, last_token}
use Rattle.cr_exprs_descent.specs.declared.fault.ParseFault.TheVariants.{OutsideSubset}
use Rattle.cr_exprs_descent.specs.Answers.{Refuses}
use Rattle.cr_decls.specs.Ellipsis.{ellipsis_of}

variadic_at : (p : Trees) (n : ℕ) → Some n ≡ ellipsis_of p → (ends_variadic p ≡ true) × (last_token p ≡ n)
variadic_at none n q = absurd cc
variadic_at (node kind.VariadicParameters i j a r) n q = (refl, cc)
variadic_at (node _ i j a r) n q = absurd cc

plain_at : (p : Trees) → None ≡ ellipsis_of p → ends_variadic p ≡ false
plain_at none q = refl
plain_at (node kind.VariadicParameters i j a r) q = absurd cc
plain_at (node _ i j a r) q = refl

-- a function without it may be defined
pub defines : (a : Trees) → None ≡ ellipsis_of (own_parameters a) → may_define m.nowhere a ≡ true
defines a q = ap not (plain_at (own_parameters a) q)

-- and with it, its `...` is refused
pub refuses_variadic : {ts : List Lexeme} {c : Scopes} {i : ℕ} (d s : ℕ) (t a : Trees) (n : ℕ) → Some n ≡ ellipsis_of (own_parameters a) → Refuses ts (defined m.nowhere d s t a) c i (OutsideSubset n 8)
refuses_variadic {i = i} d s t a n q =
    let v = variadic_at (own_parameters a) n q in
    let w = v.1 in
    record { run = λ x h. record { cause = m.earlier (last_token (own_parameters a)) 8; at = i; run = run_no (ap not (v.0)) run_refuse; is = cc } }
