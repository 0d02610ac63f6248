use native.Mathlib.Omega.{arith}
use Rattle.std.proofs.Common.{ℕ, length, ap}
use Rattle.std.specs.Prelude.{vec_capacity}
use Rattle.cr_tokens.specs.declared.token.TokenKind.TheVariants.{Keyword}
use Rattle.pass_edit.proofs.Fills.{full_run}
use Rattle.pass_edit.proofs.Glues.{on_err}
use Rattle.pass_edit.proofs.fill.put_run.Goals as goal

pub returns-in_err-put_word-clause-full : goal.returns-in_err-put_word-clause-full
returns-in_err-put_word-clause-full c =
    let file = c.args.file.now in
    let tokens = c.args.tokens.now in
    let out = c.loop-token.out in
    on_err c.from_residual.result (λ rest.
    let less = full_run file tokens c.loop-token.token-index (record { kind = Keyword; start = 0; end = 0 }) out.items c.loop-token.last.now (vec_capacity out)
    c.loop-token-test.true (rw c.part-word.ensures at (c.in_err-put_word.ensures.full)) rest in
    let same = c.loop-token.invariant.0 rest in
    let more = c.loop-token.invariant.1 in
    omega (arith, ap {B = ℕ} length same, less, more))
