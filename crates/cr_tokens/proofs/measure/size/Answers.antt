use Rattle.std.proofs.Common.{◌+◌, ◌*◌, ◌≤◌, length, take, arith}
use Rattle.std.specs.Prelude.{sum_by}
use Rattle.cr_tokens.specs.Size.{share_of}
use Rattle.cr_tokens.specs.Tokens.{Tokenizes}
use Rattle.cr_tokens.specs.Runs.{AllWithin}
use Rattle.cr_tokens.proofs.Measures.{falls_within, size-le}
use Rattle.cr_tokens.proofs.measure.size.Goals as goal

pub share-total-requires : goal.share-total-requires
share-total-requires c =
    let within : AllWithin c.args.file.now c.as_slice-list.result.now = rw c.as_slice-list.ensures.value (falls_within c.requires.falls) in
    within c.loop-token.token-index _ c.loop-token-test.true

pub overflow_add-total : goal.overflow_add-total
overflow_add-total c =
    let tokens : Tokenizes c.args.file.now c.as_slice-list.result.now = rw c.as_slice-list.ensures.value c.requires in
    let most : length c.args.file.now + sum_by (share_of c.args.file.now) (take c.loop-token.token-index c.as_slice-list.result.now) ≤ 12 * length c.args.file.now =
    size-le c.args.file.now c.as_slice-list.result.now c.loop-token.token-index tokens in
    let total : c.loop-token.total ≤ 12 * length c.args.file.now = rw c.loop-token.invariant most in
    omega (arith, tokens.short, c.share-total.ensures.bound)

pub returns-clause-bound : goal.returns-clause-bound
returns-clause-bound c =
    let tokens : Tokenizes c.args.file.now c.as_slice-list.result.now = rw c.as_slice-list.ensures.value c.requires in
    rw c.loop-token.invariant (size-le c.args.file.now c.as_slice-list.result.now c.loop-token.token-index tokens)
