use Rattle.std.proofs.Common.{◌≤◌, ◌^◌, arith, pow_mono}
use Rattle.pass_text.proofs.lines.chunk_len.Goals as goal

pub returns-clause-few : goal.returns-clause-few
returns-clause-few c =
    let few : c.saturating_sub.result ≤ 14 = omega arith in
    let power : 2 ^ c.saturating_sub.result ≤ 2 ^ 14 = pow_mono few in
    omega arith
