use Rattle.std.proofs.Common.{Some, subst, sym}
use Rattle.cr_lawful_analysis.specs.Analysis as read
use Rattle.cr_lawful_analysis.specs.Analysis.{IsRead, tokens_alone}
use Rattle.cr_lawful_analysis.proofs.Same.{unnamed}
use Rattle.cr_lawful_analysis.proofs.analysis.named.Goals as goal

pub checked-requires-clause-known : goal.checked-requires-clause-known
checked-requires-clause-known c = c.in-Ok.ensures.resolved

pub returns-in_ok-name_refusal-in-Err : goal.returns-in_ok-name_refusal-in-Err
returns-in_ok-name_refusal-in-Err c =
    subst (λ tokens. IsRead c.args.file.now (tokens_alone (Some tokens))) (sym c.from_vec.ensures)
    (read.no_unit c.requires.tokens (unnamed c.args.file.now c.args.unit c.in-Err.fault c.in_ok-name_refusal-in-Err.ensures c.in-Err.ensures.fault c.requires.parsed))
