use Rattle.std.proofs.Common.{Some, refl, subst, sym}
use Rattle.cr_lawful_analysis.specs.Analysis as read
use Rattle.cr_lawful_analysis.specs.Analysis.{IsRead, tokens_alone}
use Rattle.cr_lawful_analysis.proofs.Same.{unsound}
use Rattle.cr_lawful_analysis.proofs.analysis.checked.Goals as goal

pub returns-in-Ok : goal.returns-in-Ok
returns-in-Ok c = c.of_unit.ensures c.args.file.now c.in-Ok.checked c.requires.tokens (record {
  tokens_are = refl;
  parsed = c.requires.parsed;
  known = c.requires.known;
  sound = c.in-Ok.ensures.sound;
}) c.structures_of-structures.ensures

pub returns-in_ok-type_refusal-in-Err : goal.returns-in_ok-type_refusal-in-Err
returns-in_ok-type_refusal-in-Err c =
    subst (λ tokens. IsRead c.args.file.now (tokens_alone (Some tokens))) (sym c.from_vec.ensures)
    (read.no_unit c.requires.tokens (unsound c.args.file.now c.args.unit c.args.names c.in-Err.fault c.in_ok-type_refusal-in-Err.ensures c.in-Err.ensures.fault c.requires.parsed c.requires.known))
