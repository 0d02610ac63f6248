use Rattle.std.proofs.Common.{◌∙◌, length, ap, sym}
use Rattle.cr_cursor.proofs.Numbering.{all_passes}
use Rattle.cr_cursor.proofs.places.positions.Goals as goal

pub returns-clause-count : goal.returns-clause-count
returns-clause-count g c = λ file. c.variants_below.ensures.count file ∙ ap length (sym (all_passes (g.P.Passes.offer c.args.passes.now c.args.prep.now file).widths))
