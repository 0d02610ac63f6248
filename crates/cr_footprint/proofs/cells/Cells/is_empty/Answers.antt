use Rattle.std.proofs.Common.{◌∙◌, sym}
use Rattle.std.proofs.lemmas.Bool.{eqb-true, eq-eqb}
use Rattle.cr_footprint.proofs.Rising.{holds_none, none_held}
use Rattle.cr_footprint.proofs.cells.Cells.is_empty.Goals as goal

pub returns : goal.returns
returns c = (
  λ empty. holds_none c.args.self.now.list (sym c.len.ensures ∙ eqb-true c.len.result 0 empty),
  λ none. eq-eqb c.len.result 0 (c.len.ensures ∙ none_held c.args.self.now.list none),
)
