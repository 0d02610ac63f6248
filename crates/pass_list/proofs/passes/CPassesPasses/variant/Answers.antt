use native.Mathlib.Omega.{arith}
use Rattle.std.proofs.Common.{◌==◌, ℕ, Bool, length, ap}
use Rattle.pass_edit.specs.Menu.{level_of}
use Rattle.pass_text.specs.Lines.{chunks_of}
use Rattle.pass_list.specs.Offers.{menu_at}
use Rattle.pass_list.specs.OfferLaws.{chunks_few}
use Rattle.pass_list.proofs.Knowing.{within}
use Rattle.pass_list.proofs.passes.CPassesPasses.variant.Goals as goal

pub lines_variant-requires : goal.lines_variant-requires
lines_variant-requires c =
    let prep = c.args.prep.now in
    let at = c.args.at in
    let below = within (at.pass == 0) at.index (chunks_of prep.lines 0 at.level) (length (level_of (menu_at prep.menus at.pass) at.level)) (ap {B = Bool} (λ (p : ℕ). p == 0) c.if-at-eq0.true) c.requires in
    let chunks = chunks_few prep.lines 0 at.level in
    omega (arith, below, chunks, c.line_count-lines.ensures.few)
