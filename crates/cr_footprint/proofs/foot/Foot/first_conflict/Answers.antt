use Rattle.std.proofs.Common.{◌&&◌, ◌||◌}
use Rattle.cr_footprint.specs.Cells.{has}
use Rattle.cr_footprint.specs.Foot.{sets, accesses, meets}
use Rattle.cr_footprint.proofs.Rising.{IsLeastOf-same, met}
use Rattle.cr_footprint.proofs.foot.Foot.first_conflict.Goals as goal

pub returns : goal.returns
returns c =
    let f = c.args.self.now in
    let g = c.args.other.now in
    IsLeastOf-same
    (λ d. (has f.writes d && accesses (sets g) d) || has f.reads d && has g.writes d)
    (meets (sets f) (sets g)) c.lesser.result
    (λ d. met (has f.reads d) (has f.writes d) (has g.reads d) (has g.writes d))
    (c.lesser.ensures _ _ c.first_hit.ensures c.first_shared.ensures)
