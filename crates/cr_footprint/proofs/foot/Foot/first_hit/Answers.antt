use Rattle.std.proofs.Common.{◌&&◌, ◌||◌}
use Rattle.cr_footprint.specs.Cells.{has}
use Rattle.cr_footprint.proofs.Rising.{IsLeastOf-same, written}
use Rattle.cr_footprint.proofs.foot.Foot.first_hit.Goals as goal

pub returns : goal.returns
returns c =
    let f = c.args.self.now in
    let g = c.args.other.now in
    IsLeastOf-same
    (λ d. has f.writes d && has g.reads d || has f.writes d && has g.writes d)
    (λ d. has f.writes d && (has g.reads d || has g.writes d)) c.lesser.result
    (λ d. written (has f.writes d) (has g.reads d) (has g.writes d))
    (c.lesser.ensures _ _ c.first_shared.ensures c.first_shared-2.ensures)
