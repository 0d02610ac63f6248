use Rattle.cr_replay.specs.Chains.{chain_of}
use Rattle.cr_replay.proofs.Going.{too_early, too_large, too_late}
use Rattle.cr_replay.proofs.rows.step.Goals as goal
use Rattle.cr_replay.proofs.rows.step.Goals.{then-one-turns-via-then-one-turns, then-one-turns-via-else-one-turns+then-one-size, then-one-turns-via-else-one-turns+else-one-size+then-is_past}

pub returns-then-one-turns : goal.returns-then-one-turns
returns-then-one-turns g c = elim c.then-one-turns.branch [
  | then-one-turns-via-then-one-turns w ↦ too_early (chain_of g.P.Passes c.args.passes.now g.L.Law c.args.law.now c.args.limit) c.args.file.now.items c.args.turns c.args.one w.if-one-turns.true
  | then-one-turns-via-else-one-turns+then-one-size w ↦ too_large (chain_of g.P.Passes c.args.passes.now g.L.Law c.args.law.now c.args.limit) c.args.file.now.items c.args.turns c.args.one c.args.size c.requires.sized w.if-one-size.true
  | then-one-turns-via-else-one-turns+else-one-size+then-is_past w ↦ too_late (chain_of g.P.Passes c.args.passes.now g.L.Law c.args.law.now c.args.limit) c.args.file.now.items c.args.turns c.args.one (w.is_past.ensures.past w.if-is_past.true)
]
