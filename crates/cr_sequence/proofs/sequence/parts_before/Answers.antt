use Rattle.std.proofs.Common.{◌<◌, length, arith}
use Rattle.std.proofs.lemmas.Option.{slice_get_within}
use Rattle.cr_sequence.proofs.sequence.parts_before.Goals as goal

pub loop-count-init : goal.loop-count-init
loop-count-init g c = record {
  within = omega arith;
  behind = λ part is.
      let h : c.len-count.result < length c.args.parts.now.items = slice_get_within c.args.parts.now.items c.len-count.result part is in
      absurd (omega (arith, c.len-count.ensures, c.args.parts.now.ok.0));
}

pub loop-count-preserved : goal.loop-count-preserved
loop-count-preserved g c = record {
  within = let w = c.loop-count.invariant.within in omega arith;
  behind = λ part is. let e = c.start_at-start.ensures part is in omega arith;
}

pub returns-then-start-index-clause-before : goal.returns-then-start-index-clause-before
returns-then-start-index-clause-before g c = λ some part is. let e = c.start_at-start.ensures part is in omega arith
