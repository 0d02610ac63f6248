use Rattle.std.proofs.Common.{◌<◌, length, subst, arith}
use Rattle.std.proofs.lemmas.Option.{slice_get_within}
use Rattle.cr_sequence.specs.Stretches.{BeginsBehind}
use Rattle.cr_sequence.proofs.sequence.part_of.Goals as goal

pub loop-high-init : goal.loop-high-init
loop-high-init g c = record {
  ordered = omega (arith, c.requires.some);
  within = omega arith;
  from = c.requires.first;
  next = λ part is.
      let h : c.len-high.result < length c.args.parts.now.items = slice_get_within c.args.parts.now.items c.len-high.result part is in
      absurd (omega (arith, c.len-high.ensures, c.args.parts.now.ok.0));
}

pub returns : goal.returns
returns g c =
    let v = c.loop-high.invariant in
    let o = v.ordered in
    let w = v.within in
    record {
      within = omega arith;
      from = v.from;
      next = subst (λ n. BeginsBehind c.args.parts.now.items n c.args.index) (omega arith) v.next;
    }
