use Rattle.std.proofs.Common.{◌*◌, ap, ◌∙◌, arith}
use Rattle.cr_sequence.specs.Kept.{items_of}
use Rattle.cr_sequence.proofs.Making.{none_used}
use Rattle.cr_sequence.proofs.Showing.{new_shown}
use Rattle.cr_sequence.proofs.stretch.Stretch.new.Goals as goal

pub invariant_of-result : goal.invariant_of-result
invariant_of-result g c =
    let count = c.in_ok-none_each.ensures.count in
    let none = c.in_ok-none_each.ensures.none in
    let whole = c.div_ceil-room.ensures in
    let few = c.requires.few in
    let size = ap (λ n. c.args.times * n) c.size_of-each.ensures in (
      record {
        few = omega arith;
        made = let n = none_used c.in_ok-none_each.field-0.items none in omega (arith, c.in_ok-with_capacity.ensures.len);
        room = omega (arith, c.in_ok-with_capacity.ensures.exact);
        below = λ block number is. let e = none block in absurd (cc (e, is));
        apart = λ left right number is also. let e = none left in absurd (cc (e, is));
      },
      record {
        some = c.requires.some;
        all = omega arith;
      },
    )

pub returns : goal.returns
returns g c =
    ap (λ n. items_of (c.args.times * n) c.index.result.now c.args.pattern.items c.in_ok-none_each.field-0.items c.in_ok-with_capacity.field-0.items) c.size_of-each.ensures
    ∙ new_shown c.index.result.now c.args.pattern.items c.in_ok-none_each.field-0.items c.in_ok-with_capacity.field-0.items c.args.times c.requires.some c.in_ok-none_each.ensures.none
