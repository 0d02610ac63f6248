use Rattle.std.proofs.Common.{◌/◌, ap, arith}
use Rattle.cr_sequence.proofs.Making.{room_left, make_kept, make_same}
use Rattle.cr_sequence.proofs.blocks.make.Goals as goal

pub overflow_cast-number : goal.overflow_cast-number
overflow_cast-number g c =
    let r = room_left c.args.blocks.now.items c.args.block c.requires.within c.requires.unmade in
    let m = c.requires.kept.made in
    let f = c.requires.kept.few in
    omega arith

pub fill-requires-clause-room : goal.fill-requires-clause-room
fill-requires-clause-room g c =
    let r = room_left c.args.blocks.now.items c.args.block c.requires.within c.requires.unmade in
    let m = c.requires.kept.made in
    let o = c.requires.kept.room in
    omega arith

pub returns-clause-kept : goal.returns-clause-kept
returns-clause-kept g c =
    make_kept c.args.blocks.now.items c.args.pool.now c.fill.new.pool c.args.block _ c.requires.kept c.requires.within c.requires.unmade
    (ap (λ n. n / 256) c.len.ensures) c.fill.ensures.longer c.fill.ensures.capacity

pub returns-clause-same : goal.returns-clause-same
returns-clause-same g c = λ place.
    make_same c.args.first c.args.pattern.now.items c.args.blocks.now.items c.args.pool.now c.fill.new.pool.items c.args.block _ place c.requires.kept c.requires.within c.requires.unmade
    (ap (λ n. n / 256) c.len.ensures) c.fill.ensures.before c.fill.ensures.filled
