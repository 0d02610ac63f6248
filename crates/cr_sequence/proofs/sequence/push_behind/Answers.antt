use Rattle.std.proofs.Common.{arith}
use Rattle.std.proofs.lemmas.Result.{on_ok_weaker, on_err_weaker}
use Rattle.cr_sequence.proofs.Parts.{flat_pushed, flat_refused, push_done, refused_done}
use Rattle.cr_sequence.proofs.sequence.push_behind.Goals as goal

pub returns-then-number-eq0-clause-pushed : goal.returns-then-number-eq0-clause-pushed
returns-then-number-eq0-clause-pushed g c = on_ok_weaker c.push_flat.result
    (flat_pushed c.args.count c.args.flat.now.items c.push_flat.new.flat.items c.args.parts.now.items c.args.item c.requires.counted (omega arith) (omega (arith, c.requires.few))) c.push_flat.ensures.pushed

pub returns-then-number-eq0-clause-refused : goal.returns-then-number-eq0-clause-refused
returns-then-number-eq0-clause-refused g c = on_err_weaker c.push_flat.result
    (flat_refused c.args.count c.args.flat.now.items c.push_flat.new.flat.items c.args.parts.now.items c.requires.counted) c.push_flat.ensures.refused

pub returns-else-number-eq0-clause-pushed : goal.returns-else-number-eq0-clause-pushed
returns-else-number-eq0-clause-pushed g c = on_ok_weaker c.push_at.result
    (λ changes. push_done c.args.count c.args.flat.now.items c.args.parts.now.items c.push_at.new.parts.items _ c.args.item c.requires.counted (omega arith) changes (omega (arith, c.requires.few))) c.push_at.ensures.pushed

pub returns-else-number-eq0-clause-refused : goal.returns-else-number-eq0-clause-refused
returns-else-number-eq0-clause-refused g c = on_err_weaker c.push_at.result
    (λ changes. refused_done c.args.count c.args.flat.now.items c.args.parts.now.items c.push_at.new.parts.items _ c.requires.counted (omega arith) changes) c.push_at.ensures.refused
