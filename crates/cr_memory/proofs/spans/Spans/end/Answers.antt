use Rattle.std.proofs.Common.{◌-◌, arith}
use Rattle.cr_memory.proofs.Living.{end_none, end_last, end_fits}
use Rattle.cr_memory.proofs.spans.Spans.end.Goals as goal

pub overflow_add-result : goal.overflow_add-result
overflow_add-result c =
    let i = c.self.inside in
    omega (arith, end_fits i.entered i.living.items _ (c.len-count.result - 1) 18446744073709551615 _ c.self.invariant c.self.view_is (omega arith) c.index-last.ensures c.requires)

pub returns-then-count-eq0 : goal.returns-then-count-eq0
returns-then-count-eq0 c =
    let i = c.self.inside in
    end_none i.entered i.living.items _ c.self.invariant c.self.view_is (omega arith)

pub returns : goal.returns
returns c =
    let i = c.self.inside in
    end_last i.entered i.living.items _ (c.len-count.result - 1) _ c.self.invariant c.self.view_is (omega arith) c.index-last.ensures
