use Rattle.std.proofs.Common.{ltb, ltb-true, arith, rules}
use Rattle.std.proofs.lemmas.Bool.{ltb-false}
use Rattle.std.proofs.lemmas.List.Sorted.{IsPartitionPoint-from_clause, IsPartitionedBy-ltb}
use Rattle.cr_memory.proofs.Living.{nobody, numbers_rise}
use Rattle.cr_memory.proofs.spans.below.Goals as goal

pub returns : goal.returns
returns c =
    let xs = c.deref.result.now in
    let parted = IsPartitionedBy-ltb (λ own. own.number) xs c.args.number (numbers_rise xs (rw c.deref.ensures.value c.requires)) in
    let point = IsPartitionPoint-from_clause (λ own. ltb own.number c.args.number) _ _ c.partition_point.ensures.partitioned parted (λ a r q k. search rules) in
    rw (← c.deref.ensures.value) (record {
      within = c.partition_point.ensures.bound;
      smaller = λ k b. ltb-true _ _ (point.0 k nobody (omega arith) b);
      others = λ k g b. ltb-false _ _ (point.1 k nobody g b);
    })
