use Rattle.std.proofs.Common.{◌≡◌, ◌∷◌}
use Rattle.cr_check_initialisers.specs.Known.{known_of}
use Rattle.cr_check_initialisers.specs.Plans.{entries_of}
use Rattle.cr_check_initialisers.specs.Steps.{place_of, left, Leads}
use Rattle.cr_check_initialisers.proofs.walk.settle.Given as goal

abbrev pub invariant-loop : goal.invariant-loop
invariant-loop l = record {
  lines : entries_of l.source.table.now l.lines.items ≡ entries_of l.source.table.now l.fn.lines.items;
  leads : Leads (known_of l.source) l.brace l.node (place_of l.source l.fn.first ∷ left l.source l.fn.stack.items) (place_of l.source l.part ∷ left l.source l.stack.items) (entries_of l.source.table.now l.fn.lines.items);
}
