use Rattle.std.proofs.Common.{◌≡◌, drop, max}
use Rattle.cr_check_initialisers.specs.Known.{known_of}
use Rattle.cr_check_initialisers.specs.Plans.{entries_of, most_asked}
use Rattle.cr_check_initialisers.proofs.lines.length_asked.Given as goal

abbrev pub invariant-loop-line : goal.invariant-loop-line
invariant-loop-line l =
    max l.most (most_asked (known_of l.source) l.each (entries_of l.source.table.now (drop l.line-index l.lines)))
    ≡ most_asked (known_of l.source) l.each (entries_of l.source.table.now l.lines)
