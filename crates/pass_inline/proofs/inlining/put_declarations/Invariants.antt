use Rattle.std.proofs.Common.{◌≡◌, ◌++◌, take}
use Rattle.std.specs.List.{flat_map}
use Rattle.pass_inline.specs.Inlined.{declaration_goes, facts_of}
use Rattle.pass_inline.proofs.inlining.put_declarations.Given as goal

abbrev pub invariant-loop-declared : goal.invariant-loop-declared
invariant-loop-declared l = l.changes.items ≡ l.fn.changes.items ++ flat_map (declaration_goes (facts_of l.known) l.number) (take l.declared-index l.known.declared.now)
