use Rattle.std.proofs.Common.{◌≡◌, drop}
use Rattle.cr_check_definitions.specs.Known.{known_of}
use Rattle.cr_check_definitions.specs.Typedefs.{first_given, typedef_of}
use Rattle.cr_check_definitions.proofs.typedefs.first_given.Given as goal

-- what is left decides
abbrev pub invariant-loop-token : goal.invariant-loop-token
invariant-loop-token l = first_given (typedef_of (known_of l.declarations)) l.declared
    ≡ first_given (typedef_of (known_of l.declarations)) (drop l.token-index l.declared)
