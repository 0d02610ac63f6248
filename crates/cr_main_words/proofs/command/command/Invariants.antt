use Rattle.std.proofs.Common.{◌≡◌, map, take}
use Rattle.clap.specs.Words.{app_of}
use Rattle.cr_main_words.specs.Splitting.{app_of_names}
use Rattle.cr_main_words.proofs.command.command.Given as goal

abbrev pub invariant-loop-name : goal.invariant-loop-name
invariant-loop-name l = app_of l.command ≡ app_of_names (map (λ n. n.now) (take l.name-index l.names))
