-- A log of a reduction of programs.
use Rattle.std.specs.Prelude.{ℕ, Bool, List, None}
use Rattle.cr_lawful.specs.Lawful.{IsLawful, IsReason, limits_of}
use Rattle.pass_list.specs.Offers.{Offers}
use Rattle.cr_main_replay.specs.Replay.{Replaying}

-- the enabled passes, and the law of programs whose runs take at most so many steps
abbrev pub replaying_of : ℕ → List Bool → List ℕ → List ℕ → Replaying
replaying_of steps enabled log file = record {
  chain = record { Offers = Offers enabled; Lawful = IsLawful (limits_of steps); limit = None };
  Against = IsReason (limits_of steps);
  log = log;
  file = file;
}
