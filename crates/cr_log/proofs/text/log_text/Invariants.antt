use Rattle.std.proofs.Common.{◌≡◌, ℕ, List, All, take, map}
use Rattle.std.specs.List.{flat_map}
use Rattle.std.specs.String.{string_bytes}
use Rattle.cr_reduce.specs.declared.end.Accepted.{Accepted}
use Rattle.cr_log.specs.Forms.{IsLoggable}
use Rattle.cr_log.specs.Texts.{accepted_line, line_text}
use Rattle.cr_log.proofs.text.log_text.Given as goal

-- The lines of the accepted variants so far.
pub record HasWritten (text : List ℕ) (accepted : List Accepted) : Type 0 where
  pub text_is : text ≡ flat_map line_text (map accepted_line accepted)
  pub loggable : All IsLoggable accepted

abbrev pub invariant-loop-one : goal.invariant-loop-one
invariant-loop-one l = HasWritten (string_bytes l.text) (take l.one-index l.end.accepted.items)
