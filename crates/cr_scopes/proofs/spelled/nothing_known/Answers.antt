use Rattle.std.proofs.Common.{ℕ, Option, None, replicate, refl}
use Rattle.cr_scopes.specs.declared.spelled.Known.{Known}
use Rattle.cr_scopes.proofs.Spellings.{nothing_said}
use Rattle.cr_scopes.proofs.spelled.nothing_known.Goals as goal

pub returns : goal.returns
returns c =
    let known : Known = record { bytes = replicate {A = Option ℕ} 256 None; words = c.new.result } in
    nothing_said known 256 refl c.new.ensures.empty
