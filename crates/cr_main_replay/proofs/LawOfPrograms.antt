-- The law of C programs is a law of programs.
use Rattle.std.proofs.Common.{◌≡◌, ◌<◌, ℕ, List, length, refl, ap, ◌∙◌, arith}
use Rattle.cr_cursor.specs.declared.law.Reason.{Reason}
use Rattle.cr_cursor.specs.TokenLaw.{reason_of}
use Rattle.cr_meaning.specs.declared.run.Limits.{Limits}
use Rattle.cr_lawful.specs.Lawful.{IsLawful, IsReason}
use Rattle.cr_lawful.specs.Lawful.IsReason.{of_tokens, of_unit, of_names, of_types, of_run}
use Rattle.cr_tokens.specs.declared.token.TokenFault.{TokenFault}
use Rattle.cr_tokens.specs.declared.token.TokenFault.TheVariants.{TooLong}
use Rattle.cr_tokens.specs.Faults.{FirstTokenFault}
use Rattle.cr_tokens.specs.Faults.FirstTokenFault.{too_long, first, too_many}
use Rattle.cr_main_task.specs.Task.{IsOfPrograms}

-- a file that is too long has no other first fault
is_too_long : (file : List ℕ) (fault : TokenFault) → 1048576 < length file → FirstTokenFault file fault → fault ≡ TooLong
is_too_long file _ long (too_long above) = refl
is_too_long file _ long (first at tokens short into few at_it) = absurd (omega (arith, long, short))
is_too_long file _ long (too_many t tokens short into count token) = absurd (omega (arith, long, short))

too_long_too : (limits : Limits) (file other : List ℕ) (reason : Reason) → 1048576 < length file → 1048576 < length other → IsReason limits file reason → IsReason limits other reason
too_long_too limits file other reason long above (of_tokens it) =
    of_tokens (record { fault = TooLong; first = too_long above; is = it.is ∙ ap (λ f. reason_of file f) (is_too_long file it.fault long it.first) })
too_long_too limits file other _ long above (of_unit are _) = absurd (omega (arith, long, are.short))
too_long_too limits file other _ long above (of_names _ _ are _ _ _) = absurd (omega (arith, long, are.short))
too_long_too limits file other _ long above (of_types _ _ _ _ are _ _ _) = absurd (omega (arith, long, are.short))
too_long_too limits file other _ long above (of_run _ _ it _ _) = absurd (omega (arith, long, it.tokenizes.short))

pub law_is_of_programs : (limits : Limits) → IsOfPrograms (IsLawful limits) (IsReason limits)
law_is_of_programs limits = record {
  tokenizes = λ file lawful. record { tokens = lawful.of_file.unit.tokens.list.items; tokenizes = lawful.of_file.tokenizes };
  too_long = too_long_too limits;
}
