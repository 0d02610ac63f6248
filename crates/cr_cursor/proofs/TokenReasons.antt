-- The reasons against a file that doesn't tokenise.
use Rattle.std.proofs.Common.{◌≡◌, ◌⊎◌, inl, inr, ℕ, List, subst}
use Rattle.cr_tokens.specs.declared.token.TokenFault.{TokenFault}
use Rattle.cr_tokens.specs.declared.token.TokenFault.TheVariants as fault
use Rattle.cr_tokens.specs.Faults.{FirstTokenFault}
use Rattle.cr_tokens.proofs.Faults.{list_no_fault}
use Rattle.cr_cursor.specs.declared.law.Reason.{Reason}
use Rattle.cr_cursor.specs.declared.law.Ruling.{Ruling}
use Rattle.cr_cursor.specs.declared.law.Ruling.TheVariants as ruling
use Rattle.cr_cursor.specs.TokenLaw.{IsTokenized, IsTokenReason, RulesOn, reason_of}

rules_memory : (file : List ℕ) (f : TokenFault) (r : Ruling) (reason : Reason) → f ≡ fault.NoMemory → RulesOn file f r → r ≡ ruling.Unlawful reason → ⊥
rules_memory file f r reason none rules is = let ends : r ≡ ruling.NoMemory = subst (λ x. RulesOn file x r) none rules in cc

rules_reason : (file : List ℕ) (f : TokenFault) (r : Ruling) (reason : Reason) → RulesOn file f r → r ≡ ruling.Unlawful reason → reason ≡ reason_of file f
rules_reason file fault.NoMemory r reason rules is = cc
rules_reason file fault.TooLong r reason rules is = cc
rules_reason file (fault.BadByte place) r reason rules is = cc
rules_reason file (fault.OpenComment place) r reason rules is = cc
rules_reason file (fault.OpenLiteral place) r reason rules is = cc
rules_reason file (fault.TooMany place) r reason rules is = cc

pub no_lawful : (file : List ℕ) (f : TokenFault) (r : Ruling) → (f ≡ fault.NoMemory) ⊎ FirstTokenFault file f → RulesOn file f r → (reason : Reason) → r ≡ ruling.Unlawful reason → IsTokenized file → ⊥
no_lawful file f r (inl none) rules reason is it = rules_memory file f r reason none rules is
no_lawful file f r (inr cause) rules reason is it = list_no_fault file it.tokens f it.tokenizes cause

pub the_reason : (file : List ℕ) (f : TokenFault) (r : Ruling) → (f ≡ fault.NoMemory) ⊎ FirstTokenFault file f → RulesOn file f r → (reason : Reason) → r ≡ ruling.Unlawful reason → IsTokenReason file reason
the_reason file f r (inl none) rules reason is = absurd (rules_memory file f r reason none rules is)
the_reason file f r (inr cause) rules reason is = record { fault = f; first = cause; is = rules_reason file f r reason rules is }

pub never_stopped : (file : List ℕ) (f : TokenFault) (r : Ruling) → RulesOn file f r → r ≡ ruling.Stopped → ⊥
never_stopped file fault.NoMemory r rules is = cc
never_stopped file fault.TooLong r rules is = cc
never_stopped file (fault.BadByte place) r rules is = cc
never_stopped file (fault.OpenComment place) r rules is = cc
never_stopped file (fault.OpenLiteral place) r rules is = cc
never_stopped file (fault.TooMany place) r rules is = cc
