-- The law that a file tokenises, and the reasons against it.
use Rattle.std.specs.Prelude.{◌≡◌, ℕ, List}
use Rattle.cr_tokens.specs.declared.token.Token.{Token}
use Rattle.cr_tokens.specs.declared.token.TokenFault.{TokenFault}
use Rattle.cr_tokens.specs.declared.token.TokenFault.TheVariants as fault
use Rattle.cr_tokens.specs.Tokens.{Tokenizes}
use Rattle.cr_tokens.specs.Faults.{FirstTokenFault}
use Rattle.cr_tokens.specs.Places.{line_of}
use Rattle.cr_cursor.specs.declared.law.Reason.{Reason}
use Rattle.cr_cursor.specs.declared.law.Reason.TheVariants.{Token as token}
use Rattle.cr_cursor.specs.declared.law.Ruling.{Ruling}
use Rattle.cr_cursor.specs.declared.law.Ruling.TheVariants as ruling

pub record IsTokenized (file : List ℕ) : Type 0 where
  pub tokens : List Token
  pub tokenizes : Tokenizes file tokens

-- the numbers of the faults
abbrev pub number_of : TokenFault → ℕ
number_of fault.NoMemory = 0
number_of fault.TooLong = 1
number_of (fault.BadByte place) = 2
number_of (fault.OpenComment place) = 3
number_of (fault.OpenLiteral place) = 4
number_of (fault.TooMany place) = 5

-- the lines of the faults
abbrev pub fault_line : List ℕ → TokenFault → ℕ
fault_line file fault.NoMemory = 1
fault_line file fault.TooLong = 1
fault_line file (fault.BadByte place) = line_of file place
fault_line file (fault.OpenComment place) = line_of file place
fault_line file (fault.OpenLiteral place) = line_of file place
fault_line file (fault.TooMany place) = line_of file place

abbrev pub reason_of : List ℕ → TokenFault → Reason
reason_of file f = token (number_of f) (fault_line file f)

abbrev pub RulesOn : List ℕ → TokenFault → Ruling → Type 0
RulesOn file fault.NoMemory result = result ≡ ruling.NoMemory
RulesOn file f result = result ≡ ruling.Unlawful (reason_of file f)

-- The reason is that of the file's first fault.
pub record IsTokenReason (file : List ℕ) (reason : Reason) : Type 0 where
  pub fault : TokenFault
  pub first : FirstTokenFault file fault
  pub is : reason ≡ reason_of file fault
