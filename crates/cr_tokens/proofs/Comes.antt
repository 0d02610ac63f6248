-- How far a reading has come that counts its tokens.
use Rattle.std.proofs.Common.{◌≡◌, ℕ, ◌+◌, ◌≤◌, ◌∷◌, ◌++◌, [], List, length, length-append, arith}
use Rattle.cr_tokens.specs.declared.token.Token.{Token}
use Rattle.cr_tokens.specs.declared.token.TokenFault.{TokenFault}
use Rattle.cr_tokens.specs.declared.token.TokenFault.TheVariants.{TooMany}
use Rattle.cr_tokens.specs.Blanks.{IsBlank}
use Rattle.cr_tokens.specs.Tokens.{FallsInto, IsToken}
use Rattle.cr_tokens.specs.Tokens.FallsInto.{nothing}
use Rattle.cr_tokens.specs.Faults.{FaultAt, FirstTokenFault}
use Rattle.cr_tokens.specs.Faults.FirstTokenFault.{first, too_many}
use Rattle.cr_tokens.proofs.Files.{FallsInto-blank, FallsInto-token}

-- the bytes before `at` fall into `count` tokens and blanks
pub record Comes (file : List ℕ) (at count : ℕ) : Type 0 where
  pub tokens : List Token
  pub falls : FallsInto file 0 at tokens
  pub counted : length tokens ≡ count

pub comes_nowhere : (file : List ℕ) → Comes file 0 0
comes_nowhere file = record { tokens = []; falls = nothing; counted = omega arith }

pub comes_blank : (file : List ℕ) (at to count : ℕ) → Comes file at count → IsBlank file at to → Comes file to count
comes_blank file at to count c b = record { tokens = c.tokens; falls = FallsInto-blank c.falls b; counted = c.counted }

pub comes_token : (file : List ℕ) (at count : ℕ) (t : Token) → Comes file at count → IsToken file t → t.start ≡ at →
    Comes file t.end (count + 1)
comes_token file at count t c h e = record {
  tokens = c.tokens ++ t ∷ [];
  falls = FallsInto-token t c.falls e h;
  counted = simp length-append (omega (arith, c.counted));
}

pub comes_fault : (file : List ℕ) (at count : ℕ) (fault : TokenFault) → length file ≤ 1048576 → count ≤ 262144 → Comes file at count →
    FaultAt file at fault → FirstTokenFault file fault
comes_fault file at count fault short few c f = first at c.tokens short c.falls (omega (arith, c.counted)) f

pub comes_full : (file : List ℕ) (at count : ℕ) (t : Token) → length file ≤ 1048576 → count ≡ 262144 → Comes file at count →
    IsToken file t → t.start ≡ at → FirstTokenFault file (TooMany t.start)
comes_full file at count t short full c h e = too_many t c.tokens short (rw e c.falls) (omega (arith, c.counted)) h
