-- Texts and the files that contain them.
use Rattle.std.proofs.Common.{◌≡◌, ◌⊎◌, inl, inr, ℕ, List, [], subst}
use Rattle.cr_tokens.specs.declared.token.Token.{Token}
use Rattle.cr_tokens.specs.declared.token.TokenFault.{TokenFault}
use Rattle.cr_tokens.specs.declared.token.TokenFault.TheVariants.{NoMemory}
use Rattle.cr_tokens.specs.Tokens.{Tokenizes}
use Rattle.cr_tokens.specs.Faults.{FirstTokenFault}
use Rattle.cr_tokens.specs.Runs.{spellings, StandsIn}
use Rattle.cr_tokens.proofs.Wholes.{one_list}
use Rattle.cr_tokens.proofs.Faults.{list_no_fault}
use Rattle.cr_outside.specs.HasText.{HasText, IsText}

-- A file with a fault has no tokens.
pub no_list : (file : List ℕ) (fault : TokenFault) → (fault ≡ NoMemory) ⊎ FirstTokenFault file fault → (fault ≡ NoMemory → ⊥) → (list : List Token) → Tokenizes file list → ⊥
no_list file fault (inl none) other list is = other none
no_list file fault (inr it) other list is = list_no_fault file list fault is it

-- A file that has no tokens contains no text.
pub no_tokens : (text file : List ℕ) → ((list : List Token) → Tokenizes file list → ⊥) → HasText text file → ⊥
no_tokens text file none has = none has.tokens has.is_file

-- Of the one list of each, the run decides.
pub stands_of : (text file : List ℕ) (wanted tokens : List Token) → Tokenizes text wanted → Tokenizes file tokens → HasText text file → StandsIn (spellings text wanted) (spellings file tokens)
stands_of text file wanted tokens is_text is_file has =
    subst (λ w. StandsIn (spellings text w) (spellings file tokens)) (one_list text has.wanted wanted has.is_text is_text)
    (subst (λ t. StandsIn (spellings text has.wanted) (spellings file t)) (one_list file has.tokens tokens has.is_file is_file) has.stands)

-- A text without a token is none to ask about.
pub empty_text : (text : List ℕ) (wanted : List Token) → Tokenizes text wanted → wanted ≡ [] → IsText text → ⊥
empty_text text wanted is none it = it.some (subst (λ w. w ≡ []) (one_list text wanted it.tokens is it.tokenizes) none)
