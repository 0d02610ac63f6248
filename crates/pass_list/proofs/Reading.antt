-- The tokens of a unit that is read are the file's.
use mathlib.Core.Logic.{∥∥₁_elim}
use Rattle.std.proofs.Common.{◌≡◌, ℕ, List, Result, Ok, Err, IfOk, refl, subst}
use Rattle.std.proofs.Props.{props}
use Rattle.cr_tokens.specs.declared.token.Token.{Token}
use Rattle.cr_tokens.specs.Tokens.{Tokenizes}
use Rattle.cr_tokens.proofs.Wholes.{one_list}
use Rattle.cr_lawful_analysis.specs.Analysis.{IsAnalysis, read_of}
use Rattle.cr_lawful_analysis.specs.declared.analysis.Analysis.{Analysis}
use Rattle.cr_lawful_analysis.specs.declared.analysis.Analysis.TheVariants.{NoTokens, NoUnit, OfUnit}
use Rattle.pass_list.specs.Offers.{HasFilesTokens}
use Rattle.pass_list.specs.OfferLaws.{read_tokens}

pub of_analysis : (file : List ℕ) (analysis : Analysis) → IsAnalysis file analysis → HasFilesTokens file analysis
of_analysis file NoTokens is = tt
of_analysis file (NoUnit tokens) is = tt
of_analysis file (OfUnit unit names structures) is = read_tokens file (read_of (OfUnit unit names structures)) unit.tokens.list.items is refl

-- also where that is known without a derivation, by the file's own tokens
pub of_known : (file : List ℕ) (analysis : Analysis) (tokens : List Token) → Tokenizes file tokens → ∥ IsAnalysis file analysis ∥₁ → HasFilesTokens file analysis
of_known file NoTokens tokens are is = tt
of_known file (NoUnit others) tokens are is = tt
of_known file (OfUnit unit names structures) tokens are is =
    let same : tokens ≡ unit.tokens.list.items =
    ∥∥₁_elim is (hlevel props) (λ it. one_list file tokens unit.tokens.list.items are (of_analysis file (OfUnit unit names structures) it)) in
    subst (Tokenizes file) same are

-- and so of what a reading gives
pub known_of : {E : Type 0} (file : List ℕ) (result : Result Analysis E) → IfOk result (IsAnalysis file) → IfOk result (λ analysis. ∥ IsAnalysis file analysis ∥₁)
known_of file (Ok analysis) is = ∣ is ∣₁
known_of file (Err e) is = tt

pub tokens_of : {E : Type 0} (file : List ℕ) (result : Result Analysis E) → IfOk result (IsAnalysis file) → IfOk result (HasFilesTokens file)
tokens_of file (Ok analysis) is = of_analysis file analysis is
tokens_of file (Err e) is = tt
