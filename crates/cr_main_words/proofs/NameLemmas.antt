-- Names of files, and generated programs.
use Rattle.std.proofs.Common.{◌≡◌, ◌≢◌, ◌<◌, ℕ, zero, suc, List, [], ◌∷◌, ◌++◌, codes, length, get_or, Option, sym, ◌∙◌, subst, arith}
use Rattle.std.specs.Str.Parse.{AllDigits}
use Rattle.std.specs.Prelude.{MatchOption}
use Rattle.std.specs.Char.{digit_value}
use Rattle.std.specs.Borrow.{Bor}
use Rattle.std.proofs.lemmas.List.{append_cancel_left, append_cancel_right}
use Rattle.std.proofs.lemmas.Str.Pattern.{IsSplitOnceResult, split_after}
use Rattle.cr_main_words.specs.Names.{EndsFolder, HasLastPart, IsGenerated}
use Rattle.cr_main_words.specs.Words.{Word}

-- one front fits a name and its last part
pub same_front : (name part front : List ℕ) → name ≡ front ++ part → HasLastPart name part → EndsFolder front
same_front name part front is it = subst EndsFolder (append_cancel_right it.front front part (sym it.is ∙ is)) it.ends

-- digits have no colon
pub no_colon : (word : Word) → AllDigits 10 word → (i : ℕ) → i < length word → get_or word i 0 ≢ 58
no_colon [] digits i below is = absurd (omega arith)
no_colon (b ∷ more) digits zero below is = let bad : digit_value 58 < 10 = subst (λ x. digit_value x < 10) is digits.0 in absurd (omega (arith, bad))
no_colon (b ∷ more) digits (suc i) below is = no_colon more digits.1 i (omega arith) is

-- the first colon stands behind the number
pub number_is_first : (rest : Word) (split : Option (Bor Word × Bor Word)) (number items : ℕ) → IsSplitOnceResult 58 rest split
    → (it : IsGenerated (codes "gen:" ++ rest) number items) → MatchOption split ⊥ (λ x. (x.0.now ≡ it.first) × (x.1.now ≡ it.second))
number_is_first rest split number items h it =
    split_after 58 rest it.first it.second split h (omega arith) (append_cancel_left (codes "gen:") rest (it.first ++ 58 ∷ it.second) it.is)
    (no_colon it.first it.is_number.digits)
