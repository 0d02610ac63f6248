-- Pass b: brackets and their partners.
use Rattle.std.specs.Prelude.{◌≡◌, ℕ, ◌+◌, ◌-◌, ◌==◌, List, [], ◌∷◌, map, slice_index, if◌then◌else◌}
use Rattle.cr_tokens.specs.declared.token.Token.{Token}
use Rattle.pass_edit.specs.declared.change.Change.{Change}
use Rattle.pass_edit.specs.Forms.{nothing_kept}
use Rattle.pass_edit.specs.Menu.{Offering}
use Rattle.pass_levels.specs.Places.{gone}
use Rattle.pass_text.specs.declared.pair.Pair.{Pair}
use Rattle.pass_text.specs.Nesting.{Nests, NestsNot}

-- the first byte of each token: that of a bracket is the bracket, and no other token begins with one (C11 6.4.6)
abbrev pub signs_of : List ℕ → List Token → List ℕ
signs_of file tokens = map (λ token. slice_index file token.start) tokens

-- what goes at a level: at 0 all from the bracket to its partner; at 1 what is between the two, which may be nothing; at 2 the two brackets
abbrev pub pair_gone : List Token → ℕ → Pair → List Change
pair_gone tokens level pair = if level == 0 then gone tokens pair.from pair.to ∷ []
    else if level == 1 then (if pair.from + 1 == pair.to then [] else gone tokens (pair.from + 1) (pair.to - 1) ∷ [])
    else gone tokens pair.from pair.from ∷ (gone tokens pair.to pair.to ∷ [])

abbrev pub pairs_gone : List Token → List Pair → ℕ → List (List Change)
pairs_gone tokens pairs level = map (pair_gone tokens level) pairs

-- one edit for each pair at each of the three levels
abbrev pub b_offering : List Token → List Pair → Offering
b_offering tokens pairs = record { levels = map (pairs_gone tokens pairs) (0 ∷ (1 ∷ (2 ∷ []))); kept = nothing_kept }

-- What pass b offers: the edits of the pairs, in the order of the opening brackets, and none where some bracket has no partner.
pub data IsBracketOffering (file : List ℕ) (tokens : List Token) (menu : Offering) : Type 0 where
  paired : (pairs : List Pair) → Nests 0 (signs_of file tokens) pairs → menu ≡ b_offering tokens pairs → IsBracketOffering file tokens menu
  unpaired : NestsNot (signs_of file tokens) → menu ≡ b_offering tokens [] → IsBracketOffering file tokens menu
