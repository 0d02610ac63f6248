-- What pass b offers.
use native.Mathlib.Omega.{arith}
use Rattle.std.proofs.Common.{◌≡◌, ◌≤◌, ℕ, zero, suc, List, [], ◌∷◌, length, map, sym, ap, subst, ◌∙◌}
use Rattle.std.proofs.lemmas.List.{length-map}
use Rattle.std.specs.Prelude.{slice_index, slice_index_or}
use Rattle.cr_tokens.specs.declared.token.Token.{Token}
use Rattle.cr_tokens.specs.Tokens.{Tokenizes}
use Rattle.cr_tokens.proofs.Measures.{falls_length}
use Rattle.pass_edit.specs.Menu.{Offering, level_of}
use Rattle.pass_text.specs.declared.pair.Pair.{Pair}
use Rattle.pass_text.specs.Nesting.{Nests}
use Rattle.pass_text.proofs.Readings.{few, one}
use Rattle.pass_text.specs.Brackets.{IsBracketOffering, b_offering, pair_gone, pairs_gone, signs_of}
use Rattle.pass_text.specs.Brackets.IsBracketOffering.{paired, unpaired}

pub one_offering : (file : List ℕ) (tokens : List Token) (menu other : Offering) → IsBracketOffering file tokens menu → IsBracketOffering file tokens other → menu ≡ other
one_offering file tokens menu other (paired pairs nests is) (paired others nest also) = is ∙ ap (b_offering tokens) (one (signs_of file tokens) pairs others nests nest) ∙ sym also
one_offering file tokens menu other (paired pairs nests is) (unpaired none also) = absurd (none pairs nests)
one_offering file tokens menu other (unpaired none is) (paired others nest also) = absurd (none others nest)
one_offering file tokens menu other (unpaired none is) (unpaired nor also) = is ∙ sym also

-- Each level has one edit for each pair.
level_len : (tokens : List Token) (pairs : List Pair) (levels : List ℕ) (level : ℕ) → length (slice_index_or (map (pairs_gone tokens pairs) levels) level []) ≤ length pairs
level_len tokens pairs [] level = omega arith
level_len tokens pairs (k ∷ ks) zero = let e = length-map pairs (pair_gone tokens k) in omega (arith, e)
level_len tokens pairs (k ∷ ks) (suc level) = level_len tokens pairs ks level

few_of : (tokens : List Token) (pairs : List Pair) (menu : Offering) (level : ℕ) → menu ≡ b_offering tokens pairs → length (level_of menu level) ≤ length pairs
few_of tokens pairs menu level is = subst (λ m. length (level_of m level) ≤ length pairs) (sym is) (level_len tokens pairs (0 ∷ (1 ∷ (2 ∷ []))) level)

pub few_offered : (file : List ℕ) (tokens : List Token) (menu : Offering) (level : ℕ) → Tokenizes file tokens → IsBracketOffering file tokens menu → length (level_of menu level) ≤ length file
few_offered file tokens menu level is_file (paired pairs nests is) =
    let edits = few_of tokens pairs menu level is in
    let count = few 0 (signs_of file tokens) pairs nests in
    let signs = length-map {B = ℕ} tokens (λ token. slice_index file token.start) in
    let bytes = falls_length is_file.falls in
    omega (arith, edits, count, signs, bytes)
few_offered file tokens menu level is_file (unpaired none is) = let edits = few_of tokens [] menu level is in omega (arith, edits)

pub offered : (file : List ℕ) (tokens : List Token) (signs : List ℕ) (pairs given : List Pair) → signs ≡ signs_of file tokens → Nests 0 signs pairs → given ≡ pairs
    → (menu : Offering) → menu ≡ b_offering tokens given → IsBracketOffering file tokens menu
offered file tokens signs pairs given are nests same menu is = paired pairs (subst (λ ss. Nests 0 ss pairs) are nests) (is ∙ ap (b_offering tokens) same)
