-- Words and names.
use Rattle.std.proofs.Common.{◌≡◌, inl, inr, ℕ, List, [], ◌∷◌, ◌++◌, take, drop, append_assoc, refl, sym, ap, ◌∙◌, arith}
use Rattle.std.proofs.lemmas.List.{take-append-drop}
use Rattle.std.specs.Str.Pattern.{HasCharAt}
use Rattle.std.proofs.lemmas.Str.Pattern.{drop_at_char}
use Rattle.cr_main_words.specs.Names.{HasLastPart}

-- what stands behind the last / of a name
pub behind_slash : (name own : List ℕ) (i j : ℕ) → HasCharAt 47 name i j → own ≡ drop j name → HasLastPart name own
behind_slash name own i j at is = record {
  front = take i name ++ 47 ∷ [];
  is = sym (take-append-drop i name) ∙ ap (λ back. take i name ++ back) (drop_at_char 47 name i j at (omega arith) ∙ ap (λ back. 47 ∷ back) (sym is)) ∙ sym (append_assoc (take i name) (47 ∷ []) own);
  ends = inr (take i name, refl);
}

-- a name without / is its own part
pub whole_name : (name : List ℕ) → HasLastPart name name
whole_name name = record { front = []; is = refl; ends = inl refl }
