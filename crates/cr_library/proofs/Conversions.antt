-- The conversion that stands after a `%`: what is found is spelled there, and what is spelled is found.
use Rattle.std.proofs.Common.{◌≡◌, ◌≢◌, ℕ, zero, suc, ◌≤◌, Bool, true, false, ◌&&◌, ◌==◌, cond, List, [], ◌∷◌, ◌++◌, get_or, drop, refl, sym, ◌∙◌, ap, subst, arith, append_assoc, replicate}
use Rattle.std.specs.Prelude.{Option, Some, None, MatchOption, slice_get, ⊤}
use Rattle.std.specs.List.{flat_map}
use Rattle.std.proofs.lemmas.Bool.{eqb-true, eq-eqb, and_parts}
use Rattle.cr_library.specs.declared.piece.Piece.{Piece}
use Rattle.cr_library.specs.declared.piece.Piece.TheVariants.{Bytes, Signed, Unsigned, Hex, Byte, Text}
use Rattle.cr_library.specs.Piece.{escaped, conversion, spelling, IsInProfile, is_run}
use Rattle.cr_library.specs.Conversion.{specified, after_letter, converted}

abbrev pub answer : Piece → List ℕ → Option (Piece × List ℕ)
answer piece after = Some (piece, after)

-- a piece that is spelled by `%`, some letters `l`, and a text, and what follows it
pub record IsSpelledBy (letters : ℕ) (text : List ℕ) (piece : Piece) (after : List ℕ) : Type 0 where
  pub spelled : 37 ∷ (replicate letters 108 ++ text) ≡ spelling piece ++ after
  pub in_profile : IsInProfile piece
  pub no_run : is_run piece ≡ false

split : {X G : Type 0} (b : Bool) (x y r : X) → (b ≡ true → x ≡ r → G) → (b ≡ false → y ≡ r → G) → cond b x y ≡ r → G
split true x y r f g e = f refl e
split false x y r f g e = g refl e

same_piece : (letters : ℕ) (text : List ℕ) (p q : Piece) (a b : List ℕ) → answer p a ≡ answer q b → IsSpelledBy letters text p a → IsSpelledBy letters text q b
same_piece letters text p q a b e h =
    let P : Option (Piece × List ℕ) → Type 0 = λ o. MatchOption o ⊤ (λ x. IsSpelledBy letters text x.0 x.1) in subst P e h

modified : (letters specifier wanted : ℕ) (rest : List ℕ) → (specifier == wanted) ≡ true → 37 ∷ (replicate letters 108 ++ specifier ∷ rest) ≡ conversion letters (wanted ∷ []) ++ rest
modified letters specifier wanted rest e =
    rw (eqb-true specifier wanted e) (ap (λ s. 37 ∷ s) (sym (append_assoc (replicate letters 108) (wanted ∷ []) rest)))

bare : (letters specifier wanted : ℕ) (rest : List ℕ) → ((specifier == wanted) && (letters == 0)) ≡ true → 37 ∷ (replicate letters 108 ++ specifier ∷ rest) ≡ 37 ∷ wanted ∷ rest
bare letters specifier wanted rest e =
    let parts : ((specifier == wanted) ≡ true) × ((letters == 0) ≡ true) = and_parts (specifier == wanted) (letters == 0) e in
    rw (eqb-true specifier wanted parts.0, eqb-true letters 0 parts.1) refl

pub specified-sound : (letters : ℕ) (text : List ℕ) (piece : Piece) (after : List ℕ) → letters ≤ 2 → specified letters text ≡ answer piece after → IsSpelledBy letters text piece after
specified-sound letters [] piece after few = λ e. cc
specified-sound letters (s ∷ rest) piece after few =
    let whole : Piece → Type 0 = λ p. answer p rest ≡ answer piece after in
    let found : (p : Piece) → 37 ∷ (replicate letters 108 ++ s ∷ rest) ≡ spelling p ++ rest → IsInProfile p → is_run p ≡ false → whole p → IsSpelledBy letters (s ∷ rest) piece after
    = λ p spelled inside plain e. same_piece letters (s ∷ rest) p piece rest after e (record { spelled = spelled; in_profile = inside; no_run = plain }) in
    split (s == 100) _ _ _ (λ t. found (Signed letters) (modified letters s 100 rest t) few refl)
    (λ _. split (s == 117) _ _ _ (λ t. found (Unsigned letters) (modified letters s 117 rest t) few refl)
    (λ _. split (s == 120) _ _ _ (λ t. found (Hex letters) (modified letters s 120 rest t) few refl)
    (λ _. split ((s == 99) && (letters == 0)) _ _ _ (λ t. found Byte (bare letters s 99 rest t) tt refl)
    (λ _. split ((s == 115) && (letters == 0)) _ _ _ (λ t. found Text (bare letters s 115 rest t) tt refl)
    (λ _ e. cc)))))

after_letter-sound : (text : List ℕ) (piece : Piece) (after : List ℕ) → after_letter text ≡ answer piece after → IsSpelledBy 1 text piece after
after_letter-sound [] piece after = λ e. cc
after_letter-sound (s ∷ rest) piece after =
    split (s == 108) _ _ _
    (λ t e. let h : IsSpelledBy 2 rest piece after = specified-sound 2 rest piece after (omega arith) e in
    let spelled : 37 ∷ 108 ∷ s ∷ rest ≡ spelling piece ++ after = rw (eqb-true s 108 t) h.spelled in
    record { spelled = spelled; in_profile = h.in_profile; no_run = h.no_run })
    (λ _. specified-sound 1 (s ∷ rest) piece after (omega arith))

-- what is found is spelled there
pub converted-sound : (text : List ℕ) (piece : Piece) (after : List ℕ) → converted text ≡ answer piece after → IsSpelledBy 0 text piece after
converted-sound [] piece after = λ e. cc
converted-sound (s ∷ rest) piece after =
    split (s == 108) _ _ _
    (λ t e. let h : IsSpelledBy 1 rest piece after = after_letter-sound rest piece after e in
    let spelled : 37 ∷ s ∷ rest ≡ spelling piece ++ after = rw (eqb-true s 108 t) h.spelled in
    record { spelled = spelled; in_profile = h.in_profile; no_run = h.no_run })
    (λ _. specified-sound 0 (s ∷ rest) piece after (omega arith))

-- what is spelled is found
pub converted-complete : (piece : Piece) (after : List ℕ) → IsInProfile piece → is_run piece ≡ false → converted (drop 1 (spelling piece ++ after)) ≡ answer piece after
converted-complete (Bytes _) after few plain = cc
converted-complete (Signed zero) after few plain = refl
converted-complete (Signed (suc zero)) after few plain = refl
converted-complete (Signed (suc (suc zero))) after few plain = refl
converted-complete (Signed (suc (suc (suc _)))) after few plain = absurd (omega (arith, few))
converted-complete (Unsigned zero) after few plain = refl
converted-complete (Unsigned (suc zero)) after few plain = refl
converted-complete (Unsigned (suc (suc zero))) after few plain = refl
converted-complete (Unsigned (suc (suc (suc _)))) after few plain = absurd (omega (arith, few))
converted-complete (Hex zero) after few plain = refl
converted-complete (Hex (suc zero)) after few plain = refl
converted-complete (Hex (suc (suc zero))) after few plain = refl
converted-complete (Hex (suc (suc (suc _)))) after few plain = absurd (omega (arith, few))
converted-complete Byte after few plain = refl
converted-complete Text after few plain = refl

-- a conversion is spelled from a `%` on
pub spelling-first : (piece : Piece) (after : List ℕ) → is_run piece ≡ false → get_or (spelling piece ++ after) 0 0 ≡ 37
spelling-first (Bytes _) after plain = cc
spelling-first (Signed _) after plain = refl
spelling-first (Unsigned _) after plain = refl
spelling-first (Hex _) after plain = refl
spelling-first Byte after plain = refl
spelling-first Text after plain = refl

-- no byte of a run stands where a conversion is spelled
pub escaped_or_conversion : (piece : Piece) (after : List ℕ) (byte : ℕ) (rest : List ℕ) → IsInProfile piece → is_run piece ≡ false → spelling piece ++ after ≡ escaped byte ++ rest → ⊥
escaped_or_conversion piece after byte rest few plain same =
    by_test (byte == 37) refl
  where
    by_test : (b : Bool) → (byte == 37) ≡ b → ⊥
    by_test true percent =
        let told : converted (drop 1 (spelling piece ++ after)) ≡ answer piece after = converted-complete piece after few plain in
        let found : converted (drop 1 (escaped byte ++ rest)) ≡ None = rw percent refl in
        cc (told, found, ap (λ s. converted (drop 1 s)) same)
    by_test false other =
        let first : get_or (escaped byte ++ rest) 0 0 ≡ byte = rw other refl in
        let percent : byte ≡ 37 = sym first ∙ ap (λ s. get_or s 0 0) (sym same) ∙ spelling-first piece after plain in
        cc (other, eq-eqb byte 37 percent)

-- where no conversion is found after a `%`, nor a second `%`, no piece is spelled
pub nothing_spelled : (text : List ℕ) (piece : Piece) (after : List ℕ) → converted text ≡ None → slice_get text 0 ≢ Some 37 → IsInProfile piece → 37 ∷ text ≢ spelling piece ++ after
nothing_spelled text (Bytes []) after none next few same = absurd (omega (arith, few))
nothing_spelled text (Bytes (byte ∷ bytes)) after none next few same =
    by_test (byte == 37) refl
  where
    by_test : (b : Bool) → (byte == 37) ≡ b → ⊥
    by_test true percent =
        let second : slice_get (drop 1 ((escaped byte ++ flat_map escaped bytes) ++ after)) 0 ≡ Some 37 = rw percent refl in
        next (ap (λ s. slice_get (drop 1 s) 0) same ∙ second)
    by_test false other =
        let first : get_or ((escaped byte ++ flat_map escaped bytes) ++ after) 0 0 ≡ byte = rw other refl in
        let percent : byte ≡ 37 = sym first ∙ ap (λ s. get_or s 0 0) (sym same) in
        cc (other, eq-eqb byte 37 percent)
nothing_spelled text piece after none next few same =
    let told : converted (drop 1 (spelling piece ++ after)) ≡ answer piece after = converted-complete piece after few refl in
    cc (none, told)
