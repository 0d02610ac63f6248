-- A printed text grows at its end.
use Rattle.std.proofs.Common.{◌≡◌, ◌≢◌, ◌⊎◌, inl, inr, ℕ, zero, suc, ◌+◌, ◌-◌, Bool, ◌<◌, List, [], ◌∷◌, ◌++◌, length, take, refl, sym, ◌∙◌, ap, subst, arith, append_assoc, get_or}
use Rattle.std.specs.Prelude.{slice_range, slice_index_or, IsTrue, ◌↔◌}
use Rattle.std.proofs.lemmas.List.{take_more, length-map}
use Rattle.cr_tokens.specs.declared.token.Token.{Token}
use Rattle.cr_tokens.specs.Runs.{spellings}
use Rattle.cr_tokens.proofs.Spellings.{spelling_at}
use Rattle.cr_tokens.specs.Places.{StaysApart}
use Rattle.cr_printer.specs.Seams.{NeedsNoSpace}
use Rattle.cr_printer.specs.Text.{Prints}
use Rattle.cr_printer.specs.Text.Prints.{nothing, last, joined, spaced}

-- what stands between the last spelling and a new one is a matter of these two
grow : (ss : List (List ℕ)) (s t text more : List ℕ) → Prints (ss ++ s ∷ []) text → Prints (s ∷ t ∷ []) (s ++ more) →
    Prints (ss ++ s ∷ t ∷ []) (text ++ more)
grow [] s t text more (last) q = q
grow (x ∷ []) s t text more (joined {text = r} a p) q =
    let P : List ℕ → Type 0 = λ g. Prints (x ∷ s ∷ t ∷ []) g in
    subst P (sym (append_assoc x r more)) (joined a (grow [] s t r more p q))
grow (x ∷ []) s t text more (spaced {text = r} a p) q =
    let P : List ℕ → Type 0 = λ g. Prints (x ∷ s ∷ t ∷ []) g in
    subst P (sym (append_assoc x (32 ∷ r) more)) (spaced a (grow [] s t r more p q))
grow (x ∷ y ∷ ss) s t text more (joined {text = r} a p) q =
    let P : List ℕ → Type 0 = λ g. Prints (x ∷ y ∷ (ss ++ s ∷ t ∷ [])) g in
    subst P (sym (append_assoc x r more)) (joined a (grow (y ∷ ss) s t r more p q))
grow (x ∷ y ∷ ss) s t text more (spaced {text = r} a p) q =
    let P : List ℕ → Type 0 = λ g. Prints (x ∷ y ∷ (ss ++ s ∷ t ∷ [])) g in
    subst P (sym (append_assoc x (32 ∷ r) more)) (spaced a (grow (y ∷ ss) s t r more p q))

-- the first spellings of a list, and two more
two_more : (xs : List (List ℕ)) (k : ℕ) → k + 1 < length xs →
    take (k + 1 + 1) xs ≡ take k xs ++ get_or xs k [] ∷ get_or xs (k + 1) [] ∷ []
two_more xs k lt =
    let one : take (k + 1) xs ≡ take k xs ++ get_or xs k [] ∷ [] = take_more xs k [] (omega arith) in
    take_more xs (k + 1) [] lt ∙ ap (λ (x : List (List ℕ)). x ++ get_or xs (k + 1) [] ∷ []) one
    ∙ append_assoc (take k xs) (get_or xs k [] ∷ []) (get_or xs (k + 1) [] ∷ [])

no_text : (xs : List (List ℕ)) (at : ℕ) (text : List ℕ) → at ≡ 0 → Prints (take at xs) text → text ≡ []
no_text xs at text e p = let P : ℕ → Type 0 = λ i. Prints (take i xs) text in only text (subst P e p)
  where
    only : (g : List ℕ) → Prints [] g → g ≡ []
    only g (nothing) = refl

-- the next spelling behind a first one
next : (xs : List (List ℕ)) (k : ℕ) (text more : List ℕ) → k + 1 < length xs → Prints (take (k + 1) xs) text →
    Prints (get_or xs k [] ∷ get_or xs (k + 1) [] ∷ []) (get_or xs k [] ++ more) → Prints (take (k + 1 + 1) xs) (text ++ more)
next xs k text more lt p q =
    let P : List (List ℕ) → Type 0 = λ x. Prints x text in
    let Q : List (List ℕ) → Type 0 = λ x. Prints x (text ++ more) in
    subst Q (sym (two_more xs k lt))
    (grow (take k xs) (get_or xs k []) (get_or xs (k + 1) []) text more (subst P (take_more xs k [] (omega arith)) p) q)

-- the next spelling, without a space before it and with one
next_joined : (xs : List (List ℕ)) (at : ℕ) (text : List ℕ) → at < length xs → Prints (take at xs) text → NeedsNoSpace xs at →
    Prints (take (at + 1) xs) (text ++ get_or xs at [])
next_joined xs at text lt p (inl e) =
    let none : text ≡ [] = no_text xs at text e p in
    let same : text ++ get_or xs at [] ≡ get_or xs at [] = ap (λ (g : List ℕ). g ++ get_or xs at []) none in
    let one : take (at + 1) xs ≡ get_or xs at [] ∷ [] = take_more xs at [] lt ∙ rw e refl in
    rw (same, one) last
next_joined xs at text lt p (inr (k, e, a)) =
    let P : ℕ → Type 0 = λ i. Prints (take i xs) text in
    let A : ℕ → Type 0 = λ i. StaysApart (get_or xs k []) (get_or xs i []) in
    let S : ℕ → Type 0 = λ i. Prints (take (i + 1) xs) (text ++ get_or xs i []) in
    subst S (sym e) (next xs k text (get_or xs (k + 1) []) (omega arith) (subst P e p) (joined (subst A e a) last))

next_spaced : (xs : List (List ℕ)) (at : ℕ) (text : List ℕ) → at < length xs → Prints (take at xs) text → ¬ NeedsNoSpace xs at →
    Prints (take (at + 1) xs) ((text ++ 32 ∷ []) ++ get_or xs at [])
next_spaced xs zero text lt p na = absurd (na (inl refl))
next_spaced xs (suc k) text lt p na =
    let e : suc k ≡ k + 1 = omega arith in
    let P : ℕ → Type 0 = λ i. Prints (take i xs) text in
    let apart : ¬ StaysApart (get_or xs k []) (get_or xs (k + 1) []) = λ a.
    let A : ℕ → Type 0 = λ i. StaysApart (get_or xs k []) (get_or xs i []) in na (inr (k, e, subst A (sym e) a)) in
    let S : ℕ → Type 0 = λ i. Prints (take (i + 1) xs) ((text ++ 32 ∷ []) ++ get_or xs i []) in
    let T : List ℕ → Type 0 = λ g. Prints (take (k + 1 + 1) xs) g in
    subst S (sym e) (subst T (sym (append_assoc text (32 ∷ []) (get_or xs (k + 1) [])))
    (next xs k text (32 ∷ get_or xs (k + 1) []) (omega arith) (subst P e p) (spaced apart last)))

-- where a token isn't the first one
pub no_space_later : (file : List ℕ) (ts : List Token) (at : ℕ) (d : Token) (r : Bool) → at ≢ 0 → at < length ts →
    IsTrue r ↔ StaysApart (slice_range file (slice_index_or ts (at - 1) d).start (slice_index_or ts (at - 1) d).end)
    (slice_range file (slice_index_or ts at d).start (slice_index_or ts at d).end) →
    IsTrue r ↔ NeedsNoSpace (spellings file ts) at
no_space_later file ts at d r some lt h =
    let left = spelling_at file ts (at - 1) d (omega arith) in
    let right = spelling_at file ts at d lt in (
      λ x. inr (at - 1, omega arith, rw (left, right) (h.0 x)),
      λ n. elim n [
        | inl z ↦ absurd (some z)
        | inr q ↦
            let same : q.0 ≡ at - 1 = omega (arith, q.1) in
            let P : ℕ → Type 0 = λ i. StaysApart (get_or (spellings file ts) i []) (get_or (spellings file ts) at []) in
            h.1 (rw (left, right) at (subst P same q.2))
      ],
    )

-- one more token
pub added : (file : List ℕ) (ts : List Token) (at : ℕ) (d : Token) (text mid new spelling : List ℕ) → at < length ts →
    spelling ≡ slice_range file (slice_index_or ts at d).start (slice_index_or ts at d).end → new ≡ mid ++ spelling →
    ((mid ≡ text ++ 32 ∷ []) × ¬ NeedsNoSpace (spellings file ts) at) ⊎ ((mid ≡ text) × NeedsNoSpace (spellings file ts) at) →
    Prints (take at (spellings file ts)) text → Prints (take (at + 1) (spellings file ts)) new
added file ts at d text mid new spelling lt e f (inl g) p =
    let here : get_or (spellings file ts) at [] ≡ spelling = spelling_at file ts at d lt ∙ sym e in
    let size : at < length (spellings file ts) = simp length-map lt in
    let P : List ℕ → Type 0 = λ x. Prints (take (at + 1) (spellings file ts)) x in
    let same : (text ++ 32 ∷ []) ++ get_or (spellings file ts) at [] ≡ new = rw (here, f, g.0) refl in
    subst P same (next_spaced (spellings file ts) at text size p g.1)
added file ts at d text mid new spelling lt e f (inr g) p =
    let here : get_or (spellings file ts) at [] ≡ spelling = spelling_at file ts at d lt ∙ sym e in
    let size : at < length (spellings file ts) = simp length-map lt in
    let P : List ℕ → Type 0 = λ x. Prints (take (at + 1) (spellings file ts)) x in
    let same : text ++ get_or (spellings file ts) at [] ≡ new = rw (here, f, g.0) refl in
    subst P same (next_joined (spellings file ts) at text size p g.1)
