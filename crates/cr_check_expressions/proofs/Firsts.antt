-- The first of breaks.
use Rattle.std.proofs.Common.{◌≡◌, ◌==◌, ◌⊎◌, Bool, true, false, List, [], ◌∷◌, Option, None, Some, nat_lt, nat_le, if◌then◌else◌, refl, sym, ap, subst, ◌∙◌, inl, inr, arith}
use Rattle.std.specs.Option.{is_some}
use Rattle.std.proofs.lemmas.Bool.{true≢false, ltb-true, ltb-false, leb-true, leb-false, eq-eqb, eqb-true}
use Rattle.cr_check_expressions.specs.declared.least.Break.{Break}
use Rattle.cr_check_expressions.specs.Breaks.{ComesFirst, IsFirst, IsAmong, comes_first, lesser, first_of}

-- ---- two breaks

itself : (b : Break) → ComesFirst b b
itself b = record { token = omega arith; row = λ e. omega arith }

after : (b c d : Break) → ComesFirst b c → ComesFirst c d → ComesFirst b d
after b c d h k =
    let x = h.token in
    let y = k.token in
    record {
      token = omega (arith, x, y);
      row = λ e.
          let p : b.token ≡ c.token = omega (arith, x, y, e) in
          let q : c.token ≡ d.token = omega (arith, x, y, e) in
          let u = h.row p in
          let v = k.row q in
          omega (arith, u, v);
    }

by_tests : (b c : Break) (x y z : Bool) → nat_lt b.token c.token ≡ x → (b.token == c.token) ≡ y → nat_le b.row c.row ≡ z
    → ((comes_first b c ≡ true) × ComesFirst b c) ⊎ ((comes_first b c ≡ false) × ComesFirst c b)
by_tests b c true y z e f g =
    let low = ltb-true b.token c.token e in
    inl (rw e refl, record { token = omega (arith, low); row = λ q. omega (arith, low, q) })
by_tests b c false true true e f g =
    let same = eqb-true b.token c.token f in
    let low = leb-true b.row c.row g in
    inl (rw (e, f, g) refl, record { token = omega (arith, same); row = λ q. low })
by_tests b c false true false e f g =
    let same = eqb-true b.token c.token f in
    let low = leb-false b.row c.row g in
    inr (rw (e, f, g) refl, record { token = omega (arith, same); row = λ q. omega (arith, low) })
by_tests b c false false z e f g =
    let low = ltb-false b.token c.token e in
    inr (rw (e, f) refl, record { token = low; row = λ q. absurd (true≢false (sym (eq-eqb b.token c.token (sym q)) ∙ f)) })

either_first : (b c : Break) → ((comes_first b c ≡ true) × ComesFirst b c) ⊎ ((comes_first b c ≡ false) × ComesFirst c b)
either_first b c = by_tests b c (nat_lt b.token c.token) (b.token == c.token) (nat_le b.row c.row) refl refl refl

-- ---- of the breaks that there are

no_break : (b : Break) → None ≡ Some b → ⊥
no_break b e = true≢false (sym (ap is_some e))

abbrev break_or : Break → Option Break → Break
break_or d None = d
break_or d (Some b) = b

single : (x : Option Break) → IsFirst (λ b. x ≡ Some b) x
single None = λ b e. no_break b e
single (Some b) = record { is = refl; first = λ c e. subst (ComesFirst b) (ap (break_or b) e) (itself b) }

pub same_first : (P Q : Break → Type 0) (x : Option Break) → ((b : Break) → P b → Q b) → ((b : Break) → Q b → P b) → IsFirst P x → IsFirst Q x
same_first P Q None to back h = λ b q. h b (back b q)
same_first P Q (Some b) to back h = record { is = to b h.is; first = λ c q. h.first c (back c q) }

pub joined : (P Q : Break → Type 0) (x y : Option Break) → IsFirst P x → IsFirst Q y → IsFirst (λ b. P b ⊎ Q b) (lesser x y)
joined P Q None None h k = λ b e. elim e [ inl p ↦ h b p | inr q ↦ k b q ]
joined P Q None (Some c) h k =
    record { is = inr k.is; first = λ d e. elim e [ inl p ↦ absurd (h d p) | inr q ↦ k.first d q ] }
joined P Q (Some b) None h k =
    record { is = inl h.is; first = λ d e. elim e [ inl p ↦ h.first d p | inr q ↦ absurd (k d q) ] }
joined P Q (Some b) (Some c) h k = elim (either_first b c) [
  | inl left ↦
      let found : IsFirst (λ d. P d ⊎ Q d) (Some b) = record {
        is = inl h.is;
        first = λ d e. elim e [ inl p ↦ h.first d p | inr q ↦ after b c d left.1 (k.first d q) ];
      } in
      subst (IsFirst (λ d. P d ⊎ Q d)) (sym (ap (λ t. if t then Some b else Some c) left.0)) found
  | inr right ↦
      let found : IsFirst (λ d. P d ⊎ Q d) (Some c) = record {
        is = inr k.is;
        first = λ d e. elim e [ inl p ↦ after c b d right.1 (h.first d p) | inr q ↦ k.first d q ];
      } in
      subst (IsFirst (λ d. P d ⊎ Q d)) (sym (ap (λ t. if t then Some b else Some c) right.0)) found
]

-- the first of several is the first that is among them
pub first_among : (xs : List (Option Break)) → IsFirst (IsAmong xs) (first_of xs)
first_among [] = λ b e. e
first_among (x ∷ xs) = joined (λ b. x ≡ Some b) (IsAmong xs) x (first_of xs) (single x) (first_among xs)

-- there is at most one first
same_break : (b c : Break) → ComesFirst b c → ComesFirst c b → Some b ≡ Some c
same_break b c h k =
    let x = h.token in
    let y = k.token in
    let token : b.token ≡ c.token = omega (arith, x, y) in
    let u = h.row token in
    let v = k.row (sym token) in
    let row : b.row ≡ c.row = omega (arith, u, v) in
    λ t. Some (record { token = token t; row = row t })

pub one_first : (P : Break → Type 0) (x y : Option Break) → IsFirst P x → IsFirst P y → x ≡ y
one_first P None None h k = refl
one_first P None (Some c) h k = absurd (h c k.is)
one_first P (Some b) None h k = absurd (k b h.is)
one_first P (Some b) (Some c) h k = same_break b c (h.first c k.is) (k.first b h.is)
