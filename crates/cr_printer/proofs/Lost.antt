-- Three dots in a row are never read back: the text would have to be longer.
use Rattle.std.proofs.Common.{◌≡◌, ◌≢◌, inl, inr, ℕ, ◌+◌, ◌-◌, ◌≤◌, ◌<◌, List, [], ◌∷◌, ◌++◌, length, drop, refl, sym, ◌∙◌, ap, subst, arith, add-zero, length-append, append_assoc}
use Rattle.std.specs.Prelude.{slice_index, slice_index_or, slice_range, All, codes}
use Rattle.std.proofs.lemmas.Bool.{cases_eq}
use Rattle.std.proofs.lemmas.List.Elements.{All-head, All-tail}
use Rattle.cr_tokens.specs.declared.token.Token.{Token}
use Rattle.cr_tokens.specs.declared.token.TokenKind.TheVariants.{Punctuator}
use Rattle.cr_tokens.specs.Tokens.{IsToken}
use Rattle.cr_tokens.specs.Tokens.IsLexeme.{punctuator}
use Rattle.cr_tokens.specs.Tokens.FallsInto.{nothing, token}
use Rattle.cr_tokens.specs.Runs.{spellings}
use Rattle.cr_tokens.specs.Places.{StaysApart, Rise}
use Rattle.cr_tokens.proofs.Ranges.{slice_range-at, slice_range-length, slice_range-three}
use Rattle.cr_printer.specs.Text.{Prints}
use Rattle.cr_printer.specs.Text as prints
use Rattle.cr_printer.specs.Pieces.{Piece, IsOneToken, HasThreeDots, spellings_of, dot}
use Rattle.cr_printer.specs.Seams.{AreInOrder}
use Rattle.cr_printer.specs.Laws.{IsReadAs}
use Rattle.cr_printer.proofs.Apart.{one_apart}
use Rattle.cr_printer.proofs.Orders.{in_order}
use Rattle.cr_printer.proofs.Neighbours.{shrinks, neighbours_stay_apart}
use Rattle.cr_printer.proofs.Units.{spellings_same}

-- a dot by itself is a token
dot_token : IsToken dot (record { kind = Punctuator; start = 0; end = 1 })
dot_token = record {
  not_empty = omega arith;
  inside = omega arith;
  spells = refl;
  longest = λ to lt inside. absurd (omega arith);
  no_comment = λ c. elim c [ inl b ↦ omega (arith, b.0) | inr l ↦ omega (arith, l.0) ];
  no_splice = λ s. elim s [ inl b ↦ omega (arith, b.0) | inr l ↦ omega (arith, l.0) ];
}

one_dot : IsOneToken (record { kind = Punctuator; spelling = dot })
one_dot = record {
  short = omega arith;
  few = omega arith;
  falls = token (record { kind = Punctuator; start = 0; end = 1 }) refl dot_token nothing;
}

-- two of them stay apart
two_dots : StaysApart dot dot
two_dots = one_apart dot dot one_dot (Punctuator, one_dot) (omega arith) refl (λ g. elim g [
  | inl two ↦ cc
  | inr o ↦ elim o [
    | inl d ↦ elim d.1 [ inl digit ↦ omega arith | inr more ↦ omega arith ]
    | inr c ↦ omega arith
  ]
])

-- a token that is a dot has one byte
dot_there : (g : List ℕ) (t : Token) → IsToken g t → slice_range g t.start t.end ≡ dot → (t.end ≡ t.start + 1) × (slice_index g t.start ≡ 46)
dot_there g t h e =
    let size : length (slice_range g t.start t.end) ≡ t.end - t.start = slice_range-length g t.start t.end h.inside in
    let one : length (slice_range g t.start t.end) ≡ 1 = ap (λ (s : List ℕ). length s) e in
    let first : slice_index (slice_range g t.start t.end) 0 ≡ slice_index g (t.start + 0) = slice_range-at g t.start t.end 0 (omega (arith, h.not_empty)) in
    let byte : slice_index (slice_range g t.start t.end) 0 ≡ 46 = ap (λ (s : List ℕ). slice_index s 0) e in
    (omega (arith, h.not_empty), ap (λ i. slice_index g i) (sym (add-zero t.start)) ∙ sym first ∙ byte)

-- no three of them stand side by side
parted : (g : List ℕ) (t u v : Token) → IsToken g t → IsToken g u → IsToken g v → slice_range g t.start t.end ≡ dot →
    slice_range g u.start u.end ≡ dot → slice_range g v.start v.end ≡ dot → t.end ≡ u.start → u.end ≢ v.start
parted g t u v ht hu hv et eu ev a b =
    let dt = dot_there g t ht et in
    let du = dot_there g u hu eu in
    let dv = dot_there g v hv ev in
    let second : slice_index g (t.start + 1) ≡ 46 = ap (λ i. slice_index g i) (sym dt.0 ∙ a) ∙ du.1 in
    let place : t.start + 2 ≡ v.start = omega (arith, dt.0, du.0) in
    let third : slice_index g (t.start + 2) ≡ 46 = ap (λ i. slice_index g i) place ∙ dv.1 in
    let room : t.start + 2 < length g = omega (arith, hv.inside, hv.not_empty) in
    let bytes : slice_range g t.start (t.start + 3) ≡ codes "..." = slice_range-three g t.start room ∙ rw (dt.1, second, third) refl in
    ht.longest (t.start + 3) (omega (arith, dt.0)) (omega arith) (punctuator (rw bytes refl))

-- three dots at the front
record Front (g : List ℕ) (ts : List Token) : Type 0 where
  t : Token
  u : Token
  v : Token
  rest : List Token
  same : ts ≡ t ∷ u ∷ v ∷ rest
  first : slice_range g t.start t.end ≡ dot
  second : slice_range g u.start u.end ≡ dot
  third : slice_range g v.start v.end ≡ dot

front_of : (g : List ℕ) (ts : List Token) (after : List (List ℕ)) → spellings g ts ≡ dot ∷ dot ∷ dot ∷ after → Front g ts
front_of g [] after e = absurd (cc e)
front_of g (t ∷ []) after e = absurd (cc e)
front_of g (t ∷ u ∷ []) after e = absurd (cc e)
front_of g (t ∷ u ∷ v ∷ rest) after e = record {
  t = t;
  u = u;
  v = v;
  rest = rest;
  same = refl;
  first = ap (λ (x : List (List ℕ)). slice_index_or x 0 []) e;
  second = ap (λ (x : List (List ℕ)). slice_index_or x 1 []) e;
  third = ap (λ (x : List (List ℕ)). slice_index_or x 2 []) e;
}

-- what tokens with three dots at the front print as is shorter than their place
front_slack : (g : List ℕ) → length g ≤ 1048576 → (t u v : Token) (rest : List Token) (from to : ℕ) (text : List ℕ) →
    All (IsToken g) (t ∷ u ∷ v ∷ rest) → Rise from to (t ∷ u ∷ v ∷ rest) → slice_range g t.start t.end ≡ dot →
    slice_range g u.start u.end ≡ dot → slice_range g v.start v.end ≡ dot → Prints (spellings g (t ∷ u ∷ v ∷ rest)) text →
    length text + from < to
front_slack g short t u v rest from to text all r et eu ev (prints.spaced apart p) =
    let P : List ℕ → Type 0 = λ s. StaysApart s (slice_range g u.start u.end) in
    let Q : List ℕ → Type 0 = λ s. StaysApart dot s in
    absurd (apart (subst P (sym et) (subst Q (sym eu) two_dots)))
front_slack g short t u v rest from to text all r et eu ev (prints.joined {text = x} apart (prints.spaced apart' p)) =
    let P : List ℕ → Type 0 = λ s. StaysApart s (slice_range g v.start v.end) in
    let Q : List ℕ → Type 0 = λ s. StaysApart dot s in
    absurd (apart' (subst P (sym eu) (subst Q (sym ev) two_dots)))
front_slack g short t u v rest from to text all r et eu ev (prints.joined {text = x} apart (prints.joined {text = y} apart' p)) =
    let all_u = All-tail (IsToken g) t (u ∷ v ∷ rest) all in
    let all_v = All-tail (IsToken g) u (v ∷ rest) all_u in
    let ht : IsToken g t = All-head (IsToken g) t (u ∷ v ∷ rest) all in
    let hu : IsToken g u = All-head (IsToken g) u (v ∷ rest) all_u in
    let hv : IsToken g v = All-head (IsToken g) v rest all_v in
    let dt = dot_there g t ht et in
    let du = dot_there g u hu eu in
    let st : length (slice_range g t.start t.end) ≡ 1 = ap (λ (s : List ℕ). length s) et in
    let su : length (slice_range g u.start u.end) ≡ 1 = ap (λ (s : List ℕ). length s) eu in
    let size : length (slice_range g t.start t.end ++ (slice_range g u.start u.end ++ y)) ≡ 1 + (1 + length y) =
    length-append (slice_range g t.start t.end) (slice_range g u.start u.end ++ y)
    ∙ rw (st, length-append (slice_range g u.start u.end) y, su) refl in
    let last : length y + v.start ≤ to = shrinks g short (v ∷ rest) v.start to y all_v (omega arith, r.2.2.1, r.2.2.2) p in
    let gap : t.start + 2 < v.start = elim (cases_eq t.end u.start) [
      | inl a ↦
          let b : u.end ≢ v.start = parted g t u v ht hu hv et eu ev a in
          let c : u.end ≤ v.start = r.2.2.0 in
          omega (arith, dt.0, du.0)
      | inr a ↦
          let b : t.end ≤ u.start = r.2.0 in
          let c : u.end ≤ v.start = r.2.2.0 in
          omega (arith, dt.0, du.0)
    ] in
    omega (arith, r.0)

slack : (g : List ℕ) → length g ≤ 1048576 → (before after : List (List ℕ)) (ts : List Token) (from to : ℕ) (text : List ℕ) →
    All (IsToken g) ts → Rise from to ts → spellings g ts ≡ before ++ (dot ∷ dot ∷ dot ∷ after) → Prints (spellings g ts) text →
    length text + from < to
slack g short [] after ts from to text all r e p =
    let f : Front g ts = front_of g ts after e in
    let A : List Token → Type 0 = λ x. All (IsToken g) x in
    let R : List Token → Type 0 = λ x. Rise from to x in
    let P : List Token → Type 0 = λ x. Prints (spellings g x) text in
    front_slack g short f.t f.u f.v f.rest from to text (subst A f.same all) (subst R f.same r) f.first f.second f.third (subst P f.same p)
slack g short (s ∷ before) after [] from to text all r e p = absurd (cc e)
slack g short (s ∷ before) after (t ∷ []) from to text all r e p =
    let none : length (before ++ (dot ∷ dot ∷ dot ∷ after)) ≡ 0 = sym (ap (λ (x : List (List ℕ)). length (drop 1 x)) e) in
    absurd (some before (dot ∷ dot ∷ after) none)
  where
    some : (xs ys : List (List ℕ)) → length (xs ++ (dot ∷ ys)) ≢ 0
    some xs ys z = let size : length (xs ++ (dot ∷ ys)) ≡ length xs + length (dot ∷ ys) = length-append xs (dot ∷ ys) in omega arith
slack g short (s ∷ before) after (t ∷ u ∷ ts) from to text all r e (prints.joined {text = x} apart p) =
    let h : IsToken g t = All-head (IsToken g) t (u ∷ ts) all in
    let a : length (slice_range g t.start t.end) ≡ t.end - t.start = slice_range-length g t.start t.end h.inside in
    let size : length (slice_range g t.start t.end ++ x) ≡ length (slice_range g t.start t.end) + length x = length-append (slice_range g t.start t.end) x in
    let next : length x + t.end < to =
    slack g short before after (u ∷ ts) t.end to x (All-tail (IsToken g) t (u ∷ ts) all) r.2 (ap (λ (y : List (List ℕ)). drop 1 y) e) p in
    omega (arith, r.0, r.1)
slack g short (s ∷ before) after (t ∷ u ∷ ts) from to text all r e (prints.spaced {text = x} apart p) =
    let h : IsToken g t = All-head (IsToken g) t (u ∷ ts) all in
    let k : IsToken g u = All-head (IsToken g) u ts (All-tail (IsToken g) t (u ∷ ts) all) in
    let a : length (slice_range g t.start t.end) ≡ t.end - t.start = slice_range-length g t.start t.end h.inside in
    let size : length (slice_range g t.start t.end ++ 32 ∷ x) ≡ length (slice_range g t.start t.end) + length (32 ∷ x) = length-append (slice_range g t.start t.end) (32 ∷ x) in
    let apart_there : t.end ≢ u.start = λ q. apart (neighbours_stay_apart g t u short h k q) in
    let gap : t.end + 1 ≤ u.start = omega (arith, r.2.0) in
    let next : length x + (t.end + 1) < to =
    slack g short before after (u ∷ ts) (t.end + 1) to x (All-tail (IsToken g) t (u ∷ ts) all) (gap, r.2.1, r.2.2) (ap (λ (y : List (List ℕ)). drop 1 y) e) p in
    omega (arith, r.0, r.1)

pub three_dots_are_lost : (ps : List Piece) (text : List ℕ) → HasThreeDots (spellings_of ps) → Prints (spellings_of ps) text → ¬ IsReadAs text ps
three_dots_are_lost ps text (before, after, e) p (ts, h, same) =
    let o : AreInOrder text ts = in_order text ts h in
    let spelled : spellings text ts ≡ spellings_of ps = sym (spellings_same text ts) ∙ ap (λ (x : List Piece). spellings_of x) same in
    let P : List (List ℕ) → Type 0 = λ x. Prints x text in
    let longer : length text + 0 < length text =
    slack text h.short before after ts 0 (length text) text o.each o.rise (spelled ∙ e ∙ append_assoc before (dot ∷ dot ∷ dot ∷ []) after)
    (subst P (sym spelled) p) in
    omega arith
