-- Tokens that stand side by side in a file stay apart, so a text that they print as is no longer than the file.
use Rattle.std.proofs.Common.{◌≡◌, ◌≢◌, inl, inr, ℕ, ◌+◌, ◌-◌, ◌≤◌, ◌<◌, List, [], ◌∷◌, ◌++◌, length, refl, sym, ◌∙◌, ap, subst, arith, zero-add, length-append}
use Rattle.std.specs.Prelude.{slice_index, slice_range, slice_index_or, All}
use Rattle.std.proofs.lemmas.Bool.{cases_lt}
use Rattle.std.proofs.lemmas.List.{get_or_append_left, get_or-append-add}
use Rattle.std.proofs.lemmas.List.Elements.{All-head, All-tail}
use Rattle.cr_tokens.specs.declared.token.Token.{Token}
use Rattle.cr_tokens.specs.Tokens.{IsToken, Tokenizes}
use Rattle.cr_tokens.specs.Runs.{spellings}
use Rattle.cr_tokens.specs.Places.{StaysApart, Rise}
use Rattle.cr_tokens.proofs.Ranges.{slice_range-at, slice_range-length}
use Rattle.cr_printer.specs.Text.{Prints}
use Rattle.cr_printer.specs.Text.Prints.{nothing, last, joined, spaced}
use Rattle.cr_printer.specs.Seams.{AreInOrder}
use Rattle.cr_printer.proofs.Moves.{Agree}
use Rattle.cr_printer.proofs.Stands.{token_at, token_cut}
use Rattle.cr_printer.proofs.Apart.{apart_from}
use Rattle.cr_printer.proofs.Orders.{sized, one_token, short_together, in_order, order_part, rise_from}

-- the bytes of both are those of the file
both_there : (file : List ℕ) (t u : Token) → IsToken file t → IsToken file u → t.end ≡ u.start →
    Agree file t.start (slice_range file t.start t.end ++ slice_range file u.start u.end) 0
    (length (slice_range file t.start t.end) + length (slice_range file u.start u.end))
both_there file t u h k e =
    let a : length (slice_range file t.start t.end) ≡ t.end - t.start = slice_range-length file t.start t.end h.inside in
    let b : length (slice_range file u.start u.end) ≡ u.end - u.start = slice_range-length file u.start u.end k.inside in
    record {
      left = omega (arith, h.not_empty, k.not_empty, k.inside);
      right = simp length-append (omega arith);
      each = λ i lt. rw (zero-add i) (sym (at i lt a b));
    }
  where
    at : (i : ℕ) → i < length (slice_range file t.start t.end) + length (slice_range file u.start u.end) →
        length (slice_range file t.start t.end) ≡ t.end - t.start → length (slice_range file u.start u.end) ≡ u.end - u.start →
        slice_index (slice_range file t.start t.end ++ slice_range file u.start u.end) i ≡ slice_index file (t.start + i)
    at i lt a b = elim (cases_lt i (length (slice_range file t.start t.end))) [
      | inl below ↦
          get_or_append_left (slice_range file t.start t.end) (slice_range file u.start u.end) 0 i below
          ∙ slice_range-at file t.start t.end i (omega arith)
      | inr above ↦
          let same : length (slice_range file t.start t.end) + (i - length (slice_range file t.start t.end)) ≡ i = omega arith in
          let place : u.start + (i - length (slice_range file t.start t.end)) ≡ t.start + i = omega (arith, h.not_empty) in
          ap (λ x. slice_index (slice_range file t.start t.end ++ slice_range file u.start u.end) x) (sym same)
          ∙ get_or-append-add (slice_range file t.start t.end) (slice_range file u.start u.end) (i - length (slice_range file t.start t.end)) 0
          ∙ slice_range-at file u.start u.end (i - length (slice_range file t.start t.end)) (omega arith)
          ∙ ap (λ x. slice_index file x) place
    ]

pub neighbours_stay_apart : (file : List ℕ) (t u : Token) → length file ≤ 1048576 → IsToken file t → IsToken file u → t.end ≡ u.start →
    StaysApart (slice_range file t.start t.end) (slice_range file u.start u.end)
neighbours_stay_apart file t u short h k e =
    let a : length (slice_range file t.start t.end) ≡ t.end - t.start = slice_range-length file t.start t.end h.inside in
    let size : length (slice_range file t.start t.end ++ slice_range file u.start u.end) ≡ length (slice_range file t.start t.end) + length (slice_range file u.start u.end) =
    length-append (slice_range file t.start t.end) (slice_range file u.start u.end) in
    let P : ℕ → Type 0 = λ n. IsToken file (token_at t.kind t.start n) in
    let first : IsToken (slice_range file t.start t.end ++ slice_range file u.start u.end) (token_at t.kind 0 (length (slice_range file t.start t.end))) =
    token_cut t.kind file t.start (slice_range file t.start t.end ++ slice_range file u.start u.end) 0 (length (slice_range file t.start t.end))
    (length (slice_range file t.start t.end) + length (slice_range file u.start u.end)) (both_there file t u h k e) (omega arith) (omega arith)
    (subst P (sym a) (sized file t h)) in
    let Q : ℕ → Type 0 = λ n. IsToken (slice_range file t.start t.end ++ slice_range file u.start u.end) (record { kind = t.kind; start = 0; end = n }) in
    apart_from (slice_range file t.start t.end) (slice_range file u.start u.end) t.kind (u.kind, one_token file u short k)
    (short_together file t u short h k (omega arith)) (subst Q (zero-add (length (slice_range file t.start t.end))) first)

pub shrinks : (file : List ℕ) → length file ≤ 1048576 → (ts : List Token) (from to : ℕ) (text : List ℕ) → All (IsToken file) ts → Rise from to ts →
    Prints (spellings file ts) text → length text + from ≤ to
shrinks file short [] from to text all r (nothing) = omega arith
shrinks file short (t ∷ []) from to text all r (last) =
    let h : IsToken file t = All-head (IsToken file) t [] all in
    let a : length (slice_range file t.start t.end) ≡ t.end - t.start = slice_range-length file t.start t.end h.inside in
    omega (arith, r.0, r.1, r.2)
shrinks file short (t ∷ u ∷ ts) from to text all r (joined {text = g} apart p) =
    let h : IsToken file t = All-head (IsToken file) t (u ∷ ts) all in
    let a : length (slice_range file t.start t.end) ≡ t.end - t.start = slice_range-length file t.start t.end h.inside in
    let size : length (slice_range file t.start t.end ++ g) ≡ length (slice_range file t.start t.end) + length g = length-append (slice_range file t.start t.end) g in
    let next : length g + t.end ≤ to = shrinks file short (u ∷ ts) t.end to g (All-tail (IsToken file) t (u ∷ ts) all) r.2 p in
    omega (arith, r.0, r.1)
shrinks file short (t ∷ u ∷ ts) from to text all r (spaced {text = g} apart p) =
    let h : IsToken file t = All-head (IsToken file) t (u ∷ ts) all in
    let k : IsToken file u = All-head (IsToken file) u ts (All-tail (IsToken file) t (u ∷ ts) all) in
    let a : length (slice_range file t.start t.end) ≡ t.end - t.start = slice_range-length file t.start t.end h.inside in
    let size : length (slice_range file t.start t.end ++ 32 ∷ g) ≡ length (slice_range file t.start t.end) + length (32 ∷ g) = length-append (slice_range file t.start t.end) (32 ∷ g) in
    let parted : t.end ≢ u.start = λ e. apart (neighbours_stay_apart file t u short h k e) in
    let gap : t.end + 1 ≤ u.start = omega (arith, r.2.0) in
    let next : length g + (t.end + 1) ≤ to =
    shrinks file short (u ∷ ts) (t.end + 1) to g (All-tail (IsToken file) t (u ∷ ts) all) (gap, r.2.1, r.2.2) p in
    omega (arith, r.0, r.1)

pub printed_is_no_longer : (file : List ℕ) (tokens : List Token) (from to : ℕ) (text : List ℕ) → Tokenizes file tokens →
    Prints (spellings file (slice_range tokens from to)) text → length text ≤ length file
printed_is_no_longer file tokens from to text h p =
    let o : AreInOrder file (slice_range tokens from to) = order_part file tokens from to (in_order file tokens h) in
    let le : length text + 0 ≤ length file = shrinks file h.short (slice_range tokens from to) 0 (length file) text o.each o.rise p in
    omega arith

-- a list prints as one text
pub prints_one_text : (ss : List (List ℕ)) (text other : List ℕ) → Prints ss text → Prints ss other → text ≡ other
prints_one_text [] text other (nothing) (nothing) = refl
prints_one_text (s ∷ []) text other (last) (last) = refl
prints_one_text (s ∷ t ∷ ts) text other (joined {text = g} a p) (joined {text = h} b q) =
    ap (λ (x : List ℕ). s ++ x) (prints_one_text (t ∷ ts) g h p q)
prints_one_text (s ∷ t ∷ ts) text other (joined a p) (spaced b q) = absurd (b a)
prints_one_text (s ∷ t ∷ ts) text other (spaced a p) (joined b q) = absurd (a b)
prints_one_text (s ∷ t ∷ ts) text other (spaced {text = g} a p) (spaced {text = h} b q) =
    ap (λ (x : List ℕ). s ++ 32 ∷ x) (prints_one_text (t ∷ ts) g h p q)

-- tokens rise from the start of the first to the end of the last
rise_between : (from to : ℕ) (t : Token) (ts : List Token) (d : Token) → Rise from to (t ∷ ts) →
    Rise t.start (slice_index_or (t ∷ ts) (length ts) d).end (t ∷ ts)
rise_between from to t [] d r = (omega arith, r.1, omega arith)
rise_between from to t (u ∷ us) d r =
    (omega arith, r.1, rise_from t.end u.start (slice_index_or (u ∷ us) (length us) d).end (u ∷ us) r.2.0 (rise_between t.end to u us d r.2))

-- the bytes from the first token to the last are room for a text of the tokens
pub room_suffices : (file : List ℕ) (ts : List Token) (d : Token) (text : List ℕ) → AreInOrder file ts → 0 < length ts →
    Prints (spellings file ts) text → length text ≤ (slice_index_or ts (length ts - 1) d).end - (slice_index_or ts 0 d).start
room_suffices file [] d text o some p = absurd (omega arith)
room_suffices file (t ∷ ts) d text o some p =
    let last : length (t ∷ ts) - 1 ≡ length ts = omega arith in
    let le : length text + t.start ≤ (slice_index_or (t ∷ ts) (length ts) d).end =
    shrinks file o.short (t ∷ ts) t.start (slice_index_or (t ∷ ts) (length ts) d).end text o.each (rise_between 0 (length file) t ts d o.rise) p in
    let P : ℕ → Type 0 = λ k. length text ≤ (slice_index_or (t ∷ ts) k d).end - t.start in
    subst P (sym last) (omega arith)

pub no_room : (file : List ℕ) (ts : List Token) (text : List ℕ) → length ts ≡ 0 → Prints (spellings file ts) text → length text ≤ 0
no_room file [] text e (nothing) = omega arith
no_room file (t ∷ ts) text e p = absurd (omega arith)
