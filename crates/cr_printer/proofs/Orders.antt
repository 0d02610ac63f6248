-- Tokens of a file, each behind the one before.
use Rattle.std.proofs.Common.{◌≡◌, ℕ, zero, suc, ◌+◌, ◌-◌, ◌≤◌, ◌<◌, List, [], ◌∷◌, length, take, drop, refl, sym, subst, arith, zero-add}
use Rattle.std.specs.Prelude.{slice_range, slice_index_or, All}
use Rattle.std.proofs.lemmas.List.Elements.{All-cons, All-take, All-drop}
use Rattle.cr_tokens.specs.declared.token.Token.{Token}
use Rattle.cr_tokens.specs.Tokens.{IsToken, FallsInto, Tokenizes}
use Rattle.cr_tokens.specs.Tokens.FallsInto.{nothing, blank, token}
use Rattle.cr_tokens.specs.Places.{Rise}
use Rattle.cr_tokens.proofs.Ranges.{slice_range-at, slice_range-length}
use Rattle.cr_tokens.proofs.Measures.{falls_rise}
use Rattle.cr_printer.specs.Pieces.{Piece, IsOneToken}
use Rattle.cr_printer.specs.Seams.{AreInOrder}
use Rattle.cr_printer.proofs.Moves.{Agree}
use Rattle.cr_printer.proofs.Stands.{token_at, token_cut}

-- a token of a file as a token of so many bytes
pub sized : (file : List ℕ) (t : Token) → IsToken file t → IsToken file (token_at t.kind t.start (t.end - t.start))
sized file t h =
    let same : t.end ≡ t.start + (t.end - t.start) = omega (arith, h.not_empty) in
    let P : ℕ → Type 0 = λ i. IsToken file (record { kind = t.kind; start = t.start; end = i }) in
    subst P same h

-- a file's token, apart from its file
abbrev pub piece_at : List ℕ → Token → Piece
piece_at file t = record { kind = t.kind; spelling = slice_range file t.start t.end }

cut_out : (file : List ℕ) (t : Token) → IsToken file t → Agree file t.start (slice_range file t.start t.end) 0 (t.end - t.start)
cut_out file t h =
    let size : length (slice_range file t.start t.end) ≡ t.end - t.start = slice_range-length file t.start t.end h.inside in
    record {
      left = omega (arith, h.not_empty, h.inside);
      right = omega arith;
      each = λ k lt. rw (zero-add k) (sym (slice_range-at file t.start t.end k (omega arith)));
    }

pub one_token : (file : List ℕ) (t : Token) → length file ≤ 1048576 → IsToken file t → IsOneToken (piece_at file t)
one_token file t short h =
    let size : length (slice_range file t.start t.end) ≡ t.end - t.start = slice_range-length file t.start t.end h.inside in
    let cut : IsToken (slice_range file t.start t.end) (token_at t.kind 0 (t.end - t.start)) =
    token_cut t.kind file t.start (slice_range file t.start t.end) 0 (t.end - t.start) (t.end - t.start) (cut_out file t h) (omega arith)
    (omega arith) (sized file t h) in
    let same : 0 + (t.end - t.start) ≡ length (slice_range file t.start t.end) = omega arith in
    let P : ℕ → Type 0 = λ i. IsToken (slice_range file t.start t.end) (record { kind = t.kind; start = 0; end = i }) in
    record {
      short = omega (arith, h.inside);
      few = omega arith;
      falls = token (record { kind = t.kind; start = 0; end = length (slice_range file t.start t.end) }) refl (subst P same cut) nothing;
    }

-- two tokens of a file are no longer than the file
pub short_together : (file : List ℕ) (t u : Token) → length file ≤ 1048576 → IsToken file t → IsToken file u → t.end ≤ u.start →
    length (slice_range file t.start t.end) + length (slice_range file u.start u.end) ≤ 1048576
short_together file t u short h k order =
    let a : length (slice_range file t.start t.end) ≡ t.end - t.start = slice_range-length file t.start t.end h.inside in
    let b : length (slice_range file u.start u.end) ≡ u.end - u.start = slice_range-length file u.start u.end k.inside in
    omega (arith, k.inside, k.not_empty, h.not_empty)

falls_each : {file : List ℕ} {from to : ℕ} {ts : List Token} → FallsInto file from to ts → All (IsToken file) ts
falls_each nothing = λ k d lt. absurd (omega arith)
falls_each (blank b rest) = falls_each rest
falls_each {file} (token {tokens = ts} t e h rest) = All-cons (IsToken file) t ts h (falls_each rest)

pub in_order : (file : List ℕ) (ts : List Token) → Tokenizes file ts → AreInOrder file ts
in_order file ts h = record { short = h.short; each = falls_each h.falls; rise = falls_rise h.falls }

rise_le : (from to : ℕ) (ts : List Token) → Rise from to ts → from ≤ to
rise_le from to [] r = r
rise_le from to (t ∷ ts) r = omega (arith, r.0, r.1, rise_le t.end to ts r.2)

pub rise_from : (from at to : ℕ) (ts : List Token) → from ≤ at → Rise at to ts → Rise from to ts
rise_from from at to [] h r = omega arith
rise_from from at to (t ∷ ts) h r = (omega (arith, r.0), r.1, r.2)

rise_drop : (k from to : ℕ) (ts : List Token) → Rise from to ts → Rise from to (drop k ts)
rise_drop zero from to ts r = r
rise_drop (suc k) from to [] r = r
rise_drop (suc k) from to (t ∷ ts) r = rise_from from t.end to (drop k ts) (omega (arith, r.0, r.1)) (rise_drop k t.end to ts r.2)

rise_take : (k from to : ℕ) (ts : List Token) → Rise from to ts → Rise from to (take k ts)
rise_take zero from to ts r = rise_le from to ts r
rise_take (suc k) from to [] r = r
rise_take (suc k) from to (t ∷ ts) r = (r.0, r.1, rise_take k t.end to ts r.2)

-- a part of them
pub order_part : (file : List ℕ) (ts : List Token) (from to : ℕ) → AreInOrder file ts → AreInOrder file (slice_range ts from to)
order_part file ts from to o = record {
  short = o.short;
  each = All-take (IsToken file) (to - from) (drop from ts) (All-drop (IsToken file) from ts o.each);
  rise = rise_take (to - from) 0 (length file) (drop from ts) (rise_drop from 0 (length file) ts o.rise);
}

-- neighbours
rise_next : (k from to : ℕ) (ts : List Token) (d : Token) → Rise from to ts → suc k < length ts →
    (slice_index_or ts k d).end ≤ (slice_index_or ts (suc k) d).start
rise_next k from to [] d r lt = absurd (omega arith)
rise_next k from to (t ∷ []) d r lt = absurd (omega arith)
rise_next zero from to (t ∷ u ∷ ts) d r lt = r.2.0
rise_next (suc k) from to (t ∷ u ∷ ts) d r lt = rise_next k t.end to (u ∷ ts) d r.2 (omega arith)

pub rise_before : (at from to : ℕ) (ts : List Token) (d : Token) → Rise from to ts → 0 < at → at < length ts →
    (slice_index_or ts (at - 1) d).end ≤ (slice_index_or ts at d).start
rise_before at from to ts d r some lt =
    let same : suc (at - 1) ≡ at = omega arith in
    let P : ℕ → Type 0 = λ i. (slice_index_or ts (at - 1) d).end ≤ (slice_index_or ts i d).start in
    subst P same (rise_next (at - 1) from to ts d r (omega arith))
