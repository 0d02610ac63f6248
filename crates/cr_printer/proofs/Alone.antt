-- A token apart from its file, and two side by side.
use Rattle.std.proofs.Common.{◌≡◌, ◌≢◌, inl, inr, ℕ, ◌+◌, ◌-◌, ◌<◌, List, [], ◌∷◌, ◌++◌, length, refl, sym, ◌∙◌, ap, subst, arith, zero-add, length-append}
use Rattle.std.specs.Prelude.{slice_index, slice_range}
use Rattle.std.proofs.lemmas.Bool.{cases_lt}
use Rattle.std.proofs.lemmas.List.{ext_get_or, append-nil, get_or_append_left, get_or-append-add}
use Rattle.cr_tokens.specs.declared.token.Token.{Token}
use Rattle.cr_tokens.specs.declared.token.TokenKind.{TokenKind}
use Rattle.cr_tokens.specs.Tokens.{IsToken, Spells, FallsInto}
use Rattle.cr_tokens.specs.Tokens.FallsInto.{blank, token}
use Rattle.cr_tokens.specs.Places.{StaysApart}
use Rattle.cr_tokens.proofs.Places.{past}
use Rattle.cr_tokens.proofs.Ranges.{slice_range-at, slice_range-length}
use Rattle.cr_printer.specs.Pieces.{Piece, IsOneToken}
use Rattle.cr_printer.specs.Text.{Prints}
use Rattle.cr_printer.specs.Text.Prints.{last, joined, spaced}
use Rattle.cr_printer.proofs.Moves.{Agree, spells_moved}
use Rattle.cr_printer.proofs.LineEnds.{OneLine, spelled}
use Rattle.cr_printer.proofs.Stands.{token_at}

first_token : {file : List ℕ} {from after : ℕ} {t : Token} {ts : List Token} → FallsInto file from after (t ∷ ts) → IsToken file t
first_token (blank b rest) = first_token rest
first_token (token t e h rest) = h

-- the token of a text that begins with it
from_zero : (file : List ℕ) (kind : TokenKind) (n : ℕ) → IsToken file (record { kind = kind; start = 0; end = n }) → IsToken file (token_at kind 0 n)
from_zero file kind n t =
    let P : ℕ → Type 0 = λ i. IsToken file (record { kind = kind; start = 0; end = i }) in subst P (sym (zero-add n)) t

pub alone : (p : Piece) → IsOneToken p → IsToken p.spelling (token_at p.kind 0 (length p.spelling))
alone p h = from_zero p.spelling p.kind (length p.spelling) (first_token h.falls)

-- a token of another kind that spells the same
retold : (file : List ℕ) (kind other : TokenKind) (at n : ℕ) → IsToken file (token_at other at n) → Spells file kind at (at + n) →
    IsToken file (token_at kind at n)
retold file kind other at n t s = record {
  not_empty = t.not_empty;
  inside = t.inside;
  spells = s;
  longest = t.longest;
  no_comment = t.no_comment;
  no_splice = t.no_splice;
}

-- the front of a text
pub front : (s t : List ℕ) → Agree s 0 (s ++ t) 0 (length s)
front s t = record {
  left = omega arith;
  right = simp length-append (omega arith);
  each = λ k lt. rw (zero-add k) (sym (get_or_append_left s t 0 k lt));
}

-- the first of two tokens that stay apart
pub apart_some : (s t : List ℕ) → StaysApart s t → (kind : TokenKind) × IsToken (s ++ t) (token_at kind 0 (length s))
apart_some s t a = (a.0, from_zero (s ++ t) a.0 (length s) (first_token a.2.falls))

-- of whichever kind it is by itself
pub apart_first : (kind : TokenKind) (s t : List ℕ) → StaysApart s t → IsToken s (token_at kind 0 (length s)) → IsToken (s ++ t) (token_at kind 0 (length s))
apart_first kind s t a h =
    retold (s ++ t) kind (apart_some s t a).0 0 (length s) (apart_some s t a).1
    (spells_moved kind s 0 (s ++ t) 0 (length s) (front s t) h.spells)

pub one_line : (p : Piece) → IsOneToken p → OneLine p.spelling
one_line p h =
    let t : IsToken p.spelling (token_at p.kind 0 (length p.spelling)) = alone p h in
    record {
      each = λ k. elim (cases_lt k (length p.spelling)) as (λ _. slice_index p.spelling k ≢ 10) [
        | inl lt ↦ spelled p.kind p.spelling 0 (0 + length p.spelling) k t.inside t.spells (omega arith) (omega arith)
        | inr ge ↦ λ e. let z : slice_index p.spelling k ≡ 0 = past p.spelling k ge in omega arith
      ];
    }

pub not_empty : (p : Piece) → IsOneToken p → 0 < length p.spelling
not_empty p h = let t : IsToken p.spelling (token_at p.kind 0 (length p.spelling)) = alone p h in omega (arith, t.not_empty)

-- a text ends another, from a place on
pub record Ends (g : List ℕ) (b : ℕ) (text : List ℕ) : Type 0 where
  pub size : length g ≡ b + length text
  pub each : (k : ℕ) → slice_index g (b + k) ≡ slice_index text k

pub ends_front : (g : List ℕ) (b : ℕ) (s r : List ℕ) → Ends g b (s ++ r) → Agree s 0 g b (length s)
ends_front g b s r e = record {
  left = omega arith;
  right = let size : length g ≡ b + (length s + length r) = rw length-append at (e.size) in omega arith;
  each = λ k lt. rw (zero-add k) (sym (e.each k ∙ get_or_append_left s r 0 k lt));
}

pub ends_after : (g : List ℕ) (b : ℕ) (s r : List ℕ) → Ends g b (s ++ r) → Ends g (b + length s) r
ends_after g b s r e = record {
  size = let size : length g ≡ b + (length s + length r) = rw length-append at (e.size) in omega arith;
  each = λ k.
      let same : (b + length s) + k ≡ b + (length s + k) = omega arith in
      ap (λ i. slice_index g i) same ∙ e.each (length s + k) ∙ get_or-append-add s r k 0;
}

pub ends_all : (g : List ℕ) (b : ℕ) (s : List ℕ) → Ends g b s → Agree s 0 g b (length s)
ends_all g b s e = record {
  left = omega arith;
  right = omega (arith, e.size);
  each = λ k lt. rw (zero-add k) (sym (e.each k));
}

-- the bytes at the place where a spelling stands are the spelling
pub spelling_there : (s g : List ℕ) (b : ℕ) → Agree s 0 g b (length s) → slice_range g b (b + length s) ≡ s
spelling_there s g b a =
    let size : length (slice_range g b (b + length s)) ≡ (b + length s) - b = slice_range-length g b (b + length s) a.right in
    ext_get_or 0 (slice_range g b (b + length s)) s (omega arith) (λ i lt.
    let same : 0 + i ≡ i = zero-add i in
    slice_range-at g b (b + length s) i (omega arith) ∙ sym (a.each i (omega arith)) ∙ ap (λ k. slice_index s k) same)

-- a text begins with its first spelling
pub prints_front : (s : List ℕ) (ss : List (List ℕ)) (text : List ℕ) → Prints (s ∷ ss) text → (rest : List ℕ) × (text ≡ s ++ rest)
prints_front s [] text (last) = ([], sym (append-nil s))
prints_front s (t ∷ ts) text (joined {text = r} apart rest) = (r, refl)
prints_front s (t ∷ ts) text (spaced {text = r} apart rest) = (32 ∷ r, refl)
