-- A string literal has no more bytes than its file (C11 6.4.5).
use Rattle.std.proofs.Common.{◌≡◌, ℕ, zero, suc, ◌+◌, ◌-◌, ◌≤◌, List, [], ◌∷◌, Option, None, Some, drop, length, slice_get, slice_index_or, inl, inr, refl, sym, ap, subst, arith, length-append}
use Rattle.std.proofs.lemmas.Bool.{cases_lt}
use Rattle.std.proofs.lemmas.List.{get_or_past, length-take}
use Rattle.cr_tokens.specs.declared.token.Token.{Token}
use Rattle.cr_tokens.specs.Places.{Rise}
use Rattle.cr_tokens.proofs.Measures.{falls_rise}
use Rattle.cr_syntax.specs.declared.node.Kind.{Kind}
use Rattle.cr_syntax.specs.declared.node.Kind.TheVariants as kind
use Rattle.cr_syntax.specs.declared.node.Node.{Node}
use Rattle.cr_check_constants.specs.Literals.{inside_of}
use Rattle.cr_check_expressions.specs.Known.{spelling_if, spelling_of}
use Rattle.cr_check_literals.specs.Characters.{further_of, bytes_behind, bytes_of}
use Rattle.cr_check_literals.specs.Texts.{joined, literal_of, text_by, text_if}
use Rattle.cr_meaning_types.specs.Fitting.Laws.{LiteralsAreShort}

-- ---- sums of so many numbers

abbrev up : (ℕ → ℕ) → ℕ → ℕ
up f zero = 0
up f (suc n) = up f n + f n

up_shift : (f : ℕ → ℕ) (n : ℕ) → up f (suc n) ≡ f 0 + up (λ k. f (suc k)) n
up_shift f zero = omega arith
up_shift f (suc n) = let e = up_shift f n in omega (arith, e)

up_part : (f : ℕ → ℕ) (first n : ℕ) → up (λ k. f (first + k)) n ≤ up f (first + n)
up_part f first zero = omega arith
up_part f first (suc n) =
    let low = up_part f first n in
    let e : first + suc n ≡ suc (first + n) = omega arith in
    let sum : up f (first + suc n) ≡ up f (first + n) + f (first + n) = ap (up f) e in
    omega (arith, low, sum)

-- ---- tokens

abbrev bytes_if : Option Token → ℕ
bytes_if None = 0
bytes_if (Some t) = t.end - t.start

abbrev bytes_at : List Token → ℕ → ℕ
bytes_at tokens k = bytes_if (slice_get tokens k)

up_none : (n : ℕ) → up (bytes_at []) n ≡ 0
up_none zero = refl
up_none (suc n) = let e = up_none n in let none : bytes_at [] n ≡ 0 = refl in omega (arith, e, none)

total : (from to : ℕ) (tokens : List Token) → Rise from to tokens → (n : ℕ) → from + up (bytes_at tokens) n ≤ to
total from to [] r n = let e = up_none n in omega (arith, r, e)
total from to (t ∷ ts) r zero = let rest = total t.end to ts r.2 0 in let a = r.0 in let b = r.1 in omega (arith, rest, a, b)
total from to (t ∷ ts) r (suc n) =
    let e : up (bytes_at (t ∷ ts)) (suc n) ≡ (t.end - t.start) + up (bytes_at ts) n = up_shift (bytes_at (t ∷ ts)) n in
    let rest = total t.end to ts r.2 n in
    let a = r.0 in
    let b = r.1 in
    omega (arith, e, rest, a, b)

-- ---- the bytes of literals

behind_short : (left : ℕ) (xs : List ℕ) → length (bytes_behind left xs) ≤ length xs
behind_short left [] = omega arith
behind_short zero (b ∷ xs) = let rest = behind_short (further_of (b ∷ xs)) xs in omega (arith, rest)
behind_short (suc left) (b ∷ xs) = let rest = behind_short left xs in omega (arith, rest)

spelling_short : (file : List ℕ) (o : Option Token) → length (spelling_if file o) ≤ bytes_if o
spelling_short file None = omega arith
spelling_short file (Some t) = let few = length-take (t.end - t.start) (drop t.start file) in omega (arith, few)

inside_short : (s : List ℕ) → length (bytes_of (inside_of s)) ≤ length s - 2
inside_short s = let few = length-take (length s - 2) (drop 1 s) in let all = behind_short 0 (inside_of s) in omega (arith, few, all)

joined_short : (file : List ℕ) (tokens : List Token) (first count : ℕ) → length (joined file tokens first count) ≤ up (λ k. bytes_at tokens (first + k)) count - 2
joined_short file tokens first zero = omega arith
joined_short file tokens first (suc count) =
    let before = joined_short file tokens first count in
    let own = bytes_of (inside_of (spelling_of file tokens (first + count))) in
    let here = inside_short (spelling_of file tokens (first + count)) in
    let few = spelling_short file (slice_get tokens (first + count)) in
    let both = length-append (joined file tokens first count) own in
    omega (arith, before, here, few, both)

literal_short : (file : List ℕ) (tokens : List Token) (n : Node) → length file ≤ 1048576 → Rise 0 (length file) tokens → length (literal_of file tokens n) ≤ 1048576
literal_short file tokens n short rise =
    let count = n.last + 1 - n.first in
    let inner = joined_short file tokens n.first count in
    let part = up_part (bytes_at tokens) n.first count in
    let all = total 0 (length file) tokens rise (n.first + count) in
    let both = length-append (joined file tokens n.first count) (0 ∷ []) in
    omega (arith, inner, part, all, both, short)

text_short : (file : List ℕ) (tokens : List Token) (k : Kind) (n : Node) → length file ≤ 1048576 → Rise 0 (length file) tokens → length (text_by k file tokens n) ≤ 1048576
text_short file tokens kind.Text n short rise = literal_short file tokens n short rise
text_short file tokens k n short rise = omega arith

node_short : (file : List ℕ) (tokens : List Token) (o : Option Node) → length file ≤ 1048576 → Rise 0 (length file) tokens → length (text_if file tokens o) ≤ 1048576
node_short file tokens None short rise = omega arith
node_short file tokens (Some n) short rise = text_short file tokens n.kind n short rise

pub literals : LiteralsAreShort
literals file tokens nodes texts tokenizes are node = elim (cases_lt node (length nodes)) [
  | inl low ↦
      (let short = node_short file tokens (slice_get nodes node) tokenizes.short (falls_rise tokenizes.falls) in
      subst (λ text. length text ≤ 1048576) (sym (are.each node low)) short)
  | inr past ↦
      (let count = are.count in
      let none : length (slice_index_or texts node []) ≡ 0 = ap (λ (text : List ℕ). length text) (get_or_past texts node [] (omega (arith, count, past))) in
      omega (arith, none))
]
