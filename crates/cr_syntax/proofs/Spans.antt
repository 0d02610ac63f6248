-- The tokens of a file are parts of it.
use Rattle.std.proofs.Common.{◌≡◌, ℕ, zero, suc, ◌<◌, ◌≤◌, List, [], ◌∷◌, length, subst, arith}
use Rattle.std.proofs.lemmas.Option.{slice_get_within}
use Rattle.cr_tokens.specs.declared.token.Token.{Token}
use Rattle.cr_tokens.specs.Tokens.{FallsInto, nothing, blank, token}
use Rattle.cr_syntax.specs.Words.{AreSpans}

span_more : (file : List ℕ) (t : Token) (ts : List Token) → t.start < t.end → t.end ≤ length file → AreSpans file ts → AreSpans file (t ∷ ts)
span_more file t ts lt le f zero x q = let e : t ≡ x = cc in subst (λ y. (y.start ≤ y.end) × (y.end ≤ length file)) e (omega arith, le)
span_more file t ts lt le f (suc k) x q = f k x q

pub spans_of : {file : List ℕ} {from to : ℕ} {tokens : List Token} → FallsInto file from to tokens → AreSpans file tokens
spans_of nothing = λ k t q. absurd (let w = slice_get_within [] k t q in omega (arith, w))
spans_of (blank b rest) = spans_of rest
spans_of {file} (token {tokens = ts} t e h rest) = span_more file t ts h.not_empty h.inside (spans_of rest)
