-- A text with unused keywords in the place of all its tokens from one on: what is spelled before that token is spelled
-- there too, and nothing goes on with it.
use Rattle.std.proofs.Common.{◌≡◌, ℕ, zero, suc, ◌<◌, List, [], ◌∷◌, Some, refl, ◌∙◌, arith}
use Rattle.std.specs.Prelude.{slice_get}
use Rattle.cr_syntax.specs.declared.word.Word.{Word}
use Rattle.cr_syntax.specs.declared.word.Word.TheVariants as word
use Rattle.cr_syntax.specs.declared.part.Context.{Context}
use Rattle.cr_syntax.specs.Words.{Lexeme, spelling_at}
use Rattle.cr_syntax.specs.Scopes.{Scopes}
use Rattle.cr_syntax.specs.Trees.{Trees}
use Rattle.cr_syntax.specs.Spells.{Limit, Is, Phrase, Spells}
use Rattle.cr_syntax_machine_laws.proofs.MachineRuns.{word_same}
use Rattle.cr_syntax_machine_laws.proofs.MachineOwn.{lets_itself, carried_whole}

-- the text with a keyword that no alternative has at each token from number k on, whose spellings stay
abbrev pub closed : ℕ → List Lexeme → List Lexeme
closed k [] = []
closed zero (x ∷ ts) = record { word = word.Union; spelling = x.spelling } ∷ closed zero ts
closed (suc k) (x ∷ ts) = x ∷ closed k ts

pub closed_before : (k : ℕ) (ts : List Lexeme) (n : ℕ) → n < k → slice_get (closed k ts) n ≡ slice_get ts n
closed_before k [] n lt = refl
closed_before zero (x ∷ ts) n lt = absurd (omega arith)
closed_before (suc k) (x ∷ ts) zero lt = refl
closed_before (suc k) (x ∷ ts) (suc n) lt = closed_before k ts n (omega arith)

closed_names : (k : ℕ) (ts : List Lexeme) (n : ℕ) → spelling_at (closed k ts) n ≡ spelling_at ts n
closed_names k [] n = refl
closed_names zero (x ∷ ts) zero = refl
closed_names zero (x ∷ ts) (suc n) = closed_names zero ts n
closed_names (suc k) (x ∷ ts) zero = refl
closed_names (suc k) (x ∷ ts) (suc n) = closed_names k ts n

pub closed_at : (k : ℕ) (ts : List Lexeme) (w : Word) → Is (closed k ts) k w → word.Union ≡ w
closed_at k [] w q = cc
closed_at zero (x ∷ ts) w q = by q
  where
    by : {v : Word} → Some v ≡ Some w → v ≡ w
    by z = cc
closed_at (suc k) (x ∷ ts) w q = closed_at k ts w q

pub spelled_closed : (k : ℕ) {ts : List Lexeme} {limit : Limit} {p : Phrase} {h : Context} {c e : Scopes} {d i : ℕ} {t : Trees} → Spells ts limit p h c e d t i k → Spells (closed k ts) limit p h c e d t i k
spelled_closed k {ts = ts} {limit = limit} s =
    carried_whole (record { words = λ n w q ge lt. word_same ts (closed k ts) n (closed_before k ts n lt) ∙ q; names = λ n q ge lt. closed_names k ts n; every = λ q n. closed_names k ts n })
    (lets_itself limit k) s
