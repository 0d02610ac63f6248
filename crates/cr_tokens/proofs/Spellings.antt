-- Where spellings stand in a row.
use Rattle.std.proofs.Common.{◌≡◌, ℕ, ◌+◌, ◌≤◌, ◌<◌, List, [], ◌++◌, length, take, drop, get_or, sym, ◌∙◌, ap, arith, append_assoc, length-append, length-drop, get_or-drop, get_or-take}
use Rattle.std.specs.Prelude.{slice_range}
use Rattle.std.proofs.lemmas.List.{take_more_same, get_or-map, take-append-drop, length-map}
use Rattle.std.proofs.Math.Seq.{drop-append_seam, take-append_seam}
use Rattle.cr_tokens.specs.declared.token.Token.{Token}
use Rattle.cr_tokens.specs.Runs.{spellings, StandsIn, StandsFrom}

-- the spelling of the token at `k`
pub spelling_at : (file : List ℕ) (tokens : List Token) (k : ℕ) (d : Token) → k < length tokens →
    get_or (spellings file tokens) k [] ≡ slice_range file (get_or tokens k d).start (get_or tokens k d).end
spelling_at file tokens k d h = get_or-map (λ t. slice_range file t.start t.end) tokens k d [] h

-- a row that stands somewhere among the spellings stands at a place
pub in-at : (wanted all : List (List ℕ)) → StandsIn wanted all →
    (first : ℕ) × (first + length wanted ≤ length all) × StandsFrom first wanted all
in-at wanted all (before, after, e) = (
  length before,
  rw e (simp length-append (omega arith)),
  rw (e, append_assoc, drop-append_seam, take-append_seam),
)

pub at-in : (first : ℕ) (wanted all : List (List ℕ)) → StandsFrom first wanted all → StandsIn wanted all
at-in first wanted all h =
    let split : take (length wanted) (drop first all) ++ drop (length wanted) (drop first all) ≡ drop first all =
    take-append-drop (length wanted) (drop first all) in
    let rest : wanted ++ drop (length wanted) (drop first all) ≡ drop first all = rw h at split in (
      take first all,
      drop (length wanted) (drop first all),
      sym (rw (append_assoc, rest) (take-append-drop first all)),
    )

-- the spelling of the token at `k` after the first ones
pub row_at : (file : List ℕ) (tokens : List Token) (first k : ℕ) (d : Token) → first + k < length tokens →
    get_or (drop first (spellings file tokens)) k [] ≡
    slice_range file (get_or tokens (first + k) d).start (get_or tokens (first + k) d).end
row_at file tokens first k d h =
    get_or-drop first (spellings file tokens) k [] ∙ spelling_at file tokens (first + k) d h

-- one more token that is spelled alike
pub row_more : (file text : List ℕ) (all run : List Token) (first k : ℕ) (d e : Token) → k < length run → first + length run ≤ length all →
    take k (drop first (spellings file all)) ≡ take k (spellings text run) →
    slice_range file (get_or all (first + k) d).start (get_or all (first + k) d).end ≡
    slice_range text (get_or run k e).start (get_or run k e).end →
    take (k + 1) (drop first (spellings file all)) ≡ take (k + 1) (spellings text run)
row_more file text all run first k d e lt room same next =
    take_more_same (drop first (spellings file all)) (spellings text run) k []
    (simp (length-drop, length-map) (omega arith)) (simp length-map lt) same
    (row_at file all first k d (omega arith) ∙ next ∙ sym (spelling_at text run k e lt))

-- tokens in a row are spelled alike
pub row_same : (file text : List ℕ) (all run : List Token) (first k : ℕ) (d e : Token) → k < length run → first + length run ≤ length all →
    StandsFrom first (spellings text run) (spellings file all) →
    slice_range file (get_or all (first + k) d).start (get_or all (first + k) d).end ≡
    slice_range text (get_or run k e).start (get_or run k e).end
row_same file text all run first k d e lt room h =
    let short : k < length (spellings text run) = simp length-map lt in
    sym (row_at file all first k d (omega arith))
    ∙ sym (get_or-take (length (spellings text run)) (drop first (spellings file all)) k [] short)
    ∙ ap (λ (x : List (List ℕ)). get_or x k []) h
    ∙ spelling_at text run k e lt
