-- What a list of tokens prints as is read as the list.
use Rattle.std.proofs.Common.{◌≡◌, inr, ℕ, ◌+◌, ◌≤◌, List, [], ◌∷◌, ◌++◌, length, refl, sym, ◌∙◌, ap, subst, arith, zero-add, add-zero, length-append, append_assoc}
use Rattle.std.specs.Prelude.{slice_index, slice_range, All}
use Rattle.std.proofs.lemmas.List.{length-map}
use Rattle.std.proofs.lemmas.List.Elements.{All-head, All-tail}
use Rattle.cr_tokens.specs.declared.token.Token.{Token}
use Rattle.cr_tokens.specs.Tokens.{IsToken, FallsInto, Tokenizes}
use Rattle.cr_tokens.specs.Tokens.FallsInto.{nothing, blank, token}
use Rattle.cr_tokens.specs.Blanks.IsBlank.{space}
use Rattle.cr_printer.specs.Pieces.{Piece, IsOneToken, HasThreeDots, pieces_of, spellings_of}
use Rattle.cr_printer.specs.Text.{Prints}
use Rattle.cr_printer.specs.Text as prints
use Rattle.cr_printer.proofs.Moves.{Agree}
use Rattle.cr_printer.proofs.LineEnds.{OneLine, one_line-append, one_line-nil, one_line-space}
use Rattle.cr_printer.proofs.Stands.{token_at, token_cut, token_spaced, token_joined, Dots}
use Rattle.cr_printer.proofs.Alone.{Ends, alone, apart_first, one_line, not_empty, ends_front, ends_after, ends_all, spelling_there, prints_front}
use Rattle.cr_printer.proofs.Dots.{three_dots}

prints_one_line : (ps : List Piece) (text : List ℕ) → All IsOneToken ps → Prints (spellings_of ps) text → OneLine text
prints_one_line [] text all (prints.nothing) = one_line-nil
prints_one_line (p ∷ []) text all (prints.last) = one_line p (All-head IsOneToken p [] all)
prints_one_line (p ∷ q ∷ ps) text all (prints.joined {text = r} apart rest) =
    one_line-append p.spelling r (one_line p (All-head IsOneToken p (q ∷ ps) all))
    (prints_one_line (q ∷ ps) r (All-tail IsOneToken p (q ∷ ps) all) rest)
prints_one_line (p ∷ q ∷ ps) text all (prints.spaced {text = r} apart rest) =
    one_line-append p.spelling (32 ∷ r) (one_line p (All-head IsOneToken p (q ∷ ps) all))
    (one_line-space r (prints_one_line (q ∷ ps) r (All-tail IsOneToken p (q ∷ ps) all) rest))

no_more_dots : (p : Piece) (ps : List Piece) → ¬ HasThreeDots (spellings_of (p ∷ ps)) → ¬ HasThreeDots (spellings_of ps)
no_more_dots p ps h (before, after, e) = h (p.spelling ∷ before, after, ap (λ (x : List (List ℕ)). p.spelling ∷ x) e)

-- the tokens of a text from a place on
record Reads (g : List ℕ) (b : ℕ) (ps : List Piece) : Type 0 where
  tokens : List Token
  falls : FallsInto g b (length g) tokens
  same : pieces_of g tokens ≡ ps

piece_there : (g : List ℕ) (b : ℕ) (p : Piece) (ts : List Token) (ps : List Piece) → Agree p.spelling 0 g b (length p.spelling) →
    pieces_of g ts ≡ ps → pieces_of g (token_at p.kind b (length p.spelling) ∷ ts) ≡ p ∷ ps
piece_there g b p ts ps a e =
    let same : slice_range g b (b + length p.spelling) ≡ p.spelling = spelling_there p.spelling g b a in
    let first : record { kind = p.kind; spelling = slice_range g b (b + length p.spelling) } ≡ p =
    ap (λ (s : List ℕ). record { kind = p.kind; spelling = s }) same in
    cc

walk : (g : List ℕ) → OneLine g → (ps : List Piece) (b : ℕ) (text : List ℕ) → Ends g b text → All IsOneToken ps →
    ¬ HasThreeDots (spellings_of ps) → Prints (spellings_of ps) text → Reads g b ps
walk g line [] b text e all nd (prints.nothing) =
    let P : ℕ → Type 0 = λ i. FallsInto g b i [] in
    let same : b ≡ length g = omega (arith, e.size) in
    record { tokens = []; falls = subst P same nothing; same = refl }
walk g line (p ∷ []) b text e all nd (prints.last) =
    let a : Agree p.spelling 0 g b (length p.spelling) = ends_all g b p.spelling e in
    let t : IsToken g (token_at p.kind b (length p.spelling)) =
    token_cut p.kind p.spelling 0 g b (length p.spelling) (length p.spelling) a (omega arith) e.size (alone p (All-head IsOneToken p [] all)) in
    let P : ℕ → Type 0 = λ i. FallsInto g (b + length p.spelling) i [] in
    record {
      tokens = token_at p.kind b (length p.spelling) ∷ [];
      falls = token (token_at p.kind b (length p.spelling)) refl t (subst P (sym e.size) nothing);
      same = piece_there g b p [] [] a refl;
    }
walk g line (p ∷ q ∷ ps) b text e all nd (prints.joined {text = r} apart rest) =
    let hp = All-head IsOneToken p (q ∷ ps) all in
    let hq = All-head IsOneToken q ps (All-tail IsOneToken p (q ∷ ps) all) in
    let f = prints_front q.spelling (spellings_of ps) r rest in
    let both : p.spelling ++ r ≡ (p.spelling ++ q.spelling) ++ f.0 = ap (λ (x : List ℕ). p.spelling ++ x) f.1 ∙ sym (append_assoc p.spelling q.spelling f.0) in
    let E : List ℕ → Type 0 = λ x. Ends g b x in
    let a : Agree (p.spelling ++ q.spelling) 0 g b (length (p.spelling ++ q.spelling)) = ends_front g b (p.spelling ++ q.spelling) f.0 (subst E both e) in
    let size : length (p.spelling ++ q.spelling) ≡ length p.spelling + length q.spelling = length-append p.spelling q.spelling in
    let no_dots : length (p.spelling ++ q.spelling) ≡ 2 → ¬ Dots g b = λ two d.
    let first : slice_index (p.spelling ++ r) 0 ≡ 46 = sym (e.each 0) ∙ ap (λ i. slice_index g i) (add-zero b) ∙ d.first in
    nd (three_dots p q ps r all (sym size ∙ two) rest first (sym (e.each 1) ∙ d.second) (sym (e.each 2) ∙ d.third)) in
    let t : IsToken g (token_at p.kind b (length p.spelling)) =
    token_joined p.kind (p.spelling ++ q.spelling) 0 g b (length p.spelling) (length (p.spelling ++ q.spelling)) a
    (omega (arith, not_empty q hq)) no_dots line (apart_first p.kind p.spelling q.spelling apart (alone p hp)) in
    let next : Reads g (b + length p.spelling) (q ∷ ps) =
    walk g line (q ∷ ps) (b + length p.spelling) r (ends_after g b p.spelling r e) (All-tail IsOneToken p (q ∷ ps) all) (no_more_dots p (q ∷ ps) nd) rest in
    record {
      tokens = token_at p.kind b (length p.spelling) ∷ next.tokens;
      falls = token (token_at p.kind b (length p.spelling)) refl t next.falls;
      same = piece_there g b p next.tokens (q ∷ ps) (ends_front g b p.spelling r e) next.same;
    }
walk g line (p ∷ q ∷ ps) b text e all nd (prints.spaced {text = r} apart rest) =
    let hp = All-head IsOneToken p (q ∷ ps) all in
    let a : Agree p.spelling 0 g b (length p.spelling) = ends_front g b p.spelling (32 ∷ r) e in
    let tail : Ends g (b + length p.spelling) (32 ∷ r) = ends_after g b p.spelling (32 ∷ r) e in
    let here : slice_index g (b + length p.spelling) ≡ 32 = ap (λ i. slice_index g i) (sym (add-zero (b + length p.spelling))) ∙ tail.each 0 in
    let t : IsToken g (token_at p.kind b (length p.spelling)) =
    token_spaced p.kind p.spelling 0 g b (length p.spelling) a here line (alone p hp) in
    let next : Reads g (b + length p.spelling + 1) (q ∷ ps) =
    walk g line (q ∷ ps) (b + length p.spelling + 1) r (ends_after g (b + length p.spelling) (32 ∷ []) r tail)
    (All-tail IsOneToken p (q ∷ ps) all) (no_more_dots p (q ∷ ps) nd) rest in
    record {
      tokens = token_at p.kind b (length p.spelling) ∷ next.tokens;
      falls = token (token_at p.kind b (length p.spelling)) refl t (blank (space (inr here) refl) next.falls);
      same = piece_there g b p next.tokens (q ∷ ps) a next.same;
    }

pub pieces_length : (g : List ℕ) (ts : List Token) → length (pieces_of g ts) ≡ length ts
pieces_length g ts = simp length-map

pub printed_is_read : (ps : List Piece) (text : List ℕ) → All IsOneToken ps → ¬ HasThreeDots (spellings_of ps) → Prints (spellings_of ps) text →
    length text ≤ 1048576 → length ps ≤ 262144 → (tokens : List Token) × Tokenizes text tokens × (pieces_of text tokens ≡ ps)
printed_is_read ps text all nd p short few =
    let e : Ends text 0 text = record { size = omega arith; each = λ k. ap (λ i. slice_index text i) (zero-add k) } in
    let r : Reads text 0 ps = walk text (prints_one_line ps text all p) ps 0 text e all nd p in
    let count : length r.tokens ≡ length ps = sym (pieces_length text r.tokens) ∙ ap (λ (x : List Piece). length x) r.same in
    (r.tokens, record { short = short; few = omega arith; falls = r.falls }, r.same)
