-- What a unit prints as is a unit with the same tree.
use Rattle.std.proofs.Common.{◌≡◌, inl, inr, ℕ, ◌+◌, ◌-◌, ◌≤◌, ◌<◌, List, [], ◌∷◌, ◌++◌, length, drop, map, Option, Some, refl, sym, ◌∙◌, ap, subst, arith, get_or, get_or-drop, get_or-take, length-take, length-drop, append_assoc}
use Rattle.std.specs.Prelude.{slice_index, slice_range, slice_get, All}
use Rattle.std.proofs.lemmas.List.{get_or-map, get_or_past, get_or-append-add, length-map, take_all}
use Rattle.std.proofs.lemmas.Option.{slice_get-map, slice_get-get_or}
use Rattle.std.proofs.lemmas.Bool.{cases_lt}
use Rattle.std.specs.Option.{option_map}
use Rattle.std.proofs.lemmas.List.Elements.{All-nil, All-cons, All-head, All-tail}
use Rattle.cr_tokens.specs.declared.token.Token.{Token}
use Rattle.cr_tokens.specs.declared.token.TokenKind.{TokenKind}
use Rattle.cr_tokens.specs.declared.token.TokenKind.TheVariants.{Keyword, Identifier, Integer, Character, Text, Punctuator}
use Rattle.cr_tokens.specs.Tokens.{IsToken, Spells, Tokenizes}
use Rattle.cr_tokens.specs.Runs.{spellings}
use Rattle.cr_syntax.specs.declared.word.Word.{Word}
use Rattle.cr_syntax.specs.declared.word.Word.TheVariants as word
use Rattle.cr_syntax.specs.Words.{Lexeme, lexeme_of, lexemes_of, word_of, word_at}
use Rattle.cr_syntax.specs.Trees.{Trees}
use Rattle.cr_syntax.specs.Spells.{Is}
use Rattle.cr_syntax.specs.Units.{IsTreeOf, most_levels}
use Rattle.cr_syntax.specs.Spells as spells
use Rattle.cr_printer.specs.Pieces.{Piece, IsOneToken, HasThreeDots, pieces_of, spellings_of, dot}
use Rattle.cr_printer.specs.Seams.{AreInOrder}
use Rattle.cr_printer.specs.Text.{Prints}
use Rattle.cr_printer.specs.Laws.{IsReadAs}
use Rattle.cr_printer.proofs.Alone.{alone}
use Rattle.cr_printer.proofs.Dots.{no_word, number_no_dot}
use Rattle.cr_printer.proofs.Reading.{printed_is_read, pieces_length}
use Rattle.cr_printer.proofs.Orders.{one_token, piece_at, in_order, order_part}
use Rattle.cr_printer.proofs.Neighbours.{printed_is_no_longer}
use Rattle.cr_printer.proofs.Names.{unit_named}

-- a token's spelling is a dot where its word is
dot_word : (kind : TokenKind) (s : List ℕ) → s ≡ dot → Spells s kind 0 (0 + length s) → word_of kind s ≡ word.Dot
dot_word Keyword s e x = absurd (no_word (slice_index s 0) (ap (λ (g : List ℕ). slice_index g 0) e) x.0.first)
dot_word Identifier s e x = absurd (no_word (slice_index s 0) (ap (λ (g : List ℕ). slice_index g 0) e) x.0.first)
dot_word Integer s e x = absurd (number_no_dot s (length s) (ap (λ (g : List ℕ). slice_index g 0) e) refl x.1)
dot_word Character s e x = let first : slice_index s 0 ≡ 46 = ap (λ (g : List ℕ). slice_index g 0) e in absurd (omega (arith, x.open_quote))
dot_word Text s e x = let first : slice_index s 0 ≡ 46 = ap (λ (g : List ℕ). slice_index g 0) e in absurd (omega (arith, x.1.open_quote))
dot_word Punctuator s e x = ap (λ (g : List ℕ). word_of Punctuator g) e

some_token : (file : List ℕ) (t : Token) → length file ≤ 1048576 → IsToken file t → slice_range file t.start t.end ≡ dot →
    word_of t.kind (slice_range file t.start t.end) ≡ word.Dot
some_token file t short h e =
    dot_word t.kind (slice_range file t.start t.end) e (alone (piece_at file t) (one_token file t short h)).spells

nowhere : Token
nowhere = record { kind = Keyword; start = 0; end = 0 }

-- where a dot is spelled among the tokens there is one
is_dot : (file : List ℕ) (ts : List Token) (i : ℕ) → AreInOrder file ts → get_or (spellings file ts) i [] ≡ dot → Is (lexemes_of file ts) i word.Dot
is_dot file ts i o e =
    let lt : i < length ts = within in
    let spelled : slice_range file (get_or ts i nowhere).start (get_or ts i nowhere).end ≡ dot =
    sym (get_or-map (λ (x : Token). slice_range file x.start x.end) ts i nowhere [] lt) ∙ e in
    let here : slice_get (lexemes_of file ts) i ≡ Some (lexeme_of file (get_or ts i nowhere)) =
    slice_get-map (lexeme_of file) ts i ∙ ap (λ (x : Option Token). option_map (lexeme_of file) x) (slice_get-get_or ts i nowhere lt) in
    let is_word : word_at (lexemes_of file ts) i ≡ Some (word_of (get_or ts i nowhere).kind (slice_range file (get_or ts i nowhere).start (get_or ts i nowhere).end)) =
    word_there (lexemes_of file ts) i (lexeme_of file (get_or ts i nowhere)) here in
    is_word ∙ ap (λ (w : Word). Some w) (some_token file (get_or ts i nowhere) o.short (o.each i nowhere lt) spelled)
  where
    within : i < length ts
    within = elim (cases_lt i (length ts)) [
      | inl lt ↦ lt
      | inr ge ↦
          let none : get_or (spellings file ts) i [] ≡ [] = get_or_past (spellings file ts) i [] (simp length-map ge) in
          absurd (cc (none, e))
    ]

    word_there : (ls : List Lexeme) (k : ℕ) (x : Lexeme) → slice_get ls k ≡ Some x → word_at ls k ≡ Some x.word
    word_there ls k x h = rw (h, word_at) refl

-- the spelling with number k of a part
part_at : (file : List ℕ) (ts : List Token) (from to k : ℕ) → get_or (spellings file (slice_range ts from to)) k [] ≡ dot →
    get_or (spellings file ts) (from + k) [] ≡ dot
part_at file ts from to k e =
    let sp : Token → List ℕ = λ x. slice_range file x.start x.end in
    let lt : k < length (slice_range ts from to) = within in
    let size : length (slice_range ts from to) ≤ to - from = simp length-take (omega arith) in
    let far : length (slice_range ts from to) ≤ length ts - from = simp (length-take, length-drop) (omega arith) in
    let one : get_or (slice_range ts from to) k nowhere ≡ get_or ts (from + k) nowhere =
    get_or-take (to - from) (drop from ts) k nowhere (omega arith) ∙ get_or-drop from ts k nowhere in
    get_or-map sp ts (from + k) nowhere [] (omega arith) ∙ ap sp (sym one) ∙ sym (get_or-map sp (slice_range ts from to) k nowhere [] lt) ∙ e
  where
    within : k < length (slice_range ts from to)
    within = elim (cases_lt k (length (slice_range ts from to))) [
      | inl lt ↦ lt
      | inr ge ↦
          let none : get_or (spellings file (slice_range ts from to)) k [] ≡ [] = get_or_past (spellings file (slice_range ts from to)) k [] (simp length-map ge) in
          absurd (cc (none, e))
    ]

-- in a unit no two dots stand side by side
no_dots : (file : List ℕ) (ts : List Token) (t : Trees) (from to : ℕ) → Tokenizes file ts → IsTreeOf (lexemes_of file ts) t →
    ¬ HasThreeDots (spellings file (slice_range ts from to))
no_dots file ts t from to h u (before, after, e) =
    let o : AreInOrder file ts = in_order file ts h in
    let split : spellings file (slice_range ts from to) ≡ before ++ (dot ∷ dot ∷ dot ∷ after) = e ∙ append_assoc before (dot ∷ dot ∷ dot ∷ []) after in
    let first : get_or (spellings file (slice_range ts from to)) (length before + 0) [] ≡ dot =
    ap (λ (x : List (List ℕ)). get_or x (length before + 0) []) split ∙ get_or-append-add before (dot ∷ dot ∷ dot ∷ after) 0 [] in
    let second : get_or (spellings file (slice_range ts from to)) (length before + 1) [] ≡ dot =
    ap (λ (x : List (List ℕ)). get_or x (length before + 1) []) split ∙ get_or-append-add before (dot ∷ dot ∷ dot ∷ after) 1 [] in
    let a : Is (lexemes_of file ts) (from + (length before + 0)) word.Dot = is_dot file ts (from + (length before + 0)) o (part_at file ts from to (length before + 0) first) in
    let b : Is (lexemes_of file ts) (from + (length before + 1)) word.Dot = is_dot file ts (from + (length before + 1)) o (part_at file ts from to (length before + 1) second) in
    let name : Is (lexemes_of file ts) (from + (length before + 0) + 1) word.Identifier = unit_named (spells.AtMost most_levels) (lexemes_of file ts) t u.is_unit (from + (length before + 0)) a in
    let same : from + (length before + 0) + 1 ≡ from + (length before + 1) = omega arith in
    let P : ℕ → Type 0 = λ i. Is (lexemes_of file ts) i word.Identifier in
    absurd (cc (subst P same name, b))

-- a file's tokens as pieces

pub spellings_same : (file : List ℕ) (ts : List Token) → spellings_of (pieces_of file ts) ≡ spellings file ts
spellings_same file [] = refl
spellings_same file (t ∷ ts) = ap (λ (x : List (List ℕ)). slice_range file t.start t.end ∷ x) (spellings_same file ts)

pieces_all : (file : List ℕ) → length file ≤ 1048576 → (ts : List Token) → All (IsToken file) ts → All IsOneToken (pieces_of file ts)
pieces_all file short [] all = All-nil IsOneToken
pieces_all file short (t ∷ ts) all =
    All-cons IsOneToken (piece_at file t) (pieces_of file ts) (one_token file t short (All-head (IsToken file) t ts all))
    (pieces_all file short ts (All-tail (IsToken file) t ts all))

pub part_is_read : (file : List ℕ) (ts : List Token) (t : Trees) (from to : ℕ) (text : List ℕ) → Tokenizes file ts →
    IsTreeOf (lexemes_of file ts) t → Prints (spellings file (slice_range ts from to)) text →
    IsReadAs text (pieces_of file (slice_range ts from to))
part_is_read file ts t from to text h u p =
    let o : AreInOrder file (slice_range ts from to) = order_part file ts from to (in_order file ts h) in
    let same : spellings_of (pieces_of file (slice_range ts from to)) ≡ spellings file (slice_range ts from to) = spellings_same file (slice_range ts from to) in
    let P : List (List ℕ) → Type 0 = λ x. Prints x text in
    let N : List (List ℕ) → Type 0 = λ x. ¬ HasThreeDots x in
    let size : length (pieces_of file (slice_range ts from to)) ≡ length (slice_range ts from to) = pieces_length file (slice_range ts from to) in
    let few : length (slice_range ts from to) ≤ length ts = simp (length-take, length-drop) (omega arith) in
    printed_is_read (pieces_of file (slice_range ts from to)) text (pieces_all file h.short (slice_range ts from to) o.each)
    (subst N (sym same) (no_dots file ts t from to h u)) (subst P (sym same) p)
    (omega (arith, printed_is_no_longer file ts from to text h p, h.short)) (omega (arith, h.few))

-- a piece as the grammar sees it
lexeme_piece : Piece → Lexeme
lexeme_piece p = record { word = word_of p.kind p.spelling; spelling = p.spelling }

lexemes_same : (file : List ℕ) (ts : List Token) → map lexeme_piece (pieces_of file ts) ≡ lexemes_of file ts
unfolding lexeme_piece
lexemes_same file [] = refl
lexemes_same file (t ∷ ts) = ap (λ (x : List Lexeme). lexeme_of file t ∷ x) (lexemes_same file ts)

pub is_unit : (file : List ℕ) (ts : List Token) (t : Trees) (text : List ℕ) → Tokenizes file ts → IsTreeOf (lexemes_of file ts) t →
    Prints (spellings file ts) text →
    (others : List Token) × Tokenizes text others × (pieces_of text others ≡ pieces_of file ts) × IsTreeOf (lexemes_of text others) t
is_unit file ts t text h u p =
    let all : slice_range ts 0 (length ts) ≡ ts = take_all (length ts - 0) ts (omega arith) in
    let P : List Token → Type 0 = λ x. Prints (spellings file x) text in
    let Q : List Token → Type 0 = λ x. IsReadAs text (pieces_of file x) in
    let r : IsReadAs text (pieces_of file ts) = subst Q all (part_is_read file ts t 0 (length ts) text h u (subst P (sym all) p)) in
    let same : lexemes_of file ts ≡ lexemes_of text r.0 =
    sym (lexemes_same file ts) ∙ ap (λ (x : List Piece). map lexeme_piece x) (sym r.2) ∙ lexemes_same text r.0 in
    let T : List Lexeme → Type 0 = λ x. IsTreeOf x t in
    (r.0, r.1, r.2, subst T same u)
