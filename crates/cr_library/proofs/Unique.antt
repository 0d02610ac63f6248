-- A format has one list of pieces, and none where it leaves the profile.
use Rattle.std.proofs.Common.{◌≡◌, ℕ, ◌<◌, Bool, true, false, ◌&&◌, ◌==◌, List, [], ◌∷◌, ◌++◌, length, get_or, drop, refl, sym, ◌∙◌, ap, arith, append_assoc}
use Rattle.std.specs.Prelude.{Option, Some, None, All}
use Rattle.std.specs.List.{flat_map}
use Rattle.std.proofs.lemmas.Bool.{eqb-true, eq-eqb}
use Rattle.std.proofs.lemmas.List.{append-nil}
use Rattle.std.proofs.lemmas.List.Elements.{All-head, All-tail}
use Rattle.cr_library.specs.declared.piece.Piece.{Piece}
use Rattle.cr_library.specs.declared.piece.Piece.TheVariants.{Bytes, Byte}
use Rattle.cr_library.specs.Piece.{escaped, spelling, IsInProfile, is_run}
use Rattle.cr_library.specs.Conversion.{converted}
use Rattle.cr_library.specs.Format.{spelled, IsJoined, ArePiecesOf, LeavesProfile}
use Rattle.cr_library.proofs.Conversions.{answer, converted-complete, escaped_or_conversion}

-- no piece is spelled at the front of the text; no byte of a run is
abbrev Stuck : List ℕ → Type 0
Stuck text = (piece : Piece) (after : List ℕ) → IsInProfile piece → text ≡ spelling piece ++ after → ⊥

abbrev EndsRun : List ℕ → Type 0
EndsRun text = (byte : ℕ) (after : List ℕ) → text ≡ escaped byte ++ after → ⊥

record SameFirst (p q : Piece) (a b : List ℕ) : Type 0 where
  piece : p ≡ q
  after : a ≡ b

record SameRun (xs ys a b : List ℕ) : Type 0 where
  run : xs ≡ ys
  after : a ≡ b

-- two bytes of plain text
record SameByte (x y : ℕ) (a b : List ℕ) : Type 0 where
  byte : x ≡ y
  after : a ≡ b

differs : (z : ℕ) → 37 ≡ z → (z == 37) ≡ false → ⊥
differs z e f = cc (f, eq-eqb z 37 (sym e))

same_byte : (x y : ℕ) (a b : List ℕ) → escaped x ++ a ≡ escaped y ++ b → SameByte x y a b
same_byte x y a b = by_tests (x == 37) (y == 37) refl refl
  where
    by_tests : (s t : Bool) → (x == 37) ≡ s → (y == 37) ≡ t → escaped x ++ a ≡ escaped y ++ b → SameByte x y a b
    by_tests true true p q = rw (p, q) (λ e. record { byte = eqb-true x 37 p ∙ sym (eqb-true y 37 q); after = ap (drop 2) e })
    by_tests true false p q = rw (p, q) (λ e. absurd (differs y (ap (λ s. get_or s 0 0) e) q))
    by_tests false true p q = rw (p, q) (λ e. absurd (differs x (sym (ap (λ s. get_or s 0 0) e)) p))
    by_tests false false p q = rw (p, q) (λ e. record { byte = ap (λ s. get_or s 0 0) e; after = ap (drop 1) e })

same_run : (xs ys a b : List ℕ) → EndsRun a → EndsRun b → flat_map escaped xs ++ a ≡ flat_map escaped ys ++ b → SameRun xs ys a b
same_run [] [] a b at_a at_b e = record { run = refl; after = e }
same_run [] (y ∷ ys) a b at_a at_b e = absurd (at_a y (flat_map escaped ys ++ b) (e ∙ append_assoc (escaped y) (flat_map escaped ys) b))
same_run (x ∷ xs) [] a b at_a at_b e = absurd (at_b x (flat_map escaped xs ++ a) (sym e ∙ append_assoc (escaped x) (flat_map escaped xs) a))
same_run (x ∷ xs) (y ∷ ys) a b at_a at_b e =
    let first : SameByte x y (flat_map escaped xs ++ a) (flat_map escaped ys ++ b) =
    same_byte x y (flat_map escaped xs ++ a) (flat_map escaped ys ++ b)
    (sym (append_assoc (escaped x) (flat_map escaped xs) a) ∙ e ∙ append_assoc (escaped y) (flat_map escaped ys) b) in
    let others : SameRun xs ys a b = same_run xs ys a b at_a at_b first.after in
    record { run = (λ i. first.byte i ∷ others.run i); after = others.after }

abbrev piece_of : Option (Piece × List ℕ) → Piece
piece_of None = Byte
piece_of (Some found) = found.0

abbrev after_of : Option (Piece × List ℕ) → List ℕ
after_of None = []
after_of (Some found) = found.1

same_conversion : (p q : Piece) (a b : List ℕ) → IsInProfile p → IsInProfile q → is_run p ≡ false → is_run q ≡ false → spelling p ++ a ≡ spelling q ++ b → SameFirst p q a b
same_conversion p q a b few many plain other e =
    let same : answer p a ≡ answer q b = sym (converted-complete p a few plain) ∙ ap (λ s. converted (drop 1 s)) e ∙ converted-complete q b many other in
    record { piece = ap piece_of same; after = ap after_of same }

not_run : (byte : ℕ) (bytes : List ℕ) (q : Piece) (a b : List ℕ) → IsInProfile q → is_run q ≡ false → spelling (Bytes (byte ∷ bytes)) ++ a ≡ spelling q ++ b → ⊥
not_run byte bytes q a b few plain e =
    escaped_or_conversion q b byte (flat_map escaped bytes ++ a) few plain (sym e ∙ append_assoc (escaped byte) (flat_map escaped bytes) a)

same_first : (p q : Piece) (a b : List ℕ) → IsInProfile p → IsInProfile q → (is_run p ≡ true → EndsRun a) → (is_run q ≡ true → EndsRun b) → spelling p ++ a ≡ spelling q ++ b → SameFirst p q a b
same_first (Bytes xs) (Bytes ys) a b few many at_a at_b e =
    let same : SameRun xs ys a b = same_run xs ys a b (at_a refl) (at_b refl) e in
    record { piece = ap Bytes same.run; after = same.after }
same_first (Bytes []) q a b few many at_a at_b e = absurd (omega (arith, few))
same_first (Bytes (x ∷ xs)) q a b few many at_a at_b e = absurd (not_run x xs q a b many refl e)
same_first p (Bytes []) a b few many at_a at_b e = absurd (omega (arith, many))
same_first p (Bytes (y ∷ ys)) a b few many at_a at_b e = absurd (not_run y ys p b a few refl (sym e))
same_first p q a b few many at_a at_b e = same_conversion p q a b few many refl refl e

-- what follows a run, up to a place where no piece is spelled, doesn't go on with it
run_ends : (p : Piece) (ps : List Piece) (end : List ℕ) → Stuck end → All IsInProfile ps → IsJoined (p ∷ ps) → is_run p ≡ true → EndsRun (spelled ps ++ end)
run_ends p [] end stuck few joined run = λ byte after e.
    stuck (Bytes (byte ∷ [])) after (omega arith) (e ∙ ap (λ s. s ++ after) (sym (append-nil (escaped byte))))
run_ends p (q ∷ qs) end stuck few joined run = λ byte after e.
    escaped_or_conversion q (spelled qs ++ end) byte after (All-head IsInProfile q qs few) (second (is_run p) (is_run q) run joined.0)
    (sym (append_assoc (spelling q) (spelled qs) end) ∙ e)
  where
    second : (x y : Bool) → x ≡ true → (x && y) ≡ false → y ≡ false
    second true y e f = f
    second false y e f = cc

IsJoined-tail : (p : Piece) (ps : List Piece) → IsJoined (p ∷ ps) → IsJoined ps
IsJoined-tail p [] joined = tt
IsJoined-tail p (q ∷ qs) joined = joined.1

record SameList (ps qs : List Piece) (a b : List ℕ) : Type 0 where
  pieces : ps ≡ qs
  after : a ≡ b

same_list : (ps qs : List Piece) (a b : List ℕ) → Stuck a → Stuck b → All IsInProfile ps → All IsInProfile qs → IsJoined ps → IsJoined qs → spelled ps ++ a ≡ spelled qs ++ b → SameList ps qs a b
same_list [] [] a b at_a at_b few many joined other e = record { pieces = refl; after = e }
same_list [] (q ∷ qs) a b at_a at_b few many joined other e =
    absurd (at_a q (spelled qs ++ b) (All-head IsInProfile q qs many) (e ∙ append_assoc (spelling q) (spelled qs) b))
same_list (p ∷ ps) [] a b at_a at_b few many joined other e =
    absurd (at_b p (spelled ps ++ a) (All-head IsInProfile p ps few) (sym e ∙ append_assoc (spelling p) (spelled ps) a))
same_list (p ∷ ps) (q ∷ qs) a b at_a at_b few many joined other e =
    let fewer : All IsInProfile ps = All-tail IsInProfile p ps few in
    let fewer_there : All IsInProfile qs = All-tail IsInProfile q qs many in
    let first : SameFirst p q (spelled ps ++ a) (spelled qs ++ b) =
    same_first p q (spelled ps ++ a) (spelled qs ++ b) (All-head IsInProfile p ps few) (All-head IsInProfile q qs many)
    (run_ends p ps a at_a fewer joined) (run_ends q qs b at_b fewer_there other)
    (sym (append_assoc (spelling p) (spelled ps) a) ∙ e ∙ append_assoc (spelling q) (spelled qs) b) in
    let others : SameList ps qs a b =
    same_list ps qs a b at_a at_b fewer fewer_there (IsJoined-tail p ps joined) (IsJoined-tail q qs other) first.after in
    record { pieces = (λ i. first.piece i ∷ others.pieces i); after = others.after }

-- at the end of a format no piece is spelled
stuck_at_end : Stuck []
stuck_at_end (Bytes []) after few e = absurd (omega (arith, few))
stuck_at_end (Bytes (byte ∷ bytes)) after few e = by_test (byte == 37) refl
  where
    by_test : (b : Bool) → (byte == 37) ≡ b → ⊥
    by_test true percent =
        let long : 0 < length ((escaped byte ++ flat_map escaped bytes) ++ after) = rw percent (omega arith) in
        absurd (omega (arith, long, ap length e))
    by_test false other =
        let long : 0 < length ((escaped byte ++ flat_map escaped bytes) ++ after) = rw other (omega arith) in
        absurd (omega (arith, long, ap length e))
stuck_at_end piece after few e = cc

pub pieces_are_unique : (format : List ℕ) (pieces others : List Piece) → ArePiecesOf format pieces → ArePiecesOf format others → pieces ≡ others
pieces_are_unique format pieces others here there =
    let same : SameList pieces others [] [] =
    same_list pieces others [] [] stuck_at_end stuck_at_end here.in_profile there.in_profile here.joined there.joined
    (append-nil (spelled pieces) ∙ here.spells ∙ sym there.spells ∙ sym (append-nil (spelled others))) in
    same.pieces

pub pieces_stay_in_profile : (format : List ℕ) (pieces : List Piece) → ArePiecesOf format pieces → LeavesProfile format → ⊥
pieces_stay_in_profile format pieces here leaves =
    let front = leaves.are_pieces in
    let same : SameList pieces leaves.pieces [] (37 ∷ leaves.rest) =
    same_list pieces leaves.pieces [] (37 ∷ leaves.rest) stuck_at_end leaves.outside here.in_profile front.in_profile here.joined front.joined
    (append-nil (spelled pieces) ∙ here.spells ∙ leaves.here ∙ ap (λ s. s ++ 37 ∷ leaves.rest) (sym front.spells)) in
    cc (same.after)
