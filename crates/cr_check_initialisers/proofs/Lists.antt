-- Lists of places, types and lines, one more or one less.
use Rattle.std.proofs.Common.{◌≡◌, ℕ, zero, suc, ◌+◌, ◌-◌, ◌<◌, ◌≢◌, List, [], ◌∷◌, ◌++◌, Option, None, Some, MatchOption, length, get_or, drop, map, replicate, refl, sym, ap, ◌∙◌, arith}
use Rattle.std.proofs.lemmas.List.{at_drop_more, append-nil}
use Rattle.std.proofs.lemmas.List.Sums.{fold-append}
use Rattle.cr_check_types.specs.declared.shape.Shape.{Shape}
use Rattle.cr_check_types.specs.Types.{Qualified, type_at}
use Rattle.cr_check_expressions.specs.declared.known.Member.{Member}
use Rattle.cr_check_initialisers.specs.declared.source.Source.{Source}
use Rattle.cr_check_initialisers.specs.declared.part.Frame.{Frame}
use Rattle.cr_check_initialisers.specs.declared.part.Front.{Front}
use Rattle.cr_check_initialisers.specs.declared.part.Rest.{Rest}
use Rattle.cr_check_initialisers.specs.declared.lines.Line.{Line}
use Rattle.cr_check_initialisers.specs.Plans.{entry_of, entries_of}
use Rattle.cr_check_initialisers.specs.Known.{known_of, member_types}
use Rattle.cr_check_initialisers.specs.Places.{laid}
use Rattle.cr_check_initialisers.specs.Steps.{types_left, places_of, left, IsFront}

pub one_element : (n : ℕ) (t : Qualified) → n ≢ 0 → replicate n t ≡ t ∷ replicate (n - 1) t
one_element zero t h = absurd (h refl)
one_element (suc n) t h = let e : suc n - 1 ≡ n = omega arith in rw e refl

pub one_member : (shapes : List Shape) (members : List Member) (next : ℕ) (d : Member) → next < length members
    → member_types shapes (drop next members) ≡ type_at shapes (get_or members next d).row ∷ member_types shapes (drop (next + 1) members)
one_member shapes members next d h = at_drop_more (member_types shapes) members next d h

pub one_frame : (s : Source) (frames : List Frame) (f : Frame) → left s (frames ++ f ∷ []) ≡ places_of s f ++ left s frames
unfolding left
one_frame s frames f = fold-append (λ places frame. places_of s frame ++ places) [] frames (f ∷ [])

pub one_line : (shapes : List Shape) (lines : List Line) (l : Line) → entries_of shapes (lines ++ l ∷ []) ≡ entries_of shapes lines ++ entry_of shapes l ∷ []
unfolding entries_of
one_line shapes [] l = refl
one_line shapes (m ∷ ms) l = ap (λ rest. entry_of shapes m ∷ rest) (one_line shapes ms l)

-- ---- a stack of frames

-- the first place is taken from the last frame
pub taken : (s : Source) (before frames after : List Frame) (f : Frame) (row : ℕ) (rest : Rest)
    → before ≡ frames ++ f ∷ [] → types_left s f.rest ≡ type_at s.table.now row ∷ types_left s rest
    → left s after ≡ laid (known_of s) (f.cell + (known_of s).cells (type_at s.table.now row)) (types_left s rest) ++ left s frames
    → left s before ≡ record { cell = f.cell; type = type_at s.table.now row } ∷ left s after
unfolding places_of laid
taken s before frames after f row rest e t a =
    ap (left s) e ∙ one_frame s frames f ∙ ap (λ ts. laid (known_of s) f.cell ts ++ left s frames) t
    ∙ ap (λ ps. record { cell = f.cell; type = type_at s.table.now row } ∷ ps) (sym a)

-- a frame without parts is none
pub dropped : (s : Source) (before frames : List Frame) (f : Frame) (front : Option Front)
    → before ≡ frames ++ f ∷ [] → IsFront s (types_left s f.rest) front → ((x : Front) → front ≡ Some x → ⊥) → left s before ≡ left s frames
unfolding places_of laid
dropped s before frames f None e t n = ap (left s) e ∙ one_frame s frames f ∙ ap (λ ts. laid (known_of s) f.cell ts ++ left s frames) t
dropped s before frames f (Some x) e t n = absurd (n x refl)

pub ended : (frame : Option Frame) (before after : ℕ) → MatchOption frame ((before ≡ 0) × (after ≡ 0)) (λ _. after + 1 ≡ before)
    → ((x : Frame) → frame ≡ Some x → ⊥) → before ≡ 0
ended None before after h n = h.0
ended (Some x) before after h n = absurd (n x refl)

pub emptied : (s : Source) (before : List Frame) → length before ≡ 0 → left s before ≡ []
unfolding left
emptied s [] h = refl
emptied s (f ∷ fs) h = absurd (omega (arith, h))

-- one frame on an empty stack
pub alone : (s : Source) (f : Frame) (before after : List Frame) → before ≡ [] → left s after ≡ places_of s f ++ left s before → left s after ≡ places_of s f
unfolding left
alone s f before after e h = h ∙ ap (λ fs. places_of s f ++ left s fs) e ∙ append-nil (places_of s f)
