-- Images as open records and a rest.
use Rattle.std.proofs.Common.{◌≡◌, ◌≢◌, ◌⊎◌, inl, inr, ℕ, ◌+◌, ◌*◌, ◌<◌, ◌≤◌, min, List, [], ◌∷◌, ◌++◌, length, get_or, take, drop, refl, sym, ◌∙◌, ap, subst, arith, append_assoc, length-append, take-append-drop}
use Rattle.std.proofs.lemmas.Bool.{cases_eq}
use Rattle.std.proofs.lemmas.List.{take_at, drop_at, drop_more, drop_all, append-nil}
use Rattle.cr_journal_records.specs.Records.{Body, blocks, StandsFirst, Reads, IsFront, IsKept, AtRest, Staged}
use Rattle.cr_journal_records.specs.Records.IsKept.{kept}
use Rattle.cr_outside_disk.specs.Images.{Torn, put}

abbrev pub Sized : List Body → Type 0
Sized [] = Unit {0}
Sized (body ∷ more) = (length body ≡ 31) × Sized more

pub length_blocks : (bodies : List Body) → Sized bodies → length (blocks bodies) ≡ 32 * length bodies
length_blocks [] sized = refl
length_blocks (body ∷ more) (size, sized) = omega (arith, length-append body (blocks more), size, length_blocks more sized)

pub blocks_push : (bodies : List Body) (body : Body) (rest : List ℕ) → blocks (bodies ++ body ∷ []) ++ rest ≡ blocks bodies ++ (1 ∷ (body ++ rest))
blocks_push [] body rest = ap (λ (l : List ℕ). 1 ∷ (l ++ rest)) (append-nil body)
blocks_push (first ∷ more) body rest =
    ap (λ (l : List ℕ). 1 ∷ l) (append_assoc first (blocks (more ++ body ∷ [])) rest)
    ∙ ap (λ (l : List ℕ). 1 ∷ (first ++ l)) (blocks_push more body rest)
    ∙ ap (λ (l : List ℕ). 1 ∷ l) (sym (append_assoc first (blocks more) (1 ∷ (body ++ rest))))

pub sized_push : (bodies : List Body) (body : Body) → Sized bodies → length body ≡ 31 → Sized (bodies ++ body ∷ [])
sized_push [] body sized size = (size, sized)
sized_push (first ∷ more) body (one, sized) size = (one, sized_push more body sized size)

-- from the records that stand
pub split : (image : List ℕ) (bodies : List Body) (rest : List ℕ) → Reads image bodies rest → image ≡ blocks bodies ++ rest
split image [] rest (is, shut) = is
split image (body ∷ more) rest (behind, is, size, some, inner) =
    is ∙ ap (λ (l : List ℕ). 1 ∷ (body ++ l)) (split behind more rest inner) ∙ ap (λ (l : List ℕ). 1 ∷ l) (sym (append_assoc body (blocks more) rest))

pub sized : (image : List ℕ) (bodies : List Body) (rest : List ℕ) → Reads image bodies rest → Sized bodies
sized image [] rest (is, shut) = record {}
sized image (body ∷ more) rest (behind, is, size, some, inner) = (size, sized behind more rest inner)

-- and back
pub reads_on : (bodies : List Body) (rest : List ℕ) → Sized bodies → 0 < length rest → (StandsFirst rest → ⊥) → Reads (blocks bodies ++ rest) bodies rest
reads_on [] rest sized some shut = (refl, shut)
reads_on (body ∷ more) rest (size, sized) some shut = (
  blocks more ++ rest,
  ap (λ (l : List ℕ). 1 ∷ l) (append_assoc body (blocks more) rest),
  size,
  omega (arith, some, length-append (blocks more) rest),
  reads_on more rest sized some shut,
)

-- a gate that isn't open
pub shut_gate : (gate : ℕ) (behind : List ℕ) → gate ≢ 1 → StandsFirst (gate ∷ behind) → ⊥
shut_gate gate behind shut (open_gate, long) = shut open_gate

pub at_rest : (bodies : List Body) (behind : List ℕ) → Sized bodies → AtRest bodies (blocks bodies ++ (0 ∷ behind))
at_rest bodies behind sized = (behind, reads_on bodies (0 ∷ behind) sized (omega arith) (shut_gate 0 behind (omega arith)))

front_size : (bodies : List Body) (gate : ℕ) → Sized bodies → length (blocks bodies ++ gate ∷ []) ≡ 32 * length bodies + 1
front_size bodies gate sizes = omega (arith, length_blocks bodies sizes, length-append (blocks bodies) (gate ∷ []))

-- A gate that is torn is any byte, and all else stays.
pub record GateTorn (bodies : List Body) (tail image : List ℕ) : Type 0 where
  pub gate : ℕ
  pub is : image ≡ blocks bodies ++ (gate ∷ tail)

module _ (bodies : List Body) (gate : ℕ) (tail before : List ℕ) (sizes : Sized bodies) (is : before ≡ blocks bodies ++ (gate ∷ tail)) where
  there : before ≡ (blocks bodies ++ gate ∷ []) ++ tail
  there = is ∙ sym (append_assoc (blocks bodies) (gate ∷ []) tail)

  fronts : take (32 * length bodies) before ≡ blocks bodies
  fronts = ap (take (32 * length bodies)) is ∙ take_at (blocks bodies) (gate ∷ tail) (32 * length bodies) (length_blocks bodies sizes)

  backs : drop (32 * length bodies + 1) before ≡ tail
  backs = ap (drop (32 * length bodies + 1)) there ∙ drop_at (blocks bodies ++ gate ∷ []) tail (32 * length bodies + 1) (front_size bodies gate sizes)

  pub torn_shape : (image : List ℕ) → Torn (32 * length bodies) 1 before image → GateTorn bodies tail image
  torn_shape image torn =
      let at = 32 * length bodies in
      let size_is : length before ≡ at + (1 + length tail) = omega (arith, ap length is, length-append (blocks bodies) (gate ∷ tail), length_blocks bodies sizes) in
      let short : min at (length before) ≡ at = omega (arith, size_is) in
      let stays : take at image ≡ blocks bodies = ap (λ (n : ℕ). take n image) (sym short) ∙ torn.before ∙ fronts in
      let g = get_or image at 0 in
      let rest : drop at image ≡ g ∷ tail =
      drop_more image at 0 (omega (arith, torn.no_shorter, size_is)) ∙ ap (λ (l : List ℕ). g ∷ l) (torn.after ∙ backs) in
      record {
        gate = g;
        is = sym (take-append-drop at image) ∙ ap (λ (l : List ℕ). l ++ drop at image) stays ∙ ap (λ (l : List ℕ). blocks bodies ++ l) rest;
      }

  pub put_shape : (new : ℕ) → put (32 * length bodies) (new ∷ []) before ≡ blocks bodies ++ (new ∷ tail)
  put_shape new =
      ap (λ (l : List ℕ). l ++ (new ∷ []) ++ drop (32 * length bodies + 1) before) fronts
      ∙ ap (λ (l : List ℕ). blocks bodies ++ (new ∷ []) ++ l) backs
      ∙ append_assoc (blocks bodies) (new ∷ []) tail
