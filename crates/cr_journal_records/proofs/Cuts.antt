-- What is kept is kept cut short.
use Rattle.std.proofs.Common.{◌≡◌, ◌≢◌, ◌⊎◌, inl, inr, ℕ, zero, suc, ◌+◌, ◌-◌, ◌*◌, ◌<◌, ◌≤◌, min, List, [], ◌∷◌, ◌++◌, length, take, drop, refl, sym, ◌∙◌, ap, subst, arith, append_assoc, length-append, length-take}
use Rattle.std.proofs.lemmas.Bool.{cases_lt}
use Rattle.cr_journal_records.specs.Records.{Body, blocks, StandsFirst, Reads, IsFront, IsKept, AtRest}
use Rattle.cr_journal_records.specs.Records.IsKept.{kept}
use Rattle.cr_outside_disk.specs.Images.{CutShort, Torn, put}
use Rattle.cr_journal_records.proofs.Blocks.{Sized, length_blocks, sized}

take_past : (xs ys : List ℕ) (m n : ℕ) → m ≡ length xs + n → take m (xs ++ ys) ≡ xs ++ take n ys
take_past [] ys m n is = let same : m ≡ n = omega arith in ap (λ (k : ℕ). take k ys) same
take_past (x ∷ xs) ys zero n is = absurd (omega arith)
take_past (x ∷ xs) ys (suc m) n is = ap (λ (l : List ℕ). x ∷ l) (take_past xs ys m n (omega arith))

-- a shorter front stands for no more
shorter : (k : ℕ) (l : List ℕ) → StandsFirst (take k l) → StandsFirst l
shorter zero l stands = elim stands [ ]
shorter (suc k) [] stands = elim stands [ ]
shorter (suc k) (gate ∷ behind) (opens, long) = (opens, omega (arith, long, length-take k behind))

-- What stands in an image that is cut short: all, or only some, and then an open gate that is too short.
abbrev CutTo : List Body → List ℕ → ℕ → List Body → List ℕ → Type 0
CutTo bodies rest k some left =
    ((some ≡ bodies) × (j : ℕ) × (k ≡ 32 * length bodies + j) × (left ≡ take j rest))
    ⊎ (IsFront some bodies × ((gate : ℕ) (more : List ℕ) → left ≡ gate ∷ more → gate ≡ 1))

record Taken (image : List ℕ) (bodies : List Body) (rest : List ℕ) (k : ℕ) : Type 0 where
  pub some : List Body
  pub left : List ℕ
  pub reads : Reads (take k image) some left
  pub cut : CutTo bodies rest k some left

-- a record at the front, cut within itself
within : (k : ℕ) (tail : List ℕ) (gate : ℕ) (more : List ℕ) → take k (1 ∷ tail) ≡ gate ∷ more → gate ≡ 1
within zero tail gate more is = absurd (cc is)
within (suc k) tail gate more is = sym (cc is)

too_short : (l : List ℕ) → length l ≤ 32 → StandsFirst l → ⊥
too_short [] short stands = stands
too_short (gate ∷ behind) short (opens, long) = omega (arith, short, long)

more_cut : (body : Body) (more some : List Body) (rest left : List ℕ) (k m : ℕ) → k ≡ 32 + m → CutTo more rest m some left → CutTo (body ∷ more) rest k (body ∷ some) left
more_cut body more some rest left k m is (inl (same, j, counts, left_is)) = inl (ap (λ (l : List Body). body ∷ l) same, j, omega (arith, is, counts), left_is)
more_cut body more some rest left k m is (inr (front, opens)) = inr ((front.0, ap (λ (l : List Body). body ∷ l) front.1), opens)

taken : (image : List ℕ) (bodies : List Body) (rest : List ℕ) (k : ℕ) → Reads image bodies rest → Taken image bodies rest k
taken image [] rest k (is, shut) = record {
  some = [];
  left = take k rest;
  reads = (ap (take k) is, λ stands. shut (shorter k rest stands));
  cut = inl (refl, k, omega arith, refl);
}
taken image (body ∷ more) rest k (behind, is, size, some, inner) = elim (cases_lt 32 k) [
  | inl long ↦
      let m = k - 32 in
      let next = taken behind more rest m inner in
      let size_here : length (1 ∷ body) ≡ 32 = omega (arith, size) in
      let front : take k image ≡ 1 ∷ (body ++ take m behind) = ap (take k) is ∙ take_past (1 ∷ body) behind k m (omega (arith, size_here, long)) in
      record {
        some = body ∷ next.some;
        left = next.left;
        reads = (take m behind, front, size, omega (arith, length-take m behind, some, long), next.reads);
        cut = more_cut body more next.some rest next.left k m (omega (arith, long)) next.cut;
      }
  | inr short ↦ record {
    some = [];
    left = take k image;
    reads = (refl, too_short (take k image) (omega (arith, length-take k image, short)));
    cut = inr ((body ∷ more, refl), λ gate after opens. within k (body ++ behind) gate after (ap (take k) (sym is) ∙ opens));
  }
]

record Headed (j : ℕ) (rest : List ℕ) (gate : ℕ) (more : List ℕ) : Type 0 where
  pub behind : List ℕ
  pub is : rest ≡ gate ∷ behind
  pub n : ℕ
  pub counts : j ≡ suc n
  pub more_is : more ≡ take n behind

headed : (j : ℕ) (rest : List ℕ) (gate : ℕ) (more : List ℕ) → take j rest ≡ gate ∷ more → Headed j rest gate more
headed zero rest gate more is = absurd (cc is)
headed (suc j) [] gate more is = absurd (cc is)
headed (suc j) (g ∷ behind) gate more is = record { behind = behind; is = ap (λ (x : ℕ). x ∷ behind) (cc is); n = j; counts = refl; more_is = sym (cc is) }

pub kept_take : (all : List Body) (image : List ℕ) (k : ℕ) → IsKept all image → IsKept all (take k image)
kept_take all image k (kept bodies rest reads front torn) =
    let cut = taken image bodies rest k reads in
    elim cut.cut [
      | inl (same, j, counts, left_is) ↦ kept cut.some cut.left cut.reads (subst (λ (l : List Body). IsFront l all) (sym same) front)
          (λ gate more opens not_shut not_open.
          let here = headed j rest gate more (sym left_is ∙ opens) in
          let sizes = length_blocks bodies (sized image bodies rest reads) in
          let shape : take k (blocks bodies ++ (1 ∷ here.behind)) ≡ blocks cut.some ++ (1 ∷ more) =
          take_past (blocks bodies) (1 ∷ here.behind) k (suc here.n) (omega (arith, counts, here.counts, sizes))
          ∙ ap (λ (l : List ℕ). blocks bodies ++ (1 ∷ l)) (sym here.more_is) ∙ ap (λ (l : List Body). blocks l ++ (1 ∷ more)) (sym same) in
          subst (IsKept all) shape (kept_take all (blocks bodies ++ (1 ∷ here.behind)) k (torn gate here.behind here.is not_shut not_open)))
      | inr (some_front, opens) ↦ kept cut.some cut.left cut.reads
          (some_front.0 ++ front.0, front.1 ∙ ap (λ (l : List Body). l ++ front.0) some_front.1 ∙ append_assoc cut.some some_front.0 front.0)
          (λ gate more is not_shut not_open. absurd (not_open (opens gate more is)))
    ]

-- as a cut may leave it
pub kept_cut : (all : List Body) (len : ℕ) (before image : List ℕ) → IsKept all before → CutShort len before image → IsKept all image
kept_cut all len before image keeps cut = subst (IsKept all) cut.front (kept_take all before (length image) keeps)
