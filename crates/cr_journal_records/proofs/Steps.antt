-- What each step of adding a record leaves.
use Rattle.std.proofs.Common.{◌≡◌, ◌≢◌, ◌⊎◌, inl, inr, ℕ, ◌+◌, ◌*◌, ◌<◌, ◌≤◌, min, List, [], ◌∷◌, ◌++◌, length, get_or, take, drop, refl, sym, ◌∙◌, ap, subst, arith, append_assoc, length-append, take-append-drop}
use Rattle.std.proofs.lemmas.Bool.{cases_eq}
use Rattle.std.proofs.lemmas.List.{take_at, drop_at, drop_more, append-nil}
use Rattle.cr_journal_records.specs.Records.{Body, blocks, StandsFirst, Reads, IsFront, IsKept, AtRest, Staged}
use Rattle.cr_journal_records.specs.Records.IsKept.{kept}
use Rattle.cr_outside_disk.specs.Images.{Torn, put}
use Rattle.cr_journal_records.proofs.Blocks.{Sized, length_blocks, blocks_push, sized_push, split, sized, reads_on, shut_gate, at_rest, torn_shape, put_shape}

-- the records and the closed gate
abbrev front : List Body → List ℕ
front bodies = blocks bodies ++ 0 ∷ []

module _ (bodies all : List Body) (body : Body) (index : ℕ) (counts : length bodies ≡ index) (size : length body ≡ 31) (is_front : IsFront (bodies ++ body ∷ []) all) where
  gate : Sized bodies → length (blocks bodies) ≡ 32 * index
  gate sizes = omega (arith, length_blocks bodies sizes, counts)

  front_size : Sized bodies → length (front bodies) ≡ 32 * index + 1
  front_size sizes = omega (arith, gate sizes, length-append (blocks bodies) (0 ∷ []))

  -- from the records that stand, without the new one
  is_front_before : IsFront bodies all
  is_front_before = (body ∷ is_front.0, is_front.1 ∙ append_assoc bodies (body ∷ []) is_front.0)

  pub rest_is_kept : (image : List ℕ) → AtRest bodies image → IsKept all image
  rest_is_kept image (behind, reads) = kept bodies (0 ∷ behind) reads is_front_before (λ gate more is torn shut. absurd (torn (sym (cc is))))

  -- the body behind the closed gate, torn
  pub torn_behind : (before image : List ℕ) → AtRest bodies before → Torn (32 * index + 1) (length (body ++ 0 ∷ [])) before image → AtRest bodies image
  torn_behind before image (behind, reads) torn =
      let sizes = sized before bodies (0 ∷ behind) reads in
      let is : before ≡ front bodies ++ behind = split before bodies (0 ∷ behind) reads ∙ sym (append_assoc (blocks bodies) (0 ∷ []) behind) in
      let long : 32 * index + 1 ≤ length before = omega (arith, ap length is, length-append (front bodies) behind, front_size sizes) in
      let short : min (32 * index + 1) (length before) ≡ 32 * index + 1 = omega (arith, long) in
      let stays : take (32 * index + 1) image ≡ front bodies =
      ap (λ (n : ℕ). take n image) (sym short) ∙ torn.before ∙ ap (take (32 * index + 1)) is ∙ take_at (front bodies) behind (32 * index + 1) (front_size sizes) in
      let whole : image ≡ blocks bodies ++ (0 ∷ drop (32 * index + 1) image) =
      sym (take-append-drop (32 * index + 1) image) ∙ ap (λ (l : List ℕ). l ++ drop (32 * index + 1) image) stays ∙ append_assoc (blocks bodies) (0 ∷ []) (drop (32 * index + 1) image) in
      subst (AtRest bodies) (sym whole) (at_rest bodies (drop (32 * index + 1) image) sizes)

  -- whole
  pub put_behind : (before : List ℕ) → AtRest bodies before → Staged bodies body (put (32 * index + 1) (body ++ 0 ∷ []) before)
  put_behind before (behind, reads) =
      let sizes = sized before bodies (0 ∷ behind) reads in
      let is : before ≡ front bodies ++ behind = split before bodies (0 ∷ behind) reads ∙ sym (append_assoc (blocks bodies) (0 ∷ []) behind) in
      let more = drop (32 * index + 1 + length (body ++ 0 ∷ [])) before in
      let stays : take (32 * index + 1) before ≡ front bodies = ap (take (32 * index + 1)) is ∙ take_at (front bodies) behind (32 * index + 1) (front_size sizes) in
      let whole : put (32 * index + 1) (body ++ 0 ∷ []) before ≡ blocks bodies ++ (0 ∷ (body ++ (0 ∷ more))) =
      ap (λ (l : List ℕ). l ++ (body ++ 0 ∷ []) ++ more) stays
      ∙ append_assoc (front bodies) (body ++ 0 ∷ []) more
      ∙ append_assoc (blocks bodies) (0 ∷ []) ((body ++ 0 ∷ []) ++ more)
      ∙ ap (λ (l : List ℕ). blocks bodies ++ (0 ∷ l)) (append_assoc body (0 ∷ []) more) in
      subst (Staged bodies body) (sym whole) (more, reads_on bodies (0 ∷ (body ++ (0 ∷ more))) sizes (omega arith) (shut_gate 0 (body ++ (0 ∷ more)) (omega arith)))

  -- the gate open
  opened : (behind : List ℕ) → Sized bodies → AtRest (bodies ++ body ∷ []) (blocks bodies ++ (1 ∷ (body ++ (0 ∷ behind))))
  opened behind sizes = subst (AtRest (bodies ++ body ∷ [])) (blocks_push bodies body (0 ∷ behind)) (at_rest (bodies ++ body ∷ []) behind (sized_push bodies body sizes size))

  open_is_kept : (behind : List ℕ) → Sized bodies → IsKept all (blocks bodies ++ (1 ∷ (body ++ (0 ∷ behind))))
  open_is_kept behind sizes =
      let rest = opened behind sizes in
      kept (bodies ++ body ∷ []) (0 ∷ rest.0) rest.1 is_front (λ gate more is torn shut. absurd (torn (sym (cc is))))

  -- the gate torn: whatever it is, the image is kept
  any_gate : (g : ℕ) (behind : List ℕ) → Sized bodies → (g ≡ 1) ⊎ (g ≢ 1) → IsKept all (blocks bodies ++ (g ∷ (body ++ (0 ∷ behind))))
  any_gate g behind sizes (inl is_open) = subst (λ (n : ℕ). IsKept all (blocks bodies ++ (n ∷ (body ++ (0 ∷ behind))))) (sym is_open) (open_is_kept behind sizes)
  any_gate g behind sizes (inr shut) =
      kept bodies (g ∷ (body ++ (0 ∷ behind))) (reads_on bodies _ sizes (omega arith) (shut_gate g _ shut)) is_front_before
      (λ gate more is torn closed. subst (λ (l : List ℕ). IsKept all (blocks bodies ++ (1 ∷ l))) (cc is) (open_is_kept behind sizes))

  pub torn_gate : (before image : List ℕ) → Staged bodies body before → Torn (32 * index) 1 before image → IsKept all image
  torn_gate before image (behind, reads) torn =
      let sizes = sized before bodies _ reads in
      let tail = body ++ (0 ∷ behind) in
      let shape = torn_shape bodies 0 tail before sizes (split before bodies (0 ∷ tail) reads) image (subst (λ (n : ℕ). Torn (32 * n) 1 before image) (sym counts) torn) in
      subst (IsKept all) (sym shape.is) (any_gate shape.gate behind sizes (cases_eq shape.gate 1))

  pub put_gate : (before : List ℕ) → Staged bodies body before → AtRest (bodies ++ body ∷ []) (put (32 * index) (1 ∷ []) before)
  put_gate before (behind, reads) =
      let sizes = sized before bodies _ reads in
      let tail = body ++ (0 ∷ behind) in
      let whole = ap (λ (n : ℕ). put (32 * n) (1 ∷ []) before) (sym counts) ∙ put_shape bodies 0 tail before sizes (split before bodies (0 ∷ tail) reads) 1 in
      subst (AtRest (bodies ++ body ∷ [])) (sym whole) (opened behind sizes)
