-- Reading records, one after another.
use Rattle.std.proofs.Common.{◌≡◌, ◌≢◌, ◌⊎◌, inl, inr, ℕ, ◌+◌, ◌-◌, ◌*◌, ◌<◌, ◌≤◌, List, [], ◌∷◌, ◌++◌, length, get_or, take, drop, Option, Some, None, Vec, refl, sym, ◌∙◌, ap, subst, arith, append_assoc, length-append, length-drop, take-append-drop}
use Rattle.std.proofs.lemmas.List.{drop-drop, drop_at, take_all, append-nil}
use Rattle.cr_journal_records.specs.Records.{Body, blocks, StandsFirst, Reads, AtRest, HasGate, IsKept}
use Rattle.cr_outside.specs.Story.{Story, changes_of}
use Rattle.cr_outside_disk.proofs.Images.{seen_is_image}
use Rattle.cr_outside_disk.specs.Moments.{EveryTold, HasLength, Gives, seen, with_change}
use Rattle.cr_outside.specs.Story.Change.{Synced}
use Rattle.cr_journal_records.proofs.Blocks.{Sized, length_blocks, blocks_push, sized_push, reads_on, split, sized}
use Rattle.cr_journal_records.specs.Reading.{IsSettled, OpenAt, ReadsTold, ShutAt, bodies_of}
use Rattle.std.specs.declared.alloc.Global.{Global}

-- the file is these records, and what is behind a place
pub record ReadTo (file : List ℕ) (at : ℕ) (bodies : List Body) : Type 0 where
  pub is : file ≡ blocks bodies ++ drop at file
  pub sizes : Sized bodies
  pub counts : at ≡ 32 * length bodies
  pub left : (bodies ≡ []) ⊎ (at < length file)

abbrev pub IsReadTo : Option Story → ℕ → List Body → Type 0
IsReadTo None at bodies = Unit {0}
IsReadTo (Some s) at bodies = ReadTo (seen s) at bodies

pub nothing_read : (told : Option Story) → IsReadTo told 0 []
nothing_read None = tt
nothing_read (Some s) = record { is = refl; sizes = tt; counts = refl; left = inl refl }

one_more : (file : List ℕ) (at : ℕ) (bodies : List Body) (body : Body) → ReadTo file at bodies → take 32 (drop at file) ≡ 1 ∷ body → length body ≡ 31 → at + 33 ≤ length file → ReadTo file (at + 32) (bodies ++ body ∷ [])
one_more file at bodies body so_far opens size long =
    let rest : drop at file ≡ 1 ∷ (body ++ drop (at + 32) file) =
    sym (take-append-drop 32 (drop at file)) ∙ ap (λ (l : List ℕ). l ++ drop 32 (drop at file)) opens ∙ ap (λ (l : List ℕ). 1 ∷ (body ++ l)) (drop-drop 32 at file) in
    record {
      is = so_far.is ∙ ap (λ (l : List ℕ). blocks bodies ++ l) rest ∙ sym (blocks_push bodies body (drop (at + 32) file));
      sizes = sized_push bodies body so_far.sizes size;
      counts = omega (arith, so_far.counts, length-append bodies (body ∷ []));
      left = inr (omega (arith, long));
    }

pub open_next : (told : Option Story) (at len : ℕ) (bodies : List Body) (body : Body) → IsReadTo told at bodies → OpenAt told at body → length body ≡ 31 → HasLength told len → at + 33 ≤ len → IsReadTo told (at + 32) (bodies ++ body ∷ [])
open_next None at len bodies body so_far opens size long within = tt
open_next (Some s) at len bodies body so_far opens size long within = one_more (seen s) at bodies body so_far opens size (omega (arith, long, within))

ended : (file : List ℕ) (at : ℕ) (bodies : List Body) → ReadTo file at bodies → (StandsFirst (drop at file) → ⊥) → Reads file bodies (drop at file)
ended file at bodies so_far shut = elim so_far.left [
  | inl none ↦ subst (λ (l : List Body). Reads file l (drop at file)) (sym none) (so_far.is ∙ ap (λ (l : List Body). blocks l ++ drop at file) none, shut)
  | inr more ↦ subst (λ (l : List ℕ). Reads l bodies (drop at file)) (sym so_far.is) (reads_on bodies (drop at file) so_far.sizes (omega (arith, more, length-drop at file)) shut)
]

opens_first : (l : List ℕ) → StandsFirst l → (body : Body) × (take 32 l ≡ 1 ∷ body)
opens_first [] stands = absurd stands
opens_first (gate ∷ behind) (opens, long) = (take 31 behind, ap (λ (n : ℕ). n ∷ take 31 behind) opens)

pub ended_shut : (told : Option Story) (at : ℕ) (bodies : List Body) → IsReadTo told at bodies → ShutAt told at → ReadsTold told bodies
ended_shut None at bodies so_far shut = tt
ended_shut (Some s) at bodies so_far shut =
    (drop at (seen s), ended (seen s) at bodies so_far (λ stands. let first = opens_first (drop at (seen s)) stands in shut first.0 first.1))

too_short : (l : List ℕ) → length l ≤ 32 → StandsFirst l → ⊥
too_short [] short stands = stands
too_short (gate ∷ behind) short (opens, long) = omega (arith, short, long)

pub ended_short : (told : Option Story) (at len : ℕ) (bodies : List Body) → IsReadTo told at bodies → HasLength told len → len - at < 33 → ReadsTold told bodies
ended_short None at len bodies so_far long short = tt
ended_short (Some s) at len bodies so_far long short =
    (drop at (seen s), ended (seen s) at bodies so_far (too_short (drop at (seen s)) (omega (arith, long, short, length-drop at (seen s)))))

-- where a record stands, something is left behind them
some_left : (image : List ℕ) (bodies : List Body) (rest : List ℕ) → Reads image bodies rest → bodies ≢ [] → 0 < length rest
some_left image [] rest reads some = absurd (some refl)
some_left image (body ∷ []) rest (behind, is, size, long, (same, shut)) some = omega (arith, long, ap length same)
some_left image (body ∷ b ∷ more) rest (behind, is, size, long, inner) some = some_left behind (b ∷ more) rest inner (λ none. absurd (cc none))

counted : (image : List ℕ) (bodies : List Body) (rest : List ℕ) → Reads image bodies rest → length image ≡ 32 * length bodies + length rest
counted image bodies rest reads = omega (arith, ap length (split image bodies rest reads), length-append (blocks bodies) rest, length_blocks bodies (sized image bodies rest reads))

module _ (bodies : List Body) (count len : ℕ) (counts : length bodies ≡ count) where
  pub missing : (told : Option Story) → HasLength told len → len ≤ 32 * count → ReadsTold told bodies → bodies ≢ [] → EveryTold (AtRest bodies) told
  missing None long short reads some = tt
  missing (Some s) long short (rest, reads) some =
      absurd (omega (arith, counts, long, short, counted (seen s) bodies rest reads, some_left (seen s) bodies rest reads some))

  record Behind (file : List ℕ) (gate : List ℕ) : Type 0 where
    pub g : ℕ
    pub behind : List ℕ
    pub reads : Reads file bodies (g ∷ behind)
    pub is : gate ≡ g ∷ []

  gated : (file rest : List ℕ) (gate : List ℕ) → Reads file bodies rest → gate ≡ take 1 (drop (32 * count) file) → 32 * count < length file → Behind file gate
  gated file [] gate reads is long = absurd (omega (arith, counts, long, counted file bodies [] reads))
  gated file (g ∷ behind) gate reads is long = record {
    g = g;
    behind = behind;
    reads = reads;
    is = is ∙ ap (take 1) (ap (drop (32 * count)) (split file bodies (g ∷ behind) reads)
        ∙ drop_at (blocks bodies) (g ∷ behind) (32 * count) (omega (arith, counts, length_blocks bodies (sized file bodies (g ∷ behind) reads))));
  }

  pub shut_there : (told : Option Story) (gate : List ℕ) → HasLength told len → 32 * count < len → IsSettled told → ReadsTold told bodies → Gives told (32 * count) 1 gate → get_or gate 0 0 ≡ 0 → EveryTold (AtRest bodies) told
  shut_there None gate long more settled reads gives shut = tt
  shut_there (Some s) gate long more settled (rest, reads) gives shut = λ image left.
      let there = gated (seen s) rest gate reads gives (omega (arith, long, more)) in
      let none : there.g ≡ 0 = ap (λ (l : List ℕ). get_or l 0 0) (sym there.is) ∙ shut in
      (there.behind, subst (λ (l : List ℕ). Reads l bodies (0 ∷ there.behind)) (sym (settled image left)) (subst (λ (n : ℕ). Reads (seen s) bodies (n ∷ there.behind)) none there.reads))

  pub torn_there : (told : Option Story) (gate : List ℕ) → HasLength told len → 32 * count < len → IsSettled told → ReadsTold told bodies → Gives told (32 * count) 1 gate → get_or gate 0 0 ≢ 0 → EveryTold (HasGate bodies) told
  torn_there None gate long more settled reads gives open_gate = tt
  torn_there (Some s) gate long more settled (rest, reads) gives open_gate = λ image left.
      let there = gated (seen s) rest gate reads gives (omega (arith, long, more)) in
      (there.g, there.behind, subst (λ (l : List ℕ). Reads l bodies (there.g ∷ there.behind)) (sym (settled image left)) there.reads, λ none. open_gate (ap (λ (l : List ℕ). get_or l 0 0) there.is ∙ none))

pub both : (P Q : List ℕ → Type 0) (told : Option Story) → EveryTold P told → EveryTold Q told → EveryTold (λ image. P image × Q image) told
both P Q None p q = tt
both P Q (Some s) p q = λ image left. (p image left, q image left)

-- after a sync that answered Ok
pub settled_now : (told : Option Story) → IsSettled (with_change Synced told)
settled_now None = tt
settled_now (Some s) = λ image left. left

-- what was seen is seen
pub read_before : (told : Option Story) (bodies : List Body) → ReadsTold (with_change Synced told) bodies → ReadsTold told bodies
read_before None bodies reads = tt
read_before (Some s) bodies reads = reads

-- a record as it was read
pub one_body : (record_read body : List ℕ) → length record_read ≡ 32 → get_or record_read 0 0 ≡ 1 → body ≡ take (length record_read - 1) (drop 1 record_read) → (length body ≡ 31) × (record_read ≡ 1 ∷ body)
one_body [] body size opens is = absurd (omega (arith, size))
one_body (gate ∷ more) body size opens is =
    let same : body ≡ more = is ∙ take_all (length (gate ∷ more) - 1) more (omega arith) in
    (omega (arith, size, ap length same), λ i. opens i ∷ sym same i)

pub opened : (told : Option Story) (at : ℕ) (record_read body : List ℕ) → Gives told at 32 record_read → record_read ≡ 1 ∷ body → OpenAt told at body
opened None at record_read body gives is = tt
opened (Some s) at record_read body gives is = sym gives ∙ is

pub some_bodies : (vecs : List (Vec ℕ Global)) → vecs ≢ [] → bodies_of vecs ≢ []
some_bodies [] some = λ none. some refl
some_bodies (v ∷ more) some = λ none. absurd (cc none)

-- where they stand in every image, they are read
pub rest_reads : (bodies : List Body) (told : Option Story) → EveryTold (AtRest bodies) told → ReadsTold told bodies
rest_reads bodies None rests = tt
rest_reads bodies (Some s) rests =
    let (behind, reads) = rests (seen s) (seen_is_image s.journal (changes_of s.events)) in
    (0 ∷ behind, reads)
