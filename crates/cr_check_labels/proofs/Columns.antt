-- Columns made entry by entry, and marks that are repeated.
use Rattle.std.proofs.Common.{◌≡◌, ℕ, ℤ, zero, suc, ◌+◌, ◌<◌, ◌≤◌, ◌||◌, ◌&&◌, Bool, false, nat_lt, List, [], ◌∷◌, ◌++◌, Option, None, Some, length, take, slice_get, slice_index_or, refl, sym, ap, subst, ◌∙◌, inl, inr, arith, length-append}
use Rattle.std.specs.List.{list_any}
use Rattle.std.proofs.Math.ListN.{get_or-append}
use Rattle.std.proofs.Math.Seq.{get_or-append_seam}
use Rattle.std.proofs.lemmas.Bool.{cases_lt, or_from, or_parts}
use Rattle.cr_syntax.specs.declared.node.Kind.{Kind}
use Rattle.cr_syntax.specs.declared.node.Kind.TheVariants as kind
use Rattle.cr_syntax.specs.declared.node.Node.{Node}
use Rattle.cr_check_enclosing.specs.Repeats.{is_mark, has_mark, has_before, mark_in, repeats_at, AreRepeated}
use Rattle.cr_check_enclosing.proofs.Earlier.{same_mark}
use Rattle.cr_rows.specs.Columns.{AreOf}
use Rattle.cr_check_labels.specs.Labelled.{Scene}
use Rattle.cr_check_labels.specs.Kinds.{is_goto, is_label}
use Rattle.cr_check_labels.specs.Marks.{case_at, case_by, case_if, default_at, default_by, default_if, label_at, label_by, label_if}
use Rattle.cr_check_labels.specs.Gotos.{AreLabels, goto_at, goto_by, goto_if}
use Rattle.cr_check_labels.specs.Again.{AreAgain, is_again, is_repeated, same_name, same_owner, same_value}

-- the marks of a column are those that a function gives
among : {K : Type 0} (eq : K → K → Bool) (mark : ℕ → Option K) (marks : List (Option K)) (place : ℕ → ℕ) (count k token : ℕ) (q : K)
    → AreOf mark None count marks → k ≤ count → has_before eq (mark_in marks) place k token q ≡ has_before eq mark place k token q
among eq mark marks place count zero token q h low = refl
among eq mark marks place count (suc k) token q h low =
    ap (λ b. b || (nat_lt (place k) token && is_mark eq q (mark_in marks k))) (among eq mark marks place count k token q h (omega (arith, low)))
    ∙ ap (λ o. has_before eq mark place k token q || (nat_lt (place k) token && is_mark eq q o)) (h.each k (omega (arith, low)))

-- an entry of a column of repeated marks
repeats_is : {K : Type 0} (eq : K → K → Bool) (mark : ℕ → Option K) (marks : List (Option K)) (place : ℕ → ℕ) (repeated : List Bool) (count k : ℕ)
    → AreOf mark None count marks → AreRepeated eq marks place repeated → k < count → slice_index_or repeated k false ≡ repeats_at eq mark place count k
repeats_is eq mark marks place repeated count k h r low =
    let c : length marks ≡ count = h.count in
    r.each k (omega (arith, low, c))
    ∙ ap (λ (n : ℕ). repeats_at eq (mark_in marks) place n k) c
    ∙ same_mark (has_before eq (mark_in marks) place count (place k)) (has_before eq mark place count (place k)) (mark_in marks k)
    (λ q. among eq mark marks place count count (place k) q h (omega arith))
    ∙ ap (has_mark (has_before eq mark place count (place k))) (h.each k low)

-- all entries
pub all_repeated : {K : Type 0} (eq : K → K → Bool) (mark : ℕ → Option K) (marks : List (Option K)) (place : ℕ → ℕ) (repeated : List Bool) (count : ℕ)
    → AreRepeated eq marks place repeated → AreOf mark None count marks → AreOf (repeats_at eq mark place count) false count repeated
all_repeated eq mark marks place repeated count r h = record {
  count = r.count ∙ h.count;
  each = λ k low. repeats_is eq mark marks place repeated count k h r low;
}

pub all_again : (s : Scene) (c d n again : List Bool) → AreOf (is_repeated same_value s (case_at s)) false (length s.nodes) c
    → AreOf (is_repeated same_owner s (default_at s)) false (length s.nodes) d → AreOf (is_repeated same_name s (label_at s)) false (length s.nodes) n
    → length again ≡ length c
    → ((i : ℕ) → i < length c → slice_index_or again i false ≡ (slice_index_or c i false || (slice_index_or d i false || slice_index_or n i false)))
    → AreOf (is_again s) false (length s.nodes) again
all_again s c d n again hc hd hn count each = record {
  count = count ∙ hc.count;
  each = λ i low.
      each i (let e = hc.count in omega (arith, e, low))
      ∙ ap (λ b. b || (slice_index_or d i false || slice_index_or n i false)) (hc.each i low)
      ∙ ap (λ b. is_repeated same_value s (case_at s) i || (b || slice_index_or n i false)) (hd.each i low)
      ∙ ap (λ b. is_repeated same_value s (case_at s) i || (is_repeated same_owner s (default_at s) i || b)) (hn.each i low);
}

-- ---- units without labels

-- of nodes of which none has a property each lacks it
lacks : (p : Node → Bool) (nodes : List Node) (i : ℕ) (n : Node) → list_any p nodes ≡ false → slice_get nodes i ≡ Some n → p n ≡ false
lacks p [] i n none is = absurd cc
lacks p (m ∷ ms) zero n none is =
    let same : m ≡ n = cc in
    subst (λ (x : Node). p x ≡ false) same (or_parts (p m) (list_any p ms) none).0
lacks p (m ∷ ms) (suc i) n none is = lacks p ms i n (or_parts (p m) (list_any p ms) none).1 is

no_case : (k : Kind) (s : Scene) (i : ℕ) (n : Node) → is_label k ≡ false → case_by k s i n ≡ None
no_case kind.Case s i n fails = absurd cc
no_case k s i n fails = refl

no_default : (k : Kind) (s : Scene) (i : ℕ) → is_label k ≡ false → default_by k s i ≡ None
no_default kind.Default s i fails = absurd cc
no_default k s i fails = refl

no_label : (k : Kind) (s : Scene) (owner : Option ℕ) (n : Node) → is_label k ≡ false → label_by k s owner n ≡ None
no_label kind.Label s owner n fails = absurd cc
no_label k s owner n fails = refl

no_goto : (k : Kind) (s : Scene) (i : ℕ) (n : Node) → is_goto k ≡ false → goto_by k s i n ≡ None
no_goto kind.Goto s i n fails = absurd cc
no_goto k s i n fails = refl

no_case_if : (o : Option Node) (s : Scene) (i : ℕ) → ((n : Node) → o ≡ Some n → is_label n.kind ≡ false) → case_if o s i ≡ None
no_case_if None s i fails = refl
no_case_if (Some n) s i fails = no_case n.kind s i n (fails n refl)

no_default_if : (o : Option Node) (s : Scene) (i : ℕ) → ((n : Node) → o ≡ Some n → is_label n.kind ≡ false) → default_if o s i ≡ None
no_default_if None s i fails = refl
no_default_if (Some n) s i fails = no_default n.kind s i (fails n refl)

no_label_if : (o : Option Node) (s : Scene) (owner : Option ℕ) → ((n : Node) → o ≡ Some n → is_label n.kind ≡ false) → label_if o s owner ≡ None
no_label_if None s owner fails = refl
no_label_if (Some n) s owner fails = no_label n.kind s owner n (fails n refl)

no_goto_if : (o : Option Node) (s : Scene) (i : ℕ) → ((n : Node) → o ≡ Some n → is_goto n.kind ≡ false) → goto_if o s i ≡ None
no_goto_if None s i fails = refl
no_goto_if (Some n) s i fails = no_goto n.kind s i n (fails n refl)

unmarked : {K : Type 0} (f : K → Bool) (mark : Option K) → mark ≡ None → has_mark f mark ≡ false
unmarked f mark none = ap (has_mark f) none

never_again : (s : Scene) → list_any (λ n. is_label n.kind) s.nodes ≡ false → (i : ℕ) → is_again s i ≡ false
never_again s none i =
    let fails : (n : Node) → slice_get s.nodes i ≡ Some n → is_label n.kind ≡ false = λ n is. lacks (λ (m : Node). is_label m.kind) s.nodes i n none is in
    or_from (is_repeated same_value s (case_at s) i) (is_repeated same_owner s (default_at s) i || is_repeated same_name s (label_at s) i)
    (unmarked _ (case_at s i) (no_case_if (slice_get s.nodes i) s i fails))
    (or_from (is_repeated same_owner s (default_at s) i) (is_repeated same_name s (label_at s) i)
    (unmarked _ (default_at s i) (no_default_if (slice_get s.nodes i) s i fails))
    (unmarked _ (label_at s i) (no_label_if (slice_get s.nodes i) s (s.around i).function fails)))

-- where there is no label, none is repeated
pub none_again : (s : Scene) (again : List Bool) → list_any (λ n. is_label n.kind) s.nodes ≡ false → length again ≡ length s.nodes
    → ((i : ℕ) → i < length s.nodes → slice_index_or again i false ≡ false) → AreAgain s again
none_again s again none count each = record { count = count; each = λ i low. each i low ∙ sym (never_again s none i) }

-- what relates to no number relates to None alone
pub only_none : (R : Option ℕ → Type 0) → ((v : ℕ) → R (Some v) → ⊥) → (y : Option ℕ) → R y → y ≡ None
only_none R fails None e = refl
only_none R fails (Some v) e = absurd (fails v e)

-- where there is no `goto`, none names a label
pub none_named : (s : Scene) (labels : List (Option ℕ)) → list_any (λ n. is_goto n.kind) s.nodes ≡ false → length labels ≡ length s.nodes
    → ((i : ℕ) → i < length s.nodes → slice_index_or labels i None ≡ None) → AreLabels s labels
none_named s labels none count each = record {
  count = count;
  each = λ i low.
      each i low ∙ sym (no_goto_if (slice_get s.nodes i) s i (λ n found. lacks (λ (m : Node). is_goto m.kind) s.nodes i n none found));
}
