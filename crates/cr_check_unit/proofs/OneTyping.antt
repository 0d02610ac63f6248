-- In two typings of a unit each node has the same.
use Rattle.std.proofs.Common.{◌≡◌, ℕ, zero, suc, false, ◌<◌, ◌≤◌, ◌∷◌, [], ◌++◌, List, None, length, refl, sym, ap, subst, ◌∙◌, inl, inr, arith}
use Rattle.std.proofs.lemmas.Bool.{cases_lt, cases_eq}
use Rattle.std.proofs.lemmas.Option.{slice_get_cases}
use Rattle.cr_check_types.specs.declared.shape.Shape.{Shape}
use Rattle.cr_check_types.specs.Types.{type_at}
use Rattle.cr_check_types.specs.Layouts as layouts
use Rattle.cr_check_expressions.specs.Ruled.{no_fact}
use Rattle.cr_check_declarators.specs.Specifiers.{nothing}
use Rattle.cr_check_declarators.specs.Declarators.{name_alone}
use Rattle.cr_check_declarations.specs.declared.tree.Tree.{Tree}
use Rattle.cr_check_declarations.specs.Faults.{Has}
use Rattle.cr_check_initialisers.specs.Plans.{entries_of}
use Rattle.cr_check_unit.specs.declared.typing.Typing.{Typing}
use Rattle.cr_check_unit.specs.declared.entry.Entry.{Entry}
use Rattle.cr_check_unit.specs.Typing.{cut, with_entry, entry_at, before_in, source_in, IsRuledIf, AreWhole, IsTyping}
use Rattle.cr_check_unit.specs.Laws.{AreAlike}
use Rattle.cr_check_unit.proofs.Steps.{no_entry, entry_older, entry_newest, entry_past}
use Rattle.cr_check_unit.proofs.OneCut.{cut_next, whole_cut, cut_all}
use Rattle.cr_check_unit.proofs.OneReading.{Alike, before_alike, source_alike}
use Rattle.cr_check_unit.proofs.OneEntry.{entry_alike}

-- ---- columns that grow

nothing_filled : (shapes later : List Shape) → entries_of shapes [] ≡ entries_of later []
unfolding entries_of
nothing_filled shapes later = refl

nothing_alike : (shapes later : List Shape) → type_at shapes 0 ≡ type_at later 0 → AreAlike shapes later no_entry no_entry
nothing_alike shapes later none = record {
  fact = ap (λ type. record { type = type; lvalue = false; register = false; constant = no_fact.constant; null = false }) none;
  own = λ i. record {
    specified = nothing;
    declarator = name_alone;
    derived = none i;
    named = none i;
    layout = layouts.nothing;
    enumerated = None;
  };
  declared = refl;
  parameters = refl;
  members = refl;
  fixed = refl;
  anchor = refl;
  lines = nothing_filled shapes later;
  linked = refl;
  composite = none;
  composite_parameters = refl;
}

moved : (shapes later : List Shape) (d d' e e' : Entry) → d ≡ d' → e ≡ e' → AreAlike shapes later d' e' → AreAlike shapes later d e
moved shapes later d d' e e' is so h = subst (λ x. AreAlike shapes later x e) (sym is) (subst (AreAlike shapes later d') (sym so) h)

entry_more : (shapes later : List Shape) (t s : Typing) (d e : Entry) (count p : ℕ) → AreWhole t count → AreWhole s count → Alike shapes later t s
    → AreAlike shapes later d e → AreAlike shapes later (entry_at (with_entry t d) p) (entry_at (with_entry s e) p)
entry_more shapes later t s d e count p w v h a = elim (cases_lt p count) [
  | inl low ↦ moved shapes later (entry_at (with_entry t d) p) (entry_at t p) (entry_at (with_entry s e) p) (entry_at s p)
      (entry_older t d p count w low) (entry_older s e p count v low) (h.each p)
  | inr high ↦ elim (cases_eq p count) [
    | inl is ↦
        subst (λ k. AreAlike shapes later (entry_at (with_entry t d) k) (entry_at (with_entry s e) k)) (sym is)
        (moved shapes later (entry_at (with_entry t d) count) d (entry_at (with_entry s e) count) e (entry_newest t d count w)
        (entry_newest s e count v) a)
    | inr ne ↦
        let past : count < p = omega (arith, high, ne) in
        moved shapes later (entry_at (with_entry t d) p) no_entry (entry_at (with_entry s e) p) no_entry (entry_past t d p count w past)
        (entry_past s e p count v past) (nothing_alike shapes later h.none)
  ]
]

one_more : (shapes later : List Shape) (t s : Typing) (d e : Entry) (count : ℕ) → AreWhole t count → AreWhole s count → Alike shapes later t s
    → AreAlike shapes later d e → Alike shapes later (with_entry t d) (with_entry s e)
one_more shapes later t s d e count w v h a = record {
  none = h.none;
  each = λ p. entry_more shapes later t s d e count p w v h a;
  layouts = λ i. h.layouts i ++ ap (λ (own : Has). own.layout) a.own i ∷ [];
}

-- ---- node by node

node_alike : (u : Tree) (texts : List (List ℕ)) (shapes later : List Shape) (t s : Typing) (n : ℕ) → IsTyping u texts shapes t
    → IsTyping u texts later s → n < length u.nodes.now → Alike shapes later (cut n t) (cut n s)
    → AreAlike shapes later (entry_at t n) (entry_at s n)
node_alike u texts shapes later t s n x y low h = elim (slice_get_cases u.nodes.now n).1 [
  | inl found ↦ entry_alike u texts shapes later (cut n t) (cut n s) (entry_at t n) (entry_at s n) n found.0 h
      (subst (IsRuledIf u texts shapes (cut n t) (entry_at t n) n) found.2 (x.each n))
      (subst (IsRuledIf u texts later (cut n s) (entry_at s n) n) found.2 (y.each n))
  | inr past ↦ absurd (let high = past.0 in let e : ⊥ = omega (arith, low, high) in e)
]

pub up_to : (u : Tree) (texts : List (List ℕ)) (shapes later : List Shape) (t s : Typing) → IsTyping u texts shapes t → IsTyping u texts later s
    → (n : ℕ) → n ≤ length u.nodes.now → Alike shapes later (cut n t) (cut n s)
up_to u texts shapes later t s x y zero low = record {
  none = x.none ∙ sym y.none;
  each = λ p. nothing_alike shapes later (x.none ∙ sym y.none);
  layouts = refl;
}
up_to u texts shapes later t s x y (suc n) low =
    let count = length u.nodes.now in
    let older : n ≤ count = omega (arith, low) in
    let h = up_to u texts shapes later t s x y n older in
    let more = one_more shapes later (cut n t) (cut n s) (entry_at t n) (entry_at s n) n (whole_cut t n count x.whole older)
    (whole_cut s n count y.whole older) h (node_alike u texts shapes later t s n x y low h) in
    subst (λ c. Alike shapes later c (cut (suc n) s)) (sym (cut_next t n count x.whole low))
    (subst (Alike shapes later (with_entry (cut n t) (entry_at t n))) (sym (cut_next s n count y.whole low)) more)

-- ---- all nodes

pub all_alike : (u : Tree) (texts : List (List ℕ)) (shapes later : List Shape) (t s : Typing) → IsTyping u texts shapes t → IsTyping u texts later s
    → Alike shapes later t s
all_alike u texts shapes later t s x y =
    let count = length u.nodes.now in
    subst (λ c. Alike shapes later c s) (cut_all t count x.whole)
    (subst (Alike shapes later (cut count t)) (cut_all s count y.whole) (up_to u texts shapes later t s x y count (omega arith)))

pub one_typing : (u : Tree) (texts : List (List ℕ)) (shapes later : List Shape) (t s : Typing) → IsTyping u texts shapes t → IsTyping u texts later s
    → (i : ℕ) → AreAlike shapes later (entry_at t i) (entry_at s i)
one_typing u texts shapes later t s x y i = (all_alike u texts shapes later t s x y).each i

pub same_readings : (u : Tree) (texts : List (List ℕ)) (shapes later : List Shape) (t s : Typing) → IsTyping u texts shapes t
    → IsTyping u texts later s
    → (before_in shapes t ≡ before_in later s) × (source_in (type_at shapes) u texts t ≡ source_in (type_at later) u texts s)
same_readings u texts shapes later t s x y =
    let h = all_alike u texts shapes later t s x y in
    (before_alike shapes later t s h, source_alike u texts shapes later t s h)
