-- What is known when so many nodes are checked.
use Rattle.std.proofs.Common.{◌≡◌, ℕ, false, ◌+◌, ◌<◌, ◌≤◌, ◌⊎◌, ◌∷◌, [], ◌++◌, List, Option, None, length, take, slice_get, slice_index_or, refl, sym, ap, subst, ◌∙◌, inl, inr, arith, length-append}
use Rattle.std.proofs.lemmas.Bool.{cases_lt, cases_eq}
use Rattle.std.proofs.lemmas.List.{take-append-le, take_at, get_or_past}
use Rattle.std.proofs.lemmas.Option.{slice_get_past}
use Rattle.std.proofs.Math.ListN.{get_or-append}
use Rattle.std.proofs.Math.Seq.{get_or-append_seam}
use Rattle.cr_check_types.specs.declared.shape.Shape.{Shape}
use Rattle.cr_check_types.specs.Types.{unknown, IsRow, Grows}
use Rattle.cr_check_types.specs.Layouts as layouts
use Rattle.cr_check_expressions.specs.declared.known.Declared.TheVariants.{Unclear}
use Rattle.cr_check_expressions.specs.declared.least.Break.{Break}
use Rattle.cr_check_expressions.specs.Ruled.{no_fact}
use Rattle.cr_check_expressions.specs.Breaks.{IsFirst, IsAmong, lesser, first_of}
use Rattle.cr_check_expressions.proofs.Firsts.{same_first, joined, first_among}
use Rattle.cr_check_expressions.proofs.Kept.{grows_on}
use Rattle.cr_check_declarators.specs.Specifiers.{nothing}
use Rattle.cr_check_declarators.specs.Declarators.{name_alone}
use Rattle.cr_check_declarations.specs.declared.tree.Tree.{Tree}
use Rattle.cr_check_initialisers.specs.declared.anchor.Anchor.TheVariants.{Moving}
use Rattle.cr_check_unit.specs.declared.typing.Typing.{Typing}
use Rattle.cr_check_unit.specs.declared.entry.Entry.{Entry}
use Rattle.cr_check_unit.specs.Typing.{nothing_typed, cut, with_entry, entry_at, IsRuledIf, AreWhole, IsTyping, IsWithin, AreWithin}
use Rattle.cr_check_unit.specs.Breaks.{expression_faults, declaration_faults, initialiser_faults, linked_faults, IsNodeBreak, IsBroken}
use Rattle.cr_check_unit.proofs.Kept.{all_kept}

-- ---- one node more

one_more : {A : Type 0} → (xs : List A) (y : A) (count : ℕ) → length xs ≡ count → length (xs ++ y ∷ []) ≡ count + 1
one_more xs y count w = omega (arith, w, length-append xs (y ∷ []))

whole_more : (t : Typing) (e : Entry) (count : ℕ) → AreWhole t count → AreWhole (with_entry t e) (count + 1)
whole_more t e count w = record {
  facts = one_more t.facts e.fact count w.facts;
  specified = one_more t.specified e.own.specified count w.specified;
  named = one_more t.named e.own.named count w.named;
  declarators = one_more t.declarators e.own.declarator count w.declarators;
  derivations = one_more t.derivations e.own.derivations count w.derivations;
  declared = one_more t.declared e.declared count w.declared;
  parameters = one_more t.parameters e.parameters count w.parameters;
  members = one_more t.members e.members count w.members;
  layouts = one_more t.layouts e.own.layout count w.layouts;
  fixed = one_more t.fixed e.fixed count w.fixed;
  enumerated = one_more t.enumerated e.own.enumerated count w.enumerated;
  anchors = one_more t.anchors e.anchor count w.anchors;
  lines = one_more t.lines e.lines count w.lines;
  linked = one_more t.linked e.linked count w.linked;
  composites = one_more t.composites e.composite count w.composites;
  composite_parameters = one_more t.composite_parameters e.composite_parameters count w.composite_parameters;
}

-- what stands before an older entry stays, and before the newest stand all
shorter : {A : Type 0} → (xs : List A) (y : A) (i count : ℕ) → length xs ≡ count → i ≤ count → take i (xs ++ y ∷ []) ≡ take i xs
shorter xs y i count w low = take-append-le i xs (y ∷ []) (omega (arith, w, low))

cut_older : (t : Typing) (e : Entry) (i count : ℕ) → AreWhole t count → i ≤ count → cut i (with_entry t e) ≡ cut i t
cut_older t e i count w low = λ s. record {
  facts = shorter t.facts e.fact i count w.facts low s;
  specified = shorter t.specified e.own.specified i count w.specified low s;
  named = shorter t.named e.own.named i count w.named low s;
  declarators = shorter t.declarators e.own.declarator i count w.declarators low s;
  derivations = shorter t.derivations e.own.derivations i count w.derivations low s;
  declared = shorter t.declared e.declared i count w.declared low s;
  parameters = shorter t.parameters e.parameters i count w.parameters low s;
  members = shorter t.members e.members i count w.members low s;
  layouts = shorter t.layouts e.own.layout i count w.layouts low s;
  fixed = shorter t.fixed e.fixed i count w.fixed low s;
  enumerated = shorter t.enumerated e.own.enumerated i count w.enumerated low s;
  anchors = shorter t.anchors e.anchor i count w.anchors low s;
  lines = shorter t.lines e.lines i count w.lines low s;
  linked = shorter t.linked e.linked i count w.linked low s;
  composites = shorter t.composites e.composite i count w.composites low s;
  composite_parameters = shorter t.composite_parameters e.composite_parameters i count w.composite_parameters low s;
}

cut_newest : (t : Typing) (e : Entry) (count : ℕ) → AreWhole t count → cut count (with_entry t e) ≡ t
cut_newest t e count w = λ s. record {
  facts = take_at t.facts (e.fact ∷ []) count w.facts s;
  specified = take_at t.specified (e.own.specified ∷ []) count w.specified s;
  named = take_at t.named (e.own.named ∷ []) count w.named s;
  declarators = take_at t.declarators (e.own.declarator ∷ []) count w.declarators s;
  derivations = take_at t.derivations (e.own.derivations ∷ []) count w.derivations s;
  declared = take_at t.declared (e.declared ∷ []) count w.declared s;
  parameters = take_at t.parameters (e.parameters ∷ []) count w.parameters s;
  members = take_at t.members (e.members ∷ []) count w.members s;
  layouts = take_at t.layouts (e.own.layout ∷ []) count w.layouts s;
  fixed = take_at t.fixed (e.fixed ∷ []) count w.fixed s;
  enumerated = take_at t.enumerated (e.own.enumerated ∷ []) count w.enumerated s;
  anchors = take_at t.anchors (e.anchor ∷ []) count w.anchors s;
  lines = take_at t.lines (e.lines ∷ []) count w.lines s;
  linked = take_at t.linked (e.linked ∷ []) count w.linked s;
  composites = take_at t.composites (e.composite ∷ []) count w.composites s;
  composite_parameters = take_at t.composite_parameters (e.composite_parameters ∷ []) count w.composite_parameters s;
}

older : {A : Type 0} → (xs : List A) (y d : A) (i count : ℕ) → length xs ≡ count → i < count
    → slice_index_or (xs ++ y ∷ []) i d ≡ slice_index_or xs i d
older xs y d i count w low = get_or-append xs (y ∷ []) d i (omega (arith, w, low))

pub entry_older : (t : Typing) (e : Entry) (i count : ℕ) → AreWhole t count → i < count → entry_at (with_entry t e) i ≡ entry_at t i
entry_older t e i count w low = λ s. record {
  fact = older t.facts e.fact no_fact i count w.facts low s;
  own = record {
    specified = older t.specified e.own.specified nothing i count w.specified low s;
    declarator = older t.declarators e.own.declarator name_alone i count w.declarators low s;
    derivations = older t.derivations e.own.derivations 0 i count w.derivations low s;
    named = older t.named e.own.named 0 i count w.named low s;
    layout = older t.layouts e.own.layout layouts.nothing i count w.layouts low s;
    enumerated = older t.enumerated e.own.enumerated None i count w.enumerated low s;
  };
  declared = older t.declared e.declared Unclear i count w.declared low s;
  parameters = older t.parameters e.parameters [] i count w.parameters low s;
  members = older t.members e.members [] i count w.members low s;
  fixed = older t.fixed e.fixed false i count w.fixed low s;
  anchor = older t.anchors e.anchor Moving i count w.anchors low s;
  lines = older t.lines e.lines [] i count w.lines low s;
  linked = older t.linked e.linked None i count w.linked low s;
  composite = older t.composites e.composite 0 i count w.composites low s;
  composite_parameters = older t.composite_parameters e.composite_parameters [] i count w.composite_parameters low s;
}

newest : {A : Type 0} → (xs : List A) (y d : A) (count : ℕ) → length xs ≡ count → slice_index_or (xs ++ y ∷ []) count d ≡ y
newest xs y d count w = subst (λ n. slice_index_or (xs ++ y ∷ []) n d ≡ y) w (get_or-append_seam xs y [] d)

pub entry_newest : (t : Typing) (e : Entry) (count : ℕ) → AreWhole t count → entry_at (with_entry t e) count ≡ e
entry_newest t e count w = λ s. record {
  fact = newest t.facts e.fact no_fact count w.facts s;
  own = record {
    specified = newest t.specified e.own.specified nothing count w.specified s;
    declarator = newest t.declarators e.own.declarator name_alone count w.declarators s;
    derivations = newest t.derivations e.own.derivations 0 count w.derivations s;
    named = newest t.named e.own.named 0 count w.named s;
    layout = newest t.layouts e.own.layout layouts.nothing count w.layouts s;
    enumerated = newest t.enumerated e.own.enumerated None count w.enumerated s;
  };
  declared = newest t.declared e.declared Unclear count w.declared s;
  parameters = newest t.parameters e.parameters [] count w.parameters s;
  members = newest t.members e.members [] count w.members s;
  fixed = newest t.fixed e.fixed false count w.fixed s;
  anchor = newest t.anchors e.anchor Moving count w.anchors s;
  lines = newest t.lines e.lines [] count w.lines s;
  linked = newest t.linked e.linked None count w.linked s;
  composite = newest t.composites e.composite 0 count w.composites s;
  composite_parameters = newest t.composite_parameters e.composite_parameters [] count w.composite_parameters s;
}

-- ---- entries behind the last

abbrev pub no_entry : Entry
no_entry = entry_at nothing_typed 0

past : {A : Type 0} → (xs : List A) (y d : A) (i count : ℕ) → length xs ≡ count → count < i → slice_index_or (xs ++ y ∷ []) i d ≡ d
past xs y d i count w high = get_or_past (xs ++ y ∷ []) i d (omega (arith, high, w, length-append xs (y ∷ [])))

pub entry_past : (t : Typing) (e : Entry) (i count : ℕ) → AreWhole t count → count < i → entry_at (with_entry t e) i ≡ no_entry
entry_past t e i count w high = λ s. record {
  fact = past t.facts e.fact no_fact i count w.facts high s;
  own = record {
    specified = past t.specified e.own.specified nothing i count w.specified high s;
    declarator = past t.declarators e.own.declarator name_alone i count w.declarators high s;
    derivations = past t.derivations e.own.derivations 0 i count w.derivations high s;
    named = past t.named e.own.named 0 i count w.named high s;
    layout = past t.layouts e.own.layout layouts.nothing i count w.layouts high s;
    enumerated = past t.enumerated e.own.enumerated None i count w.enumerated high s;
  };
  declared = past t.declared e.declared Unclear i count w.declared high s;
  parameters = past t.parameters e.parameters [] i count w.parameters high s;
  members = past t.members e.members [] i count w.members high s;
  fixed = past t.fixed e.fixed false i count w.fixed high s;
  anchor = past t.anchors e.anchor Moving i count w.anchors high s;
  lines = past t.lines e.lines [] i count w.lines high s;
  linked = past t.linked e.linked None i count w.linked high s;
  composite = past t.composites e.composite 0 i count w.composites high s;
  composite_parameters = past t.composite_parameters e.composite_parameters [] i count w.composite_parameters high s;
}

no_entry_within : (shapes : List Shape) → 0 < length shapes → IsWithin shapes no_entry
no_entry_within shapes room = record {
  fact = room;
  derivations = room;
  named = room;
  declared = omega arith;
  parameters = λ k low. absurd (let x : ⊥ = omega (arith, low) in x);
  members = λ k low. absurd (let x : ⊥ = omega (arith, low) in x);
  lines = tt;
  composite = room;
  composite_parameters = λ k low. absurd (let x : ⊥ = omega (arith, low) in x);
}

entry_within : (new : List Shape) (t : Typing) (e : Entry) (count p : ℕ) → AreWhole t count → AreWithin new t → IsWithin new e
    → IsWithin new (entry_at (with_entry t e) p)
entry_within new t e count p w h within = elim (cases_lt p count) [
  | inl low ↦ subst (IsWithin new) (sym (entry_older t e p count w low)) (h.each p)
  | inr high ↦ elim (cases_eq p count) [
    | inl is ↦ subst (λ n. IsWithin new (entry_at (with_entry t e) n)) (sym is) (subst (IsWithin new) (sym (entry_newest t e count w)) within)
    | inr ne ↦ subst (IsWithin new) (sym (entry_past t e p count w (omega (arith, high, ne)))) (no_entry_within new h.facts.room)
  ]
]

all_within : (new : List Shape) (t : Typing) (e : Entry) (count : ℕ) → AreWhole t count → AreWithin new t → IsWithin new e
    → AreWithin new (with_entry t e)
all_within new t e count w h within = record {
  facts = record {
    room = h.facts.room;
    first = h.facts.first;
    rows = λ p. (entry_within new t e count p w h within).fact;
  };
  each = λ p. entry_within new t e count p w h within;
}

-- ---- so many nodes

-- one of the first nodes breaks it
pub record IsBrokenBelow (u : Tree) (texts : List (List ℕ)) (shapes : List Shape) (t : Typing) (bound : ℕ) (b : Break) : Type 0 where
  pub node : ℕ
  pub low : node < bound
  pub among : IsNodeBreak u texts shapes (cut node t) (entry_at t node) node (slice_get u.nodes.now node) b

-- for whatever the table grows to
pub record AreChecked (u : Tree) (texts : List (List ℕ)) (shapes : List Shape) (t : Typing) (broken : Option Break) (count : ℕ) : Type 0 where
  pub low : count ≤ length u.nodes.now
  pub whole : AreWhole t count
  pub within : AreWithin shapes t
  pub ruled : (later : List Shape) → Grows shapes later → (i : ℕ) → i < count
      → IsRuledIf u texts later (cut i t) (entry_at t i) i (slice_get u.nodes.now i)
  pub first : (later : List Shape) → Grows shapes later → IsFirst (IsBrokenBelow u texts later t count) broken

ruled_more : (u : Tree) (texts : List (List ℕ)) (later : List Shape) (t : Typing) (e : Entry) (count : ℕ) → AreWhole t count
    → ((i : ℕ) → i < count → IsRuledIf u texts later (cut i t) (entry_at t i) i (slice_get u.nodes.now i))
    → IsRuledIf u texts later t e count (slice_get u.nodes.now count) → (i : ℕ) → i < count + 1
    → IsRuledIf u texts later (cut i (with_entry t e)) (entry_at (with_entry t e) i) i (slice_get u.nodes.now i)
ruled_more u texts later t e count w before last i low = elim (cases_lt i count) [
  | inl l ↦
      let n = slice_get u.nodes.now i in
      subst (λ x. IsRuledIf u texts later x (entry_at (with_entry t e) i) i n) (sym (cut_older t e i count w (omega (arith, l))))
      (subst (λ y. IsRuledIf u texts later (cut i t) y i n) (sym (entry_older t e i count w l)) (before i l))
  | inr high ↦
      let is : count ≡ i = omega (arith, low, high) in
      subst (λ k. IsRuledIf u texts later (cut k (with_entry t e)) (entry_at (with_entry t e) k) k (slice_get u.nodes.now k)) is
      (subst (λ x. IsRuledIf u texts later x (entry_at (with_entry t e) count) count (slice_get u.nodes.now count)) (sym (cut_newest t e count w))
      (subst (λ y. IsRuledIf u texts later t y count (slice_get u.nodes.now count)) (sym (entry_newest t e count w)) last))
]

-- the breaks of an older node, and those of the newest
break_older : (u : Tree) (texts : List (List ℕ)) (later : List Shape) (t : Typing) (e : Entry) (i count : ℕ) → AreWhole t count → i < count
    → IsNodeBreak u texts later (cut i (with_entry t e)) (entry_at (with_entry t e) i) i (slice_get u.nodes.now i)
    ≡ IsNodeBreak u texts later (cut i t) (entry_at t i) i (slice_get u.nodes.now i)
break_older u texts later t e i count w l =
    ap (λ x. IsNodeBreak u texts later x (entry_at (with_entry t e) i) i (slice_get u.nodes.now i)) (cut_older t e i count w (omega (arith, l)))
    ∙ ap (λ y. IsNodeBreak u texts later (cut i t) y i (slice_get u.nodes.now i)) (entry_older t e i count w l)

break_newest : (u : Tree) (texts : List (List ℕ)) (later : List Shape) (t : Typing) (e : Entry) (count : ℕ) → AreWhole t count
    → IsNodeBreak u texts later (cut count (with_entry t e)) (entry_at (with_entry t e) count) count (slice_get u.nodes.now count)
    ≡ IsNodeBreak u texts later t e count (slice_get u.nodes.now count)
break_newest u texts later t e count w =
    ap (λ x. IsNodeBreak u texts later x (entry_at (with_entry t e) count) count (slice_get u.nodes.now count)) (cut_newest t e count w)
    ∙ ap (λ y. IsNodeBreak u texts later t y count (slice_get u.nodes.now count)) (entry_newest t e count w)

first_more : (u : Tree) (texts : List (List ℕ)) (later : List Shape) (t : Typing) (e : Entry) (first broken : Option Break) (count : ℕ)
    → AreWhole t count
    → broken ≡ lesser (first_of (expression_faults u texts later t e count (slice_get u.nodes.now count)))
    (lesser (first_of (declaration_faults u later t e count (slice_get u.nodes.now count)))
    (lesser (first_of (initialiser_faults u later t e count (slice_get u.nodes.now count)))
    (first_of (linked_faults u later t e count (slice_get u.nodes.now count)))))
    → IsFirst (IsBrokenBelow u texts later t count) first → IsFirst (IsBrokenBelow u texts later (with_entry t e) (count + 1)) (lesser first broken)
first_more u texts later t e first broken count w is so_far =
    let xs = expression_faults u texts later t e count (slice_get u.nodes.now count) in
    let ys = declaration_faults u later t e count (slice_get u.nodes.now count) in
    let zs = initialiser_faults u later t e count (slice_get u.nodes.now count) in
    let ws = linked_faults u later t e count (slice_get u.nodes.now count) in
    let here : IsFirst (IsNodeBreak u texts later t e count (slice_get u.nodes.now count)) broken =
    subst (IsFirst (λ b. IsAmong xs b ⊎ (IsAmong ys b ⊎ (IsAmong zs b ⊎ IsAmong ws b)))) (sym is)
    (joined (IsAmong xs) (λ b. IsAmong ys b ⊎ (IsAmong zs b ⊎ IsAmong ws b)) (first_of xs) (lesser (first_of ys) (lesser (first_of zs) (first_of ws)))
    (first_among xs)
    (joined (IsAmong ys) (λ b. IsAmong zs b ⊎ IsAmong ws b) (first_of ys) (lesser (first_of zs) (first_of ws)) (first_among ys)
    (joined (IsAmong zs) (IsAmong ws) (first_of zs) (first_of ws) (first_among zs) (first_among ws)))) in
    same_first (λ b. IsBrokenBelow u texts later t count b ⊎ IsNodeBreak u texts later t e count (slice_get u.nodes.now count) b)
    (IsBrokenBelow u texts later (with_entry t e) (count + 1)) (lesser first broken)
    (λ b x. elim x [
      | inl p ↦ record {
        node = p.node;
        low = let l = p.low in omega (arith, l);
        among = subst (λ P. P b) (sym (break_older u texts later t e p.node count w p.low)) p.among;
      }
      | inr q ↦ record { node = count; low = omega arith; among = subst (λ P. P b) (sym (break_newest u texts later t e count w)) q }
    ])
    (λ b x. elim (cases_lt x.node count) [
      | inl l ↦ inl (record {
        node = x.node;
        low = l;
        among = subst (λ P. P b) (break_older u texts later t e x.node count w l) x.among;
      })
      | inr high ↦
          let l = x.low in
          let same : x.node ≡ count = omega (arith, l, high) in
          let moved = subst (λ k. IsNodeBreak u texts later (cut k (with_entry t e)) (entry_at (with_entry t e) k) k (slice_get u.nodes.now k) b)
          same x.among in
          inr (subst (λ P. P b) (break_newest u texts later t e count w) moved)
    ])
    (joined (IsBrokenBelow u texts later t count) (IsNodeBreak u texts later t e count (slice_get u.nodes.now count)) first broken so_far here)

pub next : (u : Tree) (texts : List (List ℕ)) (old new : List Shape) (t : Typing) (e : Entry) (first broken : Option Break) (count : ℕ)
    → AreChecked u texts old t first count → count < length u.nodes.now → Grows old new → IsWithin new e
    → ((later : List Shape) → Grows new later → IsRuledIf u texts later t e count (slice_get u.nodes.now count))
    → ((later : List Shape) → Grows new later → broken ≡ lesser (first_of (expression_faults u texts later t e count (slice_get u.nodes.now count)))
    (lesser (first_of (declaration_faults u later t e count (slice_get u.nodes.now count)))
    (lesser (first_of (initialiser_faults u later t e count (slice_get u.nodes.now count)))
    (first_of (linked_faults u later t e count (slice_get u.nodes.now count))))))
    → AreChecked u texts new (with_entry t e) (lesser first broken) (count + 1)
next u texts old new t e first broken count h low grows within ruled is = record {
  low = omega (arith, low);
  whole = whole_more t e count h.whole;
  within = all_within new t e count h.whole (all_kept old new t grows h.within) within;
  ruled = λ later on. ruled_more u texts later t e count h.whole (h.ruled later (grows_on old new later grows on)) (ruled later on);
  first = λ later on. first_more u texts later t e first broken count h.whole (is later on) (h.first later (grows_on old new later grows on));
}

pub none_yet : (u : Tree) (texts : List (List ℕ)) (shapes : List Shape) → IsRow shapes 0 unknown → AreChecked u texts shapes nothing_typed None 0
none_yet u texts shapes row = record {
  low = omega arith;
  whole = record {
    facts = refl;
    specified = refl;
    named = refl;
    declarators = refl;
    derivations = refl;
    declared = refl;
    parameters = refl;
    members = refl;
    layouts = refl;
    fixed = refl;
    enumerated = refl;
    anchors = refl;
    lines = refl;
    linked = refl;
    composites = refl;
    composite_parameters = refl;
  };
  within = record {
    facts = record { room = row.within; first = row.is; rows = λ p. row.within };
    each = λ p. no_entry_within shapes row.within;
  };
  ruled = λ later on i low. absurd (let x : ⊥ = omega (arith, low) in x);
  first = λ later on b x. absurd (let l = x.low in let y : ⊥ = omega (arith, l) in y);
}

itself : (shapes : List Shape) → Grows shapes shapes
itself shapes = record { longer = omega arith; keeps = λ row low. refl }

-- nothing is behind the nodes
ruled_past : (u : Tree) (texts : List (List ℕ)) (shapes : List Shape) (t : Typing) (e : Entry) (i : ℕ) → length u.nodes.now ≤ i
    → IsRuledIf u texts shapes t e i (slice_get u.nodes.now i)
ruled_past u texts shapes t e i high = subst (IsRuledIf u texts shapes t e i) (sym (slice_get_past u.nodes.now i high)) tt

pub all_typed : (u : Tree) (texts : List (List ℕ)) (shapes : List Shape) (t : Typing) (first : Option Break) (count : ℕ)
    → AreChecked u texts shapes t first count → length u.nodes.now ≤ count → IsTyping u texts shapes t
all_typed u texts shapes t first count h all = record {
  none = h.within.facts.first;
  whole = let low = h.low in subst (AreWhole t) (omega (arith, low, all)) h.whole;
  each = λ i. elim (cases_lt i count) [
    | inl low ↦ h.ruled shapes (itself shapes) i low
    | inr high ↦ ruled_past u texts shapes (cut i t) (entry_at t i) i (omega (arith, all, high))
  ];
}

pub no_break : (u : Tree) (texts : List (List ℕ)) (shapes : List Shape) (t : Typing) (e : Entry) (i : ℕ) (b : Break)
    → IsNodeBreak u texts shapes t e i None b → ⊥
no_break u texts shapes t e i b x = elim x [ inl y ↦ y | inr z ↦ elim z [ inl v ↦ v | inr w ↦ elim w [ inl p ↦ p | inr q ↦ q ] ] ]

pub first_of_all : (u : Tree) (texts : List (List ℕ)) (shapes : List Shape) (t : Typing) (first : Option Break) (count : ℕ)
    → AreChecked u texts shapes t first count → length u.nodes.now ≤ count → IsFirst (IsBroken u texts shapes t) first
first_of_all u texts shapes t first count h all =
    same_first (IsBrokenBelow u texts shapes t count) (IsBroken u texts shapes t) first
    (λ b x. record { node = x.node; among = x.among })
    (λ b x. elim (cases_lt x.node count) [
      | inl low ↦ record { node = x.node; low = low; among = x.among }
      | inr high ↦ absurd (no_break u texts shapes (cut x.node t) (entry_at t x.node) x.node b
          (subst (λ n. IsNodeBreak u texts shapes (cut x.node t) (entry_at t x.node) x.node n b)
          (slice_get_past u.nodes.now x.node (omega (arith, all, high))) x.among))
    ])
    (h.first shapes (itself shapes))
