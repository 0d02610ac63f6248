-- Each initialiser of an object is put somewhere, where no list has too many and each has a type; so each is judged (C11 6.7.9p2, p4).
use Rattle.std.proofs.Common.{◌≡◌, ℕ, zero, suc, ◌<◌, ◌≤◌, ◌==◌, Bool, true, false, ◌&&◌, ◌||◌, not, List, [], ◌∷◌, ◌++◌, Option, None, Some, slice_get, slice_index_or, inl, inr, refl, sym, subst, ap, ◌∙◌, arith, if◌then◌else◌}
use Rattle.std.proofs.lemmas.Bool.{false≢true, or_left, or_right, lt-ltb, eqb-true, eq-eqb}
use Rattle.std.proofs.lemmas.List.{get_or-take}
use Rattle.cr_syntax.specs.declared.ctype.CType.{CType}
use Rattle.cr_syntax.specs.declared.ctype.CType.TheVariants.{Void, Int, Struct, Unknown}
use Rattle.cr_syntax.specs.declared.node.Kind.{Kind}
use Rattle.cr_syntax.specs.declared.node.Kind.TheVariants as kind
use Rattle.cr_syntax.specs.declared.node.Node.{Node}
use Rattle.cr_check_constants.specs.declared.constant.Constant.{Constant}
use Rattle.cr_check_types.specs.declared.layout.Layout.{Layout}
use Rattle.cr_check_types.specs.declared.shape.Shape.{Shape}
use Rattle.cr_check_types.specs.Types.{Qualified, plain, pointer, array, type_at}
use Rattle.cr_check_operands.specs.Values.{structure, plain_value, value_in, value_beside_places, Seen, seen_at, value_of_seen}
use Rattle.cr_check_operands.specs.Rules.{assignable}
use Rattle.cr_check_expressions.specs.declared.least.Break.{Break}
use Rattle.cr_check_expressions.specs.Breaks.{fault, IsAmong}
use Rattle.cr_check_expressions.specs.Ruled.{is_type, is_typed, no_fact, facts_at}
use Rattle.cr_check_declarations.specs.declared.tree.Tree.{Tree}
use Rattle.cr_check_initialisers.specs.declared.anchor.Anchor.TheVariants.{Moving}
use Rattle.cr_check_initialisers.specs.Anchors.{is_value, is_address}
use Rattle.cr_check_initialisers.specs.Known.{Known, is_list, is_list_if, parts_if}
use Rattle.cr_check_initialisers.specs.Places.{Place, object, laid, types_of_object, is_char, is_unknown, takes, is_structure, is_lost, opens}
use Rattle.cr_check_initialisers.specs.Plans.{Entry, put, excess, count_in, Fills, ends, exceeds, braces, whole, elided, loses, IsPlan, by_expression, by_list, entries_of}
use Rattle.cr_check_initialisers.specs.Faults.{has_room, is_badly_typed, is_bad_literal, is_constant, is_varying, faults_of, plan_faults}
use Rattle.cr_check_initialised.specs.Anchors.{anchor_at}
use Rattle.cr_check_initialised.specs.Durations.{is_static}
use Rattle.cr_check_initialised.specs.Initialised.{Planned, planned_in, planned_if, is_planned, planned_by, named_first, IsFilled}
use Rattle.cr_check_initialised.specs.Faults.{faults_in, equals_before}
use Rattle.cr_check_unit.specs.declared.typing.Typing.{Typing}
use Rattle.cr_check_unit.specs.Typing.{cut, entry_at, before_in, known_in, object_in, own_named, seen_type, IsRuled, IsRuledIf, IsTyping}
use Rattle.cr_check_linkage.specs.NameTypes.{type_or}
use Rattle.cr_check_unit.specs.Breaks.{IsNodeBreak, IsBroken}
use Rattle.cr_check_constant_values.specs.Anchored.Anchored.{is_made, is_placed, is_anchored, Initialises, itself, listed}
use Rattle.cr_check_constant_values.specs.Anchored.Laws
use Rattle.cr_check_constant_values.proofs.AnchoredLemmas.Anchoring.{address_placed, value_is_made, one_of}

-- ---- faults that aren't there

abbrev HoldsAll : List (Option Break) → Type 0
HoldsAll faults = (b : Break) → IsAmong faults b → ⊥

unbroken : (row token : ℕ) (b : Bool) (rest : List (Option Break)) → HoldsAll (fault row token b ∷ rest) → b ≡ false
unbroken row token true rest h = absurd (h (record { token = token; row = row }) (inl refl))
unbroken row token false rest h = refl

among_right : (b : Break) (one other : List (Option Break)) → IsAmong other b → IsAmong (one ++ other) b
among_right b [] other h = h
among_right b (x ∷ one) other h = inr (among_right b one other h)

among_left : (b : Break) (one other : List (Option Break)) → IsAmong one b → IsAmong (one ++ other) b
among_left b [] other h = absurd h
among_left b (x ∷ one) other (inl e) = inl e
among_left b (x ∷ one) other (inr h) = inr (among_left b one other h)

-- ---- entries of which something holds

module _ (Good : Entry → Type 0) where
  abbrev AreGood : List Entry → Type 0
  AreGood [] = Unit {0}
  AreGood (x ∷ xs) = Good x × AreGood xs

  good_left : (xs ys : List Entry) → AreGood (xs ++ ys) → AreGood xs
  good_left [] ys h = tt
  good_left (x ∷ xs) ys h = (h.0, good_left xs ys h.1)

  good_last : (xs : List Entry) (x : Entry) → AreGood (xs ++ x ∷ []) → Good x
  good_last [] x h = h.0
  good_last (y ∷ xs) x h = good_last xs x h.1

  -- what holds of all entries held of those before them
  earlier : {k : Known} {ps : List Place} {b : ℕ} {is : List ℕ} {xs ys : List Entry} → Fills k ps b is xs ys → AreGood ys → AreGood xs
  earlier ends h = h
  earlier {xs = xs} (exceeds {b = b}) h = good_left xs (excess b ∷ []) h
  earlier (braces o inner rest) h = earlier inner (earlier rest h)
  earlier {xs = xs} (whole {p = p} {b = b} {i = i} o takes rest) h = good_left xs (put p i b ∷ []) (earlier rest h)
  earlier (elided o takes lost rest) h = earlier rest h
  earlier {xs = xs} (loses {p = p} {b = b} {i = i} o takes lost) h = good_left xs (put p i b ∷ []) h

  record IsFilledBy (k : Known) (list : ℕ) : Type 0 where
    places : List Place
    before : List Entry
    behind : List Entry
    fills : Fills k places list (k.initialisers list) before behind
    good : AreGood behind

  record IsJudged (i : ℕ) : Type 0 where
    place : Place
    user : ℕ
    good : Good (put place i user)

  module _ (k : Known) (Worth : ℕ → Type 0) (no_excess : (b : ℕ) → Good (excess b) → ⊥)
      (not_lost : (p : Place) (i b : ℕ) → Worth i → Good (put p i b) → takes k p.type i ≡ false → is_lost k p.type i ≡ true → ⊥) where
    abbrev IsCovered : ℕ → ℕ → Type 0
    IsCovered b i = (opens k b i ≡ true → IsFilledBy k i) × (opens k b i ≡ false → IsJudged i)

    abbrev AreWorth : ℕ → List ℕ → Type 0
    AreWorth b is = (m i : ℕ) → slice_get is m ≡ Some i → opens k b i ≡ false → Worth i

    behind_first : (b i : ℕ) (is : List ℕ) → AreWorth b (i ∷ is) → AreWorth b is
    behind_first b i is w m j e o = w (suc m) j e o

    -- each initialiser of a list has been put somewhere
    covered : {ps : List Place} {b : ℕ} {is : List ℕ} {xs ys : List Entry} → Fills k ps b is xs ys → AreGood ys → AreWorth b is → (m i : ℕ) → slice_get is m ≡ Some i → IsCovered b i
    covered ends h w m i e = absurd cc
    covered {xs = xs} (exceeds {b = b}) h w m i e = absurd (no_excess b (good_last xs (excess b) h))
    covered {b = b} (braces {i = j} o inner rest) h w zero i e =
        let same : j ≡ i = cc in
        subst (IsCovered b) same (
          λ x. record { places = _; before = _; behind = _; fills = inner; good = earlier rest h },
          λ x. absurd (false≢true (sym x ∙ o)),
        )
    covered {b = b} (braces {i = j} {is = is} o inner rest) h w (suc m) i e = covered rest h (behind_first b j is w) m i e
    covered {b = b} {xs = xs} (whole {p = p} {i = j} o takes rest) h w zero i e =
        let same : j ≡ i = cc in
        subst (IsCovered b) same (
          λ x. absurd (false≢true (sym o ∙ x)),
          λ x. record { place = p; user = b; good = good_last xs (put p j b) (earlier rest h) },
        )
    covered {b = b} (whole {i = j} {is = is} o takes rest) h w (suc m) i e = covered rest h (behind_first b j is w) m i e
    covered (elided o takes lost rest) h w m i e = covered rest h w m i e
    covered {b = b} {xs = xs} (loses {p = p} {i = j} o takes lost) h w m i e = absurd (not_lost p j b (w 0 j refl o) (good_last xs (put p j b) h) takes lost)

-- ---- an expression of which it isn't known what it initialises breaks a constraint

is_same : (n m : ℕ) → (m == n) ≡ false → (n == m) ≡ false
is_same n m e = by (n == m) refl
  where
    by : (c : Bool) → (n == m) ≡ c → c ≡ false
    by false f = refl
    by true f = absurd (false≢true (sym e ∙ eq-eqb m n (sym (eqb-true n m f))))

other_plain : (n : ℕ) (of : CType) (c v : Bool) (k : Constant) → is_structure n (plain of c v) ≡ false → assignable (structure n) (plain_value of k) ≡ false
other_plain n (Struct m) c v k h = is_same n m h
other_plain n (Int kind) c v k h = refl
other_plain n Void c v k h = refl
other_plain n of c v k h = refl

-- a structure takes one of its own type alone
other_structure : (n : ℕ) (s : Seen) → is_structure n s.type ≡ false → assignable (structure n) (value_of_seen s) ≡ false
other_structure n s h = by s.lvalue s.type h
  where
    by : (b : Bool) (t : Qualified) → is_structure n t ≡ false → assignable (structure n) (if b then value_in t s.constant else value_beside_places t s.constant) ≡ false
    by true (plain of c v) h = other_plain n of c v s.constant h
    by true (pointer c v t) h = refl
    by true (array m t) h = refl
    by false (plain of c v) h = other_plain n of c v s.constant h
    by false (pointer c v t) h = refl
    by false (array m t) h = refl

structure_case : (unknown literal assigns : Bool) → unknown ≡ false → assigns ≡ false → (not unknown && ((not literal || false) && not assigns)) ≡ false → (literal && true) ≡ false → ⊥
structure_case true literal assigns e f h g = false≢true (sym e)
structure_case false true assigns e f h g = false≢true (sym g)
structure_case false false true e f h g = false≢true (sym f)
structure_case false false false e f h g = false≢true (sym h)

array_case : (unknown literal char room : Bool) → unknown ≡ false → (not unknown && ((not literal || false) && true)) ≡ false → (literal && not (char && room)) ≡ false → (char && literal) ≡ false → ⊥
array_case true literal char room e h g f = false≢true (sym e)
array_case false false char room e h g f = false≢true (sym h)
array_case false true true room e h g f = false≢true (sym f)
array_case false true false room e h g f = false≢true (sym g)

unlost : (k : Known) (type : Qualified) (i : ℕ) → is_unknown (k.seen i).type ≡ false → is_badly_typed k type i ≡ false → is_bad_literal k type i ≡ false → takes k type i ≡ false → is_lost k type i ≡ true → ⊥
unfolding takes is_lost
unlost k (plain (Struct n) c v) i e h g f lost = structure_case (is_unknown (k.seen i).type) (k.literal i) (assignable (structure n) (value_of_seen (k.seen i))) e (other_structure n (k.seen i) f) h g
unlost k (plain of c v) i e h g f lost = false≢true lost
unlost k (pointer c v t) i e h g f lost = false≢true lost
unlost k (array n t) i e h g f lost = array_case (is_unknown (k.seen i).type) (k.literal i) (is_char t) (has_room n (count_in (k.seen i).type)) e h g f

known_type : (t : Qualified) → is_type t ≡ true → is_unknown t ≡ false
known_type (plain Unknown c v) h = absurd (false≢true h)
known_type (plain of c v) h = refl
known_type (pointer c v t) h = refl
known_type (array n t) h = refl

-- ---- which nodes have a plan

only_initialised : (k : Kind) (layouts : List Layout) (object : Option Qualified) (parts : List ℕ) (q : Planned) → planned_by k layouts object parts ≡ Some q → k ≡ kind.InitDeclarator
only_initialised kind.InitDeclarator layouts object parts q e = refl
only_initialised k layouts object parts q e = absurd cc

second_part : (layouts : List Layout) (object : Option Qualified) (o : Option ℕ) (q : Planned) → planned_in layouts object o ≡ Some q → o ≡ Some q.initialiser
second_part layouts None o q e = absurd cc
second_part layouts (Some type) None q e = absurd cc
second_part layouts (Some type) (Some i) q e = by (is_planned layouts type) e
  where
    by : (b : Bool) → planned_if b type i ≡ Some q → Some i ≡ Some q.initialiser
    by true e = let same : record { type = type; initialiser = i } ≡ q = cc in ap (λ (p : Planned). Some p.initialiser) same
    by false e = absurd cc

-- ---- initialisers that stand in a node

module _ (nodes : List Node) (below : (i k part : ℕ) (n : Node) → slice_get nodes i ≡ Some n → slice_get n.parts k ≡ Some part → part < i) where
  up_to : {i top : ℕ} → Initialises nodes i top → i ≤ top
  up_to itself = omega arith
  up_to {i = i} (listed {part = part} {list = list} k n at is e rest) = let low = below list k part n at e in let le = up_to rest in omega (arith, low, le)

  through : {i middle top : ℕ} → Initialises nodes i middle → Initialises nodes middle top → Initialises nodes i top
  through h itself = h
  through h (listed k n at is e rest) = listed k n at is e (through h rest)

  is_listed : (list : ℕ) (n : Node) → slice_get nodes list ≡ Some n → n.kind ≡ kind.InitializerList → is_list_if (slice_get nodes list) ≡ true
  is_listed list n at is = ap is_list_if at ∙ ap is_list is

  alone : {i top : ℕ} → Initialises nodes i top → is_list_if (slice_get nodes top) ≡ false → i ≡ top
  alone itself h = refl
  alone (listed {list = list} k n at is e rest) h = absurd (false≢true (sym h ∙ is_listed list n at is))

module _ (u : Tree) (texts : List (List ℕ)) (shapes : List Shape) (t : Typing) (is : IsTyping u texts shapes t) (sound : (b : Break) → IsBroken u texts shapes t b → ⊥)
    (below : (i k part : ℕ) (n : Node) → slice_get u.nodes.now i ≡ Some n → slice_get n.parts k ≡ Some part → part < i) (d : ℕ) (q : Planned) (n : Node) (at : slice_get u.nodes.now d ≡ Some n)
    (planned : planned_by n.kind (cut d t).layouts (object_in shapes (cut d t) n) n.parts ≡ Some q) (static : is_static u (before_in shapes (cut d t)).specified (Some d) ≡ true)
    (worth : (j : ℕ) → Initialises u.nodes.now j q.initialiser → is_list_if (slice_get u.nodes.now j) ≡ false → is_typed (facts_at shapes t.facts j) ≡ true) where
  abbrev nodes : List Node
  nodes = u.nodes.now

  abbrev k : Known
  k = known_in shapes u (cut d t)

  abbrev lasts : Bool
  lasts = is_static u (before_in shapes (cut d t)).specified (Some d)

  abbrev entries : List Entry
  entries = entries_of shapes (slice_index_or t.lines d [])

  initialised : n.kind ≡ kind.InitDeclarator
  initialised = only_initialised n.kind (cut d t).layouts (object_in shapes (cut d t) n) n.parts q planned

  ruled : IsRuled u texts shapes (cut d t) (entry_at t d) d n
  ruled = subst (IsRuledIf u texts shapes (cut d t) (entry_at t d) d) at (is.each d)

  plan : IsPlan k (type_at shapes (entry_at t d).own.named) d q.initialiser entries
  plan = (subst (λ o. IsFilled k d o (named_first n.kind (object_in shapes (cut d t) n) (type_or (own_named shapes u (cut d t) (entry_at t d) d n) (seen_type shapes u (cut d t) (entry_at t d) d n)))
      (type_at shapes (entry_at t d).own.named) entries) planned ruled.filled).plan

  second : slice_get n.parts 1 ≡ Some q.initialiser
  second = second_part (cut d t).layouts (object_in shapes (cut d t) n) (slice_get n.parts 1) q
      (ap (λ c. planned_by c (cut d t).layouts (object_in shapes (cut d t) n) n.parts) (sym initialised) ∙ planned)

  low : q.initialiser < d
  low = below d 1 q.initialiser n at second

  abbrev Good : Entry → Type 0
  Good x = HoldsAll (faults_of k lasts (equals_before nodes n) x)

  good_all : (xs : List Entry) → HoldsAll (plan_faults k lasts (equals_before nodes n) xs) → AreGood Good xs
  unfolding plan_faults
  good_all [] h = tt
  good_all (x ∷ xs) h = (
    λ b a. h b (among_left b (faults_of k lasts (equals_before nodes n) x) (plan_faults k lasts (equals_before nodes n) xs) a),
    good_all xs (λ b a. h b (among_right b (faults_of k lasts (equals_before nodes n) x) (plan_faults k lasts (equals_before nodes n) xs) a)),
  )

  abbrev faults_as : Kind → List (Option Break)
  faults_as c = faults_in c k u (before_in shapes (cut d t)) (entry_at t d).own.declarator.sizeless (object_in shapes (cut d t) n) (type_at shapes (entry_at t d).own.named) entries d n

  all_hold : HoldsAll (faults_as n.kind)
  all_hold b a = sound b (record { node = d; among = subst (λ o. IsNodeBreak u texts shapes (cut d t) (entry_at t d) d o b) (sym at) (inr (inr (inl a))) })

  holds : HoldsAll (plan_faults k lasts (equals_before nodes n) entries)
  holds b among = all_hold b (subst (λ c. IsAmong (faults_as c) b) (sym initialised) (inr among))

  good : AreGood Good entries
  good = good_all entries holds

  -- ---- what a node has before the declarator is what it has

  seen_low : (i : ℕ) → i < d → k.seen i ≡ facts_at shapes t.facts i
  seen_low i less = ap (seen_at shapes) (get_or-take d t.facts i no_fact less)

  anchor_low : (i : ℕ) → i < d → k.anchor i ≡ anchor_at t.anchors i
  anchor_low i less = get_or-take d t.anchors i Moving less

  abbrev Worth : ℕ → Type 0
  Worth i = is_unknown (k.seen i).type ≡ false

  known : (j : ℕ) → Initialises nodes j q.initialiser → is_list_if (slice_get nodes j) ≡ false → Worth j
  known j inside single =
      let le = up_to nodes below inside in
      let less = low in
      known_type (k.seen j).type (ap (λ (s : Seen). is_type s.type) (seen_low j (omega (arith, le, less))) ∙ worth j inside single)

  no_excess : (b : ℕ) → Good (excess b) → ⊥
  no_excess b h = false≢true (sym (unbroken 11 (k.first b) true [] h))

  not_lost : (p : Place) (i b : ℕ) → Worth i → Good (put p i b) → takes k p.type i ≡ false → is_lost k p.type i ≡ true → ⊥
  not_lost p i b known h taken lost =
      let rest = fault 13 (k.first i) (is_bad_literal k p.type i) ∷ fault 12 (k.first i) (is_varying k lasts i) ∷ [] in
      unlost k p.type i known (unbroken 37 (equals_before nodes n) (is_badly_typed k p.type i) rest h)
      (unbroken 13 (k.first i) (is_bad_literal k p.type i) (fault 12 (k.first i) (is_varying k lasts i) ∷ []) (λ c a. h c (inr a))) taken lost

  -- ---- each initialiser is judged

  opened : (b i : ℕ) → i < b → opens k b i ≡ is_list_if (slice_get nodes i)
  unfolding opens
  opened b i less = ap (λ c. c && is_list_if (slice_get nodes i)) (lt-ltb i b less)

  abbrev Judged : ℕ → Type 0
  Judged i = IsJudged Good i

  within : (i list : ℕ) → IsFilledBy Good k list → is_list_if (slice_get nodes list) ≡ true → Initialises nodes list q.initialiser → is_list_if (slice_get nodes i) ≡ false → Initialises nodes i list → Judged i
  within i list filled lists inside single itself = absurd (false≢true (sym single ∙ lists))
  within i list filled lists inside single (listed {part = part} m x there is_l e rest) = by (is_list_if (slice_get nodes part)) refl (λ f l. within i part f l (kept m part here) single rest)
    where
      less : part < list
      less = below list m part x there e

      one : (j p : ℕ) → slice_get (k.initialisers list) j ≡ Some p → slice_get x.parts j ≡ Some p
      one j p f = sym (ap (λ o. slice_get (parts_if o) j) there) ∙ f

      kept : (j p : ℕ) → slice_get (k.initialisers list) j ≡ Some p → Initialises nodes p q.initialiser
      kept j p f = through nodes below (listed j x there is_l (one j p f) itself) inside

      worths : (j p : ℕ) → slice_get (k.initialisers list) j ≡ Some p → opens k list p ≡ false → Worth p
      worths j p f o = known p (kept j p f) (sym (opened list p (below list j p x there (one j p f))) ∙ o)

      here : slice_get (k.initialisers list) m ≡ Some part
      here = ap (λ o. slice_get (parts_if o) m) there ∙ e

      c : (opens k list part ≡ true → IsFilledBy Good k part) × (opens k list part ≡ false → Judged part)
      c = covered Good k Worth no_excess not_lost filled.fills filled.good worths m part here

      by : (b : Bool) → is_list_if (slice_get nodes part) ≡ b → (IsFilledBy Good k part → is_list_if (slice_get nodes part) ≡ true → Judged i) → Judged i
      by true l go = go (c.0 (opened list part less ∙ l)) l
      by false l go = subst Judged (sym (alone nodes below rest l)) (c.1 (opened list part less ∙ l))

  judged : (i : ℕ) → Initialises nodes i q.initialiser → is_list_if (slice_get nodes i) ≡ false → Judged i
  judged i inside single = by plan
    where
      by : IsPlan k (type_at shapes (entry_at t d).own.named) d q.initialiser entries → Judged i
      by (by_expression o e) =
          let l = sym (opened d q.initialiser low) ∙ o in
          let h = subst (AreGood Good) e good in
          subst Judged (sym (alone nodes below inside l)) (record { place = object (type_at shapes (entry_at t d).own.named); user = d; good = h.0 })
      by (by_list o f) = within i q.initialiser (record { places = laid k 0 (types_of_object k (type_at shapes (entry_at t d).own.named) (k.initialisers q.initialiser)); before = []; behind = entries; fills = f; good = good }) (sym (opened d q.initialiser low) ∙ o) itself single inside

  varies_not : (unknown fixed b : Bool) → b ≡ true → unknown ≡ false → (b && (not unknown && not fixed)) ≡ false → fixed ≡ true
  varies_not true fixed b e f h = absurd (false≢true (sym f))
  varies_not false true b e f h = refl
  varies_not false false true e f h = absurd (false≢true (sym h))
  varies_not false false false e f h = absurd (false≢true e)

  anchored : (i : ℕ) → Initialises nodes i q.initialiser → is_list_if (slice_get nodes i) ≡ false → is_anchored shapes t i ≡ true
  anchored i inside single =
      let le = up_to nodes below inside in
      let first = low in
      let less : i < d = omega (arith, le, first) in
      let j = judged i inside single in
      let free : is_varying k lasts i ≡ false = unbroken 12 (k.first i) (is_varying k lasts i) [] (λ c a. j.good c (inr (inr a))) in
      let fixed = varies_not (is_unknown (k.seen i).type) (is_constant k i) lasts static (known i inside single) free in
      elim (one_of (is_value (k.seen i).constant) (is_address (k.anchor i) (k.seen i).type) fixed) [
        | inl x ↦ or_left (is_made (facts_at shapes t.facts i).constant) (is_placed (anchor_at t.anchors i)) (ap (λ (s : Seen). is_made s.constant) (sym (seen_low i less)) ∙ value_is_made (k.seen i).constant x)
        | inr x ↦ or_right (is_made (facts_at shapes t.facts i).constant) (is_placed (anchor_at t.anchors i)) (ap is_placed (sym (anchor_low i less)) ∙ address_placed (k.anchor i) (k.seen i).type x)
      ]

pub initialisers : Laws.InitialisersAreAnchored
initialisers u texts shapes t is sound below d i q n at planned static worth inside single = anchored u texts shapes t is sound below d q n at planned static worth i inside single
