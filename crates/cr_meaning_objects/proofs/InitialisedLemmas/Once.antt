-- Each expression of an initialiser initialises one part: a node stands under one part of its list alone, and each part is read once.
use Rattle.std.proofs.Common.{◌≡◌, ℕ, zero, suc, ◌+◌, ◌<◌, ◌≤◌, ◌==◌, inl, inr, Bool, true, false, ◌||◌, List, [], ◌∷◌, ◌++◌, Option, None, Some, length, slice_get, refl, sym, subst, ap, ◌∙◌, arith}
use Rattle.std.proofs.lemmas.Bool.{false≢true, cases_lt, eqb-true, eq-eqb}
use Rattle.std.proofs.lemmas.Option.{slice_get_within}
use Rattle.cr_syntax.specs.declared.node.Node.{Node}
use Rattle.cr_check_enclosing.specs.Above.{above_of}
use Rattle.cr_check_types.specs.Types.{Qualified}
use Rattle.cr_check_initialisers.specs.Known.{Known}
use Rattle.cr_check_initialisers.specs.Places.{Place}
use Rattle.cr_check_initialisers.specs.Plans.{Entry, put, excess, Fills, ends, exceeds, braces, whole, elided, loses, IsPlan, by_expression, by_list}
use Rattle.cr_typed.specs.declared.typed.Typed.{Typed}
use Rattle.cr_meaning_operations.specs.Operations.{parts_if, parts_at}
use Rattle.cr_meaning_declarations.specs.Units.Owned.{AreOfUnit}
use Rattle.cr_meaning_declarations.proofs.NamesLemmas.Parents.{IsPartOf, part_below, above_some, weight}
use Rattle.cr_meaning_declarations.specs.Sight.Under.{is_under}
use Rattle.cr_meaning_declarations.proofs.SightLemmas.Under.{under_at, directly, not_above, outermost_outside, further}
use Rattle.cr_meaning_objects.proofs.InitialisedLemmas.Twice.{one_place}

-- ---- sums of tests

abbrev weights : (ℕ → Bool) → List ℕ → ℕ
weights test [] = 0
weights test (x ∷ xs) = weight (test x) + weights test xs

weight_few : (b : Bool) → weight b ≤ 1
weight_few true = omega arith
weight_few false = omega arith

some_weight : (test : ℕ → Bool) (xs : List ℕ) → 1 ≤ weights test xs → (m : ℕ) × ((x : ℕ) × ((slice_get xs m ≡ Some x) × (test x ≡ true)))
some_weight test [] h = absurd (omega (arith, h))
some_weight test (x ∷ xs) h = by (test x) refl (λ g. some_weight test xs g)
  where
    by : (b : Bool) → test x ≡ b → (1 ≤ weights test xs → (m : ℕ) × ((y : ℕ) × ((slice_get xs m ≡ Some y) × (test y ≡ true)))) → (m : ℕ) × ((y : ℕ) × ((slice_get (x ∷ xs) m ≡ Some y) × (test y ≡ true)))
    by true e rest = (0, (x, (refl, e)))
    by false e rest =
        let none : weight (test x) ≡ 0 = ap weight e in
        let r = rest (omega (arith, h, none)) in
        (suc r.0, (r.1.0, r.1.1))

-- where no two hold, one does at the most, and not even one where none may
weights_few : (test : ℕ → Bool) (all : Bool) (xs : List ℕ) → ((m x : ℕ) → slice_get xs m ≡ Some x → test x ≡ true → all ≡ true)
    → ((m n x y : ℕ) → m < n → slice_get xs m ≡ Some x → slice_get xs n ≡ Some y → test x ≡ true → test y ≡ true → ⊥) → weights test xs ≤ weight all
weights_few test all [] one apart = omega arith
weights_few test all (x ∷ xs) one apart = by (test x) refl (weights_few test all xs (λ m y e h. one (suc m) y e h) (λ m n y z less e f g h. apart (suc m) (suc n) y z (omega (arith, less)) e f g h))
  where
    by : (b : Bool) → test x ≡ b → weights test xs ≤ weight all → weight (test x) + weights test xs ≤ weight all
    by false e rest = let none : weight (test x) ≡ 0 = ap weight e in omega (arith, none, rest)
    by true e rest =
        let some : weight (test x) ≡ 1 = ap weight e in
        let full : weight all ≡ 1 = ap weight (one 0 x refl e) in
        elim (cases_lt 0 (weights test xs)) [
          | inl more ↦ (let r = some_weight test xs (omega (arith, more)) in absurd (apart 0 (suc r.0) x r.1.0 (omega arith) refl r.1.1.0 e r.1.1.1))
          | inr none ↦ omega (arith, some, full, none)
        ]

module _ (t : Typed) (unit : AreOfUnit t) (a : ℕ) where
  -- the node is x, or stands under it
  abbrev stands_in : ℕ → ℕ → Bool
  stands_in x i = (i == x) || is_under t x i

  module _ (b x y : ℕ) (first : IsPartOf t unit x b) (other : IsPartOf t unit y b) where
    -- no part of a node stands under another
    outside : (z w : ℕ) → IsPartOf t unit z b → IsPartOf t unit w b → stands_in w z ≡ true → z ≡ w
    outside z w g h e = by (z == w) refl e
      where
        low : w < b
        low = part_below t unit w b h

        above : is_under t w z ≡ ((b == w) || is_under t w b)
        above = under_at t unit w z b g

        never : ((b == w) || is_under t w b) ≡ true → z ≡ w
        never e = of_test (b == w) refl e
          where
            of_test : (c : Bool) → (b == w) ≡ c → (c || is_under t w b) ≡ true → z ≡ w
            of_test true f e = let same = eqb-true b w f in absurd (omega (arith, low, same))
            of_test false f e = absurd (false≢true (sym (not_above t unit w b (omega (arith, low))) ∙ e))

        by : (c : Bool) → (z == w) ≡ c → (c || is_under t w z) ≡ true → z ≡ w
        by true f e = eqb-true z w f
        by false f e = never (sym above ∙ e)

    -- so what stands in both stands in one: where it is neither, the node above it does too
    step : (i : ℕ) → ((c : ℕ) → i < c → c < length t.nodes → stands_in x c ≡ true → stands_in y c ≡ true → x ≡ y) → stands_in x i ≡ true → stands_in y i ≡ true → x ≡ y
    step i rest f g = by (i == x) (i == y) refl refl f g
      where
        up : (o : Option ℕ) → above_of t.nodes (length t.nodes) i ≡ o → is_under t x i ≡ true → is_under t y i ≡ true → x ≡ y
        up None q f g = absurd (false≢true (sym (outermost_outside t unit x i q) ∙ f))
        up (Some c) q f g =
            let h = above_some t unit (length t.nodes) i c q in
            rest c (part_below t unit i c h) (slice_get_within t.nodes c h.parent h.at) (sym (under_at t unit x i c h) ∙ f) (sym (under_at t unit y i c h) ∙ g)

        by : (p q : Bool) → (i == x) ≡ p → (i == y) ≡ q → (p || is_under t x i) ≡ true → (q || is_under t y i) ≡ true → x ≡ y
        by true q e d f g = let same = eqb-true i x e in outside x y first other (subst (λ z. stands_in y z ≡ true) same (ap (λ c. c || is_under t y i) d ∙ g))
        by false true e d f g = let same = eqb-true i y d in sym (outside y x other first (subst (λ z. stands_in x z ≡ true) same (ap (λ c. c || is_under t x i) e ∙ f)))
        by false false e d f g = up (above_of t.nodes (length t.nodes) i) refl f g

    one_by : (m i : ℕ) → length t.nodes ≤ m + i → stands_in x i ≡ true → stands_in y i ≡ true → x ≡ y
    one_by zero i high f g = step i (λ c low within p q. absurd (omega (arith, low, within, high))) f g
    one_by (suc m) i high f g = step i (λ c low within p q. one_by m c (omega (arith, low, high)) p q) f g

    one : (i : ℕ) → stands_in x i ≡ true → stands_in y i ≡ true → x ≡ y
    one i f g = one_by (length t.nodes) i (omega arith) f g

  -- ---- the parts of a node

  part_of : (i m x : ℕ) → slice_get (parts_at t i) m ≡ Some x → IsPartOf t unit x i
  part_of i m x e = by (slice_get t.nodes i) refl e
    where
      by : (o : Option Node) → slice_get t.nodes i ≡ o → slice_get (parts_if o) m ≡ Some x → IsPartOf t unit x i
      by None at e = absurd (none e)
        where
          none : slice_get [] m ≡ Some x → ⊥
          none f = cc f
      by (Some n) at e = record { parent = n; at = at; place = m; is = e }

  up_one : (x i : ℕ) → IsPartOf t unit x i → stands_in x a ≡ true → is_under t i a ≡ true
  up_one x i h e = by (a == x) refl e
    where
      by : (c : Bool) → (a == x) ≡ c → (c || is_under t x a) ≡ true → is_under t i a ≡ true
      by true f e = subst (λ z. is_under t i z ≡ true) (sym (eqb-true a x f)) (directly t unit i x h)
      by false f e = further t unit a x i e h

  parts_few : (i : ℕ) → weights (λ x. stands_in x a) (parts_at t i) ≤ weight (is_under t i a)
  parts_few i =
      weights_few (λ x. stands_in x a) (is_under t i a) (parts_at t i) (λ m x e h. up_one x i (part_of i m x e) h)
      (λ m n x y less e f g h. both m n x y less e f (one i x y (part_of i m x e) (part_of i n y f) a g h))
    where
      both : (m n x y : ℕ) → m < n → slice_get (parts_at t i) m ≡ Some x → slice_get (parts_at t i) n ≡ Some y → x ≡ y → ⊥
      both m n x y less e f same = of_node (slice_get t.nodes i) refl e f
        where
          of_node : (o : Option Node) → slice_get t.nodes i ≡ o → slice_get (parts_if o) m ≡ Some x → slice_get (parts_if o) n ≡ Some y → ⊥
          of_node None at e f = none e
            where
              none : slice_get [] m ≡ Some x → ⊥
              none g = cc g
          of_node (Some own) at e f = one_place t unit i m n x own at e (f ∙ ap Some (sym same)) less

  -- ---- what is put

  abbrev puts : Entry → ℕ
  puts (put p i b) = weight (a == i)
  puts (excess b) = 0

  abbrev all_puts : List Entry → ℕ
  all_puts [] = 0
  all_puts (x ∷ xs) = puts x + all_puts xs

  one_more : (xs : List Entry) (x : Entry) → all_puts (xs ++ x ∷ []) ≡ all_puts xs + puts x
  one_more [] x = omega arith
  one_more (y ∷ xs) x = let rest = one_more xs x in omega (arith, rest)

  own_weight : (i : ℕ) → weight (a == i) ≤ weight (stands_in i a)
  own_weight i = by (a == i) (is_under t i a)
    where
      by : (b c : Bool) → weight b ≤ weight (b || c)
      by true c = omega arith
      by false c = omega arith

  under_weight : (i : ℕ) → weight (is_under t i a) ≤ weight (stands_in i a)
  under_weight i = by (a == i) (is_under t i a)
    where
      by : (b c : Bool) → weight c ≤ weight (b || c)
      by true c = weight_few c
      by false c = omega arith

  module _ (k : Known) (initialisers : (i : ℕ) → k.initialisers i ≡ parts_at t i) where
    listed_few : (i : ℕ) → weights (λ x. stands_in x a) (k.initialisers i) ≤ weight (stands_in i a)
    listed_few i =
        let parts = parts_few i in
        let under = under_weight i in
        subst (λ ps. weights (λ x. stands_in x a) ps ≤ weight (stands_in i a)) (sym (initialisers i)) (omega (arith, parts, under))

    filled : {ps : List Place} {b : ℕ} {is : List ℕ} {xs ys : List Entry} → Fills k ps b is xs ys → all_puts ys ≤ all_puts xs + weights (λ x. stands_in x a) is
    filled ends = omega arith
    filled {xs = xs} (exceeds {b = b}) = let more = one_more xs (excess b) in omega (arith, more)
    filled (braces {i = i} o inner rest) =
        let first = filled inner in
        let others = filled rest in
        let few = listed_few i in
        omega (arith, first, others, few)
    filled {xs = xs} (whole {p = p} {b = b} {i = i} o takes rest) =
        let more = one_more xs (put p i b) in
        let others = filled rest in
        let own = own_weight i in
        omega (arith, more, others, own)
    filled (elided o takes lost rest) = filled rest
    filled {xs = xs} (loses {p = p} {b = b} {i = i} o takes lost) =
        let more = one_more xs (put p i b) in
        let own = own_weight i in
        omega (arith, more, own)

    planned : (type : Qualified) (above node : ℕ) (xs : List Entry) → IsPlan k type above node xs → all_puts xs ≤ 1
    planned type above node xs (by_expression o e) =
        let same = ap all_puts e in
        let few = weight_few (a == node) in
        omega (arith, same, few)
    planned type above node xs (by_list o fills) =
        let all = filled fills in
        let few = listed_few node in
        let one = weight_few (stands_in node a) in
        omega (arith, all, few, one)

  has_one : (xs : List Entry) (m : ℕ) (p : Place) (b : ℕ) → slice_get xs m ≡ Some (put p a b) → 1 ≤ all_puts xs
  has_one [] m p b e = absurd (cc e)
  has_one (x ∷ xs) zero p b e =
      let same : x ≡ put p a b = cc e in
      let own : puts x ≡ weight true = ap puts same ∙ ap weight (eq-eqb a a refl) in
      omega (arith, own)
  has_one (x ∷ xs) (suc m) p b e = let rest = has_one xs m p b e in omega (arith, rest)

  has_two : (xs : List Entry) (m n : ℕ) (p q : Place) (b c : ℕ) → m < n → slice_get xs m ≡ Some (put p a b) → slice_get xs n ≡ Some (put q a c) → 2 ≤ all_puts xs
  has_two [] m n p q b c less e f = absurd (cc e)
  has_two (x ∷ xs) m zero p q b c less e f = absurd (omega (arith, less))
  has_two (x ∷ xs) zero (suc n) p q b c less e f =
      let same : x ≡ put p a b = cc e in
      let own : puts x ≡ weight true = ap puts same ∙ ap weight (eq-eqb a a refl) in
      let rest = has_one xs n q c f in
      omega (arith, own, rest)
  has_two (x ∷ xs) (suc m) (suc n) p q b c less e f = let rest = has_two xs m n p q b c (omega (arith, less)) e f in omega (arith, rest)

pub put_once : (t : Typed) → AreOfUnit t → (k : Known) → ((i : ℕ) → k.initialisers i ≡ parts_at t i) → (type : Qualified) (above node : ℕ) (xs : List Entry) → IsPlan k type above node xs
    → (a m n : ℕ) (p q : Place) (b c : ℕ) → slice_get xs m ≡ Some (put p a b) → slice_get xs n ≡ Some (put q a c) → m ≡ n
put_once t unit k initialisers type above node xs plan a m n p q b c e f =
    let few = planned t unit a k initialisers type above node xs plan in
    elim (cases_lt m n) [
      | inl less ↦ (let two = has_two t unit a xs m n p q b c less e f in absurd (omega (arith, few, two)))
      | inr le ↦ elim (cases_lt n m) [
        | inl more ↦ (let two = has_two t unit a xs n m q p c b more f e in absurd (omega (arith, few, two)))
        | inr ge ↦ omega (arith, le, ge)
      ]
    ]
