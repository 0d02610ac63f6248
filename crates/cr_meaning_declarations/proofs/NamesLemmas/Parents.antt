-- Each node has one node above it, or stands among the items (C11 6.9); and which declarators of one name are inside which.
use Rattle.std.proofs.Common.{◌≡◌, ℕ, zero, suc, ◌+◌, ◌<◌, ◌≤◌, ◌==◌, Bool, true, false, cond, List, [], ◌∷◌, Option, None, Some, length, nat_lt, slice_get, slice_index, refl, sym, ap, subst, ◌∙◌, ◌⊎◌, inl, inr, arith}
use Rattle.std.specs.Prelude.{if◌then◌else◌, ◌||◌}
use Rattle.std.specs.List.{count_by, flat_map, list_any}
use Rattle.std.proofs.lemmas.List.Sums.{sum_by-append, sum_by-cons}
use Rattle.std.proofs.lemmas.Bool.{cases_lt, eqb-true, eq-eqb, false≢true, both_ways, or_left, or_right, ltb-true}
use Rattle.std.proofs.lemmas.Option.{slice_get_within, get_or_from_slice_get}
use Rattle.cr_syntax.specs.declared.node.Kind.{Kind}
use Rattle.cr_syntax.specs.declared.node.Kind.TheVariants as kind
use Rattle.cr_syntax.specs.declared.node.Node.{Node}
use Rattle.cr_syntax_order.specs.Listed.{AreListed}
use Rattle.cr_scopes_events.specs.declared.declarator.Derivation.{Derivation}
use Rattle.cr_scopes_events.specs.declared.declarator.Derivation.TheVariants.{Nothing, Function, Other}
use Rattle.cr_scopes_events.specs.declared.declarator.Declarator.{Declarator}
use Rattle.cr_scopes_events.specs.Values.{before}
use Rattle.cr_scopes_events.specs.Declarators.{nowhere, derived, in_first, declared_by, declared_if, declarator_of}
use Rattle.cr_scopes_events.proofs.Descents.{declarator_ruled}
use Rattle.cr_check_enclosing.specs.Above.{has_part, above_of}
use Rattle.cr_typed.specs.declared.typed.Typed.{Typed}
use Rattle.cr_meaning_declarations.specs.Units.Owned.{AreOfUnit}
use Rattle.cr_meaning_declarations.proofs.NamesLemmas.Leaves.{is_named, named_once}

-- ---- how often a number stands among others

abbrev pub times : List ℕ → ℕ → ℕ
times ps k = count_by (λ p. p == k) ps

pub once_more : (p k : ℕ) (ps : List ℕ) → times (p ∷ ps) k ≡ cond (p == k) 1 0 + times ps k
once_more p k ps = sum_by-cons (λ x. cond (x == k) 1 0) p ps

abbrev pub weight : Bool → ℕ
weight b = cond b 1 0

pub has_it : (ps : List ℕ) (j p : ℕ) → slice_get ps j ≡ Some p → 1 ≤ times ps p
has_it [] j p e = absurd cc
has_it (q ∷ ps) zero p e =
    let same : q ≡ p = cc in
    let one : weight (q == p) ≡ weight true = ap weight (eq-eqb q p same) in
    let more = once_more q p ps in
    omega (arith, one, more)
has_it (q ∷ ps) (suc j) p e = let rest = has_it ps j p e in let more = once_more q p ps in omega (arith, rest, more)

abbrev pub parts_in : List Node → List ℕ
parts_in ns = flat_map (λ n. n.parts) ns

beside : (n : Node) (ns : List Node) (p : ℕ) → times (parts_in (n ∷ ns)) p ≡ times n.parts p + times (parts_in ns) p
beside n ns p = sum_by-append (λ x. cond (x == p) 1 0) n.parts (parts_in ns)

in_nodes : (ns : List Node) (a : ℕ) (n : Node) (j p : ℕ) → slice_get ns a ≡ Some n → slice_get n.parts j ≡ Some p → 1 ≤ times (parts_in ns) p
in_nodes [] a n j p e f = absurd cc
in_nodes (x ∷ ns) zero n j p e f =
    let same : x ≡ n = cc in
    let one : 1 ≤ times x.parts p = subst (λ (y : Node). 1 ≤ times y.parts p) (sym same) (has_it n.parts j p f) in
    let more = beside x ns p in
    omega (arith, one, more)
in_nodes (x ∷ ns) (suc a) n j p e f = let rest = in_nodes ns a n j p e f in let more = beside x ns p in omega (arith, rest, more)

twice : (ns : List Node) (a b : ℕ) (n m : Node) (j l p : ℕ) → a < b → slice_get ns a ≡ Some n → slice_get ns b ≡ Some m → slice_get n.parts j ≡ Some p → slice_get m.parts l ≡ Some p → 2 ≤ times (parts_in ns) p
twice [] a b n m j l p less e f g h = absurd cc
twice (x ∷ ns) zero zero n m j l p less e f g h = absurd (omega (arith, less))
twice (x ∷ ns) zero (suc b) n m j l p less e f g h =
    let same : x ≡ n = cc in
    let one : 1 ≤ times x.parts p = subst (λ (y : Node). 1 ≤ times y.parts p) (sym same) (has_it n.parts j p g) in
    let rest = in_nodes ns b m l p f h in
    let more = beside x ns p in
    omega (arith, one, rest, more)
twice (x ∷ ns) (suc a) zero n m j l p less e f g h = absurd (omega (arith, less))
twice (x ∷ ns) (suc a) (suc b) n m j l p less e f g h =
    let rest = twice ns a b n m j l p (omega (arith, less)) e f g h in let more = beside x ns p in omega (arith, rest, more)

-- ---- a number among others by a test

found_any : (ps : List ℕ) (p : ℕ) → list_any (λ q. q == p) ps ≡ true → (j : ℕ) × (slice_get ps j ≡ Some p)
found_any [] p e = absurd (false≢true e)
found_any (q ∷ ps) p e = by (q == p) refl e (λ x. found_any ps p x)
  where
    by : (b : Bool) → (q == p) ≡ b → list_any (λ q. q == p) (q ∷ ps) ≡ true → (list_any (λ q. q == p) ps ≡ true → (j : ℕ) × (slice_get ps j ≡ Some p)) → (j : ℕ) × (slice_get (q ∷ ps) j ≡ Some p)
    by true f h rest = (0, ap Some (eqb-true q p f))
    by false f h rest = let x = rest (or-rest (q == p) (list_any (λ q. q == p) ps) f h) in (suc x.0, x.1)
      where
        or-rest : (a c : Bool) → a ≡ false → (a || c) ≡ true → c ≡ true
        or-rest true c f h = absurd (false≢true (sym f))
        or-rest false c f h = h

any_found : (ps : List ℕ) (j p : ℕ) → slice_get ps j ≡ Some p → list_any (λ q. q == p) ps ≡ true
any_found [] j p e = absurd cc
any_found (q ∷ ps) zero p e = let same : q ≡ p = cc in or_left (q == p) (list_any (λ q. q == p) ps) (eq-eqb q p same)
any_found (q ∷ ps) (suc j) p e = or_right (q == p) (list_any (λ q. q == p) ps) (any_found ps j p e)

module _ (t : Typed) (unit : AreOfUnit t) where
  -- node p is a part of node a
  pub record IsPartOf (p a : ℕ) : Type 0 where
    pub parent : Node
    pub at : slice_get t.nodes a ≡ Some parent
    pub place : ℕ
    pub is : slice_get parent.parts place ≡ Some p

  pub part_below : (p a : ℕ) → IsPartOf p a → p < a
  part_below p a h =
      let few = slice_get_within h.parent.parts h.place p h.is in
      let b = unit.below a h.parent h.at h.place few in
      let e : slice_index h.parent.parts h.place ≡ p = get_or_from_slice_get h.parent.parts h.place p _ h.is in
      omega (arith, b, e)

  part_within : (p a : ℕ) → IsPartOf p a → p < length t.nodes
  part_within p a h = let low = part_below p a h in let w = slice_get_within t.nodes a h.parent h.at in omega (arith, low, w)

  total : (p : ℕ) → p < length t.nodes → times (parts_in t.nodes) p + times t.items p ≡ 1
  total p low = sym (sum_by-append (λ x. cond (x == p) 1 0) (parts_in t.nodes) t.items) ∙ unit.once p low

  pub one_parent : (p a b : ℕ) → IsPartOf p a → IsPartOf p b → a ≡ b
  one_parent p a b h g = elim (cases_lt a b) [
    | inl less ↦ (let two = twice t.nodes a b h.parent g.parent h.place g.place p less h.at g.at h.is g.is in let all = total p (part_within p a h) in absurd (omega (arith, two, all)))
    | inr le ↦ elim (cases_lt b a) [
      | inl more ↦ (let two = twice t.nodes b a g.parent h.parent g.place h.place p more g.at h.at g.is h.is in let all = total p (part_within p a h) in absurd (omega (arith, two, all)))
      | inr ge ↦ omega (arith, le, ge)
    ]
  ]

  pub no_item : (p a k : ℕ) → IsPartOf p a → slice_get t.items k ≡ Some p → ⊥
  no_item p a k h e =
      let one = in_nodes t.nodes a h.parent h.place p h.at h.is in
      let other = has_it t.items k p e in
      let all = total p (part_within p a h) in
      absurd (omega (arith, one, other, all))

  -- ---- the node above a node

  has_is : (a p : ℕ) (o : Option Node) → slice_get t.nodes a ≡ o → has_part o p ≡ true → IsPartOf p a
  has_is a p None e h = absurd (false≢true h)
  has_is a p (Some n) e h = let x = found_any n.parts p h in record { parent = n; at = e; place = x.0; is = x.1 }

  part_has : (p a : ℕ) → IsPartOf p a → has_part (slice_get t.nodes a) p ≡ true
  part_has p a h = ap (λ o. has_part o p) h.at ∙ any_found h.parent.parts h.place p h.is

  above_below : (m p a : ℕ) → IsPartOf p a → a < m → above_of t.nodes m p ≡ Some a
  above_below zero p a h less = absurd (omega (arith, less))
  above_below (suc m) p a h less = by (has_part (slice_get t.nodes m) p) refl (λ x. above_below m p a h x)
    where
      by : (b : Bool) → has_part (slice_get t.nodes m) p ≡ b → (a < m → above_of t.nodes m p ≡ Some a) → (if has_part (slice_get t.nodes m) p then Some m else above_of t.nodes m p) ≡ Some a
      by true q rest = ap (λ b. if b then Some m else above_of t.nodes m p) q ∙ ap Some (one_parent p m a (has_is m p (slice_get t.nodes m) refl q) h)
      by false q rest = ap (λ b. if b then Some m else above_of t.nodes m p) q ∙ rest (other (cases_lt a m))
        where
          other : (a < m) ⊎ (m ≤ a) → a < m
          other (inl x) = x
          other (inr ge) = let same : m ≡ a = omega (arith, ge, less) in absurd (both_ways (has_part (slice_get t.nodes m) p) q (subst (λ x. has_part (slice_get t.nodes x) p ≡ true) (sym same) (part_has p a h)))

  pub above_is : (p a : ℕ) → IsPartOf p a → above_of t.nodes (length t.nodes) p ≡ Some a
  above_is p a h = above_below (length t.nodes) p a h (slice_get_within t.nodes a h.parent h.at)

  pub above_some : (m p a : ℕ) → above_of t.nodes m p ≡ Some a → IsPartOf p a
  above_some zero p a e = absurd cc
  above_some (suc m) p a e = by (has_part (slice_get t.nodes m) p) refl e (λ x. above_some m p a x)
    where
      by : (b : Bool) → has_part (slice_get t.nodes m) p ≡ b → (if b then Some m else above_of t.nodes m p) ≡ Some a → (above_of t.nodes m p ≡ Some a → IsPartOf p a) → IsPartOf p a
      by true q e rest = let same : m ≡ a = cc in subst (IsPartOf p) same (has_is m p (slice_get t.nodes m) refl q)
      by false q e rest = rest e

  -- ---- declarators of one name

  abbrev pub is_deriving : Kind → Bool
  is_deriving kind.GroupDeclarator = true
  is_deriving kind.PointerDeclarator = true
  is_deriving kind.ArrayDeclarator = true
  is_deriving kind.FunctionDeclarator = true
  is_deriving other = false

  -- declarator q is the first part of declarator b
  pub record IsInside (q b : ℕ) : Type 0 where
    pub outer : Node
    pub at : slice_get t.nodes b ≡ Some outer
    pub derives : is_deriving outer.kind ≡ true
    pub is : slice_get outer.parts 0 ≡ Some q

  pub as_part : (q b : ℕ) → IsInside q b → IsPartOf q b
  as_part q b h = record { parent = h.outer; at = h.at; place = 0; is = h.is }

  module _ (listed : AreListed t.nodes 0 t.items (length t.nodes)) (own : ℕ) (n : Node) (here : slice_get t.nodes own ≡ Some n) (is : n.kind ≡ kind.NameDeclarator) where
    -- so many declarators around the name
    abbrev IsAround : ℕ → ℕ → Type 0
    IsAround zero a = a ≡ own
    IsAround (suc h) a = (b : ℕ) × (IsAround h b × IsInside b a)

    abbrev IsNamed : Declarator → Type 0
    IsNamed d = d.name ≡ Some n.first

    abbrev Inner : ℕ → Type 0
    Inner a = (b : ℕ) → b < a → IsNamed (declarator_of t.nodes b) → (h : ℕ) × IsAround h b

    nameless : IsNamed nowhere → ⊥
    nameless e = let never : None ≡ Some n.first = e in cc

    goes : (a : ℕ) (m : Node) (outer : Derivation) → slice_get t.nodes a ≡ Some m → is_deriving m.kind ≡ true → (ps : List ℕ) → m.parts ≡ ps
        → IsNamed (derived outer (in_first (before nowhere a (declarator_of t.nodes)) ps)) → Inner a → (h : ℕ) × IsAround h a
    goes a m outer at derives [] e named rest = absurd (nameless named)
    goes a m outer at derives (b ∷ ps) e named rest = by (nat_lt b a) refl named
      where
        by : (c : Bool) → nat_lt b a ≡ c → IsNamed (if c then declarator_of t.nodes b else nowhere) → (h : ℕ) × IsAround h a
        by false q named = absurd (nameless named)
        by true q named =
            let x = rest b (ltb-true b a q) named in
            (suc x.0, (b, (x.1, record { outer = m; at = at; derives = derives; is = ap (λ l. slice_get l 0) e })))

    around_kind : (a : ℕ) (m : Node) → slice_get t.nodes a ≡ Some m → (k : Kind) → m.kind ≡ k → IsNamed (declared_by k (before nowhere a (declarator_of t.nodes)) a m) → Inner a → (h : ℕ) × IsAround h a
    around_kind a m at kind.NameDeclarator e named rest =
        let first : m.first ≡ n.first = cc in
        let w = (unit.within a m at).0 in
        let same : own ≡ a = named_once t unit listed own a n m n.first here is refl at (ap is_named e) (omega (arith, first)) (omega (arith, first)) (omega (arith, first, w)) in
        (0, sym same)
    around_kind a m at kind.GroupDeclarator e named rest = goes a m Nothing at (ap is_deriving e) m.parts refl named rest
    around_kind a m at kind.PointerDeclarator e named rest = goes a m Other at (ap is_deriving e) m.parts refl named rest
    around_kind a m at kind.ArrayDeclarator e named rest = goes a m Other at (ap is_deriving e) m.parts refl named rest
    around_kind a m at kind.FunctionDeclarator e named rest = goes a m (Function a) at (ap is_deriving e) m.parts refl named rest
    around_kind a m at k e named rest = absurd (nameless named)

    around_if : (a : ℕ) (o : Option Node) → slice_get t.nodes a ≡ o → IsNamed (declared_if o (before nowhere a (declarator_of t.nodes)) a) → Inner a → (h : ℕ) × IsAround h a
    around_if a None at named rest = absurd (nameless named)
    around_if a (Some m) at named rest = around_kind a m at m.kind refl named rest

    around_by : (fuel a : ℕ) → a < fuel → IsNamed (declarator_of t.nodes a) → (h : ℕ) × IsAround h a
    around_by zero a low named = absurd (omega (arith, low))
    around_by (suc fuel) a low named =
        around_if a (slice_get t.nodes a) refl (subst IsNamed (declarator_ruled t.nodes a) named) (λ b less x. around_by fuel b (omega (arith, low, less)) x)

    one_around : (h a b : ℕ) → IsAround h a → IsAround h b → a ≡ b
    one_around zero a b x y = x ∙ sym y
    one_around (suc h) a b x y =
        let inner : x.0 ≡ y.0 = one_around h x.0 y.0 x.1.0 y.1.0 in
        one_parent x.0 a b (as_part x.0 a x.1.1) (subst (λ p. IsPartOf p b) (sym inner) (as_part y.0 b y.1.1))

    grows : (h' h a b : ℕ) → h < h' → IsAround h a → IsAround h' b → a < b
    grows zero h a b less x y = absurd (omega (arith, less))
    grows (suc h') h a b less x y =
        let last = part_below y.0 b (as_part y.0 b y.1.1) in
        elim (cases_lt h h') [
          | inl more ↦ (let inner = grows h' h a y.0 more x y.1.0 in omega (arith, inner, last))
          | inr ge ↦ (let e : h ≡ h' = omega (arith, less, ge) in let same : a ≡ y.0 = one_around h' a y.0 (subst (λ k. IsAround k a) e x) y.1.0 in omega (arith, same, last))
        ]

    covered : (h' h q w : ℕ) → h < h' → IsAround h q → IsAround h' w → (b : ℕ) × IsInside q b
    covered zero h q w less x y = absurd (omega (arith, less))
    covered (suc h') h q w less x y = elim (cases_lt h h') [
      | inl more ↦ covered h' h q y.0 more x y.1.0
      | inr ge ↦ (let e : h ≡ h' = omega (arith, less, ge) in let same : q ≡ y.0 = one_around h' q y.0 (subst (λ k. IsAround k q) e x) y.1.0 in (w, subst (λ p. IsInside p w) (sym same) y.1.1))
    ]

    -- of two declarators of the name the earlier one that is in no other is the later one
    pub whole_is : (q w : ℕ) → (declarator_of t.nodes q).name ≡ Some n.first → (declarator_of t.nodes w).name ≡ Some n.first → q ≤ w → ((b : ℕ) → IsInside q b → ⊥) → q ≡ w
    whole_is q w named other le alone =
        let x = around_by (suc q) q (omega arith) named in
        let y = around_by (suc w) w (omega arith) other in
        elim (cases_lt x.0 y.0) [
          | inl less ↦ (let z = covered y.0 x.0 q w less x.1 y.1 in absurd (alone z.0 z.1))
          | inr ge ↦ elim (cases_lt y.0 x.0) [
            | inl more ↦ (let z = grows x.0 y.0 w q more y.1 x.1 in absurd (omega (arith, z, le)))
            | inr same ↦ (let e : x.0 ≡ y.0 = omega (arith, ge, same) in one_around y.0 q w (subst (λ k. IsAround k q) e x.1) y.1)
          ]
        ]
