-- The token of an external declaration is told once: by its own declarator, since nothing else declares it and nothing stands above an item (C11 6.9).
use Rattle.std.proofs.Common.{◌≡◌, ℕ, zero, suc, ◌+◌, ◌≤◌, ◌==◌, inl, inr, Bool, true, false, List, [], ◌∷◌, Option, None, Some, take, drop, slice_get, refl, sym, ap, subst, ◌∙◌, arith, if◌then◌else◌}
use Rattle.std.proofs.lemmas.Bool.{cases_lt, cases_eq, false≢true, eqb-true, eq-eqb, ne_eqb}
use Rattle.cr_syntax.specs.declared.node.Kind.{Kind}
use Rattle.cr_syntax.specs.declared.node.Kind.TheVariants as kind
use Rattle.cr_syntax.specs.declared.node.Node.{Node}
use Rattle.cr_syntax_order.specs.Listed.{AreListed, no_node, one_more}
use Rattle.cr_syntax_nodes.proofs.Order.{own_before}
use Rattle.cr_scopes_events.specs.declared.declarator.Derivation.{Derivation}
use Rattle.cr_scopes_events.specs.declared.declarator.Derivation.TheVariants as derivation
use Rattle.cr_scopes_events.specs.Declarators.{declarator_of}
use Rattle.cr_scopes_events.specs.Scripts as scripts
use Rattle.cr_scopes_events.specs.Events.{events_of}
use Rattle.cr_scopes.specs.Units.{unit_events}
use Rattle.cr_scopes_visibility.specs.Once.Told.{count_of, weight_of, named_by, is_declaring, AreBounds}
use Rattle.cr_scopes_visibility.proofs.OnceLemmas.Counting.{told_within}
use Rattle.cr_scopes_linkage.specs.Shared.Origins.{is_external, IsDeclaring, IsDeclarer, is_tagged}
use Rattle.cr_scopes_visibility.specs.Sight.Scopes.{is_tagging}
use Rattle.cr_scopes_typedef_names.specs.Tellings.Tellings as tellings
use Rattle.cr_typed.specs.declared.typed.Typed.{Typed}
use Rattle.cr_meaning_declarations.proofs.NamesLemmas.Leaves.{no_tag, no_use}
use Rattle.cr_meaning_declarations.proofs.NamesLemmas.Parents.{IsPartOf, part_below, one_parent, no_item, whole_is}
use Rattle.cr_meaning_references.proofs.ConstantLemmas.Once.{risen}
use Rattle.cr_meaning_objects.proofs.KeptLemmas.Defined.{used_same}
use Rattle.cr_meaning_declarations.specs.Declared.Files.{IsUnitOfFile}
use Rattle.cr_meaning_declarations.proofs.LinkedLemmas.Owned.{HasOwn, own_there, part_of, in_init, alone as in_no_other, one_declaration}
use Rattle.cr_meaning_declarations.proofs.DeclaredLemmas.Files.{has_unit}
use Rattle.cr_meaning_objects.proofs.MainsLemmas.Defined.{no_parameter, no_enumerator}
use Rattle.cr_meaning_files.specs.Celled as Laws

-- ---- kinds

tagged_same : (k : Kind) → is_tagging k ≡ true → is_tagged k ≡ true
tagged_same kind.StructTag h = refl
tagged_same kind.EnumTag h = refl
tagged_same kind.StructContent h = refl
tagged_same kind.EnumContent h = refl
tagged_same k h = absurd (false≢true h)

-- ---- lists

taken : (n : ℕ) (ps : List ℕ) (k p : ℕ) → slice_get (take n ps) k ≡ Some p → slice_get ps k ≡ Some p
taken zero ps k p e = absurd cc
taken (suc n) [] k p e = absurd cc
taken (suc n) (x ∷ ps) zero p e = e
taken (suc n) (x ∷ ps) (suc k) p e = taken n ps k p e

dropped : (n : ℕ) (ps : List ℕ) (k p : ℕ) → slice_get (drop n ps) k ≡ Some p → (j : ℕ) × (slice_get ps j ≡ Some p)
dropped zero ps k p e = (k, e)
dropped (suc n) [] k p e = absurd cc
dropped (suc n) (x ∷ ps) k p e = let rest = dropped n ps k p e in (suc rest.0, rest.1)

behind : (ps : List ℕ) (k p : ℕ) → slice_get (drop 1 ps) k ≡ Some p → slice_get ps (suc k) ≡ Some p
behind [] k p e = absurd cc
behind (x ∷ ps) k p e = e

-- the list behind the first
record IsRest (ns : List Node) (ps : List ℕ) (end : ℕ) : Type 0 where
  from : ℕ
  listed : AreListed ns from (drop 1 ps) end

rest_of : {ns : List Node} {from end : ℕ} {ps : List ℕ} → AreListed ns from ps end → IsRest ns ps end
rest_of {from = from} no_node = record { from = from; listed = no_node }
rest_of (one_more {p = p} at below rest) = record { from = p + 1; listed = rest }

-- ---- numbers of a list together

none : (f : ℕ → ℕ) (ps : List ℕ) → ((k y : ℕ) → slice_get ps k ≡ Some y → f y ≡ 0) → weight_of f ps ≡ 0
none f [] h = refl
none f (p ∷ ps) h = let own = h 0 p refl in let rest = none f ps (λ k y e. h (suc k) y e) in omega (arith, own, rest)

-- where one alone has any
lone : (ns : List Node) (f : ℕ → ℕ) {from end : ℕ} {ps : List ℕ} → AreListed ns from ps end → ((k y : ℕ) → slice_get ps k ≡ Some y → f y ≤ 1)
    → ((j k x y : ℕ) → slice_get ps j ≡ Some x → slice_get ps k ≡ Some y → 1 ≤ f x → 1 ≤ f y → x ≡ y) → weight_of f ps ≤ 1
lone ns f no_node few one = omega arith
lone ns f (one_more {p = p} {ps = ps} at below rest) few one =
    by (f p) refl (lone ns f rest (λ k y e. few (suc k) y e) (λ j k x y e g h i. one (suc j) (suc k) x y e g h i))
  where
    no_more : 1 ≤ f p → (k y : ℕ) → slice_get ps k ≡ Some y → (n : ℕ) → f y ≡ n → n ≡ 0
    no_more own k y e zero q = refl
    no_more own k y e (suc n) q = let same = one 0 (suc k) p y refl e own (omega (arith, q)) in let low = risen rest k y e in absurd (omega (arith, same, low))

    by : (n : ℕ) → f p ≡ n → weight_of f ps ≤ 1 → f p + weight_of f ps ≤ 1
    by zero q less = omega (arith, q, less)
    by (suc n) q less = let most = few 0 p refl in let rest_is = none f ps (λ k y e. no_more (omega (arith, q)) k y e (f y) refl) in omega (arith, q, most, rest_is)

-- the first number, or another where that is none
abbrev either : ℕ → ℕ → ℕ
either zero m = m
either (suc n) m = suc n

either_first : (n m : ℕ) → n ≤ either n m
either_first zero m = omega arith
either_first (suc n) m = omega arith

either_other : (n m : ℕ) → m ≤ 1 → m ≤ either n m
either_other zero m h = omega arith
either_other (suc n) m h = omega (arith, h)

either_few : (n m : ℕ) → n ≤ 1 → m ≤ 1 → either n m ≤ 1
either_few zero m h g = g
either_few (suc n) m h g = h

none_if : (n : ℕ) → (1 ≤ n → ⊥) → n ≡ 0
none_if zero h = refl
none_if (suc n) h = absurd (h (omega arith))

-- ---- the token among names

module _ (token : ℕ) where
  named_once : (o : Option ℕ) → named_by token o ≤ 1
  named_once None = omega arith
  named_once (Some x) = by (token == x)
    where
      by : (b : Bool) → (if b then 1 else 0) ≤ 1
      by true = omega arith
      by false = omega arith

  named_token : (o : Option ℕ) → 1 ≤ named_by token o → o ≡ Some token
  named_token None h = absurd (omega (arith, h))
  named_token (Some x) h = by (token == x) refl h
    where
      by : (b : Bool) → (token == x) ≡ b → 1 ≤ (if b then 1 else 0) → Some x ≡ Some token
      by true q g = ap Some (sym (eqb-true token x q))
      by false q g = absurd (omega (arith, g))

module _ (file : List ℕ) (t : Typed) (it : IsUnitOfFile file t) (token d q place : ℕ) (m : Node) (declared : IsDeclarer t.nodes token d q m) (item : slice_get t.items place ≡ Some d) where
  open it use {made_by}
  open has_unit file t it use {unit, order, nodes_are}

  own : HasOwn t unit order token
  own = own_there t unit order token q declared.name

  -- ---- how often nodes tell it: the declaration once, and as parts those of the name

  abbrev within : ℕ → ℕ
  within x = if x == d then 1 else 0

  abbrev names : ℕ → ℕ
  names x = named_by token (declarator_of t.nodes x).name

  abbrev first_names : Option ℕ → ℕ
  first_names None = 0
  first_names (Some x) = names x

  abbrev through : Option Kind → ℕ → ℕ
  through (Some kind.InitDeclarator) x = first_names (slice_get (scripts.parts_at t.nodes x) 0)
  through k x = 0

  abbrev declaring : ℕ → ℕ
  declaring x = within x + either (names x) (through (scripts.kind_at t.nodes x) x)

  part_free : (i k p : ℕ) (o : Node) → slice_get t.nodes i ≡ Some o → slice_get o.parts k ≡ Some p → within p ≡ 0
  part_free i k p o at e =
      ap (λ b. if b then 1 else 0) (ne_eqb p d (λ same. no_item t unit p i place (record { parent = o; at = at; place = k; is = e }) (item ∙ ap Some (sym same))))

  parts_free : (i : ℕ) (o : Node) → slice_get t.nodes i ≡ Some o → weight_of within o.parts ≡ 0
  parts_free i o at = none within o.parts (λ k y e. part_free i k y o at e)

  taken_free : (i n : ℕ) (o : Node) → slice_get t.nodes i ≡ Some o → weight_of within (take n o.parts) ≡ 0
  taken_free i n o at = none within (take n o.parts) (λ k y e. part_free i k y o at (taken n o.parts k y e))

  dropped_free : (i n : ℕ) (o : Node) → slice_get t.nodes i ≡ Some o → weight_of within (drop n o.parts) ≡ 0
  dropped_free i n o at = none within (drop n o.parts) (λ k y e. (let x = dropped n o.parts k y e in part_free i x.0 y o at x.1))

  -- a part that tells it has a declarator of the name
  record Declares (x : ℕ) : Type 0 where
    declarator : ℕ
    declares : IsDeclaring t.nodes x declarator
    name : (declarator_of t.nodes declarator).name ≡ Some token

  through_by : (x : ℕ) (k : Option Kind) → scripts.kind_at t.nodes x ≡ k → 1 ≤ through k x → Declares x
  through_by x (Some kind.InitDeclarator) e h = of_first (slice_get (scripts.parts_at t.nodes x) 0) refl h
    where
      of_first : (o : Option ℕ) → slice_get (scripts.parts_at t.nodes x) 0 ≡ o → 1 ≤ first_names o → Declares x
      of_first None f g = absurd (omega (arith, g))
      of_first (Some y) f g = record { declarator = y; declares = inr (e, f); name = named_token token (declarator_of t.nodes y).name g }
  through_by x k e h = absurd (omega (arith, h))

  declares_by : (x : ℕ) → 1 ≤ either (names x) (through (scripts.kind_at t.nodes x) x) → Declares x
  declares_by x h = by (names x) refl h
    where
      by : (n : ℕ) → names x ≡ n → 1 ≤ either n (through (scripts.kind_at t.nodes x) x) → Declares x
      by zero e g = through_by x (scripts.kind_at t.nodes x) refl g
      by (suc n) e g = record { declarator = x; declares = inl refl; name = named_token token (declarator_of t.nodes x).name (omega (arith, e)) }

  names_few : (x : ℕ) → names x ≤ 1
  names_few x = named_once token (declarator_of t.nodes x).name

  first_few : (o : Option ℕ) → first_names o ≤ 1
  first_few None = omega arith
  first_few (Some y) = names_few y

  through_few : (k : Option Kind) (x : ℕ) → through k x ≤ 1
  through_few (Some kind.InitDeclarator) x = first_few (slice_get (scripts.parts_at t.nodes x) 0)
  through_few k x = omega arith

  one_by : (x : ℕ) → either (names x) (through (scripts.kind_at t.nodes x) x) ≤ 1
  one_by x = either_few (names x) (through (scripts.kind_at t.nodes x) x) (names_few x) (through_few (scripts.kind_at t.nodes x) x)

  -- ---- a declaration or a definition

  declarer : (i k p : ℕ) (o : Node) → slice_get t.nodes i ≡ Some o → is_external o.kind ≡ true → (o.kind ≡ kind.FunctionDefinition → k ≡ 0) → slice_get o.parts (suc k) ≡ Some p
      → 1 ≤ declaring p → (r : ℕ) × ((x : IsDeclarer t.nodes token i r o) × (x.part ≡ p))
  declarer i k p o at external first e some =
      let free = part_free i (suc k) p o at e in
      let x = declares_by p (omega (arith, some, free)) in
      (x.declarator, (record { at = at; external = external; place = k; first = first; part = p; is = e; declares = x.declares; name = x.name }, refl))

  -- one part alone has the name
  one_part : (i r s : ℕ) (o : Node) (x : IsDeclarer t.nodes token i r o) (y : IsDeclarer t.nodes token i s o) → x.part ≡ y.part
  one_part i r s o x y = elim x.declares [
    | inl e ↦ elim y.declares [
      | inl f ↦ e ∙ same ∙ sym f
      | inr f ↦
          (let above : i ≡ y.part = one_parent t unit r i y.part (subst (λ z. IsPartOf t unit z i) e (part_of t unit order token i r o x))
          (subst (λ z. IsPartOf t unit z y.part) (sym same) (in_init t unit order token i s o y f.0 f.1)) in
          let low = part_below t unit y.part i (part_of t unit order token i s o y) in
          absurd (omega (arith, above, low)))
    ]
    | inr e ↦ elim y.declares [
      | inl f ↦
          (let above : i ≡ x.part = one_parent t unit s i x.part (subst (λ z. IsPartOf t unit z i) f (part_of t unit order token i s o y))
          (subst (λ z. IsPartOf t unit z x.part) same (in_init t unit order token i r o x e.0 e.1)) in
          let low = part_below t unit x.part i (part_of t unit order token i r o x) in
          absurd (omega (arith, above, low)))
      | inr f ↦ one_parent t unit r x.part y.part (in_init t unit order token i r o x e.0 e.1) (subst (λ z. IsPartOf t unit z y.part) (sym same) (in_init t unit order token i s o y f.0 f.1))
    ]
  ]
    where
      mine : (declarator_of t.nodes r).name ≡ Some own.node.first
      mine = x.name ∙ ap Some (sym own.first)

      its : (declarator_of t.nodes s).name ≡ Some own.node.first
      its = y.name ∙ ap Some (sym own.first)

      same : r ≡ s
      same = elim (cases_lt s r) [
        | inl less ↦ sym (whole_is t unit order own.own own.node own.at own.is s r its mine (omega (arith, less)) (in_no_other t unit order token i s o y))
        | inr le ↦ whole_is t unit order own.own own.node own.at own.is r s mine its le (in_no_other t unit order token i r o x)
      ]

  other_none : (i k p : ℕ) (o : Node) → slice_get t.nodes i ≡ Some o → is_external o.kind ≡ true → (o.kind ≡ kind.FunctionDefinition → k ≡ 0) → slice_get o.parts (suc k) ≡ Some p
      → (i ≡ d → ⊥) → declaring p ≡ 0
  other_none i k p o at external first e other =
      none_if (declaring p) (λ some. (let x = declarer i k p o at external first e some in other (one_declaration t unit order token i x.0 d q o m x.1.0 declared)))

  own_one : (i k p : ℕ) (o : Node) → slice_get t.nodes i ≡ Some o → slice_get o.parts k ≡ Some p → declaring p ≤ 1
  own_one i k p o at e = let free = part_free i k p o at e in let most = one_by p in omega (arith, free, most)

  here : (i : ℕ) → i ≡ d → within i ≡ 1
  here i same = ap (λ b. if b then 1 else 0) (eq-eqb i d same)

  of_declaration : (i : ℕ) (o : Node) → slice_get t.nodes i ≡ Some o → o.kind ≡ kind.Declaration → weight_of declaring (drop 1 o.parts) ≤ within i
  of_declaration i o at is = elim (cases_eq i d) [
    | inl same ↦
        (let listed = rest_of (own_before t.nodes t.items order i o at).1 in
        let some = lone t.nodes declaring listed.listed (λ k y e. own_one i (suc k) y o at (behind o.parts k y e)) one in
        let has = here i same in
        omega (arith, some, has))
    | inr other ↦
        (let zero_is = none declaring (drop 1 o.parts) (λ k y e. other_none i k y o at external (first k) (behind o.parts k y e) other) in
        omega (arith, zero_is))
  ]
    where
      external : is_external o.kind ≡ true
      external = ap is_external is

      first : (k : ℕ) → o.kind ≡ kind.FunctionDefinition → k ≡ 0
      first k f = let never : kind.Declaration ≡ kind.FunctionDefinition = sym is ∙ f in absurd cc

      one : (j k x y : ℕ) → slice_get (drop 1 o.parts) j ≡ Some x → slice_get (drop 1 o.parts) k ≡ Some y → 1 ≤ declaring x → 1 ≤ declaring y → x ≡ y
      one j k x y e f g h =
          let a = declarer i j x o at external (first j) (behind o.parts j x e) g in
          let b = declarer i k y o at external (first k) (behind o.parts k y f) h in
          sym a.1.1 ∙ one_part i a.0 b.0 o a.1.0 b.1.0 ∙ b.1.1

  of_definition : (i : ℕ) (o : Node) → slice_get t.nodes i ≡ Some o → o.kind ≡ kind.FunctionDefinition → weight_of declaring (take 1 (drop 1 o.parts)) ≤ within i
  of_definition i o at is = by (drop 1 o.parts) refl
    where
      by : (ps : List ℕ) → drop 1 o.parts ≡ ps → weight_of declaring (take 1 ps) ≤ within i
      by [] e = omega arith
      by (p ∷ ps) e = elim (cases_eq i d) [
        | inl same ↦ (let most = own_one i 1 p o at second in let has = here i same in omega (arith, most, has))
        | inr other ↦ (let zero_is = other_none i 0 p o at (ap is_external is) (λ f. refl) second other in omega (arith, zero_is))
      ]
        where
          second : slice_get o.parts 1 ≡ Some p
          second = behind o.parts 0 p (ap (λ l. slice_get l 0) e)

  of_parameter : (i : ℕ) (o : Node) → slice_get t.nodes i ≡ Some o → o.kind ≡ kind.Parameter → weight_of declaring (drop 1 o.parts) ≤ within i
  of_parameter i o at is =
      let zero_is = none declaring (drop 1 o.parts) (λ k y e. none_if (declaring y) (λ some. (let free = part_free i (suc k) y o at (behind o.parts k y e) in
      let x = declares_by y (omega (arith, some, free)) in
      no_parameter file t it token d q m declared (record {
        node = i;
        own = o;
        at = at;
        is = ap tellings.is_parameter is;
        place = k;
        first = λ f. absurd (false≢true (sym (ap tellings.is_parameter f) ∙ ap tellings.is_parameter is));
        part = y;
        has = behind o.parts k y e;
        declarator = x.declarator;
        declares = x.declares;
        names = x.name;
      })))) in
      omega (arith, zero_is)

  of_kind : (i : ℕ) (o : Node) → slice_get t.nodes i ≡ Some o → (k : Kind) → o.kind ≡ k → is_declaring k ≡ true → weight_of declaring (drop 1 o.parts) ≤ within i
  of_kind i o at kind.Declaration e h = of_declaration i o at e
  of_kind i o at kind.Parameter e h = of_parameter i o at e
  of_kind i o at k e h = absurd (false≢true h)

  -- ---- all nodes

  lists_free : (o : Derivation) → weight_of within (scripts.list_of t.nodes o) ≡ 0
  lists_free derivation.Nothing = refl
  lists_free derivation.Other = refl
  lists_free (derivation.Function l) = by (slice_get t.nodes l) refl
    where
      by : (o : Option Node) → slice_get t.nodes l ≡ o → weight_of within (drop 1 (scripts.parts_if o)) ≡ 0
      by None at = refl
      by (Some o) at = dropped_free l 1 o at

  init_has : (p r : ℕ) (o : Node) → slice_get t.nodes p ≡ Some o → o.kind ≡ kind.InitDeclarator → slice_get o.parts 0 ≡ Some r → through (scripts.kind_at t.nodes p) p ≡ names r
  init_has p r o at is e =
      ap (λ k. through k p) (ap scripts.kind_if at ∙ ap Some is)
      ∙ ap (λ x. first_names (slice_get (scripts.parts_if x) 0)) at ∙ ap first_names e

  bounds : AreBounds t.nodes within declaring token
  bounds = record {
    parts = λ i o at. (let free = parts_free i o at in omega (arith, free));
    uses = λ i o at using first. absurd (no_use t unit order own.own i own.node o own.at own.is at (used_same o.kind using) (first ∙ sym own.first));
    declared = λ r. (let some = either_first (names r) (through (scripts.kind_at t.nodes r) r) in omega (arith, some));
    initialised = λ p r o at is e. (let free = part_free p 0 r o at e in let rest = dropped_free p 1 o at in let has = init_has p r o at is e in
        let some = either_other (names p) (through (scripts.kind_at t.nodes p) p) (through_few (scripts.kind_at t.nodes p) p) in omega (arith, free, rest, has, some));
    declarations = λ i o at is. (let free = taken_free i 1 o at in let most = of_kind i o at o.kind refl is in omega (arith, free, most));
    definitions = λ i o at is. (let free = taken_free i 1 o at in let rest = dropped_free i 2 o at in let most = of_definition i o at is in omega (arith, free, rest, most));
    enumerators = λ i o at is first. no_enumerator file t it token d q m declared (record { node = i; own = o; at = at; is = ap tellings.is_enumerator is; first = first });
    tags = λ i o at tagging second. no_tag t unit order own.own i own.node o own.at own.is at (tagged_same o.kind tagging) (second ∙ sym own.first);
    lists = λ i r o at is e. lists_free (declarator_of t.nodes r).next;
  }

  items_few : weight_of within t.items ≤ 1
  items_few = lone t.nodes within order (λ k y e. most (y == d)) (λ j k x y e f g h. is_it x g ∙ sym (is_it y h))
    where
      most : (b : Bool) → (if b then 1 else 0) ≤ 1
      most true = omega arith
      most false = omega arith

      is_it : (x : ℕ) → 1 ≤ within x → x ≡ d
      is_it x h = by (x == d) refl h
        where
          by : (b : Bool) → (x == d) ≡ b → 1 ≤ (if b then 1 else 0) → x ≡ d
          by true e g = eqb-true x d e
          by false e g = absurd (omega (arith, g))

  counted : count_of token (unit_events it.unit) ≤ 1
  counted =
      let few = told_within it.unit.tokens.list.items t.nodes t.items within declaring token bounds in
      let all = items_few in
      subst (λ es. count_of token es ≤ 1) (sym moved) (omega (arith, few, all))
    where
      moved : unit_events it.unit ≡ events_of it.unit.tokens.list.items t.nodes t.items
      moved = ap (λ ns. events_of it.unit.tokens.list.items ns it.unit.items) nodes_are ∙ ap (events_of it.unit.tokens.list.items t.nodes) (sym made_by.elaborated.items_are)

pub once : Laws.ExternalTokensAreToldOnce
once file t it token d q place m declared item = counted file t it token d q place m declared item
