-- Each node tells what its parts tell, once each but for the parameters of a definition, and its declarators' names; so a name is told once.
use Rattle.std.proofs.Common.{◌≡◌, ℕ, zero, suc, ◌+◌, ◌-◌, ◌<◌, ◌≤◌, ◌==◌, Bool, true, false, List, [], ◌∷◌, ◌++◌, Option, None, Some, length, take, drop, nat_lt, slice_get, refl, sym, ap, subst, ◌∙◌, arith}
use Rattle.std.specs.Prelude.{if◌then◌else◌}
use Rattle.std.specs.List.{flat_map}
use Rattle.std.proofs.lemmas.Bool.{ltb-true, eqb-true, ne_eqb}
use Rattle.std.proofs.lemmas.Option.{same_Some}
use Rattle.cr_tokens.specs.declared.token.Token.{Token}
use Rattle.cr_syntax.specs.declared.node.Kind.{Kind}
use Rattle.cr_syntax.specs.declared.node.Kind.TheVariants as kind
use Rattle.cr_syntax.specs.declared.node.Node.{Node}
use Rattle.cr_scopes_events.specs.declared.event.Role.{Role}
use Rattle.cr_scopes_events.specs.declared.event.Role.TheVariants as role
use Rattle.cr_scopes_events.specs.declared.event.Event.{Event}
use Rattle.cr_scopes_events.specs.declared.event.Event.TheVariants as event
use Rattle.cr_scopes_events.specs.declared.event.Step.{Step}
use Rattle.cr_scopes_events.specs.declared.event.Step.TheVariants.{Happens, Inside}
use Rattle.cr_scopes_events.specs.declared.naming.Naming.{Naming}
use Rattle.cr_scopes_events.specs.declared.naming.Naming.TheVariants.{Parameters, Members, Declared}
use Rattle.cr_scopes_events.specs.declared.declarator.Derivation.{Derivation}
use Rattle.cr_scopes_events.specs.Values.{before}
use Rattle.cr_scopes_events.specs.Declarators.{declarator_of}
use Rattle.cr_scopes_events.specs.Scripts.{kind_if, kind_at, first_if, parts_if, parts_at, inside, in_scope, in_scopes, block, storage_of, event_by, declarator_in, declares, declaration_in, is_identifier, tag_event, lone_tag, lone_specifiers, declaration, list_of, items_of, members_of, definition, script_by, script_if, script_of}
use Rattle.cr_scopes_events.specs.Events.{events_by, events_at}
use Rattle.cr_scopes_events.proofs.Walks.{events_ruled}
use Rattle.cr_scopes_visibility.specs.Sight.Scopes.{is_using, is_tagging}
use Rattle.cr_scopes_visibility.specs.Once.Told.{tells, count_of, weight_of, AreWeights, named_by, is_declaring, AreBounds}
use Rattle.cr_scopes_visibility.specs.Once.Laws

pub count_append : (s : ℕ) (xs ys : List Event) → count_of s (xs ++ ys) ≡ count_of s xs + count_of s ys
count_append s [] ys = omega arith
count_append s (x ∷ xs) ys = let h = count_append s xs ys in omega (arith, h)

tells_none : (s x : ℕ) (r : Role) → (s ≡ x → ⊥) → tells s (event.Name x r) ≡ 0
tells_none s x r f = ap (λ b. if b then 1 else 0) (ne_eqb s x f)

module _ (nodes : List Node) (v w : ℕ → ℕ) (s : ℕ) (are : AreBounds nodes v w s) (tokens : List Token) where
  -- ---- what steps tell

  abbrev cost : List Step → ℕ
  cost [] = 0
  cost (Happens e ∷ xs) = tells s e + cost xs
  cost (Inside p ∷ xs) = v p + cost xs

  cost_append : (xs ys : List Step) → cost (xs ++ ys) ≡ cost xs + cost ys
  cost_append [] ys = omega arith
  cost_append (Happens e ∷ xs) ys = let h = cost_append xs ys in omega (arith, h)
  cost_append (Inside p ∷ xs) ys = let h = cost_append xs ys in omega (arith, h)

  cost_inside : (ps : List ℕ) → cost (inside ps) ≡ weight_of v ps
  cost_inside [] = refl
  cost_inside (p ∷ ps) = ap (λ n. v p + n) (cost_inside ps)

  cost_each : (u : ℕ → ℕ) (f : ℕ → List Step) (ps : List ℕ) → ((p : ℕ) → cost (f p) ≤ u p) → cost (flat_map f ps) ≤ weight_of u ps
  cost_each u f [] h = omega arith
  cost_each u f (p ∷ ps) h = let a = cost_append (f p) (flat_map f ps) in let b = h p in let c = cost_each u f ps h in omega (arith, a, b, c)

  cost_scope : (xs : List Step) → cost (in_scope xs) ≡ cost xs
  cost_scope xs = let h = cost_append xs (Happens event.Closes ∷ []) in omega (arith, h)

  alone_in_scope : (p : ℕ) → cost (in_scope (Inside p ∷ [])) ≤ v p
  alone_in_scope p = omega arith

  cost_block : (a b c : List ℕ) → cost (block a b c) ≤ weight_of v a + (weight_of v b + weight_of v c)
  cost_block a b c =
      let x = cost_scope (inside a ++ in_scopes b ++ inside c) in
      let y = cost_append (inside a ++ in_scopes b) (inside c) in
      let z = cost_append (inside a) (in_scopes b) in
      let i = cost_inside a in
      let j = cost_each v (λ p. in_scope (Inside p ∷ [])) b alone_in_scope in
      let k = cost_inside c in
      omega (arith, x, y, z, i, j, k)

  -- the events of steps
  few : (at : ℕ → List Event) → ((p : ℕ) → count_of s (at p) ≤ v p) → (xs : List Step) → count_of s (flat_map (events_by at) xs) ≤ cost xs
  few at h [] = omega arith
  few at h (Happens e ∷ xs) = let r = few at h xs in omega (arith, r)
  few at h (Inside p ∷ xs) = let r = few at h xs in let a = count_append s (at p) (flat_map (events_by at) xs) in let b = h p in omega (arith, r, a, b)

  -- ---- names that are declared

  one_name : (way : Naming) (o : Option ℕ) (next : Derivation) → cost (elim o [ None ↦ [] | Some x ↦ Happens (event_by way next x) ∷ [] ]) ≤ named_by s o
  one_name way None next = omega arith
  one_name Parameters (Some x) next = omega arith
  one_name (Members structure) (Some x) next = omega arith
  one_name (Declared storage) (Some x) next = omega arith

  abbrev named : ℕ → ℕ
  named q = v q + named_by s (declarator_of nodes q).name

  declarator_few : (way : Naming) (q : ℕ) → cost (declarator_in way nodes q) ≤ named q
  declarator_few way q = let h = one_name way (declarator_of nodes q).name (declarator_of nodes q).next in omega (arith, h)

  -- a member is told as no name
  member_few : (structure q : ℕ) → cost (declarator_in (Members structure) nodes q) ≤ v q
  member_few structure q = by (declarator_of nodes q).name
    where
      by : (o : Option ℕ) → v q + cost (elim o [ None ↦ [] | Some x ↦ Happens (event_by (Members structure) (declarator_of nodes q).next x) ∷ [] ]) ≤ v q
      by None = omega arith
      by (Some x) = omega arith

  parts_few : (p : ℕ) → weight_of v (parts_at nodes p) ≤ v p
  parts_few p = by (slice_get nodes p) refl
    where
      by : (o : Option Node) → slice_get nodes p ≡ o → weight_of v (parts_if o) ≤ v p
      by None at = omega arith
      by (Some m) at = are.parts p m at

  -- a declarator, or one with its initialiser, by what the declarators of some way tell
  module _ (way : Naming) (f u : ℕ → ℕ) (each : (q : ℕ) → cost (declarator_in way nodes q) ≤ f q) (plain : (q : ℕ) → f q ≤ u q)
      (initialised : (p : ℕ) → kind_at nodes p ≡ Some kind.InitDeclarator → weight_of f (take 1 (parts_at nodes p)) + weight_of v (drop 1 (parts_at nodes p)) ≤ u p) where
    declares_few : (p : ℕ) (o : Option Kind) → kind_at nodes p ≡ o → cost (declares way nodes p o) ≤ u p
    declares_few p (Some kind.InitDeclarator) e =
        let ps = parts_at nodes p in
        let a = cost_append (flat_map (declarator_in way nodes) (take 1 ps)) (inside (drop 1 ps)) in
        let b = cost_each f (declarator_in way nodes) (take 1 ps) each in
        let c = cost_inside (drop 1 ps) in
        let d = initialised p e in
        omega (arith, a, b, c, d)
    declares_few p o e = let a = each p in let b = plain p in omega (arith, a, b)

    declaration_few : (ps : List ℕ) → cost (declaration_in way nodes ps) ≤ weight_of v (take 1 ps) + weight_of u (drop 1 ps)
    declaration_few ps =
        let a = cost_append (inside (take 1 ps)) (flat_map (λ p. declares way nodes p (kind_at nodes p)) (drop 1 ps)) in
        let b = cost_inside (take 1 ps) in
        let c = cost_each u (λ p. declares way nodes p (kind_at nodes p)) (drop 1 ps) (λ p. declares_few p (kind_at nodes p) refl) in
        omega (arith, a, b, c)

  split : (u : ℕ → ℕ) (k : ℕ) (ps : List ℕ) → weight_of u (take k ps) + weight_of u (drop k ps) ≡ weight_of u ps
  split u zero ps = omega arith
  split u (suc k) [] = omega arith
  split u (suc k) (p ∷ ps) = let h = split u k ps in omega (arith, h)

  names_few : (way : Naming) (ps : List ℕ) → cost (declaration_in way nodes ps) ≤ weight_of v (take 1 ps) + weight_of w (drop 1 ps)
  names_few way ps = declaration_few way named w (declarator_few way) are.declared by ps
    where
      of_parts : (p : ℕ) (m : Node) → slice_get nodes p ≡ Some m → m.kind ≡ kind.InitDeclarator → (l : List ℕ) → m.parts ≡ l → weight_of named (take 1 l) + weight_of v (drop 1 l) ≤ w p
      of_parts p m at is [] e = omega arith
      of_parts p m at is (q ∷ l) e =
          let h = are.initialised p q m at is (ap (λ x. slice_get x 0) e) in
          let rest : weight_of v (drop 1 m.parts) ≡ weight_of v l = ap (λ x. weight_of v (drop 1 x)) e in
          omega (arith, h, rest)

      by : (p : ℕ) → kind_at nodes p ≡ Some kind.InitDeclarator → weight_of named (take 1 (parts_at nodes p)) + weight_of v (drop 1 (parts_at nodes p)) ≤ w p
      by p e = at_node (slice_get nodes p) refl e
        where
          at_node : (o : Option Node) → slice_get nodes p ≡ o → kind_if o ≡ Some kind.InitDeclarator → weight_of named (take 1 (parts_if o)) + weight_of v (drop 1 (parts_if o)) ≤ w p
          at_node None at f = absurd cc
          at_node (Some m) at f = of_parts p m at (same_Some m.kind kind.InitDeclarator f) m.parts refl

  members_few : (structure : ℕ) (ps : List ℕ) → cost (declaration_in (Members structure) nodes ps) ≤ weight_of v ps
  members_few structure ps =
      let a = declaration_few (Members structure) v v (member_few structure) (λ q. omega arith) (λ p e. (let b = split v 1 (parts_at nodes p) in let c = parts_few p in omega (arith, b, c))) ps in
      let d = split v 1 ps in
      omega (arith, a, d)

  -- ---- tags

  tag_none : (p : ℕ) (m : Node) → slice_get nodes p ≡ Some m → is_tagging m.kind ≡ true → (r : Role) (b : Bool) → cost (tag_event r (m.first + 1) b) ≡ 0
  tag_none p m at h r false = refl
  tag_none p m at h r true = let e = tells_none s (m.first + 1) r (λ same. are.tags p m at h (sym same)) in omega (arith, e)

  lone_few : (p : ℕ) (o : Option Node) → slice_get nodes p ≡ o → cost (lone_specifiers nodes p (kind_if o)) ≤ v p
  lone_few p None at = omega arith
  lone_few p (Some m) at = by m.kind refl
    where
      tagged : m.kind ≡ kind.StructTag → (o : Option Node) → slice_get nodes p ≡ o → cost (lone_tag (first_if o)) ≤ v p
      tagged e None f = omega arith
      tagged e (Some x) f =
          let same : m ≡ x = same_Some m x (sym at ∙ f) in
          let h = tag_none p x f (ap (λ (y : Node). is_tagging y.kind) (sym same) ∙ ap is_tagging e) role.Alone true in
          omega (arith, h)

      by : (k : Kind) → m.kind ≡ k → cost (lone_specifiers nodes p (Some k)) ≤ v p
      by kind.StructTag e = tagged e (slice_get nodes p) refl
      by k e = omega arith

  -- ---- a node

  module _ (i : ℕ) (m : Node) (at : slice_get nodes i ≡ Some m) where
    parts : weight_of v m.parts ≤ v i
    parts = are.parts i m at

    by_declaration : is_declaring m.kind ≡ true → (ps : List ℕ) → m.parts ≡ ps → cost (declaration nodes ps) ≤ v i
    by_declaration is [] e = omega arith
    by_declaration is (p ∷ []) e =
        let h = lone_few p (slice_get nodes p) refl in
        let c : weight_of v (p ∷ []) ≤ v i = subst (λ l. weight_of v l ≤ v i) e parts in
        omega (arith, h, c)
    by_declaration is (p ∷ q ∷ ps) e =
        let h = names_few (Declared (storage_of nodes (p ∷ q ∷ ps))) (p ∷ q ∷ ps) in
        let c : weight_of v (take 1 (p ∷ q ∷ ps)) + weight_of w (drop 1 (p ∷ q ∷ ps)) ≤ v i = subst (λ l. weight_of v (take 1 l) + weight_of w (drop 1 l) ≤ v i) e (are.declarations i m at is) in
        omega (arith, h, c)

    items_few : (ps : List ℕ) → cost (flat_map (items_of nodes) ps) ≤ weight_of v ps
    items_few ps = cost_each v (items_of nodes) ps (λ p. (let a = cost_inside (parts_at nodes p) in let b = parts_few p in omega (arith, a, b)))

    by_definition : m.kind ≡ kind.FunctionDefinition → (ps : List ℕ) → m.parts ≡ ps → cost (definition nodes ps) ≤ v i
    by_definition is [] e = omega arith
    by_definition is (x ∷ []) e =
        let h = names_few (Declared (storage_of nodes (x ∷ []))) (x ∷ []) in
        let a = cost_append (declaration_in (Declared (storage_of nodes (x ∷ []))) nodes (x ∷ [])) (in_scope []) in
        let c : weight_of v (x ∷ []) ≤ v i = subst (λ l. weight_of v l ≤ v i) e parts in
        omega (arith, h, a, c)
    by_definition is (x ∷ q ∷ rest) e =
        let way = Declared (storage_of nodes (x ∷ q ∷ rest)) in
        let own = inside (list_of nodes (declarator_of nodes q).next) ++ [] in
        let h = names_few way (x ∷ q ∷ []) in
        let a = cost_append (declaration_in way nodes (x ∷ q ∷ [])) (in_scope (own ++ flat_map (items_of nodes) rest)) in
        let b = cost_scope (own ++ flat_map (items_of nodes) rest) in
        let c = cost_append own (flat_map (items_of nodes) rest) in
        let d = cost_append (inside (list_of nodes (declarator_of nodes q).next)) [] in
        let f = cost_inside (list_of nodes (declarator_of nodes q).next) in
        let none = are.lists i q m at is (ap (λ l. slice_get l 1) e) in
        let g = items_few rest in
        let bound = are.definitions i m at is in
        let all : weight_of v (take 1 (x ∷ q ∷ rest)) + (weight_of w (take 1 (drop 1 (x ∷ q ∷ rest))) + weight_of v (drop 2 (x ∷ q ∷ rest))) ≤ v i =
        subst (λ l. weight_of v (take 1 l) + (weight_of w (take 1 (drop 1 l)) + weight_of v (drop 2 l)) ≤ v i) e bound in
        omega (arith, h, a, b, c, d, f, none, g, all)

    used : is_using m.kind ≡ true → (xs : List Step) → cost xs ≤ weight_of v m.parts → tells s (event.Name m.first role.Used) + cost xs ≤ v i
    used h xs le = by (s == m.first) refl
      where
        by : (b : Bool) → (s == m.first) ≡ b → (if b then 1 else 0) + cost xs ≤ v i
        by true q = let more = are.uses i m at h (sym (eqb-true s m.first q)) in omega (arith, more, le)
        by false q = let low = parts in omega (arith, low, le)

    tagged : is_tagging m.kind ≡ true → (r : Role) (b : Bool) (xs : List Step) → cost xs ≤ weight_of v m.parts → cost (tag_event r (m.first + 1) b ++ xs) ≤ v i
    tagged h r b xs le =
        let a = cost_append (tag_event r (m.first + 1) b) xs in
        let z = tag_none i m at h r b in
        let low = parts in
        omega (arith, a, z, le, low)

    mention : is_tagging m.kind ≡ true → cost (tag_event role.Mentioned (m.first + 1) true) ≤ v i
    mention h = let z = tag_none i m at h role.Mentioned true in omega (arith, z)

    throughout : cost (inside m.parts) ≤ weight_of v m.parts
    throughout = let h = cost_inside m.parts in omega (arith, h)

    of_member : (p : ℕ) → cost (members_of nodes i p) ≤ v p
    of_member p = let a = members_few i (parts_at nodes p) in let b = parts_few p in omega (arith, a, b)

    in_block : (k : ℕ) → cost (block (take k m.parts) (drop k m.parts) []) ≤ v i
    in_block k = let a = cost_block (take k m.parts) (drop k m.parts) [] in let b = split v k m.parts in let c = parts in omega (arith, a, b, c)

    by_kind : (k : Kind) → m.kind ≡ k → cost (script_by k tokens nodes i m) ≤ v i
    by_kind kind.FunctionDefinition e = by_definition e m.parts refl
    by_kind kind.Declaration e = by_declaration (ap is_declaring e) m.parts refl
    by_kind kind.Parameter e = let a = names_few Parameters m.parts in let b = are.declarations i m at (ap is_declaring e) in omega (arith, a, b)
    by_kind kind.FunctionDeclarator e =
        let a = cost_append (inside (take 1 m.parts)) (block (drop 1 m.parts) [] []) in
        let b = cost_inside (take 1 m.parts) in
        let c = cost_block (drop 1 m.parts) [] [] in
        let d = split v 1 m.parts in
        let f = parts in
        omega (arith, a, b, c, d, f)
    by_kind kind.StructContent e = tagged (ap is_tagging e) role.Content (is_identifier (slice_get tokens (m.first + 1))) (flat_map (members_of nodes i) m.parts) (cost_each v (members_of nodes i) m.parts of_member)
    by_kind kind.EnumContent e = tagged (ap is_tagging e) role.Content (is_identifier (slice_get tokens (m.first + 1))) (inside m.parts) throughout
    by_kind kind.Enumerator e =
        let a = cost_append (inside m.parts) (Happens (event.Name m.first role.Enumerator) ∷ []) in
        let b = tells_none s m.first role.Enumerator (λ same. are.enumerators i m at e (sym same)) in
        let c = throughout in
        let d = parts in
        omega (arith, a, b, c, d)
    by_kind kind.StructTag e = mention (ap is_tagging e)
    by_kind kind.EnumTag e = mention (ap is_tagging e)
    by_kind kind.TypedefName e = used (ap is_using e) [] (omega arith)
    by_kind kind.Identifier e = used (ap is_using e) [] (omega arith)
    by_kind kind.Call e = used (ap is_using e) (inside m.parts) throughout
    by_kind kind.Compound e = let a = cost_block m.parts [] [] in let b = parts in omega (arith, a, b)
    by_kind kind.If e = in_block 1
    by_kind kind.Switch e = in_block 1
    by_kind kind.While e = in_block 1
    by_kind kind.Do e = let a = cost_block [] (take 1 m.parts) (drop 1 m.parts) in let b = split v 1 m.parts in let c = parts in omega (arith, a, b, c)
    by_kind kind.For e = in_block (length m.parts - 1)
    by_kind k e = let a = throughout in let b = parts in omega (arith, a, b)

  -- ---- all nodes

  node_few : (i : ℕ) → ((p : ℕ) → p < i → count_of s (events_at tokens nodes p) ≤ v p) → count_of s (events_at tokens nodes i) ≤ v i
  node_few i rest = subst (λ es. count_of s es ≤ v i) (sym (events_ruled tokens nodes i)) (let a = few (before [] i (events_at tokens nodes)) below (script_of tokens nodes i) in let b = script (slice_get nodes i) refl in omega (arith, a, b))
    where
      below : (p : ℕ) → count_of s (before [] i (events_at tokens nodes) p) ≤ v p
      below p = by (nat_lt p i) refl
        where
          by : (b : Bool) → nat_lt p i ≡ b → count_of s (if b then events_at tokens nodes p else []) ≤ v p
          by true q = rest p (ltb-true p i q)
          by false q = omega arith

      script : (o : Option Node) → slice_get nodes i ≡ o → cost (script_if o tokens nodes i) ≤ v i
      script None at = omega arith
      script (Some m) at = by_kind i m at m.kind refl

  all_few : (fuel i : ℕ) → i < fuel → count_of s (events_at tokens nodes i) ≤ v i
  all_few zero i low = absurd (omega (arith, low))
  all_few (suc fuel) i low = node_few i (λ p less. all_few fuel p (omega (arith, low, less)))

  items_told : (bound : ℕ) (items : List ℕ) → count_of s (flat_map (before [] bound (events_at tokens nodes)) items) ≤ weight_of v items
  items_told bound [] = omega arith
  items_told bound (p ∷ items) =
      let a = count_append s (before [] bound (events_at tokens nodes) p) (flat_map (before [] bound (events_at tokens nodes)) items) in
      let b = by (nat_lt p bound) in
      let c = items_told bound items in
      omega (arith, a, b, c)
    where
      by : (b : Bool) → count_of s (if b then events_at tokens nodes p else []) ≤ v p
      by true = all_few (suc p) p (omega arith)
      by false = omega arith

pub told_within : Laws.TokensAreToldWithinBounds
told_within tokens nodes items within declaring token are = items_told nodes within declaring token are tokens (length nodes) items

-- ---- a token that nothing declares

module _ (nodes : List Node) (weight : ℕ → ℕ) (token : ℕ) (are : AreWeights nodes weight token) where
  apart : (k : ℕ) (ps : List ℕ) → weight_of weight (take k ps) + weight_of weight (drop k ps) ≡ weight_of weight ps
  apart zero ps = omega arith
  apart (suc k) [] = omega arith
  apart (suc k) (p ∷ ps) = let h = apart k ps in omega (arith, h)

  unnamed : (o : Option ℕ) → (o ≡ Some token → ⊥) → named_by token o ≡ 0
  unnamed None h = refl
  unnamed (Some x) h = ap (λ b. if b then 1 else 0) (ne_eqb token x (λ same. h (ap Some (sym same))))

  -- a declarator tells no more than what stands within it
  bare : (q : ℕ) → weight q + named_by token (declarator_of nodes q).name ≤ weight q
  bare q = let h = unnamed (declarator_of nodes q).name (are.declared q) in omega (arith, h)

  first_of : (ps : List ℕ) (q : ℕ) → slice_get ps 0 ≡ Some q → weight q + weight_of weight (drop 1 ps) ≤ weight_of weight ps
  first_of [] q e = absurd cc
  first_of (p ∷ ps) q e = let same : p ≡ q = same_Some p q e in let one = ap weight same in omega (arith, one)

  bounds : AreBounds nodes weight weight token
  bounds = record {
    parts = are.parts;
    uses = are.uses;
    declared = bare;
    initialised = λ p q m at is e. (let a = bare q in let b = first_of m.parts q e in let c = are.parts p m at in omega (arith, a, b, c));
    declarations = λ i m at is. (let a = apart 1 m.parts in let b = are.parts i m at in omega (arith, a, b));
    definitions = λ i m at is. (let a = apart 1 m.parts in let b = apart 1 (drop 1 m.parts) in let c = two m.parts in let d = are.parts i m at in omega (arith, a, b, c, d));
    enumerators = are.enumerators;
    tags = are.tags;
    lists = are.lists;
  }
    where
      two : (ps : List ℕ) → weight_of weight (drop 1 (drop 1 ps)) ≡ weight_of weight (drop 2 ps)
      two [] = refl
      two (p ∷ []) = refl
      two (p ∷ q ∷ ps) = refl

pub told_once : Laws.NamesAreToldOnce
told_once tokens nodes items weight token are = told_within tokens nodes items weight weight token (bounds nodes weight token are)
