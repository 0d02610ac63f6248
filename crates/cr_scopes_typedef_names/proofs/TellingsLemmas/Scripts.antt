-- Each name in a script is one that its node declares or uses.
use Rattle.std.proofs.Common.{◌≡◌, ℕ, zero, suc, ◌+◌, ◌-◌, ◌<◌, Bool, true, false, List, [], ◌∷◌, ◌++◌, Option, None, Some, length, take, drop, nat_lt, slice_get, inl, inr, refl, sym, ap, subst, ◌∙◌, arith, if◌then◌else◌}
use Rattle.std.specs.List.{flat_map}
use Rattle.std.proofs.lemmas.Bool.{ltb-true}
use Rattle.cr_tokens.specs.declared.token.Token.{Token}
use Rattle.cr_syntax.specs.declared.node.Kind.{Kind}
use Rattle.cr_syntax.specs.declared.node.Kind.TheVariants as kind
use Rattle.cr_syntax.specs.declared.node.Node.{Node}
use Rattle.cr_scopes_events.specs.declared.event.Role.{Role}
use Rattle.cr_scopes_events.specs.declared.event.Role.TheVariants as role
use Rattle.cr_scopes_events.specs.declared.event.Event.{Event}
use Rattle.cr_scopes_events.specs.declared.event.Event.TheVariants as event
use Rattle.cr_scopes_events.specs.declared.event.Step.{Step}
use Rattle.cr_scopes_events.specs.declared.event.Step.TheVariants.{Happens, Inside}
use Rattle.cr_scopes_events.specs.declared.naming.Storage.{Storage}
use Rattle.cr_scopes_events.specs.declared.naming.Naming.{Naming}
use Rattle.cr_scopes_events.specs.declared.naming.Naming.TheVariants.{Parameters, Members, Declared}
use Rattle.cr_scopes_events.specs.declared.declarator.Derivation.{Derivation}
use Rattle.cr_scopes_events.specs.Values.{before}
use Rattle.cr_scopes_events.specs.Declarators.{declarator_of}
use Rattle.cr_scopes_events.specs.Scripts.{kind_if, kind_at, first_if, first_at, parts_if, parts_at, inside, in_scope, in_scopes, block, storage_of, role_by, event_by, named, declarator_in, initialised, declares, declaration_in, is_identifier, tag_event, content_tag, lone_tag, lone_specifiers, declaration, list_of, own_parameters, items_of, members_of, definition, script_by, script_if, script_of}
use Rattle.cr_scopes_events.specs.Events.{events_by, events_at, events_of}
use Rattle.cr_scopes_events.proofs.Walks.{events_ruled}
use Rattle.cr_scopes_typedef_names.specs.Tellings.Tellings.{is_external, is_use, is_tagged, is_parameter, is_enumerator, IsDeclaring, IsDeclarer, Telling, by_declaration, by_parameter, by_enumerator, by_tag, by_use, AllNames}
use Rattle.cr_scopes_typedef_names.specs.Tellings.Laws

pub names_more : (P : ℕ → Role → Type 0) (xs ys : List Event) → AllNames P xs → AllNames P ys → AllNames P (xs ++ ys)
names_more P [] ys h g = g
names_more P (event.Name t r ∷ xs) ys h g = (h.0, names_more P xs ys h.1 g)
names_more P (event.Opens ∷ xs) ys h g = names_more P xs ys h g
names_more P (event.Closes ∷ xs) ys h g = names_more P xs ys h g
names_more P (event.Member t k ∷ xs) ys h g = names_more P xs ys h g
names_more P (event.Node i ∷ xs) ys h g = names_more P xs ys h g

module _ (tokens : List Token) (nodes : List Node) where
  -- of the names that steps tell themselves
  abbrev AllSteps : List Step → Type 0
  AllSteps [] = Unit {0}
  AllSteps (Inside part ∷ steps) = AllSteps steps
  AllSteps (Happens (event.Name t r) ∷ steps) = Telling nodes t r × AllSteps steps
  AllSteps (Happens event.Opens ∷ steps) = AllSteps steps
  AllSteps (Happens event.Closes ∷ steps) = AllSteps steps
  AllSteps (Happens (event.Member t k) ∷ steps) = AllSteps steps
  AllSteps (Happens (event.Node i) ∷ steps) = AllSteps steps

  more : (xs ys : List Step) → AllSteps xs → AllSteps ys → AllSteps (xs ++ ys)
  more [] ys h g = g
  more (Inside part ∷ xs) ys h g = more xs ys h g
  more (Happens (event.Name t r) ∷ xs) ys h g = (h.0, more xs ys h.1 g)
  more (Happens event.Opens ∷ xs) ys h g = more xs ys h g
  more (Happens event.Closes ∷ xs) ys h g = more xs ys h g
  more (Happens (event.Member t k) ∷ xs) ys h g = more xs ys h g
  more (Happens (event.Node i) ∷ xs) ys h g = more xs ys h g

  each : (f : ℕ → List Step) (ps : List ℕ) → ((k p : ℕ) → slice_get ps k ≡ Some p → AllSteps (f p)) → AllSteps (flat_map f ps)
  each f [] h = tt
  each f (p ∷ ps) h = more (f p) (flat_map f ps) (h 0 p refl) (each f ps (λ k q e. h (suc k) q e))

  through : (ps : List ℕ) → AllSteps (inside ps)
  through ps = each (λ part. Inside part ∷ []) ps (λ k p e. tt)

  scope : (steps : List Step) → AllSteps steps → AllSteps (in_scope steps)
  scope steps h = more steps (Happens event.Closes ∷ []) h tt

  scopes : (ps : List ℕ) → AllSteps (in_scopes ps)
  scopes ps = each (λ part. in_scope (Inside part ∷ [])) ps (λ k p e. tt)

  blocks : (a b c : List ℕ) → AllSteps (block a b c)
  blocks a b c = scope (inside a ++ in_scopes b ++ inside c) (more (inside a ++ in_scopes b) (inside c) (more (inside a) (in_scopes b) (through a) (scopes b)) (through c))

  -- ---- declarators

  -- what a declarator names is told, whatever way it is named
  abbrev AreTold : Naming → ℕ → Type 0
  AreTold Parameters q = (name : ℕ) → (declarator_of nodes q).name ≡ Some name → Telling nodes name role.Parameter
  AreTold (Members structure) q = Unit {0}
  AreTold (Declared storage) q = (name : ℕ) → (declarator_of nodes q).name ≡ Some name → Telling nodes name (role_by storage (declarator_of nodes q).next)

  one_name : (way : Naming) (q : ℕ) → AreTold way q → (o : Option ℕ) → (declarator_of nodes q).name ≡ o
      → AllSteps (elim o [ None ↦ [] | Some name ↦ Happens (event_by way (declarator_of nodes q).next name) ∷ [] ])
  one_name way q h None e = tt
  one_name Parameters q h (Some name) e = (h name e, tt)
  one_name (Members structure) q h (Some name) e = tt
  one_name (Declared storage) q h (Some name) e = (h name e, tt)

  declarator : (way : Naming) (q : ℕ) → AreTold way q → AllSteps (declarator_in way nodes q)
  declarator way q h = one_name way q h (declarator_of nodes q).name refl

  taken : (m : ℕ) (ps : List ℕ) (k p : ℕ) → slice_get (take m ps) k ≡ Some p → slice_get ps k ≡ Some p
  taken zero ps k p e = absurd cc
  taken (suc m) [] k p e = absurd cc
  taken (suc m) (q ∷ ps) zero p e = e
  taken (suc m) (q ∷ ps) (suc k) p e = taken m ps k p e

  dropped : (ps : List ℕ) (k p : ℕ) → slice_get (drop 1 ps) k ≡ Some p → slice_get ps (suc k) ≡ Some p
  dropped [] k p e = absurd cc
  dropped (q ∷ ps) k p e = e

  first_of : (ps : List ℕ) (k q : ℕ) → slice_get (take 1 ps) k ≡ Some q → slice_get ps 0 ≡ Some q
  first_of [] k q f = absurd cc
  first_of (x ∷ ps) zero q f = f
  first_of (x ∷ ps) (suc k) q f = absurd cc

  second_of : (ps : List ℕ) (k x : ℕ) → slice_get (take 2 ps) (suc k) ≡ Some x → k ≡ 0
  second_of [] k x e = absurd cc
  second_of (p ∷ []) k x e = absurd cc
  second_of (p ∷ q ∷ ps) zero x e = refl
  second_of (p ∷ q ∷ ps) (suc k) x e = absurd cc

  part_told : (way : Naming) (p : ℕ) → ((q : ℕ) → IsDeclaring nodes p q → AreTold way q) → (o : Option Kind) → kind_at nodes p ≡ o → AllSteps (declares way nodes p o)
  part_told way p h (Some kind.InitDeclarator) e =
      more (flat_map (declarator_in way nodes) (take 1 (parts_at nodes p))) (inside (drop 1 (parts_at nodes p)))
      (each (declarator_in way nodes) (take 1 (parts_at nodes p)) (λ k q f. declarator way q (h q (inr (e, first_of (parts_at nodes p) k q f))))) (through (drop 1 (parts_at nodes p)))
  part_told way p h o e = declarator way p (h p (inl refl))

  all_declared : (way : Naming) (ps : List ℕ) → ((k p q : ℕ) → slice_get ps (suc k) ≡ Some p → IsDeclaring nodes p q → AreTold way q) → AllSteps (declaration_in way nodes ps)
  all_declared way ps h =
      more (inside (take 1 ps)) (flat_map (λ part. declares way nodes part (kind_at nodes part)) (drop 1 ps)) (through (take 1 ps))
      (each (λ part. declares way nodes part (kind_at nodes part)) (drop 1 ps) (λ k p e. part_told way p (λ q f. h k p q (dropped ps k p e) f) (kind_at nodes p) refl))

  -- ---- declarations and tags

  external : (i : ℕ) (m : Node) → slice_get nodes i ≡ Some m → is_external m.kind ≡ true → (k p q : ℕ) → (m.kind ≡ kind.FunctionDefinition → k ≡ 0) → slice_get m.parts (suc k) ≡ Some p → IsDeclaring nodes p q → AreTold (Declared (storage_of nodes m.parts)) q
  external i m at is k p q first e f name named =
      by_declaration (record { node = i; own = m; at = at; is = is; place = k; first = first; part = p; has = e; declarator = q; declares = f; names = named }) refl

  tag_of : (i : ℕ) (m : Node) → slice_get nodes i ≡ Some m → is_tagged m.kind ≡ true → (b : Bool) → AllSteps (tag_event role.Content (m.first + 1) b)
  tag_of i m at is false = tt
  tag_of i m at is true = (by_tag (record { node = i; own = m; at = at; is = is; second = refl }) refl, tt)

  lone_told : (p : ℕ) (o : Option Node) → slice_get nodes p ≡ o → (k : Option Kind) → k ≡ kind_if o → AllSteps (lone_specifiers nodes p k)
  lone_told p o at (Some kind.StructTag) e = by o at e
    where
      by : (o : Option Node) → slice_get nodes p ≡ o → Some kind.StructTag ≡ kind_if o → AllSteps (lone_tag (first_at nodes p))
      by None at e = absurd cc
      by (Some m) at e =
          let is : kind.StructTag ≡ m.kind = cc in
          subst (λ x. AllSteps (lone_tag (first_if x))) (sym at) ((by_tag (record { node = p; own = m; at = at; is = sym (ap is_tagged is); second = refl }) refl, tt))
  lone_told p o at k e = tt

  by_declaration_parts : (i : ℕ) (m : Node) → slice_get nodes i ≡ Some m → m.kind ≡ kind.Declaration → (ps : List ℕ) → m.parts ≡ ps → AllSteps (declaration nodes ps)
  by_declaration_parts i m at is [] e = tt
  by_declaration_parts i m at is (p ∷ []) e = lone_told p (slice_get nodes p) refl (kind_at nodes p) refl
  by_declaration_parts i m at is (p ∷ q ∷ ps) e =
      all_declared (Declared (storage_of nodes (p ∷ q ∷ ps))) (p ∷ q ∷ ps)
      (λ k x y f g. subst (λ l. AreTold (Declared (storage_of nodes l)) y) e (external i m at (ap is_external is) k x y (λ z. let never : kind.Declaration ≡ kind.FunctionDefinition = sym is ∙ z in cc) (ap (λ l. slice_get l (suc k)) e ∙ f) g))

  by_kind : (i : ℕ) (m : Node) → slice_get nodes i ≡ Some m → (k : Kind) → m.kind ≡ k → AllSteps (script_by k tokens nodes i m)
  by_kind i m at kind.FunctionDefinition e =
      more (declaration_in (Declared (storage_of nodes m.parts)) nodes (take 2 m.parts)) _
      (all_declared (Declared (storage_of nodes m.parts)) (take 2 m.parts) (λ k x y f g. external i m at (ap is_external e) k x y (λ z. second_of m.parts k x f) (taken 2 m.parts (suc k) x f) g))
      (scope (flat_map (own_parameters nodes) (take 1 (drop 1 m.parts)) ++ flat_map (items_of nodes) (drop 2 m.parts))
      (more (flat_map (own_parameters nodes) (take 1 (drop 1 m.parts))) (flat_map (items_of nodes) (drop 2 m.parts))
      (each (own_parameters nodes) (take 1 (drop 1 m.parts)) (λ k p f. through (list_of nodes (declarator_of nodes p).next)))
      (each (items_of nodes) (drop 2 m.parts) (λ k p f. through (parts_at nodes p)))))
  by_kind i m at kind.Declaration e = by_declaration_parts i m at e m.parts refl
  by_kind i m at kind.Parameter e =
      all_declared Parameters m.parts
      (λ k p q f g name named. by_parameter (record { node = i; own = m; at = at; is = ap is_parameter e; place = k; first = λ z. (let never : kind.Parameter ≡ kind.FunctionDefinition = sym e ∙ z in cc); part = p; has = f; declarator = q; declares = g; names = named }) refl)
  by_kind i m at kind.FunctionDeclarator e = more (inside (take 1 m.parts)) (block (drop 1 m.parts) [] []) (through (take 1 m.parts)) (blocks (drop 1 m.parts) [] [])
  by_kind i m at kind.StructContent e =
      more (content_tag tokens m.first) (flat_map (members_of nodes i) m.parts) (tag_of i m at (ap is_tagged e) (is_identifier (slice_get tokens (m.first + 1))))
      (each (members_of nodes i) m.parts (λ k p f. all_declared (Members i) (parts_at nodes p) (λ l x y g h. tt)))
  by_kind i m at kind.EnumContent e = more (content_tag tokens m.first) (inside m.parts) (tag_of i m at (ap is_tagged e) (is_identifier (slice_get tokens (m.first + 1)))) (through m.parts)
  by_kind i m at kind.Enumerator e =
      more (inside m.parts) (Happens (event.Name m.first role.Enumerator) ∷ []) (through m.parts)
      ((by_enumerator (record { node = i; own = m; at = at; is = ap is_enumerator e; first = refl }) refl, tt))
  by_kind i m at kind.StructTag e = (by_tag (record { node = i; own = m; at = at; is = ap is_tagged e; second = refl }) refl, tt)
  by_kind i m at kind.EnumTag e = (by_tag (record { node = i; own = m; at = at; is = ap is_tagged e; second = refl }) refl, tt)
  by_kind i m at kind.TypedefName e = (by_use (record { node = i; own = m; at = at; is = ap is_use e; first = refl }) refl, tt)
  by_kind i m at kind.Identifier e = (by_use (record { node = i; own = m; at = at; is = ap is_use e; first = refl }) refl, tt)
  by_kind i m at kind.Call e = (by_use (record { node = i; own = m; at = at; is = ap is_use e; first = refl }) refl, through m.parts)
  by_kind i m at kind.Compound e = blocks m.parts [] []
  by_kind i m at kind.If e = blocks (take 1 m.parts) (drop 1 m.parts) []
  by_kind i m at kind.Switch e = blocks (take 1 m.parts) (drop 1 m.parts) []
  by_kind i m at kind.While e = blocks (take 1 m.parts) (drop 1 m.parts) []
  by_kind i m at kind.Do e = blocks [] (take 1 m.parts) (drop 1 m.parts)
  by_kind i m at kind.For e = blocks (take (length m.parts - 1) m.parts) (drop (length m.parts - 1) m.parts) []
  by_kind i m at k e = through m.parts

  script : (i : ℕ) (o : Option Node) → slice_get nodes i ≡ o → AllSteps (script_if o tokens nodes i)
  script i None at = tt
  script i (Some m) at = by_kind i m at m.kind refl

  -- ---- all nodes

  abbrev IsTold : ℕ → Type 0
  IsTold i = AllNames (Telling nodes) (events_at tokens nodes i)

  part_names : (i p : ℕ) → ((k : ℕ) → k < i → IsTold k) → (b : Bool) → nat_lt p i ≡ b → AllNames (Telling nodes) (if b then events_at tokens nodes p else [])
  part_names i p told true q = told p (ltb-true p i q)
  part_names i p told false q = tt

  steps_told : (i : ℕ) (steps : List Step) → ((k : ℕ) → k < i → IsTold k) → AllSteps steps → AllNames (Telling nodes) (flat_map (events_by (before [] i (events_at tokens nodes))) steps)
  steps_told i [] told h = tt
  steps_told i (Inside p ∷ steps) told h =
      names_more (Telling nodes) (before [] i (events_at tokens nodes) p) (flat_map (events_by (before [] i (events_at tokens nodes))) steps) (part_names i p told (nat_lt p i) refl) (steps_told i steps told h)
  steps_told i (Happens (event.Name t r) ∷ steps) told h = (h.0, steps_told i steps told h.1)
  steps_told i (Happens event.Opens ∷ steps) told h = steps_told i steps told h
  steps_told i (Happens event.Closes ∷ steps) told h = steps_told i steps told h
  steps_told i (Happens (event.Member t k) ∷ steps) told h = steps_told i steps told h
  steps_told i (Happens (event.Node k) ∷ steps) told h = steps_told i steps told h

  told_below : (m i : ℕ) → i < m → IsTold i
  told_below zero i low = absurd (omega (arith, low))
  told_below (suc m) i low =
      subst (AllNames (Telling nodes)) (sym (events_ruled tokens nodes i))
      (steps_told i (script_of tokens nodes i) (λ k less. told_below m k (omega (arith, low, less))) (script i (slice_get nodes i) refl))

  items_told : (ps : List ℕ) → AllNames (Telling nodes) (flat_map (before [] (length nodes) (events_at tokens nodes)) ps)
  items_told [] = tt
  items_told (p ∷ ps) =
      names_more (Telling nodes) (before [] (length nodes) (events_at tokens nodes) p) (flat_map (before [] (length nodes) (events_at tokens nodes)) ps)
      (part_names (length nodes) p (λ k less. told_below (suc k) k (omega arith)) (nat_lt p (length nodes)) refl) (items_told ps)

pub all_told : Laws.NamesAreToldByNodes
all_told tokens nodes items = items_told tokens nodes items
