-- A parameter of a definition isn't in scope outside of its list and of its body.
use Rattle.std.proofs.Common.{◌≡◌, ℕ, zero, suc, ◌+◌, ◌-◌, ◌<◌, ◌≤◌, ◌==◌, ◌⊎◌, inl, inr, Bool, true, false, List, [], ◌∷◌, ◌++◌, Option, None, Some, length, take, drop, nat_lt, slice_get, refl, sym, ap, subst, ◌∙◌, arith}
use Rattle.std.specs.Prelude.{if◌then◌else◌}
use Rattle.std.specs.List.{flat_map}
use Rattle.std.proofs.lemmas.Bool.{false≢true, ltb-true, eqb-true, eq-eqb}
use Rattle.std.proofs.lemmas.Option.{slice_get_within, same_Some}
use Rattle.cr_tokens.specs.declared.token.Token.{Token}
use Rattle.cr_syntax.specs.declared.node.Kind.{Kind}
use Rattle.cr_syntax.specs.declared.node.Kind.TheVariants as kind
use Rattle.cr_syntax.specs.declared.node.Node.{Node}
use Rattle.cr_scopes_events.specs.declared.event.Role.{Role}
use Rattle.cr_scopes_events.specs.declared.event.Role.TheVariants as role
use Rattle.cr_scopes_events.specs.declared.event.Event.{Event}
use Rattle.cr_scopes_events.specs.declared.event.Event.TheVariants as event
use Rattle.cr_scopes_events.specs.declared.event.Step.{Step}
use Rattle.cr_scopes_events.specs.declared.event.Step.TheVariants.{Happens, Inside}
use Rattle.cr_scopes_events.specs.declared.naming.Naming.{Naming}
use Rattle.cr_scopes_events.specs.declared.naming.Naming.TheVariants.{Parameters, Members, Declared}
use Rattle.cr_scopes_events.specs.declared.declarator.Derivation.{Derivation}
use Rattle.cr_scopes_events.specs.declared.declarator.Derivation.TheVariants as derivation
use Rattle.cr_scopes_events.specs.Values.{before}
use Rattle.cr_scopes_events.specs.Declarators.{declarator_of}
use Rattle.cr_scopes_events.specs.Scripts.{kind_if, kind_at, first_if, parts_if, parts_at, inside, in_scope, in_scopes, block, storage_of, role_by, event_by, named, declarator_in, declares, declaration_in, is_identifier, tag_event, content_tag, lone_tag, lone_specifiers, declaration, own_parameters, list_of, items_of, members_of, definition, script_by, script_if, script_of}
use Rattle.cr_scopes_events.specs.Events.{events_at, events_of}
use Rattle.cr_scopes_events.proofs.Walks.{events_ruled}
use Rattle.cr_scopes.specs.Resolved.{past_of}
use Rattle.cr_scopes_visibility.specs.Alone.Sight.{is_used, IsSeen}
use Rattle.cr_scopes_visibility.specs.Sight.Scopes.{is_using, is_tagging, IsApart}
use Rattle.cr_scopes_visibility.proofs.SightLemmas.Steps as steps
use Rattle.cr_scopes_visibility.proofs.SightLemmas.Steps.{AreUnused, AreTame, AreLevel, AreFine}
use Rattle.cr_scopes_visibility.specs.Parameters.Definitions.{is_holding, AreOwn, AreInside, AreOrdered}
use Rattle.cr_scopes_visibility.specs.Parameters.Laws
use Rattle.cr_scopes_visibility.proofs.SightLemmas.Walks.{taken, dropped, in_turn, role_unused}
use Rattle.cr_scopes_visibility.proofs.SightLemmas.Reaching.{is_deriving, reaches}

-- ---- lists

deriving_block : (k : Kind) → is_deriving k ≡ true → k ≡ kind.Compound → ⊥
deriving_block kind.GroupDeclarator h e = cc
deriving_block kind.PointerDeclarator h e = cc
deriving_block kind.ArrayDeclarator h e = cc
deriving_block kind.FunctionDeclarator h e = cc
deriving_block k h e = false≢true h

holding_block : (k : Kind) → is_holding k ≡ false → k ≡ kind.Compound → ⊥
holding_block k h e = false≢true (sym h ∙ ap is_holding e)

holding_list : (k : Kind) → is_holding k ≡ false → k ≡ kind.FunctionDeclarator → ⊥
holding_list k h e = false≢true (sym h ∙ ap is_holding e)

module _ (nodes : List Node) where
  -- ---- under the holder

  module _ (tokens : List Token) (items : List ℕ) (name : ℕ → ℕ) (definition_at list body : ℕ) (under : ℕ → Bool) (tok site : ℕ) (its : AreOwn nodes definition_at list body)
      (orderly : AreOrdered nodes) (is_under : AreInside nodes items definition_at list body under) (apart : IsApart nodes under tok site) where
    -- nodes of another kind
    not_body : (i : ℕ) (m : Node) → slice_get nodes i ≡ Some m → (m.kind ≡ kind.Compound → ⊥) → i ≡ body → ⊥
    not_body i m at other same = other (its.block m (sym (ap (slice_get nodes) same) ∙ at))

    not_list : (i : ℕ) (m : Node) → slice_get nodes i ≡ Some m → (m.kind ≡ kind.FunctionDeclarator → ⊥) → i ≡ list → ⊥
    not_list i m at other same = other (its.function m (sym (ap (slice_get nodes) same) ∙ at))

    -- parts of such a node stand inside where it does
    part_alike : (u : Bool) (i k p : ℕ) (m : Node) → slice_get nodes i ≡ Some m → is_holding m.kind ≡ false → under i ≡ u → slice_get m.parts k ≡ Some p → under p ≡ u
    part_alike u i k p m at plain e f =
        is_under.parts i k p m at f (not_body i m at (holding_block m.kind plain)) (λ same. absurd (not_list i m at (holding_list m.kind plain) same)) ∙ e

    first_alike : (u : Bool) (a b : ℕ) (m : Node) → slice_get nodes a ≡ Some m → is_deriving m.kind ≡ true → slice_get m.parts 0 ≡ Some b → under a ≡ u → under b ≡ u
    first_alike u a b m at derives e f = is_under.parts a 0 b m at e (not_body a m at (deriving_block m.kind derives)) (λ same. refl) ∙ f

    -- a declarator that doesn't stand there doesn't name the token
    named_outside : (q : ℕ) → under q ≡ false → (declarator_of nodes q).name ≡ Some tok → ⊥
    named_outside q out e =
        let x = (reaches nodes (λ a. under a ≡ false) (first_alike false) q out).name tok e in
        false≢true (sym x.1.1.1.1 ∙ apart.declared x.0 x.1.0 x.1.1.0 x.1.1.1.0.0 x.1.1.1.0.1)

    -- ---- nodes

    record IsTold (i : ℕ) : Type 0 where
      level : AreLevel name tok site (events_at tokens nodes i)
      tame : under i ≡ false → AreTame name tok site (events_at tokens nodes i)
      unused : under i ≡ true → AreUnused name tok site (events_at tokens nodes i)

    -- of the parts of a node, those before it have been told
    module _ (i : ℕ) (told : (k : ℕ) → k < i → IsTold k) where
      abbrev at : ℕ → List Event
      at = before [] i (events_at tokens nodes)

      abbrev Fine : Bool → List Step → Type 0
      Fine u steps = AreFine name tok site at u steps

      inner : (u : Bool) (p : ℕ) → under p ≡ u → Fine u (Inside p ∷ [])
      inner u p e = steps.part name tok site at u p (level (nat_lt p i) refl) (λ f. tame (e ∙ f) (nat_lt p i) refl) (λ f. unused (e ∙ f) (nat_lt p i) refl)
        where
          level : (b : Bool) → nat_lt p i ≡ b → AreLevel name tok site (if b then events_at tokens nodes p else [])
          level true q = (told p (ltb-true p i q)).level
          level false q = λ st. refl

          tame : under p ≡ false → (b : Bool) → nat_lt p i ≡ b → AreTame name tok site (if b then events_at tokens nodes p else [])
          tame f true q = (told p (ltb-true p i q)).tame f
          tame f false q = λ st h. (h, tt)

          unused : under p ≡ true → (b : Bool) → nat_lt p i ≡ b → AreUnused name tok site (if b then events_at tokens nodes p else [])
          unused f true q = (told p (ltb-true p i q)).unused f
          unused f false q = tt

      -- ---- steps of one mode

      module _ (u : Bool) where
        fine_both : (xs ys : List Step) → Fine u xs → Fine u ys → Fine u (xs ++ ys)
        fine_both xs ys h g = steps.both name tok site at u xs ys h g

        fine_each : (f : ℕ → List Step) (ps : List ℕ) → ((k p : ℕ) → slice_get ps k ≡ Some p → Fine u (f p)) → Fine u (flat_map f ps)
        fine_each f ps h = steps.each name tok site at u f ps h

        abbrev Under : List ℕ → Type 0
        Under ps = (k p : ℕ) → slice_get ps k ≡ Some p → under p ≡ u

        through : (ps : List ℕ) → Under ps → Fine u (inside ps)
        through ps h = fine_each (λ p. Inside p ∷ []) ps (λ k p e. inner u p (h k p e))

        scopes : (ps : List ℕ) → Under ps → Fine u (in_scopes ps)
        scopes ps h = fine_each (λ p. in_scope (Inside p ∷ [])) ps (λ k p e. steps.scope name tok site at u (Inside p ∷ []) (inner u p (h k p e)))

        in_block : (a b : List ℕ) → Under a → Under b → (c : List ℕ) → Under c → Fine u (inside a ++ in_scopes b ++ inside c)
        in_block a b h g c k = fine_both (inside a ++ in_scopes b) (inside c) (fine_both (inside a) (in_scopes b) (through a h) (scopes b g)) (through c k)

        none_under : Under []
        none_under k p e = let never : None ≡ Some p = e in absurd cc

        blocks : (a b c : List ℕ) → Under a → Under b → Under c → Fine u (block a b c)
        blocks a b c h g k = steps.scope name tok site at u (inside a ++ in_scopes b ++ inside c) (in_block a b h g c k)

        -- ---- names

        a_name : (x : ℕ) (r : Role) → is_used r ≡ false → (u ≡ false → x ≡ tok → ⊥) → Fine u (Happens (event.Name x r) ∷ [])
        a_name x r unused other = steps.named name tok site at u x r other (λ e q same. false≢true (sym unused ∙ q))

        a_use : (m : Node) → slice_get nodes i ≡ Some m → is_using m.kind ≡ true → under i ≡ u → Fine u (Happens (event.Name m.first role.Used) ∷ [])
        a_use m here_i used mode =
            steps.named name tok site at u m.first role.Used (λ e same. apart.used i m here_i used same)
            (λ e q same. false≢true (sym (apart.uses i m here_i used same) ∙ mode ∙ e))

        a_tag : (j : ℕ) (m : Node) → slice_get nodes j ≡ Some m → is_tagging m.kind ≡ true → (r : Role) → is_used r ≡ false → (b : Bool) → Fine u (tag_event r (m.first + 1) b)
        a_tag j m at_j tagged r unused false = steps.nothing name tok site at u
        a_tag j m at_j tagged r unused true = a_name (m.first + 1) r unused (λ e same. apart.tags j m at_j tagged same)

        one_name : (way : Naming) (o : Option ℕ) (next : Derivation) → ((x : ℕ) → o ≡ Some x → u ≡ false → x ≡ tok → ⊥) → Fine u (elim o [ None ↦ [] | Some x ↦ Happens (event_by way next x) ∷ [] ])
        one_name way None next h = steps.nothing name tok site at u
        one_name Parameters (Some x) next h = a_name x role.Parameter refl (h x refl)
        one_name (Members structure) (Some x) next h = steps.a_member name tok site at u x structure
        one_name (Declared storage) (Some x) next h = a_name x (role_by storage next) (role_unused storage next) (h x refl)

        declarator : (way : Naming) (q : ℕ) → under q ≡ u → Fine u (declarator_in way nodes q)
        declarator way q e =
            fine_both (Inside q ∷ []) (named way (declarator_of nodes q)) (inner u q e)
            (one_name way (declarator_of nodes q).name (declarator_of nodes q).next (λ x f out same. named_outside q (e ∙ out) (f ∙ ap Some same)))

        -- the parts of a node that isn't the holder
        parts_under : (j : ℕ) (m : Node) → slice_get nodes j ≡ Some m → is_holding m.kind ≡ false → under j ≡ u → Under m.parts
        parts_under j m at_j plain e k p f = part_alike u j k p m at_j plain e f

        parts_of : (j : ℕ) → ((m : Node) → slice_get nodes j ≡ Some m → is_holding m.kind ≡ false) → under j ≡ u → Under (parts_at nodes j)
        parts_of j plain e k p f = by (slice_get nodes j) refl f
          where
            by : (o : Option Node) → slice_get nodes j ≡ o → slice_get (parts_if o) k ≡ Some p → under p ≡ u
            by None at_j f = let never : None ≡ Some p = f in absurd cc
            by (Some m) at_j f = parts_under j m at_j (plain m at_j) e k p f

        taken_under : (m : ℕ) (ps : List ℕ) → Under ps → Under (take m ps)
        taken_under m ps h k p e = h k p (taken m ps k p e)

        dropped_under : (m : ℕ) (ps : List ℕ) → Under ps → Under (drop m ps)
        dropped_under m ps h k p e = let x = dropped m ps k p e in h x.0 p x.1

        declares_fine : (way : Naming) (p : ℕ) (o : Option Kind) → kind_at nodes p ≡ o → under p ≡ u → Fine u (declares way nodes p o)
        declares_fine way p (Some kind.InitDeclarator) e mode =
            fine_both (flat_map (declarator_in way nodes) (take 1 (parts_at nodes p))) (inside (drop 1 (parts_at nodes p)))
            (fine_each (declarator_in way nodes) (take 1 (parts_at nodes p)) (λ k q f. declarator way q (stand k q (taken 1 (parts_at nodes p) k q f))))
            (through (drop 1 (parts_at nodes p)) (dropped_under 1 (parts_at nodes p) stand))
          where
            stand : Under (parts_at nodes p)
            stand = parts_of p (λ m at_p. (let is_init : Some m.kind ≡ Some kind.InitDeclarator = sym (ap kind_if at_p) ∙ e in let same : m.kind ≡ kind.InitDeclarator = cc in ap is_holding same)) mode
        declares_fine way p o e mode = declarator way p mode

        declaration_fine : (way : Naming) (ps : List ℕ) → Under ps → Fine u (declaration_in way nodes ps)
        declaration_fine way ps h =
            fine_both (inside (take 1 ps)) (flat_map (λ p. declares way nodes p (kind_at nodes p)) (drop 1 ps)) (through (take 1 ps) (taken_under 1 ps h))
            (fine_each (λ p. declares way nodes p (kind_at nodes p)) (drop 1 ps) (λ k p e. declares_fine way p (kind_at nodes p) refl (dropped_under 1 ps h k p e)))

        lone_fine : (p : ℕ) → under p ≡ u → (o : Option Node) → slice_get nodes p ≡ o → Fine u (lone_specifiers nodes p (kind_if o))
        lone_fine p mode None at_p = inner u p mode
        lone_fine p mode (Some x) at_p = by x.kind refl
          where
            tags : (o : Option Node) → o ≡ Some x → is_tagging x.kind ≡ true → Fine u (lone_tag (first_if o))
            tags None e tagged = let never : None ≡ Some x = e in absurd cc
            tags (Some y) e tagged =
                let same : y ≡ x = same_Some y x e in
                a_tag p y (at_p ∙ sym e) (subst (λ (z : Node). is_tagging z.kind ≡ true) (sym same) tagged) role.Alone refl true

            by : (k : Kind) → x.kind ≡ k → Fine u (lone_specifiers nodes p (Some k))
            by kind.StructTag e = tags (slice_get nodes p) at_p (ap is_tagging e)
            by k e = inner u p mode

        by_declaration : (ps : List ℕ) → Under ps → Fine u (declaration nodes ps)
        by_declaration [] h = steps.nothing name tok site at u
        by_declaration (p ∷ []) h = lone_fine p (h 0 p refl) (slice_get nodes p) refl
        by_declaration (p ∷ q ∷ ps) h = declaration_fine (Declared (storage_of nodes (p ∷ q ∷ ps))) (p ∷ q ∷ ps) h

        -- the list of another function
        other_list : (l : ℕ) → (l ≡ list → ⊥) → (m : Node) → slice_get nodes l ≡ Some m → m.kind ≡ kind.FunctionDeclarator → under l ≡ u → Under (drop 1 (parts_at nodes l))
        other_list l other m at_l is mode k p e =
            let x = dropped 1 (parts_at nodes l) k p e in
            let f : slice_get m.parts x.0 ≡ Some p = sym (ap (λ o. slice_get (parts_if o) x.0) at_l) ∙ x.1 in
            is_under.parts l x.0 p m at_l f (not_body l m at_l (λ block. (let never : kind.FunctionDeclarator ≡ kind.Compound = sym is ∙ block in cc))) (λ same. absurd (other same)) ∙ mode

        -- the list next to the name of a definition
        own_list : (q : ℕ) → under q ≡ u → ((declarator_of nodes q).next ≡ derivation.Function list → ⊥) → Under (list_of nodes (declarator_of nodes q).next)
        own_list q mode other = by (declarator_of nodes q).next refl
          where
            by : (d : Derivation) → (declarator_of nodes q).next ≡ d → Under (list_of nodes d)
            by (derivation.Function l) e =
                let x = (reaches nodes (λ a. under a ≡ u) (first_alike u) q mode).next l e in
                other_list l (λ same. other (e ∙ ap derivation.Function same)) x.0 x.1.0 x.1.1.0 x.1.1.1
            by derivation.Nothing e = none_under
            by derivation.Other e = none_under

      -- ---- definitions

      -- the items of the body stand inside
      body_items : (k p : ℕ) → slice_get (parts_at nodes body) k ≡ Some p → under p ≡ true
      body_items k p e = by (slice_get nodes body) refl e
        where
          by : (o : Option Node) → slice_get nodes body ≡ o → slice_get (parts_if o) k ≡ Some p → under p ≡ true
          by None at_b e = let never : None ≡ Some p = e in absurd cc
          by (Some m) at_b e = is_under.items_of k p m at_b e

      -- and so do the parameters
      list_parts : Under true (drop 1 (parts_at nodes list))
      list_parts k p e = by (slice_get nodes list) refl e
        where
          by : (o : Option Node) → slice_get nodes list ≡ o → slice_get (drop 1 (parts_if o)) k ≡ Some p → under p ≡ true
          by None at_l e = let never : None ≡ Some p = e in absurd cc
          by (Some m) at_l e = is_under.parameters k p m at_l (behind m.parts e)
            where
              behind : (ps : List ℕ) → slice_get (drop 1 ps) k ≡ Some p → slice_get ps (suc k) ≡ Some p
              behind [] e = let never : None ≡ Some p = e in absurd cc
              behind (q ∷ ps) e = e

      module _ (m : Node) (here_i : slice_get nodes i ≡ Some m) (defines : m.kind ≡ kind.FunctionDefinition) where
        plain_i : is_holding m.kind ≡ false
        plain_i = ap is_holding defines

        no_fourth : (q r : ℕ) (rest : List ℕ) → drop 2 m.parts ≡ q ∷ r ∷ rest → ⊥
        no_fourth q r rest e = four m.parts refl e
          where
            four : (ps : List ℕ) → m.parts ≡ ps → drop 2 ps ≡ q ∷ r ∷ rest → ⊥
            four [] f g = let never : [] ≡ q ∷ r ∷ rest = g in absurd cc
            four (a ∷ []) f g = let never : [] ≡ q ∷ r ∷ rest = g in absurd cc
            four (a ∷ b ∷ ps) f g =
                let few = orderly.definitions i m here_i defines in
                let whole : length m.parts ≡ length (a ∷ b ∷ q ∷ r ∷ rest) = ap length (f ∙ ap (λ l. a ∷ b ∷ l) g) in
                omega (arith, few, whole)

        second : (k p : ℕ) → slice_get (take 1 (drop 1 m.parts)) k ≡ Some p → slice_get m.parts 1 ≡ Some p
        second k p e = by m.parts k e
          where
            by : (ps : List ℕ) (k : ℕ) → slice_get (take 1 (drop 1 ps)) k ≡ Some p → slice_get ps 1 ≡ Some p
            by [] k e = let never : None ≡ Some p = e in absurd cc
            by (a ∷ []) k e = let never : None ≡ Some p = e in absurd cc
            by (a ∷ b ∷ ps) zero e = e
            by (a ∷ b ∷ ps) (suc k) e = let never : None ≡ Some p = e in absurd cc

        third : (q : ℕ) (rest : List ℕ) → drop 2 m.parts ≡ q ∷ rest → slice_get m.parts 2 ≡ Some q
        third q rest e = by m.parts e
          where
            by : (ps : List ℕ) → drop 2 ps ≡ q ∷ rest → slice_get ps 2 ≡ Some q
            by [] e = let never : [] ≡ q ∷ rest = e in absurd cc
            by (a ∷ []) e = let never : [] ≡ q ∷ rest = e in absurd cc
            by (a ∷ b ∷ ps) e = ap (λ l. slice_get l 0) e

        abbrev own_steps : List Step
        own_steps = flat_map (own_parameters nodes) (take 1 (drop 1 m.parts))

        -- the definition itself: its parameters and the items of its body stand inside
        module _ (same_i : i ≡ definition_at) where
          list_fine : (q : ℕ) → under q ≡ false → (d : Derivation) → (declarator_of nodes q).next ≡ d → Fine true (inside (list_of nodes d)) ⊎ Fine false (inside (list_of nodes d))
          list_fine q mode (derivation.Function l) e = by (l == list) refl
            where
              by : (b : Bool) → (l == list) ≡ b → Fine true (inside (drop 1 (parts_at nodes l))) ⊎ Fine false (inside (drop 1 (parts_at nodes l)))
              by true f = inl (subst (λ x. Fine true (inside (drop 1 (parts_at nodes x)))) (sym (eqb-true l list f)) (through true (drop 1 (parts_at nodes list)) list_parts))
              by false f =
                  inr (through false (drop 1 (parts_at nodes l))
                  (subst (λ d. Under false (list_of nodes d)) e
                  (own_list false q mode (λ next. (let both : derivation.Function l ≡ derivation.Function list = sym e ∙ next in let same : l ≡ list = cc in false≢true (sym f ∙ eq-eqb l list same))))))
          list_fine q mode derivation.Nothing e = inl (steps.nothing name tok site at true)
          list_fine q mode derivation.Other e = inl (steps.nothing name tok site at true)

          own_either : (ps : List ℕ) → ((k p : ℕ) → slice_get ps k ≡ Some p → under p ≡ false) → length ps ≤ 1 → Fine true (flat_map (own_parameters nodes) ps) ⊎ Fine false (flat_map (own_parameters nodes) ps)
          own_either [] h few = inl (steps.nothing name tok site at true)
          own_either (q ∷ []) h few = elim (list_fine q (h 0 q refl) (declarator_of nodes q).next refl) [
            | inl x ↦ inl (fine_both true (own_parameters nodes q) [] x (steps.nothing name tok site at true))
            | inr x ↦ inr (fine_both false (own_parameters nodes q) [] x (steps.nothing name tok site at false))
          ]
          own_either (q ∷ r ∷ ps) h few = absurd (omega (arith, few))

          few_taken : (ps : List ℕ) → length (take 1 ps) ≤ 1
          few_taken [] = omega arith
          few_taken (p ∷ ps) = omega arith

          items_inside : (rest : List ℕ) → drop 2 m.parts ≡ rest → Fine true (flat_map (items_of nodes) rest)
          items_inside [] e = steps.nothing name tok site at true
          items_inside (q ∷ []) e =
              let same : q ≡ body = its.bodied q m (ap (slice_get nodes) (sym same_i) ∙ here_i) (third q [] e) in
              fine_both true (items_of nodes q) [] (through true (parts_at nodes q) (λ k p f. body_items k p (ap (λ x. slice_get (parts_at nodes x) k) (sym same) ∙ f))) (steps.nothing name tok site at true)
          items_inside (q ∷ r ∷ rest) e = absurd (no_fourth q r rest e)

          out : under i ≡ false
          out = ap under same_i ∙ is_under.definition_out

          scope_out : Fine false (in_scope (own_steps ++ flat_map (items_of nodes) (drop 2 m.parts)))
          scope_out = elim (own_either (take 1 (drop 1 m.parts)) (λ k p e. parts_under false i m here_i plain_i out 1 p (second k p e)) (few_taken (drop 1 m.parts))) [
            | inl x ↦ steps.closed name tok site at (own_steps ++ flat_map (items_of nodes) (drop 2 m.parts)) (fine_both true own_steps (flat_map (items_of nodes) (drop 2 m.parts)) x (items_inside (drop 2 m.parts) refl))
            | inr x ↦ steps.closed_behind name tok site at own_steps (flat_map (items_of nodes) (drop 2 m.parts)) x (items_inside (drop 2 m.parts) refl)
          ]

          scope_inside : Fine (under i) (in_scope (own_steps ++ flat_map (items_of nodes) (drop 2 m.parts)))
          scope_inside = subst (λ u. Fine u (in_scope (own_steps ++ flat_map (items_of nodes) (drop 2 m.parts)))) (sym out) scope_out

        -- another definition
        module _ (other_i : i ≡ definition_at → ⊥) where
          own_fine : Fine (under i) own_steps
          own_fine =
              fine_each (under i) (own_parameters nodes) (take 1 (drop 1 m.parts))
              (λ k p e. (let f = second k p e in
              through (under i) (list_of nodes (declarator_of nodes p).next)
              (own_list (under i) p (parts_under (under i) i m here_i plain_i refl 1 p f) (λ next. other_i (its.no_other_list i p m here_i defines f next)))))

          items_fine : (rest : List ℕ) → drop 2 m.parts ≡ rest → Fine (under i) (flat_map (items_of nodes) rest)
          items_fine [] e = steps.nothing name tok site at (under i)
          items_fine (q ∷ []) e = fine_both (under i) (items_of nodes q) [] (by (slice_get nodes q) refl) (steps.nothing name tok site at (under i))
            where
              f : slice_get m.parts 2 ≡ Some q
              f = third q [] e

              not_its : q ≡ body → ⊥
              not_its same = other_i (its.no_other_body i 2 m here_i (f ∙ ap Some same))

              by : (o : Option Node) → slice_get nodes q ≡ o → Fine (under i) (inside (parts_if o))
              by None at_q = through (under i) [] (none_under (under i))
              by (Some x) at_q =
                  through (under i) x.parts
                  (λ j p g. is_under.parts q j p x at_q g not_its (λ same. zero_part j p x at_q g same) ∙ parts_under (under i) i m here_i plain_i refl 2 q f)
                where
                  zero_part : (j p : ℕ) (x : Node) → slice_get nodes q ≡ Some x → slice_get x.parts j ≡ Some p → q ≡ list → j ≡ 0
                  zero_part j p x at_q g same = absurd (its.bodied_apart i q m here_i defines f same)
          items_fine (q ∷ r ∷ rest) e = absurd (no_fourth q r rest e)

          scope_fine : Fine (under i) (in_scope (own_steps ++ flat_map (items_of nodes) (drop 2 m.parts)))
          scope_fine =
              steps.scope name tok site at (under i) (own_steps ++ flat_map (items_of nodes) (drop 2 m.parts))
              (fine_both (under i) own_steps (flat_map (items_of nodes) (drop 2 m.parts)) own_fine (items_fine (drop 2 m.parts) refl))

        by_definition : Fine (under i) (definition nodes m.parts)
        by_definition =
            fine_both (under i) (declaration_in (Declared (storage_of nodes m.parts)) nodes (take 2 m.parts)) _
            (declaration_fine (under i) (Declared (storage_of nodes m.parts)) (take 2 m.parts) (taken_under (under i) 2 m.parts (parts_under (under i) i m here_i plain_i refl)))
            (by (i == definition_at) refl)
          where
            by : (b : Bool) → (i == definition_at) ≡ b → Fine (under i) (in_scope (own_steps ++ flat_map (items_of nodes) (drop 2 m.parts)))
            by true q = scope_inside (eqb-true i definition_at q)
            by false q = scope_fine (λ same. false≢true (sym q ∙ eq-eqb i definition_at same))

      -- ---- all kinds

      a_block : (m : Node) → slice_get nodes i ≡ Some m → m.kind ≡ kind.Compound → Fine (under i) (block m.parts [] [])
      a_block m here_i is = by (i == body) refl
        where
          by : (c : Bool) → (i == body) ≡ c → Fine (under i) (block m.parts [] [])
          by true q =
              let same = eqb-true i body q in
              let all : Under true m.parts = λ k p e. is_under.items_of k p m (ap (slice_get nodes) (sym same) ∙ here_i) e in
              subst (λ u. Fine u (block m.parts [] [])) (sym (ap under same ∙ is_under.body_out))
              (steps.closed name tok site at (inside m.parts ++ in_scopes [] ++ inside []) (in_block true m.parts [] all (none_under true) [] (none_under true)))
          by false q =
              let all : Under (under i) m.parts = λ k p e.
              is_under.parts i k p m here_i e (λ same. false≢true (sym q ∙ eq-eqb i body same))
              (λ same. (let never : kind.Compound ≡ kind.FunctionDeclarator = sym is ∙ its.function m (sym (ap (slice_get nodes) same) ∙ here_i) in absurd cc)) in
              blocks (under i) m.parts [] [] all (none_under (under i)) (none_under (under i))

      -- a list of parameters
      a_list : (m : Node) → slice_get nodes i ≡ Some m → m.kind ≡ kind.FunctionDeclarator → Fine (under i) (inside (take 1 m.parts) ++ block (drop 1 m.parts) [] [])
      a_list m here_i is = fine_both (under i) (inside (take 1 m.parts)) (block (drop 1 m.parts) [] []) (through (under i) (take 1 m.parts) first_under) (by (i == list) refl)
        where
          no_block : i ≡ body → ⊥
          no_block = not_body i m here_i (λ block. (let never : kind.FunctionDeclarator ≡ kind.Compound = sym is ∙ block in cc))

          first_under : Under (under i) (take 1 m.parts)
          first_under k p e = is_under.parts i 0 p m here_i (first m.parts k e) no_block (λ same. refl)
            where
              first : (ps : List ℕ) (k : ℕ) → slice_get (take 1 ps) k ≡ Some p → slice_get ps 0 ≡ Some p
              first [] k e = let never : None ≡ Some p = e in absurd cc
              first (a ∷ ps) zero e = e
              first (a ∷ ps) (suc k) e = let never : None ≡ Some p = e in absurd cc

          by : (c : Bool) → (i == list) ≡ c → Fine (under i) (block (drop 1 m.parts) [] [])
          by true q =
              let same = eqb-true i list q in
              let all : Under true (drop 1 m.parts) = subst (λ o. Under true (drop 1 (parts_if o))) (ap (slice_get nodes) (sym same) ∙ here_i) list_parts in
              subst (λ u. Fine u (block (drop 1 m.parts) [] [])) (sym (ap under same ∙ is_under.list_out))
              (steps.closed name tok site at (inside (drop 1 m.parts) ++ in_scopes [] ++ inside []) (in_block true (drop 1 m.parts) [] all (none_under true) [] (none_under true)))
          by false q =
              let all : Under (under i) m.parts = λ k p e. is_under.parts i k p m here_i e no_block (λ same. absurd (false≢true (sym q ∙ eq-eqb i list same))) in
              blocks (under i) (drop 1 m.parts) [] [] (dropped_under (under i) 1 m.parts all) (none_under (under i)) (none_under (under i))

      module _ (m : Node) (here_i : slice_get nodes i ≡ Some m) where
        all_parts : is_holding m.kind ≡ false → Fine (under i) (inside m.parts)
        all_parts plain = through (under i) m.parts (parts_under (under i) i m here_i plain refl)

        plainly : is_holding m.kind ≡ false → Under (under i) m.parts
        plainly plain = parts_under (under i) i m here_i plain refl

        content : is_tagging m.kind ≡ true → Fine (under i) (content_tag tokens m.first)
        content tagged = a_tag (under i) i m here_i tagged role.Content refl (is_identifier (slice_get tokens (m.first + 1)))

        controlled : is_holding m.kind ≡ false → Fine (under i) (block (take 1 m.parts) (drop 1 m.parts) [])
        controlled plain =
            blocks (under i) (take 1 m.parts) (drop 1 m.parts) [] (taken_under (under i) 1 m.parts (plainly plain)) (dropped_under (under i) 1 m.parts (plainly plain))
            (none_under (under i))

        -- a member's declaration is no block
        member_parts : (k p : ℕ) → slice_get m.parts k ≡ Some p → m.kind ≡ kind.StructContent → Under (under i) (parts_at nodes p)
        member_parts k p e content_is =
            parts_of (under i) p (λ x at_p. orderly.members i k p m x here_i content_is e at_p) (plainly (ap is_holding content_is) k p e)

        by_kind : (k : Kind) → m.kind ≡ k → Fine (under i) (script_by k tokens nodes i m)
        by_kind kind.FunctionDefinition e = by_definition m here_i e
        by_kind kind.Declaration e = by_declaration (under i) m.parts (plainly (ap is_holding e))
        by_kind kind.Parameter e = declaration_fine (under i) Parameters m.parts (plainly (ap is_holding e))
        by_kind kind.FunctionDeclarator e = a_list m here_i e
        by_kind kind.StructContent e =
            fine_both (under i) (content_tag tokens m.first) (flat_map (members_of nodes i) m.parts) (content (ap is_tagging e))
            (fine_each (under i) (members_of nodes i) m.parts (λ k p f. declaration_fine (under i) (Members i) (parts_at nodes p) (member_parts k p f e)))
        by_kind kind.EnumContent e = fine_both (under i) (content_tag tokens m.first) (inside m.parts) (content (ap is_tagging e)) (all_parts (ap is_holding e))
        by_kind kind.Enumerator e =
            fine_both (under i) (inside m.parts) (Happens (event.Name m.first role.Enumerator) ∷ []) (all_parts (ap is_holding e))
            (a_name (under i) m.first role.Enumerator refl (λ out same. apart.enumerators i m here_i e same))
        by_kind kind.StructTag e = a_tag (under i) i m here_i (ap is_tagging e) role.Mentioned refl true
        by_kind kind.EnumTag e = a_tag (under i) i m here_i (ap is_tagging e) role.Mentioned refl true
        by_kind kind.TypedefName e = a_use (under i) m here_i (ap is_using e) refl
        by_kind kind.Identifier e = a_use (under i) m here_i (ap is_using e) refl
        by_kind kind.Call e =
            fine_both (under i) (Happens (event.Name m.first role.Used) ∷ []) (inside m.parts) (a_use (under i) m here_i (ap is_using e) refl) (all_parts (ap is_holding e))
        by_kind kind.Compound e = a_block m here_i e
        by_kind kind.If e = controlled (ap is_holding e)
        by_kind kind.Switch e = controlled (ap is_holding e)
        by_kind kind.While e = controlled (ap is_holding e)
        by_kind kind.Do e =
            blocks (under i) [] (take 1 m.parts) (drop 1 m.parts) (none_under (under i)) (taken_under (under i) 1 m.parts (plainly (ap is_holding e)))
            (dropped_under (under i) 1 m.parts (plainly (ap is_holding e)))
        by_kind kind.For e =
            blocks (under i) (take (length m.parts - 1) m.parts) (drop (length m.parts - 1) m.parts) [] (taken_under (under i) (length m.parts - 1) m.parts (plainly (ap is_holding e)))
            (dropped_under (under i) (length m.parts - 1) m.parts (plainly (ap is_holding e))) (none_under (under i))
        by_kind k e = all_parts (ap is_holding e)

      script : Fine (under i) (script_of tokens nodes i)
      script = by (slice_get nodes i) refl
        where
          by : (o : Option Node) → slice_get nodes i ≡ o → Fine (under i) (script_if o tokens nodes i)
          by None at_i = steps.nothing name tok site at (under i)
          by (Some m) at_i = by_kind m at_i m.kind refl

      one_told : IsTold i
      one_told = record {
        level = subst (AreLevel name tok site) (sym (events_ruled tokens nodes i)) (λ st. steps.fine_level name tok site at (under i) (script_of tokens nodes i) script st);
        tame = λ out.
            subst (AreTame name tok site) (sym (events_ruled tokens nodes i))
            (λ st h. (let x = steps.fine_tame name tok site at (script_of tokens nodes i) (subst (λ u. Fine u (script_of tokens nodes i)) out script) st h in (x.0, (tt, x.1))));
        unused = λ within.
            subst (AreUnused name tok site) (sym (events_ruled tokens nodes i))
            (tt, steps.fine_unused name tok site at (script_of tokens nodes i) (subst (λ u. Fine u (script_of tokens nodes i)) within script));
      }

    told_below : (m i : ℕ) → i < m → IsTold i
    told_below zero i low = absurd (omega (arith, low))
    told_below (suc m) i low = one_told i (λ k less. told_below m k (omega (arith, low, less)))

    -- ---- the unit

    items_tame : AreTame name tok site (events_of tokens nodes items)
    items_tame =
        subst (AreTame name tok site) (in_turn (before [] (length nodes) (events_at tokens nodes)) items)
        (λ st h. steps.fine_tame name tok site (before [] (length nodes) (events_at tokens nodes)) (inside items)
        (through (length nodes) (λ k less. told_below (suc k) k (omega arith)) false items (λ k p e. is_under.top k p e)) st h)

    unseen : IsSeen name tok site (past_of (events_of tokens nodes items) (length (events_of tokens nodes items))) → ⊥
    unseen = steps.never_seen name tok site (events_of tokens nodes items) (items_tame [] refl).1

pub inside_alone : Laws.ParametersStayInside
inside_alone tokens nodes items name definition_at list body under token site its orderly is_under apart = unseen nodes tokens items name definition_at list body under token site its orderly is_under apart

-- no definition tells the list once more, so its number may be one that no node has, and that of its body too
pub list_alone : Laws.ListsStayInside
list_alone tokens nodes items name list under token site lone orderly within apart =
    inside_alone tokens nodes items name (length nodes) list (length nodes) under token site
    (record {
      bodied = λ q m at e. absurd (no_node m at);
      block = λ m at. absurd (no_node m at);
      function = λ m at. subst (λ (x : Node). x.kind ≡ kind.FunctionDeclarator) (same_Some lone.own m (sym lone.at ∙ at)) lone.declares;
      no_other_list = λ i q m at is e next. absurd (lone.no_definition i q m at is e next);
      bodied_apart = lone.no_body;
      no_other_body = λ i k m at e. (let below = orderly.below i k (length nodes) m at e in let few = slice_get_within nodes i m at in absurd (omega (arith, below, few)));
    })
    orderly
    (record {
      parts = λ i k p m at e other only. within.parts i k p m at e only;
      parameters = within.listed;
      items_of = λ k p m at e. absurd (no_node m at);
      top = within.top;
      definition_out = within.above (length nodes) past_list;
      list_out = within.above list (omega arith);
      body_out = within.above (length nodes) past_list;
    })
    apart
  where
    no_node : (m : Node) → slice_get nodes (length nodes) ≡ Some m → ⊥
    no_node m at = let few = slice_get_within nodes (length nodes) m at in omega (arith, few)

    past_list : list ≤ length nodes
    past_list = let few = slice_get_within nodes list lone.own lone.at in omega (arith, few)
