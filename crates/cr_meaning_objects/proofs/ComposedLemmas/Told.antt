-- The name of a declared object or function is told by the events of the unit, since what stands around its declaration are statements and
-- definitions, each of which tells its parts; so it has an entity (C11 6.2.1p7, 6.8.2).
use Rattle.std.proofs.Common.{◌≡◌, ℕ, zero, suc, ◌+◌, ◌<◌, ◌≤◌, ◌==◌, ◌⊎◌, inl, inr, Bool, true, false, not, ◌&&◌, List, [], ◌∷◌, ◌++◌, Option, None, Some, length, drop, slice_get, refl, sym, ap, subst, ◌∙◌, arith}
use Rattle.std.specs.List.{list_any, flat_map}
use Rattle.std.proofs.lemmas.Bool.{false≢true, both_ways, not-true, and_parts, eqb-true}
use Rattle.std.proofs.lemmas.Option.{slice_get_within, same_Some}
use Rattle.cr_tokens.specs.declared.token.Token.{Token}
use Rattle.cr_syntax.specs.declared.node.Kind.{Kind}
use Rattle.cr_syntax.specs.declared.node.Kind.TheVariants as kind
use Rattle.cr_syntax.specs.declared.node.Node.{Node}
use Rattle.cr_syntax.specs.declared.part.Part.{Part}
use Rattle.cr_syntax.specs.Tables.{rule_of, side_of}
use Rattle.cr_syntax.specs.Kept.{row_in}
use Rattle.cr_syntax_nodes.specs.Laid.{stands_for}
use Rattle.cr_scopes_events.specs.declared.event.Role.{Role}
use Rattle.cr_scopes_events.specs.Declarators.{declarator_of}
use Rattle.cr_scopes_events.specs.Scripts.{storage_of, role_by}
use Rattle.cr_scopes_events.specs.Events.{events_at, events_of}
use Rattle.cr_scopes.specs.Resolved.{past_of}
use Rattle.cr_scopes.specs.Spelled.{name_of as spelled_name}
use Rattle.cr_scopes.specs.Units.{unit_events}
use Rattle.cr_scopes_bindings.specs.Entities.{declared_entity}
use Rattle.cr_scopes_linkage.specs.Shared.Sorts.{is_value, Never}
use Rattle.cr_scopes_linkage.specs.Shared.Origins.{is_external}
use Rattle.cr_scopes_linkage.specs.Functions.Functions.{is_other}
use Rattle.cr_scopes_linkage.proofs.FunctionsLemmas.Told.{Has, is_there, not_never, is_statement, statement_tells, body_tells, external_tells, item_tells}
use Rattle.cr_scopes_linkage.proofs.FunctionsLemmas.Shared.{has_entity}
use Rattle.cr_check_enclosing.specs.Above.{above_of}
use Rattle.cr_typed.specs.declared.typed.Typed.{Typed}
use Rattle.cr_meaning_declarations.specs.Units.Owned.{AreOfUnit}
use Rattle.cr_meaning_declarations.proofs.UnitsLemmas.Rows.{clear_side, clear_laid, clear_at}
use Rattle.cr_meaning_declarations.proofs.UnitsLemmas.Handing.{laid_at, parts_below}
use Rattle.cr_meaning_declarations.proofs.NamesLemmas.Parents.{IsPartOf, part_below, above_is, above_some, times, weight, once_more}
use Rattle.cr_meaning_types.specs.Known.Shaped.{fits, IsPart}
use Rattle.cr_meaning_declarations.specs.Declared.Files.{IsUnitOfFile}
use Rattle.cr_meaning_declarations.specs.Linked.Laws.{DeclaresValue}
use Rattle.cr_meaning_declarations.proofs.DeclaredLemmas.Files.{has_unit}
use Rattle.cr_meaning_declarations.proofs.LinkedLemmas.Order.{standing, stands_alone, among, place_of, external_alone, without, clears, alone_above}
use Rattle.cr_meaning_objects.proofs.ChainedLemmas.Known.{there}
use Rattle.cr_meaning_objects.proofs.MainsLemmas.Defined.{values}
use Rattle.cr_meaning_objects.specs.Composed.Laws
use Rattle.cr_meaning_references.proofs.TreesLemmas.Shaped.{shaped}

-- ---- what stands alone, but for blocks

abbrev is_block : Kind → Bool
is_block kind.Compound = true
is_block k = false

abbrev is_loose : Kind → Bool
is_loose k = stands_alone k && not (is_block k)

block_only : (k : Kind) → is_block k ≡ true → k ≡ kind.Compound
block_only kind.Compound h = refl
block_only k h = absurd (false≢true h)

-- all of these but the first
abbrev without_loose : Part → Bool
without_loose p = not (list_any (λ k. stands_for p k) (drop 1 standing))

loose_place : (k : Kind) → is_loose k ≡ true → (i : ℕ) × (slice_get (drop 1 standing) i ≡ Some k)
loose_place k h = let both = and_parts (stands_alone k) (not (is_block k)) h in by both.1 (place_of k both.0)
  where
    by : not (is_block k) ≡ true → (i : ℕ) × (slice_get standing i ≡ Some k) → (i : ℕ) × (slice_get (drop 1 standing) i ≡ Some k)
    by loose (zero, e) = let same : kind.Compound ≡ k = same_Some kind.Compound k e in absurd (false≢true (ap (λ x. not (is_block x)) same ∙ loose))
    by loose (suc i, e) = (i, e)

loose_clears : (p : Part) (k : Kind) → without_loose p ≡ true → stands_for p k ≡ true → is_loose k ≡ false
loose_clears p k c s = by (is_loose k) refl
  where
    by : (b : Bool) → is_loose k ≡ b → is_loose k ≡ false
    by false q = q
    by true q =
        let at = loose_place k q in
        absurd (both_ways (list_any (λ x. stands_for p x) (drop 1 standing)) (not-true (list_any (λ x. stands_for p x) (drop 1 standing)) c) (among (λ x. stands_for p x) (drop 1 standing) at.0 k at.1 s))

-- a definition has a block alone as such a part, and a declaration has none
definition_clear : clear_side is_loose without_loose loose_clears (side_of kind.FunctionDefinition) ≡ true
unfolding rule_of
definition_clear = refl

declaration_clear : clear_side stands_alone without clears (side_of kind.Declaration) ≡ true
unfolding rule_of
declaration_clear = refl

abbrev IsSort : Kind → Type 0
IsSort k = (is_statement k ≡ true) ⊎ ((k ≡ kind.Declaration) ⊎ (k ≡ kind.FunctionDefinition))

sort_of : (k : Kind) → stands_alone k ≡ true → IsSort k
sort_of kind.Compound h = inl refl
sort_of kind.ExpressionStatement h = inl refl
sort_of kind.If h = inl refl
sort_of kind.Switch h = inl refl
sort_of kind.While h = inl refl
sort_of kind.Do h = inl refl
sort_of kind.For h = inl refl
sort_of kind.Label h = inl refl
sort_of kind.Case h = inl refl
sort_of kind.Default h = inl refl
sort_of kind.Goto h = inl refl
sort_of kind.Break h = inl refl
sort_of kind.Continue h = inl refl
sort_of kind.Return h = inl refl
sort_of kind.Declaration h = inr (inl refl)
sort_of kind.FunctionDefinition h = inr (inr refl)
sort_of k h = absurd (false≢true h)

-- ---- a node without a node above it is an item (6.9)

has_place : (ps : List ℕ) (p : ℕ) → 1 ≤ times ps p → (k : ℕ) × (slice_get ps k ≡ Some p)
has_place [] p h = absurd (omega (arith, h))
has_place (q ∷ ps) p h = by (q == p) refl (λ f. has_place ps p f)
  where
    by : (b : Bool) → (q == p) ≡ b → (1 ≤ times ps p → (k : ℕ) × (slice_get ps k ≡ Some p)) → (k : ℕ) × (slice_get (q ∷ ps) k ≡ Some p)
    by true e rest = (0, ap Some (eqb-true q p e))
    by false e rest =
        let none : weight (q == p) ≡ 0 = ap weight e in
        let more = once_more q p ps in
        let r = rest (omega (arith, h, more, none)) in
        (suc r.0, r.1)

in_either : (xs ys : List ℕ) (k p : ℕ) → slice_get (xs ++ ys) k ≡ Some p → ((m : ℕ) × (slice_get xs m ≡ Some p)) ⊎ ((m : ℕ) × (slice_get ys m ≡ Some p))
in_either [] ys k p e = inr (k, e)
in_either (x ∷ xs) ys zero p e = inl (0, e)
in_either (x ∷ xs) ys (suc k) p e = elim (in_either xs ys k p e) [ inl r ↦ inl (suc r.0, r.1) | inr r ↦ inr r ]

in_parts : (ns : List Node) (k p : ℕ) → slice_get (flat_map (λ n. n.parts) ns) k ≡ Some p → (a : ℕ) × ((n : Node) × ((slice_get ns a ≡ Some n) × ((m : ℕ) × (slice_get n.parts m ≡ Some p))))
in_parts [] k p e = absurd (cc e)
in_parts (n ∷ ns) k p e = elim (in_either n.parts (flat_map (λ n. n.parts) ns) k p e) [
  | inl r ↦ (0, (n, (refl, r)))
  | inr r ↦ (let x = in_parts ns r.0 p r.1 in (suc x.0, x.1))
]

module _ (t : Typed) (u : AreOfUnit t) where
  pub item_there : (p : ℕ) → p < length t.nodes → above_of t.nodes (length t.nodes) p ≡ None → (k : ℕ) × (slice_get t.items k ≡ Some p)
  item_there p low e =
      let one = u.once p low in
      let all = has_place (flat_map (λ n. n.parts) t.nodes ++ t.items) p (omega (arith, one)) in
      elim (in_either (flat_map (λ n. n.parts) t.nodes) t.items all.0 p all.1) [
        | inl r ↦ (let x = in_parts t.nodes r.0 p r.1 in absurd (never x.0 (above_is t u p x.0 (record { parent = x.1.0; at = x.1.1.0; place = x.1.1.1.0; is = x.1.1.1.1 }))))
        | inr r ↦ r
      ]
    where
      never : (a : ℕ) → above_of t.nodes (length t.nodes) p ≡ Some a → ⊥
      never a f = let both : None ≡ Some a = sym e ∙ f in absurd (cc both)

module _ (file : List ℕ) (t : Typed) (it : IsUnitOfFile file t) where
  open has_unit file t it use {unit, order}

  abbrev tokens : List Token
  tokens = it.unit.tokens.list.items

  -- a part is of no such kind, by the right side of its node's
  of_side : (test : Kind → Bool) (clear : Part → Bool) (clears : (p : Part) (k : Kind) → clear p ≡ true → stands_for p k ≡ true → test k ≡ false) (x y : ℕ) (h : IsPartOf t unit x y) (n : Node)
      → slice_get t.nodes x ≡ Some n → clear_side test clear clears (side_of h.parent.kind) ≡ true → test n.kind ≡ false
  of_side test clear clears x y h n at side =
      let row = clear_laid test clear clears unit.tokens (side_of h.parent.kind) (row_in t.nodes h.parent.parts) h.parent.first (h.parent.last + 1) side (laid_at t unit y h.parent h.at) in
      let one = clear_at test clear clears t.nodes unit.below h.parent.parts (parts_below t unit y h.parent h.at) row h.place x h.is in
      let same : one.0 ≡ n = same_Some one.0 n (sym one.1.0 ∙ at) in
      ap (λ (z : Node). test z.kind) (sym same) ∙ one.1.1

  -- ---- what is told around

  module _ (token : ℕ) (r : Role) where
    abbrev Tells : ℕ → Type 0
    Tells x = Has token r (events_at tokens t.nodes x)

    -- of a block, a part of it tells the name
    abbrev Inner : Node → Type 0
    Inner n = n.kind ≡ kind.Compound → (j : ℕ) × ((p : ℕ) × ((slice_get n.parts j ≡ Some p) × Tells p))

    -- in a definition it is its body
    in_definition : (x y : ℕ) (h : IsPartOf t unit x y) (n : Node) → slice_get t.nodes x ≡ Some n → stands_alone n.kind ≡ true → h.parent.kind ≡ kind.FunctionDefinition → Inner n → Tells y
    in_definition x y h n at alone is inner = by h.place h.is
      where
        block : n.kind ≡ kind.Compound
        block = of_test (is_block n.kind) refl
          where
            of_test : (b : Bool) → is_block n.kind ≡ b → n.kind ≡ kind.Compound
            of_test true e = block_only n.kind e
            of_test false e =
                let never : is_loose n.kind ≡ false = of_side is_loose without_loose loose_clears x y h n at (ap (λ k. clear_side is_loose without_loose loose_clears (side_of k)) is ∙ definition_clear) in
                absurd (false≢true (sym never ∙ ap (λ b. b && not (is_block n.kind)) alone ∙ ap not e))

        fits_there : (place : ℕ) → slice_get h.parent.parts place ≡ Some x → fits kind.FunctionDefinition place kind.Compound ≡ true
        fits_there place e =
            let part : IsPart it.checked.by.tree y h.parent place x = (shaped file t it).parts y h.parent (there file t it y h.parent h.at) place x e in
            let same : part.own ≡ n = same_Some part.own n (sym part.at ∙ there file t it x n at) in
            ap (λ k. fits k place kind.Compound) (sym is) ∙ ap (fits h.parent.kind place) (sym block ∙ ap (λ (z : Node). z.kind) (sym same)) ∙ part.fits

        by : (place : ℕ) → slice_get h.parent.parts place ≡ Some x → Tells y
        by zero e = absurd (false≢true (fits_there 0 e))
        by (suc zero) e = absurd (false≢true (fits_there 1 e))
        by (suc (suc k)) e =
            let p = inner block in
            let low = part_below t unit p.1.0 x (record { parent = n; at = at; place = p.0; is = p.1.1.0 }) in
            let high = part_below t unit x y h in
            body_tells tokens t.nodes token r y h.parent h.at is k x n e at p.0 p.1.0 p.1.1.0 (omega (arith, low, high)) p.1.1.1

    above_tells : (x y : ℕ) (h : IsPartOf t unit x y) (n : Node) → slice_get t.nodes x ≡ Some n → stands_alone n.kind ≡ true → IsSort h.parent.kind → Tells x → Inner n → Tells y
    above_tells x y h n at alone (inl statement) tells inner = statement_tells tokens t.nodes token r y h.parent h.at statement h.place x h.is (part_below t unit x y h) tells
    above_tells x y h n at alone (inr (inl is)) tells inner =
        absurd (false≢true (sym (of_side stands_alone without clears x y h n at (ap (λ k. clear_side stands_alone without clears (side_of k)) is ∙ declaration_clear)) ∙ alone))
    above_tells x y h n at alone (inr (inr is)) tells inner = in_definition x y h n at alone is inner

    abbrev All : Type 0
    All = Has token r (events_of tokens t.nodes t.items)

    climbs : (fuel x : ℕ) (n : Node) → length t.nodes < fuel + x → slice_get t.nodes x ≡ Some n → stands_alone n.kind ≡ true → Tells x → Inner n → All
    climbs zero x n high at alone tells inner = let w = slice_get_within t.nodes x n at in absurd (omega (arith, high, w))
    climbs (suc fuel) x n high at alone tells inner = by (above_of t.nodes (length t.nodes) x) refl (λ y m less here own told in_it. climbs fuel y m (omega (arith, high, less)) here own told in_it)
      where
        by : (o : Option ℕ) → above_of t.nodes (length t.nodes) x ≡ o → ((y : ℕ) (m : Node) → x < y → slice_get t.nodes y ≡ Some m → stands_alone m.kind ≡ true → Tells y → Inner m → All) → All
        by None e rest = let k = item_there t unit x (slice_get_within t.nodes x n at) e in item_tells tokens t.nodes token r t.items k.0 x n k.1 at tells
        by (Some y) e rest =
            let h = above_some t unit (length t.nodes) x y e in
            let own = alone_above t unit order x y h n at alone in
            rest y h.parent (part_below t unit x y h) h.at own (above_tells x y h n at alone (sort_of h.parent.kind own) tells inner) (λ is. (h.place, (x, (h.is, tells))))

  module _ (token : ℕ) (v : DeclaresValue t.nodes token) where
    abbrev own_role : Role
    own_role = role_by (storage_of t.nodes v.node.parts) (declarator_of t.nodes v.declarator).next

    no_block : (k : Kind) → is_external k ≡ true → k ≡ kind.Compound → ⊥
    no_block k h e = false≢true (sym (ap is_external e) ∙ h)

    here : Has token own_role (events_of tokens t.nodes t.items)
    here =
        climbs token own_role (suc (length t.nodes)) v.declaration v.node (omega arith) v.is.at (external_alone v.node.kind v.is.external)
        (external_tells tokens t.nodes token own_role v.declaration v.declarator v.node v.is refl) (λ is. absurd (no_block v.node.kind v.is.external is))

    -- its events tell it
    pub value_told : Has token own_role (unit_events it.unit)
    value_told = subst (λ ns. Has token own_role (events_of tokens ns it.unit.items)) it.checked.by.elaborated.nodes_are (subst (λ is. Has token own_role (events_of tokens t.nodes is)) it.checked.by.elaborated.items_are here)

    entity : (k : ℕ) × (declared_entity it.names token ≡ Some k)
    entity = by (values file t it token)
      where
        by : Never is_value token (past_of (unit_events it.unit) (length (unit_events it.unit))) ⊎ ((token < length tokens) × Never is_other token (past_of (unit_events it.unit) (length (unit_events it.unit))))
            → (k : ℕ) × (declared_entity it.names token ≡ Some k)
        by (inl never) = absurd (false≢true (sym (not_never is_value token own_role (unit_events it.unit) value_told never) ∙ v.value))
        by (inr x) =
            has_entity (spelled_name file tokens) (unit_events it.unit) (length tokens) it.names token it.known (values file t it) x.0 (is_there token own_role (unit_events it.unit) value_told) x.1

pub declared : Laws.DeclaredValuesHaveEntities
declared file t it token v = entity file t it token v
