-- A name sees the automatic object of a block or a `for` around it (C11 6.2.1p4).
use Rattle.std.proofs.Common.{◌≡◌, ℕ, zero, suc, ◌+◌, ◌<◌, ◌≤◌, ◌==◌, inl, inr, Bool, true, false, ◌||◌, not, List, [], ◌∷◌, Option, None, Some, length, slice_get, slice_index_or, refl, sym, subst, ap, ◌∙◌, arith, if◌then◌else◌}
use Rattle.std.specs.List.{list_any}
use Rattle.std.specs.Option.{is_some}
use Rattle.std.proofs.lemmas.Bool.{and_parts, false≢true, not-true, or_left, or_right, eqb-true}
use Rattle.std.proofs.lemmas.Option.{slice_get_within}
use Rattle.cr_syntax.specs.declared.node.Kind.{Kind}
use Rattle.cr_syntax.specs.declared.node.Kind.TheVariants as kind
use Rattle.cr_syntax.specs.declared.node.Node.{Node}
use Rattle.cr_syntax.specs.declared.part.Part.{Part}
use Rattle.cr_syntax.specs.Tables.{rule_of, side_of}
use Rattle.cr_syntax.specs.Kept.{row_in}
use Rattle.cr_syntax_nodes.specs.Laid.{stands_for}
use Rattle.cr_check_enclosing.specs.Above.{above_of}
use Rattle.cr_check_expressions.specs.Forms.{form_of}
use Rattle.cr_scopes_visibility.specs.Sight.Scopes.{is_blocklike}
use Rattle.cr_typed.specs.declared.typed.Typed.{Typed}
use Rattle.cr_typed.specs.declared.typed.Duration.TheVariants as duration
use Rattle.cr_meaning_soundness.specs.Sorts.{IsAmong}
use Rattle.cr_meaning_typing.specs.Typed.Typing.{is_expression}
use Rattle.cr_meaning_operations.specs.Operations.{kind_if, kind_at, parts_if, entity_of, is_automatic_by, is_declaration, is_static_initialiser, nodes_from}
use Rattle.cr_meaning_declarations.specs.Units.Owned.{owns}
use Rattle.cr_meaning_declarations.proofs.UnitsLemmas.Rows.{clear_side, clear_laid, clear_at}
use Rattle.cr_meaning_declarations.proofs.UnitsLemmas.Handing.{laid_at, parts_below}
use Rattle.cr_meaning_declarations.proofs.NamesLemmas.Parents.{IsPartOf, part_below, above_some}
use Rattle.cr_meaning_declarations.specs.Declared.Files.{IsUnitOfFile}
use Rattle.cr_meaning_declarations.specs.Sight.Under.{is_under}
use Rattle.cr_meaning_declarations.proofs.SightLemmas.Under.{under_at, directly, deeper, further, not_above, outermost_outside}
use Rattle.cr_meaning_declarations.proofs.SightLemmas.Names.{stands}
use Rattle.cr_meaning_declarations.proofs.DeclaredLemmas.Files.{has_unit}
use Rattle.cr_meaning_declarations.proofs.LastingLemmas.Begun.{one_of}
use Rattle.cr_meaning_files.specs.Reached.{is_item, is_definition}
use Rattle.cr_meaning_files.specs.Seen.{entered_for, finds}
use Rattle.cr_meaning_files.specs.Local.{declaration_if, declaration_by, declaration_around, is_held_by, is_local, is_early}
use Rattle.cr_meaning_files.proofs.Loops.{whole}
use Rattle.cr_meaning_files.proofs.Seen.{finds_entered, finds_outside}
use Rattle.cr_meaning_files.proofs.Sight.{among_passed, only_declaration, holds_declaration, entered}

-- ---- a definition is no part of another node

pub only_definition : (k : Kind) → is_definition k ≡ true → k ≡ kind.FunctionDefinition
only_definition kind.FunctionDefinition h = refl
only_definition k h = absurd (false≢true h)

abbrev is_without : Part → Bool
is_without p = not (stands_for p kind.FunctionDefinition)

no_definitions : (p : Part) (k : Kind) → is_without p ≡ true → stands_for p k ≡ true → is_definition k ≡ false
no_definitions p k c s = by (is_definition k) refl
  where
    by : (b : Bool) → is_definition k ≡ b → b ≡ false
    by false q = refl
    by true q = absurd (false≢true (sym (not-true (stands_for p kind.FunctionDefinition) c) ∙ subst (λ (x : Kind). stands_for p x ≡ true) (only_definition k q) s))

abbrev pub is_for : Kind → Bool
is_for kind.For = true
is_for k = false

pub only_for : (k : Kind) → is_for k ≡ true → k ≡ kind.For
only_for kind.For h = refl
only_for k h = absurd (false≢true h)

sides_without : (k : Kind) → (is_for k || clear_side is_definition is_without no_definitions (side_of k)) ≡ true
unfolding rule_of
sides_without kind.For = refl
sides_without k = refl

running_plain : (k : Kind) → (is_expression (form_of k) || is_item k) ≡ true → is_definition k ≡ false
running_plain kind.FunctionDefinition h = absurd (false≢true h)
running_plain k h = refl

-- ---- lists

pub any_among : (test : ℕ → Bool) (xs : List ℕ) (x : ℕ) → IsAmong x xs → test x ≡ true → list_any test xs ≡ true
any_among test [] x h e = absurd h
any_among test (y ∷ xs) x (inl same) e = or_left (test y) (list_any test xs) (ap test same ∙ e)
any_among test (y ∷ xs) x (inr h) e = or_right (test y) (list_any test xs) (any_among test xs x h e)

-- a block and a `for` enter their objects for all their parts
entered_alike : (t : Typed) (holder p a : ℕ) (k : Kind) → is_blocklike k ≡ true → entered_for t holder k p ≡ entered_for t holder k a
entered_alike t holder p a kind.Compound h = refl
entered_alike t holder p a kind.For h = refl
entered_alike t holder p a k h = absurd (false≢true h)

module _ (file : List ℕ) (t : Typed) (it : IsUnitOfFile file t) where
  open has_unit file t it use {unit as u}

  abbrev above : ℕ → Option ℕ
  above a = above_of t.nodes (length t.nodes) a

  pub plain_part : (a i : ℕ) → IsPartOf t u a i → is_definition (kind_at t a) ≡ false
  plain_part a i h = elim (one_of (is_for h.parent.kind) _ (sides_without h.parent.kind)) [
    | inl loop ↦ running_plain (kind_at t a) ((whole t u i h.parent h.at (only_for h.parent.kind loop)).kinds h.place a (ap (λ o. slice_get (parts_if o) h.place) h.at ∙ h.is))
    | inr clear ↦
        (let row = clear_laid is_definition is_without no_definitions u.tokens (side_of h.parent.kind) (row_in t.nodes h.parent.parts) h.parent.first (h.parent.last + 1) clear (laid_at t u i h.parent h.at) in
        let one = clear_at is_definition is_without no_definitions t.nodes u.below h.parent.parts (parts_below t u i h.parent h.at) row h.place a h.is in
        ap (λ o. is_definition (kind_if o)) one.1.0 ∙ one.1.1)
  ]

  -- ---- the declaration around an object

  record IsAround (x p : ℕ) : Type 0 where
    declares : is_declaration (kind_at t p) ≡ true
    under : (q : ℕ) → IsPartOf t u p q → is_under t q x ≡ true

  around_is : (m x p : ℕ) → declaration_by m t x ≡ Some p → IsAround x p
  around_is zero x p e = absurd (cc e)
  around_is (suc m) x p e = by (above x) refl e (λ y f. around_is m y p f)
    where
      at : (a : ℕ) → IsPartOf t u x a → (b : Bool) → is_declaration (kind_at t a) ≡ b → (if b then Some a else declaration_by m t a) ≡ Some p → ((y : ℕ) → declaration_by m t y ≡ Some p → IsAround y p) → IsAround x p
      at a h true d f rest =
          let same : a ≡ p = cc f in
          record { declares = ap (λ y. is_declaration (kind_at t y)) (sym same) ∙ d; under = λ q g. deeper t u q x a h (directly t u q a (subst (λ y. IsPartOf t u y q) (sym same) g)) }
      at a h false d f rest = let r = rest a f in record { declares = r.declares; under = λ q g. deeper t u q x a h (r.under q g) }

      by : (o : Option ℕ) → above x ≡ o → declaration_if t (declaration_by m t) o ≡ Some p → ((y : ℕ) → declaration_by m t y ≡ Some p → IsAround y p) → IsAround x p
      by None q f rest = absurd (cc f)
      by (Some a) q f rest = at a (above_some t u (length t.nodes) x a q) (is_declaration (kind_at t a)) refl f rest

  -- ---- from the name to the block

  module _ (i e holder : ℕ) (early : is_early t i ≡ false) (found : (a : ℕ) → IsAmong e (entered_for t holder (kind_at t holder) a)) (few : holder < length t.nodes) where
    -- no initialiser before main stands between
    apart : (x : ℕ) → is_under t x i ≡ true → x < length t.nodes → is_static_initialiser t x (kind_at t x) ≡ false
    apart x inner low = by (is_static_initialiser t x (kind_at t x)) refl
      where
        there : (o : Option Node) → slice_get t.nodes x ≡ o → is_static_initialiser t x (kind_if o) ≡ true → IsAmong x (nodes_from (is_static_initialiser t) 0 t.nodes)
        there None at q = absurd (false≢true q)
        there (Some n) at q =
            let same : 0 + x ≡ x = omega arith in
            subst (λ y. IsAmong y (nodes_from (is_static_initialiser t) 0 t.nodes)) same
            (among_passed (is_static_initialiser t) 0 t.nodes x n at (ap (λ y. is_static_initialiser t y n.kind) same ∙ q))

        by : (b : Bool) → is_static_initialiser t x (kind_at t x) ≡ b → b ≡ false
        by false q = refl
        by true q = absurd (false≢true (sym early ∙ any_among (λ start. is_under t start i) (nodes_from (is_static_initialiser t) 0 t.nodes) x (there (slice_get t.nodes x) refl q) inner))

    abbrev IsOver : ℕ → Type 0
    IsOver x = (a : ℕ) → IsPartOf t u x a → is_under t a i ≡ true

    abbrev Climbs : ℕ → Type 0
    Climbs x = (a : ℕ) → x < a → is_under t holder a ≡ true → is_static_initialiser t a (kind_at t a) ≡ false → IsOver a → finds t a e ≡ true

    -- nothing but a definition has no node above it, and what is under the holder has one
    no_definition : (a : ℕ) → is_under t holder a ≡ true → is_definition (kind_at t a) ≡ false
    no_definition a inner = by (above a) refl
      where
        by : (o : Option ℕ) → above a ≡ o → is_definition (kind_at t a) ≡ false
        by None p = absurd (false≢true (sym (outermost_outside t u holder a p) ∙ inner))
        by (Some b) p = plain_part a b (above_some t u (length t.nodes) a b p)

    one_up : (x a : ℕ) → IsPartOf t u x a → is_static_initialiser t x (kind_at t x) ≡ false → IsOver x → (b : Bool) → (a == holder) ≡ b → (b || is_under t holder a) ≡ true → Climbs x → finds t x e ≡ true
    one_up x a h plain over true q f rest = finds_entered t u a x e h plain (subst (λ y. IsAmong e (entered_for t y (kind_at t y) x)) (sym (eqb-true a holder q)) (found x))
    one_up x a h plain over false q f rest =
        finds_outside t u a x e h plain (no_definition a f)
        (rest a (part_below t u x a h) f (apart a (over a h) (slice_get_within t.nodes a h.parent h.at)) (λ b g. further t u i a b (over a h) g))

    climb : (m x : ℕ) → length t.nodes ≤ m + x → is_under t holder x ≡ true → is_static_initialiser t x (kind_at t x) ≡ false → IsOver x → finds t x e ≡ true
    climb zero x high inner plain over = absurd (false≢true (sym (not_above t u holder x (omega (arith, high, few))) ∙ inner))
    climb (suc m) x high inner plain over = by (above x) refl (λ a low g p o. climb m a (omega (arith, high, low)) g p o)
      where
        by : (o : Option ℕ) → above x ≡ o → Climbs x → finds t x e ≡ true
        by None q rest = absurd (false≢true (sym (outermost_outside t u holder x q) ∙ inner))
        by (Some a) q rest = let h = above_some t u (length t.nodes) x a q in one_up x a h plain over (a == holder) refl (sym (under_at t u holder x a h) ∙ inner) rest

  -- ---- the name of a local object

  pub finds_local : (i : ℕ) → kind_at t i ≡ kind.Identifier → is_local t (entity_of t i) ≡ true → is_early t i ≡ false → finds t i (entity_of t i) ≡ true
  finds_local i is local early =
      let both = and_parts (is_automatic_by (slice_index_or t.durations (entity_of t i) duration.NoObject)) (is_held_by t (entity_of t i) (declaration_around t (entity_of t i))) local in
      by both.0 (declaration_around t (entity_of t i)) refl both.1
    where
      in_block : is_automatic_by (slice_index_or t.durations (entity_of t i) duration.NoObject) ≡ true → (p q : ℕ) → IsAround (entity_of t i) p → IsPartOf t u p q → owns t p (entity_of t i) ≡ true → finds t i (entity_of t i) ≡ true
      in_block automatic p q around h own =
          let declares : kind_at t p ≡ kind.Declaration = only_declaration (kind_at t p) around.declares in
          let blocklike = holds_declaration file t it q p h declares in
          let few = slice_get_within t.nodes q h.parent h.at in
          let inner = stands file t it i q is automatic blocklike (around.under q h) in
          let there = entered file t it q p (entity_of t i) h declares own in
          climb i (entity_of t i) q early (λ a. subst (IsAmong (entity_of t i)) (entered_alike t q p a (kind_at t q) blocklike) there) few (length t.nodes) i (omega arith) inner (ap (is_static_initialiser t i) is)
          (λ a g. directly t u a i g)

      by : is_automatic_by (slice_index_or t.durations (entity_of t i) duration.NoObject) ≡ true → (o : Option ℕ) → declaration_around t (entity_of t i) ≡ o → is_held_by t (entity_of t i) o ≡ true → finds t i (entity_of t i) ≡ true
      by automatic None q held = absurd (false≢true held)
      by automatic (Some p) q held = at (above p) refl (and_parts (is_some (above p)) (owns t p (entity_of t i)) held)
        where
          at : (o : Option ℕ) → above p ≡ o → (is_some o ≡ true) × (owns t p (entity_of t i) ≡ true) → finds t i (entity_of t i) ≡ true
          at None f both = absurd (false≢true both.0)
          at (Some a) f both = in_block automatic p a (around_is (suc (length t.nodes)) (entity_of t i) p q) (above_some t u (length t.nodes) p a f) both.1
