-- What a run may reach goes on from a node to its parts.
use Rattle.std.proofs.Common.{◌≡◌, ℕ, zero, suc, ◌+◌, ◌<◌, ◌≤◌, Bool, true, false, ◌&&◌, ◌||◌, not, Option, None, Some, length, slice_get, refl, sym, ap, ◌∙◌, arith}
use Rattle.std.proofs.lemmas.Bool.{and_parts, and_from, false≢true, or_left, or_right}
use Rattle.std.proofs.lemmas.Option.{slice_get_within}
use Rattle.cr_syntax.specs.declared.node.Kind.{Kind}
use Rattle.cr_syntax.specs.declared.node.Kind.TheVariants as kind
use Rattle.cr_syntax.specs.declared.node.Node.{Node}
use Rattle.cr_syntax_nodes.proofs.Numbers.{some_at}
use Rattle.cr_check_enclosing.specs.Above.{above_of}
use Rattle.cr_check_expressions.specs.Forms.{form_of}
use Rattle.cr_typed.specs.declared.typed.Typed.{Typed}
use Rattle.cr_meaning_operations.specs.Operations.{kind_if, kind_at, is_automatic, is_case, is_declaration, is_static_initialiser}
use Rattle.cr_meaning_typing.specs.Typed.Typing.{is_expression}
use Rattle.cr_meaning_declarations.specs.Units.Owned.{AreOfUnit}
use Rattle.cr_meaning_declarations.proofs.NamesLemmas.Parents.{IsPartOf, above_is, above_some, part_below}
use Rattle.cr_meaning_typing.specs.Sorts.Founded.{is_followed}
use Rattle.cr_meaning_files.specs.Reached.{is_item, is_declaring, is_list, is_listing, is_definition, is_block, is_address, is_going, goes_on, lives_below, lives_by, lives, is_below_address, is_passed, is_run_kind, is_reached}

false_or : (a b : Bool) → a ≡ false → (a || b) ≡ b
false_or true b e = absurd (false≢true (sym e))
false_or false b e = refl

module _ (t : Typed) (unit : AreOfUnit t) where
  abbrev pub above : ℕ → Option ℕ
  above a = above_of t.nodes (length t.nodes) a

  -- a node stands below the one above it
  pub above_low : (a i : ℕ) → above a ≡ Some i → (a < i) × (i < length t.nodes)
  above_low a i e = let h = above_some t unit (length t.nodes) a i e in (part_below t unit a i h, slice_get_within t.nodes i h.parent h.at)

  below_same : (f g : ℕ → Bool) (a : ℕ) (o : Option ℕ) → ((i : ℕ) → o ≡ Some i → f i ≡ g i) → lives_below t f a o ≡ lives_below t g a o
  below_same f g a None h = refl
  below_same f g a (Some i) h = ap (λ b. (is_definition (kind_at t i) && is_block (kind_at t a)) || (goes_on t a (kind_at t i) (kind_at t a) && b)) (h i refl)

  -- a number of steps that is enough
  enough : (m n a : ℕ) → length t.nodes < m + a → length t.nodes < n + a → a ≤ length t.nodes → lives_by m t a ≡ lives_by n t a
  enough zero n a x y few = absurd (omega (arith, x, few))
  enough (suc m) zero a x y few = absurd (omega (arith, y, few))
  enough (suc m) (suc n) a x y few =
      ap (λ b. is_static_initialiser t a (kind_at t a) || b) (below_same (lives_by m t) (lives_by n t) a (above a)
      (λ i e. let low = above_low a i e in enough m n i (omega (arith, x, low.0)) (omega (arith, y, low.0)) (omega (arith, low.1))))

  abbrev all : ℕ
  all = length t.nodes

  pub lives_is : (a : ℕ) → lives t a ≡ (is_static_initialiser t a (kind_at t a) || lives_below t (lives t) a (above a))
  lives_is a =
      ap (λ b. is_static_initialiser t a (kind_at t a) || b) (below_same (lives_by all t) (lives t) a (above a)
      (λ i e. let low = above_low a i e in enough all (suc all) i (omega (arith, low.0)) (omega (arith, low.0)) (omega (arith, low.1))))

  -- ---- from a node to its part

  pub goes : (a i : ℕ) → IsPartOf t unit a i → goes_on t a (kind_at t i) (kind_at t a) ≡ true → lives t i ≡ true → lives t a ≡ true
  goes a i h on live =
      lives_is a ∙ or_right (is_static_initialiser t a (kind_at t a)) _ (ap (lives_below t (lives t) a) (above_is t unit a i h)
      ∙ or_right (is_definition (kind_at t i) && is_block (kind_at t a)) _ (and_from _ _ on live))

  -- the initialiser of a static object, and the body of a function
  pub starts : (a : ℕ) → is_static_initialiser t a (kind_at t a) ≡ true → lives t a ≡ true
  starts a e = lives_is a ∙ or_left (is_static_initialiser t a (kind_at t a)) _ e

  pub body_lives : (a i : ℕ) → IsPartOf t unit a i → is_definition (kind_at t i) ≡ true → is_block (kind_at t a) ≡ true → lives t a ≡ true
  body_lives a i h d b =
      lives_is a ∙ or_right (is_static_initialiser t a (kind_at t a)) _ (ap (lives_below t (lives t) a) (above_is t unit a i h)
      ∙ or_left (is_definition (kind_at t i) && is_block (kind_at t a)) _ (and_from _ _ d b))

  -- ---- where a node goes on

  pub going : (a : ℕ) (k own : Kind) → is_going k ≡ true → is_expression (form_of own) ≡ true → goes_on t a k own ≡ true
  going a k own g h =
      or_left (is_going k && (is_expression (form_of own) || (is_item k && is_item own))) _ (and_from _ _ g (or_left (is_expression (form_of own)) (is_item k && is_item own) h))

  pub item_goes : (a : ℕ) (k own : Kind) → is_going k ≡ true → is_item k ≡ true → is_item own ≡ true → goes_on t a k own ≡ true
  item_goes a k own g i h =
      or_left (is_going k && (is_expression (form_of own) || (is_item k && is_item own))) _ (and_from _ _ g (or_right (is_expression (form_of own)) (is_item k && is_item own) (and_from _ _ i h)))

  pub case_goes : (a : ℕ) (k own : Kind) → is_case k ≡ true → is_item own ≡ true → goes_on t a k own ≡ true
  case_goes a k own g h = or_right (is_going k && (is_expression (form_of own) || (is_item k && is_item own))) _ (or_left (is_case k && is_item own) _ (and_from _ _ g h))

  pub listing_goes : (a : ℕ) (k own : Kind) → is_listing k ≡ true → (is_expression (form_of own) || is_list own) ≡ true → goes_on t a k own ≡ true
  listing_goes a k own g h =
      or_right (is_going k && (is_expression (form_of own) || (is_item k && is_item own))) _ (or_right (is_case k && is_item own) _
      (or_left (is_listing k && (is_expression (form_of own) || is_list own)) _ (and_from _ _ g h)))

  pub declaration_goes : (a : ℕ) (k own : Kind) → is_declaration k ≡ true → is_declaring own ≡ true → is_automatic t a ≡ true → goes_on t a k own ≡ true
  declaration_goes a k own g h x =
      or_right (is_going k && (is_expression (form_of own) || (is_item k && is_item own))) _ (or_right (is_case k && is_item own) _
      (or_right (is_listing k && (is_expression (form_of own) || is_list own)) _ (and_from _ _ g (and_from _ _ h x))))

  -- ---- what is reached

  pub reached_lives : (a : ℕ) → is_reached t a ≡ true → lives t a ≡ true
  reached_lives a r = (and_parts (lives t a) _ r).0

  pub reached_kind : (a : ℕ) → is_reached t a ≡ true → is_run_kind (kind_at t a) ≡ true
  reached_kind a r = (and_parts (is_run_kind (kind_at t a)) _ (and_parts (lives t a) _ r).1).0

  pub reach : (a : ℕ) → lives t a ≡ true → is_run_kind (kind_at t a) ≡ true → is_passed t a ≡ false → is_reached t a ≡ true
  reach a live k p = and_from _ _ live (and_from _ _ k (ap not p))

  no_and : (a : Bool) → (a && false) ≡ false
  no_and true = refl
  no_and false = refl

  pub unpassed : (a i : ℕ) → IsPartOf t unit a i → is_address (kind_at t i) ≡ false → is_passed t a ≡ false
  unpassed a i h e = ap (λ o. is_followed (kind_at t a) && is_below_address t o) (above_is t unit a i h) ∙ ap (λ b. is_followed (kind_at t a) && b) e ∙ no_and (is_followed (kind_at t a))

  pub unfollowed : (a : ℕ) → is_followed (kind_at t a) ≡ false → is_passed t a ≡ false
  unfollowed a e = ap (λ b. b && is_below_address t (above a)) e

  -- ---- nodes that live are there

  no_initialiser : (a : ℕ) (k : Kind) → is_static_initialiser t a k ≡ true → k ≡ kind.InitDeclarator
  no_initialiser a kind.InitDeclarator e = refl
  no_initialiser a k e = absurd (false≢true e)

  pub there : (a : ℕ) → lives t a ≡ true → (n : Node) × (slice_get t.nodes a ≡ Some n)
  there a live = by (is_static_initialiser t a (kind_at t a)) refl (above a) refl
    where
      of_kind : (o : Option Node) → slice_get t.nodes a ≡ o → kind_if o ≡ kind.InitDeclarator → (n : Node) × (slice_get t.nodes a ≡ Some n)
      of_kind None at e = absurd (different e)
        where
          is_init : Kind → Bool
          is_init kind.InitDeclarator = true
          is_init k = false

          different : kind.Break ≡ kind.InitDeclarator → ⊥
          different e = false≢true (ap is_init e)
      of_kind (Some n) at e = (n, at)

      by : (b : Bool) → is_static_initialiser t a (kind_at t a) ≡ b → (o : Option ℕ) → above a ≡ o → (n : Node) × (slice_get t.nodes a ≡ Some n)
      by true e o f = of_kind (slice_get t.nodes a) refl (no_initialiser a (kind_at t a) e)
      by false e None f = absurd (false≢true (sym (lives_is a ∙ false_or _ _ e ∙ ap (lives_below t (lives t) a) f) ∙ live))
      by false e (Some i) f = let h = above_some t unit (length t.nodes) a i f in some_at t.nodes a (let low = above_low a i f in omega (arith, low.0, low.1))
