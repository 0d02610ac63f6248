-- A statement that a run reaches stands in a function (C11 6.9.1).
use Rattle.std.proofs.Common.{◌≡◌, ℕ, zero, suc, inl, inr, Bool, true, false, ◌&&◌, ◌||◌, List, Option, None, Some, length, refl, sym, ap, ◌∙◌, slice_get, slice_index_or}
use Rattle.std.proofs.lemmas.Bool.{and_parts, false≢true}
use Rattle.cr_syntax.specs.declared.node.Kind.{Kind}
use Rattle.cr_syntax.specs.declared.node.Kind.TheVariants as kind
use Rattle.cr_check_enclosing.specs.declared.context.Around.{Around}
use Rattle.cr_check_enclosing.specs.Above.{above_of}
use Rattle.cr_check_enclosing.specs.Around.{inside, outermost}
use Rattle.cr_check_expressions.specs.Forms.{form_of}
use Rattle.cr_typed.specs.declared.typed.Typed.{Typed}
use Rattle.cr_meaning_operations.specs.Operations.{kind_at, parts_if, is_automatic, is_case, is_declaration, is_static_initialiser}
use Rattle.cr_meaning_typing.specs.Typed.Typing.{is_expression}
use Rattle.cr_meaning_declarations.proofs.NamesLemmas.Parents.{IsPartOf, above_some}
use Rattle.cr_meaning_declarations.specs.Declared.Files.{IsUnitOfFile}
use Rattle.cr_meaning_declarations.proofs.DeclaredLemmas.Files.{has_unit}
use Rattle.cr_meaning_declarations.proofs.LastingLemmas.Begun.{one_of}
use Rattle.cr_meaning_files.specs.Reached.{is_item, is_declaring, is_list, is_listing, is_definition, is_block, is_going, goes_on, lives_below, lives_by, lives}
use Rattle.cr_meaning_files.proofs.Tables.{item_is, item_apart, item_lists_nothing, case_item}
use Rattle.cr_meaning_references.proofs.TreesLemmas.Tree.{has_part}
use Rattle.cr_meaning_files.proofs.Laid.{around_at}

-- an item hands on the function around it
hands_on : (k : Kind) (i : ℕ) (a : Around) → is_item k ≡ true → (inside k i a).function ≡ a.function
unfolding inside
hands_on kind.FunctionDefinition i a h = absurd (false≢true h)
hands_on kind.Compound i a h = refl
hands_on k i a h = refl

pub begins_function : (k : Kind) (i : ℕ) (a : Around) → is_definition k ≡ true → (inside k i a).function ≡ Some i
unfolding inside
begins_function kind.FunctionDefinition i a h = refl
begins_function k i a h = absurd (false≢true h)

against : (b : Bool) → b ≡ false → b ≡ true → ⊥
against b e f = false≢true (sym e ∙ f)

neither : (a b : Bool) → a ≡ false → b ≡ false → (a || b) ≡ true → ⊥
neither true b e f h = false≢true (sym e)
neither false b e f h = against b f h

-- what goes on with an item is one
from_item : (t : Typed) (part : ℕ) (k own : Kind) → is_item own ≡ true → goes_on t part k own ≡ true → is_item k ≡ true
from_item t part k own item h =
    elim (one_of (is_going k && (is_expression (form_of own) || (is_item k && is_item own))) _ h) [
      | inl x ↦
          elim (one_of (is_expression (form_of own)) (is_item k && is_item own) (and_parts (is_going k) _ x).1) [
            | inl e ↦ absurd (against (is_expression (form_of own)) (item_is own item).1.0 e)
            | inr both ↦ (and_parts (is_item k) (is_item own) both).0
          ]
      | inr y ↦
          elim (one_of (is_case k && is_item own) _ y) [
            | inl x ↦ case_item k (and_parts (is_case k) (is_item own) x).0
            | inr z ↦
                elim (one_of (is_listing k && (is_expression (form_of own) || is_list own)) _ z) [
                  | inl x ↦ absurd (neither (is_expression (form_of own)) (is_list own) (item_is own item).1.0 (item_lists_nothing own item).0 (and_parts (is_listing k) _ x).1)
                  | inr x ↦ absurd (against (is_declaring own) (item_lists_nothing own item).1 (and_parts (is_declaring own) (is_automatic t part) (and_parts (is_declaration k) _ x).1).0)
                ]
          ]
    ]

module _ (file : List ℕ) (t : Typed) (it : IsUnitOfFile file t) where
  open has_unit file t it use {unit as u}

  abbrev around : ℕ → Around
  around i = slice_index_or it.checked.checked.surroundings.around i outermost

  abbrev HasFunction : ℕ → Type 0
  HasFunction i = (definition : ℕ) × (((around i).function ≡ Some definition) × (is_definition (kind_at t definition) ≡ true))

  -- what a node has from the one above it
  from_above : (i p : ℕ) → IsPartOf t u i p → around i ≡ inside (kind_at t p) p (around p)
  from_above i p h = around_at file t it p h.place i (has_part t u p h.place i (ap (λ o. slice_get (parts_if o) h.place) h.at ∙ h.is))

  below : (m i : ℕ) → lives_by m t i ≡ true → is_item (kind_at t i) ≡ true → HasFunction i
  below zero i live item = absurd (false≢true live)
  below (suc m) i live item =
      elim (one_of (is_static_initialiser t i (kind_at t i)) _ live) [
        | inl e ↦ absurd (against (is_static_initialiser t i (kind_at t i)) (item_apart t i (kind_at t i) item) e)
        | inr h ↦ by (above_of t.nodes (length t.nodes) i) refl h (λ p outer_lives outer. below m p outer_lives outer)
      ]
    where
      by : (o : Option ℕ) → above_of t.nodes (length t.nodes) i ≡ o → lives_below t (lives_by m t) i o ≡ true → ((p : ℕ) → lives_by m t p ≡ true → is_item (kind_at t p) ≡ true → HasFunction p) → HasFunction i
      by None e h outside = absurd (false≢true h)
      by (Some p) e h outside =
          let part = above_some t u (length t.nodes) i p e in
          elim (one_of (is_definition (kind_at t p) && is_block (kind_at t i)) _ h) [
            | inl x ↦ (let defines = (and_parts (is_definition (kind_at t p)) _ x).0 in (p, (ap (λ (a : Around). a.function) (from_above i p part) ∙ begins_function (kind_at t p) p (around p) defines, defines)))
            | inr x ↦
                (let both = and_parts (goes_on t i (kind_at t p) (kind_at t i)) (lives_by m t p) x in
                let outer = from_item t i (kind_at t p) (kind_at t i) item both.0 in
                let rest = outside p both.1 outer in
                (rest.0, (ap (λ (a : Around). a.function) (from_above i p part) ∙ hands_on (kind_at t p) p (around p) outer ∙ rest.1.0, rest.1.1)))
          ]

  pub function_there : (i : ℕ) → lives t i ≡ true → is_item (kind_at t i) ≡ true → HasFunction i
  function_there i live item = below (suc (length t.nodes)) i live item
