-- What a part of a unit's node has from above: the node above it, and what that gives its parts.
use Rattle.std.proofs.Common.{◌≡◌, ℕ, ◌<◌, List, Option, None, Some, slice_get, slice_index_or, sym, ap, ◌∙◌, arith, if◌then◌else◌}
use Rattle.std.proofs.lemmas.Bool.{lt-ltb}
use Rattle.std.proofs.lemmas.Option.{slice_get_within}
use Rattle.cr_check_enclosing.specs.declared.context.Around.{Around}
use Rattle.cr_check_enclosing.specs.Above.{AreAbove}
use Rattle.cr_check_enclosing.specs.Around.{AreAround, inside, inside_if, below, outermost}
use Rattle.cr_typed.specs.declared.typed.Typed.{Typed}
use Rattle.cr_meaning_operations.specs.Operations.{kind_if, kind_at}
use Rattle.cr_meaning_declarations.specs.Units.Owned.{AreOfUnit}
use Rattle.cr_meaning_declarations.proofs.NamesLemmas.Parents.{IsPartOf, above_is}
use Rattle.cr_meaning_references.proofs.TreesLemmas.Tree.{HasPart, as_part}

module _ (t : Typed) (unit : AreOfUnit t) (above : List (Option ℕ)) (around : List Around) (above_are : AreAbove t.nodes above) (around_are : AreAround t.nodes above around) where
  -- the node above a part, by its column
  pub column_above : (a i : ℕ) → IsPartOf t unit a i → a < i → slice_index_or above a None ≡ Some i
  column_above a i h low = above_are.each a (let within = slice_get_within t.nodes i h.parent h.at in omega (arith, low, within)) ∙ above_is t unit a i h

  pub column_around : (i k a : ℕ) → HasPart t unit i k a → slice_index_or around a outermost ≡ inside (kind_at t i) i (slice_index_or around i outermost)
  column_around i k a h =
      let part = as_part t unit i k a h in
      let within = slice_get_within t.nodes i h.node h.at in
      let low = h.below in
      around_are.each a (omega (arith, within, low))
      ∙ ap (below t.nodes (λ p. slice_index_or around p outermost) a) (column_above a i part low)
      ∙ ap (λ b. if b then inside_if (slice_get t.nodes i) i (slice_index_or around i outermost) else outermost) (lt-ltb a i low)
      ∙ ap (λ o. inside_if o i (slice_index_or around i outermost)) h.at
      ∙ ap (λ c. inside c i (slice_index_or around i outermost)) (sym (ap kind_if h.at))
