-- Which objects are of static duration, by any tree of a unit.
use Rattle.std.proofs.Common.{◌≡◌, ℕ, suc, ◌+◌, List, [], ◌∷◌, ◌++◌, Bool, Option, length, slice_index_or, sym, ap, ◌∙◌, arith}
use Rattle.cr_syntax.specs.declared.node.Node.{Node}
use Rattle.cr_syntax.specs.declared.unit.Unit as source
use Rattle.cr_check_enclosing.specs.declared.context.Around.{Around}
use Rattle.cr_check_enclosing.specs.Around.{outermost}
use Rattle.cr_check_declarators.specs.declared.words.Specified.{Specified}
use Rattle.cr_check_declarators.specs.Specifiers.{nothing}
use Rattle.cr_check_declarations.specs.declared.tree.Tree.{Tree}
use Rattle.cr_check_declarations.specs.Before.{specified_in}
use Rattle.cr_check_declarations.specs.Named.{declaration_of, specifiers_in, class_of}
use Rattle.cr_typed_columns.specs.Rows.{listed}
use Rattle.cr_check_initialised.specs.Durations.{is_kept}
use Rattle.cr_check_surroundings.specs.declared.surroundings.Surroundings.{Surroundings}
use Rattle.cr_check_surroundings.specs.Surroundings.{IsTree}
use Rattle.cr_typed_unit.specs.Made.{statics_in}

pub one_more : {A : Type 0} (f : ℕ → A) (column : List A) (k : ℕ) (x : A) → column ≡ listed f k → x ≡ f k → column ++ x ∷ [] ≡ listed f (k + 1)
one_more f column k x h is = let step : suc k ≡ k + 1 = omega arith in rw (h, is) (ap (listed f) step)

-- what is read of a tree
abbrev kept_by : List Node → List (Option ℕ) → List Around → (ℕ → Specified) → ℕ → Bool
kept_by nodes above around said i =
    is_kept (slice_index_or around i outermost).place (class_of (specified_in said (specifiers_in nodes (declaration_of nodes above i))).storage)

abbrev statics_by : List Node → List (Option ℕ) → List Around → List Specified → List Bool
statics_by nodes above around specified = listed (kept_by nodes above around (λ p. slice_index_or specified p nothing)) (length nodes)

by_surroundings : (file : List ℕ) (unit : source.Unit) (s : Surroundings) (t : Tree) (specified : List Specified) → IsTree file unit s t
    → statics_in t specified ≡ statics_by unit.nodes s.above s.around specified
by_surroundings file unit s t specified h = λ x. statics_by (h.nodes x) (h.above x) (h.around x) specified

pub of_any_tree : (file : List ℕ) (unit : source.Unit) (s : Surroundings) (own t : Tree) (given specified : List Specified) (column : List Bool)
    → given ≡ specified → IsTree file unit s own → column ≡ statics_in own given → IsTree file unit s t → column ≡ statics_in t specified
of_any_tree file unit s own t given specified column same h is other =
    is ∙ ap (statics_in own) same ∙ by_surroundings file unit s own specified h ∙ sym (by_surroundings file unit s t specified other)
