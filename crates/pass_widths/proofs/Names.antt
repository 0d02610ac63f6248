-- The levels of passes r and f.
use Rattle.std.proofs.Common.{ℕ, zero, suc, ◌+◌, ◌≤◌, Bool, true, false, List, [], ◌∷◌, Option, None, Some, length, if◌then◌else◌, lit≤, sym, subst, arith}
use Rattle.cr_tokens.specs.declared.token.Token.{Token}
use Rattle.cr_syntax.specs.declared.node.Node.{Node}
use Rattle.cr_scopes.specs.declared.names.Names.{Names}
use Rattle.cr_scopes.specs.declared.told.Told.{Told}
use Rattle.cr_scopes.specs.Resolved.{AreNames, begins, count_of}
use Rattle.cr_scopes_events.specs.Events.{events_of}
use Rattle.pass_edit.specs.Menu.{Offering}
use Rattle.pass_names.specs.Reach.{entity_at}
use Rattle.pass_names.specs.Renamed.{entities_give, is_reserved, r_offering, renamed, renaming, renaming_by}
use Rattle.pass_names.specs.Reserved.{reserved_tokens}
use Rattle.pass_names.specs.Short.{first_free, short_name}
use Rattle.pass_stmts.specs.Printed.{IsPrintedOffering, f_offering}
use Rattle.pass_widths.specs.Few.{AreFew, AreOfUnit}
use Rattle.pass_widths.proofs.Counted.{gathered_few}
use Rattle.pass_widths.proofs.Levels.{levels_few}
use Rattle.pass_widths.proofs.Unused.{items_few, some_item}

-- each token begins one entity at the most
begun_few : (at : ℕ → Option Told) (n : ℕ) → count_of at n ≤ n
begun_few at zero = omega arith
begun_few at (suc n) = by (begins (at n) n) (begun_few at n)
  where
    by : (b : Bool) → count_of at n ≤ n → (if b then count_of at n + 1 else count_of at n) ≤ suc n
    by true le = omega (arith, le)
    by false le = omega (arith, le)

entity_one : (tokens : List Token) (bytes : ℕ) (reserved : List ℕ) (names : Names) (at : ℕ) → length (entities_give tokens bytes reserved names at) ≤ 1
entity_one tokens bytes reserved names at = elim (is_reserved reserved (entity_at names at)) as (λ b. length (if b then [] else renamed tokens bytes (entity_at names at) ∷ []) ≤ 1) [
  | true ↦ lit≤ tt
  | false ↦ lit≤ tt
]

renaming_few : (o : Option ℕ) (tokens : List Token) (names : Names) (reserved : List ℕ) → length names.entities ≤ length tokens → AreFew (length tokens) (renaming_by o tokens names reserved)
renaming_few None tokens names reserved le = levels_few (length tokens) ([] ∷ []) (omega arith, tt)
renaming_few (Some number) tokens names reserved le =
    let few = gathered_few (entities_give tokens (length (short_name number)) reserved names) (entity_one tokens (length (short_name number)) reserved names) (length names.entities) in
    levels_few (length tokens) (renaming tokens names reserved (short_name number)).levels (omega (arith, few, le), tt)

pub renamed_few : (file : List ℕ) (tokens : List Token) (nodes : List Node) (items : List ℕ) (names : Names) (at : ℕ → Option Told)
    → AreNames at (length tokens) names → AreFew (length tokens) (r_offering file tokens nodes items names)
renamed_few file tokens nodes items names at are =
    let count = are.count in let begun = begun_few at (length tokens) in
    renaming_few (first_free file tokens) tokens names (reserved_tokens file tokens true (events_of tokens nodes items)) (omega (arith, count, begun))

pub printed_few : (file : List ℕ) (tokens : List Token) (nodes : List Node) (items : List ℕ) (menu : Offering)
    → AreOfUnit (length tokens) nodes items → IsPrintedOffering file tokens menu → AreFew (length tokens) menu
printed_few file tokens nodes items menu u is =
    let all = items_few u in let some = some_item u in
    subst (AreFew (length tokens)) (sym is.is) (levels_few (length tokens) (f_offering file is.text).levels (omega (arith, all, some), tt))
