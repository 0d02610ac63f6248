-- Pass u: what has no use.
use Rattle.std.specs.Prelude.{ℕ, Bool, true, false, not, ◌&&◌, nat_le, List, [], ◌∷◌, Option, None, Some, length, drop, slice_index_or, if◌then◌else◌}
use Rattle.std.specs.List.{flat_map, list_any}
use Rattle.cr_tokens.specs.declared.token.Token.{Token}
use Rattle.cr_syntax.specs.declared.node.Kind.{Kind}
use Rattle.cr_syntax.specs.declared.node.Kind.TheVariants as kind
use Rattle.cr_syntax.specs.declared.node.Node.{Node}
use Rattle.cr_scopes_events.specs.Declarators.{declarator_of}
use Rattle.cr_scopes_events.specs.Events.{events_of}
use Rattle.cr_scopes.specs.declared.names.Names.{Names}
use Rattle.pass_edit.specs.declared.change.Change.{Change}
use Rattle.pass_edit.specs.Forms.{nothing_kept}
use Rattle.pass_edit.specs.Menu.{Offering}
use Rattle.pass_levels.specs.declared.counted.Counted.{Counted}
use Rattle.pass_levels.specs.Gathered.{gathered}
use Rattle.pass_levels.specs.Level.{level_of}
use Rattle.pass_levels.specs.Nodes.{node_at}
use Rattle.pass_levels.specs.Places.{gone, with_comma}
use Rattle.pass_names.specs.declared.members.MemberUse.{MemberUse}
use Rattle.pass_names.specs.Members.{is_unused_member, member_uses}
use Rattle.pass_names.specs.Reach.{are_own, has_no_use_outside, is_within, uses_of}
use Rattle.pass_names.specs.Reserved.{reserved_tokens}

-- the part of a number
abbrev pub part_at : List ℕ → ℕ → ℕ
part_at parts at = slice_index_or parts at 0

-- The declaration is that of nothing used elsewhere, and not one of main. `mains` are the tokens that declare main.
abbrev pub is_unused : Names → List ℕ → Node → Bool
is_unused names mains n = not (list_any (is_within n.first n.last) mains) && are_own names n.first n.last

-- Level 0: an external declaration goes.
abbrev pub items_give : List Token → List Node → Names → List ℕ → List ℕ → ℕ → List (List Change)
items_give tokens nodes names mains items at = if is_unused names mains (node_at nodes (part_at items at))
    then (gone tokens (node_at nodes (part_at items at)).first (node_at nodes (part_at items at)).last ∷ []) ∷ []
    else []

-- Part `at` of so many that commas separate goes with its comma.
abbrev pub part_goes : List Token → ℕ → ℕ → Node → Counted
part_goes tokens at count n = record { first = n.first; last = n.last; edit = with_comma tokens at count n.first n.last ∷ [] }

-- Level 1: a declarator goes with its initialiser and its comma.

-- the declarator of one that may have an initialiser
abbrev pub declarator_by : Kind → ℕ → List ℕ → ℕ
declarator_by kind.InitDeclarator part parts = part_at parts 0
declarator_by _ part parts = part

abbrev pub declarator_in : List Node → ℕ → ℕ
declarator_in nodes part = declarator_by (node_at nodes part).kind part (node_at nodes part).parts

abbrev pub is_named_unused : Names → Node → Option ℕ → Bool
is_named_unused names n None = false
is_named_unused names n (Some token) = has_no_use_outside names n.first n.last token

-- what a declarator names has no use outside it; a use in its own initialiser stands behind it
abbrev pub is_declared_unused : List Node → Names → ℕ → Bool
is_declared_unused nodes names declarator = is_named_unused names (node_at nodes declarator) (declarator_of nodes declarator).name

abbrev pub declarator_gives : List Token → List Node → Names → List ℕ → ℕ → List Counted
declarator_gives tokens nodes names row at = if is_declared_unused nodes names (declarator_in nodes (part_at row at))
    then part_goes tokens at (length row) (node_at nodes (part_at row at)) ∷ [] else []

-- declarators of two or more
abbrev pub row_gives : List Token → List Node → Names → List ℕ → List Counted
row_gives tokens nodes names row = if nat_le 2 (length row) then gathered (declarator_gives tokens nodes names row) (length row) else []

abbrev pub declarators_by : Kind → List Token → List Node → Names → List ℕ → List Counted
declarators_by kind.Declaration tokens nodes names parts = row_gives tokens nodes names (drop 1 parts)
declarators_by _ tokens nodes names parts = []

abbrev pub declarators_give : List Token → List Node → Names → ℕ → List Counted
declarators_give tokens nodes names k = declarators_by (node_at nodes k).kind tokens nodes names (node_at nodes k).parts

-- Level 2: a declaration that is an item of a compound statement goes.
abbrev pub declaration_by : Kind → List Token → Names → List ℕ → Node → List Counted
declaration_by kind.Declaration tokens names mains n = if is_unused names mains n then record { first = n.first; last = n.last; edit = gone tokens n.first n.last ∷ [] } ∷ [] else []
declaration_by _ tokens names mains n = []

abbrev pub declarations_by : Kind → List Token → List Node → Names → List ℕ → List ℕ → List Counted
declarations_by kind.Compound tokens nodes names mains parts = flat_map (λ p. declaration_by (node_at nodes p).kind tokens names mains (node_at nodes p)) parts
declarations_by _ tokens nodes names mains parts = []

abbrev pub declarations_give : List Token → List Node → Names → List ℕ → ℕ → List Counted
declarations_give tokens nodes names mains k = declarations_by (node_at nodes k).kind tokens nodes names mains (node_at nodes k).parts

-- Level 3: enumerators and members.

abbrev pub is_empty : List ℕ → Bool
is_empty [] = true
is_empty (token ∷ tokens) = false

-- a member goes with its comma, and where it is alone its whole declaration goes
abbrev pub member_change : List Token → Node → ℕ → ℕ → Node → Change
member_change tokens whole at count n = if nat_le count 1 then gone tokens whole.first whole.last else with_comma tokens at count n.first n.last

abbrev pub member_goes : List Token → Node → ℕ → ℕ → Node → Counted
member_goes tokens whole at count n = record { first = n.first; last = n.last; edit = member_change tokens whole at count n ∷ [] }

abbrev pub member_gives : List ℕ → List Token → List Node → List MemberUse → ℕ → Node → List ℕ → ℕ → List Counted
member_gives file tokens nodes uses content whole row at = if is_unused_member file tokens uses content (declarator_of nodes (part_at row at)).name
    then member_goes tokens whole at (length row) (node_at nodes (part_at row at)) ∷ [] else []

-- the members of one declaration of a structure
abbrev pub members_give : List ℕ → List Token → List Node → List MemberUse → ℕ → Node → List Counted
members_give file tokens nodes uses content whole =
    gathered (member_gives file tokens nodes uses content whole (drop 1 whole.parts)) (length (drop 1 whole.parts))

abbrev pub enumerator_gives : List Token → List Node → Names → List ℕ → ℕ → List Counted
enumerator_gives tokens nodes names row at = if is_empty (uses_of names (node_at nodes (part_at row at)).first)
    then part_goes tokens at (length row) (node_at nodes (part_at row at)) ∷ [] else []

abbrev pub parts_by : Kind → List ℕ → List Token → List Node → Names → List MemberUse → ℕ → List ℕ → List Counted
parts_by kind.EnumContent file tokens nodes names uses k parts = gathered (enumerator_gives tokens nodes names parts) (length parts)
parts_by kind.StructContent file tokens nodes names uses k parts = flat_map (λ p. members_give file tokens nodes uses k (node_at nodes p)) parts
parts_by _ file tokens nodes names uses k parts = []

abbrev pub parts_give : List ℕ → List Token → List Node → Names → List MemberUse → ℕ → List Counted
parts_give file tokens nodes names uses k = parts_by (node_at nodes k).kind file tokens nodes names uses k (node_at nodes k).parts

-- What pass u offers, where these tokens declare main.
abbrev pub u_levels : List ℕ → List Token → List Node → List ℕ → Names → List (Option ℕ) → List ℕ → Offering
u_levels file tokens nodes items names structures mains = record {
  levels = gathered (items_give tokens nodes names mains items) (length items)
      ∷ (level_of (declarators_give tokens nodes names) (length nodes)
      ∷ (level_of (declarations_give tokens nodes names mains) (length nodes)
      ∷ (level_of (parts_give file tokens nodes names (member_uses nodes structures)) (length nodes)
      ∷ [])));
  kept = nothing_kept;
}

-- What pass u offers, where the nodes name members of these structures: at level 0 external declarations without use go, at level 1
-- declarators, at level 2 declarations in blocks, and at level 3 members and enumerators.
abbrev pub u_offering : List ℕ → List Token → List Node → List ℕ → Names → List (Option ℕ) → Offering
u_offering file tokens nodes items names structures =
    u_levels file tokens nodes items names structures (reserved_tokens file tokens false (events_of tokens nodes items))
