-- Which members are used.
use Rattle.std.specs.Prelude.{◌≡◌, ℕ, ◌==◌, ◌&&◌, Bool, false, not, List, [], ◌∷◌, Option, None, Some, length, slice_index_or}
use Rattle.std.specs.List.{list_any}
use Rattle.std.specs.Borrow.{Bor}
use Rattle.std.specs.Str.{bytes_eq}
use Rattle.cr_tokens.specs.declared.token.Token.{Token}
use Rattle.cr_syntax.specs.declared.node.Node.{Node}
use Rattle.pass_levels.specs.Gathered.{gathered}
use Rattle.pass_levels.specs.Nodes.{node_at}
use Rattle.pass_levels.specs.Places.{spelling_at}
use Rattle.pass_names.specs.declared.members.MemberUse.{MemberUse}

-- the structure whose member a node names
abbrev pub structure_at : List (Option ℕ) → ℕ → Option ℕ
structure_at structures node = slice_index_or structures node None

-- such a node ends with the member's name (6.5.2.3)
abbrev pub member_use_by : Option ℕ → ℕ → List MemberUse
member_use_by None last = []
member_use_by (Some structure) last = record { structure = structure; token = last } ∷ []

abbrev pub member_uses : List Node → List (Option ℕ) → List MemberUse
member_uses nodes structures = gathered (λ k. member_use_by (structure_at structures k) (node_at nodes k).last) (length nodes)

-- One of these tokens names a member of the structure that is spelled so. A structure is told by its content.
abbrev pub is_used_member : List ℕ → List Token → List MemberUse → ℕ → ℕ → Bool
is_used_member file tokens uses content token =
    list_any (λ used. (used.structure == content) && bytes_eq (spelling_at file tokens used.token) (spelling_at file tokens token)) uses

-- members by the contents of their structures and their names
abbrev pub same_member : ℕ × Bor (List ℕ) → ℕ × Bor (List ℕ) → Bool
same_member a b = (a.0 == b.0) && bytes_eq a.1.now b.1.now

-- a set of members has those that are used
abbrev pub AreUsed : List ℕ → List Token → List MemberUse → (ℕ × Bor (List ℕ) → Bool) → Type 0
AreUsed file tokens uses is = (member : ℕ × Bor (List ℕ))
    → is member ≡ list_any (λ used. (used.structure == member.0) && bytes_eq (spelling_at file tokens used.token) member.1.now) uses

abbrev pub is_unused_member : List ℕ → List Token → List MemberUse → ℕ → Option ℕ → Bool
is_unused_member file tokens uses content None = false
is_unused_member file tokens uses content (Some token) = not (is_used_member file tokens uses content token)
