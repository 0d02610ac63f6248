-- What each kind of node hands on of declarators: an expression and a statement nothing, for their parts are neither.
use Rattle.std.proofs.Common.{◌≡◌, ℕ, zero, suc, ◌+◌, ◌<◌, ◌≤◌, ◌==◌, Bool, true, false, ◌&&◌, not, List, [], ◌∷◌, Option, None, Some, length, slice_get, refl, sym, subst, ap, ◌∙◌, ◌⊎◌, arith}
use Rattle.std.specs.Prelude.{ℤ, if◌then◌else◌, ◌||◌}
use Rattle.std.proofs.lemmas.Bool.{and_parts, false≢true, both_ways, not-true, ne_eqb, or_right}
use Rattle.std.proofs.lemmas.Option.{slice_get_within, slice_get-get_or}
use Rattle.cr_syntax.specs.declared.node.Kind.{Kind}
use Rattle.cr_syntax.specs.declared.node.Kind.TheVariants as kind
use Rattle.cr_syntax.specs.declared.node.Node.{Node}
use Rattle.cr_syntax.specs.declared.part.Part.{Part}
use Rattle.cr_syntax.specs.declared.part.Part.TheVariants as part
use Rattle.cr_syntax.specs.Tables.{side_of}
use Rattle.cr_syntax.specs.Kept.{AreBelow, row_in}
use Rattle.cr_syntax_nodes.specs.Nodes.{least}
use Rattle.cr_syntax_nodes.specs.Laid.{stands_for, IsLaid}
use Rattle.cr_syntax_nodes.proofs.Made.{made_in}
use Rattle.cr_syntax_nodes.proofs.Numbers.{occurs}
use Rattle.cr_syntax_nodes.proofs.Laid.{laid}
use Rattle.cr_syntax_nodes.proofs.Counts.{counted, row_counted}
use Rattle.cr_typed.specs.declared.typed.Typed.{Typed}
use Rattle.cr_meaning.specs.declared.op.Op.{Op}
use Rattle.cr_meaning.specs.declared.op.Line.{Line}
use Rattle.cr_meaning.specs.declared.op.Access.{Access}
use Rattle.cr_meaning.specs.declared.op.Callee.TheVariants.{Function}
use Rattle.cr_meaning.specs.declared.op.Work.{Work}
use Rattle.cr_meaning.specs.declared.op.Work.TheVariants as work
use Rattle.cr_meaning_operations.specs.Operations.{kind_if, kind_at, parts_if, parts_at, part_at, constant_by, identifier_by, is_declaration}
use Rattle.cr_meaning_soundness.specs.Sorts.{IsAmong}
use Rattle.cr_meaning_soundness.specs.Scopes.{IsPart, is_open}
use Rattle.cr_meaning_orders.specs.Owned.{objects_of, hands_on}
use Rattle.cr_meaning_declarations.specs.Units.Owned.{owns_by, owns, is_owner, AreOfUnit}
use Rattle.cr_meaning_declarations.proofs.UnitsLemmas.Rows.{clear_side, clear_laid, clear_at}

-- ---- kinds of nodes with declarators of their own

abbrev pub is_declarator : Kind → Bool
is_declarator kind.InitDeclarator = true
is_declarator kind.NameDeclarator = true
is_declarator kind.PointerDeclarator = true
is_declarator kind.GroupDeclarator = true
is_declarator kind.ArrayDeclarator = true
is_declarator other = false

-- parts for which no declarator stands, and for which no declaration stands either
abbrev from_array : Part → Bool
from_array p = not (stands_for p kind.ArrayDeclarator)

abbrev from_group : Part → Bool
from_group p = not (stands_for p kind.GroupDeclarator) && from_array p

abbrev from_pointer : Part → Bool
from_pointer p = not (stands_for p kind.PointerDeclarator) && from_group p

abbrev from_name : Part → Bool
from_name p = not (stands_for p kind.NameDeclarator) && from_pointer p

abbrev pub without_declarators : Part → Bool
without_declarators p = not (stands_for p kind.InitDeclarator) && from_name p

abbrev pub without_declarations : Part → Bool
without_declarations p = not (stands_for p kind.Declaration)

abbrev pub without_owners : Part → Bool
without_owners p = without_declarations p && without_declarators p

pub against : {A : Type 0} (b : Bool) → not b ≡ true → b ≡ true → A
against b n e = absurd (both_ways b (not-true b n) e)

pub no_declarators : (p : Part) (k : Kind) → without_declarators p ≡ true → stands_for p k ≡ true → is_declarator k ≡ false
no_declarators p k c s =
    let one = and_parts (not (stands_for p kind.InitDeclarator)) (from_name p) c in
    let two = and_parts (not (stands_for p kind.NameDeclarator)) (from_pointer p) one.1 in
    let three = and_parts (not (stands_for p kind.PointerDeclarator)) (from_group p) two.1 in
    let four = and_parts (not (stands_for p kind.GroupDeclarator)) (from_array p) three.1 in
    by k one.0 two.0 three.0 four.0 four.1 s
  where
    by : (k : Kind) → not (stands_for p kind.InitDeclarator) ≡ true → not (stands_for p kind.NameDeclarator) ≡ true → not (stands_for p kind.PointerDeclarator) ≡ true
        → not (stands_for p kind.GroupDeclarator) ≡ true → not (stands_for p kind.ArrayDeclarator) ≡ true → stands_for p k ≡ true → is_declarator k ≡ false
    by kind.InitDeclarator c d e f g s = against (stands_for p kind.InitDeclarator) c s
    by kind.NameDeclarator c d e f g s = against (stands_for p kind.NameDeclarator) d s
    by kind.PointerDeclarator c d e f g s = against (stands_for p kind.PointerDeclarator) e s
    by kind.GroupDeclarator c d e f g s = against (stands_for p kind.GroupDeclarator) f s
    by kind.ArrayDeclarator c d e f g s = against (stands_for p kind.ArrayDeclarator) g s
    by k c d e f g s = refl

pub no_declarations : (p : Part) (k : Kind) → without_declarations p ≡ true → stands_for p k ≡ true → is_declaration k ≡ false
no_declarations p kind.Declaration c s = against (stands_for p kind.Declaration) c s
no_declarations p k c s = refl

-- an owner is a declaration or a declarator
pub owner_by : (k : Kind) → is_declaration k ≡ false → is_declarator k ≡ false → is_owner k ≡ false
owner_by kind.Declaration c d = c
owner_by k c d = d

pub no_owners : (p : Part) (k : Kind) → without_owners p ≡ true → stands_for p k ≡ true → is_owner k ≡ false
no_owners p k c s =
    let both = and_parts (without_declarations p) (without_declarators p) c in
    owner_by k (no_declarations p k both.0 s) (no_declarators p k both.1 s)

-- ---- works with operands alone

-- IsPart says of such work just which operand is which part
abbrev is_leaf : Work → Bool
is_leaf (work.Conditional form) = false
is_leaf (work.Call (Function parameters rest is_main)) = false
is_leaf work.If = false
is_leaf work.While = false
is_leaf work.Do = false
is_leaf (work.For objects first control step rest) = false
is_leaf (work.Switch kind rest objects cases other labels) = false
is_leaf (work.Block objects labels) = false
is_leaf (work.Program objects parameters strings rest) = false
is_leaf (work.Declare declared) = false
is_leaf (work.Initialise declared lines) = false
is_leaf other = true

abbrev is_silent : Work → Bool
is_silent (work.Declare declared) = false
is_silent (work.Initialise declared lines) = false
is_silent other = true

leaf_silent : (w : Work) → is_leaf w ≡ true → is_silent w ≡ true
leaf_silent (work.Declare declared) h = h
leaf_silent (work.Initialise declared lines) h = h
leaf_silent w h = refl

leaf_part : (w : Work) (parts : List ℕ) (k part : ℕ) → is_leaf w ≡ true → IsPart w parts k part → slice_get parts k ≡ Some part
leaf_part (work.Conditional form) parts k part h e = absurd (false≢true h)
leaf_part (work.Call (Function parameters rest is_main)) parts k part h e = absurd (false≢true h)
leaf_part (work.Call callee) parts k part h e = e
leaf_part work.If parts k part h e = absurd (false≢true h)
leaf_part work.While parts k part h e = absurd (false≢true h)
leaf_part work.Do parts k part h e = absurd (false≢true h)
leaf_part (work.For objects first control step rest) parts k part h e = absurd (false≢true h)
leaf_part (work.Switch kind rest objects cases other labels) parts k part h e = absurd (false≢true h)
leaf_part (work.Block objects labels) parts k part h e = absurd (false≢true h)
leaf_part (work.Program objects parameters strings rest) parts k part h e = absurd (false≢true h)
leaf_part (work.Declare declared) parts k part h e = absurd (false≢true h)
leaf_part (work.Initialise declared lines) parts k part h e = absurd (false≢true h)
leaf_part w parts k part h e = e

-- ---- owners of a unit

owns_none_by : (t : Typed) (node declared : ℕ) (k : Kind) → is_owner k ≡ false → owns_by t node k declared ≡ false
owns_none_by t node declared kind.Declaration h = absurd (false≢true (sym h))
owns_none_by t node declared kind.InitDeclarator h = absurd (false≢true (sym h))
owns_none_by t node declared kind.NameDeclarator h = absurd (false≢true (sym h))
owns_none_by t node declared kind.PointerDeclarator h = absurd (false≢true (sym h))
owns_none_by t node declared kind.GroupDeclarator h = absurd (false≢true (sym h))
owns_none_by t node declared kind.ArrayDeclarator h = absurd (false≢true (sym h))
owns_none_by t node declared k h = refl

module _ (t : Typed) where
  abbrev pub OwnsNone : ℕ → Type 0
  OwnsNone node = (declared : ℕ) → owns t node declared ≡ true → ⊥

  pub not_whole : (node : ℕ) (n : Node) → slice_get t.nodes node ≡ Some n → (node == length t.nodes) ≡ false
  not_whole node n at = let within = slice_get_within t.nodes node n at in ne_eqb node (length t.nodes) (λ same. absurd (omega (arith, within, same)))

  pub kind_is : (node : ℕ) (n : Node) → slice_get t.nodes node ≡ Some n → kind_at t node ≡ n.kind
  kind_is node n at = ap kind_if at

  pub parts_are : (node : ℕ) (n : Node) → slice_get t.nodes node ≡ Some n → parts_at t node ≡ n.parts
  parts_are node n at = ap parts_if at

  -- a node of the unit owns what its kind says
  pub owned_by : (node declared : ℕ) (n : Node) → slice_get t.nodes node ≡ Some n → owns t node declared ≡ true → owns_by t node n.kind declared ≡ true
  owned_by node declared n at o =
      let F : Bool → Type 0 = λ b. (b || owns_by t node (kind_at t node) declared) ≡ true in
      let G : Kind → Type 0 = λ k. owns_by t node k declared ≡ true in
      subst G (kind_is node n at) (subst F (not_whole node n at) o)

  pub owning : (node declared : ℕ) (k : Kind) → kind_at t node ≡ k → owns_by t node k declared ≡ true → owns t node declared ≡ true
  owning node declared k e o = let G : Kind → Type 0 = λ k. owns_by t node k declared ≡ true in or_right (node == length t.nodes) (owns_by t node (kind_at t node) declared) (subst G (sym e) o)

  pub none_of : (node : ℕ) (n : Node) → slice_get t.nodes node ≡ Some n → is_owner n.kind ≡ false → OwnsNone node
  none_of node n at free declared o = both_ways (owns_by t node n.kind declared) (owns_none_by t node declared n.kind free) (owned_by node declared n at o)

  -- ---- what is said of a node's declarators

  pub record HandsOn (node : ℕ) (op : Op) : Type 0 where
    pub declares : (declared : ℕ) → op.work ≡ work.Declare declared → owns t node declared ≡ true
    pub initialises : (declared : ℕ) (lines : List Line) → op.work ≡ work.Initialise declared lines → owns t node declared ≡ true
    pub parts : (k part declared : ℕ) → IsPart op.work op.parts k part → owns t part declared ≡ true
        → ((hands_on op.work ≡ true) × (owns t node declared ≡ true)) ⊎ ((is_open op.work op.parts (suc k) ≡ true) × IsAmong declared (objects_of op.work))

  -- work that declares nothing
  pub silent : (node : ℕ) (op : Op) → is_silent op.work ≡ true
      → ((k part declared : ℕ) → IsPart op.work op.parts k part → owns t part declared ≡ true
      → ((hands_on op.work ≡ true) × (owns t node declared ≡ true)) ⊎ ((is_open op.work op.parts (suc k) ≡ true) × IsAmong declared (objects_of op.work)))
      → HandsOn node op
  silent node op h f = record {
    declares = λ declared e. let F : Work → Type 0 = λ w. is_silent w ≡ true in absurd (false≢true (subst F e h));
    initialises = λ declared lines e. let F : Work → Type 0 = λ w. is_silent w ≡ true in absurd (false≢true (subst F e h));
    parts = f;
  }

  pub plain : (node : ℕ) (op : Op) → is_silent op.work ≡ true → ((k part : ℕ) → IsPart op.work op.parts k part → OwnsNone part) → HandsOn node op
  plain node op h f = silent node op h (λ k part declared is o. absurd (f k part is declared o))

  pub leaf : (node : ℕ) (w : Work) (parts : List ℕ) (access : Access) → is_leaf w ≡ true → ((k part : ℕ) → slice_get parts k ≡ Some part → OwnsNone part)
      → HandsOn node (record { parts = parts; work = w; access = access })
  leaf node w parts access h f = plain node (record { parts = parts; work = w; access = access }) (leaf_silent w h) (λ k part e. f k part (leaf_part w parts k part h e))

  pub bare : (k part : ℕ) → slice_get [] k ≡ Some part → OwnsNone part
  bare k part e = absurd cc

  pub alone : (first : ℕ) → OwnsNone first → (k part : ℕ) → slice_get (first ∷ []) k ≡ Some part → OwnsNone part
  alone first f zero part e = let same : first ≡ part = cc in subst OwnsNone same f
  alone first f (suc k) part e = absurd cc

  pub either : (node : ℕ) (b : Bool) (x y : Op) → HandsOn node x → HandsOn node y → HandsOn node (if b then x else y)
  either node true x y f g = f
  either node false x y f g = g

  pub constants : (node : ℕ) (o : Option ℤ) → HandsOn node (constant_by t node o)
  constants node None = leaf node _ [] _ refl bare
  constants node (Some value) = leaf node _ [] _ refl bare

  pub names : (node : ℕ) (o : Option ℤ) → HandsOn node (identifier_by t node o)
  names node None = leaf node _ [] _ refl bare
  names node (Some value) = leaf node _ [] _ refl bare

  module _ (unit : AreOfUnit t) where
    pub laid_at : (node : ℕ) (n : Node) → slice_get t.nodes node ≡ Some n → IsLaid unit.tokens (side_of n.kind) (row_in t.nodes n.parts) n.first (n.last + 1)
    laid_at node n at = laid (made_in unit.is_unit.spells (occurs t.nodes unit.below t.items unit.once unit.are (length t.nodes) node n (omega arith) at)).spells

    pub parts_below : (node : ℕ) (n : Node) → slice_get t.nodes node ≡ Some n → AreBelow n.parts (length t.nodes)
    parts_below node n at i few = let within = slice_get_within t.nodes node n at in let b = unit.below node n at i few in omega (arith, within, b)

    pub counted_at : (node : ℕ) (n : Node) → slice_get t.nodes node ≡ Some n → least (side_of n.kind) ≤ length n.parts
    counted_at node n at =
        let row = row_counted t.nodes unit.below n.parts (parts_below node n at) in
        let many = (counted (made_in unit.is_unit.spells (occurs t.nodes unit.below t.items unit.once unit.are (length t.nodes) node n (omega arith) at)).spells).least in
        omega (arith, row, many)

    -- the parts of a node whose kind has a side without owners
    pub parts_of : (node : ℕ) (n : Node) → slice_get t.nodes node ≡ Some n → clear_side is_owner without_owners no_owners (side_of n.kind) ≡ true
        → (k part : ℕ) → slice_get n.parts k ≡ Some part → OwnsNone part
    parts_of node n at clear k part e =
        let row = clear_laid is_owner without_owners no_owners unit.tokens (side_of n.kind) (row_in t.nodes n.parts) n.first (n.last + 1) clear (laid_at node n at) in
        let one = clear_at is_owner without_owners no_owners t.nodes unit.below n.parts (parts_below node n at) row k part e in
        none_of part one.0 one.1.0 one.1.1

    abbrev AllOwnNone : ℕ → Type 0
    AllOwnNone node = (k part : ℕ) → slice_get (parts_at t node) k ≡ Some part → OwnsNone part

    pub all_parts : (node : ℕ) (k : Kind) → kind_at t node ≡ k → clear_side is_owner without_owners no_owners (side_of k) ≡ true → AllOwnNone node
    all_parts node k is clear i part e = by (slice_get t.nodes node) refl
      where
        by : (o : Option Node) → slice_get t.nodes node ≡ o → OwnsNone part
        by None at = let F : List ℕ → Type 0 = λ l. slice_get l i ≡ Some part in absurd (bare_get (subst F (ap parts_if at) e))
          where
            bare_get : slice_get [] i ≡ Some part → ⊥
            bare_get e = cc
        by (Some n) at =
            let F : List ℕ → Type 0 = λ l. slice_get l i ≡ Some part in
            let G : Kind → Type 0 = λ k. clear_side is_owner without_owners no_owners (side_of k) ≡ true in
            parts_of node n at (subst G (sym is ∙ kind_is node n at) clear) i part (subst F (parts_are node n at) e)

    -- a part that must be there
    pub part_there : (node : ℕ) (n : Node) (k : Kind) (i : ℕ) → slice_get t.nodes node ≡ Some n → kind_at t node ≡ k → i < least (side_of k) → slice_get (parts_at t node) i ≡ Some (part_at t node i)
    part_there node n k i at is few =
        let F : Kind → Type 0 = λ k. i < least (side_of k) in
        let many = counted_at node n at in
        let enough : i < least (side_of n.kind) = subst F (sym is ∙ kind_is node n at) few in
        let G : List ℕ → Type 0 = λ l. i < length l in
        let there : i < length n.parts = omega (arith, enough, many) in
        slice_get-get_or (parts_at t node) i 0 (subst G (sym (parts_are node n at)) there)
