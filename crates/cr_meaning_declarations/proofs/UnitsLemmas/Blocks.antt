-- Blocks, `switch`, `for`, declarations and declarators: what they hand on (C11 6.7, 6.8.2, 6.8.4.2, 6.8.5.3).
use Rattle.std.proofs.Common.{◌≡◌, ℕ, zero, suc, ◌+◌, ◌<◌, ◌≤◌, ◌==◌, Bool, true, false, List, [], ◌∷◌, ◌++◌, Option, None, Some, cond, drop, length, map, slice_get, refl, sym, subst, ap, ◌∙◌, ◌⊎◌, inl, inr, arith}
use Rattle.std.specs.Prelude.{slice_index, slice_index_or, if◌then◌else◌, ◌||◌}
use Rattle.std.specs.List.{list_any, filter, flat_map}
use Rattle.std.proofs.lemmas.Option.{slice_get_within, get_or_from_slice_get}
use Rattle.std.proofs.lemmas.Bool.{false≢true, both_ways, eqb-true, eq-eqb, or_left, or_right}
use Rattle.cr_syntax.specs.declared.node.Kind.{Kind}
use Rattle.cr_syntax.specs.declared.node.Kind.TheVariants as kind
use Rattle.cr_syntax.specs.declared.node.Node.{Node}
use Rattle.cr_syntax.specs.declared.part.Part.TheVariants as part
use Rattle.cr_syntax.specs.Tables.{rule_of, side_of}
use Rattle.cr_syntax.specs.Kept.{AreBelow, row_in}
use Rattle.cr_syntax.specs.Trees.{Trees, node as tree_node}
use Rattle.cr_syntax.specs.Symbols as symbol
use Rattle.cr_syntax.specs.Grammar.{Side, inner}
use Rattle.cr_syntax.proofs.Arena.{below_first, below_rest, row_at}
use Rattle.cr_syntax_nodes.specs.Nodes.{least}
use Rattle.cr_syntax_nodes.proofs.Numbers.{some_at}
use Rattle.cr_syntax_nodes.specs.Laid.{stands_for, IsLaid}
use Rattle.cr_typed.specs.declared.typed.Typed.{Typed}
use Rattle.cr_typed.specs.declared.typed.Put.{Put}
use Rattle.cr_meaning.specs.declared.op.Op.{Op}
use Rattle.cr_meaning.specs.declared.op.Work.{Work}
use Rattle.cr_meaning.specs.declared.op.Work.TheVariants as work
use Rattle.cr_meaning_operations.specs.Operations.{kind_at, parts_at, part_at, first_if, last_if, first_at, last_at, part_from, clause_end, clause_objects, last_part, unless_body, for_by, node_op, name_by, name_of, is_name, entity_of, is_automatic, declarators_of, is_declaration, objects_in, op_by}
use Rattle.cr_meaning_soundness.specs.Sorts.{IsAmong}
use Rattle.cr_meaning_soundness.specs.Scopes.{IsPart, is_open}
use Rattle.cr_meaning_declarations.specs.Units.Owned.{declared_by, is_declared, declares, owns_by, owns, AreOfUnit, AreInitialisers, AreDeclaredOnce, is_owner}
use Rattle.cr_meaning_declarations.proofs.UnitsLemmas.Rows.{clear_side, AreClear, clear_laid, IsLoopRow, clear_first, clear_at}
use Rattle.cr_meaning_declarations.proofs.UnitsLemmas.Handing.{without_owners, no_owners, counted_at, all_parts, part_there, is_declarator, owner_by, without_declarators, no_declarators, without_declarations, no_declarations, OwnsNone, HandsOn, silent, none_of, kind_is, parts_are, laid_at, parts_below, owned_by, owning}

-- ---- lists

among_left : (n : ℕ) (one more : List ℕ) → IsAmong n one → IsAmong n (one ++ more)
among_left n [] more h = absurd h
among_left n (first ∷ one) more (inl e) = inl e
among_left n (first ∷ one) more (inr h) = inr (among_left n one more h)

among_right : (n : ℕ) (one more : List ℕ) → IsAmong n more → IsAmong n (one ++ more)
among_right n [] more h = h
among_right n (first ∷ one) more h = inr (among_right n one more h)

any_at : (test : ℕ → Bool) (items : List ℕ) (k item : ℕ) → slice_get items k ≡ Some item → test item ≡ true → list_any test items ≡ true
any_at test [] k item e h = absurd cc
any_at test (first ∷ items) zero item e h = let same : item ≡ first = cc in or_left (test first) (list_any test items) (ap test (sym same) ∙ h)
any_at test (first ∷ items) (suc k) item e h = or_right (test first) (list_any test items) (any_at test items k item e h)

-- an entry of what passes a test passes it, and is one of the list
abbrev Passed : (ℕ → Bool) → List ℕ → ℕ → Type 0
Passed test items item = (test item ≡ true) × ((i : ℕ) × (slice_get items i ≡ Some item))

passes : (test : ℕ → Bool) (items : List ℕ) (k item : ℕ) → slice_get (filter test items) k ≡ Some item → Passed test items item
passes test [] k item e = absurd cc
passes test (first ∷ items) k item e = by (test first) refl k e (λ i x. let y = passes test items i item x in (y.0, (suc y.1.0, y.1.1)))
  where
    at : test first ≡ true → (k : ℕ) → slice_get (first ∷ filter test items) k ≡ Some item → ((i : ℕ) → slice_get (filter test items) i ≡ Some item → Passed test (first ∷ items) item) → Passed test (first ∷ items) item
    at q zero e further = let same : first ≡ item = cc in (ap test (sym same) ∙ q, (0, e))
    at q (suc k) e further = further k e

    by : (b : Bool) → test first ≡ b → (k : ℕ) → slice_get (cond (test first) (first ∷ filter test items) (filter test items)) k ≡ Some item
        → ((i : ℕ) → slice_get (filter test items) i ≡ Some item → Passed test (first ∷ items) item) → Passed test (first ∷ items) item
    by true q k e further = let F : Bool → Type 0 = λ b. slice_get (cond b (first ∷ filter test items) (filter test items)) k ≡ Some item in at q k (subst F q e) further
    by false q k e further = let F : Bool → Type 0 = λ b. slice_get (cond b (first ∷ filter test items) (filter test items)) k ≡ Some item in further k (subst F q e)

module _ (t : Typed) (once : AreDeclaredOnce t) where
  -- ---- the objects of a block's declarations

  name_self : (most node : ℕ) → is_name (kind_at t node) ≡ true → name_by most t node ≡ node
  name_self zero node e = refl
  name_self (suc most) node e = ap (λ b. if b then node else name_by most t (part_at t node 0)) e

  -- what an automatic declarator declares is its own name's
  named : (node declared : ℕ) (k : Kind) → kind_at t node ≡ k → is_automatic t node ≡ true → is_declared (declared_by t node k) declared ≡ true → name_of t node ≡ declared
  named node declared kind.InitDeclarator e automatic h = sym (once node automatic) ∙ eqb-true (entity_of t (name_of t node)) declared h
  named node declared kind.NameDeclarator e automatic h = name_self (length t.nodes) node (ap is_name e) ∙ eqb-true node declared h
  named node declared kind.PointerDeclarator e automatic h = eqb-true (name_of t node) declared h
  named node declared kind.GroupDeclarator e automatic h = eqb-true (name_of t node) declared h
  named node declared kind.ArrayDeclarator e automatic h = eqb-true (name_of t node) declared h
  named node declared k e automatic h = absurd (false≢true h)

  among_names : (declared : ℕ) (ds : List ℕ) → list_any (declares t declared) (filter (is_automatic t) ds) ≡ true → IsAmong declared (map (name_of t) (filter (is_automatic t) ds))
  among_names declared [] h = absurd (false≢true h)
  among_names declared (d ∷ ds) h = by (is_automatic t d) refl (λ x. among_names declared ds x)
    where
      here : is_automatic t d ≡ true → (b : Bool) → declares t declared d ≡ b → (b || list_any (declares t declared) (filter (is_automatic t) ds)) ≡ true → (list_any (declares t declared) (filter (is_automatic t) ds) ≡ true → IsAmong declared (map (name_of t) (filter (is_automatic t) ds))) → IsAmong declared (name_of t d ∷ map (name_of t) (filter (is_automatic t) ds))
      here automatic true q x rest = inl (named d declared (kind_at t d) refl automatic q)
      here automatic false q x rest = inr (rest x)

      by : (b : Bool) → is_automatic t d ≡ b → (list_any (declares t declared) (filter (is_automatic t) ds) ≡ true → IsAmong declared (map (name_of t) (filter (is_automatic t) ds))) → IsAmong declared (map (name_of t) (cond (is_automatic t d) (d ∷ filter (is_automatic t) ds) (filter (is_automatic t) ds)))
      by true q rest =
          let F : Bool → Type 0 = λ b. IsAmong declared (map (name_of t) (cond b (d ∷ filter (is_automatic t) ds) (filter (is_automatic t) ds))) in
          let G : Bool → Type 0 = λ b. list_any (declares t declared) (cond b (d ∷ filter (is_automatic t) ds) (filter (is_automatic t) ds)) ≡ true in
          subst F (sym q) (here q (declares t declared d) refl (subst G q h) rest)
      by false q rest =
          let F : Bool → Type 0 = λ b. IsAmong declared (map (name_of t) (cond b (d ∷ filter (is_automatic t) ds) (filter (is_automatic t) ds))) in
          let G : Bool → Type 0 = λ b. list_any (declares t declared) (cond b (d ∷ filter (is_automatic t) ds) (filter (is_automatic t) ds)) ≡ true in
          subst F (sym q) (rest (subst G q h))

  among_objects : (declared : ℕ) (items : List ℕ) (k item : ℕ) → slice_get items k ≡ Some item → is_declaration (kind_at t item) ≡ true → list_any (declares t declared) (declarators_of t item) ≡ true
      → IsAmong declared (objects_in t items)
  among_objects declared [] k item e is h = absurd cc
  among_objects declared (first ∷ items) k item e is h = by (is_declaration (kind_at t first)) refl k e (λ i x. among_objects declared items i item x is h)
    where
      goal : Bool → Type 0
      goal b = IsAmong declared (flat_map (λ item. map (name_of t) (declarators_of t item)) (cond b (first ∷ filter (λ item. is_declaration (kind_at t item)) items) (filter (λ item. is_declaration (kind_at t item)) items)))

      by : (b : Bool) → is_declaration (kind_at t first) ≡ b → (k : ℕ) → slice_get (first ∷ items) k ≡ Some item → ((i : ℕ) → slice_get items i ≡ Some item → IsAmong declared (objects_in t items))
          → goal (is_declaration (kind_at t first))
      by true q zero e rest =
          let same : item ≡ first = cc in
          let F : ℕ → Type 0 = λ x. list_any (declares t declared) (declarators_of t x) ≡ true in
          subst goal (sym q) (among_left declared (map (name_of t) (declarators_of t first)) (objects_in t items) (among_names declared (drop 1 (parts_at t first)) (subst F same h)))
      by false q zero e rest = let same : item ≡ first = cc in absurd (both_ways (is_declaration (kind_at t first)) q (ap (λ x. is_declaration (kind_at t x)) (sym same) ∙ is))
      by true q (suc k) e rest = subst goal (sym q) (among_right declared (map (name_of t) (declarators_of t first)) (objects_in t items) (rest k e))
      by false q (suc k) e rest = subst goal (sym q) (rest k e)

  -- an item of a block is no declarator; what it owns the block enters
  pub item_objects : (declared : ℕ) (items : List ℕ) (k item : ℕ) (n : Node) → slice_get items k ≡ Some item → slice_get t.nodes item ≡ Some n → is_declarator n.kind ≡ false → owns t item declared ≡ true
      → IsAmong declared (objects_in t items)
  item_objects declared items k item n e at free o = by (is_declaration n.kind) refl
    where
      owned : (k : Kind) → is_declaration k ≡ true → owns_by t item k declared ≡ true → list_any (declares t declared) (declarators_of t item) ≡ true
      owned kind.Declaration q h = h
      owned k q h = absurd (false≢true q)

      by : (b : Bool) → is_declaration n.kind ≡ b → IsAmong declared (objects_in t items)
      by true q = among_objects declared items k item e (ap is_declaration (kind_is t item n at) ∙ q) (owned n.kind q (owned_by t item declared n at o))
      by false q = absurd (none_of t item n at (owner_by n.kind q free) declared o)

  module _ (unit : AreOfUnit t) where
    -- the parts of a node whose side has no declarators
    no_declarator : (node : ℕ) (n : Node) → slice_get t.nodes node ≡ Some n → clear_side is_declarator without_declarators no_declarators (side_of n.kind) ≡ true
        → (k part : ℕ) → slice_get n.parts k ≡ Some part → (m : Node) × ((slice_get t.nodes part ≡ Some m) × (is_declarator m.kind ≡ false))
    no_declarator node n at clear k part e =
        let row = clear_laid is_declarator without_declarators no_declarators unit.tokens (side_of n.kind) (row_in t.nodes n.parts) n.first (n.last + 1) clear (laid_at t unit node n at) in
        clear_at is_declarator without_declarators no_declarators t.nodes unit.below n.parts (parts_below t unit node n at) row k part e

    -- the items of a compound statement
    block_items : (node : ℕ) (n : Node) → slice_get t.nodes node ≡ Some n → n.kind ≡ kind.Compound → (declared k item : ℕ) → slice_get (parts_at t node) k ≡ Some item → owns t item declared ≡ true
        → IsAmong declared (objects_in t (parts_at t node))
    unfolding rule_of
    block_items node n at is declared k item e o =
        let F : Kind → Type 0 = λ x. clear_side is_declarator without_declarators no_declarators (side_of x) ≡ true in
        let G : List ℕ → Type 0 = λ l. slice_get l k ≡ Some item in
        let one = no_declarator node n at (subst F (sym is) refl) k item (subst G (parts_are t node n at) e) in
        item_objects declared (parts_at t node) k item one.0 e one.1.0 one.1.1 o

    pub compound : (node : ℕ) (n : Node) → slice_get t.nodes node ≡ Some n → n.kind ≡ kind.Compound → HandsOn t node (op_by t node kind.Compound)
    compound node n at is = silent t node (op_by t node kind.Compound) refl items
      where
        items : (k part declared : ℕ) → (let w : Work = (op_by t node kind.Compound).work in IsPart w (parts_at t node) k part) → owns t part declared ≡ true
            → ((true ≡ true) × (owns t node declared ≡ true)) ⊎ ((true ≡ true) × IsAmong declared (objects_in t (parts_at t node)))
        items zero part declared e o = absurd e
        items (suc k) part declared e o = inr (refl, block_items node n at is declared k part e o)

    -- ---- `switch`

    only_block : (k : Kind) → stands_for part.Compound k ≡ true → k ≡ kind.Compound
    unfolding rule_of
    only_block kind.Compound h = refl
    only_block k h = absurd (false≢true h)

    abbrev body_side : Side
    body_side = symbol.Begins ∷ inner part.Compound ∷ symbol.Ends ∷ symbol.Ends ∷ []

    -- its second part is a compound statement
    body_of : (ps : List ℕ) (i j : ℕ) → AreBelow ps (length t.nodes) → IsLaid unit.tokens (side_of kind.Switch) (row_in t.nodes ps) i j
        → (body : Node) × ((slice_get t.nodes (slice_index_or ps 1 0) ≡ Some body) × (body.kind ≡ kind.Compound))
    unfolding rule_of
    body_of [] i j b h = absurd h.1.1
    body_of (p ∷ []) i j b h =
        let m = some_at t.nodes p (below_first p [] (length t.nodes) b) in
        let x = subst (λ y. IsLaid unit.tokens (side_of kind.Switch) y i j) (row_at t.nodes unit.below p m.0 [] m.1) h in
        absurd x.1.1.1.1
    body_of (p ∷ q ∷ ps) i j b h =
        let m = some_at t.nodes p (below_first p (q ∷ ps) (length t.nodes) b) in
        let o = some_at t.nodes q (below_first q ps (length t.nodes) (below_rest p (q ∷ ps) (length t.nodes) b)) in
        let x = subst (λ y. IsLaid unit.tokens (side_of kind.Switch) y i j) (row_at t.nodes unit.below p m.0 (q ∷ ps) m.1) h in
        let y = subst (λ z. IsLaid unit.tokens body_side z (m.0.last + 1 + 1) j) (row_at t.nodes unit.below q o.0 ps o.1) x.1.1.1.1 in
        (o.0, (o.1, only_block o.0.kind y.0.0))

    pub switch : (node : ℕ) (n : Node) → slice_get t.nodes node ≡ Some n → n.kind ≡ kind.Switch → HandsOn t node (op_by t node kind.Switch)
    unfolding rule_of
    switch node n at is = silent t node (op_by t node kind.Switch) refl parts
      where
        laid : IsLaid unit.tokens (side_of kind.Switch) (row_in t.nodes n.parts) n.first (n.last + 1)
        laid = let F : Kind → Type 0 = λ k. IsLaid unit.tokens (side_of k) (row_in t.nodes n.parts) n.first (n.last + 1) in subst F is (laid_at t unit node n at)

        found : (body : Node) × ((slice_get t.nodes (slice_index_or n.parts 1 0) ≡ Some body) × (body.kind ≡ kind.Compound))
        found = body_of n.parts n.first (n.last + 1) (parts_below t unit node n at) laid

        at_body : slice_get t.nodes (part_at t node 1) ≡ Some found.0
        at_body = ap (λ l. slice_get t.nodes (slice_index_or l 1 0)) (parts_are t node n at) ∙ found.1.0

        control : OwnsNone t (part_at t node 0)
        control = all_parts t unit node kind.Switch (kind_is t node n at ∙ is) refl 0 (part_at t node 0) (part_there t unit node n kind.Switch 0 at (kind_is t node n at ∙ is) (omega arith))

        parts : (k part declared : ℕ) → (let w : Op = op_by t node kind.Switch in IsPart w.work w.parts k part) → owns t part declared ≡ true
            → ((true ≡ true) × (owns t node declared ≡ true)) ⊎ ((let w : Op = op_by t node kind.Switch in is_open w.work w.parts (suc k) ≡ true) × IsAmong declared (objects_in t (parts_at t (part_at t node 1))))
        parts zero part declared e o = let same : part_at t node 0 ≡ part = cc in absurd (subst (OwnsNone t) same control declared o)
        parts (suc zero) part declared e o = absurd e
        parts (suc (suc k)) part declared e o = inr (refl, block_items (part_at t node 1) found.0 at_body found.1.1 declared k part e o)

    -- ---- `for`

    from_at : (ps : List ℕ) (token p : ℕ) → part_from t ps token ≡ Some p → ((k : ℕ) × (slice_get ps k ≡ Some p)) × (first_at t p ≡ token)
    from_at [] token p e = absurd cc
    from_at (q ∷ ps) token p e = by (first_at t q == token) refl (λ x. from_at ps token p x)
      where
        by : (b : Bool) → (first_at t q == token) ≡ b → (part_from t ps token ≡ Some p → ((k : ℕ) × (slice_get ps k ≡ Some p)) × (first_at t p ≡ token))
            → ((k : ℕ) × (slice_get (q ∷ ps) k ≡ Some p)) × (first_at t p ≡ token)
        by true x further =
            let F : Bool → Type 0 = λ b. (if b then Some q else part_from t ps token) ≡ Some p in
            let one : Some q ≡ Some p = subst F x e in
            let same : q ≡ p = cc in
            ((0, one), ap (first_at t) (sym same) ∙ eqb-true (first_at t q) token x)
        by false x further =
            let F : Bool → Type 0 = λ b. (if b then Some q else part_from t ps token) ≡ Some p in
            let rest = further (subst F x e) in ((suc rest.0.0, rest.0.1), rest.1)

    last_there : (p : ℕ) (ps : List ℕ) → (k : ℕ) × (slice_get (p ∷ ps) k ≡ Some (last_part (p ∷ ps)))
    last_there p [] = (0, refl)
    last_there p (q ∷ ps) = let rest = last_there q ps in (suc rest.0, rest.1)

    step_there : (body : ℕ) (o : Option ℕ) (p : ℕ) → unless_body body o ≡ Some p → o ≡ Some p
    step_there body None p e = absurd cc
    step_there body (Some q) p e = by (q == body) e
      where
        by : (b : Bool) → (if b then None else Some q) ≡ Some p → Some q ≡ Some p
        by true e = absurd cc
        by false e = e

    -- a clause doesn't end before it begins
    clause_forth : (token : ℕ) (o : Option ℕ) → ((p : ℕ) → o ≡ Some p → (first_at t p ≡ token) × (first_at t p ≤ last_at t p)) → token ≤ clause_end t token o
    clause_forth token None f = omega arith
    clause_forth token (Some p) f = by (is_declaration (kind_at t p))
      where
        by : (b : Bool) → token ≤ (if b then last_at t p else last_at t p + 1)
        by true = let x = f p refl in omega (arith, x.0, x.1)
        by false = let x = f p refl in omega (arith, x.0, x.1)

    spans_at : (p : ℕ) → (k : ℕ) (ps : List ℕ) → AreBelow ps (length t.nodes) → slice_get ps k ≡ Some p → first_at t p ≤ last_at t p
    spans_at p k ps b e =
        let few : k < length ps = slice_get_within ps k p e in
        let at : slice_index ps k ≡ p = get_or_from_slice_get ps k p _ e in
        let m = some_at t.nodes p (let x = b k few in omega (arith, x, at)) in
        let within = (unit.within p m.0 m.1).0 in
        omega (arith, within, ap first_if m.1, ap last_if m.1)

    -- the parts of a `for`, whose first clause begins at this token: none owns anything, or the first alone, which is a declaration there
    data LoopParts (token : ℕ) : List ℕ → Type 0 where
      without : {ps : List ℕ} → ((k p : ℕ) → slice_get ps k ≡ Some p → OwnsNone t p) → LoopParts token ps
      declaring : (d : ℕ) (m : Node) {q : ℕ} {ps : List ℕ} → slice_get t.nodes d ≡ Some m → m.kind ≡ kind.Declaration → first_at t d ≡ token
          → ((k p : ℕ) → slice_get (q ∷ ps) k ≡ Some p → OwnsNone t p) → LoopParts token (d ∷ q ∷ ps)

    only_declaration : (k : Kind) → stands_for part.Declaration k ≡ true → k ≡ kind.Declaration
    unfolding rule_of
    only_declaration kind.Declaration h = refl
    only_declaration k h = absurd (false≢true h)

    abbrev Owner : Trees → Type 0
    Owner u = AreClear is_owner without_owners no_owners u

    owner_row : (ps : List ℕ) → AreBelow ps (length t.nodes) → Owner (row_in t.nodes ps) → (k p : ℕ) → slice_get ps k ≡ Some p → OwnsNone t p
    owner_row ps b c k p e = let one = clear_at is_owner without_owners no_owners t.nodes unit.below ps b c k p e in none_of t p one.0 one.1.0 one.1.1

    abbrev clauses_side : Side
    clauses_side = symbol.Clause ∷ symbol.Step ∷ symbol.Begins ∷ inner part.Statement ∷ symbol.Ends ∷ symbol.Ends ∷ []

    abbrev IsRow : ℕ → ℕ → Trees → Type 0
    IsRow i j u = IsLoopRow is_owner without_owners no_owners (λ v m. IsLaid unit.tokens clauses_side v m j) i u

    loop_parts : (ps : List ℕ) (token i j : ℕ) → AreBelow ps (length t.nodes) → token ≡ i → IsRow i j (row_in t.nodes ps) → LoopParts token ps
    loop_parts [] token i j b same h = without (λ k p e. absurd cc)
    loop_parts (d ∷ ps) token i j b same h = by (subst (IsRow i j) tree h)
      where
        m : (n : Node) × (slice_get t.nodes d ≡ Some n)
        m = some_at t.nodes d (below_first d ps (length t.nodes) b)

        tree : row_in t.nodes (d ∷ ps) ≡ tree_node m.0.kind m.0.first (m.0.last + 1) (row_in t.nodes m.0.parts) (row_in t.nodes ps)
        tree = row_at t.nodes unit.below d m.0 ps m.1

        declared : (ps : List ℕ) → AreBelow ps (length t.nodes) → (stands_for part.Declaration m.0.kind ≡ true) × (m.0.first ≡ i) → Owner (row_in t.nodes ps)
            → IsLaid unit.tokens clauses_side (row_in t.nodes ps) (m.0.last + 1) j → LoopParts token (d ∷ ps)
        declared [] b x y z = absurd z.1.1
        declared (q ∷ ps) b x y z = declaring d m.0 m.1 (only_declaration m.0.kind x.0) (ap first_if m.1 ∙ (x.1 ∙ sym same)) (owner_row (q ∷ ps) b y)

        by : ((is_owner m.0.kind ≡ false) × Owner (row_in t.nodes ps)) ⊎ (((stands_for part.Declaration m.0.kind ≡ true) × (m.0.first ≡ i)) × (Owner (row_in t.nodes ps) × IsLaid unit.tokens clauses_side (row_in t.nodes ps) (m.0.last + 1) j))
            → LoopParts token (d ∷ ps)
        by (inl c) = without (owner_row (d ∷ ps) b (subst Owner (sym tree) c))
        by (inr c) = declared ps (below_rest d ps (length t.nodes) b) c.0 c.1.0 c.1.1

    -- a clause behind the first one, and the body
    record LoopRest (ps : List ℕ) (first : Option ℕ) (token : ℕ) : Type 0 where
      opened : (p declared : ℕ) → first ≡ Some p → owns t p declared ≡ true → IsAmong declared (clause_objects t first)
      later : (k p : ℕ) → slice_get ps k ≡ Some p → (first_at t p ≡ token → ⊥) → OwnsNone t p
      spans : (p : ℕ) → first ≡ Some p → (first_at t p ≡ token) × (first_at t p ≤ last_at t p)
      body : OwnsNone t (last_part ps)

    loop_rest : (ps : List ℕ) (token : ℕ) (first : Option ℕ) → 0 < length ps → AreBelow ps (length t.nodes) → part_from t ps token ≡ first → LoopParts token ps → LoopRest ps first token
    loop_rest [] token first few b from (without f) = absurd (omega arith)
    loop_rest (q ∷ qs) token first few b from (without f) = record {
      opened = λ p declared e o. let x = from_at (q ∷ qs) token p (from ∙ e) in absurd (f x.0.0 p x.0.1 declared o);
      later = λ k p e other. f k p e;
      spans = λ p e. let x = from_at (q ∷ qs) token p (from ∙ e) in (x.1, spans_at p x.0.0 (q ∷ qs) b x.0.1);
      body = let x = last_there q qs in f x.0 (last_part (q ∷ qs)) x.1;
    }
    loop_rest ps token first few b from (declaring d m {q = q} {ps = qs} at is same f) = record {
      opened = λ p declared e o. opened p declared e o;
      later = λ k p e other. later k p e other;
      spans = λ p e. let x = from_at (d ∷ q ∷ qs) token p (from ∙ e) in (x.1, spans_at p x.0.0 (d ∷ q ∷ qs) b x.0.1);
      body = let x = last_there q qs in f x.0 (last_part (q ∷ qs)) x.1;
    }
      where
        rest : List ℕ
        rest = q ∷ qs

        found : Some d ≡ first
        found = sym (ap (λ b. if b then Some d else part_from t rest token) (eq-eqb (first_at t d) token same)) ∙ from

        opened : (p declared : ℕ) → first ≡ Some p → owns t p declared ≡ true → IsAmong declared (clause_objects t first)
        opened p declared e o =
            let one : Some d ≡ Some p = found ∙ e in
            let equal : d ≡ p = cc in
            let F : Option ℕ → Type 0 = λ x. IsAmong declared (clause_objects t x) in
            let G : Kind → Type 0 = λ k. is_declarator k ≡ false in
            subst F found (item_objects declared (d ∷ []) 0 d m refl at (subst G (sym is) refl) (ap (λ x. owns t x declared) equal ∙ o))

        later : (k p : ℕ) → slice_get (d ∷ rest) k ≡ Some p → (first_at t p ≡ token → ⊥) → OwnsNone t p
        later zero p e other = let equal : d ≡ p = cc in absurd (other (ap (first_at t) (sym equal) ∙ same))
        later (suc k) p e other = f k p e

    loop : (node : ℕ) (ps : List ℕ) (token : ℕ) (first : Option ℕ) → AreBelow ps (length t.nodes) → (0 < length ps) → LoopRest ps first token → HandsOn t node (node_op [] (for_by t ps token first))
    loop node [] token first b few r = absurd (omega arith)
    loop node (q ∷ qs) token first b few r = silent t node (node_op [] (for_by t (q ∷ qs) token first)) refl clauses
      where
        ps : List ℕ
        ps = q ∷ qs

        -- a part that begins behind the first clause
        behind : (at p declared : ℕ) → token < at → part_from t ps at ≡ Some p → owns t p declared ≡ true → ⊥
        behind at p declared more e o = let x = from_at ps at p e in r.later x.0.0 p x.0.1 (λ same. absurd (omega (arith, more, x.1, same))) declared o

        second_at : ℕ
        second_at = clause_end t token first + 1

        second : Option ℕ
        second = part_from t ps second_at

        one_more : token ≤ clause_end t token first
        one_more = clause_forth token first r.spans

        two_more : second_at ≤ clause_end t second_at second
        two_more = clause_forth second_at second (λ p e. let x = from_at ps second_at p e in (x.1, spans_at p x.0.0 ps b x.0.1))

        clauses : (k part declared : ℕ) → (let w : Work = for_by t ps token first in IsPart w [] k part) → owns t part declared ≡ true
            → ((true ≡ true) × (owns t node declared ≡ true)) ⊎ ((true ≡ true) × IsAmong declared (clause_objects t first))
        clauses zero part declared e o = inr (refl, r.opened part declared e o)
        clauses (suc zero) part declared e o = absurd (behind second_at part declared (omega (arith, one_more)) e o)
        clauses (suc (suc zero)) part declared e o = absurd (subst (OwnsNone t) e r.body declared o)
        clauses (suc (suc (suc zero))) part declared e o = absurd (behind (clause_end t second_at second + 1) part declared (omega (arith, one_more, two_more)) (step_there (last_part ps) _ part e) o)
        clauses (suc (suc (suc (suc k)))) part declared e o = absurd e

    pub for : (node : ℕ) (n : Node) → slice_get t.nodes node ≡ Some n → n.kind ≡ kind.For → HandsOn t node (op_by t node kind.For)
    unfolding rule_of
    for node n at is = loop node (parts_at t node) (first_at t node + 2) (part_from t (parts_at t node) (first_at t node + 2)) below some
        (loop_rest (parts_at t node) (first_at t node + 2) (part_from t (parts_at t node) (first_at t node + 2)) some below refl
        (loop_parts (parts_at t node) (first_at t node + 2) (n.first + 1 + 1) (n.last + 1) below (let e = ap first_if at in omega (arith, e)) row))
      where
        below : AreBelow (parts_at t node) (length t.nodes)
        below = let F : List ℕ → Type 0 = λ l. AreBelow l (length t.nodes) in subst F (sym (parts_are t node n at)) (parts_below t unit node n at)

        some : 0 < length (parts_at t node)
        some =
            let F : Kind → Type 0 = λ k. least (side_of k) ≤ length n.parts in
            let few : 1 ≤ length n.parts = subst F is (counted_at t unit node n at) in
            let G : List ℕ → Type 0 = λ l. 0 < length l in
            subst G (sym (parts_are t node n at)) (omega (arith, few))

        laid : IsLaid unit.tokens (side_of kind.For) (row_in t.nodes n.parts) n.first (n.last + 1)
        laid = let F : Kind → Type 0 = λ k. IsLaid unit.tokens (side_of k) (row_in t.nodes n.parts) n.first (n.last + 1) in subst F is (laid_at t unit node n at)

        row : IsRow (n.first + 1 + 1) (n.last + 1) (row_in t.nodes (parts_at t node))
        row =
            let F : List ℕ → Type 0 = λ l. IsRow (n.first + 1 + 1) (n.last + 1) (row_in t.nodes l) in
            subst F (sym (parts_are t node n at)) (clear_first is_owner without_owners no_owners unit.tokens clauses_side (row_in t.nodes n.parts) (n.first + 1 + 1) (n.last + 1) refl refl laid.1.1)

    -- ---- declarations and declarators

    -- no part of a declaration is one
    no_declaration : (node : ℕ) (n : Node) → slice_get t.nodes node ≡ Some n → n.kind ≡ kind.Declaration → (k part : ℕ) → slice_get n.parts k ≡ Some part
        → (m : Node) × ((slice_get t.nodes part ≡ Some m) × (is_declaration m.kind ≡ false))
    unfolding rule_of
    no_declaration node n at is k part e =
        let F : Kind → Type 0 = λ x. clear_side is_declaration without_declarations no_declarations (side_of x) ≡ true in
        let row = clear_laid is_declaration without_declarations no_declarations unit.tokens (side_of n.kind) (row_in t.nodes n.parts) n.first (n.last + 1) (subst F (sym is) refl) (laid_at t unit node n at) in
        clear_at is_declaration without_declarations no_declarations t.nodes unit.below n.parts (parts_below t unit node n at) row k part e

    pub declaration : (node : ℕ) (n : Node) → slice_get t.nodes node ≡ Some n → n.kind ≡ kind.Declaration → HandsOn t node (op_by t node kind.Declaration)
    declaration node n at is = silent t node (op_by t node kind.Declaration) refl parts
      where
        dropped : (ps : List ℕ) (i : ℕ) (part : ℕ) → slice_get (drop 1 ps) i ≡ Some part → slice_get ps (suc i) ≡ Some part
        dropped [] i part e = absurd cc
        dropped (p ∷ ps) i part e = e

        own : (part declared : ℕ) (k : Kind) → is_declaration k ≡ false → owns_by t part k declared ≡ true → is_declared (declared_by t part k) declared ≡ true
        own part declared kind.Declaration q h = absurd (false≢true (sym q))
        own part declared k q h = h

        parts : (k part declared : ℕ) → slice_get (declarators_of t node) k ≡ Some part → owns t part declared ≡ true
            → ((true ≡ true) × (owns t node declared ≡ true)) ⊎ ((false ≡ true) × ⊥)
        parts k part declared e o =
            let x = passes (is_automatic t) (drop 1 (parts_at t node)) k part e in
            let F : List ℕ → Type 0 = λ l. slice_get l (suc x.1.0) ≡ Some part in
            let one = no_declaration node n at is (suc x.1.0) part (subst F (parts_are t node n at) (dropped (parts_at t node) x.1.0 part x.1.1)) in
            let h = own part declared one.0.kind one.1.1 (owned_by t part declared one.0 one.1.0 o) in
            let G : Kind → Type 0 = λ k. is_declared (declared_by t part k) declared ≡ true in
            inl (
              refl,
              owning t node declared kind.Declaration (kind_is t node n at ∙ is)
                  (any_at (declares t declared) (declarators_of t node) k part e (subst G (sym (kind_is t part one.0 one.1.0)) h)),
            )

    -- a declarator without initialiser
    pub declarator : (node own : ℕ) (k : Kind) → kind_at t node ≡ k → declared_by t node k ≡ Some own → ((declared : ℕ) → owns_by t node k declared ≡ is_declared (declared_by t node k) declared)
        → HandsOn t node (node_op [] (work.Declare own))
    declarator node own k e d f = record {
      declares = λ declared same. let equal : own ≡ declared = cc in owning t node declared k e (f declared ∙ (ap (λ o. is_declared o declared) d ∙ eq-eqb own declared equal));
      initialises = λ declared lines same. absurd cc;
      parts = λ i part declared is o. absurd (no_part i part is);
    }
      where
        no_part : (i part : ℕ) → slice_get [] i ≡ Some part → ⊥
        no_part i part e = cc

    -- and with one: what is put are initialisers
    no_owner : (k : Kind) → stands_for part.Initializer k ≡ true → is_owner k ≡ false
    unfolding rule_of
    no_owner k h = no_owners part.Initializer k refl h

    pub initialised : (puts : AreInitialisers t) (node : ℕ) → kind_at t node ≡ kind.InitDeclarator → HandsOn t node (op_by t node kind.InitDeclarator)
    initialised puts node e = record {
      declares = λ declared same. absurd cc;
      initialises = λ declared lines same. let equal : entity_of t (name_of t node) ≡ declared = cc in owning t node declared kind.InitDeclarator e (eq-eqb (entity_of t (name_of t node)) declared equal);
      parts = λ i part declared is o. absurd (free i part is declared o);
    }
      where
        plan : List Put
        plan = slice_index_or t.plans node []

        put_at : (ps : List Put) (i part : ℕ) → slice_get (map (λ put. put.node) ps) i ≡ Some part → (put : Put) × ((slice_get ps i ≡ Some put) × (put.node ≡ part))
        put_at [] i part e = absurd cc
        put_at (p ∷ ps) zero part e = let same : p.node ≡ part = cc in (p, (refl, same))
        put_at (p ∷ ps) (suc i) part e = put_at ps i part e

        free : (i part : ℕ) → slice_get (map (λ put. put.node) plan) i ≡ Some part → OwnsNone t part
        free i part e =
            let x = put_at plan i part e in
            let y = puts node i x.0 x.1.0 in
            subst (OwnsNone t) x.1.1 (none_of t x.0.node y.own y.at (no_owner y.own.kind y.stands))
