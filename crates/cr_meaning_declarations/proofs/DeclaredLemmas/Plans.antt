-- What the plans of a file's typed unit put are initialisers (C11 6.7.9).
use Rattle.std.proofs.Common.{◌≡◌, ℕ, zero, suc, ◌+◌, ◌<◌, Bool, true, false, List, [], ◌∷◌, ◌++◌, Option, None, Some, length, map, slice_get, slice_index_or, refl, sym, subst, ap, ◌∙◌, inl, inr, arith}
use Rattle.std.proofs.lemmas.Bool.{and_parts, false≢true, cases_lt}
use Rattle.std.proofs.lemmas.List.{get_or_past}
use Rattle.cr_syntax.specs.declared.node.Kind.{Kind}
use Rattle.cr_syntax.specs.declared.node.Kind.TheVariants as kind
use Rattle.cr_syntax.specs.declared.node.Node.{Node}
use Rattle.cr_syntax.specs.declared.part.Part.TheVariants as part
use Rattle.cr_syntax.specs.Tables.{rule_of, side_of}
use Rattle.cr_syntax.specs.Kept.{AreBelow, row_in}
use Rattle.cr_syntax.specs.Trees.{Trees, node as tree_node}
use Rattle.cr_syntax.specs.Grammar.{Side, part as needed}
use Rattle.cr_syntax.proofs.Arena.{below_first, below_rest, row_at}
use Rattle.cr_syntax_nodes.specs.Laid.{stands_for, IsLaid, AreInList}
use Rattle.cr_syntax_nodes.proofs.Numbers.{some_at}
use Rattle.cr_check_types.specs.declared.layout.Layout.{Layout}
use Rattle.cr_check_types.specs.declared.shape.Shape.{Shape}
use Rattle.cr_check_types.specs.Types.{Qualified}
use Rattle.cr_check_initialisers.specs.declared.lines.Line.{Line}
use Rattle.cr_check_initialisers.specs.declared.lines.Line.TheVariants as line
use Rattle.cr_check_initialisers.specs.Known.{Known, is_list, is_list_if, parts_if}
use Rattle.cr_check_initialisers.specs.Places.{Place, opens}
use Rattle.cr_check_initialisers.specs.Plans.{Entry, put, excess, Fills, ends, exceeds, braces, whole, elided, loses, IsPlan, by_expression, by_list, entry_of, entries_of, puts_of}
use Rattle.cr_check_initialised.specs.Initialised.{Planned, is_planned, planned_if, planned_in, planned_by, IsFilled}
use Rattle.cr_check_unit.specs.Typing.{cut, entry_at, known_in, IsRuled, IsRuledIf}
use Rattle.cr_typed.specs.declared.typed.Typed.{Typed}
use Rattle.cr_typed.specs.declared.typed.Put.{Put}
use Rattle.cr_typed_columns.specs.Rows.{put_entry}
use Rattle.cr_meaning_declarations.specs.Units.Owned.{AreOfUnit, IsInitialiser, AreInitialisers}
use Rattle.cr_meaning_declarations.proofs.UnitsLemmas.Handing.{laid_at, parts_below}
use Rattle.cr_meaning_declarations.specs.Declared.Files.{IsUnitOfFile}
use Rattle.cr_meaning_declarations.proofs.DeclaredLemmas.Files.{has_unit}

-- ---- what is planned

-- the initialiser of a plan is the second part of an initialised declarator
pub second_part : (layouts : List Layout) (object : Option Qualified) (o : Option ℕ) (q : Planned) → planned_in layouts object o ≡ Some q → o ≡ Some q.initialiser
second_part layouts None o q e = absurd cc
second_part layouts (Some type) None q e = absurd cc
second_part layouts (Some type) (Some i) q e = by (is_planned layouts type) e
  where
    by : (b : Bool) → planned_if b type i ≡ Some q → Some i ≡ Some q.initialiser
    by true e = let same : record { type = type; initialiser = i } ≡ q = cc in ap (λ (p : Planned). Some p.initialiser) same
    by false e = absurd cc

pub of_initialised : (k : Kind) (layouts : List Layout) (object : Option Qualified) (parts : List ℕ) (q : Planned) → planned_by k layouts object parts ≡ Some q
    → (k ≡ kind.InitDeclarator) × (slice_get parts 1 ≡ Some q.initialiser)
of_initialised kind.InitDeclarator layouts object parts q e = (refl, second_part layouts object (slice_get parts 1) q e)
of_initialised k layouts object parts q e = absurd cc

only_list : (k : Kind) → is_list k ≡ true → k ≡ kind.InitializerList
only_list kind.InitializerList e = refl
only_list k e = absurd (false≢true e)

opened : (k : Known) (above node : ℕ) → opens k above node ≡ true → k.listed node ≡ true
unfolding opens
opened k above node e = (and_parts _ (k.listed node) e).1

module _ (t : Typed) where
  -- nodes that are initialisers, and entries that put such
  abbrev AreInits : List ℕ → Type 0
  AreInits [] = Unit {0}
  AreInits (i ∷ is) = IsInitialiser t i × AreInits is

  abbrev IsEntry : Entry → Type 0
  IsEntry (put p i b) = IsInitialiser t i
  IsEntry (excess b) = Unit {0}

  abbrev AreEntries : List Entry → Type 0
  AreEntries [] = Unit {0}
  AreEntries (x ∷ xs) = IsEntry x × AreEntries xs

  one_more : (xs : List Entry) (x : Entry) → AreEntries xs → IsEntry x → AreEntries (xs ++ x ∷ [])
  one_more [] x all one = (one, tt)
  one_more (y ∷ xs) x all one = (all.0, one_more xs x all.1 one)

  -- ---- plans

  module _ (k : Known) (lists : (i : ℕ) → k.listed i ≡ true → AreInits (k.initialisers i)) where
    filled : {ps : List Place} {b : ℕ} {is : List ℕ} {xs ys : List Entry} → Fills k ps b is xs ys → AreInits is → AreEntries xs → AreEntries ys
    filled ends a x = x
    filled {xs = xs} (exceeds {b = b}) a x = one_more xs (excess b) x tt
    filled (braces {b = b} {i = i} o inner rest) a x = filled rest a.1 (filled inner (lists i (opened k b i o)) x)
    filled {xs = xs} (whole {p = p} {b = b} {i = i} o takes rest) a x = filled rest a.1 (one_more xs (put p i b) x a.0)
    filled (elided o takes lost rest) a x = filled rest a x
    filled {xs = xs} (loses {p = p} {b = b} {i = i} o takes lost) a x = one_more xs (put p i b) x a.0

    planned : (type : Qualified) (above node : ℕ) (xs : List Entry) → IsPlan k type above node xs → IsInitialiser t node → AreEntries xs
    planned type above node xs (by_expression o e) one = subst AreEntries (sym e) (one, tt)
    planned type above node xs (by_list o fills) one = filled fills (lists node (opened k above node o)) tt

    filled_if : (i : ℕ) (o : Option Planned) (type named : Qualified) (xs : List Entry) → IsFilled k i o type named xs → ((q : Planned) → o ≡ Some q → IsInitialiser t q.initialiser)
        → AreEntries xs
    filled_if i None type named xs h f = subst AreEntries (sym h.1) tt
    filled_if i (Some q) type named xs h f = planned named i q.initialiser xs h.plan (f q refl)

  -- ---- lines

  of_lines : (shapes : List Shape) (lines : List Line) → AreEntries (map (entry_of shapes) lines) → AreEntries (map (put_entry shapes) (puts_of lines))
  of_lines shapes [] a = tt
  of_lines shapes (line.Put p ∷ lines) a = (a.0, of_lines shapes lines a.1)
  of_lines shapes (line.Excess l ∷ lines) a = of_lines shapes lines a.1

  as_lines : (shapes : List Shape) (lines : List Line) → AreEntries (entries_of shapes lines) → AreEntries (map (put_entry shapes) (puts_of lines))
  unfolding entries_of
  as_lines shapes lines a = of_lines shapes lines a

  at_put : (shapes : List Shape) (puts : List Put) (k : ℕ) (own : Put) → AreEntries (map (put_entry shapes) puts) → slice_get puts k ≡ Some own → IsInitialiser t own.node
  at_put shapes [] k own a e = absurd cc
  at_put shapes (p ∷ puts) zero own a e = let same : p ≡ own = cc in subst (λ (x : Put). IsInitialiser t x.node) same a.0
  at_put shapes (p ∷ puts) (suc k) own a e = at_put shapes puts k own a.1 e

  -- ---- the grammar

  module _ (unit : AreOfUnit t) where
    made : (q : ℕ) (m : Node) → slice_get t.nodes q ≡ Some m → stands_for part.Initializer m.kind ≡ true → IsInitialiser t q
    made q m at stands = record { own = m; at = at; stands = stands }

    abbrev Listed : ℕ → Trees → Type 0
    Listed i u = AreInList unit.tokens part.Initializer u i

    in_list : (ps : List ℕ) (i : ℕ) → AreBelow ps (length t.nodes) → Listed i (row_in t.nodes ps) → AreInits ps
    in_list [] i b h = tt
    in_list (q ∷ []) i b h =
        let m = some_at t.nodes q (below_first q [] (length t.nodes) b) in
        let x = subst (Listed i) (row_at t.nodes unit.below q m.0 [] m.1) h in
        (made q m.0 m.1 x.0, tt)
    in_list (q ∷ r ∷ ps) i b h =
        let m = some_at t.nodes q (below_first q (r ∷ ps) (length t.nodes) b) in
        let rest = below_rest q (r ∷ ps) (length t.nodes) b in
        let o = some_at t.nodes r (below_first r ps (length t.nodes) rest) in
        let x = subst (Listed i) (row_at t.nodes unit.below q m.0 (r ∷ ps) m.1) h in
        let tree = row_at t.nodes unit.below r o.0 ps o.1 in
        let y = subst (λ u. Listed i (tree_node m.0.kind m.0.first (m.0.last + 1) (row_in t.nodes m.0.parts) u)) tree x in
        (made q m.0 m.1 y.0.0, in_list (r ∷ ps) (m.0.last + 1 + 1) rest (subst (Listed (m.0.last + 1 + 1)) (sym tree) y.1.1))

    -- those of a list in braces
    list_parts : (node : ℕ) (n : Node) → slice_get t.nodes node ≡ Some n → n.kind ≡ kind.InitializerList → AreInits n.parts
    unfolding rule_of
    list_parts node n at is =
        let F : Kind → Type 0 = λ x. IsLaid unit.tokens (side_of x) (row_in t.nodes n.parts) n.first (n.last + 1) in
        let laid = subst F is (laid_at t unit node n at) in
        in_list n.parts (n.first + 1) (parts_below t unit node n at) laid.1.0

    lists_if : (node : ℕ) (o : Option Node) → slice_get t.nodes node ≡ o → is_list_if o ≡ true → AreInits (parts_if o)
    lists_if node None at e = absurd (false≢true e)
    lists_if node (Some n) at e = list_parts node n at (only_list n.kind e)

    -- that of an initialised declarator
    abbrev second_side : Side
    second_side = needed part.Initializer ∷ []

    in_declarator : (ps : List ℕ) (i j p : ℕ) → AreBelow ps (length t.nodes) → IsLaid unit.tokens (side_of kind.InitDeclarator) (row_in t.nodes ps) i j → slice_get ps 1 ≡ Some p → IsInitialiser t p
    unfolding rule_of
    in_declarator [] i j p b h e = absurd cc
    in_declarator (q ∷ []) i j p b h e = absurd cc
    in_declarator (q ∷ r ∷ ps) i j p b h e =
        let m = some_at t.nodes q (below_first q (r ∷ ps) (length t.nodes) b) in
        let o = some_at t.nodes r (below_first r ps (length t.nodes) (below_rest q (r ∷ ps) (length t.nodes) b)) in
        let x = subst (λ u. IsLaid unit.tokens (side_of kind.InitDeclarator) u i j) (row_at t.nodes unit.below q m.0 (r ∷ ps) m.1) h in
        let y = subst (λ u. IsLaid unit.tokens second_side u (m.0.last + 1 + 1) j) (row_at t.nodes unit.below r o.0 ps o.1) x.1.1 in
        let same : r ≡ p = cc in
        subst (IsInitialiser t) same (made r o.0 o.1 y.0.0)

    second : (node : ℕ) (n : Node) (p : ℕ) → slice_get t.nodes node ≡ Some n → n.kind ≡ kind.InitDeclarator → slice_get n.parts 1 ≡ Some p → IsInitialiser t p
    second node n p at is e =
        let F : Kind → Type 0 = λ x. IsLaid unit.tokens (side_of x) (row_in t.nodes n.parts) n.first (n.last + 1) in
        in_declarator n.parts n.first (n.last + 1) p (parts_below t unit node n at) (subst F is (laid_at t unit node n at)) e

-- ---- the plans of a unit

module _ (file : List ℕ) (t : Typed) (it : IsUnitOfFile file t) where
  open it use {made_by, typing, shapes}
  open has_unit file t it use {unit, tree_nodes as nodes_are}

  -- the tree's nodes are those of the unit
  entries : (node : ℕ) (n : Node) → slice_get t.nodes node ≡ Some n → AreEntries t (entries_of shapes (slice_index_or typing.lines node []))
  entries node n at =
      filled_if t (known_in shapes made_by.tree (cut node typing)) lists node _ _ _ _ ruled.filled
      (λ q e. let x = of_initialised n.kind _ _ n.parts q e in second t unit node n q.initialiser at x.0 x.1)
    where
      lists : (i : ℕ) → is_list_if (slice_get made_by.tree.nodes.now i) ≡ true → AreInits t (parts_if (slice_get made_by.tree.nodes.now i))
      lists i e = lists_if t unit i (slice_get made_by.tree.nodes.now i) (ap (λ ns. slice_get ns i) (sym nodes_are)) e

      ruled : IsRuled made_by.tree it.checked.checked.texts shapes (cut node typing) (entry_at typing node) node n
      ruled = subst (IsRuledIf made_by.tree it.checked.checked.texts shapes (cut node typing) (entry_at typing node) node) (ap (λ ns. slice_get ns node) nodes_are ∙ at) (made_by.is.whole.typing.each node)

  plan_at : (node : ℕ) → node < length t.nodes → (k : ℕ) (own : Put) → slice_get (slice_index_or t.plans node []) k ≡ Some own → IsInitialiser t own.node
  plan_at node few k own e =
      let n = some_at t.nodes node few in
      let less : node < length it.unit.nodes = subst (λ ns. node < length ns) made_by.elaborated.nodes_are few in
      let lines = as_lines t shapes (slice_index_or typing.lines node []) (entries node n.0 n.1) in
      let moved = subst (λ ls. AreEntries t (map (put_entry shapes) (puts_of (slice_index_or ls node [])))) (sym made_by.are.lines) lines in
      let same = subst (λ ss. AreEntries t (map (put_entry ss) (puts_of (slice_index_or made_by.columns.lines.now node [])))) (sym made_by.are.table) moved in
      at_put t t.shapes (slice_index_or t.plans node []) k own (subst (AreEntries t) (sym (made_by.elaborated.plans.each node less).are) same) e

  pub initialisers : AreInitialisers t
  initialisers node k own e = elim (cases_lt node (length t.nodes)) [
    | inl few ↦ plan_at node few k own e
    | inr past ↦ absurd (none (subst (λ (ps : List Put). slice_get ps k ≡ Some own) (get_or_past t.plans node [] (let c = made_by.elaborated.plans.count in let n = ap (λ (ns : List Node). length ns) made_by.elaborated.nodes_are in omega (arith, past, c, n))) e))
  ]
    where
      none : slice_get [] k ≡ Some own → ⊥
      none e = cc
