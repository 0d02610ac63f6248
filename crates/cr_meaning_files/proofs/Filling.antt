-- The plans of a file's typed unit: what they put is reached with its declarator, and only a literal fills an array (C11 6.7.9p14).
use Rattle.std.proofs.Common.{◌≡◌, ℕ, zero, suc, ◌<◌, ◌==◌, Bool, true, false, ◌&&◌, ◌||◌, not, List, [], ◌∷◌, ◌++◌, Option, None, Some, length, map, slice_get, slice_index_or, inl, inr, refl, sym, subst, ap, ◌∙◌, arith}
use Rattle.std.specs.List.{list_any}
use Rattle.std.proofs.lemmas.Bool.{and_parts, false≢true, cases_lt, eqb-true}
use Rattle.std.proofs.lemmas.List.{get_or_past, get_or-take}
use Rattle.cr_syntax.specs.declared.node.Kind.{Kind}
use Rattle.cr_syntax.specs.declared.node.Kind.TheVariants as kind
use Rattle.cr_syntax.specs.declared.node.Node.{Node}
use Rattle.cr_syntax.specs.declared.ctype.CType.TheVariants.{Unknown}
use Rattle.cr_syntax_nodes.proofs.Numbers.{some_at}
use Rattle.cr_check_types.specs.declared.shape.Shape.{Shape}
use Rattle.cr_check_types.specs.Types.{Qualified, plain, pointer, array, type_at}
use Rattle.cr_check_expressions.specs.declared.least.Break.{Break}
use Rattle.cr_check_expressions.specs.Breaks.{fault, IsAmong as IsBreakAmong}
use Rattle.cr_check_expressions.specs.Ruled.{facts_at, no_fact}
use Rattle.cr_check_operands.specs.Values.{Seen, seen_at}
use Rattle.cr_check_initialisers.specs.declared.lines.Line.{Line}
use Rattle.cr_check_initialisers.specs.declared.lines.Line.TheVariants as line
use Rattle.cr_check_initialisers.specs.Known.{Known, is_list_if, is_text, is_text_if, parts_if as initial_parts_if}
use Rattle.cr_check_initialisers.specs.Places.{Place, is_unknown}
use Rattle.cr_check_initialisers.specs.Plans.{Entry, put, entry_of, entries_of, puts_of}
use Rattle.cr_check_initialisers.specs.Faults.{is_badly_typed, is_bad_literal, is_varying, faults_of, plan_faults}
use Rattle.cr_check_initialised.specs.Initialised.{Planned, planned_by, IsFilled}
use Rattle.cr_check_initialised.specs.Faults.{faults_in, equals_before}
use Rattle.cr_check_initialised.specs.Durations.{is_static}
use Rattle.cr_check_unit.specs.Typing.{cut, entry_at, known_in, before_in, object_in, IsRuled, IsRuledIf}
use Rattle.cr_check_unit.specs.Breaks.{IsNodeBreak}
use Rattle.cr_typed.specs.declared.typed.Typed.{Typed}
use Rattle.cr_typed.specs.declared.typed.Put.{Put}
use Rattle.cr_typed_columns.specs.Rows.{put_entry}
use Rattle.cr_typed_columns.specs.Expressions.{fills_array, is_array, is_filling}
use Rattle.cr_meaning_operations.specs.Operations.{kind_if, kind_at, parts_if, parts_at}
use Rattle.cr_meaning_typing.specs.Typed.Laws.{HoldsAll}
use Rattle.cr_meaning_typing.specs.Typed.Typing.{has_value}
use Rattle.cr_meaning_typing.proofs.TypedLemmas.Worth.{unbroken}
use Rattle.cr_meaning_typing.specs.Judged.Judged.{seen_in}
use Rattle.cr_meaning_declarations.specs.Declared.Files.{IsUnitOfFile}
use Rattle.cr_meaning_declarations.proofs.DeclaredLemmas.Files.{has_unit}
use Rattle.cr_meaning_declarations.proofs.DeclaredLemmas.Plans.{of_initialised}
use Rattle.cr_meaning_files.specs.Reached.{is_list}
use Rattle.cr_meaning_files.proofs.Putting.{IsPut, AreEntries, second, filled_if, line_at}
use Rattle.cr_scopes_linkage.proofs.SharedLemmas.Shared.{found}

-- ---- an entry of which a test holds

-- ---- kinds of nodes that may not be there

list_if : (o : Option Node) → is_list_if o ≡ is_list (kind_if o)
list_if None = refl
list_if (Some n) = of_kind n.kind
  where
    of_kind : (k : Kind) → is_list_if (Some (record { kind = k; first = n.first; last = n.last; parts = n.parts })) ≡ is_list k
    of_kind kind.InitializerList = refl
    of_kind k = refl

parts_same : (o : Option Node) → initial_parts_if o ≡ parts_if o
parts_same None = refl
parts_same (Some n) = refl

pub text_kind : (o : Option Node) → is_text_if o ≡ true → kind_if o ≡ kind.Text
text_kind None e = absurd (false≢true e)
text_kind (Some n) e = of_kind n.kind e
  where
    of_kind : (k : Kind) → is_text k ≡ true → k ≡ kind.Text
    of_kind kind.Text e = refl
    of_kind k e = absurd (false≢true e)

-- ---- faults

among_right : (b : Break) (one other : List (Option Break)) → IsBreakAmong other b → IsBreakAmong (one ++ other) b
among_right b [] other h = h
among_right b (x ∷ one) other h = inr (among_right b one other h)

among_left : (b : Break) (one other : List (Option Break)) → IsBreakAmong one b → IsBreakAmong (one ++ other) b
among_left b [] other h = absurd h
among_left b (x ∷ one) other (inl e) = inl e
among_left b (x ∷ one) other (inr h) = inr (among_left b one other h)

holds_one : (k : Known) (static : Bool) (equals : ℕ) (xs : List Entry) → HoldsAll (plan_faults k static equals xs) → (m : ℕ) (x : Entry) → slice_get xs m ≡ Some x → HoldsAll (faults_of k static equals x)
unfolding plan_faults
holds_one k static equals [] h m x e b among = absurd (cc e)
holds_one k static equals (y ∷ xs) h zero x e b among =
    let same : y ≡ x = cc e in
    h b (among_left b (faults_of k static equals y) (plan_faults k static equals xs) (subst (λ z. IsBreakAmong (faults_of k static equals z) b) (sym same) among))
holds_one k static equals (y ∷ xs) h (suc m) x e b among =
    holds_one k static equals xs (λ c a. h c (among_right c (faults_of k static equals y) (plan_faults k static equals xs) a)) m x e b among

pub typed_well : (k : Known) (static : Bool) (equals : ℕ) (place : Place) (node user : ℕ) → HoldsAll (faults_of k static equals (put place node user)) → is_badly_typed k place.type node ≡ false
typed_well k static equals place node user h =
    unbroken 37 equals (is_badly_typed k place.type node) (fault 13 (k.first node) (is_bad_literal k place.type node) ∷ fault 12 (k.first node) (is_varying k static node) ∷ []) h

pub spelled_well : (k : Known) (static : Bool) (equals : ℕ) (place : Place) (node user : ℕ) → HoldsAll (faults_of k static equals (put place node user)) → is_bad_literal k place.type node ≡ false
spelled_well k static equals place node user h =
    unbroken 13 (k.first node) (is_bad_literal k place.type node) (fault 12 (k.first node) (is_varying k static node) ∷ []) (λ b among. h b (inr among))

-- where nothing is planned nothing is put
nothing_put : (k : Known) (d : ℕ) (o : Option Planned) (type named : Qualified) (xs : List Entry) → o ≡ None → IsFilled k d o type named xs → xs ≡ []
nothing_put k d None type named xs e h = h.1
nothing_put k d (Some q) type named xs e h = absurd (cc e)

-- an array that takes a node which has a type takes a literal
literal_alone : (k : Known) (type : Qualified) (node : ℕ) → is_array type ≡ true → is_unknown (k.seen node).type ≡ false → is_badly_typed k type node ≡ false → k.literal node ≡ true
literal_alone k (plain of c v) node a u h = absurd (false≢true a)
literal_alone k (pointer c v t) node a u h = absurd (false≢true a)
literal_alone k (array n t) node a u h = by (k.literal node) (is_unknown (k.seen node).type) u h
  where
    by : (b known : Bool) → known ≡ false → (not known && ((not b || false) && true)) ≡ false → b ≡ true
    by true known e h = refl
    by false true e h = absurd (false≢true (sym e))
    by false false e h = absurd (false≢true (sym h))

pub known_type : (t : Qualified) → has_value t ≡ true → is_unknown t ≡ false
known_type (plain Unknown c v) h = absurd (false≢true h)
known_type (plain of c v) h = refl
known_type (pointer c v t) h = refl
known_type (array n t) h = refl

pub entry_get : (shapes : List Shape) (lines : List Line) (m : ℕ) (x : Line) → slice_get lines m ≡ Some x → slice_get (map (entry_of shapes) lines) m ≡ Some (entry_of shapes x)
entry_get shapes [] m x e = absurd (cc e)
entry_get shapes (y ∷ lines) zero x e = let same : y ≡ x = cc e in ap (λ z. Some (entry_of shapes z)) same
entry_get shapes (y ∷ lines) (suc m) x e = entry_get shapes lines m x e

module _ (file : List ℕ) (t : Typed) (it : IsUnitOfFile file t) where
  open it use {made_by, typing, shapes}
  open has_unit file t it use {unit, tree_nodes as nodes_are}

  abbrev pub known : ℕ → Known
  known d = known_in shapes made_by.tree (cut d typing)

  pub listed_is : (i : ℕ) → is_list_if (slice_get made_by.tree.nodes.now i) ≡ is_list (kind_at t i)
  listed_is i = list_if (slice_get made_by.tree.nodes.now i) ∙ ap (λ ns. is_list (kind_if (slice_get ns i))) nodes_are

  pub initialisers_are : (i : ℕ) → initial_parts_if (slice_get made_by.tree.nodes.now i) ≡ parts_at t i
  initialisers_are i = parts_same (slice_get made_by.tree.nodes.now i) ∙ ap (λ ns. parts_if (slice_get ns i)) nodes_are

  -- what fills an array is put there by a declarator
  pub record IsFilling (a : ℕ) : Type 0 where
    pub declarator : ℕ
    pub user : ℕ
    pub put : IsPut t unit declarator user a
    pub single : is_list (kind_at t a) ≡ false
    pub is : kind_at t declarator ≡ kind.InitDeclarator
    pub number : ℕ
    pub own : Put
    pub own_at : slice_get (slice_index_or typing.lines declarator []) number ≡ Some (line.Put own)
    pub own_is : own.node ≡ a
    pub arranged : is_array (type_at shapes own.row) ≡ true
    pub text : has_value (seen_in it.checked.checked a).type ≡ true → kind_at t a ≡ kind.Text

  module _ (d : ℕ) (n : Node) (at : slice_get t.nodes d ≡ Some n) where
    pub ruled : IsRuled made_by.tree it.checked.checked.texts shapes (cut d typing) (entry_at typing d) d n
    ruled = subst (IsRuledIf made_by.tree it.checked.checked.texts shapes (cut d typing) (entry_at typing d) d) (ap (λ ns. slice_get ns d) nodes_are ∙ at) (made_by.is.whole.typing.each d)

    abbrev pub lines : List Line
    lines = slice_index_or typing.lines d []

    entries : AreEntries t unit d (entries_of shapes lines)
    entries =
        filled_if t unit (known d) listed_is initialisers_are d _ _ _ _ ruled.filled
        (λ q e. let x = of_initialised n.kind _ _ n.parts q e in second t unit d q.initialiser (ap kind_if at ∙ x.0) (ap (λ o. slice_get (parts_if o) 1) at ∙ x.1))

    entries_at : AreEntries t unit d (map (entry_of shapes) lines)
    unfolding entries_of
    entries_at = entries

    -- what has an entry is an initialised declarator
    pub nothing_there : (k : Kind) → n.kind ≡ k → planned_by k (cut d typing).layouts (object_in shapes (cut d typing) n) n.parts ≡ None → (m : ℕ) (x : Entry) → slice_get (map (entry_of shapes) lines) m ≡ Some x → ⊥
    unfolding entries_of
    nothing_there k is nothing m x e =
        let unplanned = ap (λ c. planned_by c (cut d typing).layouts (object_in shapes (cut d typing) n) n.parts) is ∙ nothing in
        let empty : map (entry_of shapes) lines ≡ [] = nothing_put (known d) d _ _ _ (map (entry_of shapes) lines) unplanned ruled.filled in
        let never : slice_get [] m ≡ Some x = ap (λ xs. slice_get xs m) (sym empty) ∙ e in
        cc never

    pub initialised : (m : ℕ) (x : Entry) → slice_get (map (entry_of shapes) lines) m ≡ Some x → n.kind ≡ kind.InitDeclarator
    initialised m x e = by n.kind refl
      where
        by : (k : Kind) → n.kind ≡ k → n.kind ≡ kind.InitDeclarator
        by kind.InitDeclarator is = is
        by k is = absurd (nothing_there k is refl m x e)

    -- no entry breaks a constraint
    pub holds : (m : ℕ) (x : Entry) → slice_get (map (entry_of shapes) lines) m ≡ Some x → HoldsAll (faults_of (known d) (is_static made_by.tree (before_in shapes (cut d typing)).specified (Some d)) (equals_before made_by.tree.nodes.now n) x)
    unfolding entries_of
    holds m x e = by n.kind refl
      where
        all : HoldsAll (faults_in n.kind (known d) made_by.tree (before_in shapes (cut d typing)) (entry_at typing d).own.declarator.sizeless (object_in shapes (cut d typing) n)
            (type_at shapes (entry_at typing d).own.named) (map (entry_of shapes) lines) d n)
        all b among =
            made_by.sound.constraints b (inl (record {
              node = d;
              among = subst (λ o. IsNodeBreak made_by.tree it.checked.checked.texts shapes (cut d typing) (entry_at typing d) d o b) (sym (ap (λ ns. slice_get ns d) nodes_are ∙ at)) (inr (inr (inl among)));
            }))

        by : (k : Kind) → n.kind ≡ k → HoldsAll (faults_of (known d) (is_static made_by.tree (before_in shapes (cut d typing)).specified (Some d)) (equals_before made_by.tree.nodes.now n) x)
        by kind.InitDeclarator is =
            holds_one (known d) (is_static made_by.tree (before_in shapes (cut d typing)).specified (Some d)) (equals_before made_by.tree.nodes.now n) (map (entry_of shapes) lines)
            (λ b among. (subst (λ c. HoldsAll (faults_in c (known d) made_by.tree (before_in shapes (cut d typing)) (entry_at typing d).own.declarator.sizeless (object_in shapes (cut d typing) n)
            (type_at shapes (entry_at typing d).own.named) (map (entry_of shapes) lines) d n)) is all) b (inr among)) m x e
        by k is = absurd (nothing_there k is refl m x e)

    -- ---- a literal that fills an array

    -- what a node has before the declarator is what it has
    pub seen_low : (a : ℕ) → a < d → facts_at shapes (cut d typing).facts a ≡ seen_in it.checked.checked a
    seen_low a low = ap (seen_at shapes) (get_or-take d typing.facts a no_fact low)

    text_at : (m : ℕ) (x : Put) → slice_get lines m ≡ Some (line.Put x) → is_array (type_at shapes x.row) ≡ true → x.node < d → has_value (seen_in it.checked.checked x.node).type ≡ true → kind_at t x.node ≡ kind.Text
    text_at m x e arranged low worth =
        let good = typed_well (known d) _ _ (record { cell = x.cell; type = type_at shapes x.row }) x.node x.user (holds m (entry_of shapes (line.Put x)) (entry_get shapes lines m (line.Put x) e)) in
        let seen : has_value (facts_at shapes (cut d typing).facts x.node).type ≡ true = ap (λ (s : Seen). has_value s.type) (seen_low x.node low) ∙ worth in
        let literal = literal_alone (known d) (type_at shapes x.row) x.node arranged (known_type (facts_at shapes (cut d typing).facts x.node).type seen) good in
        ap (λ ns. kind_if (slice_get ns x.node)) (sym nodes_are) ∙ text_kind (slice_get made_by.tree.nodes.now x.node) literal

    -- what fills an array is put there by a declarator
    filling_line : (m a : ℕ) (x : Line) → slice_get lines m ≡ Some x → fills_array shapes a x ≡ true → IsFilling a
    filling_line m a (line.Put x) e f =
        let both = and_parts (x.node == a) (is_array (type_at shapes x.row)) f in
        let same : x.node ≡ a = eqb-true x.node a both.0 in
        let own = line_at t unit d shapes lines m (line.Put x) entries_at e in
        subst IsFilling same (record {
          declarator = d;
          user = x.user;
          put = own.0;
          single = own.1;
          is = ap kind_if at ∙ initialised m (entry_of shapes (line.Put x)) (entry_get shapes lines m (line.Put x) e);
          number = m;
          own = x;
          own_at = e;
          own_is = refl;
          arranged = both.1;
          text = λ worth. text_at m x e both.1 own.0.under worth;
        })
    filling_line m a (line.Excess list) e f = absurd (false≢true f)

  -- ---- of all nodes

  lines_at : (d m a : ℕ) (x : Line) → slice_get (slice_index_or typing.lines d []) m ≡ Some x → fills_array shapes a x ≡ true → IsFilling a
  lines_at d m a x e f = elim (cases_lt d (length t.nodes)) [
    | inl few ↦ (let n = some_at t.nodes d few in filling_line d n.0 n.1 m a x e f)
    | inr past ↦ absurd (none (subst (λ (ls : List Line). slice_get ls m ≡ Some x) (get_or_past typing.lines d [] (let c = made_by.is.whole.typing.whole.lines in let n = ap (λ (ns : List Node). length ns) nodes_are in omega (arith, past, c, n))) e))
  ]
    where
      none : slice_get [] m ≡ Some x → ⊥
      none e = cc e

  pub filling : (a : ℕ) → is_filling made_by.columns a ≡ true → IsFilling a
  filling a e =
      let moved : list_any (λ lines. list_any (fills_array shapes a) lines) typing.lines ≡ true = (λ j. list_any (λ lines. list_any (fills_array (sym made_by.are.table j) a) lines) (sym made_by.are.lines j)) ∙ e in
      let outer = found (λ lines. list_any (fills_array shapes a) lines) typing.lines moved in
      let inner = found (fills_array shapes a) outer.item outer.passes in
      lines_at outer.place inner.place a inner.item (ap (λ ls. slice_get ls inner.place) (from_get typing.lines outer.place outer.item outer.at) ∙ inner.at) inner.passes
    where
      from_get : (xs : List (List Line)) (k : ℕ) (x : List Line) → slice_get xs k ≡ Some x → slice_index_or xs k [] ≡ x
      from_get [] k x e = absurd (cc e)
      from_get (y ∷ xs) zero x e = cc e
      from_get (y ∷ xs) (suc k) x e = from_get xs k x e

  -- ---- plans

  of_lines : (d : ℕ) (table : List Shape) (lines : List Line) → AreEntries t unit d (map (entry_of table) lines) → AreEntries t unit d (map (put_entry table) (puts_of lines))
  of_lines d table [] a = tt
  of_lines d table (line.Put p ∷ lines) a = (a.0, of_lines d table lines a.1)
  of_lines d table (line.Excess l ∷ lines) a = of_lines d table lines a.1

  at_put : (d : ℕ) (table : List Shape) (puts : List Put) (k : ℕ) (own : Put) → AreEntries t unit d (map (put_entry table) puts) → slice_get puts k ≡ Some own
      → IsPut t unit d own.user own.node × (is_list (kind_at t own.node) ≡ false)
  at_put d table [] k own a e = absurd (cc e)
  at_put d table (p ∷ puts) zero own a e =
      let same : p ≡ own = cc e in subst (λ (x : Put). IsPut t unit d x.user x.node × (is_list (kind_at t x.node) ≡ false)) same a.0
  at_put d table (p ∷ puts) (suc k) own a e = at_put d table puts k own a.1 e

  plan_at : (d : ℕ) → d < length t.nodes → (k : ℕ) (own : Put) → slice_get (slice_index_or t.plans d []) k ≡ Some own → IsPut t unit d own.user own.node × (is_list (kind_at t own.node) ≡ false)
  plan_at d few k own e =
      let n = some_at t.nodes d few in
      let less : d < length it.unit.nodes = subst (λ ns. d < length ns) made_by.elaborated.nodes_are few in
      let lines = of_lines d shapes (slice_index_or typing.lines d []) (entries_at d n.0 n.1) in
      let moved = subst (λ ls. AreEntries t unit d (map (put_entry shapes) (puts_of (slice_index_or ls d [])))) (sym made_by.are.lines) lines in
      let same = subst (λ ss. AreEntries t unit d (map (put_entry ss) (puts_of (slice_index_or made_by.columns.lines.now d [])))) (sym made_by.are.table) moved in
      at_put d t.shapes (slice_index_or t.plans d []) k own (subst (AreEntries t unit d) (sym (made_by.elaborated.plans.each d less).are) same) e

  -- what a plan puts is an expression, which is reached with its declarator
  pub put_there : (d k : ℕ) (own : Put) → slice_get (slice_index_or t.plans d []) k ≡ Some own → IsPut t unit d own.user own.node × (is_list (kind_at t own.node) ≡ false)
  put_there d k own e = elim (cases_lt d (length t.nodes)) [
    | inl few ↦ plan_at d few k own e
    | inr past ↦ absurd (none (subst (λ (ps : List Put). slice_get ps k ≡ Some own) (get_or_past t.plans d [] (let c = made_by.elaborated.plans.count in let n = ap (λ (ns : List Node). length ns) made_by.elaborated.nodes_are in omega (arith, past, c, n))) e))
  ]
    where
      none : slice_get [] k ≡ Some own → ⊥
      none e = cc e
