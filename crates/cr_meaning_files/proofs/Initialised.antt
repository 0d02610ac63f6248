-- The lines of an initialised declarator: each sets a part of the object that has the cells of its type, and takes what its node gives (C11 6.7.9).
use Rattle.std.proofs.Common.{◌≡◌, ℕ, zero, suc, ◌<◌, ◌≤◌, ◌==◌, Bool, true, false, ◌&&◌, ◌||◌, not, List, [], ◌∷◌, Option, None, Some, length, map, slice_get, slice_index_or, inl, inr, refl, sym, ap, subst, ◌∙◌, arith, if◌then◌else◌}
use Rattle.std.specs.List.{list_any}
use Rattle.std.proofs.lemmas.Bool.{false≢true, cases_lt, eq-eqb, eqb-true, ne_eqb, or_left, or_right}
use Rattle.std.proofs.lemmas.Option.{slice_get_within}
use Rattle.cr_syntax.specs.declared.ctype.CType.TheVariants.{Int, Struct}
use Rattle.cr_syntax.specs.declared.node.Kind.{Kind}
use Rattle.cr_syntax.specs.declared.node.Kind.TheVariants as kind
use Rattle.cr_syntax.specs.declared.node.Node.{Node}
use Rattle.cr_check_types.specs.declared.shape.Shape.{Shape}
use Rattle.cr_check_types.specs.Types.{Qualified, plain, pointer as to, array, unknown, type_at}
use Rattle.cr_check_operands.specs.Values.{Seen}
use Rattle.cr_check_expressions.specs.Forms.{form_of as rule_form}
use Rattle.cr_check_expressions.specs.Ruled.{ruled as ruled_by}
use Rattle.cr_check_expressions.specs.Used.{takes_place}
use Rattle.cr_check_initialisers.specs.declared.lines.Line.{Line}
use Rattle.cr_check_initialisers.specs.declared.lines.Line.TheVariants as line
use Rattle.cr_check_initialisers.specs.Known.{Known}
use Rattle.cr_check_initialisers.specs.Anchors.{is_array}
use Rattle.cr_check_initialisers.specs.Places.{Place, object as object_place, sized, opens}
use Rattle.cr_check_initialisers.specs.Plans.{Entry, put, excess, IsPlan, by_expression, by_list, is_open, count_in, length_asked, entry_of, entries_of, puts_of}
use Rattle.cr_check_initialised.specs.Initialised.{Planned, planned_by, IsFilled}
use Rattle.cr_check_unit.specs.Typing.{cut, object_in}
use Rattle.cr_typed.specs.declared.typed.Typed.{Typed}
use Rattle.cr_typed.specs.declared.typed.Put.{Put}
use Rattle.cr_typed_columns.specs.Rows.{put_entry}
use Rattle.cr_typed_columns.specs.Expressions.{fills_array, is_filling, is_array as is_array_type}
use Rattle.cr_meaning.specs.World.{Program}
use Rattle.cr_meaning.specs.declared.run.Limits.{Limits}
use Rattle.cr_meaning_soundness.specs.Sorts.{Sort, place, chars, statement, sort_of_scalar, sorts_in as sorts_of_cells}
use Rattle.cr_meaning_soundness.specs.Statements.{sorts_of}
use Rattle.cr_meaning_operations.specs.Shapes.{type_of_node, form_of, shape_of}
use Rattle.cr_meaning_operations.specs.Operations.{kind_if, kind_at, parts_if, parts_at, name_of, entity_of, line_of, program_of}
use Rattle.cr_meaning_typing.specs.Typed.Good.{value_sort, place_sort, row_at}
use Rattle.cr_meaning_typing.specs.Typed.Typing.{has_value, is_expression}
use Rattle.cr_meaning_typing.specs.Judged.Judged.{seen_in, source_of, scene_of, IsJudged}
use Rattle.cr_meaning_typing.proofs.JudgedLemmas.Judged.{judged}
use Rattle.cr_meaning_types.proofs.KnownLemmas.Listing.{mapped}
use Rattle.cr_meaning_declarations.specs.Units.Owned.{AreOfUnit}
use Rattle.cr_meaning_declarations.proofs.NamesLemmas.Parents.{IsPartOf}
use Rattle.cr_meaning_declarations.specs.Sight.Under.{is_under}
use Rattle.cr_meaning_declarations.proofs.SightLemmas.Under.{directly, deeper, not_above, under_at}
use Rattle.cr_meaning_declarations.specs.Declared.Files.{IsUnitOfFile}
use Rattle.cr_meaning_declarations.proofs.DeclaredLemmas.Nodes.{of_unit}
use Rattle.cr_meaning_declarations.proofs.DeclaredLemmas.Files.{tree_of}
use Rattle.cr_meaning_declarations.proofs.DeclaredLemmas.Plans.{of_initialised}
use Rattle.cr_meaning_typing.specs.Expressions.Used.{beside_sort, used_sort}
use Rattle.cr_meaning_typing.specs.Sorts.Table.{Judgement, size_at, exits_at, expression_sort, sort_at, sorts_in}
use Rattle.cr_meaning_objects.specs.Initialised.Parts.{IsPart, IsPlaced}
use Rattle.cr_meaning_objects.specs.Initialised.Asked.{HaveBytes}
use Rattle.cr_meaning_objects.specs.Initialised.Taken.{IsTaken, IsHeld, IsLine}
use Rattle.cr_meaning_objects.proofs.InitialisedLemmas.Parts.{set_parts}
use Rattle.cr_meaning_objects.proofs.InitialisedLemmas.Once.{put_once}
use Rattle.cr_meaning_objects.proofs.InitialisedLemmas.Asked.{asked_for}
use Rattle.cr_meaning_objects.proofs.InitialisedLemmas.Taken.{taken}
use Rattle.cr_meaning_objects.proofs.InitialisedLemmas.Lines.{part_cells, lines as set_lines}
use Rattle.cr_meaning_objects.proofs.CalledLemmas.Objects.{at_map as image}
use Rattle.cr_meaning_typing.specs.Whole.Statements.{IsInitialised}
use Rattle.cr_meaning_files.specs.Reached.{is_list, is_listing}
use Rattle.cr_meaning_files.specs.Seen.{sees}
use Rattle.cr_meaning_files.specs.Structures.{IsWhole, AreMembersWhole}
use Rattle.cr_meaning_files.specs.Files.{judgement_of}
use Rattle.cr_meaning_references.proofs.TreesLemmas.Tree.{HasPart, has_part}
use Rattle.cr_meaning_files.proofs.Putting.{IsPut}
use Rattle.cr_meaning_files.proofs.Filling.{text_kind, typed_well, spelled_well, entry_get, known, initialisers_are, ruled, lines, nothing_there, initialised, holds, seen_low, filling, put_there}
use Rattle.cr_meaning_files.proofs.Laid.{valued_is}
use Rattle.cr_meaning_files.proofs.Calls.{text_there}
use Rattle.cr_meaning_files.proofs.Apart.{form_kinds}
use Rattle.cr_meaning_files.proofs.Completed.{IsEarly, complete_early, cells, sorts_are, are_cells, have_parts}
use Rattle.cr_meaning_files.proofs.Small.{completed_few, element_few}
use Rattle.cr_meaning_files.proofs.Whole.{planned_object, element_complete, completed_complete}
use Rattle.cr_meaning_files.proofs.Composed.{object_cells}
use Rattle.cr_meaning_files.proofs.Standing.{this_one as either_one}

-- ---- lists

any_at : {A : Type 0} (test : A → Bool) (items : List A) (m : ℕ) (x : A) → slice_get items m ≡ Some x → test x ≡ true → list_any test items ≡ true
any_at test [] m x e h = absurd (cc e)
any_at test (y ∷ items) zero x e h = let same : y ≡ x = cc e in or_left (test y) (list_any test items) (ap test same ∙ h)
any_at test (y ∷ items) (suc m) x e h = or_right (test y) (list_any test items) (any_at test items m x e h)

-- the line of a put
line_of_put : (lines : List Line) (m : ℕ) (x : Put) → slice_get (puts_of lines) m ≡ Some x → (k : ℕ) × (slice_get lines k ≡ Some (line.Put x))
line_of_put [] m x e = absurd (cc e)
line_of_put (line.Put p ∷ lines) zero x e = let same : p ≡ x = cc e in (0, ap (λ q. Some (line.Put q)) same)
line_of_put (line.Put p ∷ lines) (suc m) x e = let r = line_of_put lines m x e in (suc r.0, r.1)
line_of_put (line.Excess l ∷ lines) m x e = let r = line_of_put lines m x e in (suc r.0, r.1)

at_index : (xs : List (List Line)) (k : ℕ) → k < length xs → slice_get xs k ≡ Some (slice_index_or xs k [])
at_index [] k low = absurd (omega (arith, low))
at_index (x ∷ xs) zero low = refl
at_index (x ∷ xs) (suc k) low = at_index xs k (omega (arith, low))

-- ---- kinds and types

listing_plain : (k : Kind) → is_listing k ≡ true → takes_place (rule_form k) ≡ false
listing_plain kind.InitDeclarator h = refl
listing_plain kind.InitializerList h = refl
listing_plain k h = absurd (false≢true h)

same_array : (type : Qualified) → is_array_type type ≡ is_array type
same_array (plain of c v) = refl
same_array (to c v below) = refl
same_array (array n below) = refl

held : (t : Typed) (type : Qualified) → IsWhole t type → IsHeld type
held t (plain (Int kind) c v) h = tt
held t (plain (Struct node) c v) h = tt
held t (plain of c v) h = absurd h
held t (to c v below) h = tt
held t (array n below) h = tt

abbrev entry_node : Entry → ℕ
entry_node (put p i b) = i
entry_node (excess b) = 0

abbrev entry_type : Entry → Qualified
entry_type (put p i b) = p.type
entry_type (excess b) = unknown

abbrev sets_array : List Shape → Line → Bool
sets_array shapes (line.Put y) = is_array_type (type_at shapes y.row)
sets_array shapes (line.Excess l) = false

-- ---- an initialiser is one of one declarator

module _ (t : Typed) (u : AreOfUnit t) where
  plain_kind : (d : ℕ) → kind_at t d ≡ kind.InitDeclarator → (is_expression (rule_form (kind_at t d)) || is_list (kind_at t d)) ≡ false
  plain_kind d is = ap (λ k. is_expression (rule_form k) || is_list k) is

  -- an initialiser stands in its declarator
  put_under : (d b a : ℕ) → IsPut t u d b a → ((a == d) || is_under t d a) ≡ true
  put_under d b a one = by ((a == d) || is_under t d a) refl
    where
      step : (p c : ℕ) → IsPartOf t u p c → is_listing (kind_at t c) ≡ true → (is_expression (rule_form (kind_at t p)) || is_list (kind_at t p)) ≡ true
          → not ((p == d) || is_under t d p) ≡ true → not ((c == d) || is_under t d c) ≡ true
      step p c h lists kinds e = of_test (c == d) (is_under t d c) refl refl
        where
          inside : is_under t d p ≡ true → not ((c == d) || is_under t d c) ≡ true
          inside f = absurd (false≢true (sym (ap not (or_right (p == d) (is_under t d p) f)) ∙ e))

          of_test : (x y : Bool) → (c == d) ≡ x → is_under t d c ≡ y → not ((c == d) || is_under t d c) ≡ true
          of_test true y f g = inside (directly t u d p (subst (IsPartOf t u p) (eqb-true c d f) h))
          of_test false true f g = inside (deeper t u d p c h g)
          of_test false false f g = (λ j. not (f j || g j))

      by : (x : Bool) → ((a == d) || is_under t d a) ≡ x → ((a == d) || is_under t d a) ≡ true
      by true e = e
      by false e =
          let up = one.climbs (λ x. not ((x == d) || is_under t d x)) step (ap not e) in
          absurd (false≢true (sym (ap not (or_left (d == d) (is_under t d d) (eq-eqb d d refl))) ∙ up))

  -- another declarator that has it stands in this one too
  climbs_within : (d e b a : ℕ) → kind_at t d ≡ kind.InitDeclarator → IsPut t u e b a → ((a == d) || is_under t d a) ≡ true → ((e == d) || is_under t d e) ≡ true
  climbs_within d e b a is one h = one.climbs (λ x. (x == d) || is_under t d x) step h
    where
      step : (p c : ℕ) → IsPartOf t u p c → is_listing (kind_at t c) ≡ true → (is_expression (rule_form (kind_at t p)) || is_list (kind_at t p)) ≡ true
          → ((p == d) || is_under t d p) ≡ true → ((c == d) || is_under t d c) ≡ true
      step p c part lists kinds f = of_test (p == d) refl f
        where
          of_test : (x : Bool) → (p == d) ≡ x → (x || is_under t d p) ≡ true → ((c == d) || is_under t d c) ≡ true
          of_test true g f = absurd (false≢true (sym (ap (λ x. is_expression (rule_form (kind_at t x)) || is_list (kind_at t x)) (eqb-true p d g) ∙ plain_kind d is) ∙ kinds))
          of_test false g f = sym (under_at t u d p c part) ∙ f

  low_in : (d e : ℕ) → ((e == d) || is_under t d e) ≡ true → e ≤ d
  low_in d e h = by (e == d) refl h
    where
      by : (x : Bool) → (e == d) ≡ x → (x || is_under t d e) ≡ true → e ≤ d
      by true f h = let same = eqb-true e d f in omega (arith, same)
      by false f h = elim (cases_lt d e) [
        | inl more ↦ absurd (false≢true (sym (not_above t u d e (omega (arith, more))) ∙ h))
        | inr le ↦ le
      ]

  pub one_declarator : (d e b c a : ℕ) → kind_at t d ≡ kind.InitDeclarator → kind_at t e ≡ kind.InitDeclarator → IsPut t u d b a → IsPut t u e c a → d ≡ e
  one_declarator d e b c a is other one two =
      let up = low_in d e (climbs_within d e c a is two (put_under d b a one)) in
      let down = low_in e d (climbs_within e d b a other one (put_under e c a two)) in
      omega (arith, up, down)

module _ (file : List ℕ) (t : Typed) (it : IsUnitOfFile file t) (made : AreMembersWhole t) (worth : (i : ℕ) → is_expression (rule_form (kind_at t i)) ≡ true → has_value (seen_in it.checked.checked i).type ≡ true)
    (limits : Limits) (i : ℕ) (n : Node) (at : slice_get t.nodes i ≡ Some n) where
  open it use {made_by, shapes, typing}

  abbrev is : IsJudged t (seen_in it.checked.checked) (source_of made_by.tree it.checked.checked) (scene_of made_by.tree it.checked.checked) it.checked.checked.surroundings.above it.checked.checked.surroundings.around
  is = judged file it.unit it.names it.checked.checked t made_by

  abbrev p : Program
  p = program_of t limits

  abbrev j : Judgement
  j = judgement_of file t it

  -- the type that the initialiser has completed
  abbrev completed : Qualified
  completed = type_at shapes (slice_index_or typing.named i 0)

  abbrev k : Known
  k = known file t it i

  -- ---- what was checked of a put

  record IsChecked (own : Put) : Type 0 where
    number : ℕ
    source : Put
    line_at : slice_get (slice_index_or typing.lines i []) number ≡ Some (line.Put source)
    entry : put_entry t.shapes own ≡ put_entry shapes source

  plan_is : map (put_entry t.shapes) (slice_index_or t.plans i []) ≡ map (put_entry shapes) (puts_of (slice_index_or typing.lines i []))
  plan_is =
      let low = slice_get_within t.nodes i n at in
      let less : i < length it.unit.nodes = subst (λ ns. i < length ns) made_by.elaborated.nodes_are low in
      (made_by.elaborated.plans.each i less).are ∙ (λ j. map (put_entry (made_by.are.table j)) (puts_of (slice_index_or (made_by.are.lines j) i [])))

  checked : (m : ℕ) (own : Put) → slice_get (slice_index_or t.plans i []) m ≡ Some own → IsChecked own
  checked m own e =
      let image : slice_get (map (put_entry t.shapes) (slice_index_or t.plans i [])) m ≡ Some (put_entry t.shapes own) = image (put_entry t.shapes) (slice_index_or t.plans i []) m own e in
      let x = mapped (put_entry shapes) (puts_of (slice_index_or typing.lines i [])) m (put_entry t.shapes own) (ap (λ xs. slice_get xs m) (sym plan_is) ∙ image) in
      let l = line_of_put (slice_index_or typing.lines i []) m x.0 x.1.0 in
      record { number = l.0; source = x.0; line_at = l.1; entry = sym x.1.1 }

  plan_of : (m : ℕ) (x : Entry) → slice_get (map (entry_of shapes) (slice_index_or typing.lines i [])) m ≡ Some x → (node : ℕ) × IsPlan k completed i node (map (entry_of shapes) (slice_index_or typing.lines i []))
  unfolding entries_of
  plan_of m x e = by (planned_by n.kind (cut i typing).layouts (object_in shapes (cut i typing) n) n.parts) _ (ruled file t it i n at).filled
    where
      by : (o : Option Planned) (type : Qualified) → IsFilled k i o type completed (map (entry_of shapes) (slice_index_or typing.lines i [])) → (node : ℕ) × IsPlan k completed i node (map (entry_of shapes) (slice_index_or typing.lines i []))
      by None type h = absurd (none (ap (λ xs. slice_get xs m) (sym h.1) ∙ e))
        where
          none : slice_get [] m ≡ Some x → ⊥
          none f = cc f
      by (Some q) type h = (q.initialiser, h.plan)

  planned_of_line : (m : ℕ) (x : Entry) → slice_get (map (entry_of shapes) (slice_index_or typing.lines i [])) m ≡ Some x
      → (q : Planned) × (planned_by n.kind (cut i typing).layouts (object_in shapes (cut i typing) n) n.parts ≡ Some q)
  planned_of_line m x e = by (planned_by n.kind (cut i typing).layouts (object_in shapes (cut i typing) n) n.parts) refl
    where
      by : (o : Option Planned) → planned_by n.kind (cut i typing).layouts (object_in shapes (cut i typing) n) n.parts ≡ o → (q : Planned) × (planned_by n.kind (cut i typing).layouts (object_in shapes (cut i typing) n) n.parts ≡ Some q)
      by None f = absurd (nothing_there file t it i n at n.kind refl f m x e)
      by (Some q) f = (q, f)

  -- a literal before the declarator has a byte (6.4.5p6)
  text_bytes : (a : ℕ) → a < i → kind_at t a ≡ kind.Text → 1 ≤ count_in (k.seen a).type
  text_bytes a low text = by (slice_get t.nodes a) refl
    where
      few : 1 ≤ length (slice_index_or t.texts a [])
      few = text_there file t it a text

      by : (o : Option Node) → slice_get t.nodes a ≡ o → 1 ≤ count_in (k.seen a).type
      by None f = let never : kind.Break ≡ kind.Text = sym (ap kind_if f) ∙ text in absurd (cc never)
      by (Some m) f =
          let rule = ap (λ (s : Seen). count_in s.type) (seen_low file t it i n at a low ∙ is.ruled a m f
          ∙ ap (λ k. ruled_by (rule_form k) (seen_in it.checked.checked) (source_of made_by.tree it.checked.checked a) a m) (sym (ap kind_if f) ∙ text)) in
          let count = is.texts a a in
          let bytes = few in
          omega (arith, rule, count, bytes)

  -- ---- the completed type, where an array that it fills by an expression alone takes a literal

  abbrev TakesText : Type 0
  TakesText = (node : ℕ) → map (entry_of shapes) (slice_index_or typing.lines i []) ≡ put (object_place completed) node i ∷ [] → is_array completed ≡ true → kind_at t node ≡ kind.Text

  module _ (texts : TakesText) (init : n.kind ≡ kind.InitDeclarator) where
    bytes : (q : Planned) → is_array completed ≡ true → IsPlan k completed i q.initialiser (entries_of shapes (slice_index_or typing.lines i [])) → slice_get (parts_at t i) 1 ≡ Some q.initialiser → HaveBytes k i q.initialiser
    unfolding entries_of
    bytes q a plan second_is = record {
      alone = λ o. by o plan;
      first = λ j rest e literal.
          let parts : parts_at t q.initialiser ≡ j ∷ rest = sym (initialisers_are file t it q.initialiser) ∙ e in
          let inner = has_part t (of_unit file t it) q.initialiser 0 j (ap (λ xs. slice_get xs 0) parts) in
          let less = inner.below in
          let node = ap (λ ns. kind_if (slice_get ns j)) (sym (tree_of file t it)) ∙ text_kind (slice_get made_by.tree.nodes.now j) literal in
          text_bytes j (omega (arith, less, under)) node;
    }
      where
        under : q.initialiser < i
        under = (has_part t (of_unit file t it) i 1 q.initialiser second_is).below

        by : opens k i q.initialiser ≡ false → IsPlan k completed i q.initialiser (map (entry_of shapes) (slice_index_or typing.lines i [])) → 1 ≤ count_in (k.seen q.initialiser).type
        by o (by_expression shut e) = text_bytes q.initialiser under (texts q.initialiser e a)
        by o (by_list opened f) = absurd (false≢true (sym o ∙ opened))

    -- an array that its initialiser completes has elements
    sized_is : (q : Planned) (first : List Entry) → IsPlan k q.type i q.initialiser first → completed ≡ sized q.type (length_asked k q.type first)
        → IsPlan k completed i q.initialiser (entries_of shapes (slice_index_or typing.lines i [])) → slice_get (parts_at t i) 1 ≡ Some q.initialiser → is_open completed ≡ false
    sized_is q first is_first is plan second_is = by q.type refl
      where
        as_type : (type : Qualified) → q.type ≡ type → completed ≡ sized type (length_asked k type first)
        as_type type f = is ∙ ap (λ x. sized x (length_asked k x first)) f

        by : (type : Qualified) → q.type ≡ type → is_open completed ≡ false
        by (plain of c v) f = ap is_open (as_type (plain of c v) f)
        by (to c v below) f = ap is_open (as_type (to c v below) f)
        by (array m below) f = of_test (m == 0) refl
          where
            of_test : (b : Bool) → (m == 0) ≡ b → is_open completed ≡ false
            of_test false g = ap is_open (as_type (array m below) f ∙ ap (λ c. array (if c then length_asked k (array m below) first else m) below) g) ∙ g
            of_test true g =
                let zeroed : q.type ≡ array 0 below = f ∙ ap (λ n. array n below) (eqb-true m 0 g) in
                let own : completed ≡ array (length_asked k (array 0 below) first) below = as_type (array 0 below) zeroed in
                let early = complete_early file t it made i below (element_complete file t it i n at (length_asked k (array 0 below) first) below own) (element_few file t it i (length_asked k (array 0 below) first) below own) in
                let few = asked_for k (IsEarly file t it made i) (have_parts file t it made i) below i q.initialiser first early (bytes q (ap is_array own) plan second_is) (subst (λ type. IsPlan k type i q.initialiser first) zeroed is_first) in
                ap is_open own ∙ ne_eqb (length_asked k (array 0 below) first) 0 (λ e. absurd (omega (arith, few, e)))

    -- so what is planned is complete before its declarator
    early_by : (q : Planned) → planned_by n.kind (cut i typing).layouts (object_in shapes (cut i typing) n) n.parts ≡ Some q → IsEarly file t it made i completed
    early_by q f = by (planned_by n.kind (cut i typing).layouts (object_in shapes (cut i typing) n) n.parts) refl _ (ruled file t it i n at).filled
      where
        none_planned : {A : Type 0} {o : Option A} (x : A) → o ≡ Some x → o ≡ None → ⊥
        none_planned x e g = cc (sym e ∙ g)

        by : (o : Option Planned) → planned_by n.kind (cut i typing).layouts (object_in shapes (cut i typing) n) n.parts ≡ o → (type : Qualified)
            → IsFilled k i o type completed (entries_of shapes (slice_index_or typing.lines i [])) → IsEarly file t it made i completed
        by None g type h = absurd (none_planned q f g)
        by (Some p) g type h =
            let second_is = ap (λ o. slice_get (parts_if o) 1) at ∙ (of_initialised n.kind (cut i typing).layouts (object_in shapes (cut i typing) n) n.parts p g).1 in
            complete_early file t it made i completed
            (completed_complete file t it i n at init p g completed (length_asked k p.type h.first) refl h.is (sized_is p h.first h.is_first h.is h.plan second_is))
            (completed_few file t it i)

  -- ---- one put

  module _ (m : ℕ) (own : Put) (e : slice_get (slice_index_or t.plans i []) m ≡ Some own) where
    abbrev c : IsChecked own
    c = checked m own e

    abbrev there : IsPut t (of_unit file t it) i own.user own.node × (is_list (kind_at t own.node) ≡ false)
    there = put_there file t it i m own e

    node_is : own.node ≡ c.source.node
    node_is = ap entry_node c.entry

    type_is : type_at t.shapes own.row ≡ type_at shapes c.source.row
    type_is = ap entry_type c.entry

    entry_at_line : slice_get (map (entry_of shapes) (slice_index_or typing.lines i [])) c.number ≡ Some (put_entry shapes c.source)
    entry_at_line = entry_get shapes (slice_index_or typing.lines i []) c.number (line.Put c.source) c.line_at

    own_entry : slice_get (map (entry_of shapes) (slice_index_or typing.lines i [])) c.number ≡ Some (put_entry t.shapes own)
    own_entry = entry_at_line ∙ ap Some (sym c.entry)

    init_is : n.kind ≡ kind.InitDeclarator
    init_is = initialised file t it i n at c.number (put_entry t.shapes own) own_entry

    expression : is_expression (rule_form (kind_at t own.node)) ≡ true
    expression = either_one (is_expression (rule_form (kind_at t own.node))) (is_list (kind_at t own.node)) there.0.kinds there.1

    seen_is : k.seen own.node ≡ seen_in it.checked.checked own.node
    seen_is = seen_low file t it i n at own.node there.0.under

    -- ---- the sort that its node has

    -- at an array it is a literal, which fills it
    fills : is_array (type_at t.shapes own.row) ≡ true → is_filling made_by.columns own.node ≡ true
    fills a =
        let passes : fills_array shapes own.node (line.Put c.source) ≡ true = both (c.source.node == own.node) _ (eq-eqb c.source.node own.node (sym node_is)) (same_array (type_at shapes c.source.row) ∙ ap is_array (sym type_is) ∙ a) in
        let inner = any_at (fills_array shapes own.node) (slice_index_or typing.lines i []) c.number (line.Put c.source) c.line_at passes in
        let low = slice_get_within t.nodes i n at in
        let count = made_by.is.whole.typing.whole.lines in
        let nodes = ap (λ (ns : List Node). length ns) (tree_of file t it) in
        let outer = any_at (λ lines. list_any (fills_array shapes own.node) lines) typing.lines i (slice_index_or typing.lines i []) (at_index typing.lines i (omega (arith, low, count, nodes))) inner in
        (λ j. list_any (λ lines. list_any (fills_array (made_by.are.table j) own.node) lines) (made_by.are.lines j)) ∙ outer
      where
        both : (a b : Bool) → a ≡ true → b ≡ true → (a && b) ≡ true
        both true true e f = refl
        both false b e f = absurd (false≢true e)
        both true false e f = absurd (false≢true f)

    -- elsewhere it fills no array, since it is put once
    unfilled : is_array (type_at t.shapes own.row) ≡ false → is_filling made_by.columns own.node ≡ false
    unfilled a = by (is_filling made_by.columns own.node) refl
      where
        by : (b : Bool) → is_filling made_by.columns own.node ≡ b → is_filling made_by.columns own.node ≡ false
        by false f = f
        by true f =
            let x = filling file t it own.node f in
            let here = ap kind_if at ∙ initialised file t it i n at c.number (put_entry t.shapes own) own_entry in
            let same : x.declarator ≡ i = one_declarator t (of_unit file t it) x.declarator i x.user own.user own.node x.is here x.put there.0 in
            let line_here : slice_get (slice_index_or typing.lines i []) x.number ≡ Some (line.Put x.own) = ap (λ d. slice_get (slice_index_or typing.lines d []) x.number) (sym same) ∙ x.own_at in
            let entry_here = entry_get shapes (slice_index_or typing.lines i []) x.number (line.Put x.own) line_here in
            let plan = plan_of c.number (put_entry t.shapes own) own_entry in
            let part_place : Place = record { cell = x.own.cell; type = type_at shapes x.own.row } in
            let named : slice_get (map (entry_of shapes) (slice_index_or typing.lines i [])) x.number ≡ Some (put part_place own.node x.own.user) = entry_here ∙ ap (λ a. Some (put part_place a x.own.user)) x.own_is in
            let one : x.number ≡ c.number =
            put_once t (of_unit file t it) k (initialisers_are file t it) completed i plan.0 (map (entry_of shapes) (slice_index_or typing.lines i [])) plan.1 own.node x.number c.number _ _ _ _ named own_entry in
            let lines_same : line.Put x.own ≡ line.Put c.source = line_same line_here (ap (slice_get (slice_index_or typing.lines i [])) one ∙ c.line_at) in
            absurd (false≢true (sym a ∙ ap is_array type_is ∙ sym (same_array (type_at shapes c.source.row)) ∙ ap (sets_array shapes) (sym lines_same) ∙ x.arranged))
          where
            line_same : {o : Option Line} {x y : Line} → o ≡ Some x → o ≡ Some y → x ≡ y
            line_same f g = cc (sym f ∙ g)

    sort_is : (sort : Sort) → sorts_in p t j own.node ≡ Some sort → sort_at p t j own.node ≡ sort
    sort_is sort f = by (j.runs own.node) f
      where
        by : (b : Bool) → (if b then Some (sort_at p t j own.node) else None) ≡ Some sort → sort_at p t j own.node ≡ sort
        by true f = cc f
        by false f = absurd (cc f)

    expression_is : sort_at p t j own.node ≡ expression_sort p t j own.node
    expression_is = ap (λ b. if b then expression_sort p t j own.node else statement (exits_at t j own.node)) expression

    part : HasPart t (of_unit file t it) own.user there.0.part.place own.node
    part = has_part t (of_unit file t it) own.user there.0.part.place own.node (ap (λ o. slice_get (parts_if o) there.0.part.place) there.0.part.at ∙ there.0.part.is)

    valued : is_array (type_at t.shapes own.row) ≡ false → slice_index_or t.valued own.node false ≡ (seen_in it.checked.checked own.node).lvalue
    valued a =
        valued_is file t it own.user there.0.part.place own.node part (unfilled a)
        ∙ ap (λ b. (seen_in it.checked.checked own.node).lvalue && not ((there.0.part.place == 0) && b)) (listing_plain (kind_at t own.user) there.0.lists)
        ∙ plain (seen_in it.checked.checked own.node).lvalue (there.0.part.place == 0)
      where
        plain : (a b : Bool) → (a && not (b && false)) ≡ a
        plain true true = refl
        plain true false = refl
        plain false b = refl

    used : is_array (type_at t.shapes own.row) ≡ false
        → expression_sort p t j own.node ≡ used_sort p (seen_in it.checked.checked own.node).lvalue (row_at t own.node) (type_of_node t own.node)
    used a = by (seen_in it.checked.checked own.node).lvalue (valued a) (unfilled a)
      where
        by : (l : Bool) → slice_index_or t.valued own.node false ≡ l → is_filling made_by.columns own.node ≡ false
            → (if l then (if is_filling made_by.columns own.node then chars else place_sort p t own.node (size_at p t own.node)) else beside_sort p (row_at t own.node) (type_of_node t own.node))
            ≡ used_sort p l (row_at t own.node) (type_of_node t own.node)
        by true v f = (λ j. if f j then chars else (if v j then value_sort p (row_at t own.node) (type_of_node t own.node) else place (size_at p t own.node)))
        by false v f = refl

    -- ---- the completed type

    -- by an expression alone an array takes a literal
    alone_text : (node : ℕ) → map (entry_of shapes) (slice_index_or typing.lines i []) ≡ put (object_place completed) node i ∷ [] → is_array completed ≡ true → kind_at t node ≡ kind.Text
    alone_text node e a =
        let one : put (object_place completed) node i ≡ put_entry t.shapes own = only c.number (ap (λ xs. slice_get xs c.number) (sym e) ∙ own_entry) in
        let type : completed ≡ type_at t.shapes own.row = ap entry_type one in
        let same : node ≡ own.node = ap entry_node one in
        let f = filling file t it own.node (fills (ap is_array (sym type) ∙ a)) in
        ap (kind_at t) same ∙ f.text (worth own.node expression)
      where
        only : {A : Type 0} {x y : A} (m : ℕ) → slice_get (x ∷ []) m ≡ Some y → x ≡ y
        only zero f = cc f
        only (suc m) f = absurd (cc f)

    -- so it is complete before its declarator
    early_is : IsEarly file t it made i completed
    early_is = let q = planned_of_line c.number (put_entry t.shapes own) own_entry in early_by alone_text init_is q.0 q.1

    -- and its object has the cells of that type
    object_is : sorts_of_cells (p.shape (entity_of t (name_of t i))) ≡ cells file t it made i completed
    object_is =
        let q = planned_of_line c.number (put_entry t.shapes own) own_entry in
        object_cells file t it limits i n at init_is q.0.type (planned_object n.kind (cut i typing).layouts (object_in shapes (cut i typing) n) n.parts q.0 q.1) early_is.whole

    -- ---- it is taken

    module _ (early : IsEarly file t it made i completed) where
      placed : IsPlaced (IsEarly file t it made i) (cells file t it made i) (cells file t it made i completed) (record { cell = own.cell; type = type_at t.shapes own.row })
      placed =
          let plan = plan_of c.number (put_entry t.shapes own) own_entry in
          set_parts k (IsEarly file t it made i) (cells file t it made i) (are_cells file t it made i) completed i plan.0 (map (entry_of shapes) (slice_index_or typing.lines i [])) early plan.1
          c.number (record { cell = own.cell; type = type_at t.shapes own.row }) own.node own.user own_entry

      takes : (is_array (type_at t.shapes own.row) ≡ true → IsTaken p (form_of t own.row) chars)
          × (is_array (type_at t.shapes own.row) ≡ false → type_at t.shapes (row_at t own.node) ≡ (k.seen own.node).type
          → IsTaken p (form_of t own.row) (used_sort p (k.seen own.node).lvalue (row_at t own.node) (k.seen own.node).type))
      takes =
          let faultless = holds file t it i n at c.number (put_entry t.shapes own) own_entry in
          taken t limits k own.row own.node (row_at t own.node) (held t (type_at t.shapes own.row) placed.whole.whole)
          (ap (λ (s : Seen). has_value s.type) seen_is ∙ worth own.node expression)
          (typed_well k _ _ (record { cell = own.cell; type = type_at t.shapes own.row }) own.node own.user faultless)
          (spelled_well k _ _ (record { cell = own.cell; type = type_at t.shapes own.row }) own.node own.user faultless)

      by_type : (b : Bool) → is_array (type_at t.shapes own.row) ≡ b → IsTaken p (form_of t own.row) (expression_sort p t j own.node)
      by_type true a =
          let f = filling file t it own.node (fills a) in
          let node = f.text (worth own.node expression) in
          let lvalue = literal_place node in
          subst (IsTaken p (form_of t own.row)) (sym ((λ j. if lvalue j then (if fills a j then chars else place_sort p t own.node (size_at p t own.node)) else beside_sort p (row_at t own.node) (type_of_node t own.node)))) (takes.0 a)
        where
          literal_place : kind_at t own.node ≡ kind.Text → (seen_in it.checked.checked own.node).lvalue ≡ true
          literal_place text =
              ap (λ (s : Seen). s.lvalue) (is.ruled own.node part.own part.own_at
              ∙ ap (λ k. ruled_by (rule_form k) (seen_in it.checked.checked) (source_of made_by.tree it.checked.checked own.node) own.node part.own) (sym (ap kind_if part.own_at) ∙ text))
      by_type false a =
          let type : type_of_node t own.node ≡ (k.seen own.node).type = is.columns.types own.node ∙ ap (λ (s : Seen). s.type) (sym seen_is) in
          subst (IsTaken p (form_of t own.row)) (sym (used a ∙ (λ j. used_sort p (sym seen_is j).lvalue (row_at t own.node) (type j)))) (takes.1 a type)

      pub is_line : (declared : ℕ) → sorts_of_cells (p.shape declared) ≡ cells file t it made i completed → IsLine p t (sorts_in p t j) declared own
      is_line declared object = record {
        cells = part_cells p declared (line_of t own) (cells file t it made i completed) object (subst (λ s. IsPart s (cells file t it made i completed) own.cell) (sym own_sorts) placed.part);
        taken = λ sort f. subst (IsTaken p (form_of t own.row)) (sym expression_is ∙ sort_is sort f) (by_type (is_array (type_at t.shapes own.row)) refl);
      }
        where
          own_sorts : sorts_of p (form_of t own.row) ≡ cells file t it made i (type_at t.shapes own.row)
          own_sorts = ap (map sort_of_scalar) (form_kinds t limits own.row (type_at t.shapes own.row) refl placed.whole.whole) ∙ sym (sorts_are (shape_of t (type_at t.shapes own.row)))

  -- ---- whether it has a put or not

  -- where it is filled by an expression alone, it has one
  lone_put : (node : ℕ) → map (entry_of shapes) (slice_index_or typing.lines i []) ≡ put (object_place completed) node i ∷ [] → (own : Put) × (slice_get (slice_index_or t.plans i []) 0 ≡ Some own)
  lone_put node e = by (slice_index_or typing.lines i []) e (slice_index_or t.plans i []) plan_is
    where
      in_plans : (xs : List Put) (count : ℕ) → length (map (put_entry t.shapes) xs) ≡ suc count → (own : Put) × (slice_get xs 0 ≡ Some own)
      in_plans [] count f = absurd (omega (arith, f))
      in_plans (x ∷ xs) count f = (x, refl)

      by : (lines : List Line) → map (entry_of shapes) lines ≡ put (object_place completed) node i ∷ [] → (xs : List Put) → map (put_entry t.shapes) xs ≡ map (put_entry shapes) (puts_of lines)
          → (own : Put) × (slice_get xs 0 ≡ Some own)
      by [] f xs g = absurd (cc f)
      by (line.Put p ∷ lines) f xs g = in_plans xs (length (map (put_entry shapes) (puts_of lines))) (ap (λ (es : List Entry). length es) g)
      by (line.Excess l ∷ lines) f xs g = absurd (cc f)

  pub completed_early : n.kind ≡ kind.InitDeclarator → (q : Planned) → planned_by n.kind (cut i typing).layouts (object_in shapes (cut i typing) n) n.parts ≡ Some q → IsEarly file t it made i completed
  completed_early init q f = early_by (λ node e a. (let x = lone_put node e in alone_text 0 x.0 x.1 node e a)) init q f

  -- ---- all of them

  pub initialises : sees t i (entity_of t (name_of t i)) ≡ true → IsInitialised p t j (sees t) i
  initialises seen =
      let both = set_lines p t (sorts_in p t j) (entity_of t (name_of t i)) (slice_index_or t.plans i []) (λ m own e. is_line m own e (early_is m own e) (entity_of t (name_of t i)) (object_is m own e)) in
      record { sees_it = seen; lines = both.0; take = both.1 }
