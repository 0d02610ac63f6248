-- All types of a unit that breaks no constraint are bounded: by induction over its nodes in their order (C11 6.7.2.1p3, K6, K7).
use Rattle.std.proofs.Common.{◌≡◌, ℕ, zero, suc, ◌<◌, ◌≤◌, ◌==◌, ◌||◌, inl, inr, Bool, true, false, List, [], ◌∷◌, Option, None, Some, drop, length, map, slice_get, slice_index_or, refl, sym, ap, subst, ◌∙◌, arith, if◌then◌else◌}
use Rattle.std.specs.Option.{is_some}
use Rattle.std.proofs.lemmas.Bool.{false≢true, and_parts, cases_lt}
use Rattle.std.proofs.lemmas.List.{get_or_past, get_or-take}
use Rattle.std.proofs.lemmas.Option.{slice_get_within}
use Rattle.cr_syntax.specs.declared.ctype.CType.TheVariants.{Unknown}
use Rattle.cr_syntax.specs.declared.node.Kind.{Kind}
use Rattle.cr_syntax.specs.declared.node.Kind.TheVariants as kind
use Rattle.cr_syntax.specs.declared.node.Node.{Node}
use Rattle.cr_syntax_nodes.proofs.Numbers.{some_at}
use Rattle.cr_check_enclosing.specs.declared.context.Around.{Around}
use Rattle.cr_check_enclosing.specs.declared.context.Place.TheVariants as place
use Rattle.cr_check_enclosing.specs.Around.{outermost, AreAround}
use Rattle.cr_check_types.specs.declared.layout.Layout.{Layout}
use Rattle.cr_check_types.specs.declared.shape.Shape.{Shape}
use Rattle.cr_check_types.specs.Types.{Qualified, plain, pointer, array, type_at}
use Rattle.cr_check_types.specs.Relations.{is_complete_at}
use Rattle.cr_check_types.specs.Layouts.{nothing}
use Rattle.cr_check_operands.specs.Values.{Seen, seen_at}
use Rattle.cr_check_operands.specs.Places.{found_by}
use Rattle.cr_check_expressions.specs.declared.least.Break.{Break}
use Rattle.cr_check_expressions.specs.declared.known.Declared.{Declared}
use Rattle.cr_check_expressions.specs.declared.known.Declared.TheVariants.{Object, Enumerator, Function, TypeName, Unclear}
use Rattle.cr_check_expressions.specs.declared.known.Member.{Member}
use Rattle.cr_check_expressions.specs.Forms.{form_of}
use Rattle.cr_check_expressions.specs.Known.{spelling_of, meaning_by, declared_by, parameters_in as parameter_rows, named_row, row_of_name}
use Rattle.cr_check_expressions.specs.Ruled.{no_fact, facts_at}
use Rattle.cr_check_declarators.specs.declared.declarator.Declarator.{Declarator}
use Rattle.cr_check_declarators.specs.Declarators.{whole_object}
use Rattle.cr_check_declarators.specs.Functions.{adjusted_type}
use Rattle.cr_check_declarations.specs.declared.tree.Tree.{Tree}
use Rattle.cr_check_declarations.specs.Before.{Before, declarator_in}
use Rattle.cr_check_declarations.specs.Declarators.{declarator_by}
use Rattle.cr_check_declarations.specs.Named.{is_declarator, is_initialised, is_declaration, declaration_of, parameter_nodes, parameters_in, parameters_by, member_of, members_by}
use Rattle.cr_check_declarations.specs.Faults.{token_if, place_of}
use Rattle.cr_check_initialisers.specs.Plans.{Entry, put, excess, entries_of, is_open}
use Rattle.cr_check_initialisers.specs.Known.{member_types}
use Rattle.cr_check_initialised.specs.Initialised.{object_of}
use Rattle.cr_check_initialised.specs.Faults as initialised
use Rattle.cr_check_linkage.specs.NameTypes.{type_or}
use Rattle.cr_check_unit.specs.declared.typing.Typing.{Typing}
use Rattle.cr_check_unit.specs.Typing.{cut, entry_at, before_in, source_in, known_in, object_in, past_in, own_named, own_type, seen_type, name_type, composite_type, IsTyping}
use Rattle.cr_check_unit.specs.Breaks.{IsBroken, IsNodeBreak}
use Rattle.cr_typed.specs.Typed.{MOST_CELLS}
use Rattle.cr_meaning_typing.specs.Typed.Laws.{HoldsAll}
use Rattle.cr_meaning_types.specs.Known.Shaped.{fits, is_filled, IsPart, IsShaped}
use Rattle.cr_meaning_types.specs.Known.Sighted.{AreSighted}
use Rattle.cr_meaning_types.specs.Known.Sized.{AreTypedefs}
use Rattle.cr_meaning_types.specs.Known.Sized as known_sizes
use Rattle.cr_meaning_types.proofs.KnownLemmas.Naming.{declaration_here, ruled, named_early, declarator_early}
use Rattle.cr_meaning_types.proofs.KnownLemmas.Declaring.{unplaced, there_is, member_complete}
use Rattle.cr_meaning_types.proofs.KnownLemmas.Listing.{mapped, behind_first, member_place}
use Rattle.cr_meaning_types.proofs.KnownLemmas.Sized.{bracketless}
use Rattle.cr_meaning_types.specs.Fitting.Laws.{TypesAreBounded, StructuresAreBounded}
use Rattle.cr_meaning_types.specs.Fitting.Bounded.{IsBounded, Every, Declares, IsDeclaredBounded, IsEntryBounded, IsMemberBounded, IsBoundedIn}
use Rattle.cr_meaning_types.proofs.FittingLemmas.Types.{complete_later, bounded_later, adjusted_bounded}
use Rattle.cr_meaning_types.proofs.FittingLemmas.Values.{IsMeaning, IsFound, IsSource, ruled_bounded}
use Rattle.cr_meaning_types.proofs.FittingLemmas.Names.{every_there, every_mapped, every_flat, every_listed, early, N, seen_bounded, whole_bounded, as_bounded, type_or_bounded, parameters_or_bounded, declares_all, named_bounded}
use Rattle.cr_meaning_types.proofs.FittingLemmas.Filling.{IsFilledSo, filled_bounded}
use Rattle.cr_meaning_types.proofs.FittingLemmas.Counting.{derived_there, structure_small}

-- ---- members

whole_later : (nodes : List Node) (at later : ℕ) → at ≤ later → (t : Qualified) → whole_object (is_complete_at nodes at) t ≡ true → whole_object (is_complete_at nodes later) t ≡ true
whole_later nodes at later less (plain Unknown c v) e = refl
whole_later nodes at later less (plain of c v) e = complete_later nodes at later less (plain of c v) e
whole_later nodes at later less (pointer c v t) e = refl
whole_later nodes at later less (array n t) e = by (n == 0) (is_complete_at nodes at (array n t)) refl e
  where
    by : (a b : Bool) → is_complete_at nodes at (array n t) ≡ b → (a || b) ≡ true → (a || is_complete_at nodes later (array n t)) ≡ true
    by true b f g = refl
    by false true f g = complete_later nodes at later less (array n t) f
    by false false f g = absurd (false≢true g)

-- ---- at later nodes

module _ (nodes : List Node) (layouts : List Layout) (shapes : List Shape) (at later : ℕ) (less : at ≤ later) where
  declared_later : (d : Declared) → IsDeclaredBounded nodes layouts shapes at d → IsDeclaredBounded nodes layouts shapes later d
  declared_later (Object row register) h = bounded_later nodes layouts at later less (type_at shapes row) h
  declared_later (Function row more) h = bounded_later nodes layouts at later less (type_at shapes row) h
  declared_later d h = tt

  every_later : (ts : List Qualified) → Every (IsBounded nodes layouts at) ts → Every (IsBounded nodes layouts later) ts
  every_later ts h = every_there (IsBounded nodes layouts at) (IsBounded nodes layouts later) (bounded_later nodes layouts at later less) ts h

  pub node_later : (c : Typing) (p : ℕ) → IsBoundedIn nodes layouts shapes at c p → IsBoundedIn nodes layouts shapes later c p
  node_later c p h = record {
    fact = bounded_later nodes layouts at later less (facts_at shapes c.facts p).type h.fact;
    named = bounded_later nodes layouts at later less (type_at shapes (slice_index_or c.named p 0)) h.named;
    declared = declared_later (slice_index_or c.declared p Unclear) h.declared;
    parameters = every_later (map (type_at shapes) (slice_index_or c.parameters p [])) h.parameters;
    composite = bounded_later nodes layouts at later less (type_at shapes (slice_index_or c.composites p 0)) h.composite;
    composite_parameters = every_later (map (type_at shapes) (slice_index_or c.composite_parameters p [])) h.composite_parameters;
    members = every_there (IsMemberBounded nodes layouts shapes at) (IsMemberBounded nodes layouts shapes later)
        (λ m x. (bounded_later nodes layouts at later less (type_at shapes m.row) x.0, whole_later nodes at later less (type_at shapes m.row) x.1)) (slice_index_or c.members p []) h.members;
    lines = every_there (IsEntryBounded nodes layouts at) (IsEntryBounded nodes layouts later) entry_later (entries_of shapes (slice_index_or c.lines p [])) h.lines;
  }
    where
      entry_later : (x : Entry) → IsEntryBounded nodes layouts at x → IsEntryBounded nodes layouts later x
      entry_later (put q i b) g = bounded_later nodes layouts at later less q.type g
      entry_later (excess b) g = tt

-- ---- the columns before a node

pub cut_bounded : (nodes : List Node) (layouts : List Layout) (shapes : List Shape) (none : IsBounded nodes layouts 0 (type_at shapes 0)) (i : ℕ) (t : Typing)
    → ((p : ℕ) → p < i → IsBoundedIn nodes layouts shapes i t p) → (p : ℕ) → IsBoundedIn nodes layouts shapes i (cut i t) p
unfolding entries_of
cut_bounded nodes layouts shapes none i t h p =
    let first = bounded_later nodes layouts 0 i (omega arith) (type_at shapes 0) none in
    record {
      fact = early (λ f. IsBounded nodes layouts i (seen_at shapes f).type) i t.facts p no_fact first (λ low. (h p low).fact);
      named = early (λ row. IsBounded nodes layouts i (type_at shapes row)) i t.named p 0 first (λ low. (h p low).named);
      declared = early (IsDeclaredBounded nodes layouts shapes i) i t.declared p Unclear tt (λ low. (h p low).declared);
      parameters = early (λ rows. Every (IsBounded nodes layouts i) (map (type_at shapes) rows)) i t.parameters p [] tt (λ low. (h p low).parameters);
      composite = early (λ row. IsBounded nodes layouts i (type_at shapes row)) i t.composites p 0 first (λ low. (h p low).composite);
      composite_parameters = early (λ rows. Every (IsBounded nodes layouts i) (map (type_at shapes) rows)) i t.composite_parameters p [] tt (λ low. (h p low).composite_parameters);
      members = early (Every (IsMemberBounded nodes layouts shapes i)) i t.members p [] tt (λ low. (h p low).members);
      lines = early (λ lines. Every (IsEntryBounded nodes layouts i) (entries_of shapes lines)) i t.lines p [] tt (λ low. (h p low).lines);
    }

-- a node that isn't there
pub past_bounded : (nodes : List Node) (layouts : List Layout) (shapes : List Shape) (none : IsBounded nodes layouts 0 (type_at shapes 0)) (i : ℕ) (u : Tree) (texts : List (List ℕ)) (t : Typing)
    → IsTyping u texts shapes t → (p : ℕ) → length u.nodes.now ≤ p → IsBoundedIn nodes layouts shapes i t p
unfolding entries_of
past_bounded nodes layouts shapes none i u texts t h p past =
    let first = bounded_later nodes layouts 0 i (omega arith) (type_at shapes 0) none in
    let w = h.whole in
    let few_facts = w.facts in let few_named = w.named in let few_declared = w.declared in let few_parameters = w.parameters in
    let few_composites = w.composites in let few_own = w.composite_parameters in let few_members = w.members in let few_lines = w.lines in
    record {
      fact = subst (λ f. IsBounded nodes layouts i (seen_at shapes f).type) (sym (get_or_past t.facts p no_fact (omega (arith, few_facts, past)))) first;
      named = subst (λ row. IsBounded nodes layouts i (type_at shapes row)) (sym (get_or_past t.named p 0 (omega (arith, few_named, past)))) first;
      declared = subst (IsDeclaredBounded nodes layouts shapes i) (sym (get_or_past t.declared p Unclear (omega (arith, few_declared, past)))) tt;
      parameters = subst (λ rows. Every (IsBounded nodes layouts i) (map (type_at shapes) rows)) (sym (get_or_past t.parameters p [] (omega (arith, few_parameters, past)))) tt;
      composite = subst (λ row. IsBounded nodes layouts i (type_at shapes row)) (sym (get_or_past t.composites p 0 (omega (arith, few_composites, past)))) first;
      composite_parameters = subst (λ rows. Every (IsBounded nodes layouts i) (map (type_at shapes) rows)) (sym (get_or_past t.composite_parameters p [] (omega (arith, few_own, past)))) tt;
      members = subst (Every (IsMemberBounded nodes layouts shapes i)) (sym (get_or_past t.members p [] (omega (arith, few_members, past)))) tt;
      lines = subst (λ lines. Every (IsEntryBounded nodes layouts i) (entries_of shapes lines)) (sym (get_or_past t.lines p [] (omega (arith, few_lines, past)))) tt;
    }

-- ---- what a node reads

module _ (nodes : List Node) (layouts : List Layout) (shapes : List Shape) (at : ℕ) where
  abbrev P : Qualified → Type 0
  P = IsBounded nodes layouts at

  meant : (look : ℕ → Qualified) (rows : List ℕ) (d : Declared) → Declares (λ row. P (look row)) d → IsMeaning nodes layouts at (meaning_by look rows d)
  meant look rows (Object row register) h = h
  meant look rows (Function row more) h = h
  meant look rows (Enumerator value) h = tt
  meant look rows TypeName h = tt
  meant look rows Unclear h = tt

  object_meant : (look : ℕ → Qualified) (rows : List ℕ) (d : Declared) (type : Qualified) → Declares (λ row. P (look row)) d → object_of (meaning_by look rows d) ≡ Some type → P type
  object_meant look rows (Object row register) type h e = let same : look row ≡ type = cc e in subst P same h
  object_meant look rows (Function row more) type h e = absurd (cc e)
  object_meant look rows (Enumerator value) type h e = absurd (cc e)
  object_meant look rows TypeName type h e = absurd (cc e)
  object_meant look rows Unclear type h e = absurd (cc e)

  found_if : (b : Bool) (row : ℕ) (rest : Option ℕ) → P (type_at shapes row) → IsFound nodes layouts at (found_by (type_at shapes) rest) → IsFound nodes layouts at (found_by (type_at shapes) (if b then Some row else rest))
  found_if true row rest h g = h
  found_if false row rest h g = g

  found : (name : ℕ) (ms : List Member) → Every (IsMemberBounded nodes layouts shapes at) ms → IsFound nodes layouts at (found_by (type_at shapes) (row_of_name name ms))
  found name [] h = tt
  found name (m ∷ ms) h = found_if (m.name == name) m.row (row_of_name name ms) h.0.0 (found name ms h.1)

  member_types_bounded : (ms : List Member) → Every (IsMemberBounded nodes layouts shapes at) ms → Every P (member_types shapes ms)
  member_types_bounded [] h = tt
  member_types_bounded (m ∷ ms) h = (h.0.0, member_types_bounded ms h.1)

  module _ (c : Typing) (all : (p : ℕ) → IsBoundedIn nodes layouts shapes at c p) (none : P (type_at shapes 0)) where
    named_there : (o : Option ℕ) → P (type_at shapes (named_row c.named o))
    named_there None = none
    named_there (Some p) = (all p).named

    declared_there : (o : Option ℕ) → IsDeclaredBounded nodes layouts shapes at (declared_by c.declared o)
    declared_there None = tt
    declared_there (Some p) = (all p).declared

    pub source_bounded : (u : Tree) (texts : List (List ℕ)) → ((node : ℕ) → length (slice_index_or texts node []) ≤ MOST_CELLS) → IsSource nodes layouts at (source_in (type_at shapes) u texts c)
    source_bounded u texts few = record {
      stands = λ node. meant (type_at shapes) (parameter_rows c.parameters (slice_index_or u.visible.now node None)) (declared_by c.declared (slice_index_or u.visible.now node None)) (declared_there (slice_index_or u.visible.now node None));
      text = few;
      named = named_there;
      member = λ structure token. found (slice_index_or u.names.now token 0) (slice_index_or c.members structure []) (all structure).members;
    }

    pub object_bounded : (n : Node) (type : Qualified) → object_in shapes c n ≡ Some type → P type
    object_bounded n type e = object_meant (type_at shapes) (parameter_rows c.parameters (slice_get n.parts 0)) (declared_by c.declared (slice_get n.parts 0)) type (declared_there (slice_get n.parts 0)) e

    pub seen_past : (p : ℕ) → N nodes layouts at ((past_in shapes c).seen p)
    seen_past p = as_bounded nodes layouts at (slice_index_or c.declared p Unclear) (type_at shapes (slice_index_or c.named p 0)) (map (type_at shapes) (slice_index_or c.parameters p [])) (all p).named (all p).parameters

    pub composite_past : (p : ℕ) → N nodes layouts at ((past_in shapes c).composite p)
    composite_past p =
        as_bounded nodes layouts at (slice_index_or c.declared p Unclear) (type_at shapes (slice_index_or c.composites p 0)) (map (type_at shapes) (slice_index_or c.composite_parameters p [])) (all p).composite (all p).composite_parameters

    inner_parameters : (o : Option ℕ) → Every P (parameters_in (before_in shapes c) o)
    inner_parameters None = tt
    inner_parameters (Some p) = (all p).parameters

    pub parameters_bounded : (k : Kind) (ns : List Node) (n : Node) → Every P (parameters_by k ns (before_in shapes c) n)
    parameters_bounded kind.FunctionDeclarator ns n =
        every_mapped P (λ p. adjusted_type ((before_in shapes c).named p)) (parameter_nodes ns (slice_get n.parts 1)) (λ p. adjusted_bounded nodes layouts at ((before_in shapes c).named p) (all p).named)
    parameters_bounded kind.PointerDeclarator ns n = inner_parameters (slice_get n.parts 0)
    parameters_bounded kind.ArrayDeclarator ns n = inner_parameters (slice_get n.parts 0)
    parameters_bounded kind.GroupDeclarator ns n = inner_parameters (slice_get n.parts 0)
    parameters_bounded kind.InitDeclarator ns n = inner_parameters (slice_get n.parts 0)
    parameters_bounded k ns n = tt

-- the type of an object that a name stands for is that of its row
object_row : (look : ℕ → Qualified) (rows : List ℕ) (d : Declared) (row : ℕ) (type : Qualified) → Declares (λ own. own ≡ row) d → object_of (meaning_by look rows d) ≡ Some type → look row ≡ type
object_row look rows (Object own register) row type h e = let same : look own ≡ type = cc e in ap look (sym h) ∙ same
object_row look rows (Function own more) row type h e = absurd (cc e)
object_row look rows (Enumerator value) row type h e = absurd (cc e)
object_row look rows TypeName row type h e = absurd (cc e)
object_row look rows Unclear row type h e = absurd (cc e)

not_both : (t : Qualified) → known_sizes.is_open t ≡ false → is_open t ≡ true → ⊥
not_both (plain of c v) e f = false≢true f
not_both (pointer c v t) e f = false≢true f
not_both (array n t) e f = false≢true (sym e ∙ f)

-- ---- K7 of an array that an initialiser completes

overfull_by : (b : Bool) (o : Option ℕ) → is_some (token_if b o) ≡ false → (b ≡ true → is_some o ≡ true) → b ≡ false
overfull_by true o e h = absurd (false≢true (sym e ∙ h refl))
overfull_by false o e h = refl

-- ---- in a unit

module _ (u : Tree) (texts : List (List ℕ)) (shapes : List Shape) (t : Typing) (h : IsTyping u texts shapes t) (holds : (b : Break) → IsBroken u texts shapes t b → ⊥)
    (shaped : IsShaped u) (around : AreAround u.nodes.now u.above.now u.around.now) (sighted : AreSighted u) (typedefs : AreTypedefs u)
    (few : (node : ℕ) → length (slice_index_or texts node []) ≤ MOST_CELLS) where
  abbrev ns : List Node
  ns = u.nodes.now

  abbrev Bounded : ℕ → ℕ → Type 0
  Bounded at p = IsBoundedIn ns t.layouts shapes at t p

  none : (at : ℕ) → IsBounded ns t.layouts at (type_at shapes 0)
  none at = subst (IsBounded ns t.layouts at) (sym h.none) tt

  module _ (i : ℕ) (n : Node) (at : slice_get ns i ≡ Some n) (all : (p : ℕ) → IsBoundedIn ns t.layouts shapes i (cut i t) p) where
    abbrev b : Before
    b = before_in shapes (cut i t)

    abbrev R : Qualified → Type 0
    R = IsBounded ns t.layouts i

    fact_bounded : R (facts_at shapes t.facts i).type
    fact_bounded =
        subst (λ (s : Seen). R s.type) (sym (ruled u texts shapes t h holds i n at).fact)
        (ruled_bounded ns t.layouts i (facts_at shapes (cut i t).facts) (source_in (type_at shapes) u texts (cut i t)) i (λ p. (all p).fact)
        (source_bounded ns t.layouts shapes i (cut i t) all (none i) u texts few) (form_of n.kind) n)

    own_bounded : R (own_named shapes u (cut i t) (entry_at t i) i n)
    own_bounded =
        named_bounded ns t.layouts i n.kind u (entry_at t i).own.specified (entry_at t i).own.declarator (type_at shapes (entry_at t i).own.derivations) b i n refl (λ p. (all p).named)
        (λ is d declared. derived_there u texts shapes t h holds shaped i d n at is declared)

    seen_name : N ns t.layouts i (seen_type shapes u (cut i t) (entry_at t i) i n)
    seen_name =
        seen_bounded ns t.layouts i (entry_at t i).linked (past_in shapes (cut i t)) (slice_index_or u.earlier.now i None) (own_type shapes u (cut i t) (entry_at t i) i n)
        (seen_past ns t.layouts shapes i (cut i t) all (none i))
        (as_bounded ns t.layouts i _ (own_named shapes u (cut i t) (entry_at t i) i n) (parameters_by n.kind ns b n) own_bounded (parameters_bounded ns t.layouts shapes i (cut i t) all (none i) n.kind ns n))

    -- what its initialiser breaks
    initialiser_holds : n.kind ≡ kind.InitDeclarator → HoldsAll (initialised.faults_in kind.InitDeclarator (known_in shapes u (cut i t)) u b (entry_at t i).own.declarator.sizeless (object_in shapes (cut i t) n)
        (type_at shapes (entry_at t i).own.named) (entries_of shapes (entry_at t i).lines) i n)
    initialiser_holds is = subst (λ k. HoldsAll (initialised.faults_in k (known_in shapes u (cut i t)) u b (entry_at t i).own.declarator.sizeless (object_in shapes (cut i t) n)
        (type_at shapes (entry_at t i).own.named) (entries_of shapes (entry_at t i).lines) i n)) is
        (λ x among. holds x (record { node = i; among = subst (λ o. IsNodeBreak u texts shapes (cut i t) (entry_at t i) i o x) (sym at) (inr (inr (inl among))) }))

    -- an array of unknown size that an initialiser completes has a bracket of its own (K14)
    record HasFirst : Type 0 where
      number : ℕ
      first : slice_get n.parts 0 ≡ Some number
      part : IsPart u i n 0 number
      declarator : is_declarator part.own.kind ≡ true

    first_of : n.kind ≡ kind.InitDeclarator → HasFirst
    first_of is =
        let first = there_is (slice_get n.parts 0) (shaped.filled i n at 0 (ap (λ k. is_filled k 0) is)) in
        let part = shaped.parts i n at 0 first.0 first.1 in
        record { number = first.0; first = first.1; part = part; declarator = sym (ap (λ k. fits k 0 part.own.kind) is) ∙ part.fits }

    has_bracket : n.kind ≡ kind.InitDeclarator → (type : Qualified) → object_in shapes (cut i t) n ≡ Some type → is_open type ≡ true → is_some (entry_at t i).own.declarator.sizeless ≡ true
    has_bracket is type object unsized = by (is_some (entry_at t i).own.declarator.sizeless) refl
      where
        f : HasFirst
        f = first_of is

        p : ℕ
        p = f.number

        same : (entry_at t i).own.declarator ≡ (entry_at t p).own.declarator
        same =
            (ruled u texts shapes t h holds i n at).declarator ∙ ap (λ k. declarator_by k (spelling_of u.file.now u.tokens.now) ns b i n) is ∙ ap (declarator_in b.declarator) f.first
            ∙ declarator_early u texts shapes t h holds i n at p f.part.below

        declares : Declares (λ row. row ≡ (entry_at t p).own.named) (declared_by (cut i t).declared (slice_get n.parts 0))
        declares =
            subst (λ o. Declares (λ row. row ≡ (entry_at t p).own.named) (declared_by (cut i t).declared o)) (sym f.first)
            (subst (Declares (λ row. row ≡ (entry_at t p).own.named)) (sym (get_or-take i t.declared p Unclear f.part.below ∙ (ruled u texts shapes t h holds p f.part.own f.part.at).declared))
            (declares_all (λ row. row ≡ (entry_at t p).own.named) f.part.own.kind ns _ (entry_at t p).own.declarator (entry_at t p).own.named (entry_at t p).own.enumerated (declaration_of ns u.above.now p) refl))

        is_named : type_at shapes (entry_at t p).own.named ≡ type
        is_named = object_row (type_at shapes) (parameter_rows (cut i t).parameters (slice_get n.parts 0)) (declared_by (cut i t).declared (slice_get n.parts 0)) (entry_at t p).own.named type declares object

        by : (x : Bool) → is_some (entry_at t i).own.declarator.sizeless ≡ x → x ≡ true
        by true e = refl
        by false e =
            let closed = bracketless u texts shapes t h holds shaped around sighted typedefs p f.part.own f.part.at f.declarator (sym (ap (λ (d : Declarator). is_some d.sizeless) same) ∙ e) in
            absurd (not_both type (sym (ap known_sizes.is_open is_named) ∙ closed) unsized)

    -- K7
    completed : n.kind ≡ kind.InitDeclarator → initialised.is_overfull (cut i t).layouts (object_in shapes (cut i t) n) (type_at shapes (entry_at t i).own.named) ≡ false
    completed is =
        overfull_by (initialised.is_overfull (cut i t).layouts (object_in shapes (cut i t) n) (type_at shapes (entry_at t i).own.named)) (entry_at t i).own.declarator.sizeless
        (unplaced 7 (token_if (initialised.is_overfull (cut i t).layouts (object_in shapes (cut i t) n) (type_at shapes (entry_at t i).own.named)) (entry_at t i).own.declarator.sizeless) _ (initialiser_holds is))
        (by (object_in shapes (cut i t) n) refl)
      where
        by : (o : Option Qualified) → object_in shapes (cut i t) n ≡ o → initialised.is_overfull (cut i t).layouts o (type_at shapes (entry_at t i).own.named) ≡ true → is_some (entry_at t i).own.declarator.sizeless ≡ true
        by None e f = absurd (false≢true f)
        by (Some type) e f = has_bracket is type e (and_parts (is_open type) _ f).0

    filled : IsFilledSo ns t.layouts i (known_in shapes u (cut i t)) (λ node. member_types_bounded ns t.layouts shapes i (slice_index_or (cut i t).members node []) (all node).members)
        (type_at shapes (entry_at t i).own.named) (entries_of shapes (entry_at t i).lines)
    filled =
        filled_bounded ns t.layouts i (known_in shapes u (cut i t)) (λ node. member_types_bounded ns t.layouts shapes i (slice_index_or (cut i t).members node []) (all node).members)
        n.kind i (cut i t).layouts (object_in shapes (cut i t) n) n.parts (type_or (own_named shapes u (cut i t) (entry_at t i) i n) (seen_type shapes u (cut i t) (entry_at t i) i n))
        (type_at shapes (entry_at t i).own.named) (entries_of shapes (entry_at t i).lines) refl
        (type_or_bounded ns t.layouts i (own_named shapes u (cut i t) (entry_at t i) i n) (seen_type shapes u (cut i t) (entry_at t i) i n) own_bounded seen_name)
        (λ type e. object_bounded ns t.layouts shapes i (cut i t) all (none i) n type e) completed
        (ruled u texts shapes t h holds i n at).filled

    members_of : (k : Kind) → n.kind ≡ k → Every (IsMemberBounded ns t.layouts shapes i) (members_by k ns u.names.now (cut i t).named (cut i t).members n.parts)
    members_of kind.MemberDeclaration is = every_listed (IsMemberBounded ns t.layouts shapes i) (map (member_of ns u.names.now (cut i t).named) (drop 1 n.parts)) (λ j member f.
        let x = mapped (member_of ns u.names.now (cut i t).named) (drop 1 n.parts) j member f in
        let part = behind_first n.parts j x.0 x.1.0 in
        let p = shaped.parts i n at (suc j) x.0 part in
        let plain : is_initialised (Some n.kind) ≡ false = ap (λ c. is_initialised (Some c)) is in
        let declares : is_declaration (Some n.kind) ≡ true = ap (λ c. is_declaration (Some c)) is in
        let declaration = declaration_here ns u.above.now x.0 i n p.above at plain declares in
        let stood : place_of u x.0 ≡ place.Member = ap (λ (a : Around). a.place) p.around ∙ member_place n.kind i (slice_index_or u.around.now i outermost) is in
        let declarator : is_declarator p.own.kind ≡ true = sym (ap (λ c. fits c (suc j) p.own.kind) is) ∙ p.fits in
        let low = p.below in
        let complete = whole_later ns x.0 i (omega (arith, low)) (type_at shapes (entry_at t x.0).own.named) (member_complete u texts shapes t h holds shaped x.0 i p.own p.at declarator declaration stood) in
        subst (IsMemberBounded ns t.layouts shapes i) x.1.1
        ((all x.0).named, ap (whole_object (is_complete_at ns i)) (named_early u texts shapes t h holds i n at x.0 p.below) ∙ complete))
    members_of kind.StructContent is = every_flat (IsMemberBounded ns t.layouts shapes i) (λ p. slice_index_or (cut i t).members p []) n.parts (λ p. (all p).members)
    members_of k is = tt

    own_parameters : Every R (map (type_at shapes) (entry_at t i).parameters)
    own_parameters =
        subst (Every R) (sym (ruled u texts shapes t h holds i n at).parameters)
        (parameters_or_bounded ns t.layouts i (parameters_by n.kind ns b n) (seen_type shapes u (cut i t) (entry_at t i) i n) (parameters_bounded ns t.layouts shapes i (cut i t) all (none i) n.kind ns n) seen_name)

    own_declared : IsDeclaredBounded ns t.layouts shapes i (entry_at t i).declared
    own_declared =
        subst (IsDeclaredBounded ns t.layouts shapes i) (sym (ruled u texts shapes t h holds i n at).declared)
        (declares_all (λ row. R (type_at shapes row)) n.kind ns _ (entry_at t i).own.declarator (entry_at t i).own.named (entry_at t i).own.enumerated (declaration_of ns u.above.now i) filled.named)

    whole_name : N ns t.layouts i (composite_type shapes u (cut i t) (entry_at t i) i n)
    whole_name =
        whole_bounded ns t.layouts i n.kind (entry_at t i).linked (past_in shapes (cut i t)) (slice_index_or u.same.now i None) n (name_type shapes (entry_at t i)) (composite_past ns t.layouts shapes i (cut i t) all (none i))
        (as_bounded ns t.layouts i (entry_at t i).declared (type_at shapes (entry_at t i).own.named) (map (type_at shapes) (entry_at t i).parameters) filled.named own_parameters)

    node_bounded : Bounded i i
    node_bounded =
        let r = ruled u texts shapes t h holds i n at in
        record {
          fact = fact_bounded;
          named = filled.named;
          declared = own_declared;
          parameters = own_parameters;
          composite = subst R (sym r.composite) (type_or_bounded ns t.layouts i (type_at shapes (entry_at t i).own.named) (composite_type shapes u (cut i t) (entry_at t i) i n) filled.named whole_name);
          composite_parameters = subst (Every R) (sym r.composite_parameters)
              (parameters_or_bounded ns t.layouts i (map (type_at shapes) (entry_at t i).parameters) (composite_type shapes u (cut i t) (entry_at t i) i n) own_parameters whole_name);
          members = subst (Every (IsMemberBounded ns t.layouts shapes i)) (sym r.members) (members_of n.kind refl);
          lines = filled.entries;
        }

  all_below : (m i : ℕ) → i < m → (n : Node) → slice_get ns i ≡ Some n → Bounded i i
  all_below zero i low n at = absurd (omega (arith, low))
  all_below (suc m) i low n at =
      node_bounded i n at (cut_bounded ns t.layouts shapes (none 0) i t (λ p less.
      let end = slice_get_within ns i n at in
      let node = some_at ns p (omega (arith, less, end)) in
      node_later ns t.layouts shapes p i (omega (arith, less)) t p (all_below m p (omega (arith, low, less)) node.0 node.1)))

  -- what any node has, at the end
  pub all_bounded : (at : ℕ) → length ns ≤ at → (p : ℕ) → IsBoundedIn ns t.layouts shapes at t p
  all_bounded at end p = elim (cases_lt p (length ns)) [
    | inl low ↦ (let node = some_at ns p low in node_later ns t.layouts shapes p at (omega (arith, low, end)) t p (all_below (suc p) p (omega arith) node.0 node.1))
    | inr past ↦ past_bounded ns t.layouts shapes (none 0) at u texts t h p past
  ]

  -- and at its own node
  pub own_bounded_at : (i : ℕ) (n : Node) → slice_get ns i ≡ Some n → IsBoundedIn ns t.layouts shapes i t i
  own_bounded_at i n at = all_below (suc i) i (omega arith) n at

-- ---- the laws

pub bounded : TypesAreBounded
bounded u texts shapes t h holds shaped around sighted typedefs few at end p = all_bounded u texts shapes t h holds shaped around sighted typedefs few at end p

pub structures : StructuresAreBounded
structures u texts shapes t h holds p = elim (cases_lt p (length u.nodes.now)) [
  | inl low ↦ (let node = some_at u.nodes.now p low in structure_small u texts shapes t h holds p node.0 node.1)
  | inr past ↦
      (let own = h.whole.layouts in
      let none : (slice_index_or t.layouts p nothing).cells ≡ 0 = ap (λ (l : Layout). l.cells) (get_or_past t.layouts p nothing (omega (arith, own, past))) in omega (arith, none))
]
