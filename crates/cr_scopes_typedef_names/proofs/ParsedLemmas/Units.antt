-- All tokens of typedef names of a unit are types where they are named first.
use Rattle.std.proofs.Common.{◌≡◌, ℕ, zero, suc, ◌<◌, ◌==◌, Bool, true, false, ◌||◌, ◌&&◌, not, if◌then◌else◌, List, [], ◌∷◌, Option, None, Some, length, take, drop, slice_get, refl, sym, ap, subst, ◌∙◌, arith}
use Rattle.std.specs.List.{flat_map}
use Rattle.std.proofs.lemmas.Bool.{false≢true, true≢false, and_parts, eqb-true}
use Rattle.cr_tokens.specs.declared.token.Token.{Token}
use Rattle.cr_syntax.specs.declared.node.Kind.{Kind}
use Rattle.cr_syntax.specs.declared.node.Kind.TheVariants as kind
use Rattle.cr_syntax.specs.declared.node.Node.{Node}
use Rattle.cr_syntax.specs.declared.part.Part.{Part as Part-of}
use Rattle.cr_syntax.specs.declared.word.Word.{Word}
use Rattle.cr_syntax.specs.declared.word.Word.TheVariants as word
use Rattle.cr_syntax.specs.declared.part.Part.TheVariants as part
use Rattle.cr_syntax.specs.declared.part.Context.{Context}
use Rattle.cr_syntax.specs.declared.scopes.TypeName.{TypeName}
use Rattle.cr_syntax.specs.Words.{Lexeme, spelling_at}
use Rattle.cr_syntax.specs.Scopes.{Scopes, is_type, enter}
use Rattle.cr_syntax.specs.Trees.{Trees, none, one, ◌&◌}
use Rattle.cr_syntax.specs.Context.{fresh, at_start, is_typedef, specifies, is_bare, declared_in, past_part, declared_name}
use Rattle.cr_syntax.specs.Kept.{AreBelow, PartsAreBelow, ItemsAreNodes, row_in}
use Rattle.cr_syntax.specs.Grammar.{Side, Alternative, Chain}
use Rattle.cr_syntax.specs.Grammar as grammar
use Rattle.cr_syntax.specs.Symbols.{Depth}
use Rattle.cr_syntax.specs.Symbols as symbol
use Rattle.cr_syntax.specs.Spells.{Limit, Phrase, Spells, a, rest}
use Rattle.cr_syntax.specs.Spells as spells
use Rattle.cr_syntax.specs.Units.{IsUnit, file_scope}
use Rattle.cr_scopes_events.specs.declared.event.Event.{Event}
use Rattle.cr_scopes_events.specs.declared.event.Event.TheVariants as event
use Rattle.cr_scopes_events.specs.Values.{before}
use Rattle.cr_scopes_events.specs.Scripts.{kind_at, declares, block, script_by}
use Rattle.cr_scopes_events.specs.Events.{events_at, events_of}
use Rattle.cr_scopes.specs.Resolved.{with_event, past_of}
use Rattle.cr_scopes_bindings.specs.Visible.{is_named}
use Rattle.cr_scopes_typedef_names.specs.Effects.Effects.{closed, scopes_of, scopes_at}
use Rattle.cr_scopes_typedef_names.specs.Parsed.Apart.{AreApart, ParametersAreNone}
use Rattle.cr_scopes_typedef_names.specs.Parsed.Laws
use Rattle.cr_scopes_typedef_names.proofs.ParsedLemmas.Following.{Follows, Does, nothing, in_turn, Fits, AreFit}
use Rattle.cr_scopes_typedef_names.proofs.ParsedLemmas.Rows.{Single, single, part_single, node_of, first_part, only_part, last_part, no_row}
use Rattle.cr_scopes_typedef_names.proofs.ParsedLemmas.Sides as sides
use Rattle.cr_scopes_typedef_names.proofs.ParsedLemmas.Sides.{part_sort, sort_of, none_several, none_many, none_valued, one_valued, no_clause, one_clause, opening, ending}
use Rattle.cr_scopes_typedef_names.proofs.ParsedLemmas.Declaring.{below_all, of_node, IsDeclared, name_alone, in_brackets, pointing, arraying, calling_none, calling, ruled, kind_is}
use Rattle.cr_scopes_typedef_names.proofs.ParsedLemmas.Holding as holding
use Rattle.cr_scopes_typedef_names.proofs.ParsedLemmas.Holding.{with_row, side_part, side_many, side_optional, side_more, side_last, side_qualified, side_maybe_qualified, generic}
use Rattle.cr_scopes_typedef_names.proofs.ParsedLemmas.Special.{is_plain_list, lists_plainly}
use Rattle.cr_scopes_typedef_names.proofs.ParsedLemmas.Special as special

-- ---- trees

-- no part of these is a list without storage class
abbrev specifying : Part-of → Bool
specifying part.Specifiers = true
specifying part.Specifier = true
specifying part.Plain = true
specifying p = false

not_list : {p : Part-of} {k : Kind} {s : Side} → Alternative p k s → specifying p ≡ true → is_plain_list k ≡ false
not_list grammar.specifier_qualifier_list u = absurd (false≢true u)
not_list m u = refl

chain_specifying : {p q : Part-of} → Chain p q → specifying p ≡ true → specifying q ≡ true
chain_specifying grammar.specifiers_one u = refl
chain_specifying grammar.specifier_plain u = refl
chain_specifying m u = absurd (false≢true u)

no_list : {ts : List Lexeme} {limit : Limit} {p : Part-of} {h : Context} {c e : Scopes} {d i j : ℕ} {t : Trees} → Spells ts limit (a p) h c e d t i j → specifying p ≡ true → lists_plainly t ≡ false
no_list (spells.of_alternative m f s) u = not_list m u
no_list (spells.of_chain m f s) u = no_list s (chain_specifying m u)
no_list (spells.init_declarator_alone s) u = absurd (false≢true u)
no_list (spells.parameter_declarator s) u = absurd (false≢true u)
no_list (spells.member_declarator s) u = absurd (false≢true u)

-- an abstract declarator
data IsAbstract : Trees → Type 0 where
  a_pointer : {i j : ℕ} {b : Trees} → IsAbstract (one kind.AbstractPointer i j b)
  a_group : {i j : ℕ} {b : Trees} → IsAbstract (one kind.AbstractGroup i j b)
  an_array : {i j : ℕ} {b : Trees} → IsAbstract (one kind.AbstractArray i j b)
  an_array_of : {i j : ℕ} {b : Trees} → IsAbstract (one kind.AbstractArrayOf i j b)

data Abstracts : Part-of → Type 0 where
  by_abstract : Abstracts part.Abstract
  by_direct : Abstracts part.DirectAbstract

abstract_is : {ts : List Lexeme} {limit : Limit} {p : Part-of} {h : Context} {c e : Scopes} {d i j : ℕ} {t : Trees} → Abstracts p → Spells ts limit (a p) h c e d t i j → IsAbstract t
abstract_is by_abstract (spells.of_alternative grammar.abstract_pointer f s) = a_pointer
abstract_is by_abstract (spells.of_chain grammar.abstract_direct f s) = abstract_is by_direct s
abstract_is by_direct (spells.of_alternative grammar.abstract_group f s) = a_group
abstract_is by_direct (spells.of_alternative grammar.abstract_array f s) = an_array
abstract_is by_direct (spells.of_alternative grammar.abstract_array_of f s) = an_array_of
abstract_is by_direct (spells.of_chain m f s) = elim m [ ]

-- a declarator is bare for what stands behind it
past_bare : (h : Context) (t : Trees) → Single t → (past_part h t).bare ≡ is_bare t
past_bare h t single = refl

module _ (ts : List Lexeme) (limit : Limit) (typed : ℕ → Bool) (tokens : List Token) (nodes : List Node) (low : PartsAreBelow nodes) (apart : AreApart nodes typed) (lawful : ParametersAreNone nodes) where
  abbrev S : ℕ → List ℕ
  S = spelling_at ts

  abbrev P : Part-of → Bool → Scopes → Scopes → Trees → Type 0
  P p type c e t = holding.PartHolds S typed tokens nodes low p type c e t

  abbrev R : Side → Bool → Scopes → Scopes → Trees → Type 0
  R s type c e t = holding.SideHolds S typed tokens nodes low s type c e t

  abbrev Holds : Phrase → Context → Scopes → Scopes → Trees → Type 0
  Holds (a p) h c e t = P p h.type_name c e t
  Holds (rest s) h c e t = R s h.type_name c e t

  abbrev G : Scopes → Scopes → List Event → Type 0
  G c e es = Follows S typed c e es

  abbrev told : ℕ → List Event
  told = events_at tokens nodes

  abbrev D : Trees → Scopes → Scopes → ℕ → Type 0
  D t c e q = IsDeclared S typed tokens nodes low t c e q

  -- a part that goes from the one scopes to the others
  abbrev Part : Scopes → Scopes → Trees → Type 0
  Part c e t = (q : ℕ) → q < length nodes → row_in nodes (q ∷ []) ≡ t → G c e (told q)

  -- ---- names and tags

  leaf_typedef : {v : Bool} {c : Scopes} {i j : ℕ} {b : Trees} → is_type c (S i) ≡ true → P part.Plain v c c (one kind.TypedefName i j b)
  leaf_typedef h = record { holds = λ q lt is. special.at_typedef S typed tokens nodes low apart (node_of nodes low lt is) h }

  leaf_identifier : {v : Bool} {c : Scopes} {i j : ℕ} {b : Trees} → P part.Primary v c c (one kind.Identifier i j b)
  leaf_identifier = record { holds = λ q lt is. special.at_identifier S typed tokens nodes low apart (node_of nodes low lt is) }

  leaf_struct : {v : Bool} {c : Scopes} {i j : ℕ} {b : Trees} → P part.Plain v c c (one kind.StructTag i j b)
  leaf_struct = record { holds = λ q lt is. special.at_struct_tag S typed tokens nodes low apart (node_of nodes low lt is) }

  leaf_enum : {v : Bool} {c : Scopes} {i j : ℕ} {b : Trees} → P part.Plain v c c (one kind.EnumTag i j b)
  leaf_enum = record { holds = λ q lt is. special.at_enum_tag S typed tokens nodes low apart (node_of nodes low lt is) }

  node_call : {v w : Bool} {c e : Scopes} {i j : ℕ} {t : Trees}
      → R (grammar.opening word.LeftParen ∷ grammar.inner_optional_list part.Assignment ∷ grammar.closing word.RightParen ∷ []) v c e t → P part.Postfix w c e (one kind.Call i j t)
  node_call x = record { holds = λ q lt is. let n = node_of nodes low lt is in special.at_call S typed tokens nodes low apart n (x.holds n.own.parts n.within n.parts) }

  node_enum : {v w : Bool} {c e : Scopes} {i j : ℕ} {t : Trees}
      → R (symbol.Tag ∷ grammar.inner_list part.Enumerator ∷ symbol.TrailingComma ∷ []) v c e t → P part.Plain w c e (one kind.EnumContent i j t)
  node_enum x = record { holds = λ q lt is. let n = node_of nodes low lt is in special.at_enum S typed tokens nodes low apart n (x.holds n.own.parts n.within n.parts) }

  node_struct : {v w : Bool} {c e : Scopes} {i j : ℕ} {t : Trees}
      → R (symbol.Tag ∷ grammar.inner part.MemberDeclaration ∷ grammar.inner_many part.MemberDeclaration ∷ grammar.closing word.RightBrace ∷ []) v c e t → P part.Plain w c e (one kind.StructContent i j t)
  node_struct x = record { holds = λ q lt is. let n = node_of nodes low lt is in special.at_struct S typed tokens nodes low apart n (x.holds n.own.parts n.within n.parts q q n.below) }

  node_enumerator : {v w : Bool} {c e : Scopes} {i j : ℕ} {t : Trees} → R (symbol.Value ∷ []) v c e t → P part.Enumerator w c (enter (record { name = S i; is_type = false }) e) (one kind.Enumerator i j t)
  node_enumerator x = record { holds = λ q lt is. let n = node_of nodes low lt is in special.at_enumerator S typed tokens nodes low apart n (x.holds n.own.parts n.within n.parts) }

  -- ---- declarators

  node_name : {v : Bool} {c : Scopes} {i j : ℕ} → P part.DirectDeclarator v c ([] ∷ c) (one kind.NameDeclarator i j none)
  node_name = record { holds = λ q lt is. let n = node_of nodes low lt is in name_alone S typed tokens nodes low n (no_row nodes low n.own.parts n.within n.parts) }

  node_group : {v w : Bool} {c e : Scopes} {i j : ℕ} {t : Trees} → Single t → P part.Declarator v c e t → P part.DirectDeclarator w c e (one kind.GroupDeclarator i j (t & none))
  node_group alone x = record {
    holds = λ q lt is.
        let n = node_of nodes low lt is in
        let y = last_part nodes low n.own.parts q alone n.below n.within n.parts in
        in_brackets S typed tokens nodes low none alone n y.is y.lower (x.holds y.first y.within y.tree);
  }

  node_pointer : {v w : Bool} {c e : Scopes} {i j : ℕ} {t : Trees} → Single t → P part.Declarator v c e t → P part.Declarator w c e (one kind.PointerDeclarator i j t)
  node_pointer alone x = record {
    holds = λ q lt is.
        let n = node_of nodes low lt is in
        let y = only_part nodes low n.own.parts q alone n.below n.within n.parts in
        pointing S typed tokens nodes low n y.is y.lower (x.holds y.first y.within y.tree);
  }

  abbrev inner : Scopes → List TypeName
  inner [] = []
  inner (names ∷ c) = names

  node_array_none : {v w : Bool} {c e : Scopes} {i j : ℕ} {t : Trees} → Single t → P part.DirectDeclarator v c e t → P part.DirectDeclarator w c e (one kind.ArrayDeclarator i j (t & none))
  node_array_none {c = c} {i = i} {j = j} {t = t} alone x = record {
    holds = λ q lt is.
        let n = node_of nodes low lt is in
        let y = last_part nodes low n.own.parts q alone n.below n.within n.parts in
        let z = x.holds y.first y.within y.tree in
        subst (λ o. D (one kind.ArrayDeclarator i j (t & none)) c o q) (sym z.scopes)
        (arraying S typed tokens nodes low none alone n y.is y.lower (λ m l. absurd (omega (arith, l))) z (nothing S typed z.outer));
  }

  node_array : {v w : Bool} {c e f : Scopes} {own : List TypeName} {i j : ℕ} {t u : Trees} → Single t → Single u → P part.DirectDeclarator v c (own ∷ e) t → Part e f u
      → P part.DirectDeclarator w c (own ∷ f) (one kind.ArrayDeclarator i j (t & (u & none)))
  node_array {c = c} {e = e} {f = f} {own = own} {i = i} {j = j} {t = t} {u = u} alone other x s = record {
    holds = λ q lt is.
        let n = node_of nodes low lt is in
        let y = first_part nodes low (u & none) n.own.parts q alone n.below n.within n.parts in
        let r = last_part nodes low y.others q other y.under y.rest y.trees in
        let z = x.holds y.first y.within y.tree in
        let outer-is : e ≡ z.outer = ap closed z.scopes in
        let own-is : own ≡ z.own = ap inner z.scopes in
        subst (λ o. D (one kind.ArrayDeclarator i j (t & (u & none))) c (o ∷ f) q) (sym own-is)
        (arraying S typed tokens nodes low (u & none) alone n (y.is ∙ ap (λ rs. y.first ∷ rs) r.is) y.lower (subst (λ rs. AreBelow rs q) r.is y.under) z
        (in_turn S typed (subst (λ o. G o f (told r.first)) outer-is (s r.first r.within r.tree)) (nothing S typed f)));
  }

  node_function_none : {v w : Bool} {c e : Scopes} {i j : ℕ} {t : Trees} → Single t → P part.DirectDeclarator v c e t → P part.DirectDeclarator w c e (one kind.FunctionDeclarator i j (t & none))
  node_function_none alone x = record {
    holds = λ q lt is.
        let n = node_of nodes low lt is in
        let y = last_part nodes low n.own.parts q alone n.below n.within n.parts in
        calling_none S typed tokens nodes low none alone n y.is y.lower (x.holds y.first y.within y.tree);
  }

  node_function : {v w bare : Bool} {c e f : Scopes} {own names : List TypeName} {i j : ℕ} {t u : Trees} → Single t → Single u → bare ≡ is_bare t → P part.DirectDeclarator v c (own ∷ e) t → Part ([] ∷ e) (names ∷ f) u
      → P part.DirectDeclarator w c ((if bare then names else own) ∷ f) (one kind.FunctionDeclarator i j (t & (u & none)))
  node_function {bare = bare} {c = c} {e = e} {f = f} {own = own} {names = names} {i = i} {j = j} {t = t} {u = u} alone other said x s = record {
    holds = λ q lt is.
        let n = node_of nodes low lt is in
        let y = first_part nodes low (u & none) n.own.parts q alone n.below n.within n.parts in
        let r = last_part nodes low y.others q other y.under y.rest y.trees in
        let z = x.holds y.first y.within y.tree in
        let outer-is : e ≡ z.outer = ap closed z.scopes in
        let own-is : own ≡ z.own = ap inner z.scopes in
        subst (λ o. D (one kind.FunctionDeclarator i j (t & (u & none))) c ((if bare then names else o) ∷ f) q) (sym own-is)
        (subst (λ b. D (one kind.FunctionDeclarator i j (t & (u & none))) c ((if b then names else z.own) ∷ f) q) (sym said)
        (calling S typed tokens nodes low (u & none) alone n (y.is ∙ ap (λ rs. y.first ∷ rs) r.is) y.lower r.lower z (subst (λ o. G ([] ∷ o) (names ∷ f) (told r.first)) outer-is (s r.first r.within r.tree))));
  }

  -- ---- what declarators enter

  -- the parser enters what the events enter
  same_entry : {t : Trees} {c e : Scopes} {own : List TypeName} {q : ℕ} (h : Context) (z : D t c (own ∷ e) q) → enter (declared_name ts (past_part h t)) e ≡ enter (record { name = S (declared_in t); is_type = h.type_name }) z.outer
  same_entry {t = t} {e = e} h z =
      ap (λ x. enter (record { name = S x; is_type = (past_part h t).type_name }) e) (z.named_after h)
      ∙ ap (λ x. enter (record { name = S (declared_in t); is_type = x }) e) (z.typed_after h)
      ∙ ap (λ x. enter (record { name = S (declared_in t); is_type = h.type_name }) x) (ap closed z.scopes)

  alone_init : {t : Trees} {v : Bool} {c e : Scopes} {own : List TypeName} (h : Context) → P part.Declarator v c (own ∷ e) t → P part.InitDeclarator h.type_name c (enter (declared_name ts (past_part h t)) e) t
  alone_init {c = c} h x = record {
    holds = λ q lt is. λ bound way under agrees.
        let z = x.holds q lt is in
        subst (λ o. Does S typed (before [] bound told) c o (declares way nodes q (kind_at nodes q))) (sym (same_entry h z))
        (special.declared_alone S typed tokens nodes low apart sides.declaring way h.type_name bound under agrees z);
  }

  alone_parameter : {t : Trees} {v : Bool} {c e : Scopes} {own : List TypeName} (h : Context) → P part.Declarator v c (own ∷ e) t → P part.ParameterDeclarator h.type_name c (enter (declared_name ts (past_part h t)) e) t
  alone_parameter {c = c} h x = record {
    holds = λ q lt is. λ bound way under agrees.
        let z = x.holds q lt is in
        subst (λ o. Does S typed (before [] bound told) c o (declares way nodes q (kind_at nodes q))) (sym (same_entry h z))
        (special.declared_alone S typed tokens nodes low apart sides.parametric way h.type_name bound under agrees z);
  }

  alone_member : {t : Trees} {v w : Bool} {c e : Scopes} {own : List TypeName} → P part.Declarator v c (own ∷ e) t → P part.MemberDeclarator w c e t
  alone_member {w = w} {c = c} x = record {
    holds = λ q lt is. λ bound way under agrees.
        let z = x.holds q lt is in
        subst (λ o. Does S typed (before [] bound told) c o (declares way nodes q (kind_at nodes q))) (sym (ap closed z.scopes))
        (special.declared_alone S typed tokens nodes low apart sides.member_wise way w bound under agrees z);
  }

  node_init : {t u : Trees} {v : Bool} {c e f : Scopes} {own : List TypeName} {i j : ℕ} (h : Context) → Single t → Single u → P part.Declarator v c (own ∷ e) t → Part (enter (declared_name ts (past_part h t)) e) f u
      → P part.InitDeclarator h.type_name c f (one kind.InitDeclarator i j (t & (u & none)))
  node_init {t = t} {u = u} {f = f} h alone other x s = record {
    holds = λ q lt is. λ bound way under agrees.
        let n = node_of nodes low lt is in
        let y = first_part nodes low (u & none) n.own.parts q alone n.below n.within n.parts in
        let r = last_part nodes low y.others q other y.under y.rest y.trees in
        let z = x.holds y.first y.within y.tree in
        special.declared_initialised S typed tokens nodes low apart way h.type_name bound under agrees n (y.is ∙ ap (λ rs. y.first ∷ rs) r.is) y.lower r.lower z
        (subst (λ o. G o f (told r.first)) (same_entry h z) (s r.first r.within r.tree));
  }

  abstract_alone : {t : Trees} {v w : Bool} {c e : Scopes} → IsAbstract t → P part.Abstract v c e t → P part.ParameterDeclarator w c e t
  abstract_alone a_pointer x = record {
    holds = λ q lt is. λ bound way under agrees.
        let n = node_of nodes low lt is in special.unnamed S typed tokens nodes low apart way bound under (ruled S typed tokens nodes low n) (ap (declares way nodes q) (kind_is S typed tokens nodes low n)) (x.holds q lt is);
  }
  abstract_alone a_group x = record {
    holds = λ q lt is. λ bound way under agrees.
        let n = node_of nodes low lt is in special.unnamed S typed tokens nodes low apart way bound under (ruled S typed tokens nodes low n) (ap (declares way nodes q) (kind_is S typed tokens nodes low n)) (x.holds q lt is);
  }
  abstract_alone an_array x = record {
    holds = λ q lt is. λ bound way under agrees.
        let n = node_of nodes low lt is in special.unnamed S typed tokens nodes low apart way bound under (ruled S typed tokens nodes low n) (ap (declares way nodes q) (kind_is S typed tokens nodes low n)) (x.holds q lt is);
  }
  abstract_alone an_array_of x = record {
    holds = λ q lt is. λ bound way under agrees.
        let n = node_of nodes low lt is in special.unnamed S typed tokens nodes low apart way bound under (ruled S typed tokens nodes low n) (ap (declares way nodes q) (kind_is S typed tokens nodes low n)) (x.holds q lt is);
  }

  -- ---- declarations

  node_declaration : {t u : Trees} {w : Bool} {c d e : Scopes} {i j : ℕ} (h : Context) → h.type_name ≡ false → Single t → lists_plainly t ≡ false → Part c d t
      → R (grammar.optional_list part.InitDeclarator ∷ grammar.token word.Semicolon ∷ []) (past_part h t).type_name d e u → P part.Declaration w c e (one kind.Declaration i j (t & u))
  node_declaration {u = u} h new (single {k = k} {b = b}) listed x s = record {
    holds = λ q lt is.
        let n = node_of nodes low lt is in
        let y = first_part nodes low u n.own.parts q single n.below n.within n.parts in
        special.at_declaration S typed tokens nodes low apart n y.others _ y.is y.lower y.under (node_of nodes low y.within y.tree) listed (ap (λ o. o || specifies is_typedef k b) new)
        (x y.first y.within y.tree) (s.holds y.others y.rest y.trees);
  }

  node_parameter : {t u : Trees} {w : Bool} {c d e : Scopes} {i j : ℕ} (h : Context) → h.type_name ≡ false → Single t → Single u → lists_plainly t ≡ false → Part c d t → P part.ParameterDeclarator (past_part h t).type_name d e u
      → P part.Parameter w c e (one kind.Parameter i j (t & (u & none)))
  node_parameter {u = u} h new (single {k = k} {b = b}) other listed x s = record {
    holds = λ q lt is.
        let n = node_of nodes low lt is in
        let y = first_part nodes low (u & none) n.own.parts q single n.below n.within n.parts in
        let r = last_part nodes low y.others q other y.under y.rest y.trees in
        special.at_parameter S typed tokens nodes low apart n _ (y.is ∙ ap (λ rs. y.first ∷ rs) r.is) y.lower r.lower (node_of nodes low y.within y.tree) listed (ap (λ o. o || specifies is_typedef k b) new)
        (lawful q n.own n.at n.kind) (x y.first y.within y.tree) (s.holds r.first r.within r.tree);
  }

  node_members : {t u : Trees} {v w : Bool} {c d e : Scopes} {i j : ℕ} → Single t → Part c d t → R (grammar.list part.MemberDeclarator ∷ grammar.token word.Semicolon ∷ []) v d e u
      → P part.MemberDeclaration w c e (one kind.MemberDeclaration i j (t & u))
  node_members {u = u} {v = v} alone x s = record {
    holds = λ q lt is. λ bound structure under.
        let n = node_of nodes low lt is in
        let y = first_part nodes low u n.own.parts q alone n.below n.within n.parts in
        special.at_members S typed tokens nodes low apart v bound structure q y.others n.at y.is (let z = y.lower in omega (arith, z, under)) (λ m l. let z = y.under m l in omega (arith, z, under))
        (x y.first y.within y.tree) (s.holds y.others y.rest y.trees);
  }

  node_definition : {t td tb : Trees} {v w z : Bool} {c d e : Scopes} {own other : List TypeName} {f : Scopes} {i j : ℕ} (k l : ℕ) (h : Context) → h.type_name ≡ false → Single t → Single td → lists_plainly t ≡ false → Part c d t
      → P part.Declarator v d (own ∷ f) td → R (grammar.inner_many part.BlockItem ∷ grammar.closing word.RightBrace ∷ symbol.Ends ∷ []) w ([] ∷ (own ∷ enter (declared_name ts (past_part (past_part h t) td)) f)) (other ∷ e) tb
      → P part.External z c e (one kind.FunctionDefinition i j (t & (td & (one kind.Compound k l tb & none))))
  node_definition {td = td} {tb = tb} {e = e} {own = own} {other = other} {f = f} k l h new (single {k = kk} {i = i1} {j = j1} {b = b}) two listed x y s = record {
    holds = λ q lt is.
        let n = node_of nodes low lt is in
        let first = first_part nodes low (td & (one kind.Compound k l tb & none)) n.own.parts q single n.below n.within n.parts in
        let second = first_part nodes low (one kind.Compound k l tb & none) first.others q two first.under first.rest first.trees in
        let third = last_part nodes low second.others q single second.under second.rest second.trees in
        let m = node_of nodes low third.within third.tree in
        let z = y.holds second.first second.within second.tree in
        let items = s.holds m.own.parts m.within m.parts in
        let own-is : own ≡ z.own = ap inner z.scopes in
        special.at_definition S typed tokens nodes low apart n _ (first.is ∙ ap (λ rs. first.first ∷ rs) (second.is ∙ ap (λ rs. second.first ∷ rs) third.is)) first.lower second.lower third.lower
        (node_of nodes low first.within first.tree) listed (ap (λ o. o || specifies is_typedef kk b) new) (x first.first first.within first.tree) z m
        (subst (λ o. G ([] ∷ (z.own ∷ o)) (items.0 ∷ (other ∷ e)) (flat_map told m.own.parts)) (same_entry (past_part h (one kk i1 j1 b)) z)
        (subst (λ o. G ([] ∷ (o ∷ enter (declared_name ts (past_part (past_part h (one kk i1 j1 b)) td)) f)) (items.0 ∷ (other ∷ e)) (flat_map told m.own.parts)) own-is items.1));
  }

  -- ---- statements

  node_compound : {t : Trees} {v w : Bool} {c e : Scopes} {i j : ℕ} → R (grammar.inner_many part.BlockItem ∷ grammar.closing word.RightBrace ∷ symbol.Ends ∷ []) v ([] ∷ c) e t → P part.Compound w c e (one kind.Compound i j t)
  node_compound s = record { holds = λ q lt is. let n = node_of nodes low lt is in special.at_compound S typed tokens nodes low apart n (s.holds n.own.parts n.within n.parts).1 }

  -- a controlling expression, and a body
  node_body : (k : Kind) → ((q : ℕ) (n : Node) → script_by k tokens nodes q n ≡ block (take 1 n.parts) (drop 1 n.parts) []) → {t u : Trees} {w : Bool} {c d e : Scopes} {names own : List TypeName} {i j : ℕ}
      → Single t → Single u → Part ([] ∷ c) d t → Part ([] ∷ d) (names ∷ (own ∷ e)) u → P part.Statement w c e (one k i j (t & (u & none)))
  node_body k script {u = u} {c = c} {e = e} alone other x s = record {
    holds = λ q lt is.
        let n = node_of nodes low lt is in
        let y = first_part nodes low (u & none) n.own.parts q alone n.below n.within n.parts in
        let r = last_part nodes low y.others q other y.under y.rest y.trees in
        of_node S typed tokens nodes low n
        (subst (λ steps. Does S typed (before [] q told) c e steps) (sym (script q n.own))
        (subst (λ ps. Does S typed (before [] q told) c e (block (take 1 ps) (drop 1 ps) [])) (sym (y.is ∙ ap (λ rs. y.first ∷ rs) r.is))
        (special.while_makes S typed tokens nodes low apart q y.first r.first y.lower r.lower (x y.first y.within y.tree) (s r.first r.within r.tree))));
  }

  node_else : {t u v : Trees} {w : Bool} {c d e f : Scopes} {names others own : List TypeName} {i j : ℕ} → Single t → Single u → Single v → Part ([] ∷ c) d t → Part ([] ∷ d) (names ∷ e) u → Part ([] ∷ e) (others ∷ (own ∷ f)) v
      → P part.Statement w c f (one kind.If i j (t & (u & (v & none))))
  node_else {u = u} {v = v} {c = c} {f = f} alone two three x y z = record {
    holds = λ q lt is.
        let n = node_of nodes low lt is in
        let first = first_part nodes low (u & (v & none)) n.own.parts q alone n.below n.within n.parts in
        let second = first_part nodes low (v & none) first.others q two first.under first.rest first.trees in
        let third = last_part nodes low second.others q three second.under second.rest second.trees in
        of_node S typed tokens nodes low n
        (subst (λ ps. Does S typed (before [] q told) c f (block (take 1 ps) (drop 1 ps) [])) (sym (first.is ∙ ap (λ rs. first.first ∷ rs) (second.is ∙ ap (λ rs. second.first ∷ rs) third.is)))
        (special.else_makes S typed tokens nodes low apart q first.first second.first third.first first.lower second.lower third.lower
        (x first.first first.within first.tree) (y second.first second.within second.tree) (z third.first third.within third.tree)));
  }

  node_do : {t u : Trees} {w : Bool} {c d e : Scopes} {names own : List TypeName} {i j : ℕ} → Single t → Single u → Part ([] ∷ ([] ∷ c)) (names ∷ d) t → Part d (own ∷ e) u → P part.Statement w c e (one kind.Do i j (t & (u & none)))
  node_do {u = u} {c = c} {e = e} alone other x s = record {
    holds = λ q lt is.
        let n = node_of nodes low lt is in
        let y = first_part nodes low (u & none) n.own.parts q alone n.below n.within n.parts in
        let r = last_part nodes low y.others q other y.under y.rest y.trees in
        of_node S typed tokens nodes low n
        (subst (λ ps. Does S typed (before [] q told) c e (block [] (take 1 ps) (drop 1 ps))) (sym (y.is ∙ ap (λ rs. y.first ∷ rs) r.is))
        (special.do_makes S typed tokens nodes low apart q y.first r.first y.lower r.lower (x y.first y.within y.tree) (s r.first r.within r.tree)));
  }

  abbrev for_side : Side
  for_side = symbol.Init ∷ symbol.Clause ∷ symbol.Step ∷ symbol.Begins ∷ grammar.inner part.Statement ∷ symbol.Ends ∷ symbol.Ends ∷ []

  node_for : {t : Trees} {v w : Bool} {c e : Scopes} {i j : ℕ} → R for_side v ([] ∷ c) e t → P part.Statement w c e (one kind.For i j t)
  node_for s = record { holds = λ q lt is. let n = node_of nodes low lt is in special.at_for S typed tokens nodes low apart n (s.holds n.own.parts n.within n.parts) }

  -- ---- symbols

  clause_part : {s r : Side} {v w : Bool} {c e f : Scopes} {t u : Trees} → sort_of r ≡ sides.clause (sort_of s) → Single t → Part c e t → R s v e f u → R r w c f (t & u)
  clause_part {s = s} {r = r} {v = v} {w = w} {c = c} {e = e} {f = f} {u = u} same alone x y = record {
    holds = with_row S typed tokens nodes low u (λ ps. sides.SideSays S typed tokens nodes (sort_of r) w c f ps) alone
        (λ q qs lt is under others. subst (λ z. sides.SideSays S typed tokens nodes z w c f (q ∷ qs)) (sym same) (one_clause S typed tokens nodes (sort_of s) v w c e f q qs (x q lt is) (y.holds qs under others)));
  }

  value_part : {s : Side} {v w : Bool} {c e f : Scopes} {t u : Trees} → Single t → Part c e t → R s v e f u → R (symbol.Value ∷ s) w c f (t & u)
  value_part {s = s} {v = v} {w = w} {c = c} {e = e} {f = f} {u = u} alone x y = record {
    holds = with_row S typed tokens nodes low u (λ ps. sides.SideSays S typed tokens nodes (sort_of (symbol.Value ∷ s)) w c f ps) alone
        (λ q qs lt is under others. one_valued S typed tokens nodes (sort_of s) v w c e f q qs (x q lt is) (y.holds qs under others));
  }

  -- ---- what is said of all that is spelled within

  -- what is said of one that is spelled
  abbrev Said : {q : Phrase} {h : Context} {c e : Scopes} {d i j : ℕ} {t : Trees} → Spells ts limit q h c e d t i j → Type 0
  Said {q = q} {h = h} {c = c} {e = e} {t = t} x = Holds q h c e t

  abbrev All : {q : Phrase} {h : Context} {c e : Scopes} {d i j : ℕ} {t : Trees} → Spells ts limit q h c e d t i j → Type 0
  All (spells.of_alternative m f s) = Said s × All s
  All (spells.of_chain m f s) = Said s × All s
  All (spells.init_declarator_alone s) = Said s × All s
  All (spells.parameter_declarator s) = Said s × All s
  All (spells.member_declarator s) = Said s × All s
  All spells.done = Unit {0}
  All (spells.token q w s) = Said s × All s
  All (spells.opens q w s) = Said s × All s
  All (spells.reopens q w v s) = Said s × All s
  All (spells.part x s) = (Said x × All x) × (Said s × All s)
  All (spells.optional_none s) = Said s × All s
  All (spells.optional_some x s) = (Said x × All x) × (Said s × All s)
  All (spells.many_none s) = Said s × All s
  All (spells.many_more x s) = (Said x × All x) × (Said s × All s)
  All (spells.list_last x s) = (Said x × All x) × (Said s × All s)
  All (spells.list_more x q w s) = (Said x × All x) × (Said s × All s)
  All (spells.list_none s) = Said s × All s
  All (spells.list_some s) = Said s × All s
  All (spells.tag_none q w s) = Said s × All s
  All (spells.tag_some q w q' w' s) = Said s × All s
  All (spells.comma_none q w s) = Said s × All s
  All (spells.comma_some q w q' w' s) = Said s × All s
  All (spells.qualified k x) = Said x × All x
  All (spells.qualified_none k) = Unit {0}
  All (spells.qualified_some k x) = Said x × All x
  All (spells.ordinary q w s) = Said s × All s
  All (spells.type_identifier q f w s) = Said s × All s
  All (spells.declared q f w s) = Said s × All s
  All (spells.enumerates q w s) = Said s × All s
  All (spells.value_none s) = Said s × All s
  All (spells.value_some q w x s) = (Said x × All x) × (Said s × All s)
  All (spells.enters s) = Said s × All s
  All (spells.begins s) = Said s × All s
  All (spells.ends s) = Said s × All s
  All (spells.prototype_none s) = Said s × All s
  All (spells.prototype_some x s) = (Said x × All x) × (Said s × All s)
  All (spells.size_none s) = Said s × All s
  All (spells.size_some x s) = (Said x × All x) × (Said s × All s)
  All (spells.texts_one q w) = Unit {0}
  All (spells.texts_more q w s) = Said s × All s
  All (spells.init_declaration x s) = (Said x × All x) × (Said s × All s)
  All (spells.init_clause s) = Said s × All s
  All (spells.clause_none q w s) = Said s × All s
  All (spells.clause_some x q w s) = (Said x × All x) × (Said s × All s)
  All (spells.step_none q w v s) = Said s × All s
  All (spells.step_some x q w v s) = (Said x × All x) × (Said s × All s)
  All (spells.else_none s) = Said s × All s
  All (spells.else_some q w x s) = (Said x × All x) × (Said s × All s)

  -- ---- nodes that tell more than their parts

  -- a token at the end of a side tells nothing
  closed_by : {l : Depth} {w : Word} {h : Context} {c e : Scopes} {d i j : ℕ} {t : Trees} → Spells ts limit (rest (symbol.Token l w ∷ [])) h c e d t i j → (t ≡ none) × (c ≡ e)
  closed_by (spells.token q w spells.done) = (refl, refl)

  -- nor do two of them, with the end of a scope behind
  ended_by : {k l : Depth} {v w : Word} {h : Context} {c e : Scopes} {d i j : ℕ} {t : Trees} → Spells ts limit (rest (symbol.Token k v ∷ symbol.Token l w ∷ symbol.Ends ∷ [])) h c e d t i j
      → (own : List TypeName) × ((t ≡ none) × (c ≡ own ∷ e))
  ended_by (spells.token q w (spells.token q' w' (spells.ends {own = own} spells.done))) = (own, (refl, refl))

  at_typedef : (h : Context) {c e : Scopes} {d i j : ℕ} {t : Trees} (x : Spells ts limit (rest (symbol.TypeIdentifier ∷ [])) (at_start part.Plain h) c e d t i j) → All x → P part.Plain h.type_name c e (one kind.TypedefName i j t)
  at_typedef h (spells.type_identifier id u st spells.done) all = leaf_typedef id.1

  at_identifier : (h : Context) {c e : Scopes} {d i j : ℕ} {t : Trees} (x : Spells ts limit (rest (symbol.Ordinary ∷ [])) (at_start part.Primary h) c e d t i j) → All x → P part.Primary h.type_name c e (one kind.Identifier i j t)
  at_identifier h (spells.ordinary id st spells.done) all = leaf_identifier

  at_struct_tag : (h : Context) {c e : Scopes} {d i j : ℕ} {t : Trees} (x : Spells ts limit (rest (grammar.token word.Struct ∷ grammar.token word.Identifier ∷ [])) (at_start part.Plain h) c e d t i j) → All x → P part.Plain h.type_name c e (one kind.StructTag i j t)
  at_struct_tag h (spells.token q w (spells.token q' w' spells.done)) all = leaf_struct

  at_enum_tag : (h : Context) {c e : Scopes} {d i j : ℕ} {t : Trees} (x : Spells ts limit (rest (grammar.token word.Enum ∷ grammar.token word.Identifier ∷ [])) (at_start part.Plain h) c e d t i j) → All x → P part.Plain h.type_name c e (one kind.EnumTag i j t)
  at_enum_tag h (spells.token q w (spells.token q' w' spells.done)) all = leaf_enum

  at_call : (h : Context) {c e : Scopes} {d i j : ℕ} {t : Trees} (x : Spells ts limit (rest (symbol.Ordinary ∷ grammar.opening word.LeftParen ∷ grammar.inner_optional_list part.Assignment ∷ grammar.closing word.RightParen ∷ [])) (at_start part.Postfix h) c e d t i j) → All x → P part.Postfix h.type_name c e (one kind.Call i j t)
  at_call h (spells.ordinary id st s) all = node_call all.0

  at_enum : (h : Context) {c e : Scopes} {d i j : ℕ} {t : Trees} (x : Spells ts limit (rest (grammar.token word.Enum ∷ symbol.Tag ∷ grammar.inner_list part.Enumerator ∷ symbol.TrailingComma ∷ [])) (at_start part.Plain h) c e d t i j) → All x → P part.Plain h.type_name c e (one kind.EnumContent i j t)
  at_enum h (spells.token q w s) all = node_enum all.0

  at_struct : (h : Context) {c e : Scopes} {d i j : ℕ} {t : Trees} (x : Spells ts limit (rest (grammar.token word.Struct ∷ symbol.Tag ∷ grammar.inner part.MemberDeclaration ∷ grammar.inner_many part.MemberDeclaration ∷ grammar.closing word.RightBrace ∷ [])) (at_start part.Plain h) c e d t i j) → All x → P part.Plain h.type_name c e (one kind.StructContent i j t)
  at_struct h (spells.token q w s) all = node_struct all.0

  at_enumerator : (h : Context) {c e : Scopes} {d i j : ℕ} {t : Trees} (x : Spells ts limit (rest (symbol.Enumerates ∷ symbol.Value ∷ [])) (at_start part.Enumerator h) c e d t i j) → All x → P part.Enumerator h.type_name c e (one kind.Enumerator i j t)
  at_enumerator h (spells.enumerates q w s) all = node_enumerator all.0

  at_name : (h : Context) {c e : Scopes} {d i j : ℕ} {t : Trees} (x : Spells ts limit (rest (symbol.Declared ∷ [])) (at_start part.DirectDeclarator h) c e d t i j) → All x → P part.DirectDeclarator h.type_name c e (one kind.NameDeclarator i j t)
  at_name h (spells.declared q g st spells.done) all = node_name

  at_group : (h : Context) {c e : Scopes} {d i j : ℕ} {t : Trees} (x : Spells ts limit (rest (grammar.opening word.LeftParen ∷ grammar.inner part.Declarator ∷ grammar.closing word.RightParen ∷ [])) (at_start part.DirectDeclarator h) c e d t i j) → All x → P part.DirectDeclarator h.type_name c e (one kind.GroupDeclarator i j t)
  at_group h {c = c} {e = e} {i = i} {j = j} (spells.opens q w (spells.part {t = t} {u = u} x s)) all =
      let z = closed_by s in
      subst (λ v. P part.DirectDeclarator h.type_name c e (one kind.GroupDeclarator i j (t & v))) (sym z.0)
      (subst (λ o. P part.DirectDeclarator h.type_name c o (one kind.GroupDeclarator i j (t & none))) z.1 (node_group (part_single x) all.1.0.0))

  at_pointer : (h : Context) {c e : Scopes} {d i j : ℕ} {t : Trees} (x : Spells ts limit (rest (grammar.opening word.Star ∷ symbol.Qualified part.Declarator ∷ [])) (at_start part.Declarator h) c e d t i j) → All x → P part.Declarator h.type_name c e (one kind.PointerDeclarator i j t)
  at_pointer h (spells.opens q w (spells.qualified m x)) all = node_pointer (part_single x) all.1.0

  at_array : (h : Context) {c e : Scopes} {d i j : ℕ} {t : Trees} (x : Spells ts limit (rest (grammar.part part.DirectDeclarator ∷ grammar.opening word.LeftBracket ∷ symbol.Size ∷ grammar.closing word.RightBracket ∷ [])) (at_start part.DirectDeclarator h) c e d t i j) → All x → P part.DirectDeclarator h.type_name c e (one kind.ArrayDeclarator i j t)
  at_array h {c = c} {e = e} {i = i} {j = j} (spells.part {t = t} x (spells.opens q w (spells.size_none s))) all =
      let z = closed_by s in
      subst (λ o. P part.DirectDeclarator h.type_name c o (one kind.ArrayDeclarator i j (t & none))) z.1 (node_array_none (part_single x) all.0.0)
  at_array h {c = c} {e = e} {i = i} {j = j} (spells.part {t = t} x (spells.opens q w (spells.size_some {t = r} {u = u} y s))) all =
      let z = closed_by s in
      subst (λ v. P part.DirectDeclarator h.type_name c e (one kind.ArrayDeclarator i j (t & (r & v)))) (sym z.0)
      (subst (λ o. P part.DirectDeclarator h.type_name c o (one kind.ArrayDeclarator i j (t & (r & none)))) z.1 (node_array (part_single x) (part_single y) all.0.0 all.1.1.1.0.0.holds))

  at_function : (h : Context) {c e : Scopes} {d i j : ℕ} {t : Trees} (x : Spells ts limit (rest (grammar.part part.DirectDeclarator ∷ grammar.opening word.LeftParen ∷ symbol.Prototype ∷ grammar.closing word.RightParen ∷ [])) (at_start part.DirectDeclarator h) c e d t i j) → All x → P part.DirectDeclarator h.type_name c e (one kind.FunctionDeclarator i j t)
  at_function h {c = c} {e = e} {i = i} {j = j} (spells.part {t = t} x (spells.opens q w (spells.prototype_none s))) all =
      let z = closed_by s in
      subst (λ o. P part.DirectDeclarator h.type_name c o (one kind.FunctionDeclarator i j (t & none))) z.1 (node_function_none (part_single x) all.0.0)
  at_function h {c = c} {e = e} {i = i} {j = j} (spells.part {t = t} x (spells.opens q w (spells.prototype_some {t = r} {u = u} y s))) all =
      let z = closed_by s in
      subst (λ v. P part.DirectDeclarator h.type_name c e (one kind.FunctionDeclarator i j (t & (r & v)))) (sym z.0)
      (subst (λ o. P part.DirectDeclarator h.type_name c o (one kind.FunctionDeclarator i j (t & (r & none)))) z.1
      (node_function (part_single x) (part_single y) (past_bare h t (part_single x)) all.0.0 all.1.1.1.0.0.holds))

  at_declaration : (h : Context) {c e : Scopes} {d i j : ℕ} {t : Trees} (x : Spells ts limit (rest (grammar.part part.Specifiers ∷ grammar.optional_list part.InitDeclarator ∷ grammar.token word.Semicolon ∷ [])) (at_start part.Declaration h) c e d t i j) → All x → P part.Declaration h.type_name c e (one kind.Declaration i j t)
  at_declaration h (spells.part x s) all = node_declaration fresh refl (part_single x) (no_list x refl) all.0.0.holds all.1.0

  at_init : (h : Context) {c e : Scopes} {d i j : ℕ} {t : Trees} (x : Spells ts limit (rest (grammar.part part.Declarator ∷ symbol.Enters ∷ symbol.Ends ∷ grammar.token word.Equal ∷ grammar.part part.Initializer ∷ [])) (at_start part.InitDeclarator h) c e d t i j) → All x → P part.InitDeclarator h.type_name c e (one kind.InitDeclarator i j t)
  at_init h (spells.part x (spells.enters (spells.ends (spells.token q w (spells.part y spells.done))))) all = node_init h (part_single x) (part_single y) all.0.0 all.1.1.1.1.1.0.0.holds

  at_parameter : (h : Context) {c e : Scopes} {d i j : ℕ} {t : Trees} (x : Spells ts limit (rest (grammar.part part.Specifiers ∷ grammar.part part.ParameterDeclarator ∷ [])) (at_start part.Parameter h) c e d t i j) → All x → P part.Parameter h.type_name c e (one kind.Parameter i j t)
  at_parameter h (spells.part x (spells.part y spells.done)) all = node_parameter fresh refl (part_single x) (part_single y) (no_list x refl) all.0.0.holds all.1.1.0.0

  at_members : (h : Context) {c e : Scopes} {d i j : ℕ} {t : Trees} (x : Spells ts limit (rest (grammar.part part.PlainSpecifiers ∷ grammar.list part.MemberDeclarator ∷ grammar.token word.Semicolon ∷ [])) (at_start part.MemberDeclaration h) c e d t i j) → All x → P part.MemberDeclaration h.type_name c e (one kind.MemberDeclaration i j t)
  at_members h (spells.part x s) all = node_members (part_single x) all.0.0.holds all.1.0

  at_compound : (h : Context) {c e : Scopes} {d i j : ℕ} {t : Trees} (x : Spells ts limit (rest (symbol.Begins ∷ grammar.opening word.LeftBrace ∷ grammar.inner_many part.BlockItem ∷ grammar.closing word.RightBrace ∷ symbol.Ends ∷ [])) (at_start part.Compound h) c e d t i j) → All x → P part.Compound h.type_name c e (one kind.Compound i j t)
  at_compound h (spells.begins (spells.opens q w s)) all = node_compound all.1.0

  -- a block, by its items
  record IsBlock (c e : Scopes) (t : Trees) : Type 0 where
    first : ℕ
    end : ℕ
    parts : Trees
    is : t ≡ one kind.Compound first end parts
    items : R (grammar.inner_many part.BlockItem ∷ grammar.closing word.RightBrace ∷ symbol.Ends ∷ []) true ([] ∷ c) e parts

  block_side : {h : Context} {c e : Scopes} {d i j : ℕ} {t : Trees}
      (x : Spells ts limit (rest (symbol.Begins ∷ grammar.opening word.LeftBrace ∷ grammar.inner_many part.BlockItem ∷ grammar.closing word.RightBrace ∷ symbol.Ends ∷ [])) h c e d t i j) → All x → IsBlock c e (one kind.Compound i j t)
  block_side {i = i} {j = j} {t = t} (spells.begins (spells.opens q w s)) all = record { first = i; end = j; parts = t; is = refl; items = record { holds = all.1.0.holds } }

  block_of : {h : Context} {c e : Scopes} {d i j : ℕ} {t : Trees} (x : Spells ts limit (a part.Compound) h c e d t i j) → All x → IsBlock c e t
  block_of (spells.of_alternative grammar.compound_statement f s) all = block_side s all.1
  block_of (spells.of_chain m f s) all = elim m [ ]

  at_definition : (h : Context) {c e : Scopes} {d i j : ℕ} {t : Trees} (x : Spells ts limit (rest (grammar.part part.Specifiers ∷ grammar.part part.Declarator ∷ symbol.Enters ∷ grammar.part part.Compound ∷ symbol.Ends ∷ [])) (at_start part.External h) c e d t i j) → All x → P part.External h.type_name c e (one kind.FunctionDefinition i j t)
  at_definition h {c = c} {i = i} {j = j} (spells.part {t = t} x (spells.part {t = td} y (spells.enters (spells.part z (spells.ends {c = e} spells.done))))) all =
      let b = block_of z all.1.1.1.1.1.0.1 in
      subst (λ tb. P part.External h.type_name c e (one kind.FunctionDefinition i j (t & (td & (tb & none))))) (sym b.is)
      (node_definition b.first b.end fresh refl (part_single x) (part_single y) (no_list x refl) all.0.0.holds all.1.1.0.0 b.items)

  abbrev if_side : Side
  if_side = symbol.Begins ∷ grammar.token word.If ∷ grammar.opening word.LeftParen ∷ grammar.inner part.Expression ∷ grammar.reopening word.RightParen ∷ symbol.Begins ∷ grammar.inner part.Statement ∷ symbol.Ends ∷ symbol.Else ∷ symbol.Ends ∷ []

  abbrev body_side : Word → Part-of → Side
  body_side w p = symbol.Begins ∷ grammar.token w ∷ grammar.opening word.LeftParen ∷ grammar.inner part.Expression ∷ grammar.reopening word.RightParen ∷ symbol.Begins ∷ grammar.inner p ∷ symbol.Ends ∷ symbol.Ends ∷ []

  abbrev do_side : Side
  do_side = symbol.Begins ∷ grammar.opening word.Do ∷ symbol.Begins ∷ grammar.inner part.Statement ∷ symbol.Ends ∷ grammar.token word.While ∷ grammar.opening word.LeftParen ∷ grammar.inner part.Expression ∷ grammar.closing word.RightParen ∷ grammar.token word.Semicolon ∷ symbol.Ends ∷ []

  at_if : (h : Context) {c e : Scopes} {d i j : ℕ} {t : Trees} (x : Spells ts limit (rest if_side) (at_start part.Statement h) c e d t i j) → All x → P part.Statement h.type_name c e (one kind.If i j t)
  at_if h (spells.begins (spells.token q w (spells.opens q' w' (spells.part x (spells.reopens q'' w'' v'' (spells.begins (spells.part y (spells.ends (spells.else_none (spells.ends spells.done)))))))))) all =
      node_body kind.If (λ q n. refl) (part_single x) (part_single y) all.1.1.1.0.0.holds all.1.1.1.1.1.1.1.0.0.holds
  at_if h (spells.begins (spells.token q w (spells.opens q' w' (spells.part x (spells.reopens q'' w'' v'' (spells.begins (spells.part y (spells.ends (spells.else_some z w3 s (spells.ends spells.done)))))))))) all =
      node_else (part_single x) (part_single y) (part_single s) all.1.1.1.0.0.holds all.1.1.1.1.1.1.1.0.0.holds all.1.1.1.1.1.1.1.1.1.1.0.0.holds

  at_switch : (h : Context) {c e : Scopes} {d i j : ℕ} {t : Trees} (x : Spells ts limit (rest (body_side word.Switch part.Compound)) (at_start part.Statement h) c e d t i j) → All x → P part.Statement h.type_name c e (one kind.Switch i j t)
  at_switch h (spells.begins (spells.token q w (spells.opens q' w' (spells.part x (spells.reopens q'' w'' v'' (spells.begins (spells.part y (spells.ends (spells.ends spells.done))))))))) all =
      node_body kind.Switch (λ q n. refl) (part_single x) (part_single y) all.1.1.1.0.0.holds all.1.1.1.1.1.1.1.0.0.holds

  at_while : (h : Context) {c e : Scopes} {d i j : ℕ} {t : Trees} (x : Spells ts limit (rest (body_side word.While part.Statement)) (at_start part.Statement h) c e d t i j) → All x → P part.Statement h.type_name c e (one kind.While i j t)
  at_while h (spells.begins (spells.token q w (spells.opens q' w' (spells.part x (spells.reopens q'' w'' v'' (spells.begins (spells.part y (spells.ends (spells.ends spells.done))))))))) all =
      node_body kind.While (λ q n. refl) (part_single x) (part_single y) all.1.1.1.0.0.holds all.1.1.1.1.1.1.1.0.0.holds

  at_do : (h : Context) {c e : Scopes} {d i j : ℕ} {t : Trees} (x : Spells ts limit (rest do_side) (at_start part.Statement h) c e d t i j) → All x → P part.Statement h.type_name c e (one kind.Do i j t)
  at_do h {c = c} {e = e} {i = i} {j = j} (spells.begins (spells.opens q w (spells.begins (spells.part {t = t} y (spells.ends (spells.token q1 w1 (spells.opens q2 w2 (spells.part {c = m} {e = o} {t = r} {u = u} x s)))))))) all =
      let z = ended_by s in
      subst (λ v. P part.Statement h.type_name c e (one kind.Do i j (t & (r & v)))) (sym z.1.0)
      (node_do {own = z.0} (part_single y) (part_single x) all.1.1.1.0.0.holds
      (λ n lt is. subst (λ x. G m x (told n)) z.1.1 (all.1.1.1.1.1.1.1.1.0.0.holds n lt is)))

  at_for : (h : Context) {c e : Scopes} {d i j : ℕ} {t : Trees} (x : Spells ts limit (rest (symbol.Begins ∷ grammar.token word.For ∷ grammar.opening word.LeftParen ∷ for_side)) (at_start part.Statement h) c e d t i j) → All x → P part.Statement h.type_name c e (one kind.For i j t)
  at_for h (spells.begins (spells.token q w (spells.opens q' w' s))) all = node_for all.1.1.0

  by_alternative : {p : Part-of} {k : Kind} {s : Side} (h : Context) {c e : Scopes} {d i j : ℕ} {t : Trees} → Alternative p k s → (x : Spells ts limit (rest s) (at_start p h) c e d t i j) → Said x → All x → P p h.type_name c e (one k i j t)
  by_alternative h grammar.typedef_name x said all = at_typedef h x all
  by_alternative h grammar.identifier x said all = at_identifier h x all
  by_alternative h grammar.struct_tag x said all = at_struct_tag h x all
  by_alternative h grammar.enum_tag x said all = at_enum_tag h x all
  by_alternative h grammar.call x said all = at_call h x all
  by_alternative h grammar.enum_content x said all = at_enum h x all
  by_alternative h grammar.struct_content x said all = at_struct h x all
  by_alternative h grammar.enumerator x said all = at_enumerator h x all
  by_alternative h grammar.name_declarator x said all = at_name h x all
  by_alternative h grammar.group_declarator x said all = at_group h x all
  by_alternative h grammar.pointer_declarator x said all = at_pointer h x all
  by_alternative h grammar.array_declarator x said all = at_array h x all
  by_alternative h grammar.function_declarator x said all = at_function h x all
  by_alternative h grammar.declaration x said all = at_declaration h x all
  by_alternative h grammar.init_declarator x said all = at_init h x all
  by_alternative h grammar.parameter_declaration x said all = at_parameter h x all
  by_alternative h grammar.struct_declaration x said all = at_members h x all
  by_alternative h grammar.function_definition x said all = at_definition h x all
  by_alternative h grammar.compound_statement x said all = at_compound h x all
  by_alternative h grammar.if_statement x said all = at_if h x all
  by_alternative h grammar.switch_statement x said all = at_switch h x all
  by_alternative h grammar.while_statement x said all = at_while h x all
  by_alternative h grammar.do_statement x said all = at_do h x all
  by_alternative h grammar.for_statement x said all = at_for h x all
  by_alternative h m x said all = generic S typed tokens nodes low m refl said

  -- a part that stands alone
  by_chain : {p r : Part-of} {v : Bool} {h : Context} {c e : Scopes} {d i j : ℕ} {t : Trees} → Chain p r → Spells ts limit (a r) h c e d t i j → P r h.type_name c e t → P p v c e t
  by_chain grammar.parameter_abstract s said = abstract_alone (abstract_is by_abstract s) said
  by_chain m s said = record { holds = said.holds }

  -- ---- all that is spelled

  follows : {q : Phrase} {h : Context} {c e : Scopes} {d i j : ℕ} {t : Trees} (x : Spells ts limit q h c e d t i j) → Said x × All x
  follows (spells.of_alternative {h = h} m f s) = let b = follows s in (by_alternative h m s b.0 b.1, b)
  follows (spells.of_chain m f s) = let b = follows s in (by_chain m s b.0, b)
  follows (spells.init_declarator_alone {h = h} s) = let b = follows s in (alone_init h b.0, b)
  follows (spells.parameter_declarator {h = h} s) = let b = follows s in (alone_parameter h b.0, b)
  follows (spells.member_declarator s) = let b = follows s in (alone_member b.0, b)
  follows spells.done = (record { holds = λ ps under is. (no_row nodes low ps under is, refl) }, tt)
  follows (spells.token q w s) = let b = follows s in (record { holds = b.0.holds }, b)
  follows (spells.opens q w s) = let b = follows s in (record { holds = b.0.holds }, b)
  follows (spells.reopens q w v s) = let b = follows s in (record { holds = b.0.holds }, b)
  follows (spells.part x s) = let z = follows x in let b = follows s in (side_part S typed tokens nodes low (part_single x) z.0 b.0, (z, b))
  follows (spells.optional_none {p = p} {s = r} {h = h} {c = c} {e = e} s) = let b = follows s in (record { holds = λ ps under is. none_many S typed tokens nodes (part_sort p) (sort_of r) h.type_name c e ps (b.0.holds ps under is) }, b)
  follows (spells.optional_some x s) = let z = follows x in let b = follows s in (side_optional S typed tokens nodes low (part_single x) z.0 b.0, (z, b))
  follows (spells.many_none {p = p} {s = r} {h = h} {c = c} {e = e} s) = let b = follows s in (record { holds = λ ps under is. none_many S typed tokens nodes (part_sort p) (sort_of r) h.type_name c e ps (b.0.holds ps under is) }, b)
  follows (spells.many_more x s) = let z = follows x in let b = follows s in (side_many S typed tokens nodes low (part_single x) z.0 b.0, (z, b))
  follows (spells.list_last x s) = let z = follows x in let b = follows s in (side_last S typed tokens nodes low (part_single x) z.0 b.0, (z, b))
  follows (spells.list_more x q w s) = let z = follows x in let b = follows s in (side_more S typed tokens nodes low (part_single x) z.0 b.0, (z, b))
  follows (spells.list_none {p = p} {s = r} {h = h} {c = c} {e = e} s) = let b = follows s in (record { holds = λ ps under is. none_several S typed tokens nodes (part_sort p) (sort_of r) h.type_name c e ps (b.0.holds ps under is) }, b)
  follows (spells.list_some s) = let b = follows s in (record { holds = b.0.holds }, b)
  follows (spells.tag_none q w s) = let b = follows s in (record { holds = b.0.holds }, b)
  follows (spells.tag_some q w q' w' s) = let b = follows s in (record { holds = b.0.holds }, b)
  follows (spells.comma_none q w s) = let b = follows s in (record { holds = b.0.holds }, b)
  follows (spells.comma_some q w q' w' s) = let b = follows s in (record { holds = b.0.holds }, b)
  follows (spells.qualified k x) = let z = follows x in (side_qualified S typed tokens nodes low (part_single x) z.0, z)
  follows (spells.qualified_none {p = p} {h = h} {c = c} k) = (record { holds = λ ps under is. none_many S typed tokens nodes (part_sort p) sides.finished h.type_name c c ps (no_row nodes low ps under is, refl) }, tt)
  follows (spells.qualified_some k x) = let z = follows x in (side_maybe_qualified S typed tokens nodes low (part_single x) z.0, z)
  follows (spells.ordinary q w s) = let b = follows s in (record { holds = b.0.holds }, b)
  follows (spells.type_identifier q f w s) = let b = follows s in (record { holds = λ ps under is. tt }, b)
  follows (spells.declared q f w s) = let b = follows s in (record { holds = λ ps under is. tt }, b)
  follows (spells.enumerates q w s) = let b = follows s in (record { holds = λ ps under is. tt }, b)
  follows (spells.value_none {s = r} {h = h} {c = c} {e = e} s) = let b = follows s in (record { holds = λ ps under is. none_valued S typed tokens nodes (sort_of r) h.type_name c e ps (b.0.holds ps under is) }, b)
  follows (spells.value_some q w x s) = let z = follows x in let b = follows s in (value_part (part_single x) z.0.holds b.0, (z, b))
  follows (spells.enters s) = let b = follows s in (record { holds = λ ps under is. tt }, b)
  follows (spells.begins {s = r} {h = h} {c = c} {e = e} s) = let b = follows s in (record { holds = λ ps under is. opening S typed tokens nodes (sort_of r) h.type_name c e ps (b.0.holds ps under is) }, b)
  follows (spells.ends {s = r} {h = h} {c = c} {e = e} {own = own} s) = let b = follows s in (record { holds = λ ps under is. ending S typed tokens nodes (sort_of r) h.type_name c e own ps (b.0.holds ps under is) }, b)
  follows (spells.prototype_none s) = let b = follows s in (record { holds = λ ps under is. tt }, b)
  follows (spells.prototype_some x s) = let z = follows x in let b = follows s in (record { holds = λ ps under is. tt }, (z, b))
  follows (spells.size_none s) = let b = follows s in (record { holds = λ ps under is. tt }, b)
  follows (spells.size_some x s) = let z = follows x in let b = follows s in (record { holds = λ ps under is. tt }, (z, b))
  follows (spells.texts_one q w) = (record { holds = λ ps under is. (no_row nodes low ps under is, refl) }, tt)
  follows (spells.texts_more q w s) = let b = follows s in (record { holds = λ ps under is. (no_row nodes low ps under is, refl) }, b)
  follows (spells.init_declaration x s) = let z = follows x in let b = follows s in (clause_part refl (part_single x) z.0.holds b.0, (z, b))
  follows (spells.init_clause s) = let b = follows s in (record { holds = b.0.holds }, b)
  follows (spells.clause_none {s = r} {h = h} {c = c} {e = e} q w s) = let b = follows s in (record { holds = λ ps under is. no_clause S typed tokens nodes (sort_of r) h.type_name h.type_name c e ps (b.0.holds ps under is) }, b)
  follows (spells.clause_some x q w s) = let z = follows x in let b = follows s in (clause_part refl (part_single x) z.0.holds b.0, (z, b))
  follows (spells.step_none {s = r} {h = h} {c = c} {e = e} q w v s) = let b = follows s in (record { holds = λ ps under is. no_clause S typed tokens nodes (sort_of r) h.type_name h.type_name c e ps (b.0.holds ps under is) }, b)
  follows (spells.step_some x q w v s) = let z = follows x in let b = follows s in (clause_part refl (part_single x) z.0.holds b.0, (z, b))
  follows (spells.else_none s) = let b = follows s in (record { holds = λ ps under is. tt }, b)
  follows (spells.else_some q w x s) = let z = follows x in let b = follows s in (record { holds = λ ps under is. tt }, (z, b))

  -- ---- a unit

  pub unit_follows : (items : List ℕ) → ItemsAreNodes nodes items → (unit : IsUnit limit ts (row_in nodes items)) → AreFit S typed [] (events_of tokens nodes items)
  unit_follows items within unit =
      let all : G file_scope unit.after (flat_map told items) = (follows unit.spells).0.holds items within refl in
      subst (λ es. AreFit S typed [] es) (sym (below_all S typed tokens nodes low (length nodes) items within)) (all.fit [] (λ s. refl))

-- ---- by events, the latest first

module _ (spelling : ℕ → List ℕ) (typed : ℕ → Bool) where
  none_more : (es : List Event) (k : ℕ) → slice_get es k ≡ None → drop (suc k) es ≡ drop k es
  none_more [] zero e = refl
  none_more [] (suc k) e = refl
  none_more (x ∷ es) zero e = absurd cc
  none_more (x ∷ es) (suc k) e = none_more es k e

  one_more : (es : List Event) (k : ℕ) (x : Event) → slice_get es k ≡ Some x → drop k es ≡ x ∷ drop (suc k) es
  one_more [] k x e = absurd cc
  one_more (y ∷ es) zero x e = let same : y ≡ x = cc in ap (λ z. z ∷ es) same
  one_more (y ∷ es) (suc k) x e = one_more es k x e

  -- a token that was named is a type where it was named first
  abbrev Typed : List Event → Type 0
  Typed past = (token : ℕ) → typed token ≡ true → is_named token past ≡ true → is_type (scopes_at spelling past token) (spelling token) ≡ true

  typed_more : (past : List Event) (e : Event) → Fits spelling typed past e → Typed past → Typed (e ∷ past)
  typed_more past (event.Name t r) fits h token is named = by ((token == t) && not (is_named token past)) refl
    where
      named_before : (x y : Bool) → (x && not y) ≡ false → (x || y) ≡ true → y ≡ true
      named_before true true p o = refl
      named_before true false p o = absurd (true≢false p)
      named_before false y p o = o

      not_named : (b : Bool) → not b ≡ true → b ≡ false
      not_named true e = absurd (false≢true e)
      not_named false e = refl

      by : (b : Bool) → ((token == t) && not (is_named token past)) ≡ b → is_type (if b then scopes_of spelling past else scopes_at spelling past token) (spelling token) ≡ true
      by true q =
          let both = and_parts (token == t) (not (is_named token past)) q in
          let same : token ≡ t = eqb-true token t both.0 in
          ap (λ x. is_type (scopes_of spelling past) (spelling x)) same ∙ fits (sym (ap typed same) ∙ is) (sym (ap (λ x. is_named x past) same) ∙ not_named (is_named token past) both.1)
      by false q = h token is (named_before (token == t) (is_named token past) q named)
  typed_more past event.Opens fits h token is named = h token is named
  typed_more past event.Closes fits h token is named = h token is named
  typed_more past (event.Member t k) fits h token is named = h token is named
  typed_more past (event.Node i) fits h token is named = h token is named

  record Came (past es : List Event) : Type 0 where
    typed-so : Typed past
    left : AreFit spelling typed past es

  came : (events : List Event) → AreFit spelling typed [] events → (k : ℕ) → Came (past_of events k) (drop k events)
  came events g zero = record { typed-so = λ token is named. absurd (false≢true named); left = g }
  came events g (suc k) = by (slice_get events k) refl (came events g k)
    where
      by : (o : Option Event) → slice_get events k ≡ o → Came (past_of events k) (drop k events) → Came (with_event o (past_of events k)) (drop (suc k) events)
      by None e h = record { typed-so = h.typed-so; left = subst (AreFit spelling typed (past_of events k)) (sym (none_more events k e)) h.left }
      by (Some x) e h =
          let next = subst (AreFit spelling typed (past_of events k)) (one_more events k x e) h.left in
          record { typed-so = typed_more (past_of events k) x next.0 h.typed-so; left = next.1 }

  pub all_typed : (events : List Event) → AreFit spelling typed [] events → Typed (past_of events (length events))
  all_typed events g = (came events g (length events)).typed-so

pub all_types : Laws.TypedefNamesAreTypes
all_types ts limit tokens nodes items typed low within unit apart lawful token is named =
    all_typed (spelling_at ts) typed (events_of tokens nodes items) (unit_follows ts limit typed tokens nodes low apart lawful items within unit) token is named
