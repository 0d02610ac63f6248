-- A call stands for the declaration that is visible at its name, and that has been judged by K9.
use Rattle.std.proofs.Common.{◌≡◌, ℕ, zero, suc, ◌<◌, inl, inr, Bool, true, false, ◌&&◌, List, [], ◌∷◌, Option, None, Some, length, map, nat_lt, slice_get, slice_index_or, take, refl, sym, subst, ap, ◌∙◌, arith, if◌then◌else◌}
use Rattle.std.specs.List.{list_all}
use Rattle.std.proofs.lemmas.Bool.{cases_lt, false≢true, and_parts, and_from, eqb-true}
use Rattle.std.proofs.lemmas.List.{get_or_past, get_or-take, length-take}
use Rattle.std.proofs.lemmas.Option.{slice_get_within}
use Rattle.cr_syntax.specs.declared.node.Kind.{Kind}
use Rattle.cr_syntax.specs.declared.node.Kind.TheVariants as kind
use Rattle.cr_syntax.specs.declared.node.Node.{Node}
use Rattle.cr_syntax.specs.declared.unit.Unit as source
use Rattle.cr_scopes_events.specs.Declarators.{declarator_of}
use Rattle.cr_scopes.specs.declared.names.Names.{Names}
use Rattle.cr_scopes.specs.Resolved.{is_number, past_of}
use Rattle.cr_scopes.specs.States.{name_in}
use Rattle.cr_scopes.specs.Units.{unit_events}
use Rattle.cr_scopes_bindings.specs.declared.bindings.Bindings.{Bindings}
use Rattle.cr_scopes_bindings.specs.Last.{last_with}
use Rattle.cr_scopes_bindings.specs.Nodes.{named_by, named_if, name_at}
use Rattle.cr_scopes_bindings.specs.Bindings.{entry_if, visible_node}
use Rattle.cr_scopes_bindings.specs.Visible.{visible}
use Rattle.cr_check_types.specs.declared.shape.Shape.{Shape}
use Rattle.cr_check_types.specs.Types.{Qualified, type_at}
use Rattle.cr_check_operands.specs.Places.{found_by}
use Rattle.cr_check_expressions.specs.declared.least.Break.{Break}
use Rattle.cr_check_expressions.specs.declared.known.Declared.{Declared}
use Rattle.cr_check_expressions.specs.declared.known.Declared.TheVariants.{Object, Enumerator, Function, TypeName, Unclear}
use Rattle.cr_check_expressions.specs.Known.{Signature, a_function, meaning_by, declared_by, parameters_in, spelling_of}
use Rattle.cr_check_expressions.specs.Ruled.{is_type}
use Rattle.cr_check_declarators.specs.declared.functions.Library.{Library}
use Rattle.cr_check_declarators.specs.Functions.{library_of}
use Rattle.cr_check_declarations.specs.declared.tree.Tree.{Tree}
use Rattle.cr_check_declarations.specs.Named.{is_declarator}
use Rattle.cr_check_surroundings.specs.declared.surroundings.Surroundings.{Surroundings}
use Rattle.cr_check_surroundings.specs.Named.{used_by, used_name, visible_if}
use Rattle.cr_check_surroundings.specs.Raised.{initialises, raised_by, raised_if, raised, raised_of}
use Rattle.cr_check_surroundings.specs.Surroundings.{AreSurroundings, IsTree}
use Rattle.cr_check_unit.specs.declared.typing.Typing.{Typing}
use Rattle.cr_check_unit.specs.Typing.{cut, source_in, IsTyping}
use Rattle.cr_check_unit.specs.Breaks.{IsBroken}
use Rattle.cr_check_signatures.proofs.FunctionsLemmas.Linked.{functions}
use Rattle.cr_check_signatures.proofs.FunctionsLemmas.Chained.{library}
use Rattle.cr_check_signatures.specs.Callees.Laws
use Rattle.cr_check_signatures.specs.Callees.Laws.{IsTyped, IsOf}
use Rattle.cr_check_signatures.proofs.CalleesLemmas.Spelled.{visible_name, same_spelling}

-- ---- lists

mapped : (f : ℕ → Qualified) (rows : List ℕ) (k : ℕ) → found_by f (slice_get rows k) ≡ slice_get (map f rows) k
mapped f [] k = refl
mapped f (row ∷ rows) zero = refl
mapped f (row ∷ rows) (suc k) = mapped f rows k

as_many : (f : ℕ → Qualified) (rows : List ℕ) → length rows ≡ length (map f rows)
as_many f [] = refl
as_many f (row ∷ rows) = ap suc (as_many f rows)

all_typed : (types : List Qualified) → ((k : ℕ) (type : Qualified) → slice_get types k ≡ Some type → is_type type ≡ true) → list_all is_type types ≡ true
all_typed [] h = refl
all_typed (type ∷ types) h = and_from (is_type type) (list_all is_type types) (h 0 type refl) (all_typed types (λ k x e. h (suc k) x e))

last_has : (key : ℕ → Option ℕ) (b k i : ℕ) → last_with key b k ≡ Some i → is_number (key i) k ≡ true
last_has key zero k i e = absurd cc
last_has key (suc b) k i e = by (is_number (key b) k) refl e (λ f. last_has key b k i f)
  where
    by : (c : Bool) → is_number (key b) k ≡ c → (if c then Some b else last_with key b k) ≡ Some i → (last_with key b k ≡ Some i → is_number (key i) k ≡ true) → is_number (key i) k ≡ true
    by true q e rest = let same : b ≡ i = cc in ap (λ x. is_number (key x) k) (sym same) ∙ q
    by false q e rest = rest e

number_is : (o : Option ℕ) (k : ℕ) → is_number o k ≡ true → o ≡ Some k
number_is None k h = absurd (false≢true h)
number_is (Some j) k h = ap Some (eqb-true j k h)

-- ---- the node that is visible

-- a name that is visible is that of a token which a node declares
record IsVisible (b : Bindings) (token d : ℕ) : Type 0 where
  declared : ℕ
  sees : slice_index_or b.visible token None ≡ Some declared
  declares : slice_index_or b.declarers declared None ≡ Some d

visible_is : (b : Bindings) (token d : ℕ) → visible_node b token ≡ Some d → IsVisible b token d
visible_is b token d e = by (slice_index_or b.visible token None) refl e
  where
    by : (o : Option ℕ) → slice_index_or b.visible token None ≡ o → entry_if b.declarers o ≡ Some d → IsVisible b token d
    by None q e = absurd cc
    by (Some x) q e = record { declared = x; sees = q; declares = e }

-- what is read of it is itself, where that is no initialised declarator
initial : (k : Kind) (parts : List ℕ) (d : ℕ) → initialises k parts d ≡ true → is_declarator k ≡ false
initial kind.InitDeclarator parts d h = refl
initial k parts d h = absurd (false≢true h)

own_if : (nodes : List Node) (a d reader w : ℕ) (n m : Node) → slice_get nodes a ≡ Some m → slice_get nodes w ≡ Some n → is_declarator n.kind ≡ true
    → (if initialises m.kind m.parts d && nat_lt a reader then a else d) ≡ w → d ≡ w
own_if nodes a d reader w n m at here is e = by (initialises m.kind m.parts d && nat_lt a reader) refl e
  where
    by : (b : Bool) → (initialises m.kind m.parts d && nat_lt a reader) ≡ b → (if b then a else d) ≡ w → d ≡ w
    by false q e = e
    by true q e =
        let there : Some m ≡ Some n = sym at ∙ ap (slice_get nodes) e ∙ here in
        let same : m ≡ n = cc in
        absurd (false≢true (sym (initial m.kind m.parts d (and_parts (initialises m.kind m.parts d) (nat_lt a reader) q).0) ∙ ap (λ (x : Node). is_declarator x.kind) same ∙ is))

own_raised : (nodes : List Node) (above : List (Option ℕ)) (d reader w : ℕ) (n : Node) → slice_get nodes w ≡ Some n → is_declarator n.kind ≡ true → raised nodes above d reader ≡ w → d ≡ w
own_raised nodes above d reader w n here is e = by (slice_index_or above d None) e
  where
    of_node : (a : ℕ) (o : Option Node) → slice_get nodes a ≡ o → raised_by o a d reader ≡ w → d ≡ w
    of_node a None at e = e
    of_node a (Some m) at e = own_if nodes a d reader w n m at here is e

    by : (o : Option ℕ) → raised_if nodes o d reader ≡ w → d ≡ w
    by None e = e
    by (Some a) e = of_node a (slice_get nodes a) refl e

-- the node that reads it knows which node declares the name
record IsSeen (b : Bindings) (nodes : List Node) (above : List (Option ℕ)) (token reader w : ℕ) : Type 0 where
  own : ℕ
  is : visible_node b token ≡ Some own
  raises : raised nodes above own reader ≡ w

seen_is : (b : Bindings) (nodes : List Node) (above : List (Option ℕ)) (token reader w : ℕ) → raised_of nodes above (visible_node b token) reader ≡ Some w → IsSeen b nodes above token reader w
seen_is b nodes above token reader w e = by (visible_node b token) refl e
  where
    by : (o : Option ℕ) → visible_node b token ≡ o → raised_of nodes above o reader ≡ Some w → IsSeen b nodes above token reader w
    by None q e = absurd cc
    by (Some d) q e = record { own = d; is = q; raises = cc }

-- a declarator declares by its own name
own_name : (nodes : List Node) (w token : ℕ) (n : Node) → slice_get nodes w ≡ Some n → is_declarator n.kind ≡ true → name_at nodes w ≡ Some token → (declarator_of nodes w).name ≡ Some token
own_name nodes w token n at is e = by n.kind is (sym (ap (λ o. named_if o (declarator_of nodes w).name) at) ∙ e)
  where
    by : (k : Kind) → is_declarator k ≡ true → named_by k n.first (declarator_of nodes w).name ≡ Some token → (declarator_of nodes w).name ≡ Some token
    by kind.Enumerator is e = absurd (false≢true is)
    by k is e = e

-- ---- a function's signature

abbrev pub signature_of : (ℕ → Qualified) → ℕ → Bool → List ℕ → Signature
signature_of look row more rows = record { gives = look row; count = length rows; parameter = λ k. found_by look (slice_get rows k); more = more }

pub record IsDeclaredSo (look : ℕ → Qualified) (rows : List ℕ) (d : Declared) (s : Signature) : Type 0 where
  pub row : ℕ
  pub more : Bool
  pub is : d ≡ Function row more
  pub same : signature_of look row more rows ≡ s

pub declared_so : (look : ℕ → Qualified) (rows : List ℕ) (d : Declared) (s : Signature) → meaning_by look rows d ≡ a_function s → IsDeclaredSo look rows d s
declared_so look rows (Function row more) s e = record { row = row; more = more; is = refl; same = cc }
declared_so look rows (Object row register) s e = absurd cc
declared_so look rows (Enumerator value) s e = absurd cc
declared_so look rows TypeName s e = absurd cc
declared_so look rows Unclear s e = absurd cc

module _ (file : List ℕ) (unit : source.Unit) (names : Names) (s : Surroundings) (u : Tree) (texts : List (List ℕ)) (shapes : List Shape) (t : Typing)
    (known : AreSurroundings file unit names s) (tree : IsTree file unit s u) (h : IsTyping u texts shapes t) (holds : (b : Break) → IsBroken u texts shapes t b → ⊥)
    (i : ℕ) (n : Node) (at : slice_get unit.nodes i ≡ Some n) (call : n.kind ≡ kind.Call) where
  abbrev look : ℕ → Qualified
  look = type_at shapes

  sees : slice_index_or u.visible.now i None ≡ raised_of unit.nodes s.above (visible_node s.bindings n.first) i
  sees =
      ap (λ column. slice_index_or column i None) tree.visible ∙ known.visible.each i (slice_get_within unit.nodes i n at)
      ∙ ap (λ o. raised_of unit.nodes s.above (visible_if s.bindings (used_name o)) i) at ∙ ap (λ k. raised_of unit.nodes s.above (visible_if s.bindings (used_by k n.first)) i) call

  -- the token that is visible is spelled like the call
  alike : (declared : ℕ) → slice_index_or s.bindings.visible n.first None ≡ Some declared → spelling_of file unit.tokens.list.items declared ≡ spelling_of file unit.tokens.list.items n.first
  alike declared e = elim (cases_lt n.first (length unit.tokens.list.items)) [
    | inl few ↦
        (let name = name_in s.bindings.spellings in
        let events = unit_events unit in
        let seen : visible name (past_of events (length events)) n.first ≡ Some declared = sym (known.bindings.visible.each n.first few) ∙ e in
        let same = visible_name name (past_of events (length events)) n.first declared seen in
        same_spelling file unit.tokens.list.items declared n.first (sym (known.bindings.spellings.each declared) ∙ same ∙ known.bindings.spellings.each n.first))
    | inr past ↦
        (let count = known.bindings.visible.count in
        let never : None ≡ Some declared = sym (get_or_past s.bindings.visible n.first None (omega (arith, past, count))) ∙ e in absurd cc)
  ]

  named : (declared w : ℕ) → slice_index_or s.bindings.declarers declared None ≡ Some w → name_at unit.nodes w ≡ Some declared
  named declared w e = elim (cases_lt declared (length unit.tokens.list.items)) [
    | inl few ↦ number_is (name_at unit.nodes w) declared (last_has (name_at unit.nodes) (length unit.nodes) declared w (sym (known.bindings.declarers.each declared few) ∙ e))
    | inr past ↦
        (let count = known.bindings.declarers.count in
        let never : None ≡ Some w = sym (get_or_past s.bindings.declarers declared None (omega (arith, past, count))) ∙ e in absurd cc)
  ]

  module _ (l : Library) (spelled : library_of (spelling_of file unit.tokens.list.items n.first) ≡ Some l) where
    -- a declaration before the call
    at_node : (w : ℕ) → w < i → raised_of unit.nodes s.above (visible_node s.bindings n.first) i ≡ Some w → (row : ℕ) (more : Bool) → slice_index_or t.declared w Unclear ≡ Function row more
        → IsTyped (signature_of look row more (slice_index_or t.parameters w [])) → IsOf l (signature_of look row more (slice_index_or t.parameters w []))
    at_node w less e row more declares typed =
        let rows = slice_index_or t.parameters w [] in
        let function = functions u texts shapes t h holds w row more declares in
        let here : slice_get unit.nodes w ≡ Some function.node = ap (λ ns. slice_get ns w) (sym tree.nodes) ∙ function.at in
        let seen = seen_is s.bindings unit.nodes s.above n.first i w e in
        let own = own_raised unit.nodes s.above seen.own i w function.node here function.is seen.raises in
        let is = visible_is s.bindings n.first seen.own seen.is in
        let name = own_name unit.nodes w is.declared function.node here function.is (named is.declared w (is.declares ∙ ap Some own)) in
        let spelling : spelling_of u.file.now u.tokens.now is.declared ≡ spelling_of file unit.tokens.list.items n.first = (λ j. spelling_of (tree.file j) (tree.tokens j) is.declared) ∙ alike is.declared is.sees in
        record {
          parameters = map look rows;
          count = as_many look rows;
          each = λ k. mapped look rows k;
          is = library u texts shapes t h holds w row more declares typed.gives (all_typed (map look rows) (λ k type f. typed.each k type (mapped look rows k ∙ f))) is.declared
              (ap (λ ns. (declarator_of ns w).name) tree.nodes ∙ name) l (ap library_of spelling ∙ spelled);
        }

    of_visible : (o : Option ℕ) → raised_of unit.nodes s.above (visible_node s.bindings n.first) i ≡ o → (signature : Signature)
        → meaning_by look (parameters_in (take i t.parameters) o) (declared_by (take i t.declared) o) ≡ a_function signature → IsTyped signature → IsOf l signature
    of_visible None e signature f typed = absurd cc
    of_visible (Some w) e signature f typed = elim (cases_lt w i) [
      | inl less ↦
          (let so = declared_so look (slice_index_or t.parameters w []) (slice_index_or t.declared w Unclear) signature
          (sym (λ j. meaning_by look (get_or-take i t.parameters w [] less j) (get_or-take i t.declared w Unclear less j)) ∙ f) in
          subst (IsOf l) so.same (at_node w less e so.row so.more so.is (subst IsTyped (sym so.same) typed)))
      | inr past ↦
          (let few = length-take i t.declared in
          let none : slice_index_or (take i t.declared) w Unclear ≡ Unclear = get_or_past (take i t.declared) w Unclear (omega (arith, few, past)) in
          absurd (never (slice_index_or (take i t.parameters) w []) signature (sym (ap (meaning_by look (slice_index_or (take i t.parameters) w [])) none) ∙ f)))
    ]
      where
        never : (rows : List ℕ) (signature : Signature) → meaning_by look rows Unclear ≡ a_function signature → ⊥
        never rows signature f = cc

    typed_of : (signature : Signature) → (source_in look u texts (cut i t)).stands i ≡ a_function signature → IsTyped signature → IsOf l signature
    typed_of signature f typed =
        of_visible (slice_index_or u.visible.now i None) (sym sees) signature f typed

pub calls_typed : Laws.LibraryCallsAreTyped
calls_typed file unit names s u texts shapes t known tree h holds i n at call signature stands typed l spelled = typed_of file unit names s u texts shapes t known tree h holds i n at call l spelled signature stands typed
