-- Nodes see objects of static duration, and those of the blocks and calls that they stand in (C11 6.2.1p4, 6.2.4p3, p6).
use Rattle.std.proofs.Common.{◌≡◌, ℕ, zero, suc, ◌+◌, ◌⊎◌, inl, inr, Bool, true, false, ◌&&◌, ◌||◌, not, List, [], ◌∷◌, Option, None, Some, drop, length, map, slice_get, slice_index_or, refl, sym, subst, ap, ◌∙◌, arith, if◌then◌else◌}
use Rattle.std.specs.List.{list_any, filter}
use Rattle.std.proofs.lemmas.Bool.{and_parts, false≢true, or_left, or_right, eq-eqb}
use Rattle.std.proofs.lemmas.Option.{slice_get_within}
use Rattle.cr_syntax.specs.declared.node.Kind.{Kind}
use Rattle.cr_syntax.specs.declared.node.Kind.TheVariants as kind
use Rattle.cr_syntax.specs.declared.node.Node.{Node}
use Rattle.cr_syntax.specs.Tables.{rule_of, side_of}
use Rattle.cr_syntax.specs.Kept.{row_in}
use Rattle.cr_scopes_visibility.specs.Sight.Scopes.{is_blocklike}
use Rattle.cr_typed.specs.declared.typed.Typed.{Typed}
use Rattle.cr_meaning.specs.declared.run.Limits.{Limits}
use Rattle.cr_meaning_soundness.specs.Sorts.{IsAmong}
use Rattle.cr_meaning_soundness.specs.Scopes.{nodes_of, entered_by, is_open, AreScoped, IsScopedWhole}
use Rattle.cr_meaning_operations.specs.Operations.{kind_if, kind_at, parts_if, parts_at, part_at, name_of, entity_of, is_case, is_declaration, is_automatic, declarators_of, parameter_of, clause_objects, nodes_from, is_lasting, is_static_initialiser, op_of, program_of}
use Rattle.cr_check_expressions.specs.Forms.{form_of}
use Rattle.cr_meaning_typing.specs.Typed.Typing.{is_expression}
use Rattle.cr_meaning_declarations.specs.Units.Owned.{declared_by, is_declared, declares, owns, AreDeclaredOnce}
use Rattle.cr_meaning_declarations.proofs.UnitsLemmas.Ops.{IsOp, of_node, of_whole, is_op}
use Rattle.cr_meaning_declarations.proofs.UnitsLemmas.Rows.{clear_side, clear_laid, clear_at}
use Rattle.cr_meaning_declarations.proofs.UnitsLemmas.Handing.{is_declarator as has_declarator, without_declarations, no_declarations, laid_at, parts_below, owning}
use Rattle.cr_meaning_declarations.proofs.UnitsLemmas.Blocks.{item_objects}
use Rattle.cr_meaning_declarations.proofs.NamesLemmas.Parents.{IsPartOf, above_some}
use Rattle.cr_meaning_declarations.specs.Declared.Files.{IsUnitOfFile}
use Rattle.cr_meaning_declarations.proofs.DeclaredLemmas.Once as declared
use Rattle.cr_meaning_declarations.proofs.DeclaredLemmas.Files.{has_unit}
use Rattle.cr_meaning_declarations.proofs.LastingLemmas.Begun.{one_of}
use Rattle.cr_meaning_typing.specs.Whole.Statements.{is_declarator}
use Rattle.cr_meaning_typing.specs.Whole.Whole.{AreSeen}
use Rattle.cr_meaning_typing.proofs.WholeLemmas.Whole.{is_initialiser}
use Rattle.cr_meaning_files.specs.Reached.{is_item, is_declaring, is_list, is_listing, is_definition, is_block, is_going, goes_on, lives_below, lives, is_reached}
use Rattle.cr_meaning_files.specs.Seen.{entered_for, finds, knows, sees}
use Rattle.cr_meaning_references.proofs.TreesLemmas.Grammar.{part_in, Stands}
use Rattle.cr_meaning_files.proofs.Tables.{declaring_apart}
use Rattle.cr_meaning_references.proofs.TreesLemmas.Tree.{has_part, as_part}
use Rattle.cr_meaning_files.proofs.Living.{above, lives_is, reached_lives, there}
use Rattle.cr_meaning_files.proofs.Seen.{of_reached, as_seen, lasting_seen, from_body, at_start, finds_entered, finds_outside}
use Rattle.cr_meaning_files.proofs.Loops.{whole}
use Rattle.cr_meaning_files.proofs.Standing.{other_one}
use Rattle.cr_meaning_files.proofs.Mains.{initialisers_run, names_here, main_defined, body_at, body_kind, body_runs}
use Rattle.cr_meaning_files.proofs.Scoped.{IsScoped}

-- ---- lists

-- a node that passes a test is one of those that do
pub among_passed : (test : ℕ → Kind → Bool) (from : ℕ) (nodes : List Node) (m : ℕ) (n : Node) → slice_get nodes m ≡ Some n → test (from + m) n.kind ≡ true → IsAmong (from + m) (nodes_from test from nodes)
among_passed test from [] m n e h = absurd (cc e)
among_passed test from (x ∷ nodes) zero n e h =
    let same : x ≡ n = cc e in
    let here : from + 0 ≡ from = omega arith in
    let passes : test from x.kind ≡ true = ap (λ (y : Node). test from y.kind) same ∙ ap (λ k. test k n.kind) (sym here) ∙ h in
    subst (λ b. IsAmong (from + 0) (if b then from ∷ nodes_from test (suc from) nodes else nodes_from test (suc from) nodes)) (sym passes) (inl (sym here))
among_passed test from (x ∷ nodes) (suc m) n e h =
    let next : suc from + m ≡ from + suc m = omega arith in
    let rest = among_passed test (suc from) nodes m n e (ap (λ k. test k n.kind) next ∙ h) in
    by (test from x.kind) (subst (λ k. IsAmong k (nodes_from test (suc from) nodes)) next rest)
  where
    by : (b : Bool) → IsAmong (from + suc m) (nodes_from test (suc from) nodes) → IsAmong (from + suc m) (if b then from ∷ nodes_from test (suc from) nodes else nodes_from test (suc from) nodes)
    by true r = inr r
    by false r = r

pub any_filtered : (test other : ℕ → Bool) (items : List ℕ) (k item : ℕ) → slice_get items k ≡ Some item → test item ≡ true → other item ≡ true → list_any other (filter test items) ≡ true
any_filtered test other [] k item e h g = absurd (cc e)
any_filtered test other (x ∷ items) k item e h g = by (test x) refl k e (λ m f. any_filtered test other items m item f h g)
  where
    by : (b : Bool) → test x ≡ b → (k : ℕ) → slice_get (x ∷ items) k ≡ Some item → ((m : ℕ) → slice_get items m ≡ Some item → list_any other (filter test items) ≡ true)
        → list_any other (if b then x ∷ filter test items else filter test items) ≡ true
    by true q zero f rest = let same : x ≡ item = cc f in or_left (other x) (list_any other (filter test items)) (ap other same ∙ g)
    by true q (suc m) f rest = or_right (other x) (list_any other (filter test items)) (rest m f)
    by false q zero f rest = let same : x ≡ item = cc f in absurd (false≢true (sym q ∙ ap test same ∙ h))
    by false q (suc m) f rest = rest m f

pub drop_first : (ps : List ℕ) (m a : ℕ) → slice_get ps (suc m) ≡ Some a → slice_get (drop 1 ps) m ≡ Some a
drop_first [] m a e = absurd (cc e)
drop_first (p ∷ ps) m a e = e

pub same_nodes : (t : Typed) (ps : List ℕ) → nodes_of (map (parameter_of t) ps) ≡ ps
same_nodes t [] = refl
same_nodes t (p ∷ ps) = ap (λ xs. p ∷ xs) (same_nodes t ps)

-- a definition enters its parameters for its body
pub parameters_entered : (t : Typed) (d rest : ℕ) → kind_at t d ≡ kind.FunctionDefinition → kind_at t rest ≡ kind.Compound → entered_for t d (kind_at t d) rest ≡ slice_index_or t.parameters d []
parameters_entered t d rest defines block =
    ap (λ k. entered_for t d k rest) defines ∙ ap (λ k. if is_block k then slice_index_or t.parameters d [] else []) block

-- an object of static duration is one of the program's own
lasting_among : (t : Typed) (d : ℕ) → is_lasting t d (kind_at t d) ≡ true → IsAmong d (nodes_from (is_lasting t) 0 t.nodes)
lasting_among t d h = by (slice_get t.nodes d) refl
  where
    by : (o : Option Node) → slice_get t.nodes d ≡ o → IsAmong d (nodes_from (is_lasting t) 0 t.nodes)
    by None at = absurd (false≢true (sym (ap (λ o. is_lasting t d (kind_if o)) at) ∙ h))
    by (Some n) at =
        let same : 0 + d ≡ d = omega arith in
        subst (λ k. IsAmong k (nodes_from (is_lasting t) 0 t.nodes)) same
        (among_passed (is_lasting t) 0 t.nodes d n at (ap (λ k. is_lasting t k n.kind) same ∙ sym (ap (λ o. is_lasting t d (kind_if o)) at) ∙ h))

-- ---- which nodes have declarations

abbrev is_loop : Kind → Bool
is_loop kind.For = true
is_loop k = false

-- blocks and the first clauses of a `for`
declarations_stand : (k : Kind) → (is_block k || (is_loop k || clear_side is_declaration without_declarations no_declarations (side_of k))) ≡ true
unfolding rule_of
declarations_stand kind.Compound = refl
declarations_stand k = refl

pub specifiers_declare_nothing : (k : Kind) → Stands (part_in (side_of kind.Declaration) 0) k → is_declaring k ≡ false
unfolding rule_of
specifiers_declare_nothing kind.InitDeclarator h = absurd (false≢true h)
specifiers_declare_nothing kind.NameDeclarator h = absurd (false≢true h)
specifiers_declare_nothing kind.PointerDeclarator h = absurd (false≢true h)
specifiers_declare_nothing kind.GroupDeclarator h = absurd (false≢true h)
specifiers_declare_nothing kind.ArrayDeclarator h = absurd (false≢true h)
specifiers_declare_nothing kind.FunctionDeclarator h = absurd (false≢true h)
specifiers_declare_nothing k h = refl

only_block : (k : Kind) → is_block k ≡ true → k ≡ kind.Compound
only_block kind.Compound h = refl
only_block k h = absurd (false≢true h)

only_loop : (k : Kind) → is_loop k ≡ true → k ≡ kind.For
only_loop kind.For h = refl
only_loop k h = absurd (false≢true h)

pub only_declaration : (k : Kind) → is_declaration k ≡ true → k ≡ kind.Declaration
only_declaration kind.Declaration h = refl
only_declaration k h = absurd (false≢true h)

-- what goes on with a declarator is the declaration of an automatic object
from_declaring : (t : Typed) (part : ℕ) (k own : Kind) → is_declaring own ≡ true → goes_on t part k own ≡ true → (is_declaration k ≡ true) × (is_automatic t part ≡ true)
from_declaring t part k own d h =
    let apart = declaring_apart own d in
    elim (one_of (is_going k && (is_expression (form_of own) || (is_item k && is_item own))) _ h) [
      | inl x ↦
          elim (one_of (is_expression (form_of own)) (is_item k && is_item own) (and_parts (is_going k) _ x).1) [
            | inl e ↦ absurd (false≢true (sym apart.0.0 ∙ e))
            | inr both ↦ absurd (false≢true (sym apart.0.1 ∙ (and_parts (is_item k) (is_item own) both).1))
          ]
      | inr y ↦
          elim (one_of (is_case k && is_item own) _ y) [
            | inl x ↦ absurd (false≢true (sym apart.0.1 ∙ (and_parts (is_case k) (is_item own) x).1))
            | inr z ↦
                elim (one_of (is_listing k && (is_expression (form_of own) || is_list own)) _ z) [
                  | inl x ↦
                      elim (one_of (is_expression (form_of own)) (is_list own) (and_parts (is_listing k) _ x).1) [
                        | inl e ↦ absurd (false≢true (sym apart.0.0 ∙ e))
                        | inr e ↦ absurd (false≢true (sym apart.1.0 ∙ e))
                      ]
                  | inr x ↦ (let both = and_parts (is_declaration k) (is_declaring own && is_automatic t part) x in (both.0, (and_parts (is_declaring own) (is_automatic t part) both.1).1))
                ]
          ]
    ]

module _ (file : List ℕ) (t : Typed) (it : IsUnitOfFile file t) where
  open has_unit file t it use {unit as u}

  once : AreDeclaredOnce t
  once = declared.once file t it

  -- ---- declarators

  -- a declaration stands in a block, or is the first clause of a `for`
  no_declaration : (q k p : ℕ) (n : Node) → slice_get t.nodes q ≡ Some n → clear_side is_declaration without_declarations no_declarations (side_of n.kind) ≡ true → slice_get n.parts k ≡ Some p
      → is_declaration (kind_at t p) ≡ false
  no_declaration q k p n at clear e =
      let row = clear_laid is_declaration without_declarations no_declarations u.tokens (side_of n.kind) (row_in t.nodes n.parts) n.first (n.last + 1) clear (laid_at t u q n at) in
      let one = clear_at is_declaration without_declarations no_declarations t.nodes u.below n.parts (parts_below t u q n at) row k p e in
      ap (λ o. is_declaration (kind_if o)) one.1.0 ∙ one.1.1

  pub holds_declaration : (q p : ℕ) → IsPartOf t u p q → kind_at t p ≡ kind.Declaration → is_blocklike (kind_at t q) ≡ true
  holds_declaration q p h is = by (one_of (is_block (kind_at t q)) _ (declarations_stand (kind_at t q)))
    where
      by : (is_block (kind_at t q) ≡ true) ⊎ ((is_loop (kind_at t q) || clear_side is_declaration without_declarations no_declarations (side_of (kind_at t q))) ≡ true) → is_blocklike (kind_at t q) ≡ true
      by (inl b) = ap is_blocklike (only_block (kind_at t q) b)
      by (inr x) = elim (one_of (is_loop (kind_at t q)) _ x) [
        | inl l ↦ ap is_blocklike (only_loop (kind_at t q) l)
        | inr clear ↦ absurd (false≢true (sym (no_declaration q h.place p h.parent h.at (subst (λ k. clear_side is_declaration without_declarations no_declarations (side_of k) ≡ true) (ap kind_if h.at) clear) h.is) ∙ ap is_declaration is))
      ]

  -- the declarators of automatic objects in a declaration are among those that the node above enters
  pub entered : (q p d : ℕ) → IsPartOf t u p q → kind_at t p ≡ kind.Declaration → owns t p d ≡ true → IsAmong d (entered_for t q (kind_at t q) p)
  entered q p d h is o = by (one_of (is_block (kind_at t q)) _ (declarations_stand (kind_at t q)))
    where
      here : slice_get (parts_at t q) h.place ≡ Some p
      here = ap (λ x. slice_get (parts_if x) h.place) h.at ∙ h.is

      own : (n : Node) × (slice_get t.nodes p ≡ Some n)
      own = let part = has_part t u q h.place p here in (part.own, part.own_at)

      free : (k : Kind) → k ≡ kind.Declaration → has_declarator k ≡ false
      free k e = ap has_declarator e

      by : (is_block (kind_at t q) ≡ true) ⊎ ((is_loop (kind_at t q) || clear_side is_declaration without_declarations no_declarations (side_of (kind_at t q))) ≡ true) → IsAmong d (entered_for t q (kind_at t q) p)
      by (inl b) =
          subst (λ k. IsAmong d (entered_for t q k p)) (sym (only_block (kind_at t q) b))
          (item_objects t once d (parts_at t q) h.place p own.0 here own.1 (free own.0.kind (sym (ap kind_if own.1) ∙ is)) o)
      by (inr x) = elim (one_of (is_loop (kind_at t q)) _ x) [
        | inl l ↦
            (let for = only_loop (kind_at t q) l in
            let first = (whole t u q h.parent h.at (sym (ap kind_if h.at) ∙ for)).declares h.place p here (ap is_declaration is) in
            subst (λ k. IsAmong d (entered_for t q k p)) (sym for)
            (subst (λ c. IsAmong d (clause_objects t c)) (sym first) (item_objects t once d (p ∷ []) 0 p own.0 refl own.1 (free own.0.kind (sym (ap kind_if own.1) ∙ is)) o)))
        | inr clear ↦ absurd (false≢true (sym (no_declaration q h.place p h.parent h.at (subst (λ k. clear_side is_declaration without_declarations no_declarations (side_of k) ≡ true) (ap kind_if h.at) clear) h.is) ∙ ap is_declaration is))
      ]

  -- a node that lives stands in another one, or is the initialiser of a static object
  stands_in : (i : ℕ) → lives t i ≡ true → is_static_initialiser t i (kind_at t i) ≡ false → is_block (kind_at t i) ≡ false
      → (p : ℕ) × (IsPartOf t u i p × ((goes_on t i (kind_at t p) (kind_at t i) ≡ true) × (lives t p ≡ true)))
  stands_in i live apart plain = by (above t u i) refl (other_one (is_static_initialiser t i (kind_at t i)) _ (sym (lives_is t u i) ∙ live) apart)
    where
      by : (o : Option ℕ) → above t u i ≡ o → lives_below t (lives t) i o ≡ true → (p : ℕ) × (IsPartOf t u i p × ((goes_on t i (kind_at t p) (kind_at t i) ≡ true) × (lives t p ≡ true)))
      by None e h = absurd (false≢true h)
      by (Some p) e h = elim (one_of (is_definition (kind_at t p) && is_block (kind_at t i)) _ h) [
        | inl x ↦ absurd (false≢true (sym plain ∙ (and_parts (is_definition (kind_at t p)) (is_block (kind_at t i)) x).1))
        | inr x ↦ (p, (above_some t u (length t.nodes) i p e, and_parts (goes_on t i (kind_at t p) (kind_at t i)) (lives t p) x))
      ]

  -- so a declarator of an automatic object sees what it declares
  pub declared_seen : (i d : ℕ) → is_reached t i ≡ true → is_declaring (kind_at t i) ≡ true → is_static_initialiser t i (kind_at t i) ≡ false → declares t d i ≡ true → sees t i d ≡ true
  declared_seen i d r declaring apart own =
      let plain = declaring_apart (kind_at t i) declaring in
      let x = stands_in i (reached_lives t u i r) apart plain.1.1 in
      let p = x.0 in
      let both = from_declaring t i (kind_at t p) (kind_at t i) declaring x.1.1.0 in
      let is : kind_at t p ≡ kind.Declaration = only_declaration (kind_at t p) both.0 in
      let still : is_static_initialiser t p (kind_at t p) ≡ false = ap (is_static_initialiser t p) is in
      let y = stands_in p x.1.1.1 still (ap is_block is) in
      let found = finds_entered t u y.0 p d y.1.0 still (entered y.0 p d y.1.0 is (owned p x.1.0 is both.1)) in
      as_seen t i d (or_right (is_lasting t d (kind_at t d)) (finds t i d) (finds_outside t u p i d x.1.0 apart (ap is_definition is) found))
    where
      owned : (p : ℕ) → IsPartOf t u i p → kind_at t p ≡ kind.Declaration → is_automatic t i ≡ true → owns t p d ≡ true
      owned p h is automatic = owning t p d kind.Declaration is (of_place h.place (ap (λ x. slice_get (parts_if x) h.place) h.at ∙ h.is))
        where
          of_place : (k : ℕ) → slice_get (parts_at t p) k ≡ Some i → list_any (declares t d) (declarators_of t p) ≡ true
          of_place zero e =
              let first = subst (λ c. Stands (part_in (side_of c) 0) (kind_at t i)) is (has_part t u p 0 i e).stands in
              absurd (false≢true (sym (specifiers_declare_nothing (kind_at t i) first) ∙ declaring))
          of_place (suc m) e = any_filtered (is_automatic t) (declares t d) (drop 1 (parts_at t p)) m i (drop_first (parts_at t p) m i e) automatic own

  -- that without an initialiser is told by its kind
  own_name : (i : ℕ) (k : Kind) → kind_at t i ≡ k → is_declarator k ≡ true → is_declared (declared_by t i k) (name_of t i) ≡ true
  own_name i kind.NameDeclarator e h = eq-eqb i (name_of t i) (sym (names_here t i e))
  own_name i kind.PointerDeclarator e h = eq-eqb (name_of t i) (name_of t i) refl
  own_name i kind.GroupDeclarator e h = eq-eqb (name_of t i) (name_of t i) refl
  own_name i kind.ArrayDeclarator e h = eq-eqb (name_of t i) (name_of t i) refl
  own_name i k e h = absurd (false≢true h)

  declarator_declares : (k : Kind) → is_declarator k ≡ true → is_declaring k ≡ true
  declarator_declares kind.NameDeclarator h = refl
  declarator_declares kind.PointerDeclarator h = refl
  declarator_declares kind.GroupDeclarator h = refl
  declarator_declares kind.ArrayDeclarator h = refl
  declarator_declares k h = absurd (false≢true h)

  no_initialiser : (i : ℕ) (k : Kind) → is_declarator k ≡ true → is_static_initialiser t i k ≡ false
  no_initialiser i kind.InitDeclarator h = absurd (false≢true h)
  no_initialiser i k h = refl

  pub declarators : (i : ℕ) → is_reached t i ≡ true → is_declarator (kind_at t i) ≡ true → sees t i (name_of t i) ≡ true
  declarators i r h = declared_seen i (name_of t i) r (declarator_declares (kind_at t i) h) (no_initialiser i (kind_at t i) h) (own_name i (kind_at t i) refl h)

  -- an initialised one sees its entity: where that is static it is seen everywhere
  pub initialised : (i : ℕ) → is_reached t i ≡ true → kind_at t i ≡ kind.InitDeclarator → (is_static_initialiser t i (kind_at t i) ≡ true → is_lasting t (entity_of t (name_of t i)) (kind_at t (entity_of t (name_of t i))) ≡ true)
      → sees t i (entity_of t (name_of t i)) ≡ true
  initialised i r is lasting = by (is_static_initialiser t i (kind_at t i)) refl
    where
      by : (b : Bool) → is_static_initialiser t i (kind_at t i) ≡ b → sees t i (entity_of t (name_of t i)) ≡ true
      by true e = lasting_seen t i (entity_of t (name_of t i)) (lasting e)
      by false e =
          declared_seen i (entity_of t (name_of t i)) r (ap is_declaring is) e
          (ap (λ k. is_declared (declared_by t i k) (entity_of t (name_of t i))) is ∙ eq-eqb (entity_of t (name_of t i)) (entity_of t (name_of t i)) refl)

  -- a string literal is an object of its own
  pub literals : (i : ℕ) → kind_at t i ≡ kind.Text → sees t i i ≡ true
  literals i is = lasting_seen t i i (ap (is_lasting t i) is)

  -- ---- scopes

  module _ (limits : Limits) (nodes : (i : ℕ) → is_reached t i ≡ true → IsScoped file t it i (op_of t i)) where
    scoped : AreScoped (program_of t limits) (sees t)
    scoped node op k part d at is s = by (is_op t node op at)
      where
        unreached : is_reached t node ≡ false → sees t node d ≡ true
        unreached r = or_left (not (is_reached t node)) (knows t node d) (ap not r)

        of_test : (b : Bool) → is_reached t node ≡ b → op ≡ op_of t node → (sees t node d ≡ true) ⊎ ((is_open op.work op.parts (suc k) ≡ true) × IsAmong d (entered_by op.work))
        of_test true r same = (subst (IsScoped file t it node) (sym same) (nodes node r)) k part d is s
        of_test false r same = inl (unreached r)

        behind : (b : Bool) → is_reached t node ≡ b → node ≡ length t.nodes → sees t node d ≡ true
        behind true r e = let n = there t u node (reached_lives t u node r) in let within = slice_get_within t.nodes node n.0 n.1 in absurd (omega (arith, within, e))
        behind false r e = unreached r

        by : IsOp t node op → (sees t node d ≡ true) ⊎ ((is_open op.work op.parts (suc k) ≡ true) × IsAmong d (entered_by op.work))
        by (of_node n found same) = of_test (is_reached t node) refl same
        by (of_whole e same) = inl (behind (is_reached t node) refl e)

    abbrev rest : ℕ
    rest = part_at t t.main 2

    own_objects : IsScopedWhole (sees t) (nodes_from (is_static_initialiser t) 0 t.nodes) (nodes_from (is_lasting t) 0 t.nodes) (map (parameter_of t) (slice_index_or t.parameters t.main [])) rest
    own_objects = record {
      part_sees = λ k part d e s. lasting_among t d (at_start t u part d (is_initialiser t k part e) (of_reached t part d (initialisers_run file t it k part e) s));
      rest_sees = λ d s.
          elim (from_body t u t.main rest d (as_part t u t.main 2 rest (body_at file t it t.main (main_defined file t it))) (ap is_definition (main_defined file t it)) (of_reached t rest d (body_runs file t it) s)) [
            | inl x ↦ inl (lasting_among t d x)
            | inr x ↦ inr (subst (IsAmong d) (parameters_entered t t.main rest (main_defined file t it) (body_kind file t it) ∙ sym (same_nodes t (slice_index_or t.parameters t.main []))) x)
          ];
    }

    pub seen : AreSeen t limits (sees t)
    seen = record { scoped = scoped; whole = own_objects }
