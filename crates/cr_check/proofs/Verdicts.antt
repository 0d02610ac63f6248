-- A unit that is checked twice has one verdict: one that is sound has no fault.
use Rattle.std.proofs.Common.{◌≡◌, ℕ, List, [], None, length, slice_index_or, inl, inr, refl, sym, ap, subst, ◌∙◌}
use Rattle.cr_tokens.specs.declared.token.Token.{Token}
use Rattle.cr_syntax.specs.declared.node.Node.{Node}
use Rattle.cr_syntax.specs.declared.unit.Unit as source
use Rattle.cr_scopes.specs.declared.names.Names.{Names}
use Rattle.cr_check_expressions.specs.declared.least.Break.{Break}
use Rattle.cr_check_expressions.specs.Known.{spelling_of}
use Rattle.cr_scopes_bindings.proofs.One.{one_of}
use Rattle.cr_check_literals.specs.Texts.{text_at, AreTexts}
use Rattle.cr_check_declarations.specs.declared.tree.Tree.{Tree}
use Rattle.cr_check_declarations.specs.Faults.{Has}
use Rattle.cr_check_definitions.specs.Typedefs.{IsTwice}
use Rattle.cr_check_definitions.specs.Defined.{is_defined}
use Rattle.cr_check_surroundings.specs.declared.surroundings.Surroundings.{Surroundings}
use Rattle.cr_check_surroundings.specs.Surroundings.{IsTree}
use Rattle.cr_check_surroundings.proofs.One.{one_surroundings}
use Rattle.cr_check_unit.specs.Typing.{IsTyping}
use Rattle.cr_check_unit.specs.Statements.{AreMarked, IsUnitBroken}
use Rattle.cr_check_unit.proofs.OneTyping.{one_typing}
use Rattle.cr_check_unit.proofs.OneBreak.{same_unit_breaks}
use Rattle.cr_check.specs.declared.checked.Checked.{Checked}
use Rattle.cr_check.specs.declared.fault.TypeFault.{TypeFault}
use Rattle.cr_check.specs.declared.fault.TypeFault.TheVariants.{NoMemory, Twice, Broken}
use Rattle.cr_check.specs.Columns.{IsBrokenIn, IsChecked, known_in}
use Rattle.cr_check.specs.Checked.{IsFaultBy, IsFaultOf, IsFirstBroken, IsFirstFault, IsSound, IsSoundOf}
use Rattle.cr_check.specs.Laws.{AreSameLists}
use Rattle.cr_check.proofs.SameTrees.{SameTree, typing_moved, marked_moved, breaks_moved}
use Rattle.cr_check.proofs.Units.{checked_carried, sound_carried}

-- two checks that know the same of declarations and break the same
pub record AgreeOn (file : List ℕ) (unit : source.Unit) (j k : Checked) (t s : Tree) : Type 0 where
  pub known : known_in file unit j ≡ known_in file unit k
  pub breaks : (b : Break) → IsBrokenIn k s b → IsBrokenIn j t b

module _ (file : List ℕ) (unit : source.Unit) (names : Names) (j k : Checked) (t s : Tree) (same : AgreeOn file unit j k t s) (sound : IsSound file unit names j t) where
  not_broken : (b : Break) → IsFirstBroken file unit names k s b → ⊥
  not_broken b (inl first) = sound.constraints b (same.breaks b first.is)
  not_broken b (inr lacks) =
      cc (sym lacks.defined ∙ ap (λ known. is_defined known unit.items names) (sym same.known) ∙ sound.defined)

  by_agreement : (fault : TypeFault) → IsFaultBy file unit names k s fault → (fault ≡ NoMemory → ⊥) → ⊥
  by_agreement NoMemory h other = other refl
  by_agreement (Twice token) h other = sound.typedefs token (subst (λ known. IsTwice known names token) (sym same.known) h.0)
  by_agreement (Broken row token) h other = not_broken (record { token = token; row = row }) h.broken

-- ---- two checks of a unit

one_texts : (file : List ℕ) (tokens : List Token) (nodes : List Node) (xs ys : List (List ℕ)) → AreTexts file tokens nodes xs
    → AreTexts file tokens nodes ys → xs ≡ ys
one_texts file tokens nodes xs ys h g =
    one_of (text_at file tokens nodes) [] (length nodes) xs ys (record { count = h.count; each = h.each }) (record { count = g.count; each = g.each })

one_tree : (file : List ℕ) (unit : source.Unit) (a b : Surroundings) (t s : Tree) → a ≡ b → IsTree file unit a t → IsTree file unit b s → SameTree t s
one_tree file unit a b t s same h g = record {
  file = h.file ∙ sym g.file;
  tokens = h.tokens ∙ sym g.tokens;
  nodes = h.nodes ∙ sym g.nodes;
  names = h.names ∙ ap (λ (x : Surroundings). x.bindings.spellings) same ∙ sym g.names;
  above = h.above ∙ ap (λ (x : Surroundings). x.above) same ∙ sym g.above;
  previous = h.previous ∙ ap (λ (x : Surroundings). x.previous) same ∙ sym g.previous;
  around = h.around ∙ ap (λ (x : Surroundings). x.around) same ∙ sym g.around;
  visible = h.visible ∙ ap (λ (x : Surroundings). x.visible) same ∙ sym g.visible;
  earlier = h.earlier ∙ ap (λ (x : Surroundings). x.earlier) same ∙ sym g.earlier;
  same = h.same ∙ ap (λ (x : Surroundings). x.same) same ∙ sym g.same;
  tags = h.tags ∙ ap (λ (x : Surroundings). x.tags) same ∙ sym g.tags;
}

-- the second check, carried to the tree and the texts of the first one
pub record IsCarried (j k : Checked) (t s : Tree) : Type 0 where
  pub surroundings : j.surroundings ≡ k.surroundings
  pub texts : k.texts ≡ j.texts
  pub tree : SameTree s t
  pub typing : IsTyping t j.texts k.table k.whole.typing
  pub marked : AreMarked k.table t k.whole.typing k.whole.marked

pub second_carried : (file : List ℕ) (unit : source.Unit) (names : Names) (j k : Checked) (t s : Tree) → IsChecked file unit names j t
    → IsChecked file unit names k s → IsCarried j k t s
second_carried file unit names j k t s h g =
    let around : j.surroundings ≡ k.surroundings =
    one_surroundings file unit names j.surroundings k.surroundings h.surroundings g.surroundings in
    let texts : k.texts ≡ j.texts = one_texts file unit.tokens.list.items unit.nodes k.texts j.texts g.texts h.texts in
    let moved : SameTree s t = one_tree file unit k.surroundings j.surroundings s t (sym around) g.whole.tree h.whole.tree in
    record {
      surroundings = around;
      texts = texts;
      tree = moved;
      typing = subst (λ x. IsTyping t x k.table k.whole.typing) texts (typing_moved s t k.texts k.table k.whole.typing moved g.whole.typing);
      marked = marked_moved s t k.table k.whole.typing k.whole.marked moved g.whole.marked;
    }

pub agree : (file : List ℕ) (unit : source.Unit) (names : Names) (j k : Checked) (t s : Tree) → IsChecked file unit names j t
    → IsChecked file unit names k s → AgreeOn file unit j k t s
agree file unit names j k t s h g =
    let c = second_carried file unit names j k t s h g in
    let around = c.surroundings in
    let alike = one_typing t j.texts j.table k.table j.whole.typing k.whole.typing h.whole.typing c.typing in
    record {
      known = λ x. record {
        nodes = unit.nodes;
        spelling = spelling_of file unit.tokens.list.items;
        above = λ node. slice_index_or (around x).above node None;
        declarer = λ token. slice_index_or (around x).bindings.declarers token None;
        specified = λ node. ap (λ (own : Has). own.specified) (alike node).own x;
        function = λ node. ap (λ (own : Has). own.declarator.function) (alike node).own x;
        stands = λ node. (alike node).declared x;
        named = λ node. ap (λ (own : Has). own.named) (alike node).own x;
      };
      breaks = λ b broken.
          same_unit_breaks t j.texts k.table j.table k.whole.typing j.whole.typing k.whole.marked j.whole.marked c.typing h.whole.typing c.marked
          h.whole.marked b
          (subst (λ x. IsUnitBroken t x k.table k.whole.typing k.whole.marked b) c.texts
          (breaks_moved s t k.texts k.table k.whole.typing k.whole.marked b c.tree broken));
    }

-- ---- the law

by_columns : (file : List ℕ) (u v : source.Unit) (names : Names) (checked : Checked) (fault : TypeFault) → AreSameLists u v
    → IsSoundOf file u names checked → IsFaultOf file v names fault → (fault ≡ NoMemory → ⊥) → ⊥
by_columns file u v names j fault same sound found other =
    let k = found.checked in
    by_agreement file v names j k sound.tree found.is.tree
    (agree file v names j k sound.tree found.is.tree (checked_carried u v same file names j sound.tree sound.is) found.is.is)
    (sound_carried u v same file names j sound.tree sound.sound) fault found.is.by other

pub no_fault : (file : List ℕ) (u v : source.Unit) (names : Names) (checked : Checked) (fault : TypeFault) → AreSameLists u v
    → IsSoundOf file u names checked → IsFirstFault file v names fault → (fault ≡ NoMemory → ⊥) → ⊥
no_fault file u v names j NoMemory same sound found other = other refl
no_fault file u v names j (Twice token) same sound found other = by_columns file u v names j (Twice token) same sound found other
no_fault file u v names j (Broken row token) same sound found other = by_columns file u v names j (Broken row token) same sound found other
