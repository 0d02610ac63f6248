-- What holds of a unit holds of another one with the same tokens, nodes and external declarations.
use Rattle.std.proofs.Common.{◌≡◌, ℕ, ◌-◌, true, false, List, None, Some, length, inl, inr, subst}
use Rattle.cr_tokens.specs.declared.token.Token.{Token}
use Rattle.cr_syntax.specs.declared.node.Node.{Node}
use Rattle.cr_syntax.specs.declared.unit.Unit as source
use Rattle.cr_scopes_events.specs.Events.{events_of}
use Rattle.cr_check_enclosing.specs.Above.{AreAbove}
use Rattle.cr_check_enclosing.specs.Around.{AreAround}
use Rattle.cr_scopes.specs.declared.names.Names.{Names}
use Rattle.cr_scopes.specs.States.{name_in}
use Rattle.cr_scopes_bindings.specs.declared.bindings.Bindings.{Bindings}
use Rattle.cr_scopes_bindings.specs.Spellings.{AreSpellings}
use Rattle.cr_scopes_bindings.specs.Last.{AreLast}
use Rattle.cr_scopes_bindings.specs.Nodes.{name_at, tag_at}
use Rattle.cr_scopes_bindings.specs.Entities.{content_entity}
use Rattle.cr_rows.specs.Columns.{AreOf}
use Rattle.cr_scopes_bindings.specs.Visible.{AreVisible}
use Rattle.cr_scopes_bindings.specs.Bindings.{AreBindings}
use Rattle.cr_check_declarations.specs.declared.tree.Tree.{Tree}
use Rattle.cr_check_literals.specs.Texts.{AreTexts}
use Rattle.cr_check_surroundings.specs.declared.surroundings.Surroundings.{Surroundings}
use Rattle.cr_check_surroundings.specs.Named.{earlier_for, same_for, tag_of, visible_for}
use Rattle.cr_check_surroundings.specs.Previous.{before_of}
use Rattle.cr_check_surroundings.specs.Surroundings.{AreSurroundings, IsTree}
use Rattle.cr_check_expressions.specs.declared.least.Break.{Break}
use Rattle.cr_check_definitions.specs.Typedefs.{IsFirstTwice}
use Rattle.cr_check_definitions.specs.Defined.{is_defined}
use Rattle.cr_check.specs.declared.checked.Checked.{Checked}
use Rattle.cr_check.specs.declared.fault.TypeFault.{TypeFault}
use Rattle.cr_check.specs.declared.fault.TypeFault.TheVariants.{NoMemory, Twice, Broken}
use Rattle.cr_check.specs.Columns.{IsChecked, known_by}
use Rattle.cr_check.specs.Checked.{IsFaultBy, IsFirstBroken, IsSound}
use Rattle.cr_check.specs.Laws.{AreSameLists}

module _ (u v : source.Unit) (same : AreSameLists u v) where
  pub carried : (P : List Token → List Node → List ℕ → Type 0) → P u.tokens.list.items u.nodes u.items → P v.tokens.list.items v.nodes v.items
  carried P h =
      subst (λ ts. P ts v.nodes v.items) same.tokens
      (subst (λ ns. P u.tokens.list.items ns v.items) same.nodes (subst (λ is. P u.tokens.list.items u.nodes is) same.items h))

  bindings_carried : (file : List ℕ) (names : Names) (b : Bindings) → AreBindings file u names b → AreBindings file v names b
  bindings_carried file names b h = record {
    spellings = carried (λ ts ns is. AreSpellings file ts b.spellings) h.spellings;
    declarers = carried (λ ts ns is. AreLast (name_at ns) (length ns) (length ts) b.declarers) h.declarers;
    visible = carried (λ ts ns is. AreVisible (name_in b.spellings) (events_of ts ns is) (length ts) b.visible) h.visible;
    declaring = h.declaring;
    previous = h.previous;
    specifiers = carried (λ ts ns is. AreLast (tag_at ns ts) (length ns) (length ts) b.specifiers) h.specifiers;
    contents = carried (λ ts ns is. AreLast (content_entity names ns ts) (length ns) (length names.entities) b.contents) h.contents;
  }

  surroundings_carried : (file : List ℕ) (names : Names) (s : Surroundings) → AreSurroundings file u names s → AreSurroundings file v names s
  surroundings_carried file names s h = record {
    bindings = bindings_carried file names s.bindings h.bindings;
    above = carried (λ ts ns is. AreAbove ns s.above) h.above;
    previous = carried (λ ts ns is. AreOf (before_of ns (length ns)) None (length ns) s.previous) h.previous;
    around = carried (λ ts ns is. AreAround ns s.above s.around) h.around;
    visible = carried (λ ts ns is. AreOf (visible_for s.bindings ns s.above) None (length ns) s.visible) h.visible;
    earlier = carried (λ ts ns is. AreOf (earlier_for s.bindings ns s.above) None (length ns) s.earlier) h.earlier;
    same = carried (λ ts ns is. AreOf (same_for s.bindings ns s.above) None (length ns) s.same) h.same;
    tags = carried (λ ts ns is. AreOf (tag_of s.bindings names ns ts) None (length ns) s.tags) h.tags;
  }

  tree_carried : (file : List ℕ) (s : Surroundings) (t : Tree) → IsTree file u s t → IsTree file v s t
  tree_carried file s t h = record {
    file = h.file;
    tokens = carried (λ ts ns is. t.tokens.now ≡ ts) h.tokens;
    nodes = carried (λ ts ns is. t.nodes.now ≡ ns) h.nodes;
    names = h.names;
    above = h.above;
    previous = h.previous;
    around = h.around;
    visible = h.visible;
    earlier = h.earlier;
    same = h.same;
    tags = h.tags;
  }

  pub checked_carried : (file : List ℕ) (names : Names) (j : Checked) (t : Tree) → IsChecked file u names j t → IsChecked file v names j t
  checked_carried file names j t h = record {
    surroundings = surroundings_carried file names j.surroundings h.surroundings;
    texts = carried (λ ts ns is. AreTexts file ts ns j.texts) h.texts;
    whole = record {
      tree = tree_carried file j.surroundings t h.whole.tree;
      none = h.whole.none;
      within = h.whole.within;
      typing = h.whole.typing;
      marked = h.whole.marked;
    };
  }

  -- what is found of it too

  pub sound_carried : (file : List ℕ) (names : Names) (j : Checked) (t : Tree) → IsSound file u names j t → IsSound file v names j t
  sound_carried file names j t h = record {
    typedefs = carried (λ ts ns is. IsFirstTwice (known_by file ts ns j) names None) h.typedefs;
    constraints = h.constraints;
    defined = carried (λ ts ns is. is_defined (known_by file ts ns j) is names ≡ true) h.defined;
  }

  broken_carried : (file : List ℕ) (names : Names) (j : Checked) (t : Tree) (b : Break) → IsFirstBroken file u names j t b
      → IsFirstBroken file v names j t b
  broken_carried file names j t b (inl first) = inl first
  broken_carried file names j t b (inr lacks) = inr (record {
    others = lacks.others;
    defined = carried (λ ts ns is. is_defined (known_by file ts ns j) is names ≡ false) lacks.defined;
    is = carried (λ ts ns is. b ≡ record { token = length ts - 1; row = 40 }) lacks.is;
  })

  pub fault_carried : (file : List ℕ) (names : Names) (j : Checked) (t : Tree) (fault : TypeFault) → IsFaultBy file u names j t fault
      → IsFaultBy file v names j t fault
  fault_carried file names j t NoMemory h = tt
  fault_carried file names j t (Twice token) h = carried (λ ts ns is. IsFirstTwice (known_by file ts ns j) names (Some token)) h
  fault_carried file names j t (Broken row token) h = record {
    typedefs = carried (λ ts ns is. IsFirstTwice (known_by file ts ns j) names None) h.typedefs;
    broken = broken_carried file names j t (record { token = token; row = row }) h.broken;
  }
