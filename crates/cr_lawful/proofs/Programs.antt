-- A program of a file has what is read of it.
use Rattle.std.proofs.Common.{◌≡◌, ℕ, List, Option, Result, Ok, Err, IfOk, length, refl, sym, subst, ap, ◌∙◌}
use Rattle.cr_tokens.specs.declared.token.Token.{Token}
use Rattle.cr_tokens.specs.Tokens.{Tokenizes}
use Rattle.cr_syntax.specs.declared.node.Node.{Node}
use Rattle.cr_syntax.specs.declared.unit.Unit as source
use Rattle.cr_syntax.specs.Kept.{AreWithin, PartsAreBelow, NamedOnce, ItemsAreNodes}
use Rattle.cr_scopes.specs.declared.names.Names.{Names}
use Rattle.cr_lawful_analysis.specs.Analysis as read
use Rattle.cr_lawful_analysis.specs.Analysis.{IsAnalysis, IsParsed, IsRead, Read, unit_read, tree_of}
use Rattle.cr_lawful_analysis.specs.declared.analysis.Analysis.TheVariants.{OfUnit}
use Rattle.cr_lawful_analysis.specs.Members.{structures_of}
use Rattle.cr_scopes.specs.Units.{AreUnitNames}
use Rattle.cr_check.specs.declared.checked.Checked.{Checked}
use Rattle.cr_check.specs.Checked.{IsSoundOf}
use Rattle.cr_typed.specs.declared.typed.Typed.{Typed}
use Rattle.cr_typed_unit.specs.Typed.{IsTypedOf}
use Rattle.cr_lawful.specs.Programs.{IsProgram}
use Rattle.cr_lawful.specs.declared.program.Program.{Program}

-- what comes of the typed unit and the structures of a sound one is its program
module _ (file : List ℕ) (u : source.Unit) (names : Names) (checked : Checked) (tokenizes : Tokenizes file u.tokens.list.items)
    (parsed : IsParsed file u.tokens.list.items (tree_of u)) (known : AreUnitNames file u names) (sound : IsSoundOf file u names checked) where
  with_names : (p : Program) → p.names ≡ names → IsTypedOf file u names p.typed → p.structures ≡ structures_of u.nodes checked → IsProgram file p
  with_names p same typed structures = record {
    of_file = record {
      unit = u;
      names = names;
      tokenizes = tokenizes;
      parsed = parsed;
      known = known;
      checked = typed;
    };
    names_are = same;
    checked = checked;
    sound = sound;
    structures_are = structures;
  }

  pub made : {E F : Type 0} (result : Result Program F) (typed : Result Typed E) (structures : Result (List (Option ℕ)) E)
      → IfOk typed (IsTypedOf file u names) → IfOk structures (λ s. s ≡ structures_of u.nodes checked)
      → IfOk result (λ p. (p.names ≡ names) × (typed ≡ Ok p.typed) × (structures ≡ Ok p.structures)) → IfOk result (IsProgram file)
  made (Err e) typed structures is are of = tt
  made (Ok p) typed structures is are (same, of_typed, of_structures) =
      with_names p same (subst (λ r. IfOk r (IsTypedOf file u names)) of_typed is) (subst (λ r. IfOk r (λ s. s ≡ structures_of u.nodes checked)) of_structures are)

-- a unit as it is read
abbrev unit_of : Names → List Token → List Node → List ℕ → List (Option ℕ) → Read
unit_of names tokens nodes items structures = unit_read tokens (record { nodes = nodes; items = items }) names structures

module _ (file : List ℕ) (p : Program) (it : IsProgram file p) where
  -- the bytes and the lists of the typed unit are the unit's
  pub file_is : p.typed.file ≡ file
  file_is = it.of_file.checked.by.elaborated.file_is

  tokens_are : it.of_file.unit.tokens.list.items ≡ p.typed.tokens
  tokens_are = sym it.of_file.checked.by.elaborated.tokens_are

  nodes_are : it.of_file.unit.nodes ≡ p.typed.nodes
  nodes_are = sym it.of_file.checked.by.elaborated.nodes_are

  items_are : it.of_file.unit.items ≡ p.typed.items
  items_are = sym it.of_file.checked.by.elaborated.items_are

  -- so they keep what a unit's keep
  pub within : AreWithin (length p.typed.tokens) p.typed.nodes
  within =
      subst (λ ts. AreWithin (length ts) p.typed.nodes) tokens_are
      (subst (AreWithin (length it.of_file.unit.tokens.list.items)) nodes_are it.of_file.unit.within)

  pub named_once : NamedOnce p.typed.nodes p.typed.items
  named_once = subst (NamedOnce p.typed.nodes) items_are (subst (λ ns. NamedOnce ns it.of_file.unit.items) nodes_are it.of_file.unit.named_once)

  -- and a unit of them is what is read of the file
  pub is_read : (u : source.Unit) → u.tokens.list.items ≡ p.typed.tokens → u.nodes ≡ p.typed.nodes → u.items ≡ p.typed.items
      → IsAnalysis file (OfUnit u p.names p.structures)
  is_read u tokens nodes items =
      let of = it.of_file in
      let structures = structures_of of.unit.nodes it.checked in
      subst (IsRead file)
      (ap (λ ts. unit_of of.names ts of.unit.nodes of.unit.items structures) (tokens_are ∙ sym tokens)
      ∙ ap (λ ns. unit_of of.names u.tokens.list.items ns of.unit.items structures) (nodes_are ∙ sym nodes)
      ∙ ap (λ is. unit_of of.names u.tokens.list.items u.nodes is structures) (items_are ∙ sym items)
      ∙ ap (λ names. unit_of names u.tokens.list.items u.nodes u.items structures) (sym it.names_are)
      ∙ ap (unit_of p.names u.tokens.list.items u.nodes u.items) (sym it.structures_are))
      (read.of_unit {unit = of.unit} {names = of.names} {checked = it.checked} of.tokenizes (record {
        tokens_are = refl;
        parsed = of.parsed;
        known = of.known;
        sound = it.sound;
      }))
