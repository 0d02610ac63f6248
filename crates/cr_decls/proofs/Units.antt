-- What the machine's run of a unit says of the grammar, and what the nodes of a whole unit keep.
use Rattle.std.proofs.Common.{◌≡◌, ℕ, List, [], ◌∷◌, ◌++◌, length, refl, reverse, sym, ap, subst, ◌∙◌}
use Rattle.std.proofs.lemmas.List.{reverse-reverse}
use Rattle.cr_syntax.specs.declared.node.Node.{Node}
use Rattle.cr_syntax.specs.Kept.{AreWithin, NamedOnce, ItemsAreNodes}
use Rattle.cr_syntax.specs.Words.{Lexeme}
use Rattle.cr_syntax.specs.Scopes.{Scopes}
use Rattle.cr_syntax.specs.Trees.{Trees}
use Rattle.cr_syntax.specs.Units as u
use Rattle.cr_syntax.specs.Units.{file_scope}
use Rattle.cr_syntax_machine.specs.Machine.{Prog, Reply, Done, Failed, nowhere, unit}
use Rattle.cr_syntax_machine.specs.MachineBody.{body}
use Rattle.cr_syntax_machine_laws.proofs.MachineUnit.{is_parsed, only_refusal}
use Rattle.cr_syntax_machine_laws.proofs.MachineUnits.{unit_is_unit}
use Rattle.cr_syntax_machine_laws.proofs.MachineUnitComplete.{one_unit}
use Rattle.cr_syntax_order.specs.Listed.{AreListed}
use Rattle.cr_exprs_descent.specs.declared.fault.ParseFault.{ParseFault}
use Rattle.cr_exprs_descent.specs.declared.fault.ParseFault.TheVariants.{NoMemory, Unexpected, Ended, TooDeep, OutsideSubset}
use Rattle.cr_exprs_descent.specs.Loose.{AreKept, Replaces}
use Rattle.cr_exprs_descent.specs.Answers.{RunsTo, FailsSo, Refuses}
use Rattle.cr_exprs_descent.proofs.Loose.{kept_none, once_turned, nodes_turned}
use Rattle.cr_decls.specs.Unit.{IsOnlyTree, IsRefused, IsOnlyRefusal}

-- what is read is the only tree
pub only_read : {ts : List Lexeme} {e : Scopes} {j : ℕ} {t : Trees} → RunsTo ts (body (unit nowhere 0)) file_scope 0 (Done t e j) → IsOnlyTree ts t
only_read {e = e} {j = j} {t = t} h u y = one_unit y (unit_is_unit nowhere e j t h)

-- the same, where text, scopes and trees are spelled otherwise
run_as : {ts us : List Lexeme} {p : Prog} {c d : Scopes} {r y : Reply} → ts ≡ us → c ≡ d → r ≡ y → RunsTo ts p c 0 r → RunsTo us p d 0 y
run_as {ts} {us} {p} {c} {d} {r} {y} q v w h = subst (λ x. RunsTo us p d 0 x) w (subst (λ x. RunsTo us p x 0 r) v (subst (λ x. RunsTo x p c 0 r) q h))

-- the trees are those of the tokens, with no refused form
tree_read : {ts : List Lexeme} {e : Scopes} {j : ℕ} {t : Trees} → RunsTo ts (body (unit nowhere 0)) file_scope 0 (Done t e j) → u.IsTreeOf ts t
tree_read {ts} {e} {j} {t} h = (is_parsed ts (Done t e j) h).0

-- and the refusal is the first
first_so : {ts : List Lexeme} {x : u.Refusal} → FailsSo ts (body (unit nowhere 0)) file_scope 0 x → u.FirstRefusal ts x
first_so {ts} h = subst (λ x. u.FirstRefusal ts x) h.is (is_parsed ts (Failed h.cause h.at) h.run)

first_read : {ts : List Lexeme} (f : ParseFault) → Refuses ts (body (unit nowhere 0)) file_scope 0 f → IsRefused ts f
first_read NoMemory h = tt
first_read (Unexpected k) h = first_so (h.run (u.Unexpected k) refl)
first_read Ended h = first_so (h.run u.Ended refl)
first_read (TooDeep k) h = first_so (h.run (u.TooDeep k) refl)
first_read (OutsideSubset k row) h = first_so (h.run (u.OutsideSubset k row) refl)

-- and no other is
first_only : {ts : List Lexeme} (f : ParseFault) → Refuses ts (body (unit nowhere 0)) file_scope 0 f → IsOnlyRefusal ts f
first_only {ts} f h x y q o = let r = h.run x q in only_refusal ts r.run o ∙ r.is

pub tree_of : {ts us : List Lexeme} {c e : Scopes} {j : ℕ} {t v : Trees} → ts ≡ us → c ≡ file_scope → t ≡ v → RunsTo ts (body (unit nowhere 0)) c 0 (Done t e j) → u.IsTreeOf us v
tree_of {e = e} {j = j} q w x h = tree_read (run_as q w (ap (λ z. Done z e j) x) h)

pub first_of : {ts us : List Lexeme} {c : Scopes} {f : ParseFault} → ts ≡ us → c ≡ file_scope → Refuses ts (body (unit nowhere 0)) c 0 f → IsRefused us f
first_of {ts} {us} {c} {f} q w h = first_read f (subst (λ x. Refuses us (body (unit nowhere 0)) x 0 f) w (subst (λ x. Refuses x (body (unit nowhere 0)) c 0 f) q h))

pub only_first_of : {ts us : List Lexeme} {c : Scopes} {f : ParseFault} → ts ≡ us → c ≡ file_scope → Refuses ts (body (unit nowhere 0)) c 0 f → IsOnlyRefusal us f
only_first_of {ts} {us} {c} {f} q w h = first_only f (subst (λ x. Refuses us (body (unit nowhere 0)) x 0 f) w (subst (λ x. Refuses x (body (unit nowhere 0)) c 0 f) q h))

pub only_of : {ts us : List Lexeme} {c e : Scopes} {j : ℕ} {t v : Trees} → ts ≡ us → c ≡ file_scope → t ≡ v → RunsTo ts (body (unit nowhere 0)) c 0 (Done t e j) → IsOnlyTree us v
only_of {e = e} {j = j} q w x h = only_read (run_as q w (ap (λ z. Done z e j) x) h)

append_none : (ps : List ℕ) → ps ++ [] ≡ ps
append_none [] = refl
append_none (p ∷ ps) = ap (λ x. p ∷ x) (append_none ps)

-- all nodes of a unit stand under a parent, but for its items, and are listed in order
pub record IsWholeUnit (tokens : ℕ) (nodes : List Node) (items : List ℕ) : Type 0 where
  pub within : AreWithin tokens nodes
  pub named_once : NamedOnce nodes items
  pub are_nodes : ItemsAreNodes nodes items
  pub listed : AreListed nodes 0 items (length nodes)

whole_unit : (tokens : ℕ) (nodes : List Node) (items : List ℕ) → AreKept tokens nodes (reverse items) → IsWholeUnit tokens nodes items
whole_unit tokens nodes items h = record {
  within = h.within;
  named_once = once_turned nodes items h.named_once;
  are_nodes = nodes_turned nodes items h.are_nodes;
  listed = subst (λ x. AreListed nodes 0 x (length nodes)) (reverse-reverse items) h.listed;
}

pub unit_kept : (count tokens : ℕ) (old new : List Node) (items : List ℕ) → old ≡ [] → count ≡ tokens → Replaces tokens old new [] (reverse items) → IsWholeUnit count new items
unit_kept count tokens old new items e q f =
    let start : AreKept tokens old [] = subst (λ x. AreKept tokens x []) (sym e) (kept_none tokens) in
    subst (λ x. IsWholeUnit x new items) (sym q) (whole_unit tokens new items (subst (λ x. AreKept tokens new x) (append_none (reverse items)) (f [] start)))

pub listed_as : {nodes more : List Node} {items row : List ℕ} → more ≡ nodes → row ≡ items → AreListed nodes 0 items (length nodes) → AreListed more 0 row (length more)
listed_as {nodes} {more} {items} {row} q w h = subst (λ x. AreListed x 0 row (length x)) (sym q) (subst (λ x. AreListed nodes 0 x (length nodes)) (sym w) h)
