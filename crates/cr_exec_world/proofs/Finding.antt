-- The object that a node had last.
use Rattle.std.proofs.Common.{◌≡◌, ◌≢◌, ℕ, suc, zero, ◌<◌, ◌≤◌, ◌==◌, Bool, true, false, if◌then◌else◌, Option, Some, None, List, [], ◌∷◌, ◌++◌, map, reverse, length, refl, sym, ap, ◌∙◌, subst, set, get_or, get_or-set_same, get_or-set_other, ◌⊎◌, inl, inr}
use Rattle.std.proofs.lemmas.Bool.{eqb-true, eqb-false, cases_lt}
use Rattle.std.proofs.lemmas.List.{set-set, set-get_or, get_or_past, reverse-append}
use Rattle.cr_meaning.specs.World.{Binding, bound, mark, object_for}
use Rattle.cr_exec_world.specs.declared.names.Entry.{Entry}
use Rattle.cr_exec_world.specs.declared.names.Entry.TheVariants as entry
use Rattle.cr_exec_world.specs.Names.{entry_of, IsFollowed}

by_test : (b : Bool) (latest : List (Option ℕ)) (rest : List Binding) (node n object : ℕ) (before : Option ℕ) → (node == n) ≡ b → get_or latest node None ≡ Some object
    → object_for rest n ≡ get_or (set latest node before) n None → (if b then Some object else object_for rest n) ≡ get_or latest n None
by_test true latest rest node n object before e here other = sym here ∙ ap (λ (k : ℕ). get_or latest k None) (eqb-true node n e)
by_test false latest rest node n object before e here other = other ∙ get_or-set_other latest node n before None (λ q. eqb-false node n e (sym q))

pub found : (latest : List (Option ℕ)) (entries : List Entry) (n : ℕ) → IsFollowed latest entries → object_for (map entry_of entries) n ≡ get_or latest n None
found latest [] n h = sym (h n)
found latest (entry.Bound node object before ∷ rest) n h =
    by_test (node == n) latest (map entry_of rest) node n object before refl h.0 (found (set latest node before) rest n h.1)
found latest (entry.Mark ∷ rest) n h = found latest rest n h

pub bound_follows : (latest : List (Option ℕ)) (entries more : List Entry) (node object : ℕ) (before : Option ℕ) → node < length latest → before ≡ get_or latest node None
    → more ≡ entries ++ entry.Bound node object before ∷ [] → IsFollowed latest (reverse entries) → IsFollowed (set latest node (Some object)) (reverse more)
bound_follows latest entries more node object before room was e h =
    let P : List Entry → Type 0 = λ es. IsFollowed (set latest node (Some object)) es in
    let Q : List (Option ℕ) → Type 0 = λ l. IsFollowed l (reverse entries) in
    let back : latest ≡ set (set latest node (Some object)) node before =
    sym (set-get_or latest node None) ∙ (ap (λ (x : Option ℕ). set latest node x) (sym was) ∙ sym (set-set latest node (Some object) before)) in
    subst P (sym (ap (λ (es : List Entry). reverse es) e ∙ reverse-append entries (entry.Bound node object before ∷ [])))
    (get_or-set_same latest node (Some object) None room, subst Q back h)
