-- The latest declaration of a name, among bindings.
use Rattle.std.proofs.Common.{◌≡◌, ℕ, ◌<◌, ◌==◌, Bool, true, false, if◌then◌else◌, Option, Some, None, List, [], ◌∷◌, ◌++◌, map, reverse, length, refl, sym, ap, ◌∙◌, subst, set, get_or, get_or-set_same, get_or-set_other}
use Rattle.std.proofs.lemmas.Bool.{eqb-true, eqb-false}
use Rattle.std.proofs.lemmas.List.{set-set, set-get_or, reverse-append}
use Rattle.cr_scopes_bindings.specs.declared.scoped.Binding.{Binding}
use Rattle.cr_scopes_bindings.specs.declared.scoped.Entry.{Entry}
use Rattle.cr_scopes_bindings.specs.declared.scoped.Entry.TheVariants as entry
use Rattle.cr_scopes_bindings.specs.Stacks.{found_in}
use Rattle.cr_scopes_bindings.specs.Entries.{entry_of, IsFollowed}

by_test : (b : Bool) (latest : List (Option ℕ)) (rest : List Binding) (name n token : ℕ) (before : Option ℕ) → (name == n) ≡ b → get_or latest name None ≡ Some token
    → found_in rest n ≡ get_or (set latest name before) n None → (if b then Some token else found_in rest n) ≡ get_or latest n None
by_test true latest rest name n token before e here other = sym here ∙ ap (λ (k : ℕ). get_or latest k None) (eqb-true name n e)
by_test false latest rest name n token before e here other = other ∙ get_or-set_other latest name n before None (λ q. eqb-false name n e (sym q))

pub found : (latest : List (Option ℕ)) (entries : List Entry) (n : ℕ) → IsFollowed latest entries → found_in (map entry_of entries) n ≡ get_or latest n None
found latest [] n h = sym (h n)
found latest (entry.Bound name token before ∷ rest) n h =
    by_test (name == n) latest (map entry_of rest) name n token before refl h.0 (found (set latest name before) rest n h.1)
found latest (entry.Mark ∷ rest) n h = found latest rest n h

pub bound_follows : (latest : List (Option ℕ)) (entries more : List Entry) (name token : ℕ) (before : Option ℕ) → name < length latest → before ≡ get_or latest name None
    → more ≡ entries ++ entry.Bound name token before ∷ [] → IsFollowed latest (reverse entries) → IsFollowed (set latest name (Some token)) (reverse more)
bound_follows latest entries more name token before room was e h =
    let P : List Entry → Type 0 = λ es. IsFollowed (set latest name (Some token)) es in
    let Q : List (Option ℕ) → Type 0 = λ l. IsFollowed l (reverse entries) in
    let back : latest ≡ set (set latest name (Some token)) name before =
    sym (set-get_or latest name None) ∙ (ap (λ (x : Option ℕ). set latest name x) (sym was) ∙ sym (set-set latest name (Some token) before)) in
    subst P (sym (ap (λ (es : List Entry). reverse es) e ∙ reverse-append entries (entry.Bound name token before ∷ [])))
    (get_or-set_same latest name (Some token) None room, subst Q back h)
