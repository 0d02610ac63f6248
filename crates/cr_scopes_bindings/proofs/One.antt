-- A unit with its names has one column of each kind.
use Rattle.std.proofs.Common.{◌≡◌, ℕ, ◌<◌, Bool, false, List, Option, None, length, sym, ◌∙◌, subst, arith}
use Rattle.std.proofs.lemmas.List.{ext_get_or, get_or_default}
use Rattle.cr_tokens.specs.declared.token.Token.{Token}
use Rattle.cr_syntax.specs.declared.unit.Unit as tree
use Rattle.cr_scopes.specs.declared.names.Names.{Names}
use Rattle.cr_scopes.specs.States.{name_in}
use Rattle.cr_scopes.specs.Units.{unit_events}
use Rattle.cr_scopes_bindings.specs.Spellings.{AreSpellings}
use Rattle.cr_scopes_bindings.specs.Last.{last_with, AreLast}
use Rattle.cr_scopes_bindings.specs.Entities.{declares, AreDeclaring}
use Rattle.cr_rows.specs.Columns.{AreOf}
use Rattle.cr_scopes_bindings.specs.Visible.{AreVisible}
use Rattle.cr_scopes_bindings.specs.Bindings.{AreBindings}
use Rattle.cr_scopes_bindings.specs.declared.bindings.Bindings.{Bindings}

pub one_of : {A : Type 0} (f : ℕ → A) (nothing : A) (bound : ℕ) (xs ys : List A) → AreOf f nothing bound xs → AreOf f nothing bound ys → xs ≡ ys
one_of f nothing bound xs ys h g =
    ext_get_or nothing xs ys (h.count ∙ sym g.count)
    (λ k low. let inside : k < bound = (let c = h.count in omega (arith, low, c)) in h.each k inside ∙ sym (g.each k inside))

one_last : (key : ℕ → Option ℕ) (bound keys : ℕ) (xs ys : List (Option ℕ)) → AreLast key bound keys xs → AreLast key bound keys ys → xs ≡ ys
one_last key bound keys xs ys h g =
    one_of (last_with key bound) None keys xs ys (record { count = h.count; each = h.each }) (record { count = g.count; each = g.each })

one_declaring : (names : Names) (tokens : ℕ) (xs ys : List Bool) → AreDeclaring names tokens xs → AreDeclaring names tokens ys → xs ≡ ys
one_declaring names tokens xs ys h g =
    one_of (declares names) false tokens xs ys (record { count = h.count; each = h.each }) (record { count = g.count; each = g.each })

one_spelling : (file : List ℕ) (tokens : List Token) (xs ys : List ℕ) → AreSpellings file tokens xs → AreSpellings file tokens ys → xs ≡ ys
one_spelling file tokens xs ys h g =
    ext_get_or 0 xs ys (h.count ∙ sym g.count)
    (λ k low.
    let other : k < length ys = (let c = h.count in let d = g.count in omega (arith, low, c, d)) in
    get_or_default xs k 0 k low ∙ (h.each k ∙ (sym (g.each k) ∙ get_or_default ys k k 0 other)))

pub one_bindings : (file : List ℕ) (unit : tree.Unit) (names : Names) (b c : Bindings) → AreBindings file unit names b → AreBindings file unit names c → b ≡ c
one_bindings file unit names b c h g =
    let spelt : b.spellings ≡ c.spellings = one_spelling _ _ b.spellings c.spellings h.spellings g.spellings in
    let seen : AreVisible (name_in b.spellings) (unit_events unit) (length unit.tokens.list.items) c.visible =
    subst (λ s. AreVisible (name_in s) (unit_events unit) (length unit.tokens.list.items) c.visible) (sym spelt) g.visible in
    λ i. record {
      spellings = spelt i;
      declarers = one_last _ _ _ b.declarers c.declarers h.declarers g.declarers i;
      visible = one_of _ None _ b.visible c.visible h.visible seen i;
      declaring = one_declaring _ _ b.declaring c.declaring h.declaring g.declaring i;
      previous = one_of _ None _ b.previous c.previous h.previous g.previous i;
      specifiers = one_last _ _ _ b.specifiers c.specifiers h.specifiers g.specifiers i;
      contents = one_last _ _ _ b.contents c.contents h.contents g.contents i;
    }
