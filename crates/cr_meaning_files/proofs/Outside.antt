-- A name that a run may reach stands among no definition's parameters, which no run reaches; so it is told once.
use Rattle.std.proofs.Common.{◌≡◌, ℕ, zero, suc, ◌==◌, ◌⊎◌, inl, inr, Bool, true, false, ◌||◌, List, Some, length, slice_get, refl, sym, ap, subst, ◌∙◌, arith}
use Rattle.std.proofs.lemmas.Bool.{false≢true, or_left, or_right, eqb-true, eq-eqb}
use Rattle.std.proofs.lemmas.Option.{slice_get_within}
use Rattle.cr_syntax.specs.declared.node.Kind.TheVariants as kind
use Rattle.cr_syntax.specs.declared.node.Node.{Node}
use Rattle.cr_scopes_events.specs.Scripts as scripts
use Rattle.cr_typed.specs.declared.typed.Typed.{Typed}
use Rattle.cr_meaning_operations.specs.Operations.{kind_if, kind_at, parts_if, parts_at}
use Rattle.cr_meaning_declarations.proofs.NamesLemmas.Parents.{IsPartOf}
use Rattle.cr_meaning_declarations.specs.Declared.Files.{IsUnitOfFile}
use Rattle.cr_meaning_declarations.specs.Sight.Under.{is_under}
use Rattle.cr_meaning_declarations.proofs.SightLemmas.Under.{directly, deeper}
use Rattle.cr_meaning_declarations.proofs.DeclaredLemmas.Files.{has_unit}
use Rattle.cr_meaning_declarations.proofs.LastingLemmas.Begun.{one_of}
use Rattle.cr_meaning_references.specs.Constant.Outside.{leads, IsOutside}
use Rattle.cr_meaning_references.proofs.ConstantLemmas.Once.{once}
use Rattle.cr_meaning_files.specs.Reached.{is_reached}
use Rattle.cr_meaning_files.specs.Laws
use Rattle.cr_meaning_files.proofs.Living.{reached_lives}
use Rattle.cr_meaning_references.proofs.TreesLemmas.Tree.{has_part, at_most}
use Rattle.cr_meaning_files.proofs.Lists.{list_counts, unlived_by}
use Rattle.cr_scopes_visibility.proofs.SightLemmas.Reaching.{reaches}

module _ (file : List ℕ) (t : Typed) (it : IsUnitOfFile file t) where
  open has_unit file t it use {unit as u}

  -- the declarator of a definition, or one under it
  abbrev IsWithin : ℕ → ℕ → Type 0
  IsWithin q a = (a ≡ q) ⊎ (is_under t q a ≡ true)

  goes : (q a b : ℕ) (n : Node) → slice_get t.nodes a ≡ Some n → slice_get n.parts 0 ≡ Some b → IsWithin q a → IsWithin q b
  goes q a b n at e (inl same) = inr (directly t u q b (subst (λ y. IsPartOf t u b y) same (record { parent = n; at = at; place = 0; is = e })))
  goes q a b n at e (inr h) = inr (deeper t u q b a (record { parent = n; at = at; place = 0; is = e }) h)

  one_list : (l k x : ℕ) (n : Node) → slice_get t.nodes l ≡ Some n → kind_at t l ≡ kind.FunctionDeclarator → slice_get n.parts (suc k) ≡ Some x → k ≡ 0
  one_list l zero x n at is e = refl
  one_list l (suc k) x n at is e =
      let few = at_most t u l kind.FunctionDeclarator 2 is refl list_counts in
      let w = slice_get_within n.parts (suc (suc k)) x e in
      let same : length (parts_at t l) ≡ length n.parts = ap (λ o. length (parts_if o)) at in
      absurd (omega (arith, few, w, same))

  pub stands_outside : (i : ℕ) → is_reached t i ≡ true → IsOutside t i
  stands_outside i r d q l k x m at defines e next g = by (leads t i x) refl
    where
      found : (n : Node) × ((slice_get t.nodes l ≡ Some n) × ((n.kind ≡ kind.FunctionDeclarator) × IsWithin q l))
      found = (reaches t.nodes (IsWithin q) (λ a b n there derives f h. goes q a b n there f h) q (inl refl)).next l next

      listed : kind_at t l ≡ kind.FunctionDeclarator
      listed = ap kind_if found.1.0 ∙ found.1.1.0

      part : slice_get found.0.parts (suc k) ≡ Some x
      part = ap (λ o. slice_get (scripts.parts_if o) (suc k)) (sym found.1.0) ∙ g

      first : slice_get (parts_at t l) 1 ≡ Some x
      first = ap (λ o. slice_get (parts_if o) 1) found.1.0 ∙ subst (λ y. slice_get found.0.parts (suc y) ≡ Some x) (one_list l k x found.0 found.1.0 listed part) part

      turned : leads t i x ≡ true → ((i == x) || is_under t x i) ≡ true
      turned h = elim (one_of (x == i) (is_under t x i) h) [
        | inl same ↦ or_left (i == x) (is_under t x i) (eq-eqb i x (sym (eqb-true x i same)))
        | inr f ↦ or_right (i == x) (is_under t x i) f
      ]

      by : (b : Bool) → leads t i x ≡ b → b ≡ false
      by false f = refl
      by true f =
          absurd (false≢true (sym (unlived_by file t it l x listed (has_part t u l 1 x first) (length t.nodes) i (omega arith) (turned f)) ∙ reached_lives t u i r))

pub told_once : Laws.ReachedNamesAreToldOnce
told_once file t it i n at is r = once file t it i n at is (stands_outside file t it i r)
