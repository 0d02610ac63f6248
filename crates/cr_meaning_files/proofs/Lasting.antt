-- What has static duration is seen everywhere (C11 6.2.4p3).
use Rattle.std.proofs.Common.{◌≡◌, ℕ, true, List, slice_index_or, sym, ap, ◌∙◌}
use Rattle.cr_syntax.specs.declared.node.Kind.TheVariants as kind
use Rattle.cr_typed.specs.declared.typed.Typed.{Typed}
use Rattle.cr_typed.specs.declared.typed.Duration.TheVariants as duration
use Rattle.cr_meaning_operations.specs.Operations.{kind_at, name_of, entity_of, is_static_by, is_lasting, is_static_initialiser}
use Rattle.cr_meaning_declarations.specs.Declared.Files.{IsUnitOfFile}
use Rattle.cr_meaning_declarations.proofs.LastingLemmas.Firsts.{static_named, lasts}
use Rattle.cr_meaning_files.specs.Seen.{sees}
use Rattle.cr_meaning_files.proofs.Seen.{lasting_seen}

module _ (file : List ℕ) (t : Typed) (it : IsUnitOfFile file t) where
  abbrev IsStatic : ℕ → Type 0
  IsStatic d = is_static_by (slice_index_or t.durations d duration.NoObject) ≡ true

  -- by a name
  pub static_seen : (i : ℕ) → kind_at t i ≡ kind.Identifier → IsStatic (entity_of t i) → sees t i (entity_of t i) ≡ true
  static_seen i is static = lasting_seen t i (entity_of t i) (lasts file t it i (λ goto. (let never : kind.Identifier ≡ kind.Goto = sym is ∙ goto in cc)) static)

  -- what is initialised before main
  pub initialised_lasts : (i : ℕ) → kind_at t i ≡ kind.InitDeclarator → (is_static_initialiser t i (kind_at t i) ≡ true → IsStatic (entity_of t (name_of t i)))
      → is_static_initialiser t i (kind_at t i) ≡ true → is_lasting t (entity_of t (name_of t i)) (kind_at t (entity_of t (name_of t i))) ≡ true
  initialised_lasts i is static h =
      let own = static_named file t it (name_of t i) (sym (ap (is_static_initialiser t i) is) ∙ h) in
      lasts file t it (name_of t i) (λ goto. (let never : kind.NameDeclarator ≡ kind.Goto = sym own.0 ∙ goto in cc)) (static h)
