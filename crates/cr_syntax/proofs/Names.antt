-- What a map of names says and takes is what the list of its names does.
use Rattle.std.proofs.Common.{◌≡◌, ap, refl, sym, ℕ, Bool, true, false, List, [], ◌∷◌}
use Rattle.std.specs.Str.{bytes_eq}
use Rattle.std.specs.Map.{lookup}
use Rattle.std.specs.declared.vec.Vec.{Vec}
use Rattle.std.proofs.lemmas.Slice.Eq.{bytes_eq-Decides}
use Rattle.indexmap.specs.IndexMap.{insert_entry}
use Rattle.cr_syntax.specs.Scopes.{said_of, put, names_in}

module _ {A : Type 0} where
  pub said_is : (es : List (Vec ℕ A × Bool)) (s : List ℕ) → lookup (λ k. bytes_eq s k.items) es ≡ said_of (names_in es) s
  said_is [] s = refl
  said_is (e ∷ es) s = rw (said_is es s) refl

  put_on : (e : Vec ℕ A × Bool) (es : List (Vec ℕ A × Bool)) (k : Vec ℕ A) (b same : Bool) → bytes_eq k.items e.0.items ≡ same →
      names_in (insert_entry (λ k n. bytes_eq k.items n.items) es k b) ≡ put (record { name = k.items; is_type = b }) (names_in es) →
      names_in (insert_entry (λ k n. bytes_eq k.items n.items) (e ∷ es) k b) ≡ put (record { name = k.items; is_type = b }) (names_in (e ∷ es))
  put_on e es k b true q h = rw q (ap (λ s. record { name = s; is_type = b } ∷ names_in es) (sym ((bytes_eq-Decides k.items e.0.items).0 q)))
  put_on e es k b false q h = rw q (ap (λ ns. record { name = e.0.items; is_type = e.1 } ∷ ns) h)

  pub put_is : (es : List (Vec ℕ A × Bool)) (k : Vec ℕ A) (b : Bool) →
      names_in (insert_entry (λ k n. bytes_eq k.items n.items) es k b) ≡ put (record { name = k.items; is_type = b }) (names_in es)
  put_is [] k b = refl
  put_is (e ∷ es) k b = put_on e es k b _ refl (put_is es k b)
