-- Columns of tokens that declare.
use Rattle.std.proofs.Common.{◌≡◌, ℕ, ◌+◌, Bool, true, false, ◌||◌, nat_lt, List, [], ◌∷◌, ◌++◌, Option, Some, None, length, slice_index_or, if◌then◌else◌, refl, subst, ◌∙◌, inl, inr, arith, length-append}
use Rattle.std.proofs.Math.ListN.{get_or-append}
use Rattle.std.proofs.Math.Seq.{get_or-append_seam}
use Rattle.std.proofs.lemmas.Bool.{cases_lt, ltb-true}
use Rattle.cr_scopes_bindings.specs.Last.{AreLast}
use Rattle.cr_scopes.specs.declared.names.Names.{Names}
use Rattle.cr_scopes_bindings.specs.Entities.{before_of, declared_entity, entity_at, entity_within, previous_of}
use Rattle.cr_rows.specs.Columns.{AreOf}
use Rattle.cr_scopes_bindings.specs.Bindings.{entry_if}

pub either : (a b : Bool) → (if a then true else b) ≡ (b || a)
either true true = refl
either true false = refl
either false true = refl
either false false = refl

-- the last token before that declares the entity, by the column of the last ones
within_by : (b : Bool) (names : Names) (token e : ℕ) (last : List (Option ℕ)) → nat_lt e (length names.entities) ≡ b
    → AreLast (declared_entity names) token (length names.entities) last
    → entry_if last (if b then Some e else None) ≡ before_of names token (if b then Some e else None)
within_by true names token e last q h = h.each e (ltb-true e (length names.entities) q)
within_by false names token e last q h = refl

before_by : (names : Names) (token : ℕ) (last : List (Option ℕ)) (o : Option ℕ) → AreLast (declared_entity names) token (length names.entities) last
    → entry_if last (entity_within (length names.entities) o) ≡ before_of names token (entity_within (length names.entities) o)
before_by names token last None h = refl
before_by names token last (Some e) h = within_by (nat_lt e (length names.entities)) names token e last refl h

pub before_is : (names : Names) (token : ℕ) (last : List (Option ℕ)) (entity : Option ℕ) → AreLast (declared_entity names) token (length names.entities) last
    → entity ≡ entity_at names token → entry_if last entity ≡ previous_of names token
before_is names token last entity h e = rw e (before_by names token last (slice_index_or names.of_token token None) h)
