-- What is in scope is the latest declaration of its name, in the innermost scope that has one.
use Rattle.std.proofs.Common.{◌≡◌, ℕ, zero, suc, ◌==◌, Bool, true, false, not, ◌&&◌, List, [], ◌∷◌, Some, length, refl, sym, ap, ◌∙◌, if◌then◌else◌}
use Rattle.std.specs.Option.{is_some}
use Rattle.std.proofs.lemmas.Bool.{false≢true, and_parts, or_left, or_right, eqb-true, eq-eqb}
use Rattle.cr_scopes_events.specs.declared.event.Role.{Role}
use Rattle.cr_scopes_events.specs.declared.event.Role.TheVariants as role
use Rattle.cr_scopes_events.specs.declared.event.Event.{Event}
use Rattle.cr_scopes_events.specs.declared.event.Event.TheVariants.{Node, Opens, Closes, Name, Member}
use Rattle.cr_scopes.specs.declared.scope.Space.TheVariants.{Ordinary}
use Rattle.cr_scopes.specs.declared.scope.Look.{Look}
use Rattle.cr_scopes.specs.Looking.{is_outermost, stands_in, begun, noted_if, look}
use Rattle.cr_scopes.specs.Faults.{wrong_by}
use Rattle.cr_scopes.specs.Resolved.{past_of}
use Rattle.cr_scopes_bindings.specs.Visible.{is_named, latest, visible}
use Rattle.cr_scopes_visibility.specs.Alone.Sight.{is_used}
use Rattle.cr_scopes_visibility.proofs.AloneLemmas.Telling.{AreRight, all_right}
use Rattle.cr_scopes_visibility.specs.Uses.Uses.{is_use, is_declared, is_before, Finds}
use Rattle.cr_scopes_visibility.specs.Uses.Laws

-- a use that isn't wrong has something in scope
seen_there : (b : Bool) → not b ≡ false → b ≡ true
seen_there true e = refl
seen_there false e = absurd (false≢true (sym e))

used_right : (outermost : Bool) (r : Role) (ordinary content : Look) → is_used r ≡ true → wrong_by outermost r ordinary content ≡ false → is_some ordinary.seen ≡ true
used_right outermost role.Used ordinary content h e = seen_there (is_some ordinary.seen) e
used_right outermost r ordinary content h e = absurd (false≢true h)

module _ (name : ℕ → ℕ) where
  record IsLatest (s d : ℕ) (past : List Event) : Type 0 where
    declared : ℕ
    is : latest name s d past ≡ Some declared
    told : is_declared declared past ≡ true
    same : name declared ≡ s

  -- one event more, which isn't the latest declaration
  behind : (s d e t : ℕ) (r : Role) (past : List Event) → IsLatest s e past → latest name s d (Name t r ∷ past) ≡ latest name s e past → IsLatest s d (Name t r ∷ past)
  behind s d e t r past h skips = record {
    declared = h.declared;
    is = skips ∙ h.is;
    told = or_right (stands_in Ordinary r && (h.declared == t)) (is_declared h.declared past) h.told;
    same = h.same;
  }

  in_scope : (s d : ℕ) (past : List Event) → is_some (look name Ordinary s d past).seen ≡ true → IsLatest s d past
  in_scope s d [] h = absurd (false≢true h)
  in_scope s d (Closes ∷ past) h = let x = in_scope s (suc d) past h in record { declared = x.declared; is = x.is; told = x.told; same = x.same }
  in_scope s zero (Opens ∷ past) h = let x = in_scope s zero past h in record { declared = x.declared; is = x.is; told = x.told; same = x.same }
  in_scope s (suc d) (Opens ∷ past) h = let x = in_scope s d past h in record { declared = x.declared; is = x.is; told = x.told; same = x.same }
  in_scope s zero (Name t r ∷ past) h = by (stands_in Ordinary r && (name t == s)) refl h (λ x. in_scope s zero past x)
    where
      by : (b : Bool) → (stands_in Ordinary r && (name t == s)) ≡ b → is_some (noted_if b (begun name past t r) (look name Ordinary s zero past)).seen ≡ true
          → (is_some (look name Ordinary s zero past).seen ≡ true → IsLatest s zero past) → IsLatest s zero (Name t r ∷ past)
      by true q h rest =
          let both = and_parts (stands_in Ordinary r) (name t == s) q in
          let own : (stands_in Ordinary r && (t == t)) ≡ true = (λ j. both.0 j && eq-eqb t t refl j) in
          record {
            declared = t;
            is = ap (λ b. if b then Some t else latest name s zero past) q;
            told = or_left (stands_in Ordinary r && (t == t)) (is_declared t past) own;
            same = eqb-true (name t) s both.1;
          }
      by false q h rest = behind s zero zero t r past (rest h) (ap (λ b. if b then Some t else latest name s zero past) q)
  in_scope s (suc d) (Name t r ∷ past) h = behind s (suc d) (suc d) t r past (in_scope s (suc d) past h) refl
  in_scope s d (Member t k ∷ past) h = let x = in_scope s d past h in record { declared = x.declared; is = x.is; told = x.told; same = x.same }
  in_scope s d (Node i ∷ past) h = let x = in_scope s d past h in record { declared = x.declared; is = x.is; told = x.told; same = x.same }

  finds : (token : ℕ) (past : List Event) → AreRight name past → is_use token past ≡ true → Finds name token past
  finds token [] right h = absurd (false≢true h)
  finds token (Name t r ∷ past) right h = by ((token == t) && not (is_named token past)) refl h (λ x. finds token past right.1 x)
    where
      by : (b : Bool) → ((token == t) && not (is_named token past)) ≡ b → (if b then is_used r else is_use token past) ≡ true → (is_use token past ≡ true → Finds name token past) → Finds name token (Name t r ∷ past)
      by true q h rest =
          let x = in_scope (name t) zero past (used_right (is_outermost past) r (look name Ordinary (name t) zero past) _ h right.0) in
          record {
            declared = x.declared;
            is = ap (λ b. if b then latest name (name t) zero past else visible name past token) q ∙ x.is;
            before = ap (λ b. if b then is_declared x.declared past else is_before x.declared token past) q ∙ x.told;
            same = x.same ∙ ap name (sym (eqb-true token t (and_parts (token == t) (not (is_named token past)) q).0));
          }
      by false q h rest =
          let x = rest h in
          record {
            declared = x.declared;
            is = ap (λ b. if b then latest name (name t) zero past else visible name past token) q ∙ x.is;
            before = ap (λ b. if b then is_declared x.declared past else is_before x.declared token past) q ∙ x.before;
            same = x.same;
          }
  finds token (Opens ∷ past) right h = let x = finds token past right h in record { declared = x.declared; is = x.is; before = x.before; same = x.same }
  finds token (Closes ∷ past) right h = let x = finds token past right h in record { declared = x.declared; is = x.is; before = x.before; same = x.same }
  finds token (Member t k ∷ past) right h = let x = finds token past right h in record { declared = x.declared; is = x.is; before = x.before; same = x.same }
  finds token (Node i ∷ past) right h = let x = finds token past right h in record { declared = x.declared; is = x.is; before = x.before; same = x.same }

pub all_find : Laws.UsesFindDeclarations
all_find name events token right used = finds name token (past_of events (length events)) (all_right name events right (length events)) used
