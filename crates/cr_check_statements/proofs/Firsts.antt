-- The first break of so many nodes.
use Rattle.std.proofs.Common.{◌≡◌, ℕ, ◌+◌, ◌<◌, ◌≤◌, ◌⊎◌, Option, None, Some, length, slice_get, refl, sym, ap, subst, ◌∙◌, inl, inr, arith}
use Rattle.std.proofs.lemmas.Bool.{cases_lt}
use Rattle.std.proofs.lemmas.Option.{slice_get_past}
use Rattle.cr_check_expressions.specs.declared.least.Break.{Break}
use Rattle.cr_check_expressions.specs.Breaks.{IsFirst, IsAmong, lesser, first_of}
use Rattle.cr_check_expressions.proofs.Firsts.{same_first, joined, first_among}
use Rattle.cr_check_statements.specs.Setting.{Scene}
use Rattle.cr_check_statements.specs.Statements.{faults_if, faults_of, IsBroken}

-- one of the first nodes breaks it
pub record IsBrokenBelow (s : Scene) (bound : ℕ) (b : Break) : Type 0 where
  pub node : ℕ
  pub low : node < bound
  pub among : IsAmong (faults_of s node) b

pub none_yet : (s : Scene) → IsFirst (IsBrokenBelow s 0) None
none_yet s = λ b x. absurd (let l = x.low in let e : ⊥ = omega (arith, l) in e)

pub next : (s : Scene) (k : ℕ) (first broken : Option Break) → IsFirst (IsBrokenBelow s k) first → broken ≡ first_of (faults_of s k)
    → IsFirst (IsBrokenBelow s (k + 1)) (lesser first broken)
next s k first broken so_far e =
    let here : IsFirst (IsAmong (faults_of s k)) broken = subst (IsFirst (IsAmong (faults_of s k))) (sym e) (first_among (faults_of s k)) in
    same_first (λ b. IsBrokenBelow s k b ⊎ IsAmong (faults_of s k) b) (IsBrokenBelow s (k + 1)) (lesser first broken)
    (λ b x. elim x [
      | inl p ↦ record { node = p.node; low = let l = p.low in omega (arith, l); among = p.among }
      | inr q ↦ record { node = k; low = omega arith; among = q }
    ])
    (λ b x. elim (cases_lt x.node k) [
      | inl low ↦ inl (record { node = x.node; low = low; among = x.among })
      | inr high ↦
          let l = x.low in
          let same : x.node ≡ k = omega (arith, l, high) in
          inr (subst (λ n. IsAmong (faults_of s n) b) same x.among)
    ])
    (joined (IsBrokenBelow s k) (IsAmong (faults_of s k)) first broken so_far here)

pub all : (s : Scene) (k : ℕ) (first : Option Break) → IsFirst (IsBrokenBelow s k) first → length s.nodes ≤ k → IsFirst (IsBroken s) first
all s k first h whole = same_first (IsBrokenBelow s k) (IsBroken s) first
    (λ b x. record { node = x.node; among = x.among })
    (λ b x. elim (cases_lt x.node k) [
      | inl low ↦ record { node = x.node; low = low; among = x.among }
      | inr past ↦ absurd (subst (λ n. IsAmong (faults_if n s x.node) b) (slice_get_past s.nodes x.node (omega (arith, past, whole))) x.among)
    ])
    h
