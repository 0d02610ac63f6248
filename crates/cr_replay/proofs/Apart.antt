-- Rows lead one way, so a log has one verdict.
use Rattle.std.proofs.Common.{◌≡◌, ◌⊎◌, inl, inr, ℕ, ◌+◌, List, [], ◌∷◌, refl, sym, ap, subst, ◌∙◌}
use Rattle.cr_cursor.specs.Variants.{Offer}
use Rattle.cr_replay.specs.Chains.{BreaksAt, Chain, Follows, IsStep}
use Rattle.cr_replay.specs.Chains.BreaksAt.{behind, here}
use Rattle.cr_replay.specs.Chains.Follows.{further, there}
use Rattle.cr_replay.specs.Checks.{FailsAt, IsEnd, Leads, Says}
use Rattle.cr_replay.specs.Checks.FailsAt.{a_row, the_end}
use Rattle.cr_reduce.specs.declared.end.Accepted.{Accepted}
use Rattle.cr_log.specs.declared.reader.Log.{Log}
use Rattle.cr_replay.specs.declared.verdict.Verdict.{Verdict}
use Rattle.cr_replay.specs.declared.verdict.Verdict.TheVariants as verdict

module _ (c : Chain) (one_offer : (file : List ℕ) (o other : Offer) → c.Offers file o → c.Offers file other → o ≡ other) where
  same_step : (file : List ℕ) (turns : ℕ) (one : Accepted) (a b : List ℕ) → IsStep c file turns one a → IsStep c file turns one b → a ≡ b
  same_step file turns one a b s t = s.is ∙ ap (λ (o : Offer). o.bytes one.at) (one_offer file s.offer t.offer s.offered t.offered) ∙ sym t.is

  follows_once : (rows : List Accepted) (file last last' : List ℕ) (turns n n' : ℕ) → Follows c file turns rows last n → Follows c file turns rows last' n' → (last ≡ last') × (n ≡ n')
  follows_once [] file last last' turns n n' there there = (refl, refl)
  follows_once (one ∷ more) file last last' turns n n' (further {next = a} s r) (further {next = b} t q) =
      follows_once more b last last' one.turn n n' (subst (λ f. Follows c f one.turn more last n) (same_step file turns one a b s t) r) q

  pub never_both : (rows : List Accepted) (file last : List ℕ) (turns n k : ℕ) → Follows c file turns rows last n → BreaksAt c file turns rows k → ⊥
  never_both [] file last turns n k _ x3 = elim x3 [ ]
  never_both (one ∷ more) file last turns n k (further {next = a} s r) (here nowhere) = nowhere a s
  never_both (one ∷ more) file last turns n _ (further {next = a} s r) (behind {next = b} {k = k} t q) =
      never_both more b last one.turn n k (subst (λ f. Follows c f one.turn more last n) (same_step file turns one a b s t) r) q

  pub apart : (from wanted : List ℕ) (log : Log) (k : ℕ) → Leads c from log wanted → FailsAt c from log wanted k → ⊥
  apart from wanted log k it (a_row breaks) = never_both log.accepted.items from it.last 0 it.turns k it.follows breaks
  apart from wanted log k it (the_end last turns follows not_end is) =
      let same = follows_once log.accepted.items from it.last last 0 it.turns turns it.follows follows in
      not_end (subst (λ n. IsEnd log wanted last n) same.1 (subst (λ f. IsEnd log wanted f it.turns) same.0 it.ends))

  breaks_once : (rows : List Accepted) (file : List ℕ) (turns k m : ℕ) → BreaksAt c file turns rows k → BreaksAt c file turns rows m → k ≡ m
  breaks_once [] file turns k m x1 _ = elim x1 [ ]
  breaks_once (one ∷ more) file turns _ _ (here nowhere) (here other) = refl
  breaks_once (one ∷ more) file turns _ _ (here nowhere) (behind {next = b} t q) = absurd (nowhere b t)
  breaks_once (one ∷ more) file turns _ _ (behind {next = a} s r) (here nowhere) = absurd (nowhere a s)
  breaks_once (one ∷ more) file turns _ _ (behind {next = a} {k = k} s r) (behind {next = b} {k = m} t q) =
      ap (λ n. n + 1) (breaks_once more b one.turn k m (subst (λ f. BreaksAt c f one.turn more k) (same_step file turns one a b s t) r) q)

  pub one_line : (from wanted : List ℕ) (log : Log) (k m : ℕ) → FailsAt c from log wanted k → FailsAt c from log wanted m → k ≡ m
  one_line from wanted log k m (a_row breaks) (a_row other) = breaks_once log.accepted.items from 0 k m breaks other
  one_line from wanted log k m (a_row breaks) (the_end last turns follows not_end is) = absurd (never_both log.accepted.items from last 0 turns k follows breaks)
  one_line from wanted log k m (the_end last turns follows not_end is) (a_row breaks) = absurd (never_both log.accepted.items from last 0 turns m follows breaks)
  one_line from wanted log k m (the_end last turns follows not_end is) (the_end last' turns' follows' not_end' is') = is ∙ sym is'

  -- The answer is right, so it is yes for each log that leads to the result, and no for every other at its line.
  pub right_lead : (from wanted : List ℕ) (log : Log) (said : Verdict) → Says c from log wanted said → Leads c from log wanted → (said ≡ verdict.Yes) ⊎ (said ≡ verdict.NoMemory)
  right_lead from wanted log verdict.Yes says it = inl refl
  right_lead from wanted log (verdict.Breaks k) says it = absurd (apart from wanted log k it says)
  right_lead from wanted log verdict.NoMemory says it = inr refl

  pub right_break : (from wanted : List ℕ) (log : Log) (k : ℕ) (said : Verdict) → Says c from log wanted said → FailsAt c from log wanted k → (said ≡ verdict.Breaks k) ⊎ (said ≡ verdict.NoMemory)
  right_break from wanted log k verdict.Yes says it = absurd (apart from wanted log k says it)
  right_break from wanted log k (verdict.Breaks m) says it = inl (ap verdict.Breaks (one_line from wanted log m k says it))
  right_break from wanted log k verdict.NoMemory says it = inr refl
