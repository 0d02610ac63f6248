-- Which statuses are whose.
use Rattle.std.proofs.Common.{◌≡◌, ◌⊎◌, inl, inr, ℕ, Bool, List, refl, sym, ◌∙◌, arith}
use Rattle.cr_cursor.specs.declared.law.Reason.{Reason}
use Rattle.cr_cursor.specs.declared.law.Reason.TheVariants as reason
use Rattle.cr_main_task.specs.Messages.{reason_status, refusal_status}
use Rattle.cr_main_task.specs.Outside.{Fails, Outside, Puts, Refuses}
use Rattle.cr_main_task.specs.Outside.Fails.{call_failed, starved}
use Rattle.cr_main_task.specs.Outside.Says.{said_whole, said_cut, said_starved}
use Rattle.cr_main_task.specs.declared.messages.Refusal.{Refusal}
use Rattle.cr_main_task.specs.declared.messages.Refusal.TheVariants as refusal

-- 0, 7 and 10, which no refusal has
abbrev pub IsOfEnds : ℕ → Type 0
IsOfEnds status = (status ≡ 0) ⊎ (status ≡ 7) ⊎ (status ≡ 10)

not_of_ends : (status n : ℕ) → status ≡ n → (n ≡ 0 → ⊥) → (n ≡ 7 → ⊥) → (n ≡ 10 → ⊥) → IsOfEnds status → ⊥
not_of_ends status n is not_0 not_7 not_10 (inl end) = not_0 (sym is ∙ end)
not_of_ends status n is not_0 not_7 not_10 (inr (inl end)) = not_7 (sym is ∙ end)
not_of_ends status n is not_0 not_7 not_10 (inr (inr end)) = not_10 (sym is ∙ end)

pub reason_is : (r : Reason) → (reason_status r ≡ 4) ⊎ (reason_status r ≡ 5)
reason_is (reason.Token n l) = inl refl
reason_is (reason.Parse n l) = inl refl
reason_is (reason.Name n l) = inl refl
reason_is (reason.Typing n l) = inl refl
reason_is (reason.Undefined n l) = inr refl
reason_is (reason.Left n l) = inr refl

-- a refusal's status
refusal_is : (r : Refusal) → IsOfEnds (refusal_status r) → ⊥
refusal_is refusal.NoFile end = not_of_ends 3 3 refl (λ e. omega (arith, e)) (λ e. omega (arith, e)) (λ e. omega (arith, e)) end
refusal_is (refusal.Against r) end = elim (reason_is r) [
  | inl four ↦ not_of_ends (reason_status r) 4 four (λ e. omega (arith, e)) (λ e. omega (arith, e)) (λ e. omega (arith, e)) end
  | inr five ↦ not_of_ends (reason_status r) 5 five (λ e. omega (arith, e)) (λ e. omega (arith, e)) (λ e. omega (arith, e)) end
]
refusal_is refusal.SaysNo end = not_of_ends 6 6 refl (λ e. omega (arith, e)) (λ e. omega (arith, e)) (λ e. omega (arith, e)) end
refusal_is refusal.TestFailed end = not_of_ends 8 8 refl (λ e. omega (arith, e)) (λ e. omega (arith, e)) (λ e. omega (arith, e)) end
refusal_is refusal.FileFault end = not_of_ends 9 9 refl (λ e. omega (arith, e)) (λ e. omega (arith, e)) (λ e. omega (arith, e)) end

pub put_status : (old new : Outside) (line : List ℕ) (n status : ℕ) → Puts old new line n n status → (status ≡ n) ⊎ (status ≡ 11)
put_status old new line n status (said_whole put is) = inl is
put_status old new line n status (said_cut m put rose is) = inl is
put_status old new line n status (said_starved m put is) = inr is

pub starved_is : (status : ℕ) → status ≡ 11 → IsOfEnds status → ⊥
starved_is status is end = not_of_ends status 11 is (λ e. omega (arith, e)) (λ e. omega (arith, e)) (λ e. omega (arith, e)) end

pub refused_is : (old new : Outside) (name : List ℕ) (r : Refusal) (status : ℕ) → Refuses old new name r status → IsOfEnds status → ⊥
refused_is old new name r status said end = elim (put_status old new _ (refusal_status r) status said) [
  | inl is ↦ refusal_is r (elim end [ inl zero ↦ inl (sym is ∙ zero) | inr (inl seven) ↦ inr (inl (sym is ∙ seven)) | inr (inr ten) ↦ inr (inr (sym is ∙ ten)) ])
  | inr is ↦ starved_is status is end
]

-- a failed write ends with 9 or 11
pub fails_status : {bytes : List ℕ} (saves : Bool) (old new : Outside) (name : List ℕ) (status : ℕ) → Fails saves old new name bytes status → (status ≡ 9) ⊎ (status ≡ 11)
fails_status saves old new name status (call_failed on rose calls said) = put_status old new _ 9 status said
fails_status saves old new name status (starved calls silent is) = inr is

pub fails_is : {bytes : List ℕ} (saves : Bool) (old new : Outside) (name : List ℕ) (status : ℕ) → Fails saves old new name bytes status → IsOfEnds status → ⊥
fails_is saves old new name status fails end = elim (fails_status saves old new name status fails) [
  | inl is ↦ not_of_ends status 9 is (λ e. omega (arith, e)) (λ e. omega (arith, e)) (λ e. omega (arith, e)) end
  | inr is ↦ starved_is status is end
]
