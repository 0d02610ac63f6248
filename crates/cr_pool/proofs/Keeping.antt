-- A cache of verdicts as the list of what it keeps.
use Rattle.std.proofs.Common.{◌≡◌, ◌+◌, ◌-◌, ◌≤◌, ◌⊎◌, inl, inr, ℕ, zero, suc, Bool, true, false, cond, List, [], ◌∷◌, length, take, Option, Some, None, Result, Ok, Err, OnOk, OnErr, refl, sym, ap, ◌∙◌, arith}
use Rattle.std.specs.Map.{lookup, lookup_entry, remove_entry}
use Rattle.std.specs.Option.{option_map_or}
use Rattle.std.specs.Str.{bytes_eq}
use Rattle.std.specs.declared.vec.Vec.{Vec}
use Rattle.std.proofs.lemmas.Bool.{true≢false}
use Rattle.std.proofs.lemmas.List.{length-map, take-map, take_all}
use Rattle.std.proofs.lemmas.Slice.Eq.{bytes_eq-Decides}
use Rattle.lru.specs.LruCache.{LruCache, lru_cache, put_entries}
use Rattle.lru.proofs.CallerLemmas.{Contains-lookup_entry}
use Rattle.cr_pool.specs.declared.verdict.Verdict.{Verdict}
use Rattle.cr_pool.specs.Kept.{IsKept, Keeps, Kept, kept_in, put_kept, without}

most_taken : (n : ℕ) (ks : List Kept) → length (take n ks) ≤ n
most_taken zero ks = omega arith
most_taken (suc n) [] = omega arith
most_taken (suc n) (k ∷ ks) = omega (arith, most_taken n ks)

module _ {A : Type 0} where
  -- a look-up that finds a verdict finds one that is kept
  pub keeps_found : (es : List (Vec ℕ A × Verdict)) (file : List ℕ) (v : Verdict) → lookup (λ k. bytes_eq file k.items) es ≡ Some v → Keeps (kept_in es) file v
  keeps_found [] file v found = cc
  keeps_found (e ∷ es) file v found = (elim (bytes_eq file e.0.items) as (λ y. bytes_eq file e.0.items ≡ y → Keeps (kept_in (e ∷ es)) file v) [
    | true ↦ λ same. let here = rw same at found in let is : e.1 ≡ v = cc in inl (sym ((bytes_eq-Decides file e.0.items).0 same), is)
    | false ↦ λ other. inr (keeps_found es file v (rw other at found))
  ]) refl

  none_below : (e : Vec ℕ A × Verdict) (es : List (Vec ℕ A × Verdict)) (file : List ℕ) → bytes_eq file e.0.items ≡ false → (IsKept (kept_in es) file → ⊥) → IsKept (kept_in (e ∷ es)) file → ⊥
  none_below e es file other rest (inl same) = true≢false (sym ((bytes_eq-Decides file e.0.items).1 (sym same)) ∙ other)
  none_below e es file other rest (inr kept) = rest kept

  -- and one that finds none is on a file that has none
  pub none_kept : (es : List (Vec ℕ A × Verdict)) (file : List ℕ) → lookup (λ k. bytes_eq file k.items) es ≡ None → IsKept (kept_in es) file → ⊥
  none_kept [] file none kept = kept
  none_kept (e ∷ es) file none kept = (elim (bytes_eq file e.0.items) as (λ y. bytes_eq file e.0.items ≡ y → ⊥) [
    | true ↦ λ same. let here = rw same at none in cc
    | false ↦ λ other. none_below e es file other (none_kept es file (rw other at none)) kept
  ]) refl

  abbrev same_key : Vec ℕ A → Vec ℕ A → Bool
  same_key k n = bytes_eq k.items n.items

  abbrev kept_of : Vec ℕ A × Verdict → Kept
  kept_of e = record { file = e.0.items; verdict = e.1 }

  module _ (key : Vec ℕ A) where
    -- the pairs without the one of a key are the kept verdicts without the one on its file
    without_is : (es : List (Vec ℕ A × Verdict)) → kept_in (remove_entry (same_key key) es) ≡ without key.items (kept_in es)
    without_is [] = refl
    without_is (e ∷ es) = elim (bytes_eq key.items e.0.items) as (λ y. kept_in (cond y es (e ∷ remove_entry (same_key key) es)) ≡ cond y (kept_in es) (kept_of e ∷ without key.items (kept_in es))) [
      | true ↦ refl
      | false ↦ ap (λ (ks : List Kept). kept_of e ∷ ks) (without_is es)
    ]

    nothing_goes : (es : List (Vec ℕ A × Verdict)) → lookup_entry (same_key key) es ≡ None → without key.items (kept_in es) ≡ kept_in es
    nothing_goes [] none = refl
    nothing_goes (e ∷ es) none = (elim (bytes_eq key.items e.0.items) as (λ y. bytes_eq key.items e.0.items ≡ y → without key.items (kept_in (e ∷ es)) ≡ kept_in (e ∷ es)) [
      | true ↦ λ same. let here = rw same at none in cc
      | false ↦ λ other. rw other (ap (λ (ks : List Kept). kept_of e ∷ ks) (nothing_goes es (rw other at none)))
    ]) refl

    one_goes : (es : List (Vec ℕ A × Verdict)) (f : Vec ℕ A × Verdict) → lookup_entry (same_key key) es ≡ Some f → length (remove_entry (same_key key) es) + 1 ≡ length es
    one_goes [] f found = cc
    one_goes (e ∷ es) f found = (elim (bytes_eq key.items e.0.items) as (λ y. bytes_eq key.items e.0.items ≡ y → length (remove_entry (same_key key) (e ∷ es)) + 1 ≡ length (e ∷ es)) [
      | true ↦ λ same. rw same (omega arith)
      | false ↦ λ other. rw other (omega (arith, one_goes es f (rw other at found)))
    ]) refl

    put_by : (c : LruCache (Vec ℕ A) Verdict) (w : Verdict) (n : ℕ) → c.cap ≡ suc n → length c.entries ≤ suc n → (o : Option (Vec ℕ A × Verdict)) → lookup_entry (same_key key) c.entries ≡ o
        → kept_in (option_map_or (λ e. (e.0, w) ∷ remove_entry (same_key key) c.entries) o ((key, w) ∷ take (c.cap - 1) c.entries)) ≡ put_kept (suc n) key.items w (kept_in c.entries)
    put_by c w n most few None none =
        let room : c.cap - 1 ≡ n = omega (arith, most) in
        let all : kept_in (take (c.cap - 1) c.entries) ≡ take n (without key.items (kept_in c.entries)) =
        ap (λ (m : ℕ). kept_in (take m c.entries)) room ∙ sym (take-map kept_of n c.entries) ∙ ap (λ (ks : List Kept). take n ks) (sym (nothing_goes c.entries none)) in
        ap (λ (ks : List Kept). record { file = key.items; verdict = w } ∷ ks) all
    put_by c w n most few (Some f) found =
        let same : f.0.items ≡ key.items = sym ((bytes_eq-Decides key.items f.0.items).0 (Contains-lookup_entry (same_key key) c.entries f found).1) in
        let rest : List Kept = without key.items (kept_in c.entries) in
        let fewer : length rest ≤ n = omega (arith, few, one_goes c.entries f found, length-map (remove_entry (same_key key) c.entries) kept_of, ap (λ (ks : List Kept). length ks) (without_is c.entries)) in
        let all : kept_in (remove_entry (same_key key) c.entries) ≡ take n rest = without_is c.entries ∙ sym (take_all n rest fewer) in
        ap (λ (file : List ℕ). record { file = file; verdict = w } ∷ kept_in (remove_entry (same_key key) c.entries)) same ∙ ap (λ (ks : List Kept). record { file = key.items; verdict = w } ∷ ks) all

    -- A put into a cache is one into the list of what is kept.
    pub put_is : (c : LruCache (Vec ℕ A) Verdict) (w : Verdict) → c.cap ≡ 256 → length c.entries ≤ 256 → kept_in (put_entries same_key c key w) ≡ put_kept 256 key.items w (kept_in c.entries)
    put_is c w most few = put_by c w 255 most few (lookup_entry (same_key key) c.entries) refl

    -- And no more than 256 are kept then.
    pub few_put : (c : LruCache (Vec ℕ A) Verdict) (w : Verdict) → c.cap ≡ 256 → length c.entries ≤ 256 → length (put_entries same_key c key w) ≤ 256
    few_put c w most few =
        let all : List Kept = record { file = key.items; verdict = w } ∷ without key.items (kept_in c.entries) in
        omega (arith, length-map (put_entries same_key c key w) kept_of, ap (λ (ks : List Kept). length ks) (put_is c w most few), most_taken 256 all)

    -- The same of a cache that a put has left.
    pub stored : (c new : LruCache (Vec ℕ A) Verdict) (w : Verdict) → new ≡ lru_cache (put_entries same_key c key w) c.cap → c.cap ≡ 256 → length c.entries ≤ 256
        → kept_in new.entries ≡ put_kept 256 key.items w (kept_in c.entries)
    stored c new w is most few = ap (λ (n : LruCache (Vec ℕ A) Verdict). kept_in n.entries) is ∙ put_is c w most few

    pub few_stored : {T E : Type 0} (r : Result T E) (c new : LruCache (Vec ℕ A) Verdict) (w : Verdict) → OnOk r (new ≡ lru_cache (put_entries same_key c key w) c.cap) → OnErr r (new ≡ c)
        → c.cap ≡ 256 → length c.entries ≤ 256 → length new.entries ≤ 256
    few_stored (Ok x) c new w put same most few = omega (arith, ap (λ (n : LruCache (Vec ℕ A) Verdict). length n.entries) put, few_put c w most few)
    few_stored (Err e) c new w put same most few = omega (arith, ap (λ (n : LruCache (Vec ℕ A) Verdict). length n.entries) same, few)

keeps_take : (n : ℕ) (ks : List Kept) (file : List ℕ) (said : Verdict) → Keeps (take n ks) file said → Keeps ks file said
keeps_take zero ks file said kept = absurd kept
keeps_take (suc n) [] file said kept = kept
keeps_take (suc n) (k ∷ ks) file said (inl here) = inl here
keeps_take (suc n) (k ∷ ks) file said (inr there) = inr (keeps_take n ks file said there)

keeps_without : (other : List ℕ) (ks : List Kept) (file : List ℕ) (said : Verdict) → Keeps (without other ks) file said → Keeps ks file said
keeps_without other [] file said kept = kept
keeps_without other (k ∷ ks) file said kept = (elim (bytes_eq other k.file) as (λ y. Keeps (cond y ks (k ∷ without other ks)) file said → Keeps (k ∷ ks) file said) [
  | true ↦ λ there. inr there
  | false ↦ λ there. elim there [
    | inl here ↦ inl here
    | inr later ↦ inr (keeps_without other ks file said later)
  ]
]) kept

keeps_first : (other : List ℕ) (v : Verdict) (ks : List Kept) (file : List ℕ) (said : Verdict) → Keeps (record { file = other; verdict = v } ∷ without other ks) file said
    → Keeps ks file said ⊎ ((file ≡ other) × (said ≡ v))
keeps_first other v ks file said (inl here) = inr (sym here.0, sym here.1)
keeps_first other v ks file said (inr there) = inl (keeps_without other ks file said there)

-- What is kept after a put was kept before, or was put.
pub keeps_put : (n : ℕ) (other : List ℕ) (v : Verdict) (ks : List Kept) (file : List ℕ) (said : Verdict) → Keeps (put_kept n other v ks) file said → Keeps ks file said ⊎ ((file ≡ other) × (said ≡ v))
keeps_put n other v ks file said kept = keeps_first other v ks file said (keeps_take n (record { file = other; verdict = v } ∷ without other ks) file said kept)
