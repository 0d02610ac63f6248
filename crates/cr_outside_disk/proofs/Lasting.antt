-- What lasts, call by call.
use Rattle.std.proofs.Common.{◌≡◌, ◌⊎◌, inl, inr, ℕ, ◌+◌, List, [], ◌∷◌, length, Option, Some, None, Result, Ok, Err, sym, ◌∙◌, ap, subst, arith}
use Rattle.cr_outside.specs.Story.{Change, Story}
use Rattle.cr_outside.specs.Story.Change.{Synced}
use Rattle.cr_outside_disk.specs.declared.disk.DiskFault.{DiskFault}
use Rattle.cr_outside_disk.specs.Moments.{Every, EveryTold, Lasts, LastsTold, Later, Makes, Syncs, after_changes, with_change}
use Rattle.cr_outside_disk.proofs.Moments.{back, ends_of, later_more, later_on, later_same, longer, synced_now}

module _ (P : List ℕ → Type 0) where
  same_then : (s : Story) → Lasts P s s
  same_then s m n from ([], is) to was = subst (λ (t : Story). Every P t) (sym is) was
  same_then s m n (past, from) (c ∷ more, is) (rest, to) was =
      absurd (omega (
        arith,
        ap (λ (t : Story). length t.events) from,
        ap (λ (t : Story). length t.events) is,
        ap (λ (t : Story). length t.events) to,
        longer past s,
        longer (c ∷ more) m,
        longer rest n,
      ))

  -- no call yet
  pub lasts_same : (told : Option Story) → LastsTold P told told
  lasts_same None = tt
  lasts_same (Some s) = (later_same s, same_then s)

  on : (old mid : Story) (change : Change) → Lasts P old mid → (Every P mid → Every P (after_changes (change ∷ []) mid)) → Lasts P old (after_changes (change ∷ []) mid)
  on old mid change lasts step m n from ([], same) ([], is) was = subst (λ (t : Story). Every P t) (sym same) was
  on old mid change lasts step m n from (c ∷ more, goes) ([], is) was =
      subst (λ (t : Story). Every P t) is (step (lasts m mid from (more, ap back (is ∙ goes)) (later_same mid) was))
  on old mid change lasts step m n from so_far (d ∷ rest, is) was = lasts m n from so_far (rest, ap back is) was

  -- one change more
  pub lasts_on : (old mid : Option Story) (change : Change) → LastsTold P old mid → (EveryTold P mid → EveryTold P (with_change change mid))
      → LastsTold P old (with_change change mid)
  lasts_on None None change so_far step = so_far
  lasts_on None (Some mid) change so_far step = elim so_far [ ]
  lasts_on (Some old) None change so_far step = elim so_far [ ]
  lasts_on (Some old) (Some mid) change (later, lasts) step = (later_more old mid change later, on old mid change lasts step)

  -- a change is made, or refused and made or not
  pub lasts_makes : (old mid new : Option Story) (change : Change) (result : Result (Unit {0}) DiskFault) → LastsTold P old mid
      → Makes mid new change result → (EveryTold P mid → EveryTold P (with_change change mid)) → LastsTold P old new
  lasts_makes old mid new change (Ok done) so_far made step = subst (LastsTold P old) (sym made) (lasts_on old mid change so_far step)
  lasts_makes old mid new change (Err fault) so_far (inl same) step = subst (LastsTold P old) (sym same) so_far
  lasts_makes old mid new change (Err fault) so_far (inr made) step = subst (LastsTold P old) (sym made) (lasts_on old mid change so_far step)

  pub lasts_syncs : (old mid new : Option Story) (result : Result (Unit {0}) DiskFault) → LastsTold P old mid → Syncs mid new result → LastsTold P old new
  lasts_syncs old mid new (Ok done) so_far made = subst (LastsTold P old) (sym made) (lasts_on old mid Synced so_far (synced_now P mid))
  lasts_syncs old mid new (Err fault) so_far same = subst (LastsTold P old) (sym same) so_far

  then_on : (old mid new : Story) → Later mid new → Lasts P old mid → Lasts P mid new → Lasts P old new
  then_on old mid new (zs, ends) first then m n from so_far (ys, to) was = elim (ends_of zs ys mid n (sym ends ∙ to)) [
    | inl before ↦ first m n from so_far before was
    | inr behind ↦
        let (xs, all) = later_on m n new so_far (ys, to) in
        elim (ends_of zs xs mid m (sym ends ∙ all)) [
          | inl early ↦ then mid n (later_same mid) behind (ys, to) (first m mid from early (later_same mid) was)
          | inr late ↦ then m n late so_far (ys, to) was
        ]
  ]

  -- one run of calls after another
  pub lasts_further : (old mid new : Option Story) → LastsTold P old mid → LastsTold P mid new → LastsTold P old new
  lasts_further None None None first then = first
  lasts_further None None (Some new) first then = elim then [ ]
  lasts_further None (Some mid) new first then = elim first [ ]
  lasts_further (Some old) None new first then = elim first [ ]
  lasts_further (Some old) (Some mid) None first then = elim then [ ]
  lasts_further (Some old) (Some mid) (Some new) (later, lasts) (further, still) =
      (later_on old mid new later further, then_on old mid new further lasts still)
