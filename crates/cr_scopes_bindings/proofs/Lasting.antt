-- One number more in a column of the last ones.
use Rattle.std.proofs.Common.{◌≡◌, ℕ, suc, ◌+◌, ◌<◌, List, Option, Some, None, length, slice_index_or, if◌then◌else◌, ap, ◌∙◌, subst, arith}
use Rattle.cr_scopes.specs.Resolved.{is_number}
use Rattle.cr_scopes_bindings.specs.Last.{AreLast}

pub put_last : (key : ℕ → Option ℕ) (at number keys : ℕ) (given : Option ℕ) (old new : List (Option ℕ)) → AreLast key at keys old
    → given ≡ key number → number ≡ at → length new ≡ length old
    → ((k : ℕ) → k < length old → slice_index_or new k None ≡ (if is_number given k then Some number else slice_index_or old k None))
    → AreLast key (at + 1) keys new
put_last key at number keys given old new h g n c e =
    let step : suc at ≡ at + 1 = omega arith in
    subst (λ m. AreLast key m keys new) step record {
      count = c ∙ h.count;
      each = λ k low.
          e k (let l = h.count in omega (arith, l, low))
          ∙ ap (λ o. if is_number o k then Some number else slice_index_or old k None) g
          ∙ ap (λ m. if is_number (key m) k then Some m else slice_index_or old k None) n
          ∙ ap (λ o. if is_number (key at) k then Some at else o) (h.each k low);
    }
