-- Judges with the keys of others man a bench as these do.
use Rattle.std.proofs.Common.{◌≡◌, ℕ, List, length, map, slice_index_or, sym, ap, ◌∙◌, arith}
use lib.ListN.{length-map, get_or-map}
use Rattle.cr_pool.specs.Bench.{IsManned}

pub manned_by_keys : {J K : Type 0} (key : J → K) (old new : List J) → map key new ≡ map key old → IsManned key old → IsManned key new
manned_by_keys {J} {K} key old new same it =
    let len : length new ≡ length old = sym (length-map new key) ∙ ap (λ (l : List K). length l) same ∙ length-map old key in
    let some = it.0 in
    let few = it.1 in
    let one : (i : ℕ) (d : J) → key (slice_index_or new i d) ≡ key (slice_index_or old i d) =
    λ i d. sym (get_or-map key new i d) ∙ ap (λ (l : List K). slice_index_or l i (key d)) same ∙ get_or-map key old i d in
    (omega (arith, len, some), omega (arith, len, few), λ i j d low high. one i d ∙ it.2 i j d (omega (arith, len, low)) (omega (arith, len, high)) ∙ sym (one j d))
