-- What is kept of the workers' notes, one position after another.
use Rattle.std.proofs.Common.{◌≡◌, ℕ, ◌+◌, true, false, List, Result, Ok, Err, OnOk, OnErr, is_err, subst, arith}
use Prim.Native.Nat.{suc}
use Rattle.cr_cursor.specs.Variants.{Offer}
use Rattle.cr_pool.specs.declared.crew.Worker.{Worker}
use Rattle.cr_pool.specs.Endings.{TakesNote, TakesNotes}
use Rattle.cr_pool.specs.Kept.{Kept}

pub if_ok : {T E : Type 0} (r : Result T E) (P : Type 0) → is_err r ≡ false → OnOk r P → P
if_ok (Ok x) P not it = it
if_ok (Err e) P not it = cc

pub if_err : {T E : Type 0} (r : Result T E) (P : Type 0) → is_err r ≡ true → OnErr r P → P
if_err (Ok x) P failed it = cc
if_err (Err e) P failed it = it

-- What was noted of one position more was put, or lost.
pub takes_more : {J : Type 0} (offer : Offer) (start n : ℕ) (workers : List (Worker J)) (old middle new : List Kept) (gone lost : ℕ) → TakesNotes offer start n workers old middle gone
    → TakesNote offer start n workers middle gone new lost → TakesNotes offer start (n + 1) workers old new lost
takes_more offer start n workers old middle new gone lost takes note =
    let next : suc n ≡ n + 1 = omega arith in
    subst (λ (m : ℕ). TakesNotes offer start m workers old new lost) next (middle, gone, takes, note)
