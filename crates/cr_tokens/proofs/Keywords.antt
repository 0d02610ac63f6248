-- A word is compared with the keywords of its length alone.
use Rattle.std.proofs.Common.{◌≡◌, ◌≤◌, ◌<◌, ℕ, ◌==◌, Bool, true, false, List, length, nat_eq, nat_lt, sym, ◌∙◌, ap, arith, zero, suc}
use Rattle.std.specs.List.{list_any, filter}
use Rattle.std.specs.Cmp.Lexicographic.{pointwise, same_text}
use Rattle.std.proofs.lemmas.Bool.{eq-eqb, le-ltb}
use Rattle.std.proofs.lemmas.Map.Views.{any-filter_same}
use Rattle.cr_tokens.specs.Bytes.{is_among}
use Rattle.cr_tokens.specs.Words.{keywords}

-- a spelling stands in a table where it stands among those that are as long
pub among_as_long : (table : List (List ℕ)) (word : List ℕ) (n : ℕ) → length word ≡ n →
    is_among table word ≡ is_among (filter (λ t. length t == n) table) word
among_as_long table word n e = sym (any-filter_same (λ t. pointwise nat_eq t word) (λ t. length t == n) true as_long table)
  where
    as_long : (t : List ℕ) → pointwise nat_eq t word ≡ true → (length t == n) ≡ true
    as_long t same = eq-eqb (length t) n (ap length (same_text t word (sym same)) ∙ e)

-- no keyword has 15 bytes or more
pub none_as_long : (word : List ℕ) → 15 ≤ length word → is_among keywords word ≡ false
none_as_long word long = any-filter_same (λ t. pointwise nat_eq t word) (λ t. nat_lt (length t) 15) false longer keywords
  where
    longer : (t : List ℕ) → pointwise nat_eq t word ≡ true → nat_lt (length t) 15 ≡ false
    longer t same = le-ltb (length t) 15 (rw (same_text t word (sym same)) long)

-- a number below 15 is one of fifteen
pub below_15 : (P : ℕ → Type 0) → P 0 → P 1 → P 2 → P 3 → P 4 → P 5 → P 6 → P 7 → P 8 → P 9 → P 10 → P 11 → P 12 → P 13 → P 14 →
    (n : ℕ) → n < 15 → P n
below_15 P p0 p1 p2 p3 p4 p5 p6 p7 p8 p9 p10 p11 p12 p13 p14 zero lt = p0
below_15 P p0 p1 p2 p3 p4 p5 p6 p7 p8 p9 p10 p11 p12 p13 p14 (suc zero) lt = p1
below_15 P p0 p1 p2 p3 p4 p5 p6 p7 p8 p9 p10 p11 p12 p13 p14 (suc (suc zero)) lt = p2
below_15 P p0 p1 p2 p3 p4 p5 p6 p7 p8 p9 p10 p11 p12 p13 p14 (suc (suc (suc zero))) lt = p3
below_15 P p0 p1 p2 p3 p4 p5 p6 p7 p8 p9 p10 p11 p12 p13 p14 (suc (suc (suc (suc zero)))) lt = p4
below_15 P p0 p1 p2 p3 p4 p5 p6 p7 p8 p9 p10 p11 p12 p13 p14 (suc (suc (suc (suc (suc zero))))) lt = p5
below_15 P p0 p1 p2 p3 p4 p5 p6 p7 p8 p9 p10 p11 p12 p13 p14 (suc (suc (suc (suc (suc (suc zero)))))) lt = p6
below_15 P p0 p1 p2 p3 p4 p5 p6 p7 p8 p9 p10 p11 p12 p13 p14 (suc (suc (suc (suc (suc (suc (suc zero))))))) lt = p7
below_15 P p0 p1 p2 p3 p4 p5 p6 p7 p8 p9 p10 p11 p12 p13 p14 (suc (suc (suc (suc (suc (suc (suc (suc zero)))))))) lt = p8
below_15 P p0 p1 p2 p3 p4 p5 p6 p7 p8 p9 p10 p11 p12 p13 p14 (suc (suc (suc (suc (suc (suc (suc (suc (suc zero))))))))) lt = p9
below_15 P p0 p1 p2 p3 p4 p5 p6 p7 p8 p9 p10 p11 p12 p13 p14 (suc (suc (suc (suc (suc (suc (suc (suc (suc (suc zero)))))))))) lt = p10
below_15 P p0 p1 p2 p3 p4 p5 p6 p7 p8 p9 p10 p11 p12 p13 p14 (suc (suc (suc (suc (suc (suc (suc (suc (suc (suc (suc zero))))))))))) lt = p11
below_15 P p0 p1 p2 p3 p4 p5 p6 p7 p8 p9 p10 p11 p12 p13 p14 (suc (suc (suc (suc (suc (suc (suc (suc (suc (suc (suc (suc zero)))))))))))) lt = p12
below_15 P p0 p1 p2 p3 p4 p5 p6 p7 p8 p9 p10 p11 p12 p13 p14 (suc (suc (suc (suc (suc (suc (suc (suc (suc (suc (suc (suc (suc zero))))))))))))) lt = p13
below_15 P p0 p1 p2 p3 p4 p5 p6 p7 p8 p9 p10 p11 p12 p13 p14 (suc (suc (suc (suc (suc (suc (suc (suc (suc (suc (suc (suc (suc (suc zero)))))))))))))) lt = p14
below_15 P p0 p1 p2 p3 p4 p5 p6 p7 p8 p9 p10 p11 p12 p13 p14 (suc (suc (suc (suc (suc (suc (suc (suc (suc (suc (suc (suc (suc (suc (suc n))))))))))))))) lt = absurd (omega (arith, lt))
