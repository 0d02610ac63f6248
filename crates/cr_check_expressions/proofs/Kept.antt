-- What is known stays so when the table of types grows.
use Rattle.std.proofs.Common.{◌≡◌, ◌<◌, List, length, ap, ◌∙◌, arith}
use Rattle.cr_check_types.specs.declared.shape.Shape.{Shape}
use Rattle.cr_check_types.specs.Types.{Grows}
use Rattle.cr_check_operands.specs.declared.fact.Fact.{Fact}
use Rattle.cr_check_operands.specs.Values.{seen_at}
use Rattle.cr_check_expressions.specs.Ruled.{AreFacts}

pub seen_kept : (old new : List Shape) (fact : Fact) → Grows old new → fact.row < length old → seen_at new fact ≡ seen_at old fact
seen_kept old new fact grows within = ap
    (λ type. record { type = type; lvalue = fact.lvalue; register = fact.register; constant = fact.constant; null = fact.null })
    (grows.keeps fact.row within)

pub facts_kept : (old new : List Shape) (facts : List Fact) → Grows old new → AreFacts old facts → AreFacts new facts
facts_kept old new facts grows h = record {
  room = let e = h.room in let l = grows.longer in omega (arith, e, l);
  first = grows.keeps 0 h.room ∙ h.first;
  rows = λ part. let e = h.rows part in let l = grows.longer in omega (arith, e, l);
}

pub grows_on : (old mid new : List Shape) → Grows old mid → Grows mid new → Grows old new
grows_on old mid new h k =
    let l = h.longer in
    let m = k.longer in
    record {
      longer = omega (arith, l, m);
      keeps = λ row low. k.keeps row (omega (arith, l, low)) ∙ h.keeps row low;
    }
