-- The test of agreement is the fact.
use Rattle.std.proofs.Common.{◌≡◌, ℤ, Bool, true, false, ◌==◌, T, refl}
use Rattle.std.specs.Prelude.{int_le, IsTrue, ◌↔◌}
use Rattle.std.specs.Int.Signed.{le_z_yes}
use Rattle.std.proofs.lemmas.Bool.{eqb-true, eq-eqb, and_parts, and_from}
use Rattle.std.proofs.lemmas.Float.{T_from_true}
use Rattle.cr_ints.specs.declared.kind.IntKind.{IntKind}
use Rattle.cr_ints.specs.IntKind.{Represents, can_represent, least_of, greatest_of, rank_of}
use Rattle.cr_library.specs.Argument.{Agrees, agrees}

true_from : (b : Bool) → T b → b ≡ true
true_from true t = refl
true_from false t = absurd t

pub agreement_is_tested : (wanted kind : IntKind) (value : ℤ) → Represents kind value → IsTrue (agrees wanted kind value) ↔ Agrees wanted kind value
agreement_is_tested wanted kind value in_kind = (fact, test)
  where
    fact : IsTrue (agrees wanted kind value) → Agrees wanted kind value
    fact told =
        let parts : ((rank_of kind == rank_of wanted) ≡ true) × (can_represent wanted value ≡ true) = and_parts (rank_of kind == rank_of wanted) (can_represent wanted value) told in
        let range : (int_le (least_of wanted) value ≡ true) × (int_le value (greatest_of wanted) ≡ true) = and_parts (int_le (least_of wanted) value) (int_le value (greatest_of wanted)) parts.1 in
        record {
          rank = eqb-true (rank_of kind) (rank_of wanted) parts.0;
          in_kind = in_kind;
          in_wanted = record {
            from_least = le_z_yes (T_from_true (int_le (least_of wanted) value) range.0);
            to_greatest = le_z_yes (T_from_true (int_le value (greatest_of wanted)) range.1);
          };
        }

    test : Agrees wanted kind value → IsTrue (agrees wanted kind value)
    test told =
        and_from (rank_of kind == rank_of wanted) (can_represent wanted value) (eq-eqb (rank_of kind) (rank_of wanted) told.rank)
        (and_from (int_le (least_of wanted) value) (int_le value (greatest_of wanted))
        (true_from (int_le (least_of wanted) value) (told.in_wanted).from_least.le)
        (true_from (int_le value (greatest_of wanted)) (told.in_wanted).to_greatest.le))
