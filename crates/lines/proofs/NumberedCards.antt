-- Cards whose place is their number, as on this bus: every number fits the lines, no two are the same, and card 0 alone shows 0.
use native.Mathlib.Nat.{le_of_eq}
use lib.Pow.{pow_pos}
use Rattle.lines.specs.Arbitration.{by_number}
use Rattle.lines.specs.Promises.{ByNumber, CardZeroAlone}
use Rattle.lines.proofs.Settling.{settled_show_highest}

pub by_number_holds : ByNumber
by_number_holds w contends = (λ q k. k.present, λ q r kq kr e. e)

pub card_zero_alone : CardZeroAlone
card_zero_alone w contends zero_contends alone =
    settled_show_highest (by_number w contends) (by_number_holds w contends).0 0 record {
      contender = record { present = pow_pos w; contending = zero_contends };
      top = λ q k. le_of_eq (alone q k);
    }
