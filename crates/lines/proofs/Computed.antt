-- The runs of specs/Examples, computed by the definitions.
use mathlib.Core.Path.{refl, sym, subst}
use mathlib.Core.Bool.{false≢true}
use mathlib.Core.List.{flatten}
use Prim.Native.Nat.{ℕ, ◌<◌}
use lib.Dec.{leb, lit<}
use lib.ListN.{get_or-replicate}
use borrow.Author.Tests.{leb-true}
use Rattle.words.specs.Below.{all_below, or_below}
use Rattle.words.specs.Among.{is_among}
use Rattle.lines.specs.Look.{look}
use Rattle.lines.specs.Arbitration.{Highest, every_contender, is_round, are_rounds}
use Rattle.lines.specs.Arbitration.{shown, looked, settled, after_look, after_looks}
use Rattle.lines.specs.Promises.{InRange}
use Rattle.lines.specs.Examples.{four_nine_ten, silent, three_listed, ThreeRoundsFallShort, ThreeListed, LoneCard}
use Rattle.lines.proofs.ContenderLaws.{every_contender_holds}

ten_is_highest : Highest four_nine_ten 10
unfolding every_contender all_below is_among
ten_is_highest = record {
  contender = record { present = lit< tt; contending = refl };
  top = λ q k. leb-true q 10 ((every_contender_holds four_nine_ten (λ n. leb n 10)).0 refl q k);
}

silent_in_range : InRange four_nine_ten silent
silent_in_range = record { size = refl; below = λ q k. subst (λ (x : ℕ). x < 16) (sym (get_or-replicate 16 q 0 0 k.present)) (lit< tt) }

pub three_rounds_fall_short : ThreeRoundsFallShort
unfolding every_contender shown looked settled after_look after_looks is_round are_rounds all_below or_below is_among look flatten
three_rounds_fall_short = record {
  highest = ten_is_highest;
  start = silent_in_range;
  rounds = refl;
  one = refl;
  two = refl;
  three = refl;
  nobody_has_it = refl;
  unsettled = refl;
  fourth = record { shows = refl; still = refl };
  further = refl;
  too_few = refl;
}

pub three_listed_holds : ThreeListed
unfolding every_contender shown looked settled after_look after_looks all_below or_below look flatten
three_listed_holds = record {
  highest = record {
    contender = record { present = lit< tt; contending = refl };
    top = λ q k. leb-true (three_listed.number q) 10 ((every_contender_holds three_listed (λ r. leb (three_listed.number r) 10)).0 refl q k);
  };
  one = refl;
  three = refl;
  fourth = record { shows = refl; still = refl };
}

pub lone_card : LoneCard
unfolding every_contender shown looked settled after_look after_looks all_below or_below look
lone_card = record {
  card_zero = record { shows = refl; still = refl };
  whole = record { shows = refl; still = refl };
  stray_once = refl;
  stray_twice = record { shows = refl; still = refl };
  idle = record { shows = refl; still = refl };
  idle_looks = refl;
  idle_loses = λ best. false≢true best.contender.contending;
}
