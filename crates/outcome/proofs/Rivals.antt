-- Settled lines: the highest contender drives its whole number, and so it is the rival of every other.
use Prim.Native.Nat.{ℕ, ◌<◌}
use mathlib.Core.Path.{◌≡◌, sym, ap, ◌∙◌}
use mathlib.Core.Logic.{◌⊎◌, inl, inr}
use mathlib.Core.Bool.{true, false}
use native.Mathlib.Nat.{mod-eq_of_lt}
use native.Mathlib.Omega.{arith}
use lib.ListN.{get_or}
use Rattle.words.specs.Bits.{bit_at}
use Rattle.words.proofs.TestLaws.{true_or_false, both_of}
use Rattle.words.proofs.FirstLaws.{highest_is}
use Rattle.lines.specs.Arbitration.{Highest, looked}
use Rattle.lines.proofs.LookLaws.{look_own}
use Rattle.lines.proofs.Settling.{settled_at}
use Rattle.cards.specs.Cards.{card_in}
use Rattle.bus.specs.State.{arbitration_of, lines_of, nobody}
use Rattle.bus.specs.declared.state.Bus.{Bus}
use Rattle.bus.proofs.Granting.{contender_of, settled_show_it}
use Rattle.outcome.specs.Losing.{drives_line, rival_at}
use Rattle.outcome.specs.Promises.{SettledArbitration}

module _ (bus : Bus) (here : SettledArbitration bus) where
  -- the lines name the highest contender
  pub winner_is : Highest (arbitration_of bus) (lines_of bus)
  winner_is = settled_show_it bus here.arbitrates.sense here.arbitrates.phase here.settled

  pub winner_low : lines_of bus < 16
  winner_low = winner_is.contender.present

  -- it looks at its own number, and so drives all of it
  pub winner_drives : get_or bus.driven (lines_of bus) 0 ≡ lines_of bus
  unfolding looked
  winner_drives =
      sym (settled_at (arbitration_of bus) bus.driven here.settled (lines_of bus) winner_is.contender)
      ∙ look_own 4 (lines_of bus)
      ∙ mod-eq_of_lt winner_low

  -- a line that shows 1 it drives, and nobody higher does
  pub rival_is : (line : ℕ) → bit_at (lines_of bus) line ≡ true → rival_at bus line ≡ lines_of bus
  rival_is line shows =
      highest_is (drives_line bus line) 16 nobody (lines_of bus) winner_low
      (rw winner_is.contender.contending (ap (λ (level : ℕ). bit_at level line) winner_drives ∙ shows))
      (λ card above low. idle card above (true_or_false (drives_line bus line card)))
    where
      idle : (card : ℕ) → lines_of bus < card → (drives_line bus line card ≡ true) ⊎ (drives_line bus line card ≡ false) → drives_line bus line card ≡ false
      idle card above (inr f) = f
      idle card above (inl t) =
          let contends = (both_of (card_in bus.contenders card) (bit_at (get_or bus.driven card 0) line) t).0 in
          absurd (omega (arith, above, winner_is.top card (contender_of bus card contends)))
