-- Who wins, why the others lose, and that what they are told is true.
use Prim.Native.Nat.{ℕ, ◌%◌, ◌^◌, ◌<◌}
use mathlib.Core.Path.{◌≡◌, refl, sym, ap, subst, ◌∙◌}
use mathlib.Core.Logic.{◌⊎◌, inl, inr}
use mathlib.Core.Bool.{Bool, true, false, true≢false}
use native.Mathlib.Nat.{mod-eq_of_lt, le_of_suc-le-suc}
use native.Mathlib.Decide.{dec_lt}
use native.Mathlib.Omega.{arith}
use lib.Dec.{eqb}
use lib.ListN.{get_or}
use borrow.Author.Tests.{ne_eqb}
use Rattle.words.specs.Bits.{bit_at}
use Rattle.lines.specs.Arbitration.{Contender, Highest}
use Rattle.bus.specs.Refusal as Refusal
use Rattle.bus.specs.State.{arbitration_of, lines_of}
use Rattle.bus.specs.declared.state.Bus.{Bus}
use Rattle.bus.proofs.SenseLaws.{sense_means}
use Rattle.bus.proofs.Granting.{contender_of}
use Rattle.runs.specs.Run.{call, bus_after}
use Rattle.runs.specs.Promises.{right_acknowledge}
use Rattle.runs.proofs.DemandThree.{grants_next}
use Rattle.outcome.specs.Losing.{no_line, line_lost}
use Rattle.outcome.specs.Outcomes.{loss, decided_at, settled_outcome, outcome_of, figures_of, Outcome, Refused, Wins, Loses}
use Rattle.outcome.specs.Promises.{
  Asked,
  SettledArbitration,
  AcknowledgeGrants,
  Winner,
  OneWins,
  LosesTo,
  LosesBy,
  OthersLose,
  TrueReason,
  ReasonIsTrue,
  RivalIsTheWinner,
}
use Rattle.outcome.proofs.Parting.{PartAt, part_at, never_parts}
use Rattle.outcome.proofs.Refused.{decided, of_asked, answered_if_asked}
use Rattle.outcome.proofs.Rivals.{winner_is, winner_low, winner_drives, rival_is}

-- ---- A contender in a settled arbitration

pub asked_by : (bus : Bus) → SettledArbitration bus → (card : ℕ) → Contender (arbitration_of bus) card → Asked bus card
asked_by bus here card contender =
    let sense = (sense_means bus).0 here.arbitrates.sense in record {
      sense = sense;
      number = le_of_suc-le-suc contender.present;
      fitted = sense.contention.contenders_fitted card contender.contending;
      phase = here.arbitrates.phase;
      contends = contender.contending;
      settled = here.settled;
    }

-- and what was asked for is that
settled_in : (bus : Bus) (card : ℕ) → Asked bus card → SettledArbitration bus
settled_in bus card asked = record {
  arbitrates = record { sense = (sense_means bus).1 asked.sense; phase = asked.phase };
  settled = asked.settled;
}

module _ (bus : Bus) (here : SettledArbitration bus) (card : ℕ) (contender : Contender (arbitration_of bus) card) where
  -- only the line decides
  decided_by : outcome_of bus card ≡ decided_at bus (line_lost card (lines_of bus))
  unfolding settled_outcome
  decided_by = decided bus card (of_asked bus card (asked_by bus here card contender))

  wins_at : card ≡ lines_of bus → outcome_of bus card ≡ Wins
  wins_at same =
      let none : line_lost card (lines_of bus) ≡ no_line = rw same (never_parts 4 (lines_of bus) no_line) in
      decided_by ∙ rw none

  -- a lower number parts from the winner's at the line where it loses
  parts_there : card < lines_of bus → PartAt 4 card (lines_of bus) (line_lost card (lines_of bus))
  parts_there below =
      part_at 4 card (lines_of bus) no_line
      (subst (λ (m : ℕ). card % 2 ^ 4 < m) (sym (mod-eq_of_lt (winner_low bus here)))
      (subst (λ (n : ℕ). n < lines_of bus) (sym (mod-eq_of_lt contender.present)) below))

  loses_at : card < lines_of bus → outcome_of bus card ≡ Loses (loss (line_lost card (lines_of bus)) (lines_of bus))
  loses_at below =
      let parts = parts_there below in
      let there : eqb (line_lost card (lines_of bus)) no_line ≡ false = ne_eqb (line_lost card (lines_of bus)) no_line (λ e. omega (arith, parts.within, e)) in
      let rival = rival_is bus here (line_lost card (lines_of bus)) parts.one in
      decided_by ∙ rw there (ap (λ (r : ℕ). Loses (loss (line_lost card (lines_of bus)) r)) rival)

  lower_or_winner : (card < lines_of bus) ⊎ (card ≡ lines_of bus)
  lower_or_winner = go (dec_lt card (lines_of bus))
    where
      go : Dec (card < lines_of bus) → (card < lines_of bus) ⊎ (card ≡ lines_of bus)
      go (yes below) = inl below
      go (no above) = inr (omega (arith, (winner_is bus here).top card contender))

-- ---- What was told

-- of a card that is told no refusal, all is in order
answered : (bus : Bus) (card : ℕ) (told : Outcome) → outcome_of bus card ≡ told → (figures_of card told).answer ≡ Refusal.accepted → Asked bus card
answered bus card told e accepted = (answered_if_asked bus card).0 (ap (λ (o : Outcome). (figures_of card o).answer) e ∙ accepted)

contends_of : (bus : Bus) (card : ℕ) → Asked bus card → Contender (arbitration_of bus) card
contends_of bus card asked = contender_of bus card asked.contends

-- a win is told from a loss
abbrev is_win : Outcome → Bool
is_win (Refused refusal) = false
is_win Wins = true
is_win (Loses lost) = false

-- who is told a reason has a number below the lines', which are the rival, and the line is where it parts from it
module _ (bus : Bus) (card line rival : ℕ) (told : outcome_of bus card ≡ Loses (loss line rival)) where
  asked : Asked bus card
  asked = answered bus card _ told refl

  here : SettledArbitration bus
  here = settled_in bus card asked

  contender : Contender (arbitration_of bus) card
  contender = contends_of bus card asked

  record Told : Type 0 where
    below : card < lines_of bus
    line_is : line_lost card (lines_of bus) ≡ line
    rival_is : lines_of bus ≡ rival

  as_told : Told
  as_told = go (lower_or_winner bus here card contender)
    where
      go : (card < lines_of bus) ⊎ (card ≡ lines_of bus) → Told
      go (inl below) =
          let same = sym (loses_at bus here card contender below) ∙ told in record {
            below = below;
            line_is = ap (λ (o : Outcome). (figures_of card o).line) same;
            rival_is = ap (λ (o : Outcome). (figures_of card o).rival) same;
          }
      go (inr top) = absurd (wins_told (sym (wins_at bus here card contender top) ∙ told))
        where
          wins_told : Wins ≡ Loses (loss line rival) → ⊥
          wins_told e = true≢false (ap is_win e)

-- ---- The promises

granted_next : (bus : Bus) → SettledArbitration bus → AcknowledgeGrants bus (lines_of bus)
granted_next bus here memory ports right =
    let next = grants_next bus here.arbitrates here.settled (lines_of bus) refl memory ports right in
    (next.0, next.1.1)

winner_of : (bus : Bus) → SettledArbitration bus → Winner bus (lines_of bus)
winner_of bus here = record {
  wins = wins;
  told = ap (figures_of (lines_of bus)) wins;
  alone = λ other told. only other told (lower_or_winner bus here other (contends_of bus other (answered bus other Wins told refl)));
  highest = winner_is bus here;
  granted = granted_next bus here;
}
  where
    wins : outcome_of bus (lines_of bus) ≡ Wins
    wins = wins_at bus here (lines_of bus) (winner_is bus here).contender refl

    only : (other : ℕ) → outcome_of bus other ≡ Wins → (other < lines_of bus) ⊎ (other ≡ lines_of bus) → other ≡ lines_of bus
    only other told (inr same) = same
    only other told (inl below) =
        let contender = contends_of bus other (answered bus other Wins told refl) in
        absurd (true≢false (ap is_win (sym told ∙ loses_at bus here other contender below)))

pub one_wins : OneWins
one_wins bus here = (lines_of bus, winner_of bus here)

-- the line and the rival that the request asks for, and that there are no others
module _ (bus : Bus) (here : SettledArbitration bus) (card : ℕ) (contender : Contender (arbitration_of bus) card) (below : card < lines_of bus) where
  abbrev line : ℕ
  line = line_lost card (lines_of bus)

  parts : PartAt 4 card (lines_of bus) line
  parts = parts_there bus here card contender below

  -- no higher line has 0 and 1
  alike_above : (k : ℕ) → line < k → k < 4 → bit_at card k ≡ false → bit_at (lines_of bus) k ≡ true → ⊥
  alike_above k above h zero shown = true≢false (sym shown ∙ sym (parts.alike k above h) ∙ zero)

  drives_there : bit_at (get_or bus.driven (lines_of bus) 0) line ≡ true
  drives_there = ap (λ (level : ℕ). bit_at level line) (winner_drives bus here) ∙ parts.one

  loses_to : LosesTo bus card line (lines_of bus)
  loses_to = record {
    one_of_four = parts.within;
    has_zero = parts.lacks;
    shown = parts.one;
    none_higher = alike_above;
    contends = (winner_is bus here).contender;
    drives = drives_there;
    nobody_higher = λ q contends drives. (winner_is bus here).top q contends;
  }

  same_line : (other rival : ℕ) → LosesTo bus card other rival → other ≡ line
  same_line other rival to = go (dec_lt other line) (dec_lt line other)
    where
      go : Dec (other < line) → Dec (line < other) → other ≡ line
      go (yes lower) d = absurd (to.none_higher line lower parts.within parts.lacks parts.one)
      go (no l) (yes higher) = absurd (alike_above other higher to.one_of_four to.has_zero to.shown)
      go (no l) (no h) = omega arith

  same_rival : (other rival : ℕ) → LosesTo bus card other rival → rival ≡ lines_of bus
  same_rival other rival to =
      let drives : bit_at (get_or bus.driven (lines_of bus) 0) other ≡ true = rw (same_line other rival to) drives_there in
      omega (arith, to.nobody_higher (lines_of bus) (winner_is bus here).contender drives, (winner_is bus here).top rival to.contends)

  loses_by : LosesBy bus card line (lines_of bus)
  loses_by =
      let loses = loses_at bus here card contender below in record {
        loses = loses;
        told = ap (figures_of card) loses;
        reason = loses_to;
        only = λ other rival to. (same_line other rival to, same_rival other rival to);
      }

pub others_lose : OthersLose
others_lose bus here card contender lower = go (lower_or_winner bus here card contender)
  where
    go : (card < lines_of bus) ⊎ (card ≡ lines_of bus) → (line : ℕ) × ((rival : ℕ) × LosesBy bus card line rival)
    go (inl below) = (line_lost card (lines_of bus), (lines_of bus, loses_by bus here card contender below))
    go (inr same) = absurd (lower (subst (Highest (arbitration_of bus)) (sym same) (winner_is bus here)))

pub reason_is_true : ReasonIsTrue
reason_is_true bus card line rival told =
    let settled = here bus card line rival told in
    let contends = contender bus card line rival told in
    let is = as_told bus card line rival told in
    subst (TrueReason bus card line) is.rival_is
    (subst (λ (l : ℕ). TrueReason bus card l (lines_of bus)) is.line_is
    (let part = parts bus settled card contends is.below in record {
      one_of_four = part.within;
      contends = (winner_is bus settled).contender;
      outranks = is.below;
      agrees = λ k above h. sym (part.alike k above h);
      parts = (part.lacks, part.one);
      drives = drives_there bus settled card contends is.below;
      not_granted = λ memory ports right.
          let next = granted_next bus settled memory ports right in
          (next.0, λ (mine : (bus_after bus (call right_acknowledge memory ports)).granted ≡ card). omega (arith, is.below, sym next.1 ∙ mine));
    }))

pub rival_is_the_winner : RivalIsTheWinner
rival_is_the_winner bus card line rival told =
    let settled = here bus card line rival told in
    let is = as_told bus card line rival told in
    (is.rival_is, subst (Winner bus) is.rival_is (winner_of bus settled))
