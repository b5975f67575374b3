-- The single runs, computed on the bus, for every memory of the right length.
use Prim.Native.Nat.{ℕ, ◌≤◌}
use mathlib.Core.Path.{◌≡◌, refl, sym, ap, ◌∙◌}
use mathlib.Core.Logic.{⊎_elim}
use mathlib.Core.Bool.{Bool, not, true, false}
use mathlib.Core.List.{List, [], ◌++◌}
use native.Mathlib.Omega.{arith}
use lib.ListN.{get_or}
use borrow.Author.Tests.{le-ltb}
use Rattle.words.specs.Below.{all_below, or_below}
use Rattle.words.specs.Among.{is_among, every_listed, beside, has_beside}
use Rattle.words.specs.First.{first_of, least_below}
use Rattle.lines.specs.Look.{look}
use Rattle.lines.specs.Arbitration.{every_contender, shown, looked, settled, is_round}
use Rattle.phases.specs.Kind as Kind
use Rattle.cards.specs.Cards.{card_in, some_card, is_within}
use Rattle.bus.specs.Refusal as Refusal
use Rattle.bus.specs.Sense.{driving_fits, standing_fits, makes_sense}
use Rattle.bus.specs.State.{arbitration_of, lines_of}
use Rattle.bus.specs.Steps.{after_looks_of}
use Rattle.bus.specs.Settle.{Settlement, settled_after, leading_looks, never_settles, settle_refusal, settle_of}
use Rattle.bus.specs.Examples.{four_nine_ten, first, again}
use Rattle.bus.specs.declared.state.Bus.{Bus}
use Rattle.bus.proofs.AsComputed.{settle_on_the_bus}
use Rattle.judgement.specs.Refusals.{page_at}
use Rattle.judgement.specs.Judge.{sound_refusal}
use Rattle.judgement.specs.declared.event.Event.{Event}
use Rattle.judgement.proofs.Passed.{sound_call}
use Rattle.events.specs.Machine.{Machine}
use Rattle.events.specs.Step.{refusal_in, answer_to}
use Rattle.events.specs.declared.answers.Answer.{Answer}
use Rattle.events.proofs.EachCycle.{word_read_does}
use Rattle.runs.specs.Run.{call, refusal_on, bus_after, after_all, accepted_of, has_kind, speakers_of, EachLooks}
use Rattle.runs.specs.Promises.{right_acknowledge, Right}
use Rattle.runs.specs.Examples.{cycle, lent, looks, over, round_one, round_two, round_three, three_rounds, ThreeRounds, LinesAfter, AtRest, Present, Marked}
use Rattle.runs.proofs.BusRuns.{bus_step, bus_run, accepted_on, refusals_for}
use Rattle.runs.proofs.BusRuns.{refusal_for_holds, step_for, run_of_the_bus, accepted_on_the_bus, refusals_on_the_bus}
use Rattle.runs.proofs.RunLaws.{sense_in_runs}

four_nine_ten_sense : makes_sense four_nine_ten ≡ true
unfolding all_below some_card is_within every_listed driving_fits standing_fits makes_sense
four_nine_ten_sense = refl

-- ---- Three rounds

module _ (memory ports : List ℕ) (right : Right memory ports) where
  abbrev end : List (Bool × Event) → Bus
  end before = after_all four_nine_ten (over memory ports before)

  ends : (before : List (Bool × Event)) → end before ≡ bus_run four_nine_ten before
  ends before = run_of_the_bus memory ports right before four_nine_ten four_nine_ten_sense

  -- a stretch is a round if it is one on the bus
  round_on : (before round : List (Bool × Event))
      → is_round (arbitration_of (bus_run four_nine_ten before)) (speakers_of Kind.look (accepted_on (bus_run four_nine_ten before) round)) ≡ true
      → EachLooks (end before) (over memory ports round)
  round_on before round e =
      ap (λ (l : List Event). is_round (arbitration_of (end before)) (speakers_of Kind.look l))
      (accepted_on_the_bus memory ports right round (end before) (sense_in_runs four_nine_ten four_nine_ten_sense (over memory ports before)))
      ∙ ap (λ (b : Bus). is_round (arbitration_of b) (speakers_of Kind.look (accepted_on b round))) (ends before)
      ∙ e

  -- no event of this kind is accepted, if none is on the bus
  none_on : (kind : ℕ) (xs : List (Bool × Event)) → has_kind kind (accepted_on four_nine_ten xs) ≡ false
      → has_kind kind (accepted_of four_nine_ten (over memory ports xs)) ≡ false
  none_on kind xs e = ap (has_kind kind) (accepted_on_the_bus memory ports right xs four_nine_ten four_nine_ten_sense) ∙ e

  -- an acknowledge after these
  acknowledge_on : (before : List (Bool × Event))
      → refusal_on (end before) (call right_acknowledge memory ports) ≡ sound_refusal (bus_run four_nine_ten before) right_acknowledge
  acknowledge_on before =
      refusal_for_holds memory ports right (end before) (sense_in_runs four_nine_ten four_nine_ten_sense (over memory ports before)) (lent right_acknowledge)
      ∙ ap (λ (b : Bus). sound_refusal b right_acknowledge) (ends before)

  grant_on : (before : List (Bool × Event))
      → bus_after (end before) (call right_acknowledge memory ports) ≡ bus_step (bus_run four_nine_ten before) (lent right_acknowledge)
  grant_on before =
      step_for memory ports right (end before) (sense_in_runs four_nine_ten four_nine_ten_sense (over memory ports before)) (lent right_acknowledge)
      ∙ ap (λ (b : Bus). bus_step b (lent right_acknowledge)) (ends before)

pub three_rounds_holds : ThreeRounds
unfolding after_all over all_below or_below look every_contender shown looked settled some_card is_within is_among is_round first_of sound_refusal
    beside has_beside bus_run accepted_on refusals_for speakers_of has_kind looks
three_rounds_holds memory ports right = record {
  one = round_on memory ports right [] round_one refl;
  two = round_on memory ports right round_one round_two refl;
  three = round_on memory ports right (round_one ++ round_two) round_three refl;
  goes_on = record {
    no_grant = none_on memory ports right Kind.acknowledge three_rounds refl;
    no_reset = none_on memory ports right Kind.reset
        three_rounds refl;
  };
  refusals = refusals_on_the_bus memory ports right three_rounds four_nine_ten four_nine_ten_sense;
  lines = ap lines_of (ends memory ports right three_rounds);
  nobodys = ap (λ (b : Bus). card_in four_nine_ten.contenders (lines_of b)) (ends memory ports right three_rounds);
  refused = acknowledge_on memory ports right three_rounds;
  fourth = ap lines_of (ends memory ports right (three_rounds ++ looks again));
  granted = ap (λ (b : Bus). b.granted) (grant_on memory ports right (three_rounds ++ looks again));
}

-- ---- The marked table

lines_after : (cards : List ℕ) (lines : ℕ) → lines_of (bus_run four_nine_ten (looks cards)) ≡ lines → LinesAfter cards lines
lines_after cards lines e memory ports right = ap lines_of (ends memory ports right (looks cards)) ∙ e

-- at rest, a refusal is that of the bus
rest_refusal : (m : Machine) → AtRest m → (event : Event) → refusal_in m event ≡ sound_refusal m.bus event
rest_refusal m rest event = sound_call m.bus event m.memory m.ports rest.right (ap not rest.sense)

module _ (m : Machine) (rest : AtRest m) where
  word_read_accepted : page_at m.bus.pages 0x000002 ≡ 1 → refusal_in m (cycle Kind.word_read 0x000002 0) ≡ 0
  unfolding sound_refusal first_of beside has_beside
  word_read_accepted page = rest_refusal m rest (cycle Kind.word_read 0x000002 0) ∙ rw (rest.free, page)

  word_write_accepted : Present m 0x001FFE → (datum : ℕ) → datum ≤ 0xFFFF → refusal_in m (cycle Kind.word_write 0x001FFE datum) ≡ 0
  unfolding sound_refusal first_of beside has_beside
  word_write_accepted present datum word = rest_refusal m rest (cycle Kind.word_write 0x001FFE datum) ∙ rw (le-ltb 0xFFFF datum word, rest.free, present)

  odd_read : refusal_in m (cycle Kind.word_read 0x001001 0) ≡ Refusal.odd_word
  unfolding sound_refusal first_of beside has_beside
  odd_read = rest_refusal m rest (cycle Kind.word_read 0x001001 0) ∙ rw rest.free

  odd_write : (datum : ℕ) → datum ≤ 0xFFFF → refusal_in m (cycle Kind.word_write 0x001001 datum) ≡ Refusal.odd_word
  unfolding sound_refusal first_of beside has_beside
  odd_write datum word = rest_refusal m rest (cycle Kind.word_write 0x001001 datum) ∙ rw (le-ltb 0xFFFF datum word, rest.free)

  last_byte : Present m 0x00FFFF → refusal_in m (cycle Kind.byte_read 0x00FFFF 0) ≡ 0
  unfolding sound_refusal first_of beside has_beside
  last_byte present = rest_refusal m rest (cycle Kind.byte_read 0x00FFFF 0) ∙ rw (rest.free, present)

  past_memory : refusal_in m (cycle Kind.byte_read 0x010000 0) ≡ Refusal.absent
  unfolding sound_refusal first_of beside has_beside
  past_memory = rest_refusal m rest (cycle Kind.byte_read 0x010000 0) ∙ rw rest.free

  ports_in : (refusal_in m (cycle Kind.input 0x0000FF 0) ≡ 0) × (refusal_in m (cycle Kind.input 0x000100 0) ≡ Refusal.absent)
  unfolding sound_refusal first_of beside has_beside
  ports_in = (rest_refusal m rest (cycle Kind.input 0x0000FF 0) ∙ rw rest.free, rest_refusal m rest (cycle Kind.input 0x000100 0) ∙ rw rest.free)

  ports_out : (datum : ℕ) → datum ≤ 0xFF
      → (refusal_in m (cycle Kind.output 0x0000FF datum) ≡ 0) × (refusal_in m (cycle Kind.output 0x000100 datum) ≡ Refusal.absent)
  unfolding sound_refusal first_of beside has_beside
  ports_out datum byte = (
    rest_refusal m rest (cycle Kind.output 0x0000FF datum) ∙ rw (le-ltb 0xFF datum byte, rest.free),
    rest_refusal m rest (cycle Kind.output 0x000100 datum) ∙ rw (le-ltb 0xFF datum byte, rest.free),
  )

  word_read_answer : page_at m.bus.pages 0x000002 ≡ 1 → get_or m.memory 0x000002 0 ≡ 0x12 → get_or m.memory 0x000003 0 ≡ 0x34
      → ((answer_to m (cycle Kind.word_read 0x000002 0)).refusal ≡ Refusal.accepted)
      × (((answer_to m (cycle Kind.word_read 0x000002 0)).datum ≡ 0x1234) × ((answer_to m (cycle Kind.word_read 0x000002 0)).cycles ≡ 2))
  word_read_answer page even odd =
      ⊎_elim
      (λ eight.
      let answer = eight.1.answers in (
        ap (λ (a : Answer). a.refusal) answer,
        (ap (λ (a : Answer). a.datum) answer ∙ rw (even, odd), ap (λ (a : Answer). a.cycles) answer),
      ))
      (λ sixteen. absurd (omega (arith, sym page ∙ sixteen.0)))
      (word_read_does m (cycle Kind.word_read 0x000002 0) (refl, word_read_accepted page))

pub marked : Marked
unfolding all_below or_below look every_contender shown looked settled some_card is_within is_among first_of sound_refusal beside has_beside
    bus_run looks every_listed driving_fits standing_fits makes_sense least_below after_looks_of settled_after leading_looks never_settles
    settle_refusal settle_of
marked = record {
  starts = (refl, (refl, refl));
  m1 = lines_after first 12 refl;
  m2 = lines_after (first ++ again) 8 refl;
  m3 = lines_after (first ++ again ++ again) 11 refl;
  m4 = lines_after (first ++ again ++ again ++ again) 10 refl;
  m5 = (settle_on_the_bus.twelve_accepted, settle_on_the_bus.twelve);
  m6 = ap (λ (s : Settlement). s.answer) settle_on_the_bus.nine;
  m7 = (refl, refl);
  m8 = (refl, refl);
  rest = λ memory ports right. record { right = right; sense = refl; free = refl };
  m9 = word_read_answer;
  m10 = λ m rest. (odd_read m rest, odd_write m rest);
  m11 = word_write_accepted;
  m12 = λ m rest. (last_byte m rest, past_memory m rest);
  m13 = λ m rest. (ports_in m rest, ports_out m rest);
}
