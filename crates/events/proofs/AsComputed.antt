-- The small runs, by computation.
use mathlib.Core.Path.{refl}
use Rattle.words.specs.Below.{all_below, or_below}
use Rattle.words.specs.Among.{is_among, beside, has_beside}
use Rattle.words.specs.First.{first_of}
use Rattle.lines.specs.Look.{look}
use Rattle.lines.specs.Arbitration.{every_contender, shown, looked, settled}
use Rattle.phases.specs.Signal.{signals_in}
use Rattle.phases.specs.Status.{status_of}
use Rattle.cards.specs.Cards.{some_card, is_within}
use Rattle.memory.specs.Cycles.{byte_read, byte_write, word_read, word_write, after_word_write}
use Rattle.judgement.specs.Judge.{sound_refusal}
use Rattle.events.specs.Answers.{word_signals}
use Rattle.events.specs.Step.{sound_after, sound_answer}
use Rattle.events.specs.Examples.{answers, left, PrintedRun, PermanentMasterCycles, WordsOnTwoPages}

pub printed_run : PrintedRun
unfolding all_below or_below is_among beside has_beside signals_in first_of look every_contender shown looked settled status_of some_card is_within
    byte_read byte_write word_read word_write after_word_write sound_refusal word_signals sound_after sound_answer answers left
printed_run = record { as_printed = refl; bytes = refl; home = refl }

pub permanent_master_cycles : PermanentMasterCycles
unfolding all_below or_below is_among beside has_beside signals_in first_of look every_contender shown looked settled status_of some_card is_within
    byte_read byte_write word_read word_write after_word_write sound_refusal word_signals sound_after sound_answer answers left
permanent_master_cycles = record { answered = refl; bytes = refl; ports = refl; same_bytes = refl }

pub words_on_two_pages : WordsOnTwoPages
unfolding all_below or_below is_among beside has_beside signals_in first_of look every_contender shown looked settled status_of some_card is_within
    byte_read byte_write word_read word_write after_word_write sound_refusal word_signals sound_after sound_answer answers left
words_on_two_pages = record { sixteen_above = refl; sixteen_below = refl }
