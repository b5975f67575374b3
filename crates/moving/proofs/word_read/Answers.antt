-- `moving::word_read` meets its contract: where the test finds a word, its pair lies in the memory and reads the same.
use Rattle.std.proofs.Common.{sym, ◌∙◌}
use Rattle.memory.proofs.WordLaws.{no_word_read}
use Rattle.memory.proofs.PairLaws.{part_read}
use Rattle.moving.proofs.word_read.Goals as goal

pub returns-then-word_fits : goal.returns-then-word_fits
returns-then-word_fits c =
    c.word_read_pair.ensures ∙ part_read _ _ _ (sym c.word_fits.ensures ∙ c.if-word_fits.true)

pub returns-else-word_fits : goal.returns-else-word_fits
returns-else-word_fits c =
    sym (no_word_read _ _ _ (sym c.word_fits.ensures ∙ c.if-word_fits.false))
