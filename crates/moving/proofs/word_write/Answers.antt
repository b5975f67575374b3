-- `moving::word_write` meets its contract: where the test finds a word, its pair is lent, and comes home as the word's cycle leaves it.
use Rattle.std.proofs.Common.{◌+◌, ◌-◌, sym, ◌∙◌, ap}
use borrow.Rule.Slice.PartMut.{put_mid}
use Rattle.memory.proofs.WordLaws.{no_word_write, no_word_after}
use Rattle.memory.proofs.PairLaws.{part_write, part_home}
use Rattle.moving.proofs.word_write.Goals as goal

pub returns-then-word_fits-clause-moved : goal.returns-then-word_fits-clause-moved
returns-then-word_fits-clause-moved c =
    c.word_write_pair.ensures.moved ∙ part_write _ _ _ (sym c.word_fits.ensures ∙ c.if-word_fits.true) _

pub returns-then-word_fits-clause-left : goal.returns-then-word_fits-clause-left
returns-then-word_fits-clause-left c =
    let a = c.args.at in
    ap (put_mid a (a + 2 - a) c.args.m.now) c.word_write_pair.ensures.left ∙ part_home _ _ _ (sym c.word_fits.ensures ∙ c.if-word_fits.true) _

pub returns-else-word_fits-clause-moved : goal.returns-else-word_fits-clause-moved
returns-else-word_fits-clause-moved c = sym (no_word_write _ _ _ _ (sym c.word_fits.ensures ∙ c.if-word_fits.false))

pub returns-else-word_fits-clause-left : goal.returns-else-word_fits-clause-left
returns-else-word_fits-clause-left c = sym (no_word_after _ _ _ _ (sym c.word_fits.ensures ∙ c.if-word_fits.false))
