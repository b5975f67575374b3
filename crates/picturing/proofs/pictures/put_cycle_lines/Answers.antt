-- By how the cycle goes.
use mathlib.Core.Path.{◌≡◌, sym, ap, ◌∙◌}
use borrow.Author.Tests.{ne_eqb}
use Rattle.memory.specs.Halves.{odd_half}
use Rattle.phases.specs.Kind.{is_word}
use Rattle.pins.specs.Moments.{byte_moment, word_moment}
use Rattle.picturing.proofs.FilledLaws.{one_pictured}
use Rattle.picturing.proofs.pictures.put_cycle_lines.Goals as goal

pub returns-then-not-is_word : goal.returns-then-not-is_word
returns-then-not-is_word c =
    let event = c.args.cycle.event in
    let answer = c.args.cycle.answer in
    let word : is_word event.kind ≡ c.is_word.result = ap is_word c.args.cycle.named ∙ sym c.is_word.ensures in
    let byte = byte_moment event answer answer.signals event.address (odd_half answer.datum) in
    let one = one_pictured c.args.lines.now byte c.byte.ensures (c.put_one.ensures.put, c.put_one.ensures.left) in
    rw (word, c.if-not-is_word.true) record { put = one.0; left = one.1 }

pub returns-else-cycle-eq2 : goal.returns-else-cycle-eq2
returns-else-cycle-eq2 c =
    let event = c.args.cycle.event in
    let answer = c.args.cycle.answer in
    let word : is_word event.kind ≡ c.is_word.result = ap is_word c.args.cycle.named ∙ sym c.is_word.ensures in
    let put = c.put_one-else-cycle-eq2.ensures in
    let one = one_pictured c.args.lines.now (word_moment event answer) c.word.ensures (put.put, put.left) in
    rw (word, c.if-not-is_word.false, ne_eqb answer.cycles 2 c.if-cycle-eq2.false) record { put = one.0; left = one.1 }
