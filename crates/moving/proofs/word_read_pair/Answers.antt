-- `moving::word_read_pair` meets its contract: the slave is known by SIXTN alone, and either way reads the word.
use Rattle.std.proofs.Common.{ℕ, ◌<◌, get_or, sym, ◌∙◌, ap, ap₂, arith}
use Rattle.memory.specs.Slave.{slave, sixteen_bit_page}
use Rattle.memory.specs.Cycles.{in_one_cycle, together}
use Rattle.memory.proofs.OneByte.{byte_read_one, byte_read_some}
use Rattle.memory.proofs.Moves.{word_past_the_end}
use Rattle.memory.proofs.WordLaws.{word_read_is, word_read_serial, word_read_alike}
use Rattle.memory.proofs.PairLaws.{lent_has_word, front_size, front_entry, front_read}
use Rattle.moving.proofs.word_read_pair.Goals as goal
use Rattle.moving.proofs.word_read_pair.Goals.{In_ok-odd}

pub returns-then-asserts_sixtn : goal.returns-then-asserts_sixtn
returns-then-asserts_sixtn c =
    let chunk = c.in_ok-pair.ensures.cases in
    let pair = c.in_ok-pair.pair.now in
    let here = lent_has_word pair (front_size c.args.slave c.args.pair.now pair chunk.enough chunk.same) in
    c.in_one_cycle.ensures
    ∙ ap in_one_cycle c.from_be_bytes.ensures
    ∙ sym (word_read_is _ 0 (slave sixteen_bit_page) here)
    ∙ word_read_alike _ 0 _ _ (sym (sym c.asserts_sixtn.ensures ∙ c.if-asserts_sixtn.true))
    ∙ front_read _ _ _ chunk.enough chunk.same

pub returns-in_ok-odd : goal.returns-in_ok-odd
returns-in_ok-odd c =
    let chunk = c.in_ok-pair.ensures.cases in
    let pair = c.in_ok-pair.pair.now in
    let here = lent_has_word pair (front_size c.args.slave c.args.pair.now pair chunk.enough chunk.same) in
    c.together.ensures
    ∙ ap₂ together c.in_ok-even.ensures c.in_ok-odd.ensures
    ∙ sym (word_read_serial _ 0 here)
    ∙ word_read_alike _ 0 _ _ (sym (sym c.asserts_sixtn.ensures ∙ c.if-asserts_sixtn.false))
    ∙ front_read _ _ _ chunk.enough chunk.same

pub returns-in_err-pair : goal.returns-in_err-pair
returns-in_err-pair c =
    let none = word_past_the_end c.args.pair.now 0 (omega (arith, c.in_err-pair.ensures.cases)) in
    rw c.from_residual.ensures (sym (none.read c.args.slave))

-- in a pair there are both bytes
pub returns-in_err-even : goal.returns-in_err-even
returns-in_err-even c =
    let chunk = c.in_ok-pair.ensures.cases in
    absurd (byte_read_some _ 0 (omega (arith, front_size c.args.slave _ _ chunk.enough chunk.same)) c.in_err-even.ensures)

pub returns-in_err-odd : goal.returns-in_err-odd
returns-in_err-odd c =
    let chunk = c.in_ok-pair.ensures.cases in
    absurd (byte_read_some _ 1 (omega (arith, front_size c.args.slave _ _ chunk.enough chunk.same)) c.in_err-odd.ensures)

-- what each cycle moved is a byte
fits : (c : In_ok-odd) (i : ℕ) → i < 2 → get_or c.in_ok-pair.pair.now i 0 < 256
fits c i h =
    let chunk = c.in_ok-pair.ensures.cases in
    omega (arith, front_entry c.args.slave _ _ chunk.enough chunk.same i h, (c.type_inv.pair i).fits)

pub together-requires-clause-datums : goal.together-requires-clause-datums
together-requires-clause-datums c = (
  (byte_read_one _ _ _ c.in_ok-even.ensures (fits c _ (omega arith))).datum,
  (byte_read_one _ _ _ c.in_ok-odd.ensures (fits c _ (omega arith))).datum,
)

pub together-requires-clause-cycles : goal.together-requires-clause-cycles
together-requires-clause-cycles c =
    omega (
      arith,
      (byte_read_one _ _ _ c.in_ok-even.ensures (fits c _ (omega arith))).cycles,
      (byte_read_one _ _ _ c.in_ok-odd.ensures (fits c _ (omega arith))).cycles,
    )
