-- `moving::word_write_pair` meets its contract: the slave is known by SIXTN alone, and either way writes the word.
use Rattle.std.proofs.Common.{ℕ, ◌≡◌, ◌<◌, ◌/◌, ◌%◌, List, ◌++◌, length, get_or, drop, sym, ◌∙◌, ap, ap₂, arith}
use lib.ListN.{length-set}
use Rattle.memory.specs.Slave.{slave, sixteen_bit_page}
use Rattle.memory.specs.Halves.{even_half}
use Rattle.memory.specs.Cycles.{together, byte_write, after_byte_write}
use Rattle.memory.proofs.OneByte.{byte_write_one, byte_write_some}
use Rattle.memory.proofs.Moves.{word_past_the_end}
use Rattle.memory.proofs.WordLaws.{word_write_is, word_write_serial, word_write_alike, after_word_is}
use Rattle.memory.proofs.PairLaws.{lent_has_word, lent_halves, front_size, front_write, front_home}
use Rattle.moving.proofs.word_write_pair.Goals as goal
use Rattle.moving.proofs.word_write_pair.Goals.{After-from_residual-in_err-even, After-from_residual-in_err-odd}

-- the datum's first byte is its even half
high : (v : ℕ) → v < 0x10000 → v / 0x100 % 0x100 ≡ even_half v
high v fits = omega (arith, fits)

never_even : After-from_residual-in_err-even → ⊥
never_even c =
    let chunk = c.in_ok-pair.ensures.cases in
    byte_write_some _ 0 _ (omega (arith, front_size c.args.slave _ _ chunk.enough chunk.same)) c.in_err-even.ensures.moved

never_odd : After-from_residual-in_err-odd → ⊥
never_odd c =
    let chunk = c.in_ok-pair.ensures.cases in
    let long = ap length c.in_ok-even.ensures.left ∙ length-set _ _ _ ∙ front_size c.args.slave _ _ chunk.enough chunk.same in
    byte_write_some _ 1 _ (omega (arith, long)) c.in_err-odd.ensures.moved

pub returns-then-asserts_sixtn-clause-moved : goal.returns-then-asserts_sixtn-clause-moved
returns-then-asserts_sixtn-clause-moved c =
    let chunk = c.in_ok-pair.ensures.cases in
    let here = lent_has_word _ (front_size c.args.slave _ _ chunk.enough chunk.same) in
    c.in_one_cycle.ensures
    ∙ sym (word_write_is _ 0 (slave sixteen_bit_page) _ here)
    ∙ word_write_alike _ 0 _ _ _ (sym (sym c.asserts_sixtn.ensures ∙ c.if-asserts_sixtn.true))
    ∙ front_write _ _ _ chunk.enough chunk.same _

pub returns-then-asserts_sixtn-clause-left : goal.returns-then-asserts_sixtn-clause-left
returns-then-asserts_sixtn-clause-left c =
    let chunk = c.in_ok-pair.ensures.cases in
    let s = c.args.slave in
    let v = c.args.datum in
    let halves = c.to_be_bytes-halves.ensures ∙ lent_halves c.in_ok-pair.field-0.now (front_size s _ _ chunk.enough chunk.same) s v (omega arith) in
    ap (λ (l : List ℕ). l ++ drop 2 c.args.pair.now) halves ∙ front_home s _ _ chunk.enough chunk.same v

pub returns-in_ok-odd-clause-moved : goal.returns-in_ok-odd-clause-moved
returns-in_ok-odd-clause-moved c =
    let chunk = c.in_ok-pair.ensures.cases in
    let pair = c.in_ok-pair.field-0.now in
    let v = c.args.datum in
    let even = ap (λ (l : List ℕ). get_or l 0 0) c.to_be_bytes-halves.ensures ∙ high v (omega arith) in
    let odd = ap (λ (l : List ℕ). get_or l 1 0) c.to_be_bytes-halves.ensures in
    c.together.ensures
    ∙ ap₂ together
    (c.in_ok-even.ensures.moved ∙ ap (byte_write pair 0) even)
    (c.in_ok-odd.ensures.moved ∙ ap₂ (λ (l : List ℕ) (b : ℕ). byte_write l 1 b) (c.in_ok-even.ensures.left ∙ ap (after_byte_write pair 0) even) odd)
    ∙ sym (word_write_serial _ 0 v (lent_has_word pair (front_size c.args.slave _ _ chunk.enough chunk.same)))
    ∙ word_write_alike _ 0 _ _ _ (sym (sym c.asserts_sixtn.ensures ∙ c.if-asserts_sixtn.false))
    ∙ front_write _ _ _ chunk.enough chunk.same _

pub returns-in_ok-odd-clause-left : goal.returns-in_ok-odd-clause-left
returns-in_ok-odd-clause-left c =
    let chunk = c.in_ok-pair.ensures.cases in
    let pair = c.in_ok-pair.field-0.now in
    let s = c.args.slave in
    let v = c.args.datum in
    let even = ap (λ (l : List ℕ). get_or l 0 0) c.to_be_bytes-halves.ensures ∙ high v (omega arith) in
    let odd = ap (λ (l : List ℕ). get_or l 1 0) c.to_be_bytes-halves.ensures in
    let bytes =
    c.in_ok-odd.ensures.left
    ∙ ap₂ (λ (l : List ℕ) (b : ℕ). after_byte_write l 1 b) (c.in_ok-even.ensures.left ∙ ap (after_byte_write pair 0) even) odd
    ∙ sym (after_word_is pair 0 s v (lent_has_word pair (front_size s _ _ chunk.enough chunk.same)))
    in
    ap (λ (l : List ℕ). l ++ drop 2 c.args.pair.now) bytes ∙ front_home s _ _ chunk.enough chunk.same v

pub returns-in_err-pair-clause-moved : goal.returns-in_err-pair-clause-moved
returns-in_err-pair-clause-moved c =
    let none = word_past_the_end c.args.pair.now 0 (omega (arith, c.in_err-pair.ensures.cases)) in
    rw c.from_residual.ensures (sym (none.write c.args.slave c.args.datum))

pub returns-in_err-pair-clause-left : goal.returns-in_err-pair-clause-left
returns-in_err-pair-clause-left c =
    let none = word_past_the_end c.args.pair.now 0 (omega (arith, c.in_err-pair.ensures.cases)) in
    sym (none.unchanged c.args.slave c.args.datum)

-- in a pair there are both bytes
pub returns-in_err-even-clause-moved : goal.returns-in_err-even-clause-moved
returns-in_err-even-clause-moved c = absurd (never_even c)

pub returns-in_err-even-clause-left : goal.returns-in_err-even-clause-left
returns-in_err-even-clause-left c = absurd (never_even c)

pub returns-in_err-odd-clause-moved : goal.returns-in_err-odd-clause-moved
returns-in_err-odd-clause-moved c = absurd (never_odd c)

pub returns-in_err-odd-clause-left : goal.returns-in_err-odd-clause-left
returns-in_err-odd-clause-left c = absurd (never_odd c)

-- what each cycle moved is a byte
pub together-requires-clause-datums : goal.together-requires-clause-datums
together-requires-clause-datums c =
    let even = ap (λ (l : List ℕ). get_or l 0 0) c.to_be_bytes-halves.ensures in
    let odd = ap (λ (l : List ℕ). get_or l 1 0) c.to_be_bytes-halves.ensures in (
      (byte_write_one _ _ _ _ c.in_ok-even.ensures.moved (omega (arith, even))).datum,
      (byte_write_one _ _ _ _ c.in_ok-odd.ensures.moved (omega (arith, odd))).datum,
    )

pub together-requires-clause-cycles : goal.together-requires-clause-cycles
together-requires-clause-cycles c =
    let even = ap (λ (l : List ℕ). get_or l 0 0) c.to_be_bytes-halves.ensures in
    let odd = ap (λ (l : List ℕ). get_or l 1 0) c.to_be_bytes-halves.ensures in
    omega (
      arith,
      (byte_write_one _ _ _ _ c.in_ok-even.ensures.moved (omega (arith, even))).cycles,
      (byte_write_one _ _ _ _ c.in_ok-odd.ensures.moved (omega (arith, odd))).cycles,
    )
