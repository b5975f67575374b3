-- What an accepted cycle does, kind by kind.
use Prim.Native.Nat.{ℕ, ◌+◌, ◌/◌, ◌%◌, ◌<◌, ◌≤◌}
use mathlib.Core.Path.{◌≡◌, refl, sym, subst, ap, ◌∙◌}
use mathlib.Core.Logic.{⊎_elim, inl, inr}
use mathlib.Core.Bool.{Bool, true, false, not, cond, ◌&&◌, ◌||◌, and-eq-true_iff}
use mathlib.Core.List.{List}
use native.Mathlib.Nat.{mod-eq_of_lt}
use native.Mathlib.Decide.{ℕ_discrete}
use native.Mathlib.Omega.{arith}
use lib.Dec.{eqb, ltb}
use lib.ListN.{length, get_or, set}
use borrow.Author.Tests.{eqb-true, eqb-false, ltb-false, lt-ltb, not-false}
use Rattle.words.specs.Among.{is_among, beside}
use Rattle.words.proofs.TestLaws.{either_of, neither_of}
use Rattle.phases.specs.Phase as Phase
use Rattle.phases.specs.Kind as Kind
use Rattle.phases.specs.Signal.{SIXTN, sXTRQ}
use Rattle.phases.specs.Driver.{all_permanent, all_card, drivers_in}
use Rattle.phases.specs.Status.{sMEMR, sWO, status_of}
use Rattle.memory.specs.declared.Slave.{Slave}
use Rattle.memory.specs.Halves.{even_half, odd_half, word_of}
use Rattle.memory.specs.Cycles.{in_one_cycle, has_word}
use Rattle.memory.specs.Promises.{in_word_cycles}
use Rattle.memory.proofs.WordLaws.{after_word_is}
use Rattle.memory.proofs.Moves.{byte_moves, word_moves}
use Rattle.judgement.specs.Table.{Speaker, permanent_master, master_of, has_turn, row_of, most_datum}
use Rattle.judgement.specs.Refusals.{page_at}
use Rattle.judgement.proofs.TableLaws.{CycleRow, cycle_row}
use Rattle.judgement.specs.declared.event.Event.{Event}
use Rattle.events.specs.Machine.{Machine}
use Rattle.events.specs.Cycles.{slave_at, byte_of}
use Rattle.events.specs.Answers.{word_signals}
use Rattle.events.specs.Promises.{SpeakerDrives, AcceptedAs, ByteReadDoes, OpcodeFetchDoes, ByteWriteDoes, InputDoes, OutputDoes}
use Rattle.events.specs.Promises.{Moves, code_there, ByItsPage, word_in, WordReadDoes, WordWriteDoes}
use Rattle.events.proofs.TakenLaws.{right_buffers, in_sense, has_passed, is_formed, phase_allows, speaker_has_turn, does}

module _ (k : ℕ) (m : Machine) (event : Event) (ok : AcceptedAs k m event) where
  abbrev a : ℕ
  a = event.address

  sizes : (eqb (length m.memory) 0x10000 ≡ true) × (eqb (length m.ports) 0x100 ≡ true)
  sizes = (and-eq-true_iff _ _).0 (not-false _ (right_buffers m event ok.1))

  -- nothing is absent, at a kind that is known
  there : ((Kind.is_of_memory k && (ltb 0xFFFF a || eqb (page_at m.bus.pages a) 0)) ≡ false) × ((Kind.is_of_ports k && ltb 0xFF a) ≡ false)
  there =
      neither_of _ _
      (subst (λ (q : ℕ). (Kind.is_of_memory q && (ltb 0xFFFF a || eqb (page_at m.bus.pages a) 0) || Kind.is_of_ports q && ltb 0xFF a) ≡ false) ok.0
      (has_passed m event ok.1).there)

  -- within the sixteen pages, and on one that is present
  in_page : Kind.is_of_memory k ≡ true → (a ≤ 0xFFFF) × (eqb (code_there m event) 0 ≡ false)
  in_page mem =
      let each = neither_of _ _ (ap (λ (b : Bool). b && (ltb 0xFFFF a || eqb (page_at m.bus.pages a) 0)) (sym mem) ∙ there.0) in
      (ltb-false _ _ each.0, each.1)

  in_memory : Kind.is_of_memory k ≡ true → a < length m.memory
  in_memory mem = let low = (in_page mem).0 in omega (arith, low, eqb-true (length m.memory) 0x10000 sizes.0)

  pub in_ports : Kind.is_of_ports k ≡ true → a < length m.ports
  in_ports port =
      let low : a ≤ 0xFF = ltb-false _ _ (ap (λ (b : Bool). b && ltb 0xFF a) (sym port) ∙ there.1) in
      omega (arith, low, eqb-true (length m.ports) 0x100 sizes.1)

  -- the datum of a byte is one
  a_byte : most_datum k ≡ 0xFF → byte_of event.datum ≡ event.datum
  a_byte byte =
      let low : event.datum ≤ 0xFF = subst (λ (most : ℕ). event.datum ≤ most) (ap most_datum ok.0 ∙ byte) (is_formed m event ok.1).datum in
      mod-eq_of_lt (let fits : event.datum < 0x100 = omega (arith, low) in fits)

  a_word : Kind.is_word k ≡ true → Kind.is_of_memory k ≡ true → has_word m.memory a ≡ true
  a_word word mem =
      let passed : (Kind.is_word k && not (eqb (a % 2) 0)) ≡ false =
      subst (λ (q : ℕ). (Kind.is_word q && not (eqb (a % 2) 0)) ≡ false) ok.0 (has_passed m event ok.1).even in
      let even : eqb (a % 2) 0 ≡ true = not-false _ (ap (λ (b : Bool). b && not (eqb (a % 2) 0)) (sym word) ∙ passed) in
      let size : length m.memory ≡ 0x10000 = eqb-true _ _ sizes.0 in
      let both : a + 1 < length m.memory = omega (arith, in_memory mem, size, eqb-true (a % 2) 0 even) in
      (and-eq-true_iff _ _).1 (even, lt-ltb _ _ both)

-- ---- Bytes

pub byte_read_does : ByteReadDoes
unfolding is_among beside word_signals status_of
byte_read_does m event ok =
    does m event ok.1 Kind.byte_read ok.0 m.bus refl m.memory m.ports (rw ok.0) (rw ok.0) _
    (rw ok.0 (byte_moves m.memory event.address (in_memory Kind.byte_read m event ok refl)).0)

pub opcode_fetch_does : OpcodeFetchDoes
unfolding is_among beside word_signals status_of
opcode_fetch_does m event ok =
    does m event ok.1 Kind.opcode_fetch ok.0 m.bus refl m.memory m.ports (rw ok.0) (rw ok.0) _
    (rw ok.0 (byte_moves m.memory event.address (in_memory Kind.opcode_fetch m event ok refl)).0)

pub byte_write_does : ByteWriteDoes
unfolding is_among beside word_signals status_of
byte_write_does m event ok =
    does m event ok.1 Kind.byte_write ok.0 m.bus refl (set m.memory event.address event.datum) m.ports
    (rw ok.0 (ap (set m.memory event.address) byte))
    (rw ok.0)
    _
    (rw ok.0 ((byte_moves m.memory event.address (in_memory Kind.byte_write m event ok refl)).1 (byte_of event.datum) ∙ ap in_one_cycle byte))
  where
    byte : byte_of event.datum ≡ event.datum
    byte = a_byte Kind.byte_write m event ok refl

-- ---- Ports

pub input_does : InputDoes
unfolding is_among beside word_signals status_of
input_does m event ok =
    does m event ok.1 Kind.input ok.0 m.bus refl m.memory m.ports (rw ok.0) (rw ok.0) _
    (rw ok.0 (byte_moves m.ports event.address (in_ports Kind.input m event ok refl)).0)

pub output_does : OutputDoes
unfolding is_among beside word_signals status_of
output_does m event ok =
    does m event ok.1 Kind.output ok.0 m.bus refl m.memory (set m.ports event.address event.datum)
    (rw ok.0)
    (rw ok.0 (ap (set m.ports event.address) byte))
    _
    (rw ok.0 ((byte_moves m.ports event.address (in_ports Kind.output m event ok refl)).1 (byte_of event.datum) ∙ ap in_one_cycle byte))
  where
    byte : byte_of event.datum ≡ event.datum
    byte = a_byte Kind.output m event ok refl

-- ---- Words

-- the page of a word is one of eight bits or one of sixteen: what holds by its code holds by the one or the other
by_its_page : (k : ℕ) (m : Machine) (event : Event) → AcceptedAs k m event → Kind.is_of_memory k ≡ true → (does : ℕ → ℕ → Type 0)
    → does (sXTRQ + cond (eqb (code_there m event) 2) SIXTN 0) (cond (eqb (code_there m event) 2) 1 2) → ByItsPage m event does
by_its_page k m event ok mem does found = go (ℕ_discrete (code_there m event) 2)
  where
    present : code_there m event ≡ 0 → ⊥
    present = eqb-false _ _ (in_page k m event ok mem).1

    known : code_there m event ≤ 2
    known = (in_sense m event ok.1).chassis.codes (event.address / 0x1000) (let low = (in_page k m event ok mem).0 in omega (arith, low))

    by_code : (code : ℕ) → code_there m event ≡ code → does (sXTRQ + cond (eqb code 2) SIXTN 0) (cond (eqb code 2) 1 2)
    by_code code e = subst (λ (c : ℕ). does (sXTRQ + cond (eqb c 2) SIXTN 0) (cond (eqb c 2) 1 2)) e found

    go : Dec (code_there m event ≡ 2) → ByItsPage m event does
    go (yes sixteen) = inr (sixteen, by_code 2 sixteen)
    go (no other) = let eight : code_there m event ≡ 1 = omega (arith, present, known, other) in inl (eight, by_code 1 eight)

pub word_read_does : WordReadDoes
unfolding is_among beside word_signals status_of
word_read_does m event ok =
    by_its_page Kind.word_read m event ok refl (λ signals cycles. Moves m event m.memory m.ports signals sMEMR (word_in cycles datum))
    (does m event ok.1 Kind.word_read ok.0 m.bus refl m.memory m.ports (rw ok.0) (rw ok.0) (in_word_cycles there datum)
    (rw ok.0 (word_moves there m.memory event.address (a_word Kind.word_read m event ok refl refl)).0))
  where
    datum : ℕ
    datum = word_of (get_or m.memory event.address 0) (get_or m.memory (event.address + 1) 0)

    there : Slave
    there = slave_at m.bus.pages event.address

pub word_write_does : WordWriteDoes
unfolding is_among beside word_signals status_of
word_write_does m event ok =
    by_its_page Kind.word_write m event ok refl (λ signals cycles. Moves m event left m.ports signals sWO (word_in cycles event.datum))
    (does m event ok.1 Kind.word_write ok.0 m.bus refl left m.ports
    (rw ok.0 (after_word_is m.memory event.address there event.datum here))
    (rw ok.0)
    (in_word_cycles there event.datum)
    (rw ok.0 ((word_moves there m.memory event.address here).1 event.datum)))
  where
    left : List ℕ
    left = set (set m.memory event.address (even_half event.datum)) (event.address + 1) (odd_half event.datum)

    here : has_word m.memory event.address ≡ true
    here = a_word Kind.word_write m event ok refl refl

    there : Slave
    there = slave_at m.bus.pages event.address

-- ---- Who drives

pub speaker_drives : SpeakerDrives
unfolding beside drivers_in
speaker_drives m event cycle ok =
    ⊎_elim (λ early. inl (⊎_elim first second (either_of (eqb phase Phase.free) (eqb phase Phase.arbitration) early))) (λ e. inr (owned e))
    (either_of (eqb phase Phase.free || eqb phase Phase.arbitration) (eqb phase Phase.owned) allowed)
  where
    phase : ℕ
    phase = m.bus.phase

    row : CycleRow (row_of event.kind)
    row = cycle_row event.kind cycle

    allowed : Phase.has_cycles phase ≡ true
    allowed = ap (λ (allows : ℕ → Bool). allows phase) (sym row.allows) ∙ phase_allows m event ok event.kind refl

    speaks : event.speaker ≡ master_of m.bus
    speaks =
        eqb-true _ _ (ap (λ (who : Speaker). has_turn who m.bus event.speaker) (sym row.speaker) ∙ speaker_has_turn m event ok event.kind refl)

    Permanent : Type 0
    Permanent = (phase ≤ Phase.arbitration) × ((event.speaker ≡ permanent_master) × (drivers_in phase ≡ all_permanent))

    first : eqb phase Phase.free ≡ true → Permanent
    first e = let at : m.bus.phase ≡ Phase.free = eqb-true _ _ e in (omega (arith, at), (speaks ∙ rw at, ap drivers_in at))

    second : eqb phase Phase.arbitration ≡ true → Permanent
    second e = let at : m.bus.phase ≡ Phase.arbitration = eqb-true _ _ e in (omega (arith, at), (speaks ∙ rw at, ap drivers_in at))

    owned : eqb phase Phase.owned ≡ true → (phase ≡ Phase.owned) × ((event.speaker ≡ m.bus.granted) × (drivers_in phase ≡ all_card))
    owned e = let at : m.bus.phase ≡ Phase.owned = eqb-true _ _ e in (at, (speaks ∙ rw at, ap drivers_in at))
