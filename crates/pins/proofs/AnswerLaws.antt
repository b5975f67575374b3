-- What is known of an accepted event's answer, for its picture.
use mathlib.Core.Path.{◌≡◌, refl, sym, ap, ◌∙◌}
use mathlib.Core.Logic.{◌⊎◌, inl, inr, ⊎_elim}
use mathlib.Core.Bool.{Bool, true, false, not, ◌&&◌, ◌||◌}
use Prim.Native.Nat.{ℕ, ◌+◌, ◌%◌, ◌<◌, ◌^◌}
use native.Mathlib.Decide.{dec_lt}
use native.Mathlib.Omega.{arith}
use lib.Dec.{eqb, leb, ltb}
use lib.ListN.{length}
use borrow.Author.Tests.{eqb-true, ne_eqb, ltb-false, not-true, not-false}
use Rattle.words.specs.Below.{all_below}
use Rattle.words.specs.Among.{is_among, beside}
use Rattle.words.proofs.TestLaws.{true_or_false, both_of, neither_of, either_of, then_of, else_of}
use Rattle.words.proofs.BelowLaws.{all_at, same_below, same_tests_below}
use Rattle.lines.proofs.LevelLaws.{lines_in_range}
use Rattle.phases.specs.Phase as Phase
use Rattle.phases.specs.Kind as Kind
use Rattle.phases.specs.Signal.{signals_in}
use Rattle.phases.specs.Status.{status_of}
use Rattle.phases.specs.Control.{is_reading, is_writing}
use Rattle.bus.specs.State.{arbitration_of, lines_of}
use Rattle.bus.specs.Promises.{Sensible}
use Rattle.bus.specs.declared.state.Bus.{Bus}
use Rattle.bus.proofs.SenseLaws.{sense_means}
use Rattle.judgement.specs.Table.{is_cycle}
use Rattle.judgement.specs.Refusals.{page_at}
use Rattle.judgement.specs.declared.event.Event.{Event}
use Rattle.judgement.proofs.TableLaws.{cycle_row, cycle_kinds}
use Rattle.events.specs.Machine.{Machine}
use Rattle.events.specs.Answers.{word_signals}
use Rattle.events.specs.Cycles.{slave_at}
use Rattle.events.specs.Step.{refusal_in, after, answer_to}
use Rattle.events.specs.declared.answers.Answer.{Answer}
use Rattle.events.proofs.TakenLaws.{leaves_taken, answers_taken, right_buffers, in_sense, has_passed, phase_allows}
use Rattle.events.proofs.Refused.{accepted_is_well_formed, answers_refusal}
use Rattle.events.proofs.Stays.{sense_kept_by_events, cycles_keep_the_bus}
use Rattle.pins.specs.Moments.{moment_of, without_request, has_strobe}
use Rattle.pins.proofs.MomentLaws.{Word, Fits}

-- the lines of a state that makes sense show four bits
lines_small : (bus : Bus) → Sensible bus → lines_of bus < 16
lines_small bus s =
    lines_in_range (arbitration_of bus) bus.driven (record {
      size = s.driving.sixteen_levels;
      below = λ q contender. let most = s.driving.contender_drives q contender.contending in omega (arith, most);
    })

-- the kinds that have a strobe are the cycles
pub strobe_cycle : (kind : ℕ) → kind < 16 → has_strobe kind ≡ is_cycle kind
unfolding all_below is_among
strobe_cycle kind h = same_tests_below has_strobe (λ k. leb 0x06 k && leb k 0x0C) 16 refl kind h ∙ sym (cycle_kinds kind)

-- ---- Which kinds have which cycles

pub word_strobe : (kind : ℕ) → kind < 16 → has_strobe kind ≡ false → Kind.is_word kind ≡ false
unfolding all_below is_among
word_strobe kind h still =
    not-true (Kind.is_word kind) (else_of (has_strobe kind) (not (Kind.is_word kind)) (all_at (λ k. has_strobe k || not (Kind.is_word k)) 16 refl kind h) still)

pub word_cycles : (kind : ℕ) → Kind.is_word kind ≡ true → (kind ≡ Kind.word_read) ⊎ (kind ≡ Kind.word_write)
word_cycles kind word =
    ⊎_elim (λ e. inl (eqb-true kind Kind.word_read e)) (λ e. inr (eqb-true kind Kind.word_write e))
    (either_of (eqb kind Kind.word_read) (eqb kind Kind.word_write) word)

abbrev is_byte_kind : ℕ → Bool
is_byte_kind k = eqb k 0x06 || (eqb k 0x07 || (eqb k 0x08 || (eqb k 0x0B || eqb k 0x0C)))

pub byte_cycles : (kind : ℕ) → kind < 16 → has_strobe kind ≡ true → Kind.is_word kind ≡ false
    → (kind ≡ 0x06) ⊎ ((kind ≡ 0x07) ⊎ ((kind ≡ 0x08) ⊎ ((kind ≡ 0x0B) ⊎ (kind ≡ 0x0C))))
unfolding all_below is_among
byte_cycles kind h strobe narrow =
    let some = else_of (Kind.is_word kind) (is_byte_kind kind)
    (then_of (has_strobe kind) (Kind.is_word kind || is_byte_kind kind)
    (all_at (λ k. not (has_strobe k) || (Kind.is_word k || is_byte_kind k)) 16 refl kind h) strobe) narrow in
    ⊎_elim (λ e. inl (eqb-true kind 0x06 e)) (λ (more : (eqb kind 0x07 || (eqb kind 0x08 || (eqb kind 0x0B || eqb kind 0x0C))) ≡ true).
    inr (⊎_elim (λ e. inl (eqb-true kind 0x07 e)) (λ (rest : (eqb kind 0x08 || (eqb kind 0x0B || eqb kind 0x0C)) ≡ true).
    inr (⊎_elim (λ e. inl (eqb-true kind 0x08 e)) (λ (ports : (eqb kind 0x0B || eqb kind 0x0C) ≡ true).
    inr (⊎_elim (λ e. inl (eqb-true kind 0x0B e)) (λ e. inr (eqb-true kind 0x0C e)) (either_of (eqb kind 0x0B) (eqb kind 0x0C) ports)))
    (either_of (eqb kind 0x08) (eqb kind 0x0B || eqb kind 0x0C) rest)))
    (either_of (eqb kind 0x07) (eqb kind 0x08 || (eqb kind 0x0B || eqb kind 0x0C)) more)))
    (either_of (eqb kind 0x06) (eqb kind 0x07 || (eqb kind 0x08 || (eqb kind 0x0B || eqb kind 0x0C))) some)

-- no kind reads and writes
pub one_way : (kind : ℕ) → (is_reading kind && is_writing kind) ≡ false
unfolding all_below is_among
one_way kind = go (dec_lt kind 16)
  where
    go : Dec (kind < 16) → (is_reading kind && is_writing kind) ≡ false
    go (yes known) = not-true (is_reading kind && is_writing kind) (all_at (λ k. not (is_reading k && is_writing k)) 16 refl kind known)
    go (no beyond) =
        rw (apart Kind.byte_read (omega arith), apart Kind.opcode_fetch (omega arith), apart Kind.word_read (omega arith), apart Kind.input (omega arith)) refl
      where
        apart : (k : ℕ) → k < 16 → eqb kind k ≡ false
        apart k h = ne_eqb kind k (λ e. beyond (omega (arith, e, h)))

-- the signals of a split word without sXTRQ are its phase's
without : (phase : ℕ) → phase < 6 → without_request (signals_in phase + 0x80) ≡ signals_in phase + 0
unfolding all_below beside signals_in
without phase = same_below (λ p. without_request (signals_in p + 0x80)) (λ p. signals_in p + 0) 6 refl phase

module _ (m : Machine) (event : Event) (ok : refusal_in m event ≡ 0) where
  pub number : (answer_to m event).refusal ≡ 0
  number = answers_refusal m event ∙ ok

  phase_after : (answer_to m event).phase ≡ (after m event).bus.phase
  phase_after = ap (λ (b : Answer). b.phase) (answers_taken m event ok) ∙ sym (ap (λ (n : Machine). n.bus.phase) (leaves_taken m event ok))

  lines_after : (answer_to m event).lines ≡ lines_of (after m event).bus
  lines_after = ap (λ (b : Answer). b.lines) (answers_taken m event ok) ∙ sym (ap (λ (n : Machine). lines_of n.bus) (leaves_taken m event ok))

  sense_after : Sensible (after m event).bus
  sense_after = (sense_means (after m event).bus).0 (sense_kept_by_events m event ((sense_means m.bus).1 (in_sense m event ok)))

  pub phase_known : (answer_to m event).phase < 6
  phase_known = omega (arith, phase_after, sense_after.phase_known)

  pub lines_known : (answer_to m event).lines < 16
  lines_known = omega (arith, lines_after, lines_small (after m event).bus sense_after)

  pub kind_known : event.kind < 16
  kind_known = let known = (accepted_is_well_formed m event ok).kind in omega (arith, known.1)

  pub status_is : (answer_to m event).status ≡ status_of event.kind
  status_is = ap (λ (b : Answer). b.status) (answers_taken m event ok)

  signals_are : (answer_to m event).signals
      ≡ signals_in (answer_to m event).phase + word_signals event.kind (slave_at m.bus.pages event.address)
  signals_are =
      let is = answers_taken m event ok in
      ap (λ (b : Answer). b.signals) is
      ∙ sym (ap (λ (b : Answer). signals_in b.phase + word_signals event.kind (slave_at m.bus.pages event.address)) is)

  -- a cycle comes in a phase that has them
  cycle_phase : is_cycle event.kind ≡ true → Phase.has_cycles (answer_to m event).phase ≡ true
  cycle_phase cycle =
      let stays = phase_after ∙ ap (λ (b : Bus). b.phase) (cycles_keep_the_bus m event cycle) in
      ap Phase.has_cycles stays
      ∙ sym (ap (λ (test : ℕ → Bool). test m.bus.phase) (cycle_row event.kind cycle).allows)
      ∙ phase_allows m event ok event.kind refl

  turn : (has_strobe event.kind && not (Phase.has_cycles (answer_to m event).phase)) ≡ false
  turn =
      ⊎_elim
      (λ (cycle : is_cycle event.kind ≡ true). rw (cycle_phase cycle) (and_false (has_strobe event.kind)))
      (λ (none : is_cycle event.kind ≡ false). rw (strobe_cycle event.kind kind_known ∙ none) refl)
      (true_or_false (is_cycle event.kind))
    where
      and_false : (b : Bool) → (b && false) ≡ false
      and_false true = refl
      and_false false = refl

  -- so a moment of it fits, with what a word adds
  pub fits_as : (w : ℕ) → Word w → word_signals event.kind (slave_at m.bus.pages event.address) ≡ w
      → (address out into : ℕ) (doutDriven dinDriven : Bool)
      → Fits (moment_of event (answer_to m event) (answer_to m event).signals address out into doutDriven dinDriven) (answer_to m event).phase event.kind w
  fits_as w word is address out into doutDriven dinDriven = record {
    phase_known = phase_known;
    kind_known = kind_known;
    turn = turn;
    word = word;
    signals = signals_are ∙ ap (λ (n : ℕ). signals_in (answer_to m event).phase + n) is;
    lines = lines_known;
    control = refl;
    status = status_is;
  }

  -- and one of a split word's second cycle, without sXTRQ
  pub quiet_fits : word_signals event.kind (slave_at m.bus.pages event.address) ≡ 0x80 → (address byte : ℕ) (doutDriven dinDriven : Bool)
      → Fits (moment_of event (answer_to m event) (without_request (answer_to m event).signals) address byte byte doutDriven dinDriven)
      (answer_to m event).phase event.kind 0
  quiet_fits is address byte doutDriven dinDriven = record {
    phase_known = phase_known;
    kind_known = kind_known;
    turn = turn;
    word = inl refl;
    signals =
        ap without_request (signals_are ∙ ap (λ (n : ℕ). signals_in (answer_to m event).phase + n) is)
        ∙ without (answer_to m event).phase phase_known;
    lines = lines_known;
    control = refl;
    status = status_is;
  }

  -- no word, or a word by its page
  pub no_word : Kind.is_word event.kind ≡ false → word_signals event.kind (slave_at m.bus.pages event.address) ≡ 0
  unfolding word_signals
  no_word none = rw none refl

  pub eight_word : Kind.is_word event.kind ≡ true → page_at m.bus.pages event.address ≡ 1
      → word_signals event.kind (slave_at m.bus.pages event.address) ≡ 0x80
  unfolding word_signals
  eight_word word code = rw (word, code) refl

  pub sixteen_word : Kind.is_word event.kind ≡ true → page_at m.bus.pages event.address ≡ 2
      → word_signals event.kind (slave_at m.bus.pages event.address) ≡ 0xC0
  unfolding word_signals
  sixteen_word word code = rw (word, code) refl

  -- an event that is no cycle has no status
  pub no_status : is_cycle event.kind ≡ false → (answer_to m event).status ≡ 0
  unfolding all_below is_among beside status_of
  no_status none =
      status_is ∙ zero_status event.kind kind_known (strobe_cycle event.kind kind_known ∙ none)
    where
      zero_status : (kind : ℕ) → kind < 16 → has_strobe kind ≡ false → status_of kind ≡ 0
      zero_status kind h still =
          eqb-true (status_of kind) 0
          (else_of (has_strobe kind) (eqb (status_of kind) 0) (all_at (λ k. has_strobe k || eqb (status_of k) 0) 16 refl kind h) still)

  -- a word lies in the memory, from an even address on
  pub record WordLies : Type 0 where
    pub even : event.address % 2 ≡ 0
    pub within : event.address + 1 < length m.memory
    pub low : event.address + 1 < 0x10000

  pub word_lies : Kind.is_word event.kind ≡ true → WordLies
  word_lies word =
      let reach = event.address in
      let sizes = both_of (eqb (length m.memory) 0x10000) (eqb (length m.ports) 0x100) (not-false _ (right_buffers m event ok)) in
      let size = eqb-true (length m.memory) 0x10000 sizes.0 in
      let even = eqb-true (reach % 2) 0
      (not-false (eqb (reach % 2) 0) (ap (λ (b : Bool). b && not (eqb (reach % 2) 0)) (sym word) ∙ (has_passed m event ok).even)) in
      let there = neither_of (Kind.is_of_memory event.kind && (ltb 0xFFFF reach || eqb (page_at m.bus.pages reach) 0))
      (Kind.is_of_ports event.kind && ltb 0xFF reach) (has_passed m event ok).there in
      let absent = neither_of (ltb 0xFFFF reach) (eqb (page_at m.bus.pages reach) 0)
      (ap (λ (b : Bool). b && (ltb 0xFFFF reach || eqb (page_at m.bus.pages reach) 0)) (sym (of_memory event.kind word)) ∙ there.0) in
      let low = ltb-false 0xFFFF reach absent.0 in
      record { even = even; within = omega (arith, low, size, even); low = omega (arith, low, even) }
    where
      of_memory : (kind : ℕ) → Kind.is_word kind ≡ true → Kind.is_of_memory kind ≡ true
      of_memory kind w = ⊎_elim (λ e. rw e refl) (λ e. rw e refl) (word_cycles kind w)

  -- the address of a cycle is within the 24 lines
  pub address_small : is_cycle event.kind ≡ true → event.address < 2 ^ 24
  unfolding all_below is_among
  address_small cycle =
      let reach = event.address in
      let there = neither_of (Kind.is_of_memory event.kind && (ltb 0xFFFF reach || eqb (page_at m.bus.pages reach) 0))
      (Kind.is_of_ports event.kind && ltb 0xFF reach) (has_passed m event ok).there in
      let some = then_of (has_strobe event.kind) (Kind.is_of_memory event.kind || Kind.is_of_ports event.kind)
      (all_at (λ k. not (has_strobe k) || (Kind.is_of_memory k || Kind.is_of_ports k)) 16 refl event.kind kind_known)
      (strobe_cycle event.kind kind_known ∙ cycle) in
      ⊎_elim
      (λ (mem : Kind.is_of_memory event.kind ≡ true).
      let absent = neither_of (ltb 0xFFFF reach) (eqb (page_at m.bus.pages reach) 0)
      (ap (λ (b : Bool). b && (ltb 0xFFFF reach || eqb (page_at m.bus.pages reach) 0)) (sym mem) ∙ there.0) in
      let low = ltb-false 0xFFFF reach absent.0 in omega (arith, low))
      (λ (port : Kind.is_of_ports event.kind ≡ true).
      let low = ltb-false 0xFF reach (ap (λ (b : Bool). b && ltb 0xFF reach) (sym port) ∙ there.1) in omega (arith, low))
      (either_of (Kind.is_of_memory event.kind) (Kind.is_of_ports event.kind) some)
