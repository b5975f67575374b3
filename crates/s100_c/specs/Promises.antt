-- What is promised of the C face. The proof of each stands in proofs/ under its name in lower case, with underscores.
use Rattle.std.specs.Prelude.{ℕ, ◌<◌, ◌≡◌, true, false, List, [], ◌∷◌, length, get_or}
use Rattle.std.proofs.lemmas.List.Edits.{sets}
use Rattle.bus.specs.Refusal.{wrong_length}
use Rattle.bus.specs.Refusal as Refusal
use Rattle.bus.specs.Sense.{makes_sense}
use Rattle.bus.specs.Setup.{setup_of}
use Rattle.bus.specs.Settle.{settle_of}
use Rattle.bus.specs.declared.state.Bus.{Bus}
use Rattle.bus.specs.declared.state.Chassis.{Chassis}
use Rattle.judgement.specs.Refusals.{has_wrong_buffers}
use Rattle.judgement.specs.declared.event.Event.{Event}
use Rattle.events.specs.Step.{after, answer_to}
use Rattle.events.specs.declared.answers.Answer.{Answer}
use Rattle.runs.specs.Run.{after_all}
use Rattle.outcome.specs.Outcomes.{figures, figures_for}
use Rattle.text.specs.Promises.{FirstWrong}
use Rattle.pins.specs.Picture.{pictures_of}
use Rattle.pins.specs.ReadAgain.{seen, picture_in}
use Rattle.s100_c.specs.Layout.{state_size, is_state, state_bytes, bus_in, answer_size, answer_bytes, answer_in}
use Rattle.s100_c.specs.Calls.{
  setup_fits,
  setup_answers,
  setup_leaves,
  Lent,
  machine_in,
  places_fit,
  step_answers,
  step_leaves,
  settle_answers,
  settle_leaves,
  settle_counts,
}
use Rattle.s100_c.specs.Outcomes.{outcome_fits, outcome_answers, outcome_leaves}
use Rattle.s100_c.specs.Pictures.{picture_fits, picture_answers, picture_leaves, is_seen, read_answers, read_leaves}
use Rattle.s100_c.specs.Run.{Placed, bytes_after, calls_taken}

-- ---- The layout

-- sixteen pages and sixteen levels, as the arrays of the code have
abbrev pub Whole : Bus → Type 0
Whole bus = (length bus.pages ≡ 16) × (length bus.driven ≡ 16)

-- what a buffer can hold
abbrev pub AreBytes : List ℕ → Type 0
AreBytes bytes = (i : ℕ) → i < length bytes → get_or bytes i 0 < 0x100

-- Decoding undoes encoding, for every state that the code can have
abbrev pub StateReadsBack : Type 0
StateReadsBack = (bus : Bus) → Whole bus → (length (state_bytes bus) ≡ state_size) × (bus_in (state_bytes bus) ≡ bus)

-- and so for every state that makes sense,
abbrev pub SensibleReadsBack : Type 0
SensibleReadsBack = (bus : Bus) → makes_sense bus ≡ true → (length (state_bytes bus) ≡ state_size) × (bus_in (state_bytes bus) ≡ bus)

-- and encoding undoes decoding, for all bytes.
abbrev pub BytesReadBack : Type 0
BytesReadBack = (bytes : List ℕ) → length bytes ≡ state_size → AreBytes bytes → Whole (bus_in bytes) × (state_bytes (bus_in bytes) ≡ bytes)

abbrev pub AnswerBytesReadBack : Type 0
AnswerBytesReadBack = (a : Answer) → (length (answer_bytes a) ≡ answer_size) × (answer_in (answer_bytes a) ≡ a)

-- ---- Where a length is wrong the answer is fixed, and every buffer is as it was.

abbrev pub SetupMisfits : Type 0
SetupMisfits =
    (given : Chassis) (state : List ℕ) → setup_fits given state ≡ false
    → (setup_answers given state ≡ wrong_length) × (setup_leaves given state ≡ state)

abbrev pub StepMisplaced : Type 0
StepMisplaced =
    (given : Lent) (event : Event) → places_fit given ≡ false → (step_answers given event ≡ wrong_length) × (step_leaves given event ≡ given)

abbrev pub StepMisfits : Type 0
StepMisfits =
    (given : Lent) (event : Event) → places_fit given ≡ true → has_wrong_buffers given.memory given.ports ≡ true
    → (step_answers given event ≡ Refusal.wrong_buffers) × (step_leaves given event ≡ given)

abbrev pub SettleMisfits : Type 0
SettleMisfits =
    (state cards : List ℕ) (looks : ℕ) → is_state state ≡ false
    → (settle_answers state cards ≡ wrong_length) × ((settle_leaves state cards ≡ state) × (settle_counts state cards looks ≡ looks))

-- No other answer has that number.
abbrev pub WrongLengthIsOwn : Type 0
WrongLengthIsOwn =
    ((given : Chassis) (state : List ℕ) → setup_answers given state ≡ wrong_length → setup_fits given state ≡ false)
    × (((given : Lent) (event : Event) → step_answers given event ≡ wrong_length → places_fit given ≡ false)
    × (((state cards : List ℕ) → settle_answers state cards ≡ wrong_length → is_state state ≡ false)
    × (((kind address : ℕ) (answer place : List ℕ) → picture_answers kind address answer place ≡ wrong_length → picture_fits answer place ≡ false)
    × (((line place : List ℕ) → read_answers line place ≡ wrong_length → is_seen place ≡ false)
    × ((state : List ℕ) (card : ℕ) (place : List ℕ) → outcome_answers state card place ≡ wrong_length → outcome_fits state place ≡ false)))))

-- ---- Else a call is the model's: decoding what it leaves gives what the model's function gives.

abbrev pub SetupIsTheSetup : Type 0
SetupIsTheSetup =
    (given : Chassis) (state : List ℕ) → setup_fits given state ≡ true
    → (setup_answers given state ≡ (setup_of given).answer) × (bus_in (setup_leaves given state) ≡ (setup_of given).bus)

-- also with memory and ports of wrong lengths, which the model refuses too
abbrev pub StepIsTheStep : Type 0
StepIsTheStep =
    (given : Lent) (event : Event) → places_fit given ≡ true
    → (step_answers given event ≡ (answer_to (machine_in given) event).refusal) × (machine_in (step_leaves given event) ≡ after (machine_in given) event)

abbrev pub AnswerIsTheAnswer : Type 0
AnswerIsTheAnswer =
    (given : Lent) (event : Event) → places_fit given ≡ true → has_wrong_buffers given.memory given.ports ≡ false
    → answer_in (step_leaves given event).answer ≡ answer_to (machine_in given) event

abbrev pub SettleIsTheSettle : Type 0
SettleIsTheSettle =
    (state cards : List ℕ) (looks : ℕ) → is_state state ≡ true
    → (settle_answers state cards ≡ (settle_of (bus_in state) cards).answer)
    × ((bus_in (settle_leaves state cards) ≡ (settle_of (bus_in state) cards).bus) × (settle_counts state cards looks ≡ (settle_of (bus_in state) cards).looks))

-- ---- So is a run of calls, and what `runs` promises of runs holds of it.

abbrev pub RunIsTheRun : Type 0
RunIsTheRun =
    (calls : List Placed) (state : List ℕ) → is_state state ≡ true
    → (is_state (bytes_after state calls) ≡ true) × (bus_in (bytes_after state calls) ≡ after_all (bus_in state) (calls_taken calls))

-- ---- A refused call leaves every byte of state, memory and ports as it was.

abbrev pub StepRefusedKeeps : Type 0
StepRefusedKeeps =
    (given : Lent) (event : Event) → AreBytes given.state → (step_answers given event ≡ Refusal.accepted → ⊥)
    → ((step_leaves given event).state ≡ given.state)
    × (((step_leaves given event).memory ≡ given.memory) × ((step_leaves given event).ports ≡ given.ports))

abbrev pub SettleRefusedKeepsBytes : Type 0
SettleRefusedKeepsBytes =
    (state cards : List ℕ) → AreBytes state → (settle_answers state cards ≡ Refusal.accepted → ⊥) → settle_leaves state cards ≡ state

-- ---- Outcomes

-- With a state and a place for the four bytes the call is the model's: answer, card, line and rival.
abbrev pub OutcomeIsTheOutcome : Type 0
OutcomeIsTheOutcome =
    (state place : List ℕ) (card answer line rival : ℕ) → length state ≡ 38 → length place ≡ 4
    → figures_for (bus_in state) card ≡ figures answer card line rival
    → (outcome_answers state card place ≡ answer) × (outcome_leaves state card place ≡ answer ∷ card ∷ line ∷ rival ∷ [])

-- With a wrong length nothing is written.
abbrev pub OutcomeMisfits : Type 0
OutcomeMisfits =
    (state place : List ℕ) (card : ℕ) → ((length state ≡ 38) × (length place ≡ 4) → ⊥)
    → (outcome_answers state card place ≡ wrong_length) × (outcome_leaves state card place ≡ place)

-- ---- Pictures

-- With the bytes of an answer, and a place for the most lines, the pictures of the event are written to its front, and counted; its speaker and its
-- datum are not asked for.
abbrev pub PictureIsThePicture : Type 0
PictureIsThePicture =
    (event : Event) (a : Answer) (place : List ℕ) → length place ≡ 102
    → (picture_answers event.kind event.address (answer_bytes a) place ≡ length (pictures_of event a))
    × (picture_leaves event.kind event.address (answer_bytes a) place ≡ sets place 0 (pictures_of event a))

-- With a wrong length nothing is written.
abbrev pub PictureMisfits : Type 0
PictureMisfits =
    (kind address : ℕ) (answer place : List ℕ) → ((length answer ≡ 9) × (length place ≡ 102) → ⊥)
    → (picture_answers kind address answer place ≡ wrong_length) × (picture_leaves kind address answer place ≡ place)

-- A line that is read leaves phase, signals, priority lines and no column in a place of four bytes,
abbrev pub PictureReadIsThePicture : Type 0
PictureReadIsThePicture =
    (line place : List ℕ) (phase signals lines : ℕ) → length place ≡ 4 → picture_in line ≡ seen phase signals lines
    → (read_answers line place ≡ 0) × (read_leaves line place ≡ phase ∷ signals ∷ lines ∷ 0 ∷ [])

-- one of a wrong length zeros, and one with a wrong character zeros and the first column; a place of another length stays as it was.
abbrev pub PictureReadRefused : Type 0
PictureReadRefused =
    (line place : List ℕ)
    → ((length line ≡ 50 → ⊥) → length place ≡ 4 → (read_answers line place ≡ 0x0C) × (read_leaves line place ≡ 0 ∷ 0 ∷ 0 ∷ 0 ∷ []))
    × (((column : ℕ) → length line ≡ 50 → FirstWrong line column → length place ≡ 4
    → (read_answers line place ≡ 0x0D) × (read_leaves line place ≡ 0 ∷ 0 ∷ 0 ∷ column ∷ []))
    × ((length place ≡ 4 → ⊥) → (read_answers line place ≡ wrong_length) × (read_leaves line place ≡ place)))
