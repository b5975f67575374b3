-- What is promised of the step of one event (01, "Events", "Bytes, words, status", "Refusals and their order"). The proof of each
-- stands in proofs/ under its name in lower case, with underscores.
use Rattle.std.specs.Prelude.{ℕ, ◌+◌, ◌/◌, ◌<◌, ◌≤◌, ◌≡◌, ◌⊎◌, ◌↔◌, true, false, cond, List, length, get_or, set}
use Rattle.words.specs.First.{applies_as}
use Rattle.lines.specs.Look.{look}
use Rattle.phases.specs.Phase as Phase
use Rattle.phases.specs.Kind as Kind
use Rattle.phases.specs.Signal.{HOLD, pHLDA, CDSB, SIXTN, sXTRQ, disabling, is_on, signals_in}
use Rattle.phases.specs.Driver.{all_permanent, changing_hands, all_card, drivers_in}
use Rattle.phases.specs.Status.{sMEMR, sM1, sINP, sOUT, sWO}
use Rattle.memory.specs.Moved.{Moved}
use Rattle.memory.specs.Halves.{even_half, odd_half, word_of}
use Rattle.memory.specs.Cycles.{nothing, in_one_cycle}
use Rattle.cards.specs.Cards.{some_card, is_within}
use Rattle.bus.specs.Refusal as Refusal
use Rattle.bus.specs.Sense.{makes_sense}
use Rattle.bus.specs.State.{nobody, silent, chassis_of, changed, with_pages, lines_of}
use Rattle.bus.specs.declared.state.Bus.{Bus}
use Rattle.judgement.specs.Table.{event_of, permanent_master, lists_speaker, lists_address, most_datum, is_cycle}
use Rattle.judgement.specs.Refusals.{has_wrong_buffers}
use Rattle.judgement.specs.Judge.{reasons_against}
use Rattle.judgement.specs.declared.event.Event.{Event}
use Rattle.events.specs.Machine.{Machine, machine}
use Rattle.events.specs.Answers.{answer_with}
use Rattle.events.specs.Step.{refusal_in, after, answer_to, sound_after, sound_answer}
use Rattle.events.specs.declared.answers.Answer.{Answer}

-- ---- Refused

-- A refused event leaves the bus and every byte as given.
abbrev pub RefusedKeeps : Type 0
RefusedKeeps = (m : Machine) (event : Event) → (refusal_in m event ≡ Refusal.accepted → ⊥) → after m event ≡ m

-- a number, and zeros: written out, so that the definition has something to be held to
abbrev pub only_number : ℕ → Answer
only_number n = record { refusal = n; phase = 0; granted = 0; lines = 0; signals = 0; status = 0; cycles = 0; datum = 0 }

-- After 01 and 02 everything else in the answer is 0; after a higher number it shows the bus, without status, cycles and datum.
abbrev pub RefusedAnswers : Type 0
RefusedAnswers =
    (m : Machine) (event : Event) (n : ℕ) → refusal_in m event ≡ n
    → ((n ≡ Refusal.wrong_buffers) ⊎ (n ≡ Refusal.senseless) → answer_to m event ≡ only_number n)
    × (Refusal.malformed ≤ n → answer_to m event ≡ answer_with n m.bus (signals_in m.bus.phase) 0 nothing)

-- The number answered is n exactly where n is among the reasons and every smaller number is not,
abbrev pub RefusedByNumber : Type 0
RefusedByNumber =
    (m : Machine) (event : Event) (n : ℕ) → 0 < n
    → ((answer_to m event).refusal ≡ n)
    ↔ ((applies_as n (reasons_against m.memory m.ports m.bus event) ≡ true)
    × ((k : ℕ) → k < n → applies_as k (reasons_against m.memory m.ports m.bus event) ≡ false))

-- and 0 exactly where there is no reason at all.
abbrev pub AcceptedByNone : Type 0
AcceptedByNone =
    (m : Machine) (event : Event)
    → ((answer_to m event).refusal ≡ Refusal.accepted) ↔ ((n : ℕ) → applies_as n (reasons_against m.memory m.ports m.bus event) ≡ false)

-- what an accepted event has in its fields: a kind that there is, a speaker that there is, no more than its kind lists, and a byte where a byte
-- goes
pub record WellFormed (event : Event) : Type 0 where
  pub kind : (Kind.request ≤ event.kind) × (event.kind ≤ Kind.last)
  pub speaker : event.speaker ≤ permanent_master
  pub no_speaker : lists_speaker event.kind ≡ false → event.speaker ≡ 0
  pub no_address : lists_address event.kind ≡ false → event.address ≡ 0
  pub datum : event.datum ≤ most_datum event.kind
  pub byte : (event.kind ≡ Kind.byte_write) ⊎ (event.kind ≡ Kind.output) → event.datum ≤ 0xFF

abbrev pub AcceptedIsWellFormed : Type 0
AcceptedIsWellFormed = (m : Machine) (event : Event) → refusal_in m event ≡ Refusal.accepted → WellFormed event

-- ---- What stays

-- The inner step is the step, where buffers and state are sound.
abbrev pub SoundStepIsTheStep : Type 0
SoundStepIsTheStep =
    (m : Machine) (event : Event) → has_wrong_buffers m.memory m.ports ≡ false → makes_sense m.bus ≡ true
    → (sound_after m event ≡ after m event) × (sound_answer m event ≡ answer_to m event)

abbrev pub SenseKeptByEvents : Type 0
SenseKeptByEvents = (m : Machine) (event : Event) → makes_sense m.bus ≡ true → makes_sense (after m event).bus ≡ true

abbrev pub LengthsKept : Type 0
LengthsKept =
    (m : Machine) (event : Event) → (length (after m event).memory ≡ length m.memory) × (length (after m event).ports ≡ length m.ports)

-- No event changes the chassis: the fitted cards and the pages.
abbrev pub ChassisStays : Type 0
ChassisStays = (m : Machine) (event : Event) → chassis_of (after m event).bus ≡ chassis_of m.bus

-- A cycle changes nothing of the bus,
abbrev pub CyclesKeepTheBus : Type 0
CyclesKeepTheBus = (m : Machine) (event : Event) → is_cycle event.kind ≡ true → (after m event).bus ≡ m.bus

-- another event no byte,
abbrev pub OthersKeepBytes : Type 0
OthersKeepBytes =
    (m : Machine) (event : Event) → is_cycle event.kind ≡ false
    → ((after m event).memory ≡ m.memory) × ((after m event).ports ≡ m.ports)

-- and whatever the event, a byte of the memory that isn't at its address or, for a word, after it, and a port that isn't at its address, stays.
abbrev pub OtherBytesStay : Type 0
OtherBytesStay =
    (m : Machine) (event : Event) (k : ℕ)
    → ((k < event.address) ⊎ (event.address + cond (Kind.is_word event.kind) 2 1 ≤ k) → get_or (after m event).memory k 0 ≡ get_or m.memory k 0)
    × ((k ≡ event.address → ⊥) → get_or (after m event).ports k 0 ≡ get_or m.ports k 0)

-- ---- What an accepted event of each kind does

-- it leaves this, and the answer shows what is left with these signals, this status, and what was moved
pub record Does (m : Machine) (event : Event) (left : Machine) (signals status : ℕ) (moved : Moved) : Type 0 where
  pub leaves : after m event ≡ left
  pub answers : answer_to m event ≡ answer_with Refusal.accepted left.bus signals status moved

-- A step that is no cycle leaves this bus and every byte, and its drivers are these.
pub record Steps (m : Machine) (event : Event) (bus : Bus) (signals : ℕ) (drivers : List ℕ) : Type 0 where
  pub does : Does m event (machine bus m.memory m.ports) signals 0 nothing
  pub drives : drivers_in (after m event).bus.phase ≡ drivers

-- an accepted event of this kind
abbrev pub AcceptedAs : ℕ → Machine → Event → Type 0
AcceptedAs kind m event = (event.kind ≡ kind) × (refusal_in m event ≡ Refusal.accepted)

abbrev pub RequestDoes : Type 0
RequestDoes =
    (m : Machine) (event : Event) → AcceptedAs Kind.request m event
    → Steps m event (changed m.bus Phase.arbitration event.datum silent nobody) HOLD all_permanent

abbrev pub LookDoes : Type 0
LookDoes =
    (m : Machine) (event : Event) → AcceptedAs Kind.look m event
    → Steps m event (changed m.bus Phase.arbitration m.bus.contenders
    (set m.bus.driven event.speaker (look 4 event.speaker (lines_of m.bus)))
    nobody) HOLD all_permanent

abbrev pub AcknowledgeDoes : Type 0
AcknowledgeDoes =
    (m : Machine) (event : Event) → AcceptedAs Kind.acknowledge m event
    → Steps m event (changed m.bus Phase.granted 0 silent (lines_of m.bus)) (HOLD + pHLDA) all_permanent

-- the bus goes to this phase, and nothing else of it changes
abbrev pub LeadsTo : ℕ → Machine → Event → ℕ → List ℕ → Type 0
LeadsTo phase m event signals drivers =
    Steps m event (changed m.bus phase m.bus.contenders m.bus.driven m.bus.granted) signals drivers

abbrev pub BeginTransferOneDoes : Type 0
BeginTransferOneDoes =
    (m : Machine) (event : Event) → AcceptedAs Kind.begin_transfer_one m event → LeadsTo Phase.transfer_one m event (HOLD + pHLDA + disabling) changing_hands

abbrev pub TakeBusDoes : Type 0
TakeBusDoes = (m : Machine) (event : Event) → AcceptedAs Kind.take_bus m event → LeadsTo Phase.owned m event (HOLD + pHLDA + disabling + CDSB) all_card

abbrev pub BeginTransferTwoDoes : Type 0
BeginTransferTwoDoes =
    (m : Machine) (event : Event) → AcceptedAs Kind.begin_transfer_two m event → LeadsTo Phase.transfer_two m event (pHLDA + disabling) changing_hands

abbrev pub GiveBackDoes : Type 0
GiveBackDoes =
    (m : Machine) (event : Event) → AcceptedAs Kind.give_back m event
    → Steps m event (changed m.bus Phase.free m.bus.contenders m.bus.driven nobody) 0 all_permanent

abbrev pub ResetDoes : Type 0
ResetDoes =
    (m : Machine) (event : Event) → AcceptedAs Kind.reset m event
    → Steps m event (changed m.bus Phase.free 0 silent nobody) 0 all_permanent

-- ---- Cycles

-- A cycle leaves the bus, this memory and these ports; the signals are its phase's, with a word's added.
abbrev pub Moves : Machine → Event → List ℕ → List ℕ → ℕ → ℕ → Moved → Type 0
Moves m event memory ports word status moved =
    Does m event (machine m.bus memory ports) (signals_in m.bus.phase + word) status moved

abbrev pub ByteReadDoes : Type 0
ByteReadDoes =
    (m : Machine) (event : Event) → AcceptedAs Kind.byte_read m event
    → Moves m event m.memory m.ports 0 sMEMR (in_one_cycle (get_or m.memory event.address 0))

abbrev pub OpcodeFetchDoes : Type 0
OpcodeFetchDoes =
    (m : Machine) (event : Event) → AcceptedAs Kind.opcode_fetch m event
    → Moves m event m.memory m.ports 0 (sMEMR + sM1) (in_one_cycle (get_or m.memory event.address 0))

abbrev pub ByteWriteDoes : Type 0
ByteWriteDoes =
    (m : Machine) (event : Event) → AcceptedAs Kind.byte_write m event
    → Moves m event (set m.memory event.address event.datum) m.ports 0 sWO (in_one_cycle event.datum)

abbrev pub InputDoes : Type 0
InputDoes =
    (m : Machine) (event : Event) → AcceptedAs Kind.input m event
    → Moves m event m.memory m.ports 0 sINP (in_one_cycle (get_or m.ports event.address 0))

abbrev pub OutputDoes : Type 0
OutputDoes =
    (m : Machine) (event : Event) → AcceptedAs Kind.output m event
    → Moves m event m.memory (set m.ports event.address event.datum) 0 (sOUT + sWO) (in_one_cycle event.datum)

-- the code of the page that the event's address lies in: there are sixteen, of 1000h bytes each
abbrev pub code_there : Machine → Event → ℕ
code_there m event = get_or m.bus.pages (event.address / 0x1000) 0

-- A word lies on a page of code 1, eight bits: two cycles, without SIXTN; or on one of code 2, sixteen bits: one cycle, with SIXTN.
abbrev pub ByItsPage : Machine → Event → (ℕ → ℕ → Type 0) → Type 0
ByItsPage m event does = ((code_there m event ≡ 1) × does sXTRQ 2) ⊎ ((code_there m event ≡ 2) × does (sXTRQ + SIXTN) 1)

-- a word, and how many cycles it took
abbrev pub word_in : ℕ → ℕ → Moved
word_in cycles datum = record { datum = datum; cycles = cycles }

abbrev pub WordReadDoes : Type 0
WordReadDoes =
    (m : Machine) (event : Event) → AcceptedAs Kind.word_read m event
    → ByItsPage m event (λ signals cycles.
    Moves m event m.memory m.ports signals sMEMR
    (word_in cycles (word_of (get_or m.memory event.address 0) (get_or m.memory (event.address + 1) 0))))

abbrev pub WordWriteDoes : Type 0
WordWriteDoes =
    (m : Machine) (event : Event) → AcceptedAs Kind.word_write m event
    → ByItsPage m event (λ signals cycles.
    Moves m event
    (set (set m.memory event.address (even_half event.datum)) (event.address + 1) (odd_half event.datum))
    m.ports
    signals
    sWO
    (word_in cycles event.datum))

-- In an accepted cycle the speaker drives all four groups of lines: in phases 0 and 1 it is the permanent master, in phase 4 the granted card.
abbrev pub SpeakerDrives : Type 0
SpeakerDrives =
    (m : Machine) (event : Event) → is_cycle event.kind ≡ true → refusal_in m event ≡ Refusal.accepted
    → ((m.bus.phase ≤ Phase.arbitration) × ((event.speaker ≡ permanent_master) × (drivers_in m.bus.phase ≡ all_permanent)))
    ⊎ ((m.bus.phase ≡ Phase.owned) × ((event.speaker ≡ m.bus.granted) × (drivers_in m.bus.phase ≡ all_card)))

-- A card that owns the bus has it until it begins transfer two itself, or a reset comes.
abbrev pub OnlyItsCardEnds : Type 0
OnlyItsCardEnds =
    (m : Machine) (event : Event) → m.bus.phase ≡ Phase.owned
    → ((after m event).bus ≡ m.bus)
    ⊎ (((event.kind ≡ Kind.begin_transfer_two) × (event.speaker ≡ m.bus.granted)) ⊎ (event.kind ≡ Kind.reset))

-- ---- A word over either page

-- the machine with another code for the page that an address lies in
abbrev pub with_page_at : ℕ → ℕ → Machine → Machine
with_page_at address code m = machine (with_pages m.bus (set m.bus.pages (address / 0x1000) code)) m.memory m.ports

-- the word is refused alike or on neither machine, the same bytes are left, and the answers have the same datum
pub record SameWord (event : Event) (eight sixteen : Machine) : Type 0 where
  pub refusal : refusal_in eight event ≡ refusal_in sixteen event
  pub memory : (after eight event).memory ≡ (after sixteen event).memory
  pub ports : (after eight event).ports ≡ (after sixteen event).ports
  pub datum : (answer_to eight event).datum ≡ (answer_to sixteen event).datum

-- So it is with two machines that differ in the code of the word's page alone, eight bits there or sixteen.
abbrev pub SameOverEitherPage : Type 0
SameOverEitherPage =
    (m : Machine) (event : Event) → Kind.is_word event.kind ≡ true → SameWord event (with_page_at event.address 1 m) (with_page_at event.address 2 m)

-- ---- HOLD is not the whole of it

-- Transfer two has HOLD false, and still takes no request, whatever cards it is for and whatever else the state is;
abbrev pub RequestInTransferTwo : Type 0
RequestInTransferTwo =
    (m : Machine) (event : Event) → m.bus.phase ≡ Phase.transfer_two → event.kind ≡ Kind.request
    → (is_on HOLD (signals_in m.bus.phase) ≡ false) × (refusal_in m event ≡ Refusal.accepted → ⊥)

-- where everything else is in order, the reason is the phase.
abbrev pub RequestTooEarly : Type 0
RequestTooEarly =
    (m : Machine) (cards : ℕ) → m.bus.phase ≡ Phase.transfer_two → has_wrong_buffers m.memory m.ports ≡ false → makes_sense m.bus ≡ true
    → cards ≤ 0xFFFF → some_card cards ≡ true → is_within cards m.bus.fitted ≡ true
    → refusal_in m (event_of Kind.request 0 0 cards) ≡ Refusal.wrong_phase
