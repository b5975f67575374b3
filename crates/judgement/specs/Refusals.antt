-- The refusals of an event, one by one (01, "Refusals and their order"): each says when its number applies, whatever else may apply too.
use Rattle.std.specs.Prelude.{ℕ, ◌/◌, ◌%◌, Bool, not, ◌&&◌, ◌||◌, List, eqb, leb, ltb, length, get_or}
use Rattle.phases.specs.Kind as Kind
use Rattle.cards.specs.Cards.{card_in, some_card, is_within}
use Rattle.bus.specs.State.{is_settled}
use Rattle.bus.specs.declared.state.Bus.{Bus}
use Rattle.judgement.specs.Table.{permanent_master, has_turn, has_row, row_of, lists_speaker, lists_address, most_datum}
use Rattle.judgement.specs.declared.event.Event.{Event}

-- 01: a buffer has another length than its own, 10000h for memory and 100h for ports
abbrev pub has_wrong_buffers : List ℕ → List ℕ → Bool
has_wrong_buffers memory ports = not (eqb (length memory) 0x10000 && eqb (length ports) 0x100)

-- 02: a senseless state; the test is bus Sense.is_senseless, since settle asks it too.

-- a speaker or an address that the kind doesn't list isn't zero
abbrev pub has_stray_field : Event → Bool
has_stray_field event =
    not (lists_speaker event.kind) && not (eqb event.speaker 0)
    || not (lists_address event.kind) && not (eqb event.address 0)

-- a datum beyond what the kind lists: anything but zero, where it lists none, and more than a byte for a byte write or an output
abbrev pub is_too_wide : Event → Bool
is_too_wide event = ltb (most_datum event.kind) event.datum

-- 03: no such kind, no such speaker, or one of the two above
abbrev pub is_malformed : Event → Bool
is_malformed event =
    not (has_row event.kind)
    || ltb permanent_master event.speaker
    || has_stray_field event
    || is_too_wide event

-- 04: a request with an empty set
abbrev pub names_nobody : Event → Bool
names_nobody event = eqb event.kind Kind.request && not (some_card event.datum)

-- 05: a card that speaks or that is requested for isn't fitted; the permanent master, 10h, is no card
abbrev pub names_unfitted : ℕ → Event → Bool
names_unfitted fitted event =
    lists_speaker event.kind && leb event.speaker 15 && not (card_in fitted event.speaker)
    || eqb event.kind Kind.request && not (is_within event.datum fitted)

-- 06: in this phase there is no such event
abbrev pub is_wrong_phase : Bus → Event → Bool
is_wrong_phase bus event = not ((row_of event.kind).allows bus.phase)

-- 07: the speaker isn't whom the kind asks for
abbrev pub is_not_its_turn : Bus → Event → Bool
is_not_its_turn bus event = not (has_turn (row_of event.kind).speaker bus event.speaker)

-- 08: an acknowledge while some contender would still drive something else after a look
abbrev pub is_unsettled : Bus → Event → Bool
is_unsettled bus event = eqb event.kind Kind.acknowledge && not (is_settled bus)

-- 09: a word that doesn't begin at an even address
abbrev pub is_odd_word : Event → Bool
is_odd_word event = Kind.is_word event.kind && not (eqb (event.address % 2) 0)

-- the code of the page that an address lies in; there are sixteen pages of 4,096 bytes, and beyond them none
abbrev pub page_at : List ℕ → ℕ → ℕ
page_at pages address = get_or pages (address / 0x1000) 0

-- 0A: no memory there, or no port of that number
abbrev pub is_absent : List ℕ → Event → Bool
is_absent pages event =
    Kind.is_of_memory event.kind && (ltb 0xFFFF event.address || eqb (page_at pages event.address) 0)
    || Kind.is_of_ports event.kind && ltb 0xFF event.address
