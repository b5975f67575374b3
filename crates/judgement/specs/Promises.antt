-- What is promised of the judgement (01, "Events", "Refusals and their order"). The proof of each
-- stands in proofs/ under its name in lower case, with underscores.
use Rattle.std.specs.Prelude.{ℕ, ◌/◌, ◌≤◌, ◌≡◌, ◌⊎◌, ◌↔◌, false, ◌&&◌, ◌||◌, List, eqb, leb, ltb, length, get_or}
use Rattle.bus.specs.Refusal as Refusal
use Rattle.bus.specs.declared.state.Bus.{Bus}
use Rattle.judgement.specs.Table.{has_row, row_of, is_cycle}
use Rattle.judgement.specs.Refusals.{has_wrong_buffers, is_absent}
use Rattle.judgement.specs.Judge.{Takes, sound_refusal, number_given, sound_verdict}
use Rattle.judgement.specs.declared.event.Event.{Event}

-- The kinds from 01 to 0F have a row, and no others do;
abbrev pub EachKindHasItsRow : Type 0
EachKindHasItsRow = (kind : ℕ) → has_row kind ≡ (leb 0x01 kind && leb kind 0x0F)

-- cycles are those from 06 to 0C.
abbrev pub CycleKinds : Type 0
CycleKinds = (kind : ℕ) → is_cycle kind ≡ (leb 0x06 kind && leb kind 0x0C)

-- The verdict's number is the refusal, with 0 for a step,
abbrev pub VerdictNumber : Type 0
VerdictNumber = (bus : Bus) (event : Event) → number_given (sound_verdict bus event) ≡ sound_refusal bus event

-- and the step is the kind's.
abbrev pub VerdictStep : Type 0
VerdictStep = (bus : Bus) (event : Event) → sound_refusal bus event ≡ Refusal.accepted → sound_verdict bus event ≡ Takes (row_of event.kind).step

-- The buffers are right exactly with these lengths.
abbrev pub LengthsAsked : Type 0
LengthsAsked = (memory ports : List ℕ) → (has_wrong_buffers memory ports ≡ false) ↔ ((length memory ≡ 65536) × (length ports ≡ 256))

-- Memory is absent above FFFF and on a page of code 0, whichever cycle of the memory asks, a write too: there are sixteen pages, of 1000h bytes each;
abbrev pub MemoryAbsent : Type 0
MemoryAbsent =
    (pages : List ℕ) (event : Event) → 0x06 ≤ event.kind → event.kind ≤ 0x0A
    → is_absent pages event ≡ (ltb 0xFFFF event.address || eqb (get_or pages (event.address / 0x1000) 0) 0)

-- a port is absent above FF, whatever the pages.
abbrev pub PortAbsent : Type 0
PortAbsent = (pages : List ℕ) (event : Event) → (event.kind ≡ 0x0B) ⊎ (event.kind ≡ 0x0C) → is_absent pages event ≡ ltb 0xFF event.address
