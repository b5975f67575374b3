-- What a cycle moves, and what it leaves in memory and ports; an event that is no cycle moves nothing (01, "Events", "Bytes, words, status").
use Rattle.std.specs.Prelude.{ℕ, ◌%◌, List, [], ◌∷◌}
use Rattle.words.specs.Among.{beside}
use Rattle.phases.specs.Kind as Kind
use Rattle.memory.specs.Moved.{Moved}
use Rattle.memory.specs.declared.Slave.{Slave}
use Rattle.memory.specs.Slave.{slave}
use Rattle.memory.specs.Cycles.{nothing, byte_read, byte_write, after_byte_write, word_read, word_write, after_word_write}
use Rattle.judgement.specs.Refusals.{page_at}
use Rattle.judgement.specs.declared.event.Event.{Event}

-- what answers at an address: its page
abbrev pub slave_at : List ℕ → ℕ → Slave
slave_at pages address = slave (page_at pages address)

-- the datum of a byte cycle; accepted ones are a byte anyway (refusal 03)
abbrev pub byte_of : ℕ → ℕ
byte_of datum = datum % 0x100

-- what each kind of cycle moves
abbrev pub cycle_moves : Slave → Event → List ℕ → List ℕ → List (ℕ × Moved)
cycle_moves s event memory ports =
    (Kind.byte_read, byte_read memory event.address)
    ∷ (Kind.opcode_fetch, byte_read memory event.address)
    ∷ (Kind.byte_write, byte_write memory event.address (byte_of event.datum))
    ∷ (Kind.word_read, word_read s memory event.address)
    ∷ (Kind.word_write, word_write s memory event.address event.datum)
    ∷ (Kind.input, byte_read ports event.address)
    ∷ (Kind.output, byte_write ports event.address (byte_of event.datum))
    ∷ []

abbrev pub moved_by : Slave → Event → List ℕ → List ℕ → Moved
moved_by s event memory ports = beside event.kind (cycle_moves s event memory ports) nothing

-- what each kind that writes memory leaves there
abbrev pub memory_writes : Slave → Event → List ℕ → List (ℕ × List ℕ)
memory_writes s event memory =
    (Kind.byte_write, after_byte_write memory event.address (byte_of event.datum))
    ∷ (Kind.word_write, after_word_write s memory event.address event.datum)
    ∷ []

abbrev pub memory_left : Slave → Event → List ℕ → List ℕ
memory_left s event memory = beside event.kind (memory_writes s event memory) memory

abbrev pub port_writes : Event → List ℕ → List (ℕ × List ℕ)
port_writes event ports = (Kind.output, after_byte_write ports event.address (byte_of event.datum)) ∷ []

abbrev pub ports_left : Event → List ℕ → List ℕ
ports_left event ports = beside event.kind (port_writes event ports) ports
