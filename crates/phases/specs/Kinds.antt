-- The code's names for the kinds of events, with 01's numbers.
use Rattle.std.specs.Prelude.{ℕ, ◌<◌, ◌≡◌, ◌⊎◌, Result, Ok, Err, MatchResult, [], ◌∷◌}
use Rattle.words.specs.Among.{beside}
use Rattle.phases.specs.Kind as Number
use Rattle.phases.specs.declared.kinds.Kind.{Kind}
use Rattle.phases.specs.declared.kinds.UnknownKind.{UnknownKind}

abbrev pub number_of_kind : Kind → ℕ
number_of_kind Kind.Request = Number.request
number_of_kind Kind.Look = Number.look
number_of_kind Kind.Acknowledge = Number.acknowledge
number_of_kind Kind.BeginTransferOne = Number.begin_transfer_one
number_of_kind Kind.TakeBus = Number.take_bus
number_of_kind Kind.ByteRead = Number.byte_read
number_of_kind Kind.OpcodeFetch = Number.opcode_fetch
number_of_kind Kind.ByteWrite = Number.byte_write
number_of_kind Kind.WordRead = Number.word_read
number_of_kind Kind.WordWrite = Number.word_write
number_of_kind Kind.Input = Number.input
number_of_kind Kind.Output = Number.output
number_of_kind Kind.BeginTransferTwo = Number.begin_transfer_two
number_of_kind Kind.GiveBack = Number.give_back
number_of_kind Kind.Reset = Number.reset

-- the kind with this number, or an error with a number that none has
unfoldable pub kind_of : ℕ → Result Kind UnknownKind
kind_of number =
    beside number (
    (Number.request, Ok Kind.Request) ∷ (Number.look, Ok Kind.Look) ∷ (Number.acknowledge, Ok Kind.Acknowledge)
    ∷ (Number.begin_transfer_one, Ok Kind.BeginTransferOne) ∷ (Number.take_bus, Ok Kind.TakeBus)
    ∷ (Number.byte_read, Ok Kind.ByteRead) ∷ (Number.opcode_fetch, Ok Kind.OpcodeFetch) ∷ (Number.byte_write, Ok Kind.ByteWrite)
    ∷ (Number.word_read, Ok Kind.WordRead) ∷ (Number.word_write, Ok Kind.WordWrite)
    ∷ (Number.input, Ok Kind.Input) ∷ (Number.output, Ok Kind.Output)
    ∷ (Number.begin_transfer_two, Ok Kind.BeginTransferTwo) ∷ (Number.give_back, Ok Kind.GiveBack) ∷ (Number.reset, Ok Kind.Reset) ∷ []
    ) (Err (record { 0 = number }))

-- the result has this number, or is an error with a number that no kind has
abbrev pub Numbered : ℕ → Result Kind UnknownKind → Type 0
Numbered number r =
    MatchResult r (λ kind. number_of_kind kind ≡ number) (λ unknown. (unknown.0 ≡ number) × ((number < Number.request) ⊎ (Number.last < number)))
