-- The six phases, as 01 numbers them in "State and phases".
use Rattle.std.specs.Prelude.{ℕ, Bool, ◌&&◌, ◌||◌, eqb, leb}

abbrev pub free : ℕ
free = 0

abbrev pub arbitration : ℕ
arbitration = 1

abbrev pub granted : ℕ
granted = 2

abbrev pub transfer_one : ℕ
transfer_one = 3

abbrev pub owned : ℕ
owned = 4

abbrev pub transfer_two : ℕ
transfer_two = 5

-- ---- Which phases are alike

abbrev pub last : ℕ
last = transfer_two

-- there is such a phase
abbrev pub is_known : ℕ → Bool
is_known phase = leb phase last

-- the phase is one of those from the one to the other
abbrev pub is_from : ℕ → ℕ → ℕ → Bool
is_from from to phase = leb from phase && leb phase to

-- a card is granted in these phases
abbrev pub is_granted : ℕ → Bool
is_granted phase = is_from granted transfer_two phase

-- some master has cycles in these phases (000, 2.8.2.3.5; 01, "Events")
abbrev pub has_cycles : ℕ → Bool
has_cycles phase = eqb phase free || eqb phase arbitration || eqb phase owned
