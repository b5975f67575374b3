-- The state of the bus, how a state is built, and the arbitration in it (01, "State and phases").
use Rattle.std.specs.Prelude.{ℕ, Bool, List, replicate}
use Rattle.lines.specs.Arbitration.{Arbitration, four_lines, shown, settled}
use Rattle.cards.specs.Cards.{card_in}
use Rattle.phases.specs.Phase as Phase
use Rattle.bus.specs.declared.state.Bus.{Bus}
use Rattle.bus.specs.declared.state.Chassis.{Chassis}

-- the granted card's place where nobody is granted
abbrev pub nobody : ℕ
nobody = 0xFF

-- what the sixteen cards drive where none drives anything
abbrev pub silent : List ℕ
silent = replicate 16 0

-- ---- What setup is given

-- these cards and pages
abbrev pub chassis : ℕ → List ℕ → Chassis
chassis fitted pages = record { fitted = fitted; pages = pages }

-- nothing fitted, no memory on any page
abbrev pub empty_chassis : Chassis
empty_chassis = chassis 0 (replicate 16 0)

-- what the bus was set up with
abbrev pub chassis_of : Bus → Chassis
chassis_of bus = chassis bus.fitted bus.pages

-- ---- How a state is built

-- the only place that does it: the chassis, and then what the events change
abbrev pub built : Chassis → ℕ → ℕ → List ℕ → ℕ → Bus
built chassis phase contenders driven granted = record {
  fitted = chassis.fitted;
  pages = chassis.pages;
  phase = phase;
  contenders = contenders;
  driven = driven;
  granted = granted;
}

-- as the bus is right after setup with this chassis
abbrev pub free_bus : Chassis → Bus
free_bus chassis = built chassis Phase.free 0 silent nobody

-- as it was, with all that the events change given anew
abbrev pub changed : Bus → ℕ → ℕ → List ℕ → ℕ → Bus
changed bus = built (chassis_of bus)

-- as it was, with another chassis
abbrev pub with_chassis : Bus → Chassis → Bus
with_chassis bus chassis = built chassis bus.phase bus.contenders bus.driven bus.granted

-- as it was, with other page codes
abbrev pub with_pages : Bus → List ℕ → Bus
with_pages bus pages = with_chassis bus (chassis bus.fitted pages)

-- a state, part by part
abbrev pub state_of : ℕ → List ℕ → ℕ → ℕ → List ℕ → ℕ → Bus
state_of fitted pages = built (chassis fitted pages)

-- ---- The lines

-- the arbitration that the state is in
abbrev pub arbitration_of : Bus → Arbitration
arbitration_of bus = four_lines (λ n. card_in bus.contenders n)

-- what the priority lines show
abbrev pub lines_of : Bus → ℕ
lines_of bus = shown (arbitration_of bus) bus.driven

-- whoever contends would go on driving the same after a look
abbrev pub is_settled : Bus → Bool
is_settled bus = settled (arbitration_of bus) bus.driven
