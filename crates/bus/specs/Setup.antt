-- A bus set up from its chassis (01, "Refusals and their order", "The program and one whole run").
use Rattle.std.specs.Prelude.{ℕ, cond}
use Rattle.bus.specs.Refusal as Refusal
use Rattle.bus.specs.State.{empty_chassis, free_bus}
use Rattle.bus.specs.Sense.{codes_known}
use Rattle.bus.specs.declared.state.Bus.{Bus}
use Rattle.bus.specs.declared.state.Chassis.{Chassis}

-- the refusal, or 0, and a bus with either
pub record SetupAnswer : Type 0 where
  pub answer : ℕ
  pub bus : Bus

-- the bus that comes with a refusal
abbrev pub empty_bus : Bus
empty_bus = free_bus empty_chassis

abbrev pub setup_of : Chassis → SetupAnswer
setup_of chassis =
    cond (codes_known chassis) (record { answer = Refusal.accepted; bus = free_bus chassis })
    (record { answer = Refusal.bad_page; bus = empty_bus })
