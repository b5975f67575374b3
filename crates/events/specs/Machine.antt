-- The bus with the memory and the ports of 01, "The bus that is modelled": an event is given all three, and leaves all three.
use Rattle.std.specs.Prelude.{ℕ, List}
use Rattle.bus.specs.declared.state.Bus.{Bus}

pub record Machine : Type 0 where
  pub bus : Bus
  pub memory : List ℕ
  pub ports : List ℕ

abbrev pub machine : Bus → List ℕ → List ℕ → Machine
machine bus memory ports = record { bus = bus; memory = memory; ports = ports }
