-- The tables' entries, by computation.
use mathlib.Core.Path.{refl}
use Rattle.words.specs.Among.{is_among, beside}
use Rattle.phases.specs.Signal.{signals_in}
use Rattle.phases.specs.Driver.{drivers_in}
use Rattle.phases.specs.Status.{status_of}
use Rattle.phases.specs.Control.{strobe_of, control_in}
use Rattle.phases.specs.Examples.{Weights, Cycles, Tables, ControlTable}

pub weights : Weights
weights = record { phases = refl; asking = refl; cycles = refl; ending = refl; last = refl; groups = refl; codes = refl; signals = refl; status = refl }

pub cycles : Cycles
cycles = record { memory = refl; words = refl; ports = refl }

pub tables : Tables
unfolding beside drivers_in signals_in status_of
tables = record { drivers = refl; no_group = refl; signals = refl; status = refl }

pub control_table : ControlTable
unfolding is_among beside signals_in status_of strobe_of control_in
control_table = record {
  weights = refl;
  free = refl;
  arbitration = refl;
  granted = refl;
  transfer_one = refl;
  owned = refl;
  transfer_two = refl;
  no_cycle = refl;
  memory_write = refl;
  port_write = refl;
  memory_read = refl;
}
