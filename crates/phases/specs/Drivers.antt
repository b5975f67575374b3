-- The code's names for who drives a group of lines, with 01's numbers.
use Rattle.std.specs.Prelude.{ℕ}
use Rattle.phases.specs.Driver as Number
use Rattle.phases.specs.declared.drivers.Driver.{Driver}

abbrev pub number_of_driver : Driver → ℕ
number_of_driver Driver.Nobody = Number.no_driver
number_of_driver Driver.PermanentMaster = Number.permanent
number_of_driver Driver.Card = Number.card
number_of_driver Driver.Both = Number.both
