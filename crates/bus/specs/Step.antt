-- The steps that events take, as one list, so that what holds of all of them is said once (01, "Events").
use Rattle.std.specs.Prelude.{ℕ}
use Rattle.bus.specs.Steps.{requested, looked_by, acknowledged, transfer_one_begun, bus_taken, transfer_two_begun, given_back, reset_to}
use Rattle.bus.specs.declared.state.Bus.{Bus}
use Rattle.bus.specs.declared.step.Step.{Step}

-- What a step of this speaker with this datum does to the bus; a cycle leaves it as it is.
abbrev pub step_by : Step → Bus → ℕ → ℕ → Bus
step_by Step.Request bus speaker datum = requested bus datum
step_by Step.Look bus speaker datum = looked_by bus speaker
step_by Step.Acknowledge bus speaker datum = acknowledged bus
step_by Step.BeginTransferOne bus speaker datum = transfer_one_begun bus speaker
step_by Step.TakeBus bus speaker datum = bus_taken bus speaker
step_by Step.Cycle bus speaker datum = bus
step_by Step.BeginTransferTwo bus speaker datum = transfer_two_begun bus speaker
step_by Step.GiveBack bus speaker datum = given_back bus speaker
step_by Step.Reset bus speaker datum = reset_to bus
