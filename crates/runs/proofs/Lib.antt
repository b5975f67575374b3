-- Laws of runs, and the promises' proofs.
pub mod AllRefused
pub mod ArbitrationRuns
pub mod AsComputed
pub mod BusRuns
pub mod DemandThree
pub mod Grants
pub mod Ports
pub mod RunLaws
