-- Read in this order: the phases and the kinds of events, by number and by name; the signals true in each phase; who drives which lines, by number
-- and by name; status by kind of cycle; control outputs; what is promised; the tables, entry by entry.
pub mod Phase
pub mod Phases
pub mod Kind
pub mod Kinds
pub mod Signal
pub mod Driver
pub mod Drivers
pub mod Status
pub mod Control
pub mod Promises
pub mod Examples
