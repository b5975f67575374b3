-- Read in this order: the lines of the bus, and when each is driven and true; the pins; what an event's picture shows; its digits; a picture
-- read again; what the code's result tells of one; what is promised; cases written out.
pub mod BusLine
pub mod Pin
pub mod Moments
pub mod Picture
pub mod ReadAgain
pub mod Told
pub mod Promises
pub mod Examples
