-- What the contracts of this crate's inner functions cite beside rules, and the laws that join them to the services.
--   Chain      refusals in their order
--   Rooms      refusal 8
--   Outcomes   what follow and run do once sheet and rooms are accepted, and the whole outcome from that
pub mod Chain
pub mod Rooms
pub mod Outcomes
