-- The theorems of waiting.
--   Envelopes    what a search through envelopes finds
--   Messages     the earliest envelope that fits is rules' message
pub mod Envelopes
pub mod Messages
