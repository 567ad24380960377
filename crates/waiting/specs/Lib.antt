-- The waiting list of one receiver.
--   Envelopes  envelopes, the fit, the first in order of waiting that fits; proofs/Envelopes: what a search that goes from the front
--              shows
--   Messages   the waiting list of one receiver in a job; proofs/Messages: the message found is the one that the stepping rules take
pub mod Envelopes
pub mod Messages
