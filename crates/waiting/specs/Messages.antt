-- The waiting list of one receiver in a job: the envelopes of the pending messages that are addressed to it, in order of arrival.
-- The earliest that fits a receive is the message that rules' `first_message` gives: proofs/Messages. Assumes nothing.
use Rattle.std.specs.Prelude.{None, Some, ℕ, get_or}
use Rattle.std.proofs.Math.Bool.{cond}
use mathlib.Core.List.{List, [], ◌∷◌}
use Rattle.std.proofs.Math.Option.{Option, none, some}
use Rattle.std.proofs.Math.Dec.{eqb}
use Rattle.rules.specs.Sheet.{Sheet, op, rank_of}
use Rattle.waiting.specs.declared.Envelope.{Envelope}
use Rattle.waiting.specs.Envelopes.{envelope}

-- the envelope of message m
unfoldable pub envelope_of : Sheet → (m : ℕ) → Envelope
envelope_of s m = envelope (rank_of s m) (op s m).comm (op s m).tag m

-- the envelopes of those of a list of messages that are addressed to a rank
unfoldable pub waiting_for : Sheet → (rank : ℕ) → List ℕ → List Envelope
waiting_for s b [] = []
waiting_for s b (m ∷ ms) = cond (eqb (op s m).peer b) (envelope_of s m ∷ waiting_for s b ms) (waiting_for s b ms)

-- the send that was found
unfoldable pub operation_of : List Envelope → (found : Rattle.std.specs.Prelude.Option ℕ) → Option ℕ
operation_of es None = none
operation_of es (Some k) = some (get_or es k (envelope 0 0 0 0)).operation
