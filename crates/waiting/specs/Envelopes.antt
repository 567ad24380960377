-- Envelopes of waiting messages, and the first in order of waiting that fits what a receive asks for (document 01, "How a board
-- steps": fit, and the earliest that fits). What a search that goes from the front shows is proved in proofs/Envelopes. Assumes nothing.
use Rattle.std.specs.Prelude.{Option, position, ◌≡◌, Bool, ◌&&◌, ◌||◌, List, [], ◌∷◌, ℕ, ◌<◌, eqb, get_or}
use Rattle.std.proofs.Math.Bool.{false}
use Rattle.rules.specs.Limits.{any}
use Rattle.waiting.specs.declared.Envelope.{Envelope}

-- an envelope of plain numbers
abbrev pub envelope : (source communicator tag operation : ℕ) → Envelope
envelope s c t i =
    record {
      source = s;
      communicator = c;
      tag = t;
      operation = i;
    }

-- what a receive asks for, a source or a tag, is what the message has, or any
abbrev pub is_asked : (asked told : ℕ) → Bool
is_asked asked told = eqb asked any || eqb asked told

-- the fit of a message that is addressed to the receiver, from the sender in the context with the mark for its tag: communicators
-- equal; source equal or any; tag equal or any
unfoldable pub envelope_fits : (sender context mark source communicator tag : ℕ) → Bool
envelope_fits sender context mark s c t = eqb context c && ((eqb s any || eqb s sender) && (eqb t any || eqb t mark))

-- the same of an envelope, for a receive that asks for s, c and t
abbrev pub fits_receive : Envelope → (source communicator tag : ℕ) → Bool
fits_receive e s c t = envelope_fits e.source e.communicator e.tag s c t

-- the place of the earliest that fits a receive, none where none fits
unfoldable pub earliest_fit : List Envelope → (source communicator tag : ℕ) → Option ℕ
earliest_fit es s c t = position (λ e. fits_receive e s c t) es

-- the list whose sources, communicators and tags stand apart, and whose operations don't matter
unfoldable pub listed : (sources communicators tags : List ℕ) → List Envelope
listed [] cs ts = []
listed (s ∷ ss) [] ts = []
listed (s ∷ ss) (c ∷ cs) [] = []
listed (s ∷ ss) (c ∷ cs) (t ∷ ts) = envelope s c t 0 ∷ listed ss cs ts

-- A SEARCH FROM THE FRONT: what it has passed does not fit
abbrev pub Passed : (Envelope → Bool) → List Envelope → (k : ℕ) → Type 0
Passed f es k = (j : ℕ) → j < k → f (get_or es j (envelope 0 0 0 0)) ≡ false
