-- In the waiting list of one receiver (specs/Messages) the earliest envelope that fits a receive is the message that rules'
-- `first_message` gives. Assumes nothing.
use Rattle.std.specs.Prelude.{None, Some, ◌≡◌, Bool, ◌&&◌, ◌||◌, ℕ}
use Rattle.std.proofs.Math.Path.{refl, sym}
use Rattle.std.proofs.Common.{◌∙◌, ap, option_map, suc}
use Rattle.std.proofs.Math.Bool.{true, false, cond}
use mathlib.Core.List.{List, [], ◌∷◌}
use Rattle.std.proofs.Math.Option.{Option, some}
use Rattle.std.proofs.Math.Dec.{eqb}
use Rattle.rules.specs.Limits.{any}
use Rattle.rules.specs.Sheet.{Sheet, op, rank_of}
use Rattle.rules.specs.Step.{fits_with, first_by, first_message}
use Rattle.waiting.specs.declared.Envelope.{Envelope}
use Rattle.waiting.specs.Envelopes.{envelope_fits, fits_receive, earliest_fit}
use Rattle.waiting.proofs.Envelopes.{position_found, position_on}
use Rattle.waiting.specs.Messages.{envelope_of, waiting_for, operation_of}

next_operation : (e : Envelope) (es : List Envelope) (found : Rattle.std.specs.Prelude.Option ℕ) → operation_of (e ∷ es) (option_map suc found) ≡ operation_of es found
unfolding operation_of
next_operation e es None = refl
next_operation e es (Some k) = refl

regroup : (x y z : Bool) → ((x && y) && z) ≡ (x && (y && z))
regroup true y z = refl
regroup false y z = refl

-- rules' fit of message m and receive r: the message is addressed to the receiver, and its envelope fits
pub fits_with_is : (s : Sheet) (m r : ℕ)
    → fits_with s m r ≡ (eqb (op s m).peer (rank_of s r) && envelope_fits (rank_of s m) (op s m).comm (op s m).tag (op s r).peer (op s r).comm (op s r).tag)
unfolding fits_with envelope_fits
fits_with_is s m r =
    regroup (eqb (op s m).peer (rank_of s r)) (eqb (op s m).comm (op s r).comm)
    ((eqb (op s r).peer any || eqb (op s r).peer (rank_of s m)) && (eqb (op s r).tag any || eqb (op s r).tag (op s m).tag))

module _ (s : Sheet) (r : ℕ) where
  abbrev fits_r : Envelope → Bool
  fits_r e = fits_receive e (op s r).peer (op s r).comm (op s r).tag

  -- the send that is found in a list
  abbrev found_in : List Envelope → Option ℕ
  found_in es = operation_of es (earliest_fit es (op s r).peer (op s r).comm (op s r).tag)

  abbrev Given : List ℕ → Type 0
  Given ms = first_message s r ms ≡ found_in (waiting_for s (rank_of s r) ms)

  -- a message in front that is the receiver's, and fits or doesn't
  front : (m : ℕ) (ms : List ℕ) → (test : Bool) → fits_r (envelope_of s m) ≡ test → Given ms
      → cond test (some m) (first_by (λ n. fits_with s n r) ms) ≡ found_in (envelope_of s m ∷ waiting_for s (rank_of s r) ms)
  unfolding earliest_fit first_message operation_of envelope_of
  front m ms true e h = ap (operation_of (envelope_of s m ∷ waiting_for s (rank_of s r) ms)) (sym (position_found fits_r (envelope_of s m) (waiting_for s (rank_of s r) ms) e))
  front m ms false e h =
      let rest = waiting_for s (rank_of s r) ms in
      h ∙ (sym (next_operation (envelope_of s m) rest (earliest_fit rest (op s r).peer (op s r).comm (op s r).tag))
      ∙ ap (operation_of (envelope_of s m ∷ rest)) (sym (position_on fits_r (envelope_of s m) rest e)))

  -- the earliest that fits, of the envelopes that wait for the receiver, is rules' message
  pub earliest_message : (ms : List ℕ) → Given ms
  unfolding first_message first_by waiting_for earliest_fit operation_of envelope_of
  earliest_message [] = refl
  earliest_message (m ∷ ms) = go (eqb (op s m).peer (rank_of s r)) refl (earliest_message ms)
    where
      go : (test : Bool) → eqb (op s m).peer (rank_of s r) ≡ test → Given ms → cond (fits_with s m r) (some m) (first_by (λ n. fits_with s n r) ms)
          ≡ found_in (cond test (envelope_of s m ∷ waiting_for s (rank_of s r) ms) (waiting_for s (rank_of s r) ms))
      go true t h = rw (fits_with_is s m r, t) (front m ms (fits_r (envelope_of s m)) refl h)
      go false t h = rw (fits_with_is s m r, t) h
