-- The answer of a search as a number: the place that was found, or the number of messages that wait where none fits.
-- Assumes nothing.
use Rattle.std.specs.Prelude.{Option, unwrap_or, ◌≡◌, Bool, true, ◌&&◌, cond, List, ℕ, eqb, length}
use Rattle.std.proofs.Math.Path.{sym}
use Rattle.std.proofs.Common.{◌∙◌, ap, eqb-true, eq-eqb}
use Rattle.laws.specs.Tests.{and_left, and_right, and_both, not_so, cond_true, cond_false}
use Rattle.waiting.specs.Envelopes.{earliest_fit, listed}

-- three slices are a list of messages where they have one length; in others nothing is found
unfoldable pub place_in_slices : (sources communicators tags : List ℕ) (source communicator tag : ℕ) → ℕ
place_in_slices ss cs ts s c t =
    cond (eqb (length cs) (length ss) && eqb (length ts) (length ss))
    (unwrap_or (earliest_fit (listed ss cs ts) s c t) (length ss)) (length ss)

-- what a search through the slices answers: where one of the two lengths differs, and what was found where none does
module _ (ss cs ts : List ℕ) (s c t : ℕ) where
  abbrev one_length : Bool
  one_length = eqb (length cs) (length ss) && eqb (length ts) (length ss)

  abbrev answer : ℕ
  answer = unwrap_or (earliest_fit (listed ss cs ts) s c t) (length ss)

  differ : (one_length ≡ true → ⊥) → length ss ≡ place_in_slices ss cs ts s c t
  unfolding place_in_slices
  differ f = sym (cond_false one_length answer (length ss) (not_so one_length f))

  pub communicators_differ : (length cs ≡ length ss → ⊥) → length ss ≡ place_in_slices ss cs ts s c t
  communicators_differ f =
      differ (λ h. f (eqb-true (length cs) (length ss) (and_left (eqb (length cs) (length ss)) (eqb (length ts) (length ss)) h)))

  pub tags_differ : (length ts ≡ length ss → ⊥) → length ss ≡ place_in_slices ss cs ts s c t
  tags_differ f =
      differ (λ h. f (eqb-true (length ts) (length ss) (and_right (eqb (length cs) (length ss)) (eqb (length ts) (length ss)) h)))

  pub found_in_slices : {r : Option ℕ} {m : ℕ} → length cs ≡ length ss → length ts ≡ length ss
      → r ≡ earliest_fit (listed ss cs ts) s c t → m ≡ unwrap_or r (length ss) → m ≡ place_in_slices ss cs ts s c t
  unfolding place_in_slices
  found_in_slices p q e told =
      told ∙ (ap (λ (o : Option ℕ). unwrap_or o (length ss)) e ∙ sym (cond_true one_length answer (length ss)
      (and_both (eq-eqb (length cs) (length ss) p) (eq-eqb (length ts) (length ss) q))))
