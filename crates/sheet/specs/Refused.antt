-- What a result of the code says of a refusal (rules' Refusal): Ok that nothing is refused, an error which number is told and at which
-- place. Assumes nothing.
--   number_of         the number that a rule is refused with: refuses, none with 0
--   Told              the answer tells the result
--   Refuses           the result is that refusal: accepts, Ok that it is none
--   KeptOr            a rule is kept, or the result is its refusal: kept_or
--   Tests             what a closure answers of an index, from one to before another, is a rule's test of it
--   passed_is, passed_on, told_by   what `?` passes on
use Rattle.std.specs.Prelude.{◌≡◌, refl, Bool, true, false, cond, ℕ, ◌<◌, ◌≤◌, Result, Ok, Err, MatchResult, IsErrAnd}
use Rattle.std.proofs.Common.{sym, ap, arith}
use Rattle.rules.specs.Refusal.{Refusal, refusal, accepted}
use Rattle.rules.specs.Service.{Answers}
use Rattle.laws.specs.Answers.{answers_number}
use Rattle.sheet.specs.declared.Answer.{Answer}
use Rattle.sheet.specs.declared.refusal.Refusal.{Refusal as Refused}
use Rattle.sheet.specs.declared.refusal.Rule.{Rule}
use Rattle.sheet.specs.declared.refusal.Rule.TheVariants.{Header, Sizes, Layout, Crc, Boards, Fields, Requests, Rooms, Order}
use Rattle.sheet.specs.declared.refusal.Rule.TheVariants.{AnySource, ReadySend, Attached, Query, StandardRoom}

abbrev pub number_of : Rule → ℕ
number_of Header = 1
number_of Sizes = 2
number_of Layout = 3
number_of Crc = 4
number_of Boards = 5
number_of Fields = 6
number_of Requests = 7
number_of Rooms = 8
number_of Order = 9
number_of AnySource = 20
number_of ReadySend = 21
number_of Attached = 22
number_of Query = 23
number_of StandardRoom = 24

-- what a service tells of a result
abbrev pub number_told : {T : Type 0} → Result T Refused → ℕ
number_told (Ok u) = 0
number_told (Err e) = number_of e.rule

abbrev pub place_told : {T : Type 0} → Result T Refused → ℕ
place_told (Ok u) = 0
place_told (Err e) = e.place

abbrev pub Told : {T : Type 0} → Result T Refused → Answer → Type 0
Told r a = (a.number ≡ number_told r) × (a.place ≡ place_told r)

abbrev pub Refuses : {T : Type 0} → Refusal → Result T Refused → Type 0
Refuses f r = Answers f (number_told r) (place_told r)

abbrev pub KeptOr : (kept : Bool) → Rule → (place : ℕ) → Result Unit Refused → Type 0
KeptOr kept rule place r = MatchResult r (λ u. kept ≡ true) (λ e. (kept ≡ false) × (e.rule ≡ rule) × (e.place ≡ place))

abbrev pub Tests : (post : ℕ → Bool → Type 0) → (from end : ℕ) → (ℕ → Bool) → Type 0
Tests post from end f = (i : ℕ) → from ≤ i → i < end → (b : Bool) → post i b → b ≡ f i

-- no rule is refused with 0
pub refuses : (r : Rule) → number_of r ≡ 0 → ⊥
refuses Header e = absurd (omega arith)
refuses Sizes e = absurd (omega arith)
refuses Layout e = absurd (omega arith)
refuses Crc e = absurd (omega arith)
refuses Boards e = absurd (omega arith)
refuses Fields e = absurd (omega arith)
refuses Requests e = absurd (omega arith)
refuses Rooms e = absurd (omega arith)
refuses Order e = absurd (omega arith)
refuses AnySource e = absurd (omega arith)
refuses ReadySend e = absurd (omega arith)
refuses Attached e = absurd (omega arith)
refuses Query e = absurd (omega arith)
refuses StandardRoom e = absurd (omega arith)

-- BY `?`: a result r that is passed on is the error e that was given
module _ {T : Type 0} (r : Result T Refused) (e : Refused) (passed : IsErrAnd r (λ y. y ≡ e)) where
  pub passed_is : r ≡ Err e
  passed_is = go r passed
    where
      go : (z : Result T Refused) → IsErrAnd z (λ y. y ≡ e) → z ≡ Err e
      go (Ok u) q = absurd q
      go (Err y) q = ap Err q

  pub passed_on : (f : Refusal) → Refuses {T = T} f (Err e) → Refuses f r
  passed_on f t = rw passed_is t

  -- by `ensure`: the number and the place that it was given
  pub told_by : (f : Refusal) {kept : Bool} (rule : Rule) (place : ℕ) → KeptOr kept rule place (Err e) → Answers f (number_of rule) place
      → Refuses f r
  told_by f rule place k t = passed_on f (rw (k.1, k.2) t)

-- what `ensure` returns is the refusal of its test
pub kept_or : (kept : Bool) (rule : Rule) (place : ℕ) (r : Result Unit Refused) → KeptOr kept rule place r
    → Refuses (cond kept accepted (refusal (number_of rule) place)) r
unfolding Answers refusal
kept_or kept rule place (Ok u) k = rw k (refl, refl)
kept_or kept rule place (Err e) k = rw k.0 (ap number_of k.1, k.2)

-- where nothing is refused, rules' refusal accepts
pub accepts : (a : Refusal) → Answers a 0 0 → a.number ≡ 0
accepts a t = sym (answers_number a 0 0 t)
