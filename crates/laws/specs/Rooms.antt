-- Refusal 8 (document 01, "When the desk says no"): the rooms that a caller lends, test by test.
--   Roomy                   rooms that are long enough
--   short_inbox ..          the first short room is the answer; rooms_enough: none is
--   not_eight, roomy        rooms that are not refused are long enough
-- Assumes nothing.
use Rattle.std.specs.Prelude.{◌≡◌, Bool, cond, ℕ, ◌<◌, ◌≤◌, ltb}
use Rattle.std.proofs.Common.{◌∙◌, ap, lt-ltb, le-ltb}
use native.Mathlib.Omega.{arith}
use Rattle.rules.specs.Limits.{report_size, order_room, scratch_size}
use Rattle.rules.specs.Sheet.{Sheet, P_of, N_of, inbox_total}
use Rattle.rules.specs.Refusal.{Refusal, refusal, accepted}
use Rattle.rules.specs.Service.{room_refusal}
use Rattle.laws.specs.Tests.{cond_true, cond_false}

-- what rooms that are not refused are
pub record Roomy (e : Bool) (s : Sheet) (i r o c : ℕ) : Type 0 where
  pub inbox : inbox_total s ≤ i
  pub report : report_size e (P_of s) (N_of s) ≤ r
  pub order : order_room (N_of s) ≤ o
  pub scratch : scratch_size ≤ c

-- ROOMS, the first short one
module _ (e : Bool) (s : Sheet) (i r o c : ℕ) where
  abbrev pub size : ℕ
  size = report_size e (P_of s) (N_of s)

  -- the tests behind the inbox's, the report's and the order's
  abbrev pub behind_order : Refusal
  behind_order = cond (ltb c scratch_size) (refusal 8 4) accepted

  abbrev pub behind_report : Refusal
  behind_report = cond (ltb o (order_room (N_of s))) (refusal 8 3) behind_order

  abbrev pub behind_inbox : Refusal
  behind_inbox = cond (ltb r size) (refusal 8 2) behind_report

  pub short_inbox : i < inbox_total s → room_refusal e s i r o c ≡ refusal 8 1
  unfolding room_refusal
  short_inbox h = cond_true (ltb i (inbox_total s)) (refusal 8 1) behind_inbox (lt-ltb i (inbox_total s) h)

  module _ (inbox : inbox_total s ≤ i) where
    at_report : room_refusal e s i r o c ≡ behind_inbox
    unfolding room_refusal
    at_report = cond_false (ltb i (inbox_total s)) (refusal 8 1) behind_inbox (le-ltb i (inbox_total s) inbox)

    pub short_report : r < size → room_refusal e s i r o c ≡ refusal 8 2
    short_report h = at_report ∙ cond_true (ltb r size) (refusal 8 2) behind_report (lt-ltb r size h)

    module _ (report : size ≤ r) where
      at_order : room_refusal e s i r o c ≡ behind_report
      at_order = at_report ∙ cond_false (ltb r size) (refusal 8 2) behind_report (le-ltb r size report)

      pub short_order : o < order_room (N_of s) → room_refusal e s i r o c ≡ refusal 8 3
      short_order h = at_order ∙ cond_true (ltb o (order_room (N_of s))) (refusal 8 3) behind_order (lt-ltb o (order_room (N_of s)) h)

      module _ (order : order_room (N_of s) ≤ o) where
        at_scratch : room_refusal e s i r o c ≡ behind_order
        at_scratch = at_order ∙ cond_false (ltb o (order_room (N_of s))) (refusal 8 3) behind_order (le-ltb o (order_room (N_of s)) order)

        pub short_scratch : c < scratch_size → room_refusal e s i r o c ≡ refusal 8 4
        short_scratch h = at_scratch ∙ cond_true (ltb c scratch_size) (refusal 8 4) accepted (lt-ltb c scratch_size h)

        enough : scratch_size ≤ c → room_refusal e s i r o c ≡ accepted
        enough h = at_scratch ∙ cond_false (ltb c scratch_size) (refusal 8 4) accepted (le-ltb c scratch_size h)

  pub rooms_enough : Roomy e s i r o c → room_refusal e s i r o c ≡ accepted
  rooms_enough q = enough q.inbox q.report q.order q.scratch

  -- and rooms that are not refused are enough: none of them is the first short one
  pub not_eight : ((room_refusal e s i r o c).number ≡ 8 → ⊥) → Roomy e s i r o c
  unfolding refusal
  not_eight h =
      let never : (place : ℕ) → room_refusal e s i r o c ≡ refusal 8 place → ⊥ = λ place q. h (ap (λ (f : Refusal). f.number) q) in
      let no_inbox : i < inbox_total s → ⊥ = λ l. never 1 (short_inbox l) in
      let inbox : inbox_total s ≤ i = omega arith in
      let no_report : r < size → ⊥ = λ l. never 2 (short_report inbox l) in
      let report : size ≤ r = omega arith in
      let no_order : o < order_room (N_of s) → ⊥ = λ l. never 3 (short_order inbox report l) in
      let order : order_room (N_of s) ≤ o = omega arith in
      let no_scratch : c < scratch_size → ⊥ = λ l. never 4 (short_scratch inbox report order l) in
      record {
        inbox = inbox;
        report = report;
        order = order;
        scratch = omega arith;
      }

  pub roomy : (room_refusal e s i r o c).number ≡ 0 → Roomy e s i r o c
  roomy h = not_eight (λ q. omega arith)
