-- Refusal 8: the rooms that a caller lends, test by test (document 01, "When the desk says no"). Assumes nothing.
--   room_most       8 at the most
--   order_unasked   follow is lent no room for an order
--   Ready           a sheet that passes check, and such rooms
use Rattle.std.specs.Prelude.{◌≡◌, Bool, cond, List, ℕ, ◌≤◌, ltb}
use Rattle.std.proofs.Common.{sym, ◌∙◌, ap, arith, le-ltb}
use Rattle.rules.specs.Limits.{report_size, order_room, scratch_size}
use Rattle.rules.specs.Sheet.{Sheet, second_in, sheet_in, P_of, N_of, inbox_total}
use Rattle.rules.specs.Refusal.{refusal, accepted}
use Rattle.rules.specs.Service.{room_refusal}
use Rattle.laws.specs.Laid.{Laid}
use Rattle.laws.specs.Numbers.{cond_most}
use Rattle.laws.specs.Rooms.{Roomy, size, behind_inbox, behind_report, behind_order}
use Rattle.invariant.specs.sheet.Valid.{Valid}

-- a sheet that passes check, and such rooms
pub record Ready (bs : List ℕ) (i r o c : ℕ) : Type 0 where
  pub laid : Laid bs
  pub good : Valid (sheet_in bs)
  pub roomy : Roomy (second_in bs) (sheet_in bs) i r o c

-- a room's refusal
pub room_most : (e : Bool) (s : Sheet) (i r o c : ℕ) → (room_refusal e s i r o c).number ≤ 8
unfolding room_refusal refusal
room_most e s i r o c =
    cond_most 8 (ltb i (inbox_total s)) (refusal 8 1) (behind_inbox e s i r o c) (omega arith)
    (cond_most 8 (ltb r (size e s i r o c)) (refusal 8 2) (behind_report e s i r o c) (omega arith)
    (cond_most 8 (ltb o (order_room (N_of s))) (refusal 8 3) (behind_order e s i r o c) (omega arith)
    (cond_most 8 (ltb c scratch_size) (refusal 8 4) accepted (omega arith) (omega arith))))

-- follow is lent no room for an order: any room that is long enough is as good as the order's own
pub order_unasked : (e : Bool) (s : Sheet) (i r o c : ℕ) → order_room (N_of s) ≤ o →
    room_refusal e s i r o c ≡ room_refusal e s i r (order_room (N_of s)) c
unfolding room_refusal
order_unasked e s i r o c h =
    let room = order_room (N_of s) in
    ap (λ (b : Bool). cond (ltb i (inbox_total s)) (refusal 8 1) (cond (ltb r (report_size e (P_of s) (N_of s))) (refusal 8 2) (cond b (refusal 8 3) (behind_order e s i r o c))))
    (le-ltb o room h ∙ sym (le-ltb room room (omega arith)))

pub own_order : {bs : List ℕ} {i r o c : ℕ} → Ready bs i r o c → Ready bs i r (order_room (N_of (sheet_in bs))) c
own_order q =
    record {
      laid = q.laid;
      good = q.good;
      roomy =
          record {
            inbox = q.roomy.inbox;
            report = q.roomy.report;
            order = omega arith;
            scratch = q.roomy.scratch;
          };
    }
