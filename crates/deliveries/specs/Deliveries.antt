-- Deliveries from what scratch holds: rows tell which receives are matched and with which message. A copy into a part of the
-- inboxes is the delivery of rules, and all of them in script order are the job's memory. Assumes nothing.
--   Deliverable       the sheet passes check, and the partner of a matched receive is a send
--   Sent, InboxAt    a message and its receive; where a board's inbox starts
--   replay_in         the delivery that row j tells; replayed_in those of the first n rows
--   part_splice       bytes put at the front of a part that comes back
--   delivered_part    such a copy of what a match copies is a delivery
--   Replaying         the first i operations are delivered; Scripting, Filling: so far in a board's script, in the scripts
--   memory_is         all of them are the memory of the job that stands there
use Rattle.std.specs.Prelude.{◌≡◌, ◌&&◌, ℕ, zero, suc, ◌+◌, ◌-◌, ◌≤◌, ◌<◌, drop}
use Rattle.std.proofs.Math.Path.{refl, sym, ap}
use Rattle.std.proofs.Common.{subst, ◌∙◌, arith, add-one, take-append-drop, drop-drop}
use Rattle.std.proofs.Math.Bool.{true, cond}
use mathlib.Core.List.{List, ◌++◌, append_assoc}
use Rattle.std.proofs.Math.Dec.{eqb}
use Rattle.std.proofs.Math.ListN.{length, take, length-drop}
use Rattle.std.proofs.Math.Seq.{length-take-le}
use Rattle.std.proofs.lemmas.List.{drop-append-le, take-append-le}
use borrow.Rule.Slice.PartMut.{mid_of, put_mid}
use Rattle.rules.specs.Limits.{most_inbox, scratch_size, payload_at}
use Rattle.rules.specs.Sheet.{Sheet, op, board, P_of, N_of, sheet_in, rank_of, counts_before, inbox_start, inbox_total, is_send, is_receive, second_in, P_in, N_in, L_in}
use Rattle.rules.specs.Job.{Job, Entry, entry_at}
use Rattle.rules.specs.Step.{splice, area_start, copied, delivered}
use Rattle.laws.specs.Laid.{Laid}
use Rattle.laws.specs.Ranks.{inbox_start_none, counts_none, inbox_start_more, counts_more}
use Rattle.invariant.specs.sheet.Valid.{Valid, valid_first}
use Rattle.invariant.specs.Invariant.{replay, replayed}
use Rattle.invariant.specs.sheet.Extents.{send_inside, send_extent, area_inside}
use Rattle.invariant.specs.deliveries.Commute.{copied_in_area, copied_in_message}
use Rattle.rules.specs.Report.{entry_in}
use Rattle.state.specs.declared.Control.{Control}
use Rattle.state.specs.Layout.{row_at}
use Rattle.state.proofs.Decodes.{entry_is}
use Rattle.simulation.specs.Represents.{Represents, Represented}

-- what deliveries are given
pub record Deliverable (bs c : List ℕ) : Type 0 where
  pub laid : Laid bs
  pub good : Valid (sheet_in bs)
  pub roomy : scratch_size ≤ length c
  pub sent : (j : ℕ) → j < N_of (sheet_in bs) → is_receive (op (sheet_in bs) j) ≡ true → (entry_in c (row_at j)).state ≡ 3 →
      is_send (op (sheet_in bs) (entry_in c (row_at j)).partner) ≡ true

pub deliverable : (bs c : List ℕ) (t : Control) → Represented bs c t → Deliverable bs c
deliverable bs c t g =
    let h = g.represents in
    record {
      laid = h.laid;
      good = h.good;
      roomy = h.decodes.roomy;
      sent = λ j l receives state.
          let row : entry_in c (row_at j) ≡ entry_at g.job j = entry_is (sheet_in bs) c t g.job h.decodes j l in
          subst (λ (e : Entry). is_send (op (sheet_in bs) e.partner) ≡ true) (sym row)
          (h.reached.stable.receive_pair j receives (sym (ap (λ (e : Entry). e.state) row) ∙ state)).sends;
    }

-- message m goes to receive r
pub record Sent (bs : List ℕ) (m r : ℕ) : Type 0 where
  pub laid : Laid bs
  pub good : Valid (sheet_in bs)
  pub sends : is_send (op (sheet_in bs) m) ≡ true
  pub receives : is_receive (op (sheet_in bs) r) ≡ true
  pub message_inside : m < N_of (sheet_in bs)
  pub receive_inside : r < N_of (sheet_in bs)

pub sent_to : {bs c : List ℕ} {m r : ℕ} → Deliverable bs c → r < N_of (sheet_in bs) → is_receive (op (sheet_in bs) r) ≡ true →
    (entry_in c (row_at r)).state ≡ 3 → m ≡ (entry_in c (row_at r)).partner → Sent bs m r
sent_to {bs} {c} {m} {r} d l receives state e =
    let sends : is_send (op (sheet_in bs) m) ≡ true = ap (λ (k : ℕ). is_send (op (sheet_in bs) k)) e ∙ d.sent r l receives state in
    record {
      laid = d.laid;
      good = d.good;
      sends = sends;
      receives = receives;
      message_inside = send_inside (sheet_in bs) m sends;
      receive_inside = l;
    }

-- the inbox of board r starts at `start`, and the inboxes have their room
pub record InboxAt (s : Sheet) (r start : ℕ) (inbox : List ℕ) : Type 0 where
  pub starts : start ≡ inbox_start s r
  pub room : inbox_total s ≤ length inbox

-- the delivery that row j tells, if it tells one; and those of the first n rows, in script order
unfoldable pub replay_in : Sheet → (c : List ℕ) → (j : ℕ) → List ℕ → List ℕ
replay_in s c j bs = cond (is_receive (op s j) && eqb (entry_in c (row_at j)).state 3) (delivered s (entry_in c (row_at j)).partner j bs) bs

unfoldable pub replayed_in : Sheet → (c : List ℕ) → (n : ℕ) → List ℕ → List ℕ
replayed_in s c zero bs = bs
replayed_in s c (suc j) bs = replay_in s c j (replayed_in s c j bs)

-- PARTS: n bytes of a part that starts behind a front
drop_part : (n k : ℕ) (xs : List ℕ) → n ≤ k → k ≤ length xs → drop n (take k xs) ++ drop k xs ≡ drop n xs
drop_part n k xs l h =
    sym (drop-append-le n (take k xs) (drop k xs) (omega (arith, length-take-le k xs h))) ∙ ap (λ (z : List ℕ). drop n z) (take-append-drop k xs)

take_part : (n k : ℕ) (xs : List ℕ) (off : ℕ) → off + n ≤ k → k ≤ length xs → take n (drop off (take k xs)) ≡ take n (drop off xs)
take_part n k xs off l h =
    let long : length (drop off (take k xs)) ≡ length (take k xs) - off = length-drop off (take k xs) in
    sym (take-append-le n (drop off (take k xs)) (drop k xs) (omega (arith, length-take-le k xs h)))
    ∙ ap (λ (z : List ℕ). take n z) (drop_part off k xs (omega arith) h)

-- bytes put at the front of a part, which comes back
pub part_splice : (xs : List ℕ) (a e : ℕ) (vs : List ℕ) → a ≤ e → e ≤ length xs → length vs ≤ e - a →
    put_mid a (e - a) xs (splice (mid_of a (e - a) xs) 0 vs) ≡ splice xs a vs
unfolding splice
part_splice xs a e vs l h m =
    let none : 0 + length vs ≡ length vs = omega arith in
    let room : e - a ≤ length (drop a xs) = omega (arith, length-drop a xs) in
    ap (λ (n : ℕ). take a xs ++ ((vs ++ drop n (mid_of a (e - a) xs)) ++ drop (e - a) (drop a xs))) none
    ∙ ap (λ (z : List ℕ). take a xs ++ z) (append_assoc vs (drop (length vs) (mid_of a (e - a) xs)) (drop (e - a) (drop a xs)))
    ∙ ap (λ (z : List ℕ). take a xs ++ (vs ++ z)) (drop_part (length vs) (e - a) (drop a xs) m room)
    ∙ ap (λ (z : List ℕ). take a xs ++ (vs ++ z)) (drop-drop (length vs) a xs)

-- ONE MESSAGE m to receive r
module _ {bs : List ℕ} {m r : ℕ} (d : Sent bs m r) where
  abbrev sheet : Sheet
  sheet = sheet_in bs

  abbrev payload_start : ℕ
  payload_start = payload_at (second_in bs) (P_in bs) (N_in bs)

  -- the message's bytes lie inside the sheet, the area inside the inboxes
  pub message_end : payload_start + ((op sheet m).offset + (op sheet m).long) ≤ length bs
  message_end = omega (arith, d.laid.whole, send_extent sheet d.good m d.sends, d.laid.payload_is)

  pub area_end : (inbox_start sheet (rank_of sheet r) + (op sheet r).offset) + (op sheet r).long ≤ inbox_total sheet
  unfolding area_start
  area_end = area_inside sheet d.good r d.receives

  -- a part of the payload, as the sheet's bytes have it
  payload_part : (off n : ℕ) → off + n ≤ length sheet.payload →
      take n (drop off sheet.payload) ≡ take n (drop (payload_start + off) bs)
  unfolding sheet_in
  payload_part off n h =
      let long : length (drop payload_start bs) ≡ length bs - payload_start = length-drop payload_start bs in
      take_part n (L_in bs) (drop payload_start bs) off (omega (arith, d.laid.payload_is)) (omega (arith, d.laid.whole))
      ∙ ap (λ (z : List ℕ). take n z) (drop-drop off payload_start bs)

  -- what a match copies, put at the front of the part that is the area
  pub delivered_part : (inbox : List ℕ) (from count area end : ℕ) → inbox_total sheet ≤ length inbox →
      from ≡ payload_start + (op sheet m).offset → count ≡ copied sheet m r →
      area ≡ inbox_start sheet (rank_of sheet r) + (op sheet r).offset → end ≡ area + (op sheet r).long →
      put_mid area (end - area) inbox (splice (mid_of area (end - area) inbox) 0 (take count (drop from bs))) ≡ delivered sheet m r inbox
  unfolding delivered area_start
  delivered_part inbox from count area end room ef es ea ee =
      let fits : count ≤ (op sheet m).long = omega (arith, copied_in_message sheet m r) in
      let inside : from + count ≤ length bs = omega (arith, message_end) in
      let long : length (take count (drop from bs)) ≡ count = length-take-le count (drop from bs) (omega (arith, length-drop from bs)) in
      let bytes : take count (drop from bs) ≡ take (copied sheet m r) (drop (op sheet m).offset sheet.payload) =
      ap (λ (n : ℕ). take count (drop n bs)) ef
      ∙ sym (payload_part (op sheet m).offset count (omega (arith, send_extent sheet d.good m d.sends)))
      ∙ ap (λ (n : ℕ). take n (drop (op sheet m).offset sheet.payload)) es in
      part_splice inbox area end (take count (drop from bs)) (omega arith) (omega (arith, area_end)) (omega (arith, copied_in_area sheet m r))
      ∙ ap (λ (vs : List ℕ). splice inbox area vs) bytes
      ∙ ap (λ (n : ℕ). splice inbox n (take (copied sheet m r) (drop (op sheet m).offset sheet.payload))) ea

-- ALL
-- the first i operations are delivered
pub record Replaying (s : Sheet) (c lent : List ℕ) (i : ℕ) (inbox : List ℕ) : Type 0 where
  pub is : inbox ≡ replayed_in s c i lent
  pub size : length inbox ≡ length lent

pub replaying_none : (s : Sheet) (c lent : List ℕ) → Replaying s c lent 0 lent
unfolding replayed_in
replaying_none s c lent = record { is = refl; size = refl }

pub replaying_more : (s : Sheet) (c lent : List ℕ) (i : ℕ) (inbox after : List ℕ) → Replaying s c lent i inbox →
    after ≡ replay_in s c i inbox → length after ≡ length inbox → Replaying s c lent (i + 1) after
unfolding replayed_in
replaying_more s c lent i inbox after q e h =
    record {
      is = e ∙ ap (λ (z : List ℕ). replay_in s c i z) q.is ∙ ap (λ (n : ℕ). replayed_in s c n lent) (sym (add-one i));
      size = h ∙ q.size;
    }

pub replaying_at : {s : Sheet} {c lent inbox : List ℕ} {i k : ℕ} → i ≡ k → Replaying s c lent i inbox → Replaying s c lent k inbox
replaying_at {s} {c} {lent} {inbox} e q = subst (λ (n : ℕ). Replaying s c lent n inbox) e q

-- the script of board r is delivered: what was done before it was met is done, and its own operations too
abbrev pub ScriptDelivered : Sheet → (c : List ℕ) → (r : ℕ) → (met inbox : List ℕ) → Type 0
ScriptDelivered s c r met inbox =
    (lent : List ℕ) → Replaying s c lent (board s r).first met →
    Replaying s c lent ((board s r).first + (board s r).count) inbox

-- in the script of board r, which was met with inboxes `met`, the operations before i are delivered too
pub record Scripting (s : Sheet) (c : List ℕ) (r : ℕ) (met : List ℕ) (i : ℕ) (inbox : List ℕ) : Type 0 where
  pub lower : (board s r).first ≤ i
  pub size : length inbox ≡ length met
  pub goes : (lent : List ℕ) → Replaying s c lent (board s r).first met → Replaying s c lent i inbox

pub scripting_none : (s : Sheet) (c : List ℕ) (r : ℕ) (met : List ℕ) (i : ℕ) → i ≡ (board s r).first → Scripting s c r met i met
scripting_none s c r met i e =
    record {
      lower = omega arith;
      size = refl;
      goes = λ lent q. replaying_at (sym e) q;
    }

pub scripting_more : (s : Sheet) (c : List ℕ) (r : ℕ) (met : List ℕ) (i : ℕ) (inbox after : List ℕ) →
    Scripting s c r met i inbox → after ≡ replay_in s c i inbox → length after ≡ length inbox →
    Scripting s c r met (i + 1) after
scripting_more s c r met i inbox after q e h =
    record {
      lower = omega (arith, q.lower);
      size = h ∙ q.size;
      goes = λ lent a. replaying_more s c lent i inbox after (q.goes lent a) e h;
    }

-- before the script of board r: its inbox starts at `start`, and the scripts before it are delivered
pub record Filling (s : Sheet) (c lent : List ℕ) (r start : ℕ) (inbox : List ℕ) : Type 0 where
  pub upper : r ≤ P_of s
  pub start_is : start ≡ inbox_start s r
  pub replaying : Replaying s c lent (counts_before s r) inbox

pub filling_none : (s : Sheet) (c lent : List ℕ) → Filling s c lent 0 0 lent
filling_none s c lent =
    record {
      upper = omega arith;
      start_is = sym (inbox_start_none s);
      replaying = replaying_at (sym (counts_none s)) (replaying_none s c lent);
    }

pub filling_start : {s : Sheet} {c lent inbox : List ℕ} {r start : ℕ} → Valid s → Filling s c lent r start inbox →
    r < P_of s → start ≤ most_inbox
unfolding inbox_total
filling_start {s} {c} {lent} {inbox} {r} {start} g q l = omega (arith, q.start_is, g.inbox_order r (P_of s) l (omega arith), g.inbox_small)

pub filling_more : (s : Sheet) → Valid s → (c lent : List ℕ) (r start : ℕ) (inbox after : List ℕ) (more : ℕ) →
    Filling s c lent r start inbox → r < P_of s → more ≡ (board s r).inbox →
    ScriptDelivered s c r inbox after → Filling s c lent (r + 1) (start + more) after
filling_more s g c lent r start inbox after more q l e h =
    let first : (board s r).first ≡ counts_before s r = valid_first s g r l in
    let next : r + 1 ≡ suc r = add-one r in
    let sum : counts_before s (r + 1) ≡ counts_before s r + (board s r).count = ap (λ (k : ℕ). counts_before s k) next ∙ counts_more s r l in
    let box : inbox_start s (r + 1) ≡ inbox_start s r + (board s r).inbox = ap (λ (k : ℕ). inbox_start s k) next ∙ inbox_start_more s r l in
    record {
      upper = omega arith;
      start_is = omega (arith, q.start_is);
      replaying = replaying_at (omega arith) (h lent (replaying_at (sym first) q.replaying));
    }

-- rows of a job that stands in scratch tell what its entries tell
replayed_rows : (bs c lent : List ℕ) (t : Control) (x : Job) → Represents bs lent c t x → (n : ℕ) → n ≤ N_of (sheet_in bs) →
    replayed_in (sheet_in bs) c n lent ≡ replayed (sheet_in bs) x n lent
unfolding replayed_in replayed
replayed_rows bs c lent t x h zero l = refl
replayed_rows bs c lent t x h (suc n) l =
    ap (λ (z : List ℕ). replay_in (sheet_in bs) c n z) (replayed_rows bs c lent t x h n (omega arith))
    ∙ row (replayed (sheet_in bs) x n lent) (entry_is (sheet_in bs) c t x h.decodes n (omega arith))
  where
    row : (inbox : List ℕ) → entry_in c (row_at n) ≡ entry_at x n →
        replay_in (sheet_in bs) c n inbox ≡ replay (sheet_in bs) x n inbox
    row inbox e = unfold replay_in replay in ap (λ (z : Entry). cond (is_receive (op (sheet_in bs) n) && eqb z.state 3) (delivered (sheet_in bs) z.partner n inbox) inbox) e

pub memory_is : (bs c lent inbox : List ℕ) (n : ℕ) → Replaying (sheet_in bs) c lent n inbox → n ≡ N_of (sheet_in bs) →
    (t : Control) (x : Job) → Represents bs lent c t x → inbox ≡ x.memory
memory_is bs c lent inbox n q e t x h =
    q.is ∙ ap (λ (k : ℕ). replayed_in (sheet_in bs) c k lent) e ∙ replayed_rows bs c lent t x h (N_of (sheet_in bs)) (omega arith) ∙ sym h.reached.memory_replayed
