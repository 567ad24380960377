-- What follow and run do once sheet and rooms are accepted, and from that the whole outcome of a call (rules' Service).
-- Assumes nothing.
--   Finished                deliveries and report at the end of a job
--   FollowDoes, RunDoes     the outcome past sheet and rooms
--   early, unrefused, ready   a refusal of sheet or rooms, and what is settled where there is none
--   follow_done, run_done     the whole outcome; follow_refused, run_refused: of a refusal of sheet or rooms
use Rattle.std.specs.Prelude.{◌≡◌, List, ℕ, ◌≤◌, length, replicate}
use Rattle.std.proofs.Math.Path.{refl, ap}
use Rattle.std.proofs.Common.{sym, ◌∙◌, arith}
use Rattle.std.proofs.Math.Option.{Option, none, some}
use Rattle.std.proofs.Math.Decide.{ℕ_discrete}
use Rattle.rules.specs.Limits.{order_room}
use Rattle.rules.specs.Sheet.{second_in, sheet_in, N_of}
use Rattle.rules.specs.Job.{Job}
use Rattle.rules.specs.Refusal.{Refusal, refusal, or_else, sheet_refusal}
use Rattle.rules.specs.Order.{followed, follow, ran, run}
use Rattle.rules.specs.Report.{report}
use Rattle.rules.specs.Service.{Answers, room_refusal, order_refusal, in_front, kept_or, scratch_left}
use Rattle.rules.specs.Service.{follow_refusal, FollowSays, run_refusal, RunSays}
use Rattle.laws.specs.Answers.{answers_number}
use Rattle.laws.specs.Broken.{or_else_passed, or_else_stopped}
use Rattle.laws.specs.Laid.{Laid}
use Rattle.laws.specs.Tabled.{or_else_first, or_else_second}
use Rattle.invariant.specs.sheet.FromBytes.{unrefused_accepted, accepted_laid, valid_from_accepted}
use Rattle.state.specs.declared.Control.{Control}
use Rattle.simulation.specs.Represents.{Represents}
use Rattle.jamturret.specs.Chain.{Refused, refused, refused_as, refused_first, refused_second, kept, scratch_kept}
use Rattle.jamturret.specs.Rooms.{room_most, order_unasked, Ready}
use Rattle.laws.specs.Numbers.{or_else_most, sheet_most}
use Rattle.laws.specs.Rooms.{Roomy, rooms_enough, roomy}

-- SHEET AND ROOMS, which are asked first: what a refusal of theirs is, and what is settled where neither refuses
pub unrefused_laid : (bs : List ℕ) → (sheet_refusal bs).number ≡ 0 → Laid bs
unrefused_laid bs e = accepted_laid bs (unrefused_accepted bs e)

module _ (bs : List ℕ) (i r o c n p : ℕ) (t : Answers (run_refusal bs i r o c) n p) where
  pub early : (n ≡ 0 → ⊥) → Refused (run_refusal bs i r o c) n p
  unfolding run_refusal
  early h =
      let l = sheet_most bs in
      refused (run_refusal bs i r o c) n p t h
      (or_else_most 8 (sheet_refusal bs) (room_refusal (second_in bs) (sheet_in bs) i r o c) (omega arith) (room_most (second_in bs) (sheet_in bs) i r o c))

  module _ (z : n ≡ 0) where
    zero_number : (run_refusal bs i r o c).number ≡ 0
    zero_number = sym (answers_number (run_refusal bs i r o c) n p t) ∙ z

    pub unrefused : (sheet_refusal bs).number ≡ 0
    unfolding run_refusal
    unrefused = or_else_first (sheet_refusal bs) (room_refusal (second_in bs) (sheet_in bs) i r o c) zero_number

    pub ready : Ready bs i r o c
    unfolding run_refusal
    ready =
        let a = unrefused_accepted bs unrefused in
        record {
          laid = accepted_laid bs a;
          good = valid_from_accepted bs a;
          roomy = roomy (second_in bs) (sheet_in bs) i r o c (or_else_second (sheet_refusal bs) (room_refusal (second_in bs) (sheet_in bs) i r o c) zero_number);
        }

-- THE END of a job that stands in scratch
pub record Finished (bs : List ℕ) (t : Control) (i i_now r r_now c : List ℕ) : Type 0 where
  pub delivered : (x : Job) → Represents bs i c t x → i_now ≡ x.memory
  pub reported : (x : Job) → Represents bs i c t x → r_now ≡ in_front (report (second_in bs) (sheet_in bs) x) r

-- FOLLOW, past sheet and rooms
unfoldable pub FollowDoes : (sheet order : List ℕ) → (number place : ℕ) →
    (inbox inbox_now report report_now scratch scratch_now : List ℕ) → Type 0
FollowDoes bs o n p i i_now r r_now c c_now =
    let y = follow (sheet_in bs) o i in
    let f = order_refusal y.refused_at in
    Answers f n p
    × (i_now ≡ kept_or f.number y.left.memory i)
    × (r_now ≡ kept_or f.number (in_front (report (second_in bs) (sheet_in bs) y.left) r) r)
    × (c_now ≡ replicate (length c) 0)

pub does_refused : (bs o i r c c_now : List ℕ) (k : ℕ) (x : Job) → follow (sheet_in bs) o i ≡ followed (some k) x →
    c_now ≡ replicate (length c) 0 → FollowDoes bs o 9 k i i r r c c_now
unfolding FollowDoes followed order_refusal refusal Answers kept_or
does_refused bs o i r c c_now k x e z = rw e ((refl, refl), refl, refl, z)

-- `d` is scratch as the steps left it
pub does_followed : (bs o : List ℕ) {i i_now r r_now : List ℕ} (c : List ℕ) {c_now d : List ℕ} {t : Control} (x : Job) →
    follow (sheet_in bs) o i ≡ followed none x → Represents bs i d t x → Finished bs t i i_now r r_now d →
    c_now ≡ replicate (length c) 0 → FollowDoes bs o 0 0 i i_now r r_now c c_now
unfolding FollowDoes followed order_refusal refusal Answers kept_or
does_followed bs o c x e h q z = rw e ((refl, refl), q.delivered x h, q.reported x h, z)

module _ (bs o i r c : List ℕ) where
  abbrev rooms : Refusal
  rooms = room_refusal (second_in bs) (sheet_in bs) (length i) (length r) (order_room (N_of (sheet_in bs))) (length c)

  abbrev ordered : Refusal
  ordered = order_refusal (follow (sheet_in bs) o i).refused_at

  -- sheet or rooms are refused, whatever room long enough for an order is lent
  pub follow_refused : (room n p : ℕ) → (Laid bs → order_room (N_of (sheet_in bs)) ≤ room) →
      Refused (run_refusal bs (length i) (length r) room (length c)) n p → FollowSays bs o n p i i r r c c
  unfolding FollowSays follow_refusal run_refusal
  follow_refused room n p wide q =
      let e = chain (ℕ_discrete (sheet_refusal bs).number 0) in
      (e.answered, kept e _ i, kept e _ r, scratch_kept e c)
    where
      lent : Refusal
      lent = room_refusal (second_in bs) (sheet_in bs) (length i) (length r) room (length c)

      chain : Dec ((sheet_refusal bs).number ≡ 0) → Refused (or_else (sheet_refusal bs) (or_else rooms ordered)) n p
      chain (no h) = refused_first (or_else rooms ordered) (refused_as (sym (or_else_stopped (sheet_refusal bs) lent h)) q)
      chain (yes e) =
          let same = or_else_passed (sheet_refusal bs) lent e
          ∙ order_unasked (second_in bs) (sheet_in bs) (length i) (length r) room (length c) (wide (unrefused_laid bs e)) in
          refused_second (sheet_refusal bs) e (refused_first ordered (refused_as (sym same) q))

  -- both are accepted
  zeroed_left : (k : Option ℕ) → replicate (length c) 0 ≡ scratch_left (order_refusal k).number c
  unfolding scratch_left order_refusal refusal
  zeroed_left none = refl
  zeroed_left (some k) = refl

  pub follow_done : (sheet_refusal bs).number ≡ 0 → Roomy (second_in bs) (sheet_in bs) (length i) (length r) (order_room (N_of (sheet_in bs))) (length c) →
      (n p : ℕ) (i_now r_now c_now : List ℕ) → FollowDoes bs o n p i i_now r r_now c c_now →
      FollowSays bs o n p i i_now r r_now c c_now
  unfolding FollowSays FollowDoes follow_refusal refusal
  follow_done g q n p i_now r_now c_now h =
      let z = ap (λ (f : Refusal). f.number) (rooms_enough (second_in bs) (sheet_in bs) (length i) (length r) (order_room (N_of (sheet_in bs))) (length c) q) in
      let e = or_else_passed (sheet_refusal bs) (or_else rooms ordered) g ∙ or_else_passed rooms ordered z in
      rw e (h.0, h.1, h.2, h.3 ∙ zeroed_left (follow (sheet_in bs) o i).refused_at)

-- RUN, past sheet and rooms
unfoldable pub RunDoes : (sheet : List ℕ) →
    (inbox inbox_now report report_now order order_now scratch scratch_now : List ℕ) → Type 0
RunDoes bs i i_now r r_now o o_now c c_now =
    let e = run (sheet_in bs) i in
    (i_now ≡ e.end.memory)
    × (r_now ≡ in_front (report (second_in bs) (sheet_in bs) e.end) r)
    × (o_now ≡ in_front e.order o)
    × (c_now ≡ replicate (length c) 0)

pub does_run : (bs : List ℕ) {i i_now r r_now o_now : List ℕ} (o c : List ℕ) {c_now d : List ℕ} (taken : List ℕ) {t : Control} (x : Job) →
    run (sheet_in bs) i ≡ ran taken x → Represents bs i d t x → Finished bs t i i_now r r_now d →
    o_now ≡ in_front taken o → c_now ≡ replicate (length c) 0 → RunDoes bs i i_now r r_now o o_now c c_now
unfolding RunDoes ran
does_run bs o c taken x e h q w z = rw e (q.delivered x h, q.reported x h, w, z)

module _ (bs i r o c : List ℕ) where
  abbrev run_rooms : Refusal
  run_rooms = room_refusal (second_in bs) (sheet_in bs) (length i) (length r) (length o) (length c)

  pub run_refused : (n p : ℕ) → Refused (run_refusal bs (length i) (length r) (length o) (length c)) n p → RunSays bs n p i i r r o o c c
  unfolding RunSays
  run_refused n p q = (q.answered, kept q _ i, kept q _ r, kept q _ o, scratch_kept q c)

  pub run_done : (sheet_refusal bs).number ≡ 0 → Roomy (second_in bs) (sheet_in bs) (length i) (length r) (length o) (length c) →
      (i_now r_now o_now c_now : List ℕ) → RunDoes bs i i_now r r_now o o_now c c_now →
      RunSays bs 0 0 i i_now r r_now o o_now c c_now
  unfolding RunSays RunDoes run_refusal refusal kept_or scratch_left Answers
  run_done g q i_now r_now o_now c_now h =
      let e = or_else_passed (sheet_refusal bs) run_rooms g ∙ rooms_enough (second_in bs) (sheet_in bs) (length i) (length r) (length o) (length c) q in
      rw e ((refl, refl), h.0, h.1, h.2, h.3)
