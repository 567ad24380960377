-- What check, follow and run answer, and what they leave in the lent rooms (document 01, "When the desk says no" and
-- "What is pinned down"). An answer is two numbers, so that these definitions need no code. Assumes nothing.
use Rattle.std.specs.Prelude.{◌≡◌, Bool, ◌||◌, cond, List, ◌++◌, ℕ, ltb, eqb, length, drop, replicate}
use Rattle.std.proofs.Math.Option.{Option, none, some}
use Rattle.rules.specs.Limits.{report_size, order_room, scratch_size}
use Rattle.rules.specs.Sheet.{Sheet, second_in, sheet_in, P_of, N_of, inbox_total}
use Rattle.rules.specs.Refusal.{Refusal, refusal, accepted, or_else, sheet_refusal}
use Rattle.rules.specs.Order.{follow, run}
use Rattle.rules.specs.Report.{report}

unfoldable pub Answers : Refusal → (number place : ℕ) → Type 0
Answers f n p = (n ≡ f.number) × (p ≡ f.place)

-- CHECK: refusals 1 to 7, or number 0 and place 0
unfoldable pub CheckSays : (sheet : List ℕ) → (number place : ℕ) → Type 0
CheckSays bs n p = Answers (sheet_refusal bs) n p

-- 8: a lent room is short: place 1 inbox, 2 report, whose rows are of the sheet's edition, 3 order out (run only), 4 scratch
unfoldable pub room_refusal : (second : Bool) → Sheet → (inbox report order scratch : ℕ) → Refusal
room_refusal e s i r o c =
    cond (ltb i (inbox_total s)) (refusal 8 1)
    (cond (ltb r (report_size e (P_of s) (N_of s))) (refusal 8 2)
    (cond (ltb o (order_room (N_of s))) (refusal 8 3) (cond (ltb c scratch_size) (refusal 8 4) accepted)))

-- 9: the order names a rank that isn't able, one above P-1 among them
unfoldable pub order_refusal : Option ℕ → Refusal
order_refusal none = accepted
order_refusal (some k) = refusal 9 k

-- longer room is accepted and its excess untouched
unfoldable pub in_front : (new old : List ℕ) → List ℕ
in_front new old = new ++ drop (length new) old

-- after any refusal inbox, report and order out are untouched
unfoldable pub kept_or : (number : ℕ) → (new old : List ℕ) → List ℕ
kept_or n new old = cond (eqb n 0) new old

-- scratch is untouched by 1 to 8 and all zero after 9 or success
unfoldable pub scratch_left : (number : ℕ) → List ℕ → List ℕ
scratch_left n c = cond (eqb n 0 || eqb n 9) (replicate (length c) 0) c

-- FOLLOW
unfoldable pub follow_refusal : (sheet order inbox : List ℕ) → (report scratch : ℕ) → Refusal
follow_refusal bs o i r c =
    or_else (sheet_refusal bs)
    (or_else (room_refusal (second_in bs) (sheet_in bs) (length i) r (order_room (N_of (sheet_in bs))) c)
    (order_refusal (follow (sheet_in bs) o i).refused_at))

unfoldable pub FollowSays : (sheet order : List ℕ) → (number place : ℕ) → (inbox inbox_now report report_now scratch scratch_now : List ℕ) → Type 0
FollowSays bs o n p i i_now r r_now c c_now =
    let f = follow_refusal bs o i (length r) (length c) in
    let x = (follow (sheet_in bs) o i).left in
    Answers f n p
    × (i_now ≡ kept_or f.number x.memory i)
    × (r_now ≡ kept_or f.number (in_front (report (second_in bs) (sheet_in bs) x) r) r)
    × (c_now ≡ scratch_left f.number c)

-- RUN
unfoldable pub run_refusal : (sheet : List ℕ) → (inbox report order scratch : ℕ) → Refusal
run_refusal bs i r o c = or_else (sheet_refusal bs) (room_refusal (second_in bs) (sheet_in bs) i r o c)

unfoldable pub RunSays : (sheet : List ℕ) → (number place : ℕ) → (inbox inbox_now report report_now order order_now scratch scratch_now : List ℕ) → Type 0
RunSays bs n p i i_now r r_now o o_now c c_now =
    let f = run_refusal bs (length i) (length r) (length o) (length c) in
    let e = run (sheet_in bs) i in
    Answers f n p
    × (i_now ≡ kept_or f.number e.end.memory i)
    × (r_now ≡ kept_or f.number (in_front (report (second_in bs) (sheet_in bs) e.end) r) r)
    × (o_now ≡ kept_or f.number (in_front e.order o) o)
    × (c_now ≡ scratch_left f.number c)
