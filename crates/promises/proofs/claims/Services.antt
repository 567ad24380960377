-- Demand 3 of the services, from demand 3 of the orders: calls whose inboxes start with the same bytes end alike, whatever
-- the rooms' lengths and what stands beyond, since nothing in the inboxes influences a step.
--   follows_alike, run_alike
--   calls_same                 two orders with one outcome: calls that answer and leave the same
--   follow_swaps, follow_swaps_any_source, follow_same_class
-- Assumes nothing: what it takes from the orders (EndsAlike, RunEnds and the laws about exchanges) is an argument of each law.
use Rattle.std.specs.Prelude.{◌≡◌, Bool, true, List, ℕ, ◌≤◌, length, take}
use Rattle.std.proofs.Math.Path.{sym, ap}
use Rattle.std.proofs.Common.{◌∙◌}
use Rattle.std.proofs.Math.Option.{Option}
use Rattle.rules.specs.Limits.{report_size}
use Rattle.rules.specs.Sheet.{Sheet, second_in, sheet_in, P_of, N_of, inbox_total}
use Rattle.rules.specs.Job.{Job}
use Rattle.rules.specs.Step.{is_none}
use Rattle.rules.specs.Order.{follow, run, none_able}
use Rattle.rules.specs.Report.{report}
use Rattle.rules.specs.Service.{in_front, order_refusal}
use Rattle.rules.specs.Claims.{passes, calm, accepts, left_by, without_peaks, Alike, Given}
use Rattle.promises.specs.Statements.{Lent, Ends, RunEnds, EndsAlike, SwapSame}
use Rattle.promises.specs.ServiceStatements.{FollowCall, RunCall, SameStart, LeftAlike, FollowsAlike, RunAlike, FollowSwaps}
use Rattle.promises.specs.ExchangeStatements.{SameOutcome, SwapAnySource, SameClass, AnsweredAlike, FollowSwapsAnySource, FollowSameClass}
use Rattle.laws.specs.SpliceOrder.{Near}
use Rattle.promises.proofs.compare.ReportBytes.{report_length}
use Rattle.promises.proofs.compare.PeaksAside.{equal_report, equal_none_able}
use Rattle.invariant.specs.sheet.Valid.{Valid}
use Rattle.invariant.specs.Invariant.{Reached}
use Rattle.invariant.specs.deliveries.Commute.{delivery_laws}
use Rattle.promises.proofs.compare.SamePositions.{SamePositions, positions_equal}
use Rattle.promises.proofs.compare.WholeOrders.{LeftSamePositions}
use Rattle.promises.proofs.compare.TwoRooms.{rooms_same_positions, positions_near}
use Rattle.promises.proofs.claims.OneJob.{lent_valid, lent_reached}
use Rattle.promises.proofs.claims.Calls.{follow_answer, follow_lent, follow_kept, follow_accepted, follow_inbox, follow_report, front_report, run_answer, run_lent}

-- ALIKE AS FAR AS THE SHEET'S OWN ROOM GOES
record AlikeFront (s : Sheet) (x y : Job) : Type 0 where
  memory : take (inbox_total s) x.memory ≡ take (inbox_total s) y.memory
  reports : (e : Bool) → without_peaks e (P_of s) (report e s x) ≡ without_peaks e (P_of s) (report e s y)

front_alike : {s : Sheet} {x y : Job} → Alike s x y → AlikeFront s x y
unfolding Alike
front_alike {s} h =
    record {
      memory = ap (λ (bs : List ℕ). take (inbox_total s) bs) h.0;
      reports = h.1;
    }

-- jobs at the same places, on rooms that start with the same bytes
front_same_positions : {s : Sheet} → Valid s → {i j : List ℕ} {x y : Job} {X : Reached s i x} {Y : Reached s j y} → SamePositions X Y →
    Near (inbox_total s) i j → AlikeFront s x y
front_same_positions {s} g {i} {j} {x} {y} K h =
    record {
      memory = (positions_near g K h).same;
      reports = equal_report s x y (positions_equal g K);
    }

front_next : {s : Sheet} {x y z : Job} → AlikeFront s x y → AlikeFront s y z → AlikeFront s x z
front_next a b =
    record {
      memory = a.memory ∙ b.memory;
      reports = λ e. a.reports e ∙ b.reports e;
    }

-- inbox and report, of an edition, as a call left them show a job
pub record Shows (e : Bool) (s : Sheet) (x : Job) (i r : List ℕ) : Type 0 where
  pub memory : i ≡ x.memory
  pub reported : take (report_size e (P_of s) (N_of s)) r ≡ report e s x

shows : (e : Bool) (s : Sheet) (x : Job) {i r : List ℕ} (old : List ℕ) → length x.entries ≡ N_of s → i ≡ x.memory →
    r ≡ in_front (report e s x) old → Shows e s x i r
shows e s x old long m h =
    record {
      memory = m;
      reported =
          ap (λ (z : List ℕ). take (report_size e (P_of s) (N_of s)) z) h
          ∙ front_report (report e s x) old (report_size e (P_of s) (N_of s)) (report_length e s x long);
    }

shown_alike : (bs : List ℕ) {i r j q : List ℕ} {x y : Job} → Shows (second_in bs) (sheet_in bs) x i r → Shows (second_in bs) (sheet_in bs) y j q →
    AlikeFront (sheet_in bs) x y → LeftAlike bs i r j q
unfolding LeftAlike
shown_alike bs a b h =
    let s = sheet_in bs in
    let e = second_in bs in (
      ap (λ (z : List ℕ). take (inbox_total s) z) a.memory ∙ h.memory
          ∙ ap (λ (z : List ℕ). take (inbox_total s) z) (sym b.memory),
      ap (λ (z : List ℕ). without_peaks e (P_of s) z) a.reported ∙ h.reports e
          ∙ ap (λ (z : List ℕ). without_peaks e (P_of s) z) (sym b.reported),
    )

-- CALLS
module _ {bs : List ℕ} (p : passes bs ≡ true) where
  follow_given : {o : List ℕ} (f : FollowCall bs o) → calm (sheet_in bs) ≡ true → Given bs f.inbox
  follow_given f c =
      record {
        passing = p;
        calm_sheet = c;
        room = (follow_answer p f).inbox_room;
      }

  pub follow_shows : {o : List ℕ} (f : FollowCall bs o) → f.number ≡ 0 →
      Shows (second_in bs) (sheet_in bs) (left_by (sheet_in bs) o f.inbox) f.inbox_now f.report_now
  follow_shows {o} f h =
      shows (second_in bs) (sheet_in bs) (left_by (sheet_in bs) o f.inbox) f.report (lent_reached (follow_lent p f) o).placed.entries_long
      (follow_inbox p f h) (follow_report p f h)

  pub run_shows : (g : RunCall bs) → Ends (sheet_in bs) g.inbox →
      Shows (second_in bs) (sheet_in bs) (run (sheet_in bs) g.inbox).end g.inbox_now g.report_now
  run_shows g E =
      shows (second_in bs) (sheet_in bs) (run (sheet_in bs) g.inbox).end g.report
      (ap (λ (z : Job). length z.entries) (sym E.same_job)
      ∙ (lent_reached (run_lent p g) (run (sheet_in bs) g.inbox).order).placed.entries_long) (run_answer p g).inbox_is
      (run_answer p g).report_is

-- calls on rooms that start with the same bytes
pub near_start : (bs : List ℕ) {i j : List ℕ} → inbox_total (sheet_in bs) ≤ length i → inbox_total (sheet_in bs) ≤ length j →
    SameStart bs i j → Near (inbox_total (sheet_in bs)) i j
unfolding SameStart
near_start bs a b h =
    record {
      long = a;
      long_too = b;
      same = h;
    }

-- one order on two rooms, where there is room enough in both
module _ {bs i j : List ℕ} (a : Lent bs i) (b : Lent bs j) (same : SameStart bs i j) (rs : List ℕ) where
  abbrev s : Sheet
  s = sheet_in bs

  two_rooms : LeftSamePositions s i j (follow s rs i) (follow s rs j)
  two_rooms = rooms_same_positions (lent_valid a) (delivery_laws s (lent_valid a)) a.room b.room rs

  two_alike : AlikeFront s (left_by s rs i) (left_by s rs j)
  unfolding left_by
  two_alike = front_same_positions (lent_valid a) two_rooms.same_positions (near_start bs a.room b.room same)

  two_refused : (follow s rs i).refused_at ≡ (follow s rs j).refused_at
  two_refused = two_rooms.refused

  pub two_accepted : accepts s rs i ≡ true → accepts s rs j ≡ true
  unfolding accepts
  two_accepted e = ap (λ (o : Option ℕ). is_none o) (sym two_refused) ∙ e

  two_none_able : none_able s (left_by s rs i) ≡ true → none_able s (left_by s rs j) ≡ true
  unfolding left_by
  two_none_able e =
      sym (equal_none_able s (follow s rs i).left (follow s rs j).left (positions_equal (lent_valid a) two_rooms.same_positions)) ∙ e

same_back : (bs i j : List ℕ) → SameStart bs i j → SameStart bs j i
unfolding SameStart
same_back bs i j h = sym h

-- THE LAWS
pub follows_alike : EndsAlike → FollowsAlike
unfolding EndsAlike FollowsAlike
follows_alike ends bs a b f g p c same zero_f zero_g full_a full_b =
    shown_alike bs (follow_shows p f zero_f) (follow_shows p g zero_g)
    (front_next
    (front_alike
    (ends bs f.inbox a b (follow_given p f c) (follow_accepted p f zero_f)
    (two_accepted there here (same_back bs f.inbox g.inbox same) b (follow_accepted p g zero_g)) full_a
    (two_none_able there here (same_back bs f.inbox g.inbox same) b full_b)).0)
    (two_alike here there same b))
  where
    here : Lent bs f.inbox
    here = follow_lent p f

    there : Lent bs g.inbox
    there = follow_lent p g

-- the order followed on the run's room ends alike with the run, and alike with itself on its own room
pub run_alike : EndsAlike → RunEnds → RunAlike
unfolding EndsAlike RunEnds RunAlike
run_alike ends runs bs a f g p c same zero_f full = (
  (run_answer p g).number_zero,
  shown_alike bs (follow_shows p f zero_f) (run_shows p g (runs bs g.inbox there))
      (front_next (two_alike here there same a)
      (front_alike (ends bs g.inbox a a given accepted accepted full_there full_there).1)),
)
  where
    here : Lent bs f.inbox
    here = follow_lent p f

    there : Lent bs g.inbox
    there = run_lent p g

    given : Given bs g.inbox
    given =
        record {
          passing = p;
          calm_sheet = c;
          room = there.room;
        }

    accepted : accepts (sheet_in bs) a g.inbox ≡ true
    accepted = two_accepted here there same a (follow_accepted p f zero_f)

    full_there : none_able (sheet_in bs) (left_by (sheet_in bs) a g.inbox) ≡ true
    full_there = two_none_able here there same a full

-- two orders with one outcome: calls that answer and leave the same
module _ {bs a b : List ℕ} (pass : passes bs ≡ true) (f : FollowCall bs a) (g : FollowCall bs b) (same : SameStart bs f.inbox g.inbox)
    (outcome : SameOutcome (sheet_in bs) f.inbox a b) where
  here : Lent bs f.inbox
  here = follow_lent pass f

  there : Lent bs g.inbox
  there = follow_lent pass g

  refused : (follow (sheet_in bs) a f.inbox).refused_at ≡ (follow (sheet_in bs) b g.inbox).refused_at
  unfolding SameOutcome
  refused = outcome.0 ∙ two_refused here there same b

  number_same : f.number ≡ g.number
  number_same =
      (follow_answer pass f).number_is ∙ ap (λ (o : Option ℕ). (order_refusal o).number) refused ∙ sym (follow_answer pass g).number_is

  pub calls_same : AnsweredAlike f g
  unfolding SameOutcome
  calls_same =
      record {
        number = number_same;
        place =
            (follow_answer pass f).place_is ∙ ap (λ (o : Option ℕ). (order_refusal o).place) refused ∙ sym (follow_answer pass g).place_is;
        left =
            λ zero_f. shown_alike bs (follow_shows pass f zero_f) (follow_shows pass g (sym number_same ∙ zero_f))
            (front_next (front_alike outcome.1) (two_alike here there same b));
        kept = follow_kept f;
        kept_too = λ h. follow_kept g (λ e. h (number_same ∙ e));
      }

pub follow_swaps : SwapSame → FollowSwaps
unfolding SwapSame FollowSwaps SameOutcome
follow_swaps swap bs before after p q f g pass c same accepted differ able_p able_q =
    let answer = calls_same pass f g same (swap bs f.inbox before after p q (follow_given pass f c) accepted differ able_p able_q) in
    (answer.number, answer.place, answer.left)

pub follow_swaps_any_source : SwapAnySource → FollowSwapsAnySource
unfolding SwapAnySource FollowSwapsAnySource
follow_swaps_any_source swap bs before after p q f g pass sheet same accepted E =
    calls_same pass f g same (swap bs f.inbox before after p q (follow_lent pass f) sheet accepted E)

pub follow_same_class : SameClass → FollowSameClass
unfolding SameClass FollowSameClass
follow_same_class classes bs a b f g pass sheet same in_class =
    calls_same pass f g same (classes bs f.inbox a b (follow_lent pass f) sheet in_class)
