-- Why demand 3 asks for calm sheets and sets the peaks aside. Each of the five conditions of calm is needed: with the other
-- four alone there is a sheet with two orders that follow accepts, after which no board is able, and whose reports differ in
-- more than peaks. It does not suffice either that every receive names its source where probes need not (document 02, K9), nor
-- that buffers cover the lengths of their messages without the overhead. And on a calm sheet the peaks may differ. Each sheet is
-- written as a bench job and computed.
--   calm_parts          calm is these five conditions
--   no_any_receive      the first of receives alone
--   lengths_calm        calm with lengths in the place of charges
--   EndsAlikeOn       two full orders end alike, on the sheets that pass a test
--   PairOfOrders      a sheet, and two orders
--   apart_refutes       a pair that ends apart refutes EndsAlikeOn
--   any_source_matters, any_source_probe_matters, ready_matters, query_matters, cover_matters, room_matters, overhead_matters,
--   peaks_matter, room_peaks_matter
-- Assumes nothing.
use Rattle.std.specs.Prelude.{◌≡◌, refl, Bool, true, false, ◌&&◌, not, List, [], ◌∷◌, ℕ, leb, length}
use Rattle.std.proofs.Common.{ap, subst, ◌∙◌, leb-true, eq-eqb}
use Rattle.std.proofs.lemmas.Bool.{not-true}
use Rattle.rules.specs.Sheet.{Sheet, Op, is_ready, tells_completion, inbox_total}
use Rattle.rules.specs.Order.{none_able}
use Rattle.rules.specs.Claims.{passes, is_any_source, none_wild, all_covered, rooms_cover, calm, accepts, left_by, Alike}
use Rattle.rules.specs.BenchJob.{same}
use Rattle.rules.specs.Definitions.{definitions}
use Rattle.laws.specs.Tests.{and_left, and_right, true_not_false}
use Rattle.promises.specs.ExchangeStatements.{none_of, is_any_receive, no_query}
use Rattle.promises.specs.Counterexamples.{no_any_source, no_ready, covered, no_any_receive, all_lengths, lengths_calm, EndsAlikeOn, PairOfOrders, bytes_of, sheet_of, second_of, bare_report_of, ends_full, both_full, ends_apart, any_source_pair, any_probe_pair, query_pair, ready_pair, two_buffered, uncovered_pair, lengths_pair, calm_pair, room_pair, calm_room_pair, peaks_apart}

-- the conditions together are calm
wild_parts : (os : List Op) →
    none_wild os ≡ (none_of is_any_source os && none_of is_ready os) && none_of tells_completion os
unfolding none_wild none_of
wild_parts [] = refl
wild_parts (o ∷ os) =
    ap (λ (b : Bool). (not (is_any_source o) && (not (is_ready o) && not (tells_completion o))) && b) (wild_parts os)
    ∙ go (not (is_any_source o)) (not (is_ready o)) (not (tells_completion o)) (none_of is_any_source os) (none_of is_ready os)
    (none_of tells_completion os)
  where
    go : (a b c d e f : Bool) → (a && (b && c)) && ((d && e) && f) ≡ ((a && d) && (b && e)) && (c && f)
    go true true true d e f = refl
    go true true false true true f = refl
    go true true false true false f = refl
    go true true false false e f = refl
    go true false c true e f = refl
    go true false c false e f = refl
    go false b c d e f = refl

pub calm_parts : (s : Sheet) → calm s ≡ ((no_any_source s && no_ready s) && no_query s) && covered s
unfolding calm no_any_source no_ready no_query covered
calm_parts s = ap (λ (b : Bool). b && (all_covered s && rooms_cover s)) (wild_parts s.ops)

pub same_refl : (bs : List ℕ) → same bs bs ≡ true
unfolding same
same_refl [] = refl
same_refl (x ∷ xs) = cc (eq-eqb x x refl, same_refl xs)

pub apart_refutes : (ok : Sheet → Bool) (p : PairOfOrders) → ends_apart ok p ≡ true → EndsAlikeOn ok → ⊥
unfolding ends_apart EndsAlikeOn Alike
apart_refutes ok p h claim =
    true_not_false (subst (λ (z : List ℕ). same (bare_report_of p p.one) z ≡ true) alike
    (same_refl (bare_report_of p p.one)))
    (not-true (same (bare_report_of p p.one) (bare_report_of p p.other))
    (and_right (both_full ok p) (not (same (bare_report_of p p.one) (bare_report_of p p.other))) h))
  where
    given : Bool
    given = passes (bytes_of p) && ok (sheet_of p)

    room : Bool
    room = leb (inbox_total (sheet_of p)) (length p.inbox)

    orders : Bool
    orders = ends_full p p.one && ends_full p p.other

    full : both_full ok p ≡ true
    full = and_left (both_full ok p) (not (same (bare_report_of p p.one) (bare_report_of p p.other))) h

    first : given && room ≡ true
    first = and_left (given && room) orders full

    full_one : ends_full p p.one ≡ true
    full_one = and_left (ends_full p p.one) (ends_full p p.other) (and_right (given && room) orders full)

    full_other : ends_full p p.other ≡ true
    full_other = and_right (ends_full p p.one) (ends_full p p.other) (and_right (given && room) orders full)

    accepted : (o : List ℕ) → ends_full p o ≡ true → accepts (sheet_of p) o p.inbox ≡ true
    accepted o e = and_left (accepts (sheet_of p) o p.inbox) (none_able (sheet_of p) (left_by (sheet_of p) o p.inbox)) e

    none_left : (o : List ℕ) → ends_full p o ≡ true → none_able (sheet_of p) (left_by (sheet_of p) o p.inbox) ≡ true
    none_left o e = and_right (accepts (sheet_of p) o p.inbox) (none_able (sheet_of p) (left_by (sheet_of p) o p.inbox)) e

    alike : bare_report_of p p.one ≡ bare_report_of p p.other
    alike =
        (claim (bytes_of p) p.inbox p.one p.other
        (and_left (passes (bytes_of p)) (ok (sheet_of p)) (and_left given room first))
        (and_right (passes (bytes_of p)) (ok (sheet_of p)) (and_left given room first))
        (leb-true (inbox_total (sheet_of p)) (length p.inbox) (and_right given room first))
        (accepted p.one full_one) (accepted p.other full_other) (none_left p.one full_one)
        (none_left p.other full_other)).1 (second_of p)

-- THE LAWS: what calm still asks when one of its conditions is dropped, and orders that then end apart
any_source_apart : ends_apart (λ s. (no_ready s && no_query s) && covered s) any_source_pair ≡ true
unfolding definitions none_of ends_apart no_ready no_query covered any_source_pair
any_source_apart = refl

any_probe_apart : ends_apart (λ s. ((no_any_receive s && no_ready s) && no_query s) && covered s) any_probe_pair ≡ true
unfolding definitions none_of is_any_receive ends_apart no_any_receive no_ready no_query covered any_probe_pair
any_probe_apart = refl

ready_apart : ends_apart (λ s. (no_any_source s && no_query s) && covered s) ready_pair ≡ true
unfolding definitions none_of ends_apart no_any_source no_query covered ready_pair
ready_apart = refl

query_apart : ends_apart (λ s. (no_any_source s && no_ready s) && covered s) query_pair ≡ true
unfolding definitions none_of ends_apart no_any_source no_ready covered query_pair
query_apart = refl

uncovered_apart : ends_apart (λ s. ((no_any_source s && no_ready s) && no_query s) && rooms_cover s) uncovered_pair ≡ true
unfolding definitions none_of ends_apart no_any_source no_ready no_query uncovered_pair two_buffered
uncovered_apart = refl

room_apart : ends_apart (λ s. ((no_any_source s && no_ready s) && no_query s) && all_covered s) room_pair ≡ true
unfolding definitions none_of ends_apart no_any_source no_ready no_query room_pair
room_apart = refl

lengths_apart : ends_apart lengths_calm lengths_pair ≡ true
unfolding definitions none_of ends_apart lengths_calm no_any_source no_ready no_query all_lengths lengths_pair two_buffered
lengths_apart = refl

-- receives from any source cannot be allowed
pub any_source_matters : EndsAlikeOn (λ s. (no_ready s && no_query s) && covered s) → ⊥
any_source_matters = apart_refutes (λ s. (no_ready s && no_query s) && covered s) any_source_pair any_source_apart

-- nor probes from any source, though every receive names its source
pub any_source_probe_matters : EndsAlikeOn (λ s. ((no_any_receive s && no_ready s) && no_query s) && covered s) → ⊥
any_source_probe_matters =
    apart_refutes (λ s. ((no_any_receive s && no_ready s) && no_query s) && covered s) any_probe_pair any_probe_apart

-- nor ready sends
pub ready_matters : EndsAlikeOn (λ s. (no_any_source s && no_query s) && covered s) → ⊥
ready_matters = apart_refutes (λ s. (no_any_source s && no_query s) && covered s) ready_pair ready_apart

-- nor queries
pub query_matters : EndsAlikeOn (λ s. (no_any_source s && no_ready s) && covered s) → ⊥
query_matters = apart_refutes (λ s. (no_any_source s && no_ready s) && covered s) query_pair query_apart

-- nor buffers that the charges may outgrow
pub cover_matters : EndsAlikeOn (λ s. ((no_any_source s && no_ready s) && no_query s) && rooms_cover s) → ⊥
cover_matters =
    apart_refutes (λ s. ((no_any_source s && no_ready s) && no_query s) && rooms_cover s) uncovered_pair uncovered_apart

-- nor rooms that cover some of the standard sends only
pub room_matters : EndsAlikeOn (λ s. ((no_any_source s && no_ready s) && no_query s) && all_covered s) → ⊥
room_matters = apart_refutes (λ s. ((no_any_source s && no_ready s) && no_query s) && all_covered s) room_pair room_apart

-- nor buffers that cover the lengths and not the charges
pub overhead_matters : EndsAlikeOn lengths_calm → ⊥
overhead_matters = apart_refutes lengths_calm lengths_pair lengths_apart

-- and on a calm sheet peaks differ where all else is equal
pub peaks_matter : peaks_apart calm_pair ≡ true
unfolding definitions peaks_apart calm_pair two_buffered
peaks_matter = refl

-- the room's peaks too
pub room_peaks_matter : peaks_apart calm_room_pair ≡ true
unfolding definitions peaks_apart calm_room_pair
room_peaks_matter = refl
