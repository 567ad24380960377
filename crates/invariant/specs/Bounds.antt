-- Numbers of a reached job that fit their bytes: operations finished, steps, bytes in use and their peak, an operation's row.
--   finished_few, steps_few, peak_few, in_use_few, row_fits
-- Assumes nothing.
use Rattle.std.specs.Prelude.{◌≡◌, refl, ◌⊎◌, Bool, List, ℕ, ◌*◌, ◌≤◌, ◌<◌}
use Rattle.std.proofs.Common.{sym, ap, subst, ◌∙◌, inl, inr}
use Rattle.std.proofs.Math.Bool.{true, false, cond}
use native.Mathlib.Omega.{arith}
use Rattle.std.proofs.Math.Decide.{ℕ_discrete, dec_le}
use Rattle.rules.specs.Limits.{most_ops, absent}
use Rattle.rules.specs.Sheet.{Sheet, op, board, P_of, N_of, rank_of, is_send, is_receive, only_half, tells_message, tells_completion, tells}
use Rattle.rules.specs.Job.{Job, Store, in_attached, in_room, in_use_at, peak_at, entry, bare_entry, entry_at, place_at}
use Rattle.rules.specs.Step.{is_cut, size_of, probe_row, query_row}
use Rattle.laws.specs.Tests.{or_cases, not_so}
use Rattle.laws.specs.Tabled.{board_entry}
use Rattle.laws.specs.ReportRows.{FitsRow}
use Rattle.invariant.specs.sheet.Valid.{Valid}
use Rattle.invariant.specs.Invariant.{Entered, state_at, partner_at, row_of, Reached}
use Rattle.invariant.specs.sheet.Kinds.{kind_send}
use Rattle.invariant.specs.sheet.Extents.{send_inside, receive_inside, send_extent, send_tag}
use Rattle.invariant.specs.preserve.Rows.{row_bare, row_message, row_receive}
use Rattle.invariant.specs.preserve.StepCount.{steps_bound}

-- an attached buffer and a room are small (number 5)
size_small : {s : Sheet} → Valid s → (w : Store) (r : ℕ) → r < P_of s → size_of w (board s r) < 65536
unfolding size_of
size_small {s} g in_attached r l = omega (arith, (board_entry s r (g.boards_good r l)).attached)
size_small {s} g in_room r l = omega (arith, (board_entry s r (g.boards_good r l)).room)

module _ {s : Sheet} (g : Valid s) {lent : List ℕ} {x : Job} (R : Reached s lent x) where
  pub finished_few : (r : ℕ) → r < P_of s → (place_at x r).finished ≤ most_ops
  finished_few r l = omega (arith, R.placed.finished_most r l, g.script_inside r l, g.ops_few)

  pub steps_few : x.steps ≤ 2 * most_ops
  steps_few = omega (arith, steps_bound R, g.ops_few)

  pub peak_few : (w : Store) (r : ℕ) → r < P_of s → peak_at w x r < 65536
  peak_few w r l = omega (arith, R.peak_size w r l, size_small g w r l)

  pub in_use_few : (w : Store) (r : ℕ) → r < P_of s → in_use_at w x r < 65536
  in_use_few w r l = omega (arith, R.in_use_peak w r, peak_few w r l)

  -- a row: partner, source, tag and length are those of an operation of the sheet, or absent
  bare_fits : (v : ℕ) → FitsRow (bare_entry v)
  unfolding bare_entry entry
  bare_fits v =
      record {
        partner_fits = omega arith;
        source_fits = omega arith;
        tag_fits = omega arith;
        long_fits = omega arith;
      }

  message_fits : (q : ℕ) → q < N_of s → FitsRow (entry 3 0 q absent absent 0)
  unfolding entry
  message_fits q l =
      record {
        partner_fits = omega (arith, g.ops_few);
        source_fits = omega arith;
        tag_fits = omega arith;
        long_fits = omega arith;
      }

  receive_fits : (c m : ℕ) → is_send (op s m) ≡ true → FitsRow (entry 3 c m (rank_of s m) (op s m).tag (op s m).long)
  unfolding entry
  receive_fits c m sends =
      let l = send_inside s m sends in
      record {
        partner_fits = omega (arith, g.ops_few, l);
        source_fits = omega (arith, g.rank_small m l, g.boards_few);
        tag_fits = omega (arith, send_tag s g m sends);
        long_fits = omega (arith, send_extent s g m sends, g.payload_small);
      }

  -- the row of an operation that tells
  told_fits : (j : ℕ) → tells (op s j) ≡ true → Entered x j → FitsRow (entry_at x j)
  unfolding tells probe_row query_row entry
  told_fits j t there = go (or_cases (tells_message (op s j)) (tells_completion (op s j)) t)
    where
      few : (b : Bool) → cond b 1 0 < 2
      few true = omega arith
      few false = omega arith

      answered : (b : Bool) → FitsRow (query_row b)
      answered b =
          record {
            partner_fits = omega arith;
            source_fits = omega arith;
            tag_fits = omega arith;
            long_fits = omega (arith, few b);
          }

      go : (tells_message (op s j) ≡ true) ⊎ (tells_completion (op s j) ≡ true) → FitsRow (entry_at x j)
      go (inl e) =
          let h = R.told.probes j e there in
          let m = h.0 in
          let l = send_inside s m h.1.sends in
          subst FitsRow (sym h.1.row)
          (record {
            partner_fits = omega arith;
            source_fits = omega (arith, g.rank_small m l, g.boards_few);
            tag_fits = omega (arith, send_tag s g m h.1.sends);
            long_fits = omega (arith, send_extent s g m h.1.sends, g.payload_small);
          })
      go (inr e) =
          let h = R.told.queries j e there in
          subst FitsRow (sym h.1.row) (answered h.0)

  pub row_fits : (j : ℕ) → FitsRow (entry_at x j)
  row_fits j = by_role (tells (op s j)) refl (dec_le 1 (state_at x j))
    where
      go : Dec (state_at x j ≡ 3) → (b : Bool) → is_receive (op s j) ≡ b → FitsRow (row_of s j (state_at x j) (partner_at x j))
      go (no d) b e = subst FitsRow (sym (row_bare s j (state_at x j) (partner_at x j) d)) (bare_fits (state_at x j))
      go (yes t) true e =
          let m = partner_at x j in
          subst FitsRow (sym (ap (λ (v : ℕ). row_of s j v m) t ∙ row_receive s j m e))
          (receive_fits (cond (is_cut s m j) 1 0) m (R.stable.receive_pair j e t).sends)
      go (yes t) false e =
          let q = partner_at x j in
          let inside = (R.placed.entered_only j (omega arith)).0 in
          let half = not_so (only_half (op s j)) (λ o. R.shaped.only_half_unmatched j o t) in
          let pair = R.stable.message_pair j (kind_send s g j inside half e) t in
          subst FitsRow (sym (ap (λ (v : ℕ). row_of s j v q) t ∙ row_message s j q e)) (message_fits q (receive_inside s q pair.receives))

      by_role : (b : Bool) → tells (op s j) ≡ b → Dec (1 ≤ state_at x j) → FitsRow (entry_at x j)
      by_role true t (yes there) = told_fits j t there
      by_role true t (no out) = subst FitsRow (sym (R.shaped.row_new j (omega arith))) (bare_fits 0)
      by_role false t d = subst FitsRow (sym (R.shaped.row j t)) (go (ℕ_discrete (state_at x j) 3) (is_receive (op s j)) refl)
