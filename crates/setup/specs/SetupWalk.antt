-- The tables filled as a walk: what holds before operation i of board r's script (`Going`), the scripts one after another, and
-- the job that then stands in scratch. Assumes nothing.
--   Going           going_none: before a script; going_more: one operation more; going_all: behind it
--   start_stands    rows and places written over full tables: the start of a job stands there
use Rattle.std.specs.Prelude.{◌≡◌, List, ℕ, suc, ◌+◌, ◌<◌, ◌≤◌, length, replicate}
use Rattle.std.proofs.Common.{sym, ap, ap₂, subst, ◌∙◌, arith, add-one}
use Rattle.rules.specs.Limits.{slot_limit}
use Rattle.rules.specs.Sheet.{Sheet, op, board, P_of, N_of, P_in, N_in, rank_of, sheet_in, counts_before, inbox_total}
use Rattle.rules.specs.Refusal.{op_good, room_for}
use Rattle.rules.specs.Job.{started}
use Rattle.laws.specs.Ranks.{counts_more}
use Rattle.laws.specs.Fields.{fields_slot}
use Rattle.laws.specs.Laid.{Laid}
use Rattle.invariant.specs.sheet.Valid.{Valid, valid_first}
use Rattle.invariant.specs.preserve.Orders.{start_reached}
use Rattle.state.specs.declared.Control.{Control}
use Rattle.state.specs.Controls.{no_control}
use Rattle.state.specs.Decodes.{Decodes}
use Rattle.state.proofs.Decodes.{decodes_as}
use Rattle.state.specs.Start.{started_bytes}
use Rattle.state.proofs.StartHolds.{started_decodes}
use Rattle.simulation.specs.Represents.{Represents}
use Rattle.setup.specs.SetupTables.{Slotted, Latest, latest_none, latest_more, last_after, Filled, filled_more, filled_all, op_put}

-- before operation i of board r's script, which ends at `end`
pub record Going (s : Sheet) (r i end : ℕ) (c last : List ℕ) : Type 0 where
  pub low : (board s r).first ≤ i
  pub high : i ≤ end
  pub ends : end ≡ (board s r).first + (board s r).count
  pub filled : Filled s c i
  pub latest : Latest s r i last

pub going_none : (s : Sheet) → Valid s → (r i n : ℕ) (c : List ℕ) → r < P_of s → i ≡ (board s r).first → n ≡ (board s r).count →
    Filled s c (counts_before s r) → Going s r i (i + n) c (replicate slot_limit 0)
going_none s g r i n c l e f F =
    record {
      low = omega arith;
      high = omega arith;
      ends = omega arith;
      filled = subst (λ (k : ℕ). Filled s c k) (sym (e ∙ valid_first s g r l)) F;
      latest = subst (λ (k : ℕ). Latest s r k (replicate slot_limit 0)) (sym e) (latest_none s g r l);
    }

pub going_all : (s : Sheet) → Valid s → {r i end : ℕ} {c last : List ℕ} → r < P_of s → Going s r i end c last → end ≤ i → Filled s c (counts_before s (r + 1))
going_all s g {r} {i} {end} {c} {last} l G h =
    subst (λ (k : ℕ). Filled s c k)
    (let all : i ≡ counts_before s (suc r) = omega (arith, G.high, G.ends, valid_first s g r l, counts_more s r l) in all ∙ ap (λ (k : ℕ). counts_before s k) (sym (add-one r)))
    G.filled

-- ONE OPERATION
module _ {bs : List ℕ} (l : Laid bs) (g : Valid (sheet_in bs)) {r i end : ℕ} {c last : List ℕ} (h : r < P_of (sheet_in bs))
    (G : Going (sheet_in bs) r i end c last) (u : i < end) where
  abbrev s : Sheet
  s = sheet_in bs

  inside : i < N_of s
  inside = omega (arith, G.ends, g.script_inside r h)

  pub going_slotted : Slotted bs i
  unfolding op_good
  going_slotted =
      record {
        laid = l;
        inside = inside;
        slot_small = fields_slot (P_of s) s.comms (room_for s i) (op s i) (g.ops_good i inside);
      }

  ranked : rank_of s i ≡ r
  ranked = g.script_ranked r i h G.low (omega (arith, G.ends))

  pub going_more : {d late : List ℕ} → d ≡ op_put (op s i) i r last c → late ≡ last_after (op s i) i last →
      Going s r (i + 1) end d late
  going_more a b =
      record {
        low = omega (arith, G.low);
        high = omega arith;
        ends = G.ends;
        filled =
            subst (λ (z : List ℕ). Filled s z (i + 1)) (sym a)
            (filled_more s g r i last c G.filled G.latest inside ranked going_slotted.slot_small);
        latest =
            subst (λ (z : List ℕ). Latest s r (i + 1) z) (sym b)
            (latest_more s r i last G.latest ranked going_slotted.slot_small);
      }

-- THE START, whatever inboxes are lent
abbrev pub Starts : (bs c : List ℕ) → Control → Type 0
Starts bs c t =
    (lent : List ℕ) → inbox_total (sheet_in bs) ≤ length lent → Represents bs lent c t (started (sheet_in bs) lent)

-- `b` is scratch with full tables, `d` that with rows and places
pub start_stands : {bs b d : List ℕ} {t : Control} {p n : ℕ} → Laid bs → Valid (sheet_in bs) →
    Filled (sheet_in bs) b (N_of (sheet_in bs)) →
    p ≡ P_in bs → n ≡ N_in bs → d ≡ started_bytes b p n → t ≡ no_control → Starts bs d t
start_stands {bs} {b} {d} {t} {p} {n} l g F ep en ed et lent room =
    record {
      laid = l;
      good = g;
      room = room;
      reached = start_reached g lent;
      decodes = there;
    }
  where
    written : d ≡ started_bytes b (P_of (sheet_in bs)) (N_of (sheet_in bs))
    written =
        ed ∙ ap₂ (λ (j k : ℕ). started_bytes b j k) (ep ∙ sym l.P_is) (en ∙ sym l.N_is)

    there : Decodes (sheet_in bs) d t (started (sheet_in bs) lent)
    there =
        decodes_as (sheet_in bs) d _ t no_control (started (sheet_in bs) lent) written et
        (started_decodes (sheet_in bs) b lent g.ops_few g.boards_few F.roomy (filled_all (sheet_in bs) b F))
