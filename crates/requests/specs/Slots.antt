-- Refusal 7 by a table of slots: the area of each held slot, and what an operation asks and changes. A free slot has the start
-- `absent`; a slot held without an area (a send's, or an empty one) has start and end 0, which share nothing.
-- Assumes nothing.
use Rattle.std.specs.Prelude.{Bool, ◌&&◌, not, cond, List, ℕ, ◌+◌, ◌<◌, ltb, eqb, get_or, set}
use Rattle.rules.specs.Limits.{absent, slot_limit}
use Rattle.rules.specs.Sheet.{Op, is_receive, names_slot, frees_slot, takes_slot}
use Rattle.rules.specs.Refusal.{some_below}
use Rattle.laws.specs.Fields.{Roles}

unfoldable pub slot_taken : (starts : List ℕ) → (k : ℕ) → Bool
slot_taken starts k = not (eqb (get_or starts k 0) absent)

-- the area of slot k shares a byte with the stretch from `from` to before `to`
unfoldable pub hit : (starts ends : List ℕ) → (from to k : ℕ) → Bool
hit starts ends from to k = ltb from (get_or ends k 0) && ltb (get_or starts k 0) to

unfoldable pub has_area : Op → Bool
has_area o = is_receive o && ltb 0 o.long

unfoldable pub some_hit : (starts ends : List ℕ) → Op → Bool
some_hit starts ends o = has_area o && some_below slot_limit (hit starts ends o.offset (o.offset + o.long))

-- what an operation asks of the table
unfoldable pub table_good : (starts ends : List ℕ) → Op → Bool
table_good starts ends o =
    cond (names_slot o) (slot_taken starts o.slot)
    (not (takes_slot o && slot_taken starts o.slot) && not (some_hit starts ends o))

-- what it leaves in the table
unfoldable pub area_from : Op → ℕ
area_from o = cond (has_area o) o.offset 0

unfoldable pub area_to : Op → ℕ
area_to o = cond (has_area o) (o.offset + o.long) 0

unfoldable pub starts_after : Op → List ℕ → List ℕ
starts_after o starts =
    cond (frees_slot o) (set starts o.slot absent) (cond (takes_slot o) (set starts o.slot (area_from o)) starts)

unfoldable pub ends_after : Op → List ℕ → List ℕ
ends_after o ends = cond (frees_slot o) (set ends o.slot 0) (cond (takes_slot o) (set ends o.slot (area_to o)) ends)

-- what refusal 6 has settled, as far as the table needs it
pub record Slotted (o : Op) : Type 0 where
  pub slot_small : o.slot < slot_limit
  pub end_small : o.offset + o.long < absent
  pub roles : Roles o
