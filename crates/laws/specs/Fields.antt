-- What refusal 6 has settled: the fields of every operation are good. From that, field by field, what the other refusals and the
-- steps rely on; and how an operation's roles exclude each other. Assumes nothing.
use Rattle.std.specs.Prelude.{◌≡◌, refl, ◌⊎◌, Bool, ◌&&◌, ◌||◌, ℕ, ◌+◌, ◌<◌, ◌≤◌}
use Rattle.std.proofs.Common.{sym, ◌∙◌, inl, inr}
use Rattle.std.proofs.Math.Path.{ap₂}
use Rattle.std.proofs.Math.Bool.{true, false, cond}
use native.Mathlib.Omega.{arith}
use Rattle.std.proofs.Math.Dec.{ltb, leb, eqb}
use borrow.Author.Tests.{ltb-true, leb-true, eqb-true, ne_eqb}
use Rattle.rules.specs.Limits.{most_length, slot_limit, tag_limit, any}
use Rattle.rules.specs.Sheet.{Sheet, Op, op, P_of, N_of, is_send, is_receive, is_buffered, is_ready, is_wait, is_nonblocking, selects}
use Rattle.rules.specs.Sheet.{tells_message, tells_completion, names_slot, frees_slot, takes_slot}
use Rattle.rules.specs.Refusal.{fields_good, wait_good, probe_good, or_any, envelope_good, extent_good, slot_good, room_for, op_good, ops_refusal}
use Rattle.laws.specs.Tests.{and_left, and_right, or_left, or_cases, true_not_false}
use Rattle.laws.specs.Broken.{broken_passed}

-- of an operation that names a slot
module _ (o : Op) (g : wait_good o ≡ true) where
  abbrev front : Bool
  front = (eqb o.flag 0 && eqb o.peer 0) && (eqb o.comm 0 && eqb o.zero_field 0)

  abbrev back : Bool
  back = (eqb o.tag 0 && eqb o.offset 0) && (eqb o.long 0 && ltb o.slot slot_limit)

  pub wait_flag : o.flag ≡ 0
  unfolding wait_good
  wait_flag =
      eqb-true o.flag 0 (and_left (eqb o.flag 0) (eqb o.peer 0)
      (and_left (eqb o.flag 0 && eqb o.peer 0) (eqb o.comm 0 && eqb o.zero_field 0) (and_left front back g)))

  pub wait_empty : o.offset + o.long ≡ 0
  unfolding wait_good
  wait_empty =
      let tag = eqb o.tag 0 in
      let offset = eqb o.offset 0 in
      let long = eqb o.long 0 in
      let slot = ltb o.slot slot_limit in
      let q = and_right front back g in
      let a = eqb-true o.offset 0 (and_right tag offset (and_left (tag && offset) (long && slot) q)) in
      let b = eqb-true o.long 0 (and_left long slot (and_right (tag && offset) (long && slot) q)) in
      omega arith

  pub wait_slot : o.slot < slot_limit
  unfolding wait_good
  wait_slot =
      ltb-true o.slot slot_limit (and_right (eqb o.long 0) (ltb o.slot slot_limit)
      (and_right (eqb o.tag 0 && eqb o.offset 0) (eqb o.long 0 && ltb o.slot slot_limit) (and_right front back g)))

-- of a send or a receive
module _ (room : ℕ) (o : Op) (g : extent_good room o ≡ true) where
  abbrev sizes : Bool
  sizes = (leb o.flag 1 && eqb o.zero_field 0) && (leb o.long most_length && leb (o.offset + o.long) room)

  pub extent_flag : o.flag ≤ 1
  unfolding extent_good
  extent_flag =
      leb-true o.flag 1 (and_left (leb o.flag 1) (eqb o.zero_field 0)
      (and_left (leb o.flag 1 && eqb o.zero_field 0) (leb o.long most_length && leb (o.offset + o.long) room) (and_left sizes (slot_good o) g)))

  pub extent_inside : o.offset + o.long ≤ room
  unfolding extent_good
  extent_inside =
      leb-true (o.offset + o.long) room (and_right (leb o.long most_length) (leb (o.offset + o.long) room)
      (and_right (leb o.flag 1 && eqb o.zero_field 0) (leb o.long most_length && leb (o.offset + o.long) room) (and_left sizes (slot_good o) g)))

  pub extent_length : o.long ≤ most_length
  unfolding extent_good
  extent_length =
      leb-true o.long most_length (and_left (leb o.long most_length) (leb (o.offset + o.long) room)
      (and_right (leb o.flag 1 && eqb o.zero_field 0) (leb o.long most_length && leb (o.offset + o.long) room) (and_left sizes (slot_good o) g)))

  pub extent_slot : o.slot < slot_limit
  unfolding extent_good slot_good
  extent_slot = go (eqb o.flag 0) (and_right sizes (slot_good o) g)
    where
      go : (t : Bool) → cond t (eqb o.slot 0) (ltb o.slot slot_limit) ≡ true → o.slot < slot_limit
      go true h = let e = eqb-true o.slot 0 h in omega arith
      go false h = ltb-true o.slot slot_limit h

-- of a probe
module _ (o : Op) (g : probe_good o ≡ true) where
  abbrev plain : Bool
  plain = eqb o.flag 0 && eqb o.zero_field 0

  abbrev placed : Bool
  placed = (eqb o.offset 0 && eqb o.long 0) && eqb o.slot 0

  pub probe_flag : o.flag ≡ 0
  unfolding probe_good
  probe_flag = eqb-true o.flag 0 (and_left (eqb o.flag 0) (eqb o.zero_field 0) (and_left plain placed g))

  probe_empty : o.offset + o.long ≡ 0
  unfolding probe_good
  probe_empty =
      let offset = eqb o.offset 0 in
      let long = eqb o.long 0 in
      let both = and_left (offset && long) (eqb o.slot 0) (and_right plain placed g) in
      omega (arith, eqb-true o.offset 0 (and_left offset long both), eqb-true o.long 0 (and_right offset long both))

  probe_slot : o.slot ≡ 0
  unfolding probe_good
  probe_slot =
      eqb-true o.slot 0 (and_right (eqb o.offset 0 && eqb o.long 0) (eqb o.slot 0) (and_right plain placed g))

-- of any operation: it names a slot, or it is a probe, or a send or a receive
module _ (p c room : ℕ) (o : Op) (g : fields_good p c room o ≡ true) where
  abbrev enveloped : Bool
  enveloped = envelope_good p c o

  abbrev transfers : Bool
  transfers = is_send o || is_receive o

  -- what refusal 6 asks, by those roles
  abbrev asked : (b d : Bool) → Bool
  asked b d = cond b (wait_good o) (cond d (enveloped && probe_good o) (transfers && (enveloped && extent_good room o)))

  read : (b d : Bool) → names_slot o ≡ b → tells_message o ≡ d → asked b d ≡ true
  unfolding fields_good
  read b d e f = ap₂ asked (sym e) (sym f) ∙ g

  pub fields_named : names_slot o ≡ true → wait_good o ≡ true
  fields_named w = read true (tells_message o) w refl

  pub fields_probe : names_slot o ≡ false → tells_message o ≡ true → probe_good o ≡ true
  fields_probe w t = and_right enveloped (probe_good o) (read false true w t)

  pub fields_transfers : names_slot o ≡ false → tells_message o ≡ false → transfers ≡ true
  fields_transfers w t = and_left transfers (enveloped && extent_good room o) (read false false w t)

  pub fields_extent : names_slot o ≡ false → tells_message o ≡ false → extent_good room o ≡ true
  fields_extent w t =
      and_right enveloped (extent_good room o) (and_right transfers (enveloped && extent_good room o) (read false false w t))

  fields_envelope : names_slot o ≡ false → enveloped ≡ true
  fields_envelope w = go (tells_message o) refl
    where
      go : (d : Bool) → tells_message o ≡ d → enveloped ≡ true
      go true t = and_left enveloped (probe_good o) (read false true w t)
      go false t =
          and_left enveloped (extent_good room o) (and_right transfers (enveloped && extent_good room o) (read false false w t))

  pub fields_slot : o.slot < slot_limit
  fields_slot = go (names_slot o) refl (tells_message o) refl
    where
      go : (b : Bool) → names_slot o ≡ b → (d : Bool) → tells_message o ≡ d → o.slot < slot_limit
      go true w d t = wait_slot o (fields_named w)
      go false w true t = omega (arith, probe_slot o (fields_probe w t))
      go false w false t = extent_slot room o (fields_extent w t)

  pub fields_end : o.offset + o.long ≤ room
  fields_end = go (names_slot o) refl (tells_message o) refl
    where
      go : (b : Bool) → names_slot o ≡ b → (d : Bool) → tells_message o ≡ d → o.offset + o.long ≤ room
      go true w d t = omega (arith, wait_empty o (fields_named w))
      go false w true t = omega (arith, probe_empty o (fields_probe w t))
      go false w false t = extent_inside room o (fields_extent w t)

  -- what does not select messages names one tag
  pub fields_one_tag : names_slot o ≡ false → selects o ≡ false → o.tag < tag_limit
  unfolding envelope_good or_any
  fields_one_tag w n =
      go (or_cases (ltb o.tag tag_limit) (selects o && eqb o.tag any)
      (and_right (or_any o p o.peer && ltb o.comm c) (or_any o tag_limit o.tag) (fields_envelope w)))
    where
      go : (ltb o.tag tag_limit ≡ true) ⊎ (selects o && eqb o.tag any ≡ true) → o.tag < tag_limit
      go (inl h) = ltb-true o.tag tag_limit h
      go (inr h) = true_not_false (and_left (selects o) (eqb o.tag any) h) n

-- KINDS: a ready send is not a buffered one
pub ready_not_buffered : (o : Op) → is_ready o ≡ true → is_buffered o ≡ false
unfolding is_ready is_buffered
ready_not_buffered o e = ne_eqb o.kind 2 (λ h. omega (arith, eqb-true o.kind 4 e))

-- ROLES: what frees a slot names it
pub frees_names : (o : Op) → frees_slot o ≡ true → names_slot o ≡ true
unfolding frees_slot names_slot
frees_names o e = or_left (is_wait o) (tells_completion o) e

-- of an operation whose fields are good: what frees a slot names it, and what names a slot takes none
pub record Roles (o : Op) : Type 0 where
  pub frees_named : frees_slot o ≡ true → names_slot o ≡ true
  pub named_takes_none : names_slot o ≡ true → takes_slot o ≡ false

pub roles : (p c room : ℕ) (o : Op) → fields_good p c room o ≡ true → Roles o
unfolding is_nonblocking takes_slot
roles p c room o g =
    record {
      frees_named = frees_names o;
      named_takes_none = λ w. ne_eqb o.flag 1 (λ e. absurd (omega (arith, wait_flag o (fields_named p c room o g w))));
    }

-- REFUSAL 6 of a whole sheet: every operation's fields are good
pub record Fielded (s : Sheet) : Type 0 where
  pub good : (i : ℕ) → i < N_of s → op_good s i ≡ true

pub fielded : (s : Sheet) → (ops_refusal s).number ≡ 0 → Fielded s
unfolding ops_refusal
fielded s e =
    record { good = λ i l. broken_passed 6 (op_good s) (N_of s) 0 (λ z. absurd (omega arith)) e i (omega arith) (omega arith) }

pub fielded_at : (s : Sheet) → Fielded s → (i : ℕ) → i < N_of s → fields_good (P_of s) s.comms (room_for s i) (op s i) ≡ true
unfolding op_good
fielded_at s f i l = f.good i l
