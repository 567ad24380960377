-- Refusals in their order: where sheet or rooms are refused, the whole answer is that refusal's, and nothing is touched.
-- Assumes nothing.
--   Refused                        the answer is a refusal of the sheet or of a room; refused_first, refused_second: of a chain
--   kept, scratch_kept             what such a refusal leaves
use Rattle.std.specs.Prelude.{◌≡◌, List, ℕ, ◌≤◌}
use Rattle.std.proofs.Common.{sym, ◌∙◌, subst, arith}
use borrow.Author.Tests.{ne_eqb}
use Rattle.rules.specs.Refusal.{Refusal, or_else}
use Rattle.rules.specs.Service.{Answers, kept_or, scratch_left}
use Rattle.laws.specs.Answers.{answers_number}
use Rattle.laws.specs.Broken.{or_else_passed, or_else_stopped}

-- refusals 1 to 8
pub record Refused (f : Refusal) (n p : ℕ) : Type 0 where
  pub answered : Answers f n p
  pub refuses : f.number ≡ 0 → ⊥
  pub early : f.number ≤ 8

pub refused : (f : Refusal) (n p : ℕ) → Answers f n p → (n ≡ 0 → ⊥) → f.number ≤ 8 → Refused f n p
refused f n p t h l =
    record {
      answered = t;
      refuses = λ z. h (answers_number f n p t ∙ z);
      early = l;
    }

pub refused_as : {f g : Refusal} {n p : ℕ} → f ≡ g → Refused g n p → Refused f n p
refused_as {f} {g} {n} {p} e q = subst (λ (h : Refusal). Refused h n p) (sym e) q

pub refused_first : {a : Refusal} {n p : ℕ} (b : Refusal) → Refused a n p → Refused (or_else a b) n p
refused_first {a} b q = refused_as (or_else_stopped a b q.refuses) q

pub refused_second : (a : Refusal) {b : Refusal} {n p : ℕ} → a.number ≡ 0 → Refused b n p → Refused (or_else a b) n p
refused_second a {b} e q = refused_as (or_else_passed a b e) q

module _ {f : Refusal} {n p : ℕ} (q : Refused f n p) where
  pub kept : (new old : List ℕ) → old ≡ kept_or f.number new old
  unfolding kept_or
  kept new old = let t = ne_eqb f.number 0 q.refuses in rw t

  pub scratch_kept : (c : List ℕ) → c ≡ scratch_left f.number c
  unfolding scratch_left
  scratch_kept c =
      let t = ne_eqb f.number 0 q.refuses in
      let early = q.early in
      let u = ne_eqb f.number 9 (λ e. absurd (omega arith)) in
      rw (t, u)
