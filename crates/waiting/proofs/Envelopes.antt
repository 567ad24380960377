-- What a search through waiting envelopes finds (specs/Envelopes): what any source or tag asks for, a fit by its parts, and that the
-- first that passes from the front is the definition's. Assumes nothing.
use Rattle.std.specs.Prelude.{None, Some, position, option_map, cond, not, nat_lt, ◌≡◌, Bool, ◌&&◌, List, [], ◌∷◌, ℕ, zero, suc, ◌+◌, ◌<◌, ◌≤◌, min, eqb, leb, length, get_or, take}
use Rattle.std.proofs.Math.Path.{refl, sym}
use Rattle.std.proofs.Common.{◌∙◌, ap, subst, arith, take_all, below_more, leb-true, leb-false, eq-eqb, ne_eqb}
use Rattle.std.proofs.Math.Bool.{true, false}
use Rattle.std.specs.List.{prefix_len}
use Rattle.std.proofs.lemmas.Bool.{ltb-true, ltb-false, lt-ltb, le-ltb}
use Rattle.rules.specs.Limits.{any, most_ops}
use Rattle.laws.specs.Tests.{and_both}
use Rattle.waiting.specs.declared.Envelope.{Envelope}
use Rattle.waiting.specs.Envelopes.{envelope, is_asked, envelope_fits, fits_receive, earliest_fit, listed, Passed}

pub any_is_asked : (asked told : ℕ) → asked ≡ any → true ≡ is_asked asked told
any_is_asked asked told e = rw (eq-eqb asked any e) refl

pub named_is_asked : (asked told : ℕ) → (asked ≡ any → ⊥) → eqb asked told ≡ is_asked asked told
named_is_asked asked told e = rw (ne_eqb asked any e) refl

pub same_is_asked : (asked told : ℕ) → (asked ≡ any → ⊥) → told ≡ asked → true ≡ is_asked asked told
same_is_asked asked told e h = sym (eq-eqb asked told (sym h)) ∙ named_is_asked asked told e

pub other_is_not : (asked told : ℕ) → (asked ≡ any → ⊥) → (told ≡ asked → ⊥) → false ≡ is_asked asked told
other_is_not asked told e h = sym (ne_eqb asked told (λ same. h (sym same))) ∙ named_is_asked asked told e

-- a fit by its parts, one after the other: another source, another tag, and with both as asked the communicators decide
module _ (sender context mark s c t : ℕ) where
  pub other_source : is_asked s sender ≡ false → false ≡ envelope_fits sender context mark s c t
  unfolding envelope_fits
  other_source e = go (eqb context c) (is_asked s sender) (is_asked t mark) e
    where
      go : (x y z : Bool) → y ≡ false → false ≡ (x && (y && z))
      go true y z h = sym (ap (λ (b : Bool). b && z) h)
      go false y z h = refl

  pub other_tag : is_asked t mark ≡ false → false ≡ envelope_fits sender context mark s c t
  unfolding envelope_fits
  other_tag e = go (eqb context c) (is_asked s sender) (is_asked t mark) e
    where
      go : (x y z : Bool) → z ≡ false → false ≡ (x && (y && z))
      go true true z h = sym h
      go true false z h = refl
      go false y z h = refl

  pub same_but_context : is_asked s sender ≡ true → is_asked t mark ≡ true → eqb context c ≡ envelope_fits sender context mark s c t
  unfolding envelope_fits
  same_but_context e f = go (eqb context c) (is_asked s sender) (is_asked t mark) e f
    where
      go : (x y z : Bool) → y ≡ true → z ≡ true → x ≡ (x && (y && z))
      go true y z h k = sym (and_both h k)
      go false y z h k = refl

-- the first n of an array of most_ops envelopes: all of them where n exceeds their number
pub take_fewer : (es : List Envelope) (n : ℕ) → length es ≡ most_ops → take (min n most_ops) es ≡ take n es
take_fewer es n l = go (leb n most_ops) refl
  where
    go : (b : Bool) → leb n most_ops ≡ b → take (min n most_ops) es ≡ take n es
    go true h = let e : min n most_ops ≡ n = omega (arith, leb-true n most_ops h) in ap (λ (k : ℕ). take k es) e
    go false h =
        let more : most_ops ≤ n = omega (arith, leb-false n most_ops h) in
        let e : min n most_ops ≡ most_ops = omega (arith, more) in
        ap (λ (k : ℕ). take k es) e ∙ (take_all most_ops es (omega (arith, l)) ∙ sym (take_all n es (omega (arith, l, more))))

pub passed_on : (f : Envelope → Bool) (es : List Envelope) (k : ℕ) → Passed f es k → f (get_or es k (envelope 0 0 0 0)) ≡ false → Passed f es (k + 1)
passed_on f es k past h = below_more (λ j. f (get_or es j (envelope 0 0 0 0)) ≡ false) k past h

-- the library's position, seen from one place before it
counted_on : (n l : ℕ) → cond (nat_lt (1 + n) (suc l)) (Some (1 + n)) None ≡ option_map suc (cond (nat_lt n l) (Some n) None)
counted_on n l = go (nat_lt n l) refl
  where
    go : (b : Bool) → nat_lt n l ≡ b → cond (nat_lt (1 + n) (suc l)) (Some (1 + n)) None ≡ option_map suc (cond b (Some n) None)
    go true h = rw (lt-ltb (1 + n) (suc l) (omega (arith, ltb-true n l h))) (ap Some (omega arith))
    go false h = rw (le-ltb (1 + n) (suc l) (omega (arith, ltb-false n l h))) refl

pub position_found : (f : Envelope → Bool) (e : Envelope) (es : List Envelope) → f e ≡ true → position f (e ∷ es) ≡ Some 0
position_found f e es h = rw (h, lt-ltb 0 (suc (length es)) (omega arith)) refl

pub position_on : (f : Envelope → Bool) (e : Envelope) (es : List Envelope) → f e ≡ false → position f (e ∷ es) ≡ option_map suc (position f es)
position_on f e es h = rw h (counted_on (prefix_len (λ x. not (f x)) es) (length es))

pub first_here : (f : Envelope → Bool) (es : List Envelope) (k : ℕ) → k < length es → Passed f es k → f (get_or es k (envelope 0 0 0 0)) ≡ true → Some k ≡ position f es
first_here f [] k l past h = absurd (omega arith)
first_here f (e ∷ es) zero l past h = sym (position_found f e es h)
first_here f (e ∷ es) (suc k) l past h =
    ap (option_map suc) (first_here f es k (omega arith) (λ j m. past (suc j) (omega arith)) h) ∙ sym (position_on f e es (past 0 (omega arith)))

pub first_nowhere : (f : Envelope → Bool) (es : List Envelope) → Passed f es (length es) → None ≡ position f es
first_nowhere f [] past = refl
first_nowhere f (e ∷ es) past =
    ap (option_map suc) (first_nowhere f es (λ j m. past (suc j) (omega arith))) ∙ sym (position_on f e es (past 0 (omega arith)))

-- so a search through a list finds the definition's place
module _ (es : List Envelope) (s c t k : ℕ) where
  pub found_here : k < length es → Passed (λ e. fits_receive e s c t) es k → fits_receive (get_or es k (envelope 0 0 0 0)) s c t ≡ true → Some k ≡ earliest_fit es s c t
  unfolding earliest_fit
  found_here l past h = first_here (λ e. fits_receive e s c t) es k l past h

  pub found_nowhere : length es ≤ k → Passed (λ e. fits_receive e s c t) es k → None ≡ earliest_fit es s c t
  unfolding earliest_fit
  found_nowhere l past = first_nowhere (λ e. fits_receive e s c t) es (λ j m. past j (omega arith))

-- the list of three slices of one length, place by place
pub listed_length : (ss cs ts : List ℕ) → length cs ≡ length ss → length ts ≡ length ss → length (listed ss cs ts) ≡ length ss
unfolding listed
listed_length [] cs ts p q = refl
listed_length (s ∷ ss) [] ts p q = absurd (omega arith)
listed_length (s ∷ ss) (c ∷ cs) [] p q = absurd (omega arith)
listed_length (s ∷ ss) (c ∷ cs) (t ∷ ts) p q = ap suc (listed_length ss cs ts (omega arith) (omega arith))

pub listed_at : (ss cs ts : List ℕ) (k : ℕ) → length cs ≡ length ss → length ts ≡ length ss → k < length ss
    → envelope (get_or ss k 0) (get_or cs k 0) (get_or ts k 0) 0 ≡ get_or (listed ss cs ts) k (envelope 0 0 0 0)
unfolding listed
listed_at [] cs ts k p q l = absurd (omega arith)
listed_at (s ∷ ss) [] ts k p q l = absurd (omega arith)
listed_at (s ∷ ss) (c ∷ cs) [] k p q l = absurd (omega arith)
listed_at (s ∷ ss) (c ∷ cs) (t ∷ ts) zero p q l = refl
listed_at (s ∷ ss) (c ∷ cs) (t ∷ ts) (suc k) p q l = listed_at ss cs ts k (omega arith) (omega arith) (omega arith)

-- so does a search through the slices, which tests the numbers of place k and is answered b
module _ (ss cs ts : List ℕ) (p : length cs ≡ length ss) (q : length ts ≡ length ss) (s c t k : ℕ) where
  abbrev fit : Envelope → Bool
  fit e = fits_receive e s c t

  abbrev fit_at : Bool
  fit_at = envelope_fits (get_or ss k 0) (get_or cs k 0) (get_or ts k 0) s c t

  listed_fit : k < length ss → fit (get_or (listed ss cs ts) k (envelope 0 0 0 0)) ≡ fit_at
  listed_fit l = ap fit (sym (listed_at ss cs ts k p q l))

  pub searched_here : {b : Bool} → k < length ss → Passed fit (listed ss cs ts) k → b ≡ fit_at → b ≡ true → Some k ≡ earliest_fit (listed ss cs ts) s c t
  searched_here l past e h = found_here (listed ss cs ts) s c t k (subst (λ (n : ℕ). k < n) (sym (listed_length ss cs ts p q)) l) past (listed_fit l ∙ (sym e ∙ h))

  pub searched_on : {b : Bool} → k < length ss → Passed fit (listed ss cs ts) k → b ≡ fit_at → b ≡ false → Passed fit (listed ss cs ts) (k + 1)
  searched_on l past e h = passed_on fit (listed ss cs ts) k past (listed_fit l ∙ (sym e ∙ h))

  pub searched_nowhere : length ss ≤ k → Passed fit (listed ss cs ts) k → None ≡ earliest_fit (listed ss cs ts) s c t
  searched_nowhere l past = found_nowhere (listed ss cs ts) s c t k (subst (λ (n : ℕ). n ≤ k) (sym (listed_length ss cs ts p q)) l) past
