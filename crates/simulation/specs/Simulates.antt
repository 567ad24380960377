-- What a function does to every job that scratch and the control block hold, and what it asks at its entry. A caller's proof
-- composes the parts by the laws and does not look into them.
--   Holds           some job is held of which a condition holds; holds_for: and another
--   Simulates       every such job becomes the job that a function of sheet and job makes of it
--   held_after      what is held after a part
--   in_turn         one part after another
--   simulates_as, simulates_told   the same under another name for what is made; the name may go by what is held
--   simulates_from  the same from other names for the bytes before
--   simulates_of    the same where more is asked
--   simulates_change   what changes scratch does, of jobs of which what it asks holds, under another name for what is made
-- Assumes nothing.
use Rattle.std.specs.Prelude.{◌≡◌, List, ℕ}
use Rattle.std.proofs.Common.{subst}
use Rattle.rules.specs.Sheet.{Sheet, sheet_in}
use Rattle.rules.specs.Job.{Job}
use Rattle.laws.specs.Laid.{Laid}
use Rattle.invariant.specs.sheet.Valid.{Valid}
use Rattle.state.specs.declared.Control.{Control}
use Rattle.state.specs.Decodes.{Decodes}
use Rattle.state.specs.Changes.{Becomes}

pub record Holds (bs c : List ℕ) (t : Control) (ok : Sheet → Job → Type 0) : Type 0 where
  pub laid : Laid bs
  pub valid : Valid (sheet_in bs)
  pub job : Job
  pub decodes : Decodes (sheet_in bs) c t job
  pub fine : ok (sheet_in bs) job

-- of the same job another condition holds
pub holds_for : {bs c : List ℕ} {t : Control} {ok then : Sheet → Job → Type 0} (h : Holds bs c t ok) → then (sheet_in bs) h.job →
    Holds bs c t then
holds_for h o =
    record {
      laid = h.laid;
      valid = h.valid;
      job = h.job;
      decodes = h.decodes;
      fine = o;
    }

-- bs is the sheet, c and t scratch and control block before, b and u after
pub record Simulates (bs c : List ℕ) (t : Control) (b : List ℕ) (u : Control) (ok : Sheet → Job → Type 0) (f : Sheet → Job → Job) : Type 0 where
  pub after : (x : Job) → Decodes (sheet_in bs) c t x → ok (sheet_in bs) x → Decodes (sheet_in bs) b u (f (sheet_in bs) x)

-- what holds of every job before a part holds of what it makes
abbrev pub Leads : Sheet → (ok : Sheet → Job → Type 0) → (f : Sheet → Job → Job) → (then : Sheet → Job → Type 0) → Type 0
Leads s ok f then = (x : Job) → ok s x → then s (f s x)

module _ {bs c b : List ℕ} {t u : Control} {ok : Sheet → Job → Type 0} {f : Sheet → Job → Job} where
  pub held_after : {then : Sheet → Job → Type 0} → Holds bs c t ok → Simulates bs c t b u ok f → Leads (sheet_in bs) ok f then → Holds bs b u then
  held_after h m next =
      record {
        laid = h.laid;
        valid = h.valid;
        job = f (sheet_in bs) h.job;
        decodes = m.after h.job h.decodes h.fine;
        fine = next h.job h.fine;
      }

  pub in_turn : {d : List ℕ} {v : Control} {then : Sheet → Job → Type 0} {g : Sheet → Job → Job} → Simulates bs c t b u ok f →
      Leads (sheet_in bs) ok f then → Simulates bs b u d v then g → Simulates bs c t d v ok (λ s x. g s (f s x))
  in_turn m next n = record { after = λ x d q. n.after (f (sheet_in bs) x) (m.after x d q) (next x q) }

  pub simulates_told : {g : Sheet → Job → Job} →
      ((x : Job) → Decodes (sheet_in bs) c t x → ok (sheet_in bs) x → f (sheet_in bs) x ≡ g (sheet_in bs) x) →
      Simulates bs c t b u ok f → Simulates bs c t b u ok g
  simulates_told e m = record { after = λ x d q. subst (λ (y : Job). Decodes (sheet_in bs) b u y) (e x d q) (m.after x d q) }

  pub simulates_as : {g : Sheet → Job → Job} → ((x : Job) → ok (sheet_in bs) x → f (sheet_in bs) x ≡ g (sheet_in bs) x) →
      Simulates bs c t b u ok f → Simulates bs c t b u ok g
  simulates_as e m = simulates_told (λ x d q. e x q) m

  pub simulates_from : {d : List ℕ} → c ≡ d → Simulates bs c t b u ok f → Simulates bs d t b u ok f
  simulates_from e m = subst (λ (l : List ℕ). Simulates bs l t b u ok f) e m

  pub simulates_of : {more : Sheet → Job → Type 0} → ((x : Job) → more (sheet_in bs) x → ok (sheet_in bs) x) →
      Simulates bs c t b u ok f → Simulates bs c t b u more f
  simulates_of w m = record { after = λ x d q. m.after x d (w x q) }

  pub simulates_change : {asks : Sheet → Job → Type 0} {g : Sheet → Job → Job} → Becomes c t b u asks f →
      ((x : Job) → Decodes (sheet_in bs) c t x → ok (sheet_in bs) x → asks (sheet_in bs) x) →
      ((x : Job) → Decodes (sheet_in bs) c t x → ok (sheet_in bs) x → f (sheet_in bs) x ≡ g (sheet_in bs) x) → Simulates bs c t b u ok g
  simulates_change m asked e =
      record { after = λ x d q. subst (λ (y : Job). Decodes (sheet_in bs) b u y) (e x d q) (m (sheet_in bs) x d (asked x d q)) }
