-- The number that a sheet has for each kind of operation. Assumes nothing.
--   kind_number   the number of a kind
--   Names         the result is the kind that a byte names; an error has the byte, which is no kind's number
use Rattle.std.specs.Prelude.{◌≡◌, ℕ, ◌<◌, ◌⊎◌, Result, MatchResult}
use Rattle.sheet.specs.declared.kind.Kind.{Kind}
use Rattle.sheet.specs.declared.kind.Kind.TheVariants.{Standard, Buffered, Synchronous, Ready, Receive, Wait, Probe, Query}
use Rattle.sheet.specs.declared.kind.UnknownKind.{UnknownKind}

abbrev pub kind_number : Kind → ℕ
kind_number Standard = 1
kind_number Buffered = 2
kind_number Synchronous = 3
kind_number Ready = 4
kind_number Receive = 5
kind_number Wait = 6
kind_number Probe = 7
kind_number Query = 8

abbrev pub Names : ℕ → Result Kind UnknownKind → Type 0
Names byte r = MatchResult r (λ k. kind_number k ≡ byte) (λ e. (e.0 ≡ byte) × ((byte ≡ 0) ⊎ (8 < byte)))
