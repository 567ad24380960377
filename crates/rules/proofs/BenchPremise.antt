-- The premise service on sheets written by hand, in one list under one claim that the checker computes. What each must answer is
-- worked out from document 01, "What is pinned down", and document 02, K6 and K9. BenchNumbered, BenchProbes and BenchStandard say how to
-- read a sheet.
-- The edits in must-fail/ named premise-.. put wrong definitions in the place of Premise's; this claim refuses each. Assumes
-- nothing.
use Rattle.std.specs.Prelude.{◌≡◌, refl, true}
use Rattle.rules.specs.BenchJob.{all}
use Rattle.rules.specs.BenchPremise.{answered, standard_sheet, questions}
use Rattle.rules.specs.Definitions.{definitions}

pub questions_answered : all answered questions ≡ true
unfolding answered standard_sheet questions definitions
questions_answered = refl
