-- What the code's judgement tells is its own: two results that tell the same verdict are the same.
use mathlib.Core.Path.{◌≡◌, ap}
use Rattle.std.specs.Prelude.{Ok, Err}
use Rattle.bus.specs.Told.{number_of}
use Rattle.bus.proofs.ToldLaws.{told_apart}
use Rattle.judgement.specs.Told.{VerdictsApart}

pub verdicts_apart : VerdictsApart
verdicts_apart (Ok step) (Ok other) e = let same : step ≡ other = cc in ap Ok same
verdicts_apart (Err refusal) (Err other) e = let same : number_of refusal ≡ number_of other = cc in ap Err (told_apart refusal other same)
verdicts_apart (Ok step) (Err refusal) e = cc
verdicts_apart (Err refusal) (Ok step) e = cc
