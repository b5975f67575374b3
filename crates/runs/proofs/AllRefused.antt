-- A run without memory, by computation.
use mathlib.Core.Path.{refl}
use Rattle.words.specs.First.{first_of}
use Rattle.judgement.specs.Judge.{refusal_of}
use Rattle.events.specs.Step.{after}
use Rattle.runs.specs.Run.{after_all, accepted_of, speakers_of}
use Rattle.runs.specs.Examples.{over, AllRefused}

pub all_refused : AllRefused
unfolding first_of refusal_of after after_all accepted_of speakers_of over
all_refused = record { looks = refl; same = refl }
