-- What the program prints, as a function of all that it reads (01, "The program and one whole run").
use Rattle.std.specs.Prelude.{ℕ, List}
use Rattle.text.specs.Newlines.{text_lines}
use Rattle.text.specs.Reading.{answers_to}
use Rattle.text.specs.Chunks.{Run, begun_in, fed_all}
use Rattle.session.specs.World.{World, answering, fresh_world}
use Rattle.session.specs.declared.state.Wanted.{Wanted}

-- what is written for lines from some state on, and behind them at the end of the input
abbrev pub answers : Wanted → World → List (List ℕ) → List ℕ
answers wanted w lines = answers_to (answering wanted) w lines

abbrev pub output : Wanted → List ℕ → List ℕ
output wanted text = answers wanted fresh_world (text_lines text)

-- The same in calls, one for each chunk of the text, with room for so many bytes: the world then, what was answered, and what is held.
abbrev pub ran_in : Wanted → List (ℕ × List ℕ) → Run World
ran_in wanted calls = fed_all (answering wanted) (begun_in fresh_world) calls
