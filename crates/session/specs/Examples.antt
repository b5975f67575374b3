-- Outputs of short texts, from the first line on.
use Rattle.std.specs.Prelude.{ℕ, ◌*◌, ◌≡◌, false, List, [], ◌∷◌, ◌++◌, take, drop, replicate}
use Rattle.phases.specs.Phase as Phase
use Rattle.bus.specs.State.{nobody, silent, changed}
use Rattle.bus.specs.Setup.{empty_bus}
use Rattle.bus.specs.declared.state.Bus.{Bus}
use Rattle.judgement.specs.Refusals.{has_wrong_buffers}
use Rattle.text.specs.Newlines.{newline}
use Rattle.text.specs.Examples.{word_write, thirteen, lower_a, with_byte_in, setup}
use Rattle.session.specs.World.{fresh, wanted_by, most_said}
use Rattle.session.specs.Feeding.{feed_refusal}
use Rattle.session.specs.Output.{output}
use Rattle.session.specs.declared.state.Stage.TheVariants.{Awaiting}
use Rattle.session.specs.declared.state.Wanted.TheVariants.{Answers, Pictures, Outcomes}

-- 01's setup line with a page code 3, a digit short, and with a lower-case letter
abbrev pub page3 : List ℕ
page3 = 0x30 ∷ 0x30 ∷ 0x30 ∷ 0x41 ∷ 0x31 ∷ 0x33 ∷ 0x30 ∷ 0x30 ∷ 0x30 ∷ 0x30 ∷ 0x30 ∷ 0x30 ∷ 0x30 ∷ 0x30 ∷ 0x30 ∷ 0x30 ∷ 0x30 ∷ 0x30 ∷ 0x30 ∷ 0x30 ∷ []

abbrev pub short : List ℕ
short = 0x30 ∷ 0x30 ∷ 0x30 ∷ 0x41 ∷ 0x31 ∷ 0x32 ∷ 0x30 ∷ 0x30 ∷ 0x30 ∷ 0x30 ∷ 0x30 ∷ 0x30 ∷ 0x30 ∷ 0x30 ∷ 0x30 ∷ 0x30 ∷ 0x30 ∷ 0x30 ∷ 0x30 ∷ []

abbrev pub lower : List ℕ
lower = 0x30 ∷ 0x30 ∷ 0x30 ∷ 0x61 ∷ 0x31 ∷ 0x32 ∷ 0x30 ∷ 0x30 ∷ 0x30 ∷ 0x30 ∷ 0x30 ∷ 0x30 ∷ 0x30 ∷ 0x30 ∷ 0x30 ∷ 0x30 ∷ 0x30 ∷ 0x30 ∷ 0x30 ∷ 0x30 ∷ []

-- answer lines: 0000FF000000000000, 0B and 0C with zeros, and 0D with zeros and two digits of a column
abbrev pub free_line : List ℕ
free_line = 0x30 ∷ 0x30 ∷ 0x30 ∷ 0x30 ∷ 0x46 ∷ 0x46 ∷ 0x30 ∷ 0x30 ∷ 0x30 ∷ 0x30 ∷ 0x30 ∷ 0x30 ∷ 0x30 ∷ 0x30 ∷ 0x30 ∷ 0x30 ∷ 0x30 ∷ 0x30 ∷ 0x0A ∷ []

abbrev pub page_refused : List ℕ
page_refused = 0x30 ∷ 0x42 ∷ 0x30 ∷ 0x30 ∷ 0x30 ∷ 0x30 ∷ 0x30 ∷ 0x30 ∷ 0x30 ∷ 0x30 ∷ 0x30 ∷ 0x30 ∷ 0x30 ∷ 0x30 ∷ 0x30 ∷ 0x30 ∷ 0x30 ∷ 0x30 ∷ 0x0A ∷ []

abbrev pub length_refused : List ℕ
length_refused = 0x30 ∷ 0x43 ∷ 0x30 ∷ 0x30 ∷ 0x30 ∷ 0x30 ∷ 0x30 ∷ 0x30 ∷ 0x30 ∷ 0x30 ∷ 0x30 ∷ 0x30 ∷ 0x30 ∷ 0x30 ∷ 0x30 ∷ 0x30 ∷ 0x30 ∷ 0x30 ∷ 0x0A ∷ []

abbrev pub character_refused : ℕ → ℕ → List ℕ
character_refused high low = 0x30 ∷ 0x44 ∷ replicate 14 0x30 ++ high ∷ low ∷ 0x0A ∷ []

pub record SetupOutputs : Type 0 where
  pub accepted : output Answers (setup ++ newline ∷ []) ≡ free_line
  -- also where the end of the input ends the line
  pub unended : output Answers setup ≡ free_line
  -- Whatever follows a refused setup line is not answered.
  pub page : output Answers (page3 ++ newline ∷ setup ++ newline ∷ []) ≡ page_refused
  pub too_short : output Answers (short ++ newline ∷ setup ++ newline ∷ []) ≡ length_refused
  pub lower_case : output Answers (lower ++ newline ∷ setup ++ newline ∷ []) ≡ character_refused 0x30 0x34
  -- 0C before 0D, and 0D before 0B, though the page stands before the space in the last column; of two columns the first
  pub short_lower : output Answers (take 19 lower ++ newline ∷ setup ++ newline ∷ []) ≡ length_refused
  pub page_and_space : output Answers (take 19 page3 ++ 0x20 ∷ newline ∷ setup ++ newline ∷ []) ≡ character_refused 0x31 0x34
  pub two_wrong : output Answers (take 19 lower ++ 0x20 ∷ newline ∷ setup ++ newline ∷ []) ≡ character_refused 0x30 0x34
  pub lower_unended : output Answers lower ≡ character_refused 0x30 0x34
  pub blank : output Answers (newline ∷ setup ++ newline ∷ []) ≡ length_refused

-- After setup each bad line has its answer: an empty one, one like a setup line, and an unended one.
pub record BadLineOutputs : Type 0 where
  pub each : output Answers (setup ++ newline ∷ newline ∷ setup ++ newline ∷ 0x30 ∷ []) ≡ free_line ++ length_refused ++ length_refused ++ length_refused
  -- the columns of wrong characters, each of its own line; a carriage return behind fourteen digits, and behind thirteen
  pub misspelt : output Answers (setup ++ newline ∷ with_byte_in 14 0x4F ++ newline ∷ lower_a ++ newline ∷ with_byte_in 1 0x00)
      ≡ free_line ++ character_refused 0x30 0x45 ++ character_refused 0x30 0x32 ++ character_refused 0x30 0x31
  pub returns : output Answers (setup ++ newline ∷ word_write ++ 0x0D ∷ newline ∷ thirteen ++ 0x0D ∷ newline ∷ [])
      ≡ free_line ++ length_refused ++ character_refused 0x30 0x45
  pub cut : output Answers (setup ++ newline ∷ drop 1 lower_a ++ newline ∷ []) ≡ free_line ++ length_refused

-- ---- Pictures

-- a line that resets the bus
abbrev pub reset_frame : List ℕ
reset_frame = 0x30 ∷ 0x46 ∷ replicate 12 0x30

-- Neither a setup line nor a bad one has a picture, and what follows a refused setup line has none either.
pub record PictureOutputs : Type 0 where
  pub set_up : output Pictures (setup ++ newline ∷ []) ≡ []
  pub bad : output Pictures (setup ++ newline ∷ newline ∷ setup ++ newline ∷ 0x30 ∷ []) ≡ []
  pub misspelt : output Pictures (setup ++ newline ∷ lower_a ++ newline ∷ []) ≡ []
  pub refused : output Pictures (page3 ++ newline ∷ reset_frame ++ newline ∷ []) ≡ []
  pub refused_lower : output Pictures (lower ++ newline ∷ reset_frame ++ newline ∷ []) ≡ []

-- ---- Outcomes

-- of card n, which isn't fitted: 05, the card, FF and FF
abbrev pub unfitted : ℕ → List ℕ
unfitted digit = 0x30 ∷ 0x35 ∷ 0x30 ∷ digit ∷ 0x46 ∷ 0x46 ∷ 0x46 ∷ 0x46 ∷ 0x0A ∷ []

-- of a fitted card, outside arbitration
abbrev pub elsewhere : ℕ → List ℕ
elsewhere digit = 0x30 ∷ 0x36 ∷ 0x30 ∷ digit ∷ 0x46 ∷ 0x46 ∷ 0x46 ∷ 0x46 ∷ 0x0A ∷ []

abbrev pub nobody_fitted : List ℕ
nobody_fitted =
    unfitted 0x30
    ++ unfitted 0x31
    ++ unfitted 0x32
    ++ unfitted 0x33
    ++ unfitted 0x34
    ++ unfitted 0x35
    ++ unfitted 0x36
    ++ unfitted 0x37
    ++ unfitted 0x38
    ++ unfitted 0x39
    ++ unfitted 0x41
    ++ unfitted 0x42
    ++ unfitted 0x43
    ++ unfitted 0x44
    ++ unfitted 0x45
    ++ unfitted 0x46

-- A refused setup line leaves a bus without cards, and no line after it changes that; without a line there is nothing to tell of.
pub record OutcomeOutputs : Type 0 where
  pub refused : output Outcomes (page3 ++ newline ∷ setup ++ newline ∷ []) ≡ nobody_fitted
  pub unended : output Outcomes lower ≡ nobody_fitted
  pub blank : output Outcomes (newline ∷ []) ≡ nobody_fitted
  pub empty : output Outcomes [] ≡ []
  -- with cards 1 and 3 on a free bus these two get 06, whatever a bad line behind the setup line says
  pub free : take 36 (output Outcomes (setup ++ newline ∷ lower_a ++ newline ∷ []))
      ≡ unfitted 0x30 ++ elsewhere 0x31 ++ unfitted 0x32 ++ elsewhere 0x33

-- The numbers that the programs hand on, and any other.
pub record WantedNumbers : Type 0 where
  pub answers : wanted_by 0 ≡ Answers
  pub pictures : wanted_by 1 ≡ Pictures
  pub outcomes : wanted_by 2 ≡ Outcomes
  pub other : wanted_by 0xFF ≡ Pictures

-- The most bytes at once: an answer line, the two pictures of a word in two cycles, sixteen outcome lines.
pub record MostWritten : Type 0 where
  pub answers : most_said Answers ≡ 19
  pub pictures : most_said Pictures ≡ 2 * 51
  pub outcomes : most_said Outcomes ≡ 16 * 9

-- ---- A session before its first line, and the refusals of a call

pub record FreshSession : Type 0 where
  pub waits : fresh.stage ≡ Awaiting
  pub no_cards : fresh.bus.fitted ≡ 0
  pub no_pages : fresh.bus.pages ≡ replicate 16 0

abbrev pub ownerless : Bus
ownerless = changed empty_bus Phase.owned 0 silent nobody

pub record CallRefusals : Type 0 where
  pub full : (memory ports : List ℕ) → has_wrong_buffers memory ports ≡ false → feed_refusal empty_bus memory ports (replicate 3 0x30) 3 ≡ 0x00
  pub too_full : feed_refusal ownerless [] [] (replicate 3 0x30) 4 ≡ 0xFF
  pub no_memory : feed_refusal ownerless [] [] (replicate 3 0x30) 3 ≡ 0x01
  pub no_sense : (memory ports : List ℕ) → has_wrong_buffers memory ports ≡ false → feed_refusal ownerless memory ports (replicate 3 0x30) 3 ≡ 0x02
