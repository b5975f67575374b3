-- Pictures written out, digit by digit: from 003, Appendix B and 02, CR 1, worked by hand.
use Rattle.std.specs.Prelude.{ℕ, ◌+◌, ◌≡◌, true, false, List, [], ◌∷◌, ◌++◌, replicate, take}
use Rattle.words.specs.Below.{list_below}
use Rattle.judgement.specs.Table.{event_of}
use Rattle.events.specs.declared.answers.Answer.{Answer}
use Rattle.text.specs.Digits.{digits_of}
use Rattle.pins.specs.Pin.{pin_at}
use Rattle.pins.specs.Picture.{level_digits, picture_digits, picture_length, most_pictured, pictures_of}
use Rattle.pins.specs.ReadAgain.{seen, unseen, picture_in}

pub record Sizes : Type 0 where
  pub digits : level_digits ∷ picture_digits ∷ picture_length ∷ most_pictured ∷ [] ≡ 25 ∷ 50 ∷ 51 ∷ 102 ∷ []

-- the pins whose names 003 stars, those of lines that the model lacks among them
pub record Stars : Type 0 where
  pub starred : list_below (λ k. (pin_at (k + 1)).is_starred) 100
      ≡ replicate 3 false ++ replicate 11 true ++ replicate 3 false ++ replicate 2 true ++ replicate 2 false ++ replicate 2 true ++ false ∷ true
      ∷ replicate 28 false ++ replicate 5 true ++ false ∷ true ∷ replicate 6 false ++ true ∷ replicate 5 false ++ replicate 3 true ++ false ∷ true
      ∷ replicate 19 false ++ replicate 3 true ++ false ∷ []

-- digits written by two numbers, of levels and of what is driven, each in a high and a low part that the checker reads quickly, and a newline
abbrev pub line_of : ℕ → ℕ → ℕ → ℕ → List ℕ
line_of levels more driven also = digits_of 13 levels ++ digits_of 12 more ++ digits_of 13 driven ++ digits_of 12 also ++ 0x0A ∷ []

-- accepted, with phase, granted card, lines, signals, status, cycles and datum
abbrev pub answered : ℕ → ℕ → ℕ → ℕ → ℕ → ℕ → ℕ → Answer
answered phase granted lines signals status cycles datum = record {
  refusal = 0;
  phase = phase;
  granted = granted;
  lines = lines;
  signals = signals;
  status = status;
  cycles = cycles;
  datum = datum;
}

-- 0004668000000390004800000 and 000466C000000390105C00000
abbrev pub idle_line : List ℕ
idle_line = line_of 0x0004668000000 0x390004800000 0x000466C000000 0x390105C00000

-- ---- Events that are no cycles

pub record Standing : Type 0 where
  -- a reset leaves a free bus
  pub idle : pictures_of (event_of 0x0F 0 0 0) (answered 0 0xFF 0 0 0 0 0) ≡ idle_line
  -- a look in arbitration, lines 11: HOLD, DMA0, DMA1 and DMA3 low
  pub arbitration : pictures_of (event_of 0x02 9 0 0) (answered 1 0xFF 11 0x01 0 0 0) ≡ line_of 0x0000668000000 0x090000800000 0x000466C000000 0x390105C00000
  -- transfer two: pHLDA high, HOLD high again, three disable lines low
  pub transfer_two : pictures_of (event_of 0x0D 10 0 0) (answered 5 10 0 0x1E 0 0 0) ≡ line_of 0x000420C000000 0x390004800000 0x000466C000000 0x390105C00000
  -- a refused event has none
  pub refused : pictures_of (event_of 0x0F 0 0 0) (record {
    refusal = 6;
    phase = 0;
    granted = 0;
    lines = 0;
    signals = 0;
    status = 0;
    cycles = 0;
    datum = 0;
  }) ≡ []

-- ---- Cycles

pub record Cycling : Type 0 where
  -- C539 written at 007346 in one cycle: C5 on DO, 39 on DI
  pub word : pictures_of (event_of 0x0A 0x10 0x007346 0xC539) (answered 0 0xFF 0 0xC0 0x10 1 0xC539)
      ≡ line_of 0x00046680D1400 0x3801041DD720 0x0007E6CFFFFE0 0x3FF105FFFFE8
  -- and read again: the bytes on the same pins
  pub word_again : pictures_of (event_of 0x09 0x10 0x007346 0) (answered 0 0xFF 0 0xC0 0x01 1 0xC539)
      ≡ line_of 0x00046680D1420 0x380004DDD728 0x0007E6CFFFFE0 0x3FF105FFFFE8
  -- C539 written at 00AA8A in two: C5 and then 39, both on DO
  pub split : pictures_of (event_of 0x0A 0x10 0x00AA8A 0xC539) (answered 0 0xFF 0 0x80 0x10 2 0xC539)
      ≡ line_of 0x0004668351000 0x39010412B400 0x0007E6CFFF1E0 0x3FF105FFFC08 ++ line_of 0x0004668356000 0x3D010432A800 0x0007E6CFFF1E0 0x3FF105FFFC08
  -- and read again, on DI
  pub split_again : pictures_of (event_of 0x09 0x10 0x00AA8A 0) (answered 0 0xFF 0 0x80 0x01 2 0xC539)
      ≡ line_of 0x0004668340A20 0x390004D2A0A8 0x0007E6CFC8FE0 0x3FF105FFE3E8 ++ line_of 0x0004668340420 0x3D0004F2A328 0x0007E6CFC8FE0 0x3FF105FFE3E8
  -- the odd byte of these alone: as the second of the two lines
  pub read : pictures_of (event_of 0x06 0x10 0x00AA8B 0) (answered 0 0xFF 0 0 0x01 1 0x39) ≡ line_of 0x0004668340420 0x3D0004F2A328 0x0007E6CFC8FE0
      0x3FF105FFE3E8
  -- 5D written at 00C721, and fetched from there
  pub write : pictures_of (event_of 0x08 0x10 0x00C721 0x5D) (answered 0 0xFF 0 0 0x10 1 0x5D)
      ≡ line_of 0x000466895D000 0x3D0104215800 0x0007E6CFFF1E0 0x3FF105FFFC08
  pub fetch : pictures_of (event_of 0x07 0x10 0x00C721 0) (answered 0 0xFF 0 0 0x03 1 0x5D)
      ≡ line_of 0x0004668948D20 0x3D0004E142A8 0x0007E6CFC8FE0 0x3FF105FFE3E8
  -- AE put out at port E1, where MWRT stays false, and taken in again
  pub output : pictures_of (event_of 0x0C 0x10 0xE1 0xAE) (answered 0 0xFF 0 0 0x18 1 0xAE)
      ≡ line_of 0x0004668822080 0x3D0004261C00 0x0007E6CFFF1E0 0x3FF105FFFC08
  pub input : pictures_of (event_of 0x0B 0x10 0xE1 0) (answered 0 0xFF 0 0 0x04 1 0xAE)
      ≡ line_of 0x0004668800E40 0x3D0004E60148 0x0007E6CFC8FE0 0x3FF105FFE3E8
  -- card 10, owning the bus, reads 6B0D
  pub owned : pictures_of (event_of 0x09 10 0x003F5E 0) (answered 4 10 0 0xFF 0x01 1 0x6B0D)
      ≡ line_of 0x000400C6FBC20 0x380000DDA828 0x0007E6CFFFFE0 0x3FF105FFFFE8

-- ---- Read again

pub record Telling : Type 0 where
  pub idle : picture_in (take 50 idle_line) ≡ seen 0 0x00 0
  pub arbitration : picture_in (take 50 (line_of 0x0000668000000 0x090000800000 0x000466C000000 0x390105C00000)) ≡ seen 1 0x01 11
  -- one disable line alone, which no phase has: ADSB, SDSB, DODSB, CDSB
  pub adsb : picture_in (take 50 (line_of 0x0004628000000 0x390004800000 0x000466C000000 0x390105C00000)) ≡ seen 0xFF 0x04 0
  pub sdsb : picture_in (take 50 (line_of 0x0004268000000 0x390004800000 0x000466C000000 0x390105C00000)) ≡ seen 0xFF 0x08 0
  pub dodsb : picture_in (take 50 (line_of 0x0004648000000 0x390004800000 0x000466C000000 0x390105C00000)) ≡ seen 0xFF 0x10 0
  pub cdsb : picture_in (take 50 (line_of 0x0004468000000 0x390004800000 0x000466C000000 0x390105C00000)) ≡ seen 0xFF 0x20 0
  pub owned : picture_in (take 50 (line_of 0x000400C6FBC20 0x380000DDA828 0x0007E6CFFFFE0 0x3FF105FFFFE8)) ≡ seen 4 0xFF 0
  -- nothing driven: nothing true, although starred pins are low
  pub undriven : picture_in (replicate 50 0x30) ≡ seen 0 0x00 0
  -- everything driven and low: each starred signal is true, and no phase has them without pHLDA
  pub low : picture_in (replicate 25 0x30 ++ replicate 25 0x46) ≡ seen 0xFF 0xFD 15
  -- a digit less, one more, the newline; a small letter in the first column, a space in the last, and two, of which the first counts
  pub short : picture_in (replicate 49 0x30) ≡ unseen 0x0C 0
  pub long : picture_in (replicate 51 0x30) ≡ unseen 0x0C 0
  pub ended : picture_in idle_line ≡ unseen 0x0C 0
  pub first : picture_in (0x61 ∷ replicate 49 0x30) ≡ unseen 0x0D 1
  pub last : picture_in (replicate 49 0x30 ++ 0x20 ∷ []) ≡ unseen 0x0D 50
  pub two : picture_in (replicate 24 0x30 ++ 0x4F ∷ 0x61 ∷ replicate 24 0x30) ≡ unseen 0x0D 25
