-- Runs of looks on the four lines, with what the lines show after them: three rounds that fall short (01, "Marked for proof", M1 to M4), and cards alone.
use Rattle.std.specs.Prelude.{ℕ, ◌≡◌, true, false, eqb, get_or, replicate}
use mathlib.Core.List.{List, [], ◌∷◌, flatten}
use Rattle.words.specs.Among.{is_among}
use Rattle.lines.specs.Arbitration.{Arbitration, four_lines, by_list, Highest, shown, settled, after_looks, is_round, are_rounds}
use Rattle.lines.specs.Promises.{InRange, SettledAt}

-- ---- Cards 4, 9 and 10 contend, nobody drives at first, and they look in a bad order.

abbrev pub four_nine_ten : Arbitration
four_nine_ten = four_lines (λ n. is_among n (4 ∷ 9 ∷ 10 ∷ []))

abbrev pub silent : List ℕ
silent = replicate 16 0

abbrev pub round₁ : List ℕ
round₁ = 4 ∷ 9 ∷ 10 ∷ []

abbrev pub round₂ : List ℕ
round₂ = 9 ∷ 10 ∷ 4 ∷ []

abbrev pub three_rounds : List (List ℕ)
three_rounds = round₁ ∷ round₂ ∷ round₂ ∷ []

abbrev pub levels_after : List (List ℕ) → List ℕ
levels_after rounds = after_looks four_nine_ten silent (flatten rounds)

pub record ThreeRoundsFallShort : Type 0 where
  -- all that settling asks for, except a fourth round
  pub highest : Highest four_nine_ten 10
  pub start : InRange four_nine_ten silent
  pub rounds : are_rounds four_nine_ten three_rounds ≡ true
  -- the lines after one, two and three rounds
  pub one : shown four_nine_ten (levels_after (round₁ ∷ [])) ≡ 12
  pub two : shown four_nine_ten (levels_after (round₁ ∷ round₂ ∷ [])) ≡ 8
  pub three : shown four_nine_ten (levels_after three_rounds) ≡ 11
  -- what they show now is no contender's number
  pub nobody_has_it : four_nine_ten.contends (shown four_nine_ten (levels_after three_rounds)) ≡ false
  pub unsettled : settled four_nine_ten (levels_after three_rounds) ≡ false
  -- and the fourth round settles them
  pub fourth : SettledAt four_nine_ten (after_looks four_nine_ten (levels_after three_rounds) round₂) 10
  -- a round may hold looks of idle cards, repeated looks and looks from places that are not there, and may not leave a contender out
  pub further : is_round four_nine_ten (7 ∷ 9 ∷ 9 ∷ 10 ∷ 4 ∷ 16 ∷ []) ≡ true
  pub too_few : is_round four_nine_ten (9 ∷ 10 ∷ 9 ∷ []) ≡ false

-- ---- The same cards as a list: 10, 9 and 4 stand and look at positions 0, 1 and 2.

abbrev pub three_listed : Arbitration
three_listed = by_list 4 (10 ∷ 9 ∷ 4 ∷ [])

abbrev pub listed_after : List (List ℕ) → List ℕ
listed_after rounds = after_looks three_listed (0 ∷ 0 ∷ 0 ∷ []) (flatten rounds)

pub record ThreeListed : Type 0 where
  pub highest : Highest three_listed 0
  pub one : shown three_listed (listed_after ((2 ∷ 1 ∷ 0 ∷ []) ∷ [])) ≡ 12
  pub three : shown three_listed (listed_after ((2 ∷ 1 ∷ 0 ∷ []) ∷ (1 ∷ 0 ∷ 2 ∷ []) ∷ (1 ∷ 0 ∷ 2 ∷ []) ∷ [])) ≡ 11
  pub fourth : SettledAt three_listed (listed_after ((2 ∷ 1 ∷ 0 ∷ []) ∷ (1 ∷ 0 ∷ 2 ∷ []) ∷ (1 ∷ 0 ∷ 2 ∷ []) ∷ (1 ∷ 0 ∷ 2 ∷ []) ∷ [])) 10

-- ---- One card alone contends.

abbrev pub alone : ℕ → Arbitration
alone card = four_lines (λ n. eqb n card)

pub record LoneCard : Type 0 where
  -- card 0's silent lines are settled as they are, and card 10 drives its whole number at silent lines
  pub card_zero : SettledAt (alone 0) silent 0
  pub whole : SettledAt (alone 10) (after_looks (alone 10) silent (10 ∷ [])) 10
  -- driving 2, which it should not, card 1 takes that 2 for a higher card's: its first look silences it, its second brings its number
  pub stray_once : get_or (after_looks (alone 1) (0 ∷ 2 ∷ replicate 14 0) (1 ∷ [])) 1 0 ≡ 0
  pub stray_twice : SettledAt (alone 1) (after_looks (alone 1) (0 ∷ 2 ∷ replicate 14 0) (1 ∷ 1 ∷ [])) 1
  -- what an idle card drives is on no line, its look changes nothing, and it is not the highest contender
  pub idle : SettledAt (alone 1) (0 ∷ 1 ∷ 12 ∷ replicate 13 0) 1
  pub idle_looks : after_looks (alone 1) silent (2 ∷ []) ≡ silent
  pub idle_loses : Highest (alone 1) 2 → ⊥
