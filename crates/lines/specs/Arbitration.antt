-- One arbitration: who contends, what the lines show, looks and rounds of looks, and when the lines are settled (000, 2.8.3; 01, "Looking and
-- settling"). What the cards drive is a list of levels, with each card's level at the card's place.
use Rattle.std.specs.Prelude.{ℕ, ◌^◌, ◌<◌, ◌≤◌, ◌≡◌, Bool, true, cond, not, ◌&&◌, ◌||◌, List, [], ◌∷◌, eqb, length, get_or, set}
use Rattle.words.specs.Below.{all_below, or_below}
use Rattle.words.specs.Among.{is_among}
use Rattle.lines.specs.Look.{look}

-- ---- Who contends

-- What stays as it is during one arbitration.
pub record Arbitration : Type 0 where
  -- how many priority lines the bus has
  pub width : ℕ
  -- how many places it has for cards; a card is spoken of by its place
  pub places : ℕ
  -- the priority number of the card at a place
  pub number : ℕ → ℕ
  -- whether the card at a place contends
  pub contends : ℕ → Bool

-- as on this bus: a card for each number that w lines can show, and its number is its place
abbrev pub by_number : ℕ → (ℕ → Bool) → Arbitration
by_number w contends = record { width = w; places = 2 ^ w; number = λ n. n; contends = contends }

-- this bus: four lines, up to sixteen cards (000, 2.2.7.1 and 2.8.3)
abbrev pub four_lines : (ℕ → Bool) → Arbitration
four_lines contends = by_number 4 contends

-- the contenders alone, given as the list of their numbers; levels and looks go by the position in this list
abbrev pub by_list : ℕ → List ℕ → Arbitration
by_list w numbers = record { width = w; places = length numbers; number = λ q. get_or numbers q 0; contends = λ q. true }

-- the card at place q contends
pub record Contender (a : Arbitration) (q : ℕ) : Type 0 where
  pub present : q < a.places
  pub contending : a.contends q ≡ true

-- the card at place p contends, and no contender has a higher number
pub record Highest (a : Arbitration) (p : ℕ) : Type 0 where
  pub contender : Contender a p
  pub top : (q : ℕ) → Contender a q → a.number q ≤ a.number p

-- the test holds of every contender
unfoldable pub every_contender : Arbitration → (ℕ → Bool) → Bool
every_contender a test = all_below (λ q. not (a.contends q) || test q) a.places

-- ---- The lines, and looks at them

-- what the lines show: a place is 1 where some contender drives it
unfoldable pub shown : Arbitration → List ℕ → ℕ
shown a levels = or_below (λ q. cond (a.contends q) (get_or levels q 0) 0) a.places

-- what the card at place q drives after a look at the lines, its own bits on them among the rest
unfoldable pub looked : Arbitration → List ℕ → ℕ → ℕ
looked a levels q = look a.width (a.number q) (shown a levels)

-- settled: whichever contender looked now would go on driving what it drives
unfoldable pub settled : Arbitration → List ℕ → Bool
settled a levels = every_contender a (λ q. eqb (looked a levels q) (get_or levels q 0))

-- the levels after a look of the card at place q; the look of a card that doesn't contend changes none
unfoldable pub after_look : Arbitration → List ℕ → ℕ → List ℕ
after_look a levels q = cond (a.contends q) (set levels q (looked a levels q)) levels

-- the levels after looks, one after another
unfoldable pub after_looks : Arbitration → List ℕ → List ℕ → List ℕ
after_looks a levels [] = levels
after_looks a levels (q ∷ looks) = after_looks a (after_look a levels q) looks

-- a round: looks among which each contender has at least one, in any order, with any others before, between and after
unfoldable pub is_round : Arbitration → List ℕ → Bool
is_round a looks = every_contender a (λ q. is_among q looks)

-- each of these lists of looks is a round
unfoldable pub are_rounds : Arbitration → List (List ℕ) → Bool
are_rounds a [] = true
are_rounds a (looks ∷ rounds) = is_round a looks && are_rounds a rounds
