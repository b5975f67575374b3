-- What is promised of the priority lines: once for any number w of lines, and then for the four of this bus. The proof of each stands in proofs/
-- under its name in lower case, with underscores: that of RoundsSettle is rounds_settle; where a definition has that name, `_holds` stands behind it.
use Rattle.std.specs.Prelude.{ℕ, ◌^◌, ◌<◌, ◌≤◌, ◌≡◌, ◌↔◌, Bool, true, false, cond, not, ◌&&◌, ◌||◌, leb, eqb, length, get_or}
use mathlib.Core.List.{List, [], ◌∷◌, ◌++◌, flatten}
use Rattle.words.specs.Bits.{bit_at}
use Rattle.words.specs.Below.{all_below}
use Rattle.lines.specs.Look.{look}
use Rattle.lines.specs.Arbitration.{
  Arbitration,
  by_number,
  four_lines,
  by_list,
  Contender,
  Highest,
  every_contender,
  shown,
  looked,
  settled,
  after_look,
  after_looks,
  is_round,
  are_rounds,
}

-- ---- What the definitions mean

-- A look, place by place: place k is driven exactly if the number has a one there and, at every place above k, the number has a one or the lines
-- show 0.
abbrev pub LookByPlace : Type 0
LookByPlace =
    (w number lines k : ℕ) → k < w
    → bit_at (look w number lines) k ≡ (bit_at number k && all_below (λ i. leb i k || (bit_at number i || not (bit_at lines i))) w)

-- And it drives nothing beyond the w places.
abbrev pub LookInRange : Type 0
LookInRange = (w number lines : ℕ) → look w number lines < 2 ^ w

-- A look in the list of levels: the looking contender's entry is what it drives now, and every other entry is what it was.
abbrev pub LookSetsOne : Type 0
LookSetsOne =
    (a : Arbitration) (levels : List ℕ) → length levels ≡ a.places → (p q : ℕ) → p < a.places
    → get_or (after_look a levels p) q 0 ≡ cond (a.contends p && eqb q p) (looked a levels p) (get_or levels q 0)

-- The lines, place by place: one shows 0 exactly if every contender leaves it at 0.
abbrev pub ShownByPlace : Type 0
ShownByPlace =
    (a : Arbitration) (levels : List ℕ) (k : ℕ)
    → not (bit_at (shown a levels) k) ≡ every_contender a (λ q. not (bit_at (get_or levels q 0) k))

-- What is asked of every contender, in settled and in a round, is asked of each of them and of nobody else.
abbrev pub EveryContender : Type 0
EveryContender = (a : Arbitration) (test : ℕ → Bool) → (every_contender a test ≡ true) ↔ ((q : ℕ) → Contender a q → test q ≡ true)

-- ---- What is asked of an arbitration and of the levels

-- the contenders' numbers are below 2 to the power w
abbrev pub NumbersFit : Arbitration → Type 0
NumbersFit a = (q : ℕ) → Contender a q → a.number q < 2 ^ a.width

-- no two contenders have the same number
abbrev pub Distinct : Arbitration → Type 0
Distinct a = (q r : ℕ) → Contender a q → Contender a r → a.number q ≡ a.number r → q ≡ r

-- there is a level for each place, and each contender's is below 2 to the power w; idle cards' levels are free
pub record InRange (a : Arbitration) (levels : List ℕ) : Type 0 where
  pub size : length levels ≡ a.places
  pub below : (q : ℕ) → Contender a q → get_or levels q 0 < 2 ^ a.width

-- Where a card's place is its number, the numbers fit and are distinct.
abbrev pub ByNumber : Type 0
ByNumber = (w : ℕ) (contends : ℕ → Bool) → NumbersFit (by_number w contends) × Distinct (by_number w contends)

-- ---- The highest contender

-- Where anyone contends there is a highest contender;
abbrev pub HighestExists : Type 0
HighestExists = (a : Arbitration) (q : ℕ) → Contender a q → (p : ℕ) × Highest a p

-- where the contenders' numbers are distinct, there is only one.
abbrev pub HighestUnique : Type 0
HighestUnique = (a : Arbitration) → Distinct a → (p q : ℕ) → Highest a p → Highest a q → p ≡ q

-- ---- Settling

-- the lines are settled, and show the number m
pub record SettledAt (a : Arbitration) (levels : List ℕ) (m : ℕ) : Type 0 where
  pub shows : shown a levels ≡ m
  pub still : settled a levels ≡ true

-- As many rounds as there are lines settle the lines at the highest contender's number, and any looks after them leave them so.
abbrev pub RoundsSettle : Type 0
RoundsSettle =
    (a : Arbitration) → NumbersFit a → (p : ℕ) → Highest a p → (levels : List ℕ) → InRange a levels
    → (rounds : List (List ℕ)) → length rounds ≡ a.width → are_rounds a rounds ≡ true → (after : List ℕ)
    → SettledAt a (after_looks a levels (flatten rounds ++ after)) (a.number p)

-- Where the lines are settled, looks no longer change any level.
abbrev pub SettledStays : Type 0
SettledStays =
    (a : Arbitration) (levels : List ℕ) → length levels ≡ a.places → settled a levels ≡ true
    → (looks : List ℕ) → after_looks a levels looks ≡ levels

-- ---- Settled levels

-- Settled lines show the highest contender's number.
abbrev pub SettledShowHighest : Type 0
SettledShowHighest =
    (a : Arbitration) → NumbersFit a → (p : ℕ) → Highest a p → (levels : List ℕ) → settled a levels ≡ true
    → shown a levels ≡ a.number p

-- Where card 0 alone contends, settled lines show 0: lines at 0 do not mean that nobody contends.
abbrev pub CardZeroAlone : Type 0
CardZeroAlone =
    (w : ℕ) (contends : ℕ → Bool) → contends 0 ≡ true → ((q : ℕ) → Contender (by_number w contends) q → q ≡ 0)
    → (levels : List ℕ) → settled (by_number w contends) levels ≡ true → shown (by_number w contends) levels ≡ 0

-- Each contender has at most one level at which the lines can be settled.
abbrev pub SettledLevelUnique : Type 0
SettledLevelUnique =
    (a : Arbitration) → NumbersFit a → (l m : List ℕ) → settled a l ≡ true → settled a m ≡ true
    → (q : ℕ) → Contender a q → get_or l q 0 ≡ get_or m q 0

-- So two settled lists in which the idle cards drive the same are the same list.
abbrev pub SettledListUnique : Type 0
SettledListUnique =
    (a : Arbitration) → NumbersFit a → (l m : List ℕ) → length l ≡ a.places → length m ≡ a.places
    → ((q : ℕ) → a.contends q ≡ false → get_or l q 0 ≡ get_or m q 0)
    → settled a l ≡ true → settled a m ≡ true → l ≡ m

-- ---- Bounds

-- Looks keep every contender's level below 2 to the power w,
abbrev pub LevelsInRange : Type 0
LevelsInRange = (a : Arbitration) (levels : List ℕ) → InRange a levels → (looks : List ℕ) → InRange a (after_looks a levels looks)

-- and then the lines are below it too.
abbrev pub LinesInRange : Type 0
LinesInRange = (a : Arbitration) (levels : List ℕ) → InRange a levels → shown a levels < 2 ^ a.width

-- ---- The same where a list names the contenders, for 02, CR 13; 01 has no such list

-- the numbers are below 2 to the power w, and no two are the same
pub record DistinctBelow (w : ℕ) (numbers : List ℕ) : Type 0 where
  pub below : (q : ℕ) → q < length numbers → get_or numbers q 0 < 2 ^ w
  pub distinct : (q r : ℕ) → q < length numbers → r < length numbers → get_or numbers q 0 ≡ get_or numbers r 0 → q ≡ r

-- Where the list is not empty, some position has the highest number,
abbrev pub ListedHighestExists : Type 0
ListedHighestExists = (w number : ℕ) (others : List ℕ) → (p : ℕ) × Highest (by_list w (number ∷ others)) p

-- and only one.
abbrev pub ListedHighestUnique : Type 0
ListedHighestUnique =
    (w : ℕ) (numbers : List ℕ) → DistinctBelow w numbers → (p q : ℕ) → Highest (by_list w numbers) p → Highest (by_list w numbers) q → p ≡ q

-- w rounds leave the lines settled at the highest number, which one position alone has.
abbrev pub ListedRoundsSettle : Type 0
ListedRoundsSettle =
    (w : ℕ) (numbers : List ℕ) → DistinctBelow w numbers → (p : ℕ) → Highest (by_list w numbers) p
    → (levels : List ℕ) → InRange (by_list w numbers) levels
    → (rounds : List (List ℕ)) → length rounds ≡ w → are_rounds (by_list w numbers) rounds ≡ true → (after : List ℕ)
    → SettledAt (by_list w numbers) (after_looks (by_list w numbers) levels (flatten rounds ++ after)) (get_or numbers p 0)
    × ((q : ℕ) → q < length numbers → get_or numbers q 0 ≡ get_or numbers p 0 → q ≡ p)

-- Settled lines show the highest number.
abbrev pub ListedShowHighest : Type 0
ListedShowHighest =
    (w : ℕ) (numbers : List ℕ) → DistinctBelow w numbers → (p : ℕ) → Highest (by_list w numbers) p
    → (levels : List ℕ) → settled (by_list w numbers) levels ≡ true → shown (by_list w numbers) levels ≡ get_or numbers p 0

-- Of the lists with a level for each position, at most one is settled.
abbrev pub ListedSettledUnique : Type 0
ListedSettledUnique =
    (w : ℕ) (numbers : List ℕ) → DistinctBelow w numbers → (l m : List ℕ) → length l ≡ length numbers → length m ≡ length numbers
    → settled (by_list w numbers) l ≡ true → settled (by_list w numbers) m ≡ true → l ≡ m

-- ---- The four lines of this bus, with the levels of its sixteen cards

-- Whatever levels four lines can hold at first, four rounds settle them at the number of the highest contender.
abbrev pub FourRoundsSettle : Type 0
FourRoundsSettle =
    (contends : ℕ → Bool) (m : ℕ) → Highest (four_lines contends) m
    → (levels : List ℕ) → length levels ≡ 16 → ((q : ℕ) → q < 16 → contends q ≡ true → get_or levels q 0 ≤ 15)
    → (r₁ r₂ r₃ r₄ : List ℕ) → is_round (four_lines contends) r₁ ≡ true → is_round (four_lines contends) r₂ ≡ true
    → is_round (four_lines contends) r₃ ≡ true → is_round (four_lines contends) r₄ ≡ true → (after : List ℕ)
    → SettledAt (four_lines contends) (after_looks (four_lines contends) levels (flatten (r₁ ∷ r₂ ∷ r₃ ∷ r₄ ∷ []) ++ after)) m

-- There is one highest contender at most, since a card's place is its number.
abbrev pub FourHighestUnique : Type 0
FourHighestUnique = (contends : ℕ → Bool) (p q : ℕ) → Highest (four_lines contends) p → Highest (four_lines contends) q → p ≡ q
