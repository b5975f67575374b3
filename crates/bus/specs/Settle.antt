-- Settle: looks in list order until the lines are settled (01, "Looking and settling", "Refusals and their order").
use Rattle.std.specs.Prelude.{ℕ, suc, Bool, cond, not, List, [], ◌∷◌, ◌++◌, eqb, leb, length, take}
use Rattle.words.specs.Below.{all_below}
use Rattle.words.specs.Among.{every_listed}
use Rattle.words.specs.First.{Reason, reason, first_of, least_below}
use Rattle.phases.specs.Phase as Phase
use Rattle.bus.specs.Refusal as Refusal
use Rattle.cards.specs.Cards.{cards_within}
use Rattle.bus.specs.State.{is_settled}
use Rattle.bus.specs.Sense.{is_senseless}
use Rattle.bus.specs.Steps.{after_looks_of}
use Rattle.bus.specs.declared.state.Bus.{Bus}

-- ---- The looks

-- the lines are settled after the first n looks of the list; with n = 0, before any
unfoldable pub settled_after : Bus → List ℕ → ℕ → Bool
settled_after bus cards n = is_settled (after_looks_of bus (take n cards))

-- how many looks settle must take: the length of the shortest beginning of the list that does it
unfoldable pub leading_looks : Bus → List ℕ → ℕ
leading_looks bus cards = least_below (settled_after bus cards) (suc (length cards))

-- no beginning does it, and neither does the list as a whole
unfoldable pub never_settles : Bus → List ℕ → Bool
never_settles bus cards = all_below (λ n. not (settled_after bus cards n)) (suc (length cards))

-- ---- The refusals

-- 03: a number above 15
abbrev pub lists_no_card : List ℕ → Bool
lists_no_card cards = not (every_listed (λ card. leb card 15) cards)

-- 05: a card that isn't fitted
abbrev pub lists_unfitted : Bus → List ℕ → Bool
lists_unfitted bus cards = not (cards_within bus.fitted cards)

-- 06: outside arbitration
abbrev pub is_elsewhere : Bus → Bool
is_elsewhere bus = not (eqb bus.phase Phase.arbitration)

-- 07: a card that doesn't contend
abbrev pub lists_idle : Bus → List ℕ → Bool
lists_idle bus cards = not (cards_within bus.contenders cards)

-- what the state and the whole list are judged for before the first look, the lowest number first
abbrev pub list_reasons : Bus → List ℕ → List Reason
list_reasons bus cards =
    reason Refusal.senseless (is_senseless bus)
    ∷ reason Refusal.malformed (lists_no_card cards)
    ∷ reason Refusal.not_fitted (lists_unfitted bus cards)
    ∷ reason Refusal.wrong_phase (is_elsewhere bus)
    ∷ reason Refusal.not_its_turn (lists_idle bus cards)
    ∷ []

-- and what the looks are
abbrev pub settle_reasons : Bus → List ℕ → List Reason
settle_reasons bus cards = list_reasons bus cards ++ (reason Refusal.unsettled (never_settles bus cards) ∷ [])

unfoldable pub list_refusal : Bus → List ℕ → ℕ
list_refusal bus cards = first_of (list_reasons bus cards)

unfoldable pub settle_refusal : Bus → List ℕ → ℕ
settle_refusal bus cards = first_of (settle_reasons bus cards)

-- ---- The answer

-- the refusal, or 0 with the settled state and how many looks that took
pub record Settlement : Type 0 where
  pub answer : ℕ
  pub bus : Bus
  pub looks : ℕ

abbrev pub settle_refused : ℕ → Bus → Settlement
settle_refused number bus = record { answer = number; bus = bus; looks = 0 }

abbrev pub accepted_after : ℕ → Bus → List ℕ → Settlement
accepted_after n bus cards = record { answer = Refusal.accepted; bus = after_looks_of bus (take n cards); looks = n }

unfoldable pub settle_of : Bus → List ℕ → Settlement
settle_of bus cards =
    cond (eqb (settle_refusal bus cards) Refusal.accepted) (accepted_after (leading_looks bus cards) bus cards)
    (settle_refused (settle_refusal bus cards) bus)
