-- What each method hands back: its step where that may be taken, and else the state as given. Whether the state makes sense is not asked here
-- (01, "Events", "Looking and settling").
use Rattle.std.specs.Prelude.{ℕ, Bool, cond, ◌&&◌, List, [], ◌∷◌, eqb, set}
use Rattle.lines.specs.Arbitration.{looked}
use Rattle.phases.specs.Phase as Phase
use Rattle.cards.specs.Cards.{card_in, some_card, is_within}
use Rattle.bus.specs.State.{changed, silent, nobody, arbitration_of, lines_of, is_settled}
use Rattle.bus.specs.declared.state.Bus.{Bus}

-- ---- Asking for the bus

-- the bus is free, and some cards are named, all of them fitted
abbrev pub may_request : Bus → ℕ → Bool
may_request bus cards = eqb bus.phase Phase.free && some_card cards && is_within cards bus.fitted

-- then those cards contend, and start with nothing on the lines
abbrev pub requested : Bus → ℕ → Bus
requested bus cards = cond (may_request bus cards) (changed bus Phase.arbitration cards silent bus.granted) bus

-- the cards arbitrate, and this one contends
abbrev pub may_look : Bus → ℕ → Bool
may_look bus card = eqb bus.phase Phase.arbitration && card_in bus.contenders card

-- its look sets what it drives, the lines with its own bits on them deciding
abbrev pub looked_by : Bus → ℕ → Bus
looked_by bus card =
    cond (may_look bus card)
    (changed bus bus.phase bus.contenders (set bus.driven card (looked (arbitration_of bus) bus.driven card)) bus.granted)
    bus

-- looks one after another
unfoldable pub after_looks_of : Bus → List ℕ → Bus
after_looks_of bus [] = bus
after_looks_of bus (card ∷ cards) = after_looks_of (looked_by bus card) cards

-- somebody contends, and the lines are settled
abbrev pub may_acknowledge : Bus → Bool
may_acknowledge bus = eqb bus.phase Phase.arbitration && some_card bus.contenders && is_settled bus

-- the lines name the card that is granted; nobody contends any more, nor drives them (house)
abbrev pub acknowledged : Bus → Bus
acknowledged bus = cond (may_acknowledge bus) (changed bus Phase.granted 0 silent (lines_of bus)) bus

-- ---- Handing the bus over and back

-- this card is the granted one, in this phase
abbrev pub may_transfer : Bus → ℕ → ℕ → Bool
may_transfer bus from card = eqb bus.phase from && eqb bus.granted card

-- its step leads to another phase
abbrev pub transferred : Bus → ℕ → ℕ → ℕ → Bus
transferred bus from to card = cond (may_transfer bus from card) (changed bus to bus.contenders bus.driven bus.granted) bus

abbrev pub transfer_one_begun : Bus → ℕ → Bus
transfer_one_begun bus card = transferred bus Phase.granted Phase.transfer_one card

abbrev pub bus_taken : Bus → ℕ → Bus
bus_taken bus card = transferred bus Phase.transfer_one Phase.owned card

abbrev pub transfer_two_begun : Bus → ℕ → Bus
transfer_two_begun bus card = transferred bus Phase.owned Phase.transfer_two card

-- pHLDA ends here too (house), so the bus is free, and no card's
abbrev pub given_back : Bus → ℕ → Bus
given_back bus card = cond (may_transfer bus Phase.transfer_two card) (changed bus Phase.free bus.contenders bus.driven nobody) bus

-- ---- Reset

-- from any state: fitted cards and pages stay, contention and grant end
abbrev pub reset_to : Bus → Bus
reset_to bus = changed bus Phase.free 0 silent nobody
