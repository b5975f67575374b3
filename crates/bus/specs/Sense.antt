-- When a state makes sense (01, "State and phases").
use Rattle.std.specs.Prelude.{ℕ, Bool, cond, not, ◌&&◌, List, eqb, leb, length, get_or}
use Rattle.words.specs.Below.{all_below}
use Rattle.words.specs.Among.{every_listed}
use Rattle.phases.specs.Phase as Phase
use Rattle.cards.specs.Cards.{card_in, some_card, is_within}
use Rattle.bus.specs.State.{nobody, chassis_of}
use Rattle.bus.specs.declared.state.Bus.{Bus}
use Rattle.bus.specs.declared.state.Chassis.{Chassis}

-- ---- The chassis

-- every page has one of the codes 0, 1 and 2
abbrev pub pages_known : List ℕ → Bool
pages_known pages = every_listed (λ code. leb code 2) pages

-- every code is one that there is: what setup asks
abbrev pub codes_known : Chassis → Bool
codes_known chassis = pages_known chassis.pages

-- and there is one for each page; in code an array of sixteen has them, so there this always holds
abbrev pub chassis_fits : Chassis → Bool
chassis_fits chassis = eqb (length chassis.pages) 16 && codes_known chassis

-- ---- What the events change

-- only fitted cards contend; in arbitration someone does, and otherwise nobody
abbrev pub contention_fits : Bus → Bool
contention_fits bus =
    is_within bus.contenders bus.fitted
    && cond (eqb bus.phase Phase.arbitration) (some_card bus.contenders) (not (some_card bus.contenders))

-- of the sixteen cards contenders drive what four lines can show, and the others nothing
unfoldable pub driving_fits : ℕ → List ℕ → Bool
driving_fits contenders driven =
    eqb (length driven) 16
    && all_below (λ n. cond (card_in contenders n) (leb (get_or driven n 0) 15) (eqb (get_or driven n 0) 0)) 16

-- from the grant to the end of transfer two a fitted card is granted, and in the other phases nobody is
abbrev pub grant_fits : Bus → Bool
grant_fits bus = cond (Phase.is_granted bus.phase) (card_in bus.fitted bus.granted) (eqb bus.granted nobody)

-- these four do not look at the pages
unfoldable pub standing_fits : Bus → Bool
standing_fits bus = Phase.is_known bus.phase && contention_fits bus && driving_fits bus.contenders bus.driven && grant_fits bus

-- ---- All of it

unfoldable pub makes_sense : Bus → Bool
makes_sense bus = chassis_fits (chassis_of bus) && standing_fits bus

-- 02, in every call that is given a state
abbrev pub is_senseless : Bus → Bool
is_senseless bus = not (makes_sense bus)
