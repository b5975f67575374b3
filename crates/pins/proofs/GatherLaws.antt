-- What is gathered from the pins of a picture comes from those that have a weight.
use mathlib.Core.Path.{◌≡◌, refl, ap, ◌∙◌}
use mathlib.Core.Bool.{Bool, true, false, cond}
use mathlib.Core.List.{List, [], ◌∷◌}
use Prim.Native.Nat.{ℕ, ◌+◌}
use native.Mathlib.Omega.{arith}
use lib.Dec.{eqb}
use borrow.Author.Tests.{eqb-true}
use Rattle.words.proofs.TestLaws.{cond_same}
use Rattle.phases.specs.Signal.{HOLD, pHLDA, ADSB, SDSB, DODSB, CDSB, SIXTN, sXTRQ}
use Rattle.pins.specs.BusLine.{BusLine}
use Rattle.pins.specs.Pin.{Pin, pin_table}
use Rattle.pins.specs.ReadAgain.{true_on, signal_on, priority_on, gathered, signals_on, priority_lines_on}

-- the rows whose lines have a weight
unfoldable pub weighing : (BusLine → ℕ) → List (ℕ × Pin) → List (ℕ × Pin)
weighing weigh [] = []
weighing weigh (row ∷ rows) = cond (eqb (weigh row.1.line) 0) (weighing weigh rows) (row ∷ weighing weigh rows)

pub gathered_weighing : (weigh : BusLine → ℕ) (line : List ℕ) (rows : List (ℕ × Pin)) → gathered weigh line rows ≡ gathered weigh line (weighing weigh rows)
unfolding gathered weighing
gathered_weighing weigh line [] = refl
gathered_weighing weigh line (row ∷ rows) = go (eqb (weigh row.1.line) 0) refl (gathered_weighing weigh line rows)
  where
    on : Bool
    on = true_on line row.0 row.1.is_starred

    nothing : weigh row.1.line ≡ 0 → cond on (weigh row.1.line) 0 + gathered weigh line rows ≡ gathered weigh line rows
    nothing none = ap (λ (n : ℕ). n + gathered weigh line rows) (ap (λ (n : ℕ). cond on n 0) none ∙ cond_same on 0) ∙ omega arith

    go : (b : Bool) → eqb (weigh row.1.line) 0 ≡ b → gathered weigh line rows ≡ gathered weigh line (weighing weigh rows)
        → cond on (weigh row.1.line) 0 + gathered weigh line rows ≡ gathered weigh line (cond b (weighing weigh rows) (row ∷ weighing weigh rows))
    go true e later = nothing (eqb-true (weigh row.1.line) 0 e) ∙ later
    go false e later = ap (λ (n : ℕ). cond on (weigh row.1.line) 0 + n) later

-- ---- The pins that tell the signals, and those of the priority lines, in their order

pub signals_in_order : (line : List ℕ) → signals_on line
    ≡ cond (true_on line 18 true) SDSB 0
    + (cond (true_on line 19 true) CDSB 0
    + (cond (true_on line 22 true) ADSB 0
    + (cond (true_on line 23 true) DODSB 0
    + (cond (true_on line 26 false) pHLDA 0
    + (cond (true_on line 58 true) sXTRQ 0 + (cond (true_on line 60 true) SIXTN 0 + (cond (true_on line 74 true) HOLD 0 + 0)))))))
unfolding gathered weighing pin_table
signals_in_order line = gathered_weighing signal_on line pin_table

pub lines_in_order : (line : List ℕ) → priority_lines_on line
    ≡ cond (true_on line 14 true) 8 0 + (cond (true_on line 55 true) 1 0 + (cond (true_on line 56 true) 2 0 + (cond (true_on line 57 true) 4 0 + 0)))
unfolding gathered weighing pin_table
lines_in_order line = gathered_weighing priority_on line pin_table
