-- What the kinds move that are no cycle.
use Prim.Native.Nat.{ℕ}
use mathlib.Core.Path.{◌≡◌, refl, sym}
use mathlib.Core.Bool.{true, false}
use mathlib.Core.List.{List}
use Rattle.words.specs.Among.{beside, every_row}
use Rattle.words.proofs.RowLaws.{no_row_beside, rows_only}
use Rattle.memory.specs.declared.Slave.{Slave}
use Rattle.memory.specs.Cycles.{nothing}
use Rattle.judgement.specs.Table.{is_cycle}
use Rattle.judgement.specs.declared.event.Event.{Event}
use Rattle.events.specs.Cycles.{cycle_moves, moved_by, memory_writes, memory_left, port_writes, ports_left}

-- nothing is moved, and every byte stays
pub no_cycle : (s : Slave) (event : Event) (memory ports : List ℕ) → is_cycle event.kind ≡ false
    → (nothing ≡ moved_by s event memory ports) × ((memory ≡ memory_left s event memory) × (ports ≡ ports_left event ports))
unfolding every_row beside
no_cycle s event memory ports other =
    (same (cycle_moves s event memory ports) nothing refl, (same (memory_writes s event memory) memory refl, same (port_writes event ports) ports refl))
  where
    -- the kinds of all rows are cycles
    same : {A : Type 0} (rows : List (ℕ × A)) (kept : A) → every_row (λ kind row. is_cycle kind) rows ≡ true → kept ≡ beside event.kind rows kept
    same rows kept all = sym (no_row_beside event.kind rows kept (rows_only is_cycle rows all event.kind other))
