-- What one byte cycle moved: a byte, in one cycle at most, so that two of them fit one datum; and something, where there is such a byte.
use mathlib.Core.Path.{◌≡◌, sym, ap, subst}
use mathlib.Core.Bool.{Bool, true, false, cond}
use mathlib.Core.List.{List}
use Prim.Native.Nat.{ℕ, ◌<◌}
use native.Mathlib.Omega.{arith}
use lib.Dec.{ltb, lit<}
use lib.ListN.{length, get_or}
use borrow.Author.Tests.{lt-ltb}
use Rattle.memory.specs.Moved.{Moved}
use Rattle.memory.specs.Cycles.{in_one_cycle, nothing, byte_read, byte_write}

pub record OneByte (r : Moved) : Type 0 where
  pub datum : r.datum < 256
  pub cycles : r.cycles < 2

either : (t : Bool) (b : ℕ) → b < 256 → OneByte (cond t (in_one_cycle b) nothing)
either true b h = record { datum = h; cycles = lit< tt }
either false b h = record { datum = lit< tt; cycles = lit< tt }

pub byte_read_one : (m : List ℕ) (a : ℕ) (r : Moved) → r ≡ byte_read m a → get_or m a 0 < 256 → OneByte r
unfolding byte_read
byte_read_one m a r e h = subst OneByte (sym e) (either (ltb a (length m)) (get_or m a 0) h)

pub byte_write_one : (m : List ℕ) (a b : ℕ) (r : Moved) → r ≡ byte_write m a b → b < 256 → OneByte r
unfolding byte_write
byte_write_one m a b r e h = subst OneByte (sym e) (either (ltb a (length m)) b h)

-- a cycle that took place is none that didn't
some_moved : (datum : ℕ) → nothing ≡ in_one_cycle datum → ⊥
some_moved datum none = omega (arith, ap (λ (r : Moved). r.cycles) none)

pub byte_read_some : (m : List ℕ) (a : ℕ) → a < length m → nothing ≡ byte_read m a → ⊥
unfolding byte_read
byte_read_some m a h none = some_moved _ (rw (lt-ltb a (length m) h) at none)

pub byte_write_some : (m : List ℕ) (a b : ℕ) → a < length m → nothing ≡ byte_write m a b → ⊥
unfolding byte_write
byte_write_some m a b h none = some_moved _ (rw (lt-ltb a (length m) h) at none)
