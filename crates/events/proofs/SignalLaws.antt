-- The signals of an answer fit a byte.
use Prim.Native.Nat.{ℕ, ◌+◌, ◌<◌, ◌≤◌}
use mathlib.Core.Bool.{Bool, true, false, cond}
use native.Mathlib.Omega.{arith}
use lib.Dec.{lit≤}
use Rattle.phases.specs.Kind as Kind
use Rattle.phases.specs.Signal.{signals_in}
use Rattle.phases.proofs.OnTheLines.{signals_most}
use Rattle.memory.specs.declared.Slave.{Slave}
use Rattle.memory.specs.Slave.{asserts_sixtn}
use Rattle.events.specs.Answers.{word_signals}

pub signals_fit : (phase kind : ℕ) (s : Slave) → signals_in phase + word_signals kind s < 256
unfolding word_signals
signals_fit phase kind s = omega (arith, signals_most phase, word (Kind.is_word kind) (asserts_sixtn s))
  where
    word : (b s : Bool) → cond b (0x80 + cond s 0x40 0) 0 ≤ 0xC0
    word true true = lit≤ tt
    word true false = lit≤ tt
    word false s = lit≤ tt
