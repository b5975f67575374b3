-- What a cycle event moved: the datum, and how many bus cycles that took. Where nothing was moved both are 0.
use Rattle.std.specs.Prelude.{ℕ}

pub record Moved : Type 0 where
  pub datum : ℕ
  pub cycles : ℕ
