-- A number read by its binary places: place k weighs 2 to the power k.
use Rattle.std.specs.Prelude.{ℕ, ◌/◌, ◌%◌, ◌^◌, Bool, eqb}

-- the number n has a one at place k
abbrev pub bit_at : ℕ → ℕ → Bool
bit_at n k = eqb (n / 2 ^ k % 2) 1
