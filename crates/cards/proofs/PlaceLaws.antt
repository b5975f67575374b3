-- A look, one place down: what the card does at the highest of the p places that are left.
use Prim.Native.Nat.{ℕ, suc, ◌+◌, ◌-◌, ◌*◌, ◌^◌, ◌/◌, ◌%◌, ◌<◌, ◌≤◌}
use mathlib.Core.Path.{◌≡◌, ◌∙◌, ap}
use mathlib.Core.Bool.{cond}
use native.Mathlib.Omega.{arith}
use borrow.Author.Tests.{eq-eqb, ne_eqb}
use Rattle.words.specs.Bits.{bit_at}
use Rattle.lines.specs.Look.{look}

module _ (p n l : ℕ) (some : 0 < p) where
  pub place_weight : 2 ^ p ≡ 2 * 2 ^ (p - 1)
  place_weight = let e : p ≡ suc (p - 1) = omega arith in ap (λ (x : ℕ). 2 ^ x) e ∙ omega arith

  look_down : look p n l ≡ cond (bit_at n (p - 1)) (2 ^ (p - 1) + look (p - 1) n l) (cond (bit_at l (p - 1)) 0 (look (p - 1) n l))
  unfolding look
  look_down = let e : p ≡ suc (p - 1) = omega arith in ap (λ (x : ℕ). look x n l) e

  -- its number has a one there
  pub look_drives : n / 2 ^ (p - 1) % 2 ≡ 1 → look p n l ≡ 2 ^ (p - 1) + look (p - 1) n l
  look_drives one = look_down ∙ rw (eq-eqb _ _ one)

  -- its number has none, and the lines show 1
  pub look_stops : (n / 2 ^ (p - 1) % 2 ≡ 1 → ⊥) → l / 2 ^ (p - 1) % 2 ≡ 1 → look p n l ≡ 0
  look_stops none shows = look_down ∙ rw (ne_eqb _ _ none, eq-eqb _ _ shows)

  -- its number has none, and the lines show 0
  pub look_passes : (n / 2 ^ (p - 1) % 2 ≡ 1 → ⊥) → (l / 2 ^ (p - 1) % 2 ≡ 1 → ⊥) → look p n l ≡ look (p - 1) n l
  look_passes none dark = look_down ∙ rw (ne_eqb _ _ none, ne_eqb _ _ dark)

-- no place is left
pub look_ends : (p n l : ℕ) → p ≤ 0 → look p n l ≡ 0
unfolding look
look_ends p n l none = let e : p ≡ 0 = omega arith in ap (λ (x : ℕ). look x n l) e

pub ruleset one_place_down = (place_weight, look_drives, look_stops, look_passes, look_ends)
