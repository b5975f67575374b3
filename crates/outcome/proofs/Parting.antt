-- Two numbers, place by place from the top: where the lower has 0 and the higher 1 for the first time, they agree at every place above.
use Prim.Native.Nat.{ℕ, zero, suc, ◌+◌, ◌%◌, ◌^◌, ◌<◌}
use mathlib.Core.Path.{◌≡◌, refl, sym, subst, ◌∙◌}
use mathlib.Core.Bool.{Bool, true, false, cond, not, ◌&&◌}
use native.Mathlib.Nat.{mod-lt, le_refl}
use native.Mathlib.Decide.{dec_lt}
use native.Mathlib.Omega.{arith}
use lib.Pow.{pow_pos}
use Rattle.words.specs.Bits.{bit_at}
use Rattle.words.specs.First.{highest_below}
use Rattle.words.proofs.BitLaws.{low_suc}
use Rattle.words.proofs.FirstLaws.{highest_of_none}
use Rattle.outcome.specs.Losing.{is_outbid_at}

-- at place k the numbers part, n with 0 and m with 1, and above it they are alike
pub record PartAt (w n m k : ℕ) : Type 0 where
  pub within : k < w
  pub lacks : bit_at n k ≡ false
  pub one : bit_at m k ≡ true
  pub alike : (j : ℕ) → k < j → j < w → bit_at n j ≡ bit_at m j

-- one place more on top, at which they are alike
part_below : (w n m k : ℕ) → bit_at n w ≡ bit_at m w → PartAt w n m k → PartAt (suc w) n m k
part_below w n m k same p = record {
  within = omega (arith, p.within);
  lacks = p.lacks;
  one = p.one;
  alike = λ j l h. at j l h (dec_lt j w);
}
  where
    at : (j : ℕ) → k < j → j < suc w → Dec (j < w) → bit_at n j ≡ bit_at m j
    at j l h (yes less) = p.alike j l less
    at j l h (no top) = let here : j ≡ w = omega arith in subst (λ (x : ℕ). bit_at n x ≡ bit_at m x) (sym here) same

pub part_at : (w n m other : ℕ) → n % 2 ^ w < m % 2 ^ w → PartAt w n m (highest_below (is_outbid_at n m) w other)
unfolding highest_below
part_at zero n m other h = absurd (omega (arith, h))
part_at (suc w) n m other h = go (bit_at n w) (bit_at m w) refl refl (low_suc n w) (low_suc m w) (part_at w n m other)
  where
    below : ℕ
    below = highest_below (is_outbid_at n m) w other

    go : (b c : Bool) → bit_at n w ≡ b → bit_at m w ≡ c
        → n % 2 ^ suc w ≡ cond (bit_at n w) (2 ^ w + n % 2 ^ w) (n % 2 ^ w)
        → m % 2 ^ suc w ≡ cond (bit_at m w) (2 ^ w + m % 2 ^ w) (m % 2 ^ w)
        → (n % 2 ^ w < m % 2 ^ w → PartAt w n m below)
        → PartAt (suc w) n m (cond (not (bit_at n w) && bit_at m w) w below)
    go true true nb mc en em rest = rw nb (part_below w n m below (nb ∙ sym mc) (rest (omega (arith, h, rw nb at en, rw mc at em))))
    go false false nb mc en em rest = rw (nb, mc) (part_below w n m below (nb ∙ sym mc) (rest (omega (arith, h, rw nb at en, rw mc at em))))
    go true false nb mc en em rest = absurd (omega (arith, h, rw nb at en, rw mc at em, mod-lt m (pow_pos w)))
    go false true nb mc en em rest =
        rw (nb, mc) record { within = le_refl (suc w); lacks = nb; one = mc; alike = λ j l k. absurd (omega arith) }

-- and from itself no number parts
pub never_parts : (w n other : ℕ) → highest_below (is_outbid_at n n) w other ≡ other
never_parts w n other = highest_of_none (is_outbid_at n n) w other (λ k h. alike (bit_at n k))
  where
    alike : (b : Bool) → (not b && b) ≡ false
    alike true = refl
    alike false = refl
