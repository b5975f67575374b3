-- The laws of what is asked of, gathered from or listed for all numbers below a bound: one entry out of all, all from each, and what the OR of many
-- numbers is.
use mathlib.Core.Path.{◌≡◌, refl, sym, ap, ap₂, ◌∙◌}
use mathlib.Core.Logic.{◌⊎◌, ⊎_elim}
use mathlib.Core.Bool.{Bool, true, false, not, cond, ◌&&◌, ◌||◌, and-eq-true_iff, true≢false}
use Prim.Native.Nat.{ℕ, zero, suc, ◌+◌, ◌-◌, ◌/◌, ◌^◌, ◌<◌, ◌≤◌}
use native.Mathlib.Nat.{not-suc-le-zero, le_antisymm, le_of_suc-le-suc, eq-or-lt_of_le, le_step, lt-suc_self}
use native.Mathlib.Numerals.{add-one}
use native.Mathlib.Omega.{arith}
use lib.Dec.{eqb}
use lib.ListN.{length, get_or}
use lib.Pow.{pow_pos}
use lib.Bits.{bit_or, or_shr, or_lt, or_comm, or_zero_r}
use borrow.Author.Tests.{eqb-true}
use Rattle.words.specs.Bits.{bit_at}
use Rattle.words.specs.Below.{all_below, or_below, list_below}
use Rattle.words.proofs.BitLaws.{bit_above, bit_or_holds, bit_or_assoc}

-- a number below n + 1 is n or below it
pub last_or_below : {k n : ℕ} → k < suc n → (k ≡ n) ⊎ (k < n)
last_or_below h = eq-or-lt_of_le (le_of_suc-le-suc h)

module _ (test : ℕ → Bool) where
  pub all_at : (n : ℕ) → all_below test n ≡ true → (k : ℕ) → k < n → test k ≡ true
  unfolding all_below
  all_at zero e k h = absurd (not-suc-le-zero h)
  all_at (suc n) e k h =
      let parts = (and-eq-true_iff (all_below test n) (test n)).0 e in
      ⊎_elim (λ (q : k ≡ n). ap test q ∙ parts.1) (λ l. all_at n parts.0 k l) (last_or_below h)

  pub all_of : (n : ℕ) → ((k : ℕ) → k < n → test k ≡ true) → all_below test n ≡ true
  unfolding all_below
  all_of zero each = refl
  all_of (suc n) each =
      (and-eq-true_iff (all_below test n) (test n)).1 (all_of n (λ k h. each k (le_step h)), each n (lt-suc_self n))

-- where not all pass, one does not
pub some_not : (test : ℕ → Bool) (n : ℕ) → all_below test n ≡ false → (k : ℕ) × ((k < n) × (test k ≡ false))
unfolding all_below
some_not test zero e = absurd (true≢false e)
some_not test (suc n) e = go (all_below test n) (some_not test n) e
  where
    go : (b : Bool) → (b ≡ false → (k : ℕ) × ((k < n) × (test k ≡ false))) → (b && test n) ≡ false → (k : ℕ) × ((k < suc n) × (test k ≡ false))
    go true below f = (n, (lt-suc_self n, f))
    go false below f = let found = below refl in (found.0, (le_step found.1.0, found.1.1))

-- Going through the numbers in order, as a loop does: at first nothing is asked; what is found so far, with the next one, is what is found one
-- further; and what is found when the bound has been reached is found of all.
pub all_start : (test : ℕ → Bool) → true ≡ all_below test 0
unfolding all_below
all_start test = refl

pub or_start : (f : ℕ → ℕ) → 0 ≡ or_below f 0
unfolding or_below
or_start f = refl

pub all_next : (test : ℕ → Bool) (n : ℕ) {ok passes : Bool} → ok ≡ all_below test n → passes ≡ test n → (ok && passes) ≡ all_below test (n + 1)
unfolding all_below
all_next test n e t = ap₂ ◌&&◌ e t ∙ ap (all_below test) (sym (add-one n))

pub or_next : (f : ℕ → ℕ) (n : ℕ) {so_far x : ℕ} → so_far ≡ or_below f n → x ≡ f n → bit_or so_far x ≡ or_below f (n + 1)
unfolding or_below
or_next f n e t = ap₂ bit_or e t ∙ ap (or_below f) (sym (add-one n))

pub at_bound : {A : Type 0} (f : ℕ → A) {found : A} {n m : ℕ} → found ≡ f n → n ≤ m → m ≤ n → found ≡ f m
at_bound f e h l = e ∙ ap f (le_antisymm h l)

pub all_same : (f g : ℕ → Bool) (n : ℕ) → ((k : ℕ) → k < n → f k ≡ g k) → all_below f n ≡ all_below g n
unfolding all_below
all_same f g zero each = refl
all_same f g (suc n) each = ap₂ ◌&&◌ (all_same f g n (λ k h. each k (le_step h))) (each n (lt-suc_self n))

-- ---- A table's rule, computed once over all of its places

pub same_below : (f g : ℕ → ℕ) (n : ℕ) → all_below (λ k. eqb (f k) (g k)) n ≡ true → (k : ℕ) → k < n → f k ≡ g k
same_below f g n test k h = eqb-true (f k) (g k) (all_at (λ i. eqb (f i) (g i)) n test k h)

-- of a table of tests
pub same_tests_below : (f g : ℕ → Bool) (n : ℕ) → all_below (λ k. cond (f k) (g k) (not (g k))) n ≡ true → (k : ℕ) → k < n → f k ≡ g k
same_tests_below f g n test k h = go (f k) (g k) (all_at (λ i. cond (f i) (g i) (not (g i))) n test k h)
  where
    go : (a b : Bool) → cond a b (not b) ≡ true → a ≡ b
    go true b e = sym e
    go false true e = absurd (true≢false (sym e))
    go false false e = refl

-- of a table of tables
pub same_in_rows : (f g : ℕ → ℕ → ℕ) (m n : ℕ) → all_below (λ j. all_below (λ k. eqb (f j k) (g j k)) n) m ≡ true
    → (j k : ℕ) → j < m → k < n → f j k ≡ g j k
same_in_rows f g m n test j k hj hk =
    same_below (f j) (g j) n (all_at (λ i. all_below (λ q. eqb (f i q) (g i q)) n) m test j hj) k hk

-- beyond a table of m places, as far as its index can go
pub none_beyond : (f : ℕ → ℕ) (m n : ℕ) → all_below (λ k. eqb 0 (f (m + k))) n ≡ true → (k : ℕ) → m ≤ k → k < m + n → 0 ≡ f k
none_beyond f m n test k l h =
    same_below (λ i. 0) (λ i. f (m + i)) n test (k - m) (omega arith) ∙ (let e : m + (k - m) ≡ k = omega arith in ap f e)

-- ---- The OR of many

-- an OR of many has a zero exactly where each of them has
pub or_below_bit : (f : ℕ → ℕ) (k n : ℕ) → not (bit_at (or_below f n) k) ≡ all_below (λ q. not (bit_at (f q) k)) n
unfolding all_below or_below
or_below_bit f k zero = ap not (bit_above k 0 (pow_pos k))
or_below_bit f k (suc n) =
    ap not (bit_or_holds (or_below f n) (f n) k)
    ∙ neither (bit_at (or_below f n) k) (bit_at (f n) k)
    ∙ ap (λ (t : Bool). t && not (bit_at (f n) k)) (or_below_bit f k n)
  where
    neither : (a b : Bool) → not (a || b) ≡ (not a && not b)
    neither true b = refl
    neither false b = refl

-- the OR of numbers of w places has w places
pub or_below_lt : (w : ℕ) (f : ℕ → ℕ) (n : ℕ) → ((k : ℕ) → k < n → f k < 2 ^ w) → or_below f n < 2 ^ w
unfolding or_below
or_below_lt w f zero each = pow_pos w
or_below_lt w f (suc n) each =
    or_lt w (or_below f n) (f n) (or_below_lt w f n (λ k h. each k (le_step h))) (each n (lt-suc_self n))

-- where all from n on are 0, the OR of those below n is the OR of all
pub or_rest : (f : ℕ → ℕ) (n m : ℕ) → n ≤ m → ((k : ℕ) → n ≤ k → k < m → f k ≡ 0) → or_below f n ≡ or_below f m
unfolding or_below
or_rest f n zero h each = at_bound (or_below f) refl h (omega arith)
or_rest f n (suc m) h each =
    ⊎_elim
    (λ (q : n ≡ suc m). ap (or_below f) q)
    (λ l.
    or_rest f n m (le_of_suc-le-suc l) (λ k a b. each k a (le_step b))
    ∙ sym (or_zero_r (or_below f m))
    ∙ ap (bit_or (or_below f m)) (sym (each m (le_of_suc-le-suc l) (lt-suc_self m))))
    (eq-or-lt_of_le h)

-- numbers that agree from place j up, one by one, have ORs that agree there
pub or_below_agree : (j : ℕ) (f g : ℕ → ℕ) (n : ℕ) → ((k : ℕ) → k < n → f k / 2 ^ j ≡ g k / 2 ^ j) → or_below f n / 2 ^ j ≡ or_below g n / 2 ^ j
unfolding or_below
or_below_agree j f g zero each = refl
or_below_agree j f g (suc n) each =
    or_shr (or_below f n) (f n) j
    ∙ ap₂ bit_or (or_below_agree j f g n (λ k h. each k (le_step h))) (each n (lt-suc_self n))
    ∙ sym (or_shr (or_below g n) (g n) j)

-- Numbers whose ones are all ones of m: their OR adds nothing to m, and it is m where one of them is.
module _ (m : ℕ) (f : ℕ → ℕ) where
  pub or_below_within : (n : ℕ) → ((k : ℕ) → k < n → bit_or (f k) m ≡ m) → bit_or (or_below f n) m ≡ m
  unfolding or_below
  or_below_within zero each = refl
  or_below_within (suc n) each =
      bit_or_assoc (or_below f n) (f n) m
      ∙ ap (bit_or (or_below f n)) (each n (lt-suc_self n))
      ∙ or_below_within n (λ k h. each k (le_step h))

  pub or_below_top : (n : ℕ) → ((k : ℕ) → k < n → bit_or (f k) m ≡ m) → (p : ℕ) → p < n → f p ≡ m → or_below f n ≡ m
  unfolding or_below
  or_below_top zero each p h e = absurd (not-suc-le-zero h)
  or_below_top (suc n) each p h e =
      let below : (k : ℕ) → k < n → bit_or (f k) m ≡ m = λ k l. each k (le_step l) in
      ⊎_elim
      (λ (q : p ≡ n). ap (λ (x : ℕ). bit_or (or_below f n) (f x)) (sym q) ∙ ap (bit_or (or_below f n)) e ∙ or_below_within n below)
      (λ l.
      ap (λ (x : ℕ). bit_or x (f n)) (or_below_top n below p l e) ∙ or_comm m (f n) ∙ each n (lt-suc_self n))
      (last_or_below h)

-- ---- What is listed below a bound

pub list_below_long : {A : Type 0} (f : ℕ → A) (n : ℕ) → length (list_below f n) ≡ n
unfolding list_below
list_below_long f zero = refl
list_below_long f (suc n) = ap suc (list_below_long (λ k. f (suc k)) n)

pub list_below_at : {A : Type 0} (f : ℕ → A) (n k : ℕ) (other : A) → k < n → get_or (list_below f n) k other ≡ f k
unfolding list_below
list_below_at f zero k other h = absurd (omega (arith, h))
list_below_at f (suc n) zero other h = refl
list_below_at f (suc n) (suc k) other h = list_below_at (λ k. f (suc k)) n k other (omega (arith, h))
