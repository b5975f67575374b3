-- The laws of `first_of`, `least_below` and `highest_below`.
use Prim.Native.Nat.{ℕ, zero, suc, suc-le-suc, ◌-◌, ◌<◌, ◌≤◌}
use mathlib.Core.Path.{◌≡◌, refl, sym, ap, subst, ◌∙◌}
use mathlib.Core.Logic.{◌⊎◌, inl, inr, ⊎_elim}
use mathlib.Core.Bool.{Bool, true, false, cond, ◌&&◌, ◌||◌, and-eq-true_iff, true≢false}
use mathlib.Core.List.{List, [], ◌∷◌, ◌++◌}
use native.Mathlib.Nat.{not-suc-le-zero, le_of_suc-le-suc, le_refl, lt_trans, lt_irrefl, lt_of_le_of_lt}
use native.Mathlib.Decide.{dec_lt}
use native.Mathlib.Omega.{arith}
use lib.Dec.{eqb, ltb}
use borrow.Author.Tests.{ltb-true, eqb-true, eq-eqb, ne_eqb}
use Rattle.words.specs.First.{Reason, first_of, applies_as, ascends_from, least_below, highest_below}
use Rattle.words.specs.Promises.{FirstByNumber, NoneApplies, LeastPassing, HighestPassing, HighestOfNone}
use Rattle.words.proofs.TestLaws.{true_or_false, either_of}

-- ---- The first reason

-- numbers of reasons are told from the 0 that says there is none
unfoldable pub Numbered : List Reason → Type 0
Numbered [] = Unit
Numbered (r ∷ reasons) = (0 < r.number) × Numbered reasons

-- further reasons count only where none of the first applies
pub first_append : (reasons more : List Reason) → Numbered reasons
    → first_of (reasons ++ more) ≡ cond (eqb (first_of reasons) 0) (first_of more) (first_of reasons)
unfolding Numbered first_of
first_append [] more n = refl
first_append (r ∷ reasons) more n = go r.applies (first_append reasons more n.1)
  where
    go : (b : Bool) → first_of (reasons ++ more) ≡ cond (eqb (first_of reasons) 0) (first_of more) (first_of reasons)
        → cond b r.number (first_of (reasons ++ more))
        ≡ cond (eqb (cond b r.number (first_of reasons)) 0) (first_of more) (cond b r.number (first_of reasons))
    go true rest = rw (ne_eqb r.number 0 (λ e. omega (arith, n.0)))
    go false rest = rest

-- where no number is given, the first reason doesn't apply, and nothing is given of the rest
pub first_none : (r : Reason) (reasons : List Reason) → eqb r.number 0 ≡ false → first_of (r ∷ reasons) ≡ 0
    → (r.applies ≡ false) × (first_of reasons ≡ 0)
unfolding first_of
first_none r reasons n e = go r.applies e
  where
    go : (b : Bool) → cond b r.number (first_of reasons) ≡ 0 → (b ≡ false) × (first_of reasons ≡ 0)
    go true given = absurd (true≢false (sym (eq-eqb _ _ given) ∙ n))
    go false rest = (refl, rest)

-- where all numbers are below a bound, so is the one that is given
abbrev pub numbers_below : ℕ → List Reason → Bool
numbers_below bound [] = true
numbers_below bound (r ∷ reasons) = ltb r.number bound && numbers_below bound reasons

pub first_below : (bound : ℕ) (reasons : List Reason) → 0 < bound → numbers_below bound reasons ≡ true → first_of reasons < bound
unfolding first_of
first_below bound [] some e = some
first_below bound (r ∷ reasons) some e =
    let both = (and-eq-true_iff (ltb r.number bound) (numbers_below bound reasons)).0 e in
    go r.applies (ltb-true r.number bound both.0) (first_below bound reasons some both.1)
  where
    go : (b : Bool) → r.number < bound → first_of reasons < bound → cond b r.number (first_of reasons) < bound
    go true h l = h
    go false h l = l

-- ---- The first of reasons in the order of their numbers

-- a reason that applies has a number above the bound
applies_above : (m : ℕ) (reasons : List Reason) → ascends_from m reasons ≡ true → (n : ℕ) → applies_as n reasons ≡ true → m < n
unfolding ascends_from applies_as
applies_above m [] a n e = absurd (true≢false (sym e))
applies_above m (r ∷ reasons) a n e =
    ⊎_elim
    (λ own. subst (λ (x : ℕ). m < x) (eqb-true _ _ ((and-eq-true_iff _ _).0 own).0) here)
    (λ later. lt_trans here (applies_above r.number reasons each.1 n later))
    (either_of (eqb r.number n && r.applies) (applies_as n reasons) e)
  where
    each : (ltb m r.number ≡ true) × (ascends_from r.number reasons ≡ true)
    each = (and-eq-true_iff (ltb m r.number) (ascends_from r.number reasons)).0 a

    here : m < r.number
    here = ltb-true _ _ each.0

-- none applies up to the bound
none_up_to : (m : ℕ) (reasons : List Reason) → ascends_from m reasons ≡ true → (n : ℕ) → n ≤ m → applies_as n reasons ≡ false
none_up_to m reasons a n h = go (true_or_false (applies_as n reasons))
  where
    go : (applies_as n reasons ≡ true) ⊎ (applies_as n reasons ≡ false) → applies_as n reasons ≡ false
    go (inl t) = absurd (lt_irrefl n (lt_of_le_of_lt h (applies_above m reasons a n t)))
    go (inr f) = f

module _ (r : Reason) (reasons : List Reason) where
  -- a first reason that doesn't apply is passed over, and one that does counts under its number
  passed_over : r.applies ≡ false → (n : ℕ) → applies_as n (r ∷ reasons) ≡ applies_as n reasons
  unfolding applies_as
  passed_over f n = rw f (go (eqb r.number n))
    where
      go : (b : Bool) → (b && false || applies_as n reasons) ≡ applies_as n reasons
      go true = refl
      go false = refl

  counts : r.applies ≡ true → (n : ℕ) → applies_as n (r ∷ reasons) ≡ (eqb r.number n || applies_as n reasons)
  unfolding applies_as
  counts t n = rw t (go (eqb r.number n))
    where
      go : (b : Bool) → (b && true || applies_as n reasons) ≡ (b || applies_as n reasons)
      go true = refl
      go false = refl

  first_applies : r.applies ≡ true → first_of (r ∷ reasons) ≡ r.number
  unfolding first_of
  first_applies t = rw t

  first_passed : r.applies ≡ false → first_of (r ∷ reasons) ≡ first_of reasons
  unfolding first_of
  first_passed f = rw f

  later : (m : ℕ) → ascends_from m (r ∷ reasons) ≡ true → ascends_from r.number reasons ≡ true
  unfolding ascends_from
  later m a = ((and-eq-true_iff (ltb m r.number) (ascends_from r.number reasons)).0 a).1

-- n applies and no lower number does
Lowest : List Reason → ℕ → Type 0
Lowest reasons n = (applies_as n reasons ≡ true) × ((k : ℕ) → k < n → applies_as k reasons ≡ false)

given_lowest : (m : ℕ) (reasons : List Reason) → ascends_from m reasons ≡ true → (n : ℕ) → 0 < n → first_of reasons ≡ n → Lowest reasons n
unfolding first_of Lowest
given_lowest m [] a n h e = absurd (omega (arith, e))
given_lowest m (r ∷ reasons) a n h e = go (true_or_false r.applies) (given_lowest r.number reasons (later r reasons m a) n h)
  where
    go : (r.applies ≡ true) ⊎ (r.applies ≡ false) → (first_of reasons ≡ n → Lowest reasons n) → Lowest (r ∷ reasons) n
    go (inl t) rest =
        let own : r.number ≡ n = sym (first_applies r reasons t) ∙ e in (
          counts r reasons t n ∙ rw (eq-eqb _ _ own),
          λ k l.
              counts r reasons t k
              ∙ rw (ne_eqb r.number k (λ s. omega (arith, s, own))) (none_up_to r.number reasons (later r reasons m a) k (omega (arith, own))),
        )
    go (inr f) rest =
        let low = rest (sym (first_passed r reasons f) ∙ e) in
        (passed_over r reasons f n ∙ low.0, λ k l. passed_over r reasons f k ∙ low.1 k l)

lowest_given : (m : ℕ) (reasons : List Reason) → ascends_from m reasons ≡ true → (n : ℕ) → Lowest reasons n → first_of reasons ≡ n
unfolding first_of applies_as Lowest
lowest_given m [] a n low = absurd (true≢false (sym low.0))
lowest_given m (r ∷ reasons) a n low = go (true_or_false r.applies) (lowest_given r.number reasons (later r reasons m a) n)
  where
    go : (r.applies ≡ true) ⊎ (r.applies ≡ false) → (Lowest reasons n → first_of reasons ≡ n) → first_of (r ∷ reasons) ≡ n
    go (inl t) rest =
        first_applies r reasons t
        ∙ ⊎_elim (λ own. eqb-true _ _ own)
        (λ after.
        absurd
        (true≢false
        (sym (counts r reasons t r.number ∙ rw (eq-eqb r.number r.number refl))
        ∙ low.1 r.number (applies_above r.number reasons (later r reasons m a) n after))))
        (either_of (eqb r.number n) (applies_as n reasons) (sym (counts r reasons t n) ∙ low.0))
    go (inr f) rest =
        first_passed r reasons f
        ∙ rest (sym (passed_over r reasons f n) ∙ low.0, λ k l. sym (passed_over r reasons f k) ∙ low.1 k l)

pub first_by_number : FirstByNumber
unfolding Lowest
first_by_number reasons a n h = (given_lowest 0 reasons a n h, lowest_given 0 reasons a n)

none_given : (m : ℕ) (reasons : List Reason) → ascends_from m reasons ≡ true → first_of reasons ≡ 0 → (n : ℕ) → applies_as n reasons ≡ false
unfolding ascends_from applies_as
none_given m [] a e n = refl
none_given m (r ∷ reasons) a e n = go (true_or_false r.applies) (none_given r.number reasons (later r reasons m a))
  where
    go : (r.applies ≡ true) ⊎ (r.applies ≡ false) → (first_of reasons ≡ 0 → (k : ℕ) → applies_as k reasons ≡ false)
        → applies_as n (r ∷ reasons) ≡ false
    go (inl t) rest =
        let above : m < r.number = ltb-true _ _ ((and-eq-true_iff (ltb m r.number) (ascends_from r.number reasons)).0 a).0 in
        absurd (omega (arith, sym (first_applies r reasons t) ∙ e))
    go (inr f) rest = passed_over r reasons f n ∙ rest (sym (first_passed r reasons f) ∙ e) n

pub none_applies : NoneApplies
none_applies reasons a = (none_given 0 reasons a, λ each. go each (dec_lt 0 (first_of reasons)))
  where
    go : ((n : ℕ) → applies_as n reasons ≡ false) → Dec (0 < first_of reasons) → first_of reasons ≡ 0
    go each (yes h) = absurd (true≢false (sym ((first_by_number reasons a (first_of reasons) h).0 refl).0 ∙ each (first_of reasons)))
    go each (no h) = omega arith

-- ---- The least number that passes

-- it passes, unless it is the bound
pub least_passes : (test : ℕ → Bool) (n : ℕ) → least_below test n < n → test (least_below test n) ≡ true
unfolding least_below
least_passes test zero h = absurd (not-suc-le-zero h)
least_passes test (suc n) h = go (test 0) refl h (least_passes (λ k. test (suc k)) n)
  where
    rest : ℕ
    rest = least_below (λ k. test (suc k)) n

    go : (b : Bool) → test 0 ≡ b → cond b 0 (suc rest) < suc n → (rest < n → test (suc rest) ≡ true) → test (cond b 0 (suc rest)) ≡ true
    go true e l passes = e
    go false e l passes = passes (le_of_suc-le-suc l)

-- and none below it does
pub least_first : (test : ℕ → Bool) (n k : ℕ) → k < least_below test n → test k ≡ false
unfolding least_below
least_first test zero k h = absurd (not-suc-le-zero h)
least_first test (suc n) zero h = go (test 0) h
  where
    go : (b : Bool) → 0 < cond b 0 (suc (least_below (λ k. test (suc k)) n)) → b ≡ false
    go true l = absurd (not-suc-le-zero l)
    go false l = refl
least_first test (suc n) (suc k) h = go (test 0) h (least_first (λ k. test (suc k)) n k)
  where
    go : (b : Bool) → suc k < cond b 0 (suc (least_below (λ k. test (suc k)) n))
        → (k < least_below (λ k. test (suc k)) n → test (suc k) ≡ false) → test (suc k) ≡ false
    go true l first = absurd (not-suc-le-zero l)
    go false l first = first (le_of_suc-le-suc l)

pub least_within : (test : ℕ → Bool) (n : ℕ) → least_below test n ≤ n
unfolding least_below
least_within test zero = le_refl 0
least_within test (suc n) = go (test 0) (least_within (λ k. test (suc k)) n)
  where
    go : (b : Bool) → least_below (λ k. test (suc k)) n ≤ n → cond b 0 (suc (least_below (λ k. test (suc k)) n)) ≤ suc n
    go true l = omega arith
    go false l = suc-le-suc l

-- where any number below the bound passes, the least is below it
pub least_below_holds : (test : ℕ → Bool) (n k : ℕ) → k < n → test k ≡ true → least_below test n < n
least_below_holds test n k h e = go (dec_lt (least_below test n) n)
  where
    go : Dec (least_below test n < n) → least_below test n < n
    go (yes below) = below
    go (no not_below) = absurd (true≢false (sym e ∙ least_first test n k (omega arith)))

-- so a number that passes, and before which none does, is the least
pub least_is : (test : ℕ → Bool) (n m : ℕ) → ((k : ℕ) → k < m → test k ≡ false) → test m ≡ true → m < n → least_below test n ≡ m
least_is test n m none passes h = go (dec_lt (least_below test n) m) (dec_lt m (least_below test n))
  where
    least : ℕ
    least = least_below test n

    go : Dec (least < m) → Dec (m < least) → least ≡ m
    go (yes below) d = absurd (true≢false (sym (least_passes test n (lt_trans below h)) ∙ none least below))
    go (no b) (yes above) = absurd (true≢false (sym passes ∙ least_first test n m above))
    go (no b) (no a) = omega arith

pub least_passing : LeastPassing
least_passing test n k h e =
    let below = least_below_holds test n k h e in
    (below, (least_passes test n below, least_first test n))

-- ---- The highest number that passes

-- one place down: that number is it, or what is found below it
module _ (test : ℕ → Bool) (p other : ℕ) (some : 0 < p) where
  highest_down : highest_below test p other ≡ cond (test (p - 1)) (p - 1) (highest_below test (p - 1) other)
  unfolding highest_below
  highest_down = let e : p ≡ suc (p - 1) = omega arith in ap (λ (x : ℕ). highest_below test x other) e

  pub highest_here : test (p - 1) ≡ true → highest_below test p other ≡ p - 1
  highest_here passes = highest_down ∙ rw passes

  pub highest_passed : test (p - 1) ≡ false → highest_below test p other ≡ highest_below test (p - 1) other
  highest_passed fails = highest_down ∙ rw fails

-- no number is left
pub highest_ends : (test : ℕ → Bool) (p other : ℕ) → p ≤ 0 → highest_below test p other ≡ other
unfolding highest_below
highest_ends test p other none = let e : p ≡ 0 = omega arith in ap (λ (x : ℕ). highest_below test x other) e

-- a number that passes, and above which none does, is the highest
pub highest_is : (test : ℕ → Bool) (n other m : ℕ) → m < n → test m ≡ true → ((j : ℕ) → m < j → j < n → test j ≡ false)
    → highest_below test n other ≡ m
unfolding highest_below
highest_is test zero other m h passes none = absurd (not-suc-le-zero h)
highest_is test (suc n) other m h passes none = go (dec_lt m n) (λ below. highest_is test n other m below passes (λ j l k. none j l (omega arith)))
  where
    go : Dec (m < n) → (m < n → highest_below test n other ≡ m) → highest_below test (suc n) other ≡ m
    go (yes below) rest = rw (none n below (le_refl (suc n))) (rest below)
    go (no top) rest = let same : m ≡ n = omega arith in rw (sym (ap test same) ∙ passes) (sym same)

-- where it isn't the other, it is below the bound
pub highest_found : (test : ℕ → Bool) (n other : ℕ) → (highest_below test n other ≡ other → ⊥) → highest_below test n other < n
unfolding highest_below
highest_found test zero other some = absurd (some refl)
highest_found test (suc n) other some = go (test n) some (highest_found test n other)
  where
    go : (b : Bool) → (cond b n (highest_below test n other) ≡ other → ⊥) → ((highest_below test n other ≡ other → ⊥) → highest_below test n other < n)
        → cond b n (highest_below test n other) < suc n
    go true there below = le_refl (suc n)
    go false there below = omega (arith, below there)

pub highest_of_none : HighestOfNone
unfolding highest_below
highest_of_none test zero other none = refl
highest_of_none test (suc n) other none = rw (none n (le_refl (suc n))) (highest_of_none test n other (λ k h. none k (omega arith)))

pub highest_passing : HighestPassing
unfolding highest_below
highest_passing test zero other k h e = absurd (not-suc-le-zero h)
highest_passing test (suc n) other k h e = go (test n) refl (highest_passing test n other k)
  where
    found : Bool → ℕ
    found b = cond b n (highest_below test n other)

    go : (b : Bool) → test n ≡ b
        → (k < n → test k ≡ true
        → (highest_below test n other < n)
        × ((test (highest_below test n other) ≡ true) × ((j : ℕ) → highest_below test n other < j → j < n → test j ≡ false)))
        → (found b < suc n) × ((test (found b) ≡ true) × ((j : ℕ) → found b < j → j < suc n → test j ≡ false))
    go true t below = (le_refl (suc n), (t, λ j l m. absurd (omega arith)))
    go false t below =
        let less : k < n = not_last t (dec_lt k n) in
        let rest = below less e in
        (omega (arith, rest.0), (rest.1.0, λ j l m. at j l m t (dec_lt j n) (rest.1.1 j)))
      where
        not_last : test n ≡ false → Dec (k < n) → k < n
        not_last t (yes l) = l
        not_last t (no l) = let same : k ≡ n = omega arith in absurd (true≢false (sym e ∙ ap test same ∙ t))

        at : (j : ℕ) → found false < j → j < suc n → test n ≡ false → Dec (j < n) → (found false < j → j < n → test j ≡ false) → test j ≡ false
        at j l m t (yes less) rest = rest l less
        at j l m t (no more) rest = let same : j ≡ n = omega arith in ap test same ∙ t
