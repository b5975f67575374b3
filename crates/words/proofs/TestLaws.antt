-- What a test that came out true says of its parts, what makes one come out true, and picking by tests.
use mathlib.Core.Path.{◌≡◌, refl, sym}
use mathlib.Core.Logic.{◌⊎◌, inl, inr}
use mathlib.Core.Bool.{Bool, true, false, not, cond, ◌&&◌, ◌||◌, true≢false}

-- a test came out one way or the other, with the equation in hand
pub true_or_false : (b : Bool) → (b ≡ true) ⊎ (b ≡ false)
true_or_false true = inl refl
true_or_false false = inr refl

-- two tests that hold together come out the same
pub tests_same : (a b : Bool) → (a ≡ true → b ≡ true) → (b ≡ true → a ≡ true) → a ≡ b
tests_same true b to from = sym (to refl)
tests_same false true to from = from refl
tests_same false false to from = refl

pub both_of : (a b : Bool) → (a && b) ≡ true → (a ≡ true) × (b ≡ true)
both_of true b e = (refl, e)
both_of false true e = (e, refl)
both_of false false e = (e, e)

-- three tests that hold together each do
pub all_three : (a b c : Bool) → (a && b && c) ≡ true → (a ≡ true) × ((b ≡ true) × (c ≡ true))
all_three true true c e = (refl, (refl, e))
all_three true false c e = absurd (true≢false (sym e))
all_three false b c e = absurd (true≢false (sym e))

-- a disjunction that holds: one of its sides does
pub either_of : (a b : Bool) → (a || b) ≡ true → (a ≡ true) ⊎ (b ≡ true)
either_of true b e = inl refl
either_of false b e = inr e

-- and one that fails: neither does
pub neither_of : (a b : Bool) → (a || b) ≡ false → (a ≡ false) × (b ≡ false)
neither_of true b e = absurd (true≢false e)
neither_of false b e = (refl, e)

-- `not a || b` is how a test says 'if a then b': where it holds, and a does, b does
pub then_of : (a b : Bool) → (not a || b) ≡ true → a ≡ true → b ≡ true
then_of true b e h = e
then_of false b e h = absurd (true≢false (sym h))

pub of_then : (a b : Bool) → (a ≡ true → b ≡ true) → (not a || b) ≡ true
of_then true b h = h refl
of_then false b h = refl

-- the second of two holds where the first doesn't
pub else_of : (a b : Bool) → (a || b) ≡ true → a ≡ false → b ≡ true
else_of true b e f = absurd (true≢false f)
else_of false b e f = e

-- a choice that holds, by what was asked
pub then_chosen : (b x y : Bool) → cond b x y ≡ true → b ≡ true → x ≡ true
then_chosen true x y e h = e
then_chosen false x y e h = absurd (true≢false (sym h))

pub else_chosen : (b x y : Bool) → cond b x y ≡ true → b ≡ false → y ≡ true
else_chosen true x y e f = absurd (true≢false f)
else_chosen false x y e f = e

pub choice_of : (b x y : Bool) → (b ≡ true → x ≡ true) → (b ≡ false → y ≡ true) → cond b x y ≡ true
choice_of true x y t f = t refl
choice_of false x y t f = f refl

-- what is picked by a test that came out one way or the other
pub then_pick : {A : Type 0} {b : Bool} {x y : A} (z : A) → b ≡ true → x ≡ y → x ≡ cond b y z
then_pick {b = true} z t e = e
then_pick {b = false} z t e = absurd (true≢false (sym t))

pub else_pick : {A : Type 0} {b : Bool} {x z : A} (y : A) → b ≡ false → x ≡ z → x ≡ cond b y z
else_pick {b = true} y f e = absurd (true≢false f)
else_pick {b = false} y f e = e

-- a test that failed once fails again
pub cond_again : (b : Bool) {A : Type 0} (x y z : A) → cond b x (cond b y z) ≡ cond b x z
cond_again true x y z = refl
cond_again false x y z = refl

pub cond_same : (b : Bool) {A : Type 0} (x : A) → cond b x x ≡ x
cond_same true x = refl
cond_same false x = refl
