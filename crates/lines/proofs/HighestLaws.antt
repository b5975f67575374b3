-- Where anyone contends there is a highest contender, found by going through the places in order; and where numbers are distinct it is the only one.
use mathlib.Core.Path.{◌≡◌, sym, ap, ◌∙◌, subst}
use mathlib.Core.Logic.{◌⊎◌, inl, inr, ⊎_elim}
use mathlib.Core.Bool.{true, false, false≢true}
use Prim.Native.Nat.{ℕ, zero, suc, ◌≤◌}
use native.Mathlib.Nat.{not-suc-le-zero, le_of_eq, le_step, le_trans, le_of_lt, lt_of_not-le, le_antisymm, lt-suc_self}
use native.Mathlib.Decide.{dec_le}
use Rattle.words.proofs.TestLaws.{true_or_false}
use Rattle.words.proofs.BelowLaws.{last_or_below}
use Rattle.lines.specs.Arbitration.{Arbitration, Contender, Highest}
use Rattle.lines.specs.Promises.{HighestExists, HighestUnique}

module _ (a : Arbitration) where
  -- the same arbitration with the first n places alone
  abbrev first : ℕ → Arbitration
  first n = record { width = a.width; places = n; number = a.number; contends = a.contends }

  -- among the first n + 1 places a contender is the card at place n, or one of the first n
  last_or_first : {n q : ℕ} → Contender (first (suc n)) q → (q ≡ n) ⊎ Contender (first n) q
  last_or_first k = ⊎_elim inl (λ h. inr record { present = h; contending = k.contending }) (last_or_below k.present)

  -- the card at place n is the highest of the first n + 1 if it beats those before it
  last_wins : (n : ℕ) → a.contends n ≡ true → ((q : ℕ) → Contender (first n) q → a.number q ≤ a.number n) → Highest (first (suc n)) n
  last_wins n e beats = record {
    contender = record { present = lt-suc_self n; contending = e };
    top = λ q k. ⊎_elim (λ (s : q ≡ n). le_of_eq (ap a.number s)) (beats q) (last_or_first k);
  }

  -- the highest of the first n stays so if the card at place n doesn't beat it
  first_wins : (n p : ℕ) → Highest (first n) p → (a.contends n ≡ true → a.number n ≤ a.number p) → Highest (first (suc n)) p
  first_wins n p best beaten = record {
    contender = record { present = le_step best.contender.present; contending = best.contender.contending };
    top = λ q k. ⊎_elim (against q k) (best.top q) (last_or_first k);
  }
    where
      against : (q : ℕ) → Contender (first (suc n)) q → q ≡ n → a.number q ≤ a.number p
      against q k s = subst (λ (x : ℕ). a.number x ≤ a.number p) (sym s) (beaten (ap a.contends (sym s) ∙ k.contending))

  one_more : (n p : ℕ) → Highest (first n) p → (r : ℕ) × Highest (first (suc n)) r
  one_more n p best = go (dec_le (a.number n) (a.number p)) (true_or_false (a.contends n))
    where
      go : Dec (a.number n ≤ a.number p) → (a.contends n ≡ true) ⊎ (a.contends n ≡ false) → (r : ℕ) × Highest (first (suc n)) r
      go (yes h) d = (p, first_wins n p best (λ t. h))
      go (no h) (inl t) = (n, last_wins n t (λ q k. le_trans (best.top q k) (le_of_lt (lt_of_not-le h))))
      go (no h) (inr f) = (p, first_wins n p best (λ t. absurd (false≢true (sym f ∙ t))))

  -- among the first n places nobody contends, or there is a highest contender
  find_highest : (n : ℕ) → ((q : ℕ) → Contender (first n) q → ⊥) ⊎ ((p : ℕ) × Highest (first n) p)
  find_highest zero = inl (λ q k. not-suc-le-zero k.present)
  find_highest (suc n) = ⊎_elim (λ none. go none (true_or_false (a.contends n))) (λ best. inr (one_more n best.0 best.1)) (find_highest n)
    where
      go : ((q : ℕ) → Contender (first n) q → ⊥) → (a.contends n ≡ true) ⊎ (a.contends n ≡ false)
          → ((q : ℕ) → Contender (first (suc n)) q → ⊥) ⊎ ((p : ℕ) × Highest (first (suc n)) p)
      go none (inl t) = inr (n, last_wins n t (λ q k. absurd (none q k)))
      go none (inr f) =
          inl (λ q k. ⊎_elim (λ (s : q ≡ n). false≢true (sym f ∙ ap a.contends (sym s) ∙ k.contending)) (none q) (last_or_first k))

pub highest_exists : HighestExists
highest_exists a q k = ⊎_elim (λ none. absurd (none q k)) (λ best. best) (find_highest a a.places)

pub highest_unique : HighestUnique
highest_unique a distinct p q best other =
    distinct p q best.contender other.contender
    (le_antisymm (other.top p best.contender) (best.top q other.contender))
