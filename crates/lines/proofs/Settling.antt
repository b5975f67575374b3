-- Why as many rounds as there are lines settle them, from any levels. Let m be the highest contender's number, and let a card's final level be
-- what its look at m would drive. Where every contender's level is final from some place up, the lines agree with m there, and so whatever a look
-- drives from then on is final one place further down. So each round makes one more place final, from the highest down; and settled
-- levels, which no look changes, are the final ones.
use mathlib.Core.Path.{◌≡◌, refl, sym, ap, ◌∙◌, subst}
use mathlib.Core.Logic.{◌⊎◌, inl, inr, ⊎_elim}
use mathlib.Core.Bool.{Bool, true, false, cond, and-eq-true_iff}
use mathlib.Core.List.{List, [], ◌∷◌, flatten}
use Prim.Native.Nat.{ℕ, zero, suc, ◌+◌, ◌/◌, ◌%◌, ◌^◌, ◌<◌, ◌≤◌}
use native.Mathlib.Nat.{add-zero, suc-add, zero-add, mod-eq_of_lt, div-eq_of_lt}
use native.Mathlib.Decide.{dec_lt}
use native.Mathlib.Omega.{arith}
use lib.ListN.{length, get_or, set}
use lib.Seq.{set-get_or, set_out}
use lib.Bits.{bit_or}
use borrow.Author.Tests.{eqb-true, eq-eqb}
use Rattle.words.specs.Below.{or_below}
use Rattle.words.specs.Among.{is_among}
use Rattle.words.proofs.BitLaws.{agree_suc}
use Rattle.words.proofs.BelowLaws.{or_below_agree, or_below_top}
use Rattle.words.proofs.ListLaws.{among_none, among_cases}
use Rattle.lines.specs.Look.{look}
use Rattle.lines.specs.Arbitration.{Arbitration, Contender, Highest, is_round, are_rounds}
use Rattle.lines.specs.Arbitration.{shown, looked, settled, after_look, after_looks}
use Rattle.lines.specs.Promises.{NumbersFit, InRange, SettledAt, RoundsSettle, SettledStays, SettledShowHighest}
use Rattle.lines.proofs.LookLaws.{look_in_range, look_own, look_within, look_causal}
use Rattle.lines.proofs.ContenderLaws.{every_contender_holds, by_contending}
use Rattle.lines.proofs.LevelLaws.{length_look, own_look, after_look_holds, after_append, looked_in_range, levels_in_range}

-- ---- What settled says, and that looks leave it so

pub settled_at : (a : Arbitration) (levels : List ℕ) → settled a levels ≡ true → (q : ℕ) → Contender a q → looked a levels q ≡ get_or levels q 0
unfolding settled
settled_at a levels e q k = eqb-true (looked a levels q) (get_or levels q 0) ((every_contender_holds a _).0 e q k)

pub settled_of : (a : Arbitration) (levels : List ℕ) → ((q : ℕ) → Contender a q → looked a levels q ≡ get_or levels q 0) → settled a levels ≡ true
unfolding settled
settled_of a levels same = (every_contender_holds a _).1 (λ q k. eq-eqb (looked a levels q) (get_or levels q 0) (same q k))

pub settled_look : (a : Arbitration) (levels : List ℕ) → length levels ≡ a.places → settled a levels ≡ true → (q : ℕ) → after_look a levels q ≡ levels
unfolding after_look
settled_look a levels size e q = go (a.contends q) refl (dec_lt q a.places)
  where
    go : (b : Bool) → a.contends q ≡ b → Dec (q < a.places) → cond b (set levels q (looked a levels q)) levels ≡ levels
    go false c d = refl
    go true c (yes h) = ap (set levels q) (settled_at a levels e q record { present = h; contending = c }) ∙ set-get_or levels q 0
    go true c (no h) = set_out levels q (looked a levels q) (omega arith)

pub settled_stays : SettledStays
unfolding after_looks
settled_stays a levels size e [] = refl
settled_stays a levels size e (q ∷ looks) =
    ap (λ (x : List ℕ). after_looks a x looks) (settled_look a levels size e q) ∙ settled_stays a levels size e looks

-- ---- The final levels

module _ (a : Arbitration) (fit : NumbersFit a) (p : ℕ) (best : Highest a p) where
  abbrev m : ℕ
  m = a.number p

  final_level : ℕ → ℕ
  final_level q = look a.width (a.number q) m

  m_fits : m % 2 ^ a.width ≡ m
  m_fits = mod-eq_of_lt (fit p best.contender)

  -- each is made of ones of m, and the highest contender's is m
  within : (q : ℕ) → Contender a q → bit_or (final_level q) m ≡ m
  unfolding final_level
  within q k =
      let fits : a.number q % 2 ^ a.width ≡ a.number q = mod-eq_of_lt (fit q k) in
      subst (λ (x : ℕ). bit_or (final_level q) x ≡ x) m_fits
      (look_within a.width (a.number q) m (omega (arith, fits, m_fits, best.top q k)))

  own : final_level p ≡ m
  unfolding final_level
  own = look_own a.width m ∙ m_fits

  -- so together they show m
  final_shown : or_below (λ q. cond (a.contends q) (final_level q) 0) a.places ≡ m
  final_shown =
      or_below_top m (λ q. cond (a.contends q) (final_level q) 0) a.places
      (λ q h. by_contending a (λ (b : Bool). bit_or (cond b (final_level q) 0) m ≡ m) q h (within q) refl)
      p
      best.contender.present
      (ap (λ (b : Bool). cond b (final_level p) 0) best.contender.contending ∙ own)

  -- ---- Levels that are final from place j up

  FinalAt : ℕ → List ℕ → ℕ → Type 0
  FinalAt j levels q = get_or levels q 0 / 2 ^ j ≡ final_level q / 2 ^ j

  Final : ℕ → List ℕ → Type 0
  Final j levels = (q : ℕ) → Contender a q → FinalAt j levels q

  shown_final : (j : ℕ) (levels : List ℕ) → Final j levels → shown a levels / 2 ^ j ≡ m / 2 ^ j
  unfolding shown Final FinalAt
  shown_final j levels f =
      or_below_agree j (λ q. cond (a.contends q) (get_or levels q 0) 0) (λ q. cond (a.contends q) (final_level q) 0) a.places
      (λ q h.
      by_contending a (λ (b : Bool). cond b (get_or levels q 0) 0 / 2 ^ j ≡ cond b (final_level q) 0 / 2 ^ j) q h (f q) refl)
      ∙ ap (λ (x : ℕ). x / 2 ^ j) final_shown

  -- what a look drives is final one place further down
  looked_final : (j : ℕ) (levels : List ℕ) → j < a.width → Final (suc j) levels → (q : ℕ) → looked a levels q / 2 ^ j ≡ final_level q / 2 ^ j
  unfolding looked final_level
  looked_final j levels h f q = look_causal a.width j (a.number q) (shown a levels) m h (shown_final (suc j) levels f)

  -- above the highest place there is nothing, so any level is final there
  start : (levels : List ℕ) (q : ℕ) → get_or levels q 0 < 2 ^ a.width → FinalAt a.width levels q
  unfolding FinalAt final_level
  start levels q below = div-eq_of_lt below ∙ sym (div-eq_of_lt (look_in_range a.width (a.number q) m))

  -- and where all places are final the lines are settled at m
  end : (levels : List ℕ) → Final 0 levels → SettledAt a levels m
  unfolding Final FinalAt final_level looked
  end levels f = record { shows = lines; still = settled_of a levels same }
    where
      whole : (x y : ℕ) → x / 2 ^ 0 ≡ y / 2 ^ 0 → x ≡ y
      whole x y e = omega (arith, e)

      lines : shown a levels ≡ m
      lines = whole (shown a levels) m (shown_final 0 levels f)

      same : (q : ℕ) → Contender a q → looked a levels q ≡ get_or levels q 0
      same q k = ap (look a.width (a.number q)) lines ∙ sym (whole (get_or levels q 0) (final_level q) (f q k))

  -- ---- Looks and rounds

  keeps : (j : ℕ) (levels : List ℕ) → j < a.width → Final (suc j) levels → (r : ℕ) → Final (suc j) (after_look a levels r)
  unfolding Final FinalAt
  keeps j levels h f r q k =
      after_look_holds a (λ (x : ℕ). x / 2 ^ suc j ≡ final_level q / 2 ^ suc j) levels r q (f q k)
      (agree_suc j (looked a levels q) (final_level q) (looked_final j levels h f q))

  -- After looks, a contender's level is final from place j up if it was so before, or if the contender is among those who looked.
  looks_final : (j : ℕ) → j < a.width → (looks levels : List ℕ) → length levels ≡ a.places → Final (suc j) levels
      → (q : ℕ) → Contender a q → FinalAt j levels q ⊎ (is_among q looks ≡ true) → FinalAt j (after_looks a levels looks) q
  unfolding after_looks Final FinalAt
  looks_final j h [] levels size f q k (inl e) = e
  looks_final j h [] levels size f q k (inr t) = absurd (among_none q t)
  looks_final j h (r ∷ looks) levels size f q k d =
      looks_final j h looks (after_look a levels r) (length_look a levels r ∙ size) (keeps j levels h f r) q k
      (⊎_elim
      (λ e. inl (after_look_holds a (λ (x : ℕ). x / 2 ^ j ≡ final_level q / 2 ^ j) levels r q e final))
      (λ t. ⊎_elim (λ e. inl (itself e)) inr (among_cases q r looks t))
      d)
    where
      final : looked a levels q / 2 ^ j ≡ final_level q / 2 ^ j
      final = looked_final j levels h f q

      itself : q ≡ r → FinalAt j (after_look a levels r) q
      itself e = subst (λ (x : ℕ). FinalAt j (after_look a levels x) q) e (ap (λ (x : ℕ). x / 2 ^ j) (own_look a levels size q k) ∙ final)

  -- so rounds make as many places final as there are rounds
  rounds_final : (rounds : List (List ℕ)) (j : ℕ) (levels : List ℕ) → InRange a levels → length rounds + j ≤ a.width → are_rounds a rounds ≡ true
      → Final (length rounds + j) levels → Final j (after_looks a levels (flatten rounds))
  unfolding after_looks are_rounds is_round flatten Final
  rounds_final [] j levels r h e f = subst (λ (x : ℕ). Final x levels) (zero-add j) f
  rounds_final (looks ∷ rounds) j levels r h e f =
      subst (Final j) (sym (after_append a levels looks (flatten rounds)))
      (rounds_final rounds j (after_looks a levels looks) (levels_in_range a levels r looks) (omega arith) each.1
      (λ q k. looks_final (length rounds + j) (omega arith) looks levels r.size before q k (inr ((every_contender_holds a _).0 each.0 q k))))
    where
      each : (is_round a looks ≡ true) × (are_rounds a rounds ≡ true)
      each = (and-eq-true_iff (is_round a looks) (are_rounds a rounds)).0 e

      before : Final (suc (length rounds + j)) levels
      before = subst (λ (x : ℕ). Final x levels) (suc-add (length rounds) j) f

  -- settled levels are final at every place, from the highest down
  settled_final : (levels : List ℕ) → settled a levels ≡ true → (i j : ℕ) → i + j ≡ a.width → Final j levels
  unfolding Final FinalAt looked
  settled_final levels e zero j h q k =
      subst (λ (v : ℕ). FinalAt v levels q) (sym h ∙ zero-add j)
      (start levels q (subst (λ (x : ℕ). x < 2 ^ a.width) (settled_at a levels e q k) (looked_in_range a levels q)))
  settled_final levels e (suc i) j h q k =
      ap (λ (x : ℕ). x / 2 ^ j) (sym (settled_at a levels e q k))
      ∙ looked_final j levels (omega arith) (settled_final levels e i (suc j) (omega arith)) q

-- ---- The promises

pub rounds_settle : RoundsSettle
unfolding Final
rounds_settle a fit p best levels r rounds count all after =
    subst (λ (x : List ℕ). SettledAt a x (a.number p)) (sym (after_append a levels (flatten rounds) after ∙ rest)) final
  where
    -- the rounds are as many as the lines: no place is left out
    every_place : a.width ≡ length rounds + 0
    every_place = omega arith

    final : SettledAt a (after_looks a levels (flatten rounds)) (a.number p)
    final =
        end a fit p best (after_looks a levels (flatten rounds))
        (rounds_final a fit p best rounds 0 levels r (omega arith) all (λ q k.
        subst (λ (j : ℕ). FinalAt a fit p best j levels q) every_place (start a fit p best levels q (r.below q k))))

    rest : after_looks a (after_looks a levels (flatten rounds)) after ≡ after_looks a levels (flatten rounds)
    rest = settled_stays a (after_looks a levels (flatten rounds)) (levels_in_range a levels r (flatten rounds)).size final.still after

pub settled_show_highest : SettledShowHighest
unfolding Final
settled_show_highest a fit p best levels e =
    (end a fit p best levels (settled_final a fit p best levels e a.width 0 (add-zero a.width))).shows
