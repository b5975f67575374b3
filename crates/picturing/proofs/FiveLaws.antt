-- Five digits stored over the whole of their part.
use mathlib.Core.Path.{◌≡◌, refl, sym, ◌∙◌}
use mathlib.Core.List.{List, [], ◌∷◌}
use Prim.Native.Nat.{ℕ}
use lib.ListN.{length, set}
use Rattle.words.proofs.PartLaws.{sets_all}

pub five_stored : (part : List ℕ) {a b c d e a' b' c' d' e' : ℕ} → length part ≡ 5 → a ≡ a' → b ≡ b' → c ≡ c' → d ≡ d' → e ≡ e'
    → set (set (set (set (set part 0 a) 1 b) 2 c) 3 d) 4 e ≡ a' ∷ b' ∷ c' ∷ d' ∷ e' ∷ []
five_stored part {a} {b} {c} {d} {e} long p q r s t = sets_all part (a ∷ b ∷ c ∷ d ∷ e ∷ []) (sym long) ∙ rw (p, q, r, s, t) refl
