-- A text in chunks: what is said does not go by where it is cut, and what every line keeps is kept by every call.
use mathlib.Core.Path.{◌≡◌, refl, sym, ap, ◌∙◌}
use mathlib.Core.List.{List, [], ◌∷◌, ◌++◌, append-nil, append_assoc}
use Prim.Native.Nat.{ℕ}
use lib.ListN.{length}
use Rattle.text.specs.Newlines.{text_lines}
use Rattle.text.specs.Reading.{Reader, answers_to, taken_off}
use Rattle.text.specs.Chunks.{Run, begun_in, fed_with, fed_all, whole_text}
use Rattle.text.specs.Promises.{GoesByFront, ChunksSayTheSame}
use Rattle.text.proofs.ReadingLaws.{by_lines}
use Rattle.text.proofs.LinePromises.{taken_is_the_whole, held_is_enough}

module _ {S : Type 0} (reader : Reader S) where
  -- what was said, and what a text will say behind it
  abbrev with : Run S → List ℕ → List ℕ
  with r text = r.said ++ answers_to reader r.state (text_lines (r.held ++ text))

  module _ (cut : GoesByFront reader) where
    -- one call: what it says, with what comes of what it holds, is what would have come
    one_call : (r : Run S) (size : ℕ) (chunk more : List ℕ) → with r (chunk ++ more) ≡ with (fed_with reader r size chunk) more
    one_call r size chunk more =
        let t = taken_off reader size r.state (r.held ++ chunk) in
        ap (λ (l : List ℕ). r.said ++ answers_to reader r.state (text_lines l)) (sym (append_assoc r.held chunk more))
        ∙ ap (λ (l : List ℕ). r.said ++ l)
        (taken_is_the_whole S reader (length (r.held ++ chunk)) size r.state (r.held ++ chunk) more)
        ∙ sym (append_assoc r.said t.said (answers_to reader t.state (text_lines (t.rest ++ more))))
        ∙ ap (λ (l : List ℕ). r.said ++ t.said ++ l) (sym (held_is_enough S reader cut t.state t.rest more))

    all_calls : (calls : List (ℕ × List ℕ)) (r : Run S) → with r (whole_text calls) ≡ with (fed_all reader r calls) []
    unfolding fed_all whole_text
    all_calls [] r = refl
    all_calls (call ∷ calls) r = one_call r call.0 call.1 (whole_text calls) ∙ all_calls calls (fed_with reader r call.0 call.1)

  -- ---- What every line keeps

  module _ (Kept : S → Type 0) (keeps : (s : S) (line : List ℕ) → Kept s → Kept (reader.turns s line)) where
    pub taken_kept : (room : ℕ) (s : S) (text : List ℕ) → Kept s → Kept (taken_off reader room s text).state
    taken_kept room s text =
        by_lines reader (λ room s text t. Kept s → Kept t.state) (λ room s text k. k)
        (λ room s text later has fits so k. so (keeps s _ k)) (length text) room s text

    pub fed_kept : (calls : List (ℕ × List ℕ)) (r : Run S) → Kept r.state → Kept (fed_all reader r calls).state
    unfolding fed_all
    fed_kept [] r k = k
    fed_kept (call ∷ calls) r k =
        fed_kept calls (fed_with reader r call.0 call.1) (taken_kept call.0 r.state (r.held ++ call.1) k)

pub chunks_say_the_same : ChunksSayTheSame
chunks_say_the_same S reader cut s calls =
    let r = fed_all reader (begun_in s) calls in
    ap (λ (l : List ℕ). r.said ++ answers_to reader r.state (text_lines l)) (sym (append-nil r.held))
    ∙ sym (all_calls reader cut calls (begun_in s))
