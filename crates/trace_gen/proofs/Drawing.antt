-- Lines that are drawn one after the other from a generator.
use Rattle.std.proofs.Common.{◌≡◌, ℕ, suc, ◌+◌, List, [], ◌∷◌, ◌++◌, map, refl, sym, ap, ◌∙◌, arith}
use Rattle.std.specs.List.{range_with_len}
use Rattle.std.proofs.lemmas.List.{append_assoc, append-nil}
use Rattle.std.proofs.lemmas.List.FromFn.{map-range_with_len_more}
use Rattle.rand_core.specs.Stream.{Stream, next_u64}
use Rattle.rand_core.specs.Steps.{first_words, stream_of, steps_u64_high}
use Rattle.rand_xoshiro.specs.SplitMix64.{splitmix_seed}
use Rattle.rand_xoshiro.specs.Xoshiro256.{of_seed, plus_plus}
use Rattle.trace_line.specs.declared.line.TraceLine.{TraceLine}
use Rattle.trace_gen.specs.Generated.{line_of, segment_line, segment_lines, lines_from, words_of_seed}

-- What a generator in this state will answer.
abbrev pub stream_at : List ℕ → Stream
stream_at state = stream_of (steps_u64_high plus_plus) state

-- After some lines were drawn the generator answers as one in some state does, and with the lines
-- that this one would give the list is the whole.
pub record IsDrawn (rng : List ℕ) (items : List TraceLine) (number left : ℕ)
    (whole : List TraceLine) :
    Type 0 where
  pub state : List ℕ
  pub answers : stream_at rng ≡ stream_at state
  pub joined : items ++ lines_from number (first_words plus_plus left state) ≡ whole

pub none_drawn :
    (rng : List ℕ) (items : List TraceLine) (seed lines : ℕ)
    → rng ≡ of_seed (splitmix_seed 32 seed)
    → IsDrawn rng items 5 lines (items ++ lines_from 5 (words_of_seed seed lines))
unfolding words_of_seed
none_drawn rng items seed lines is =
    record { state = of_seed (splitmix_seed 32 seed); answers = ap stream_at is; joined = refl }

abbrev answer : ℕ → Stream → ℕ × Stream
answer word stream = (word, stream)

next_of :
    (state : List ℕ)
    → next_u64 (stream_at state) ≡ answer (plus_plus state).0 (stream_at (plus_plus state).1)
unfolding next_u64 stream_of
next_of state = refl

next_lines :
    (number left : ℕ) (state : List ℕ)
    → lines_from number (first_words plus_plus (suc left) state)
    ≡ line_of number (plus_plus state).0
    ∷ lines_from (number + 1) (first_words plus_plus left (plus_plus state).1)
unfolding lines_from first_words
next_lines number left state = refl

pub one_more :
    (rng next : List ℕ) (items new : List TraceLine) (number left after word : ℕ) (line : TraceLine)
    (whole : List TraceLine)
    → IsDrawn rng items number left whole
    → left ≡ suc after
    → answer word (stream_at next) ≡ next_u64 (stream_at rng)
    → line ≡ line_of number word
    → new ≡ items ++ line ∷ []
    → IsDrawn next new (number + 1) after whole
one_more rng next items new number left after word line whole drawn one answered is pushed =
    let both : answer word (stream_at next) ≡ answer (plus_plus drawn.state).0
    (stream_at (plus_plus drawn.state).1) = answered ∙ ap next_u64 drawn.answers ∙ next_of
    drawn.state in
    let drawn_word : word ≡ (plus_plus drawn.state).0 = ap (λ (x : ℕ × Stream). x.0) both in
    let rest = lines_from (number + 1) (first_words plus_plus after (plus_plus drawn.state).1) in
    record {
      state = (plus_plus drawn.state).1;
      answers = ap (λ (x : ℕ × Stream). x.1) both;
      joined =
          ap (λ (xs : List TraceLine). xs ++ rest)
          (pushed
          ∙ ap (λ (l : TraceLine). items ++ l ∷ []) (is ∙ ap (line_of number) drawn_word))
          ∙ append_assoc items (line_of number (plus_plus drawn.state).0 ∷ []) rest
          ∙ ap (λ (xs : List TraceLine). items ++ xs) (sym (next_lines number after drawn.state))
          ∙ ap (λ n. items ++ lines_from number (first_words plus_plus n drawn.state)) (sym one)
          ∙ drawn.joined;
    }

pub all_drawn :
    (rng : List ℕ) (items : List TraceLine) (number left : ℕ) (whole : List TraceLine)
    → IsDrawn rng items number left whole
    → left ≡ 0
    → items ≡ whole
unfolding lines_from first_words
all_drawn rng items number left whole drawn none =
    sym (append-nil items)
    ∙ ap (λ n. items ++ lines_from number (first_words plus_plus n drawn.state)) (sym none)
    ∙ drawn.joined

-- ---- segments
pub one_segment_more :
    (start items new : List TraceLine) (cpu : ℕ) (line : TraceLine)
    → items ≡ start ++ map segment_line (range_with_len 0 cpu)
    → line ≡ segment_line cpu
    → new ≡ items ++ line ∷ []
    → new ≡ start ++ map segment_line (range_with_len 0 (cpu + 1))
one_segment_more start items new cpu line before is pushed =
    pushed
    ∙ ap (λ (l : TraceLine). items ++ l ∷ []) is
    ∙ ap (λ (xs : List TraceLine). xs ++ segment_line cpu ∷ []) before
    ∙ append_assoc start (map segment_line (range_with_len 0 cpu)) (segment_line cpu ∷ [])
    ∙ ap (λ (xs : List TraceLine). start ++ xs)
    (sym (map-range_with_len_more segment_line 0 cpu cpu (omega arith)))

pub all_segments :
    (start items : List TraceLine) (cpu : ℕ)
    → items ≡ start ++ map segment_line (range_with_len 0 cpu)
    → cpu ≡ 4
    → items ≡ start ++ segment_lines
unfolding segment_lines
all_segments start items cpu before all =
    before ∙ ap (λ n. start ++ map segment_line (range_with_len 0 n)) all
