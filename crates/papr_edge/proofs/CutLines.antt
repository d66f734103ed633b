-- An input is cut at its first line `replies`, one line after the other.
use Rattle.std.specs.Prelude.{MatchOption, unwrap_or, slice_index, ◌==◌, if◌then◌else◌}
use Rattle.std.specs.Borrow.{Bor}
use Rattle.std.specs.List.{slice_split, join_with_byte}
use Rattle.std.specs.Option.{option_map}
use Rattle.std.proofs.Common.{◌≡◌, ℕ, ◌+◌, ◌-◌, ◌≤◌, List, [], ◌∷◌, ◌++◌, length, take, Option, Some, None, true, false, refl, sym, ap, ◌∙◌, append_assoc, arith, length-append}
use Rattle.std.proofs.Math.Seq.{take-append_seam}
use Rattle.std.proofs.lemmas.List.{append-nil, length-take-le}
use Rattle.std.proofs.lemmas.List.Sums.{count_by-le-length}
use Rattle.std.proofs.lemmas.List.Splits.{join_with_byte-slice_split, length-slice_split}
use Rattle.trace_read.specs.TextLines.{is_lf, raw_lines, without_last}
use Rattle.trace_read.specs.Rest.{parts_left}
use Rattle.papr_edge.specs.Inputs.{is_replies_line, cut_lines}

-- The parts, with bytes before those of the trace.
abbrev pub behind : List ℕ → List ℕ × List ℕ → List ℕ × List ℕ
behind front parts = (front ++ parts.0, parts.1)

-- The first lines were looked at, and none of them is the one that is looked for; the rest begins
-- after these bytes.
pub record IsCutTo (bytes : List ℕ) (start : ℕ) (left : Option (Bor (List ℕ))) : Type 0 where
  pub cut :
      cut_lines (slice_split is_lf bytes)
      ≡ option_map (behind (take start bytes)) (cut_lines (parts_left left))
  pub rest :
      MatchOption left (Unit {0})
      (λ r. (start ≤ length bytes) × (bytes ≡ take start bytes ++ r.now))

-- A front, a line and its LF stand before the rest.
line_taken :
    (front line rest : List ℕ)
    → take (length front + length line + 1) (front ++ (line ++ 10 ∷ rest))
    ≡ front ++ (line ++ 10 ∷ [])
line_taken front line rest =
    let whole : List ℕ = front ++ (line ++ 10 ∷ []) in
    let size : length whole ≡ length front + length line + 1 = omega
    (arith, length-append front (line ++ 10 ∷ []), length-append line (10 ∷ [])) in
    let parts : front ++ (line ++ 10 ∷ rest) ≡ whole ++ rest = ap (λ x. front ++ x)
    (sym (append_assoc line (10 ∷ []) rest)) ∙ sym (append_assoc front (line ++ 10 ∷ []) rest)
    in
    ap (λ n. take n (front ++ (line ++ 10 ∷ rest))) (sym size)
    ∙ ap (take (length whole)) parts
    ∙ take-append_seam whole rest

both_before :
    (front line : List ℕ) (o : Option (List ℕ × List ℕ))
    → option_map (behind front)
    (option_map (λ (parts : List ℕ × List ℕ). (line ++ 10 ∷ parts.0, parts.1)) o)
    ≡ option_map (behind (front ++ (line ++ 10 ∷ []))) o
both_before front line None = refl
both_before front line (Some parts) =
    ap (λ x. Some (x, parts.1))
    (ap (λ x. front ++ x) (sym (append_assoc line (10 ∷ []) parts.0))
    ∙ sym (append_assoc front (line ++ 10 ∷ []) parts.0))

other_line :
    (line : List ℕ) (rest : List (List ℕ))
    → is_replies_line line ≡ false
    → cut_lines (line ∷ rest)
    ≡ option_map (λ (parts : List ℕ × List ℕ). (line ++ 10 ∷ parts.0, parts.1)) (cut_lines rest)
other_line line rest other = rw other refl

-- One line more that isn't the one.
pub cut_on :
    (bytes : List ℕ) (start : ℕ) (text : Bor (List ℕ)) (line : List ℕ)
    (after : Option (Bor (List ℕ)))
    → IsCutTo bytes start (Some text)
    → slice_split is_lf text.now ≡ line ∷ parts_left after
    → MatchOption after (text.now ≡ line) (λ rest. text.now ≡ line ++ 10 ∷ rest.now)
    → is_replies_line line ≡ false
    → IsCutTo bytes (start + (length line + 1)) after
cut_on bytes start text line None so_far parts whole other =
    record {
      cut =
          so_far.cut
          ∙ ap (λ ls. option_map (behind (take start bytes)) (cut_lines ls)) parts
          ∙ ap (option_map (behind (take start bytes))) (other_line line [] other);
      rest = tt;
    }
cut_on bytes start text line (Some rest) so_far parts whole other =
    record { cut = cut; rest = (short, joined ∙ ap (λ x. x ++ rest.now) (sym taken)) } where
      front : List ℕ
      front = take start bytes

      front_size : length front ≡ start
      front_size = length-take-le start bytes so_far.rest.0

      split : bytes ≡ front ++ (line ++ 10 ∷ rest.now)
      split = so_far.rest.1 ∙ ap (λ x. front ++ x) whole

      taken : take (start + (length line + 1)) bytes ≡ front ++ (line ++ 10 ∷ [])
      taken = let size :
          start + (length line + 1) ≡ length front + length line + 1 =
          omega (arith, front_size) in (λ i. take (size i) (split i))
          ∙ line_taken front line rest.now

      joined : bytes ≡ (front ++ (line ++ 10 ∷ [])) ++ rest.now
      joined =
          split
          ∙ ap (λ x. front ++ x) (sym (append_assoc line (10 ∷ []) rest.now))
          ∙ sym (append_assoc front (line ++ 10 ∷ []) rest.now)

      short : start + (length line + 1) ≤ length bytes
      short =
          omega (
            arith,
            front_size,
            ap length split,
            length-append front (line ++ 10 ∷ rest.now),
            length-append line (10 ∷ rest.now),
          )

      cut :
          cut_lines (slice_split is_lf bytes)
          ≡ option_map (behind (take (start + (length line + 1)) bytes))
          (cut_lines (parts_left (Some rest)))
      cut =
          so_far.cut
          ∙ ap (λ ls. option_map (behind front) (cut_lines ls)) parts
          ∙ ap (option_map (behind front)) (other_line line (parts_left (Some rest)) other)
          ∙ both_before front line (cut_lines (parts_left (Some rest)))
          ∙ ap (λ f. option_map (behind f) (cut_lines (parts_left (Some rest)))) (sym taken)

-- What follows a line, joined again.
pub rest_bytes : Option (Bor (List ℕ)) → List ℕ
rest_bytes None = []
rest_bytes (Some rest) = rest.now

rest_joined :
    (after : Option (Bor (List ℕ))) → join_with_byte 10 (parts_left after) ≡ rest_bytes after
unfolding rest_bytes
rest_joined None = refl
rest_joined (Some rest) = join_with_byte-slice_split 10 rest.now

-- The line that is looked for.
pub cut_at :
    (bytes : List ℕ) (start : ℕ) (text : Bor (List ℕ)) (line : List ℕ)
    (after : Option (Bor (List ℕ)))
    → IsCutTo bytes start (Some text)
    → slice_split is_lf text.now ≡ line ∷ parts_left after
    → is_replies_line line ≡ true
    → cut_lines (slice_split is_lf bytes) ≡ Some (take start bytes, rest_bytes after)
cut_at bytes start text line after so_far parts found =
    let here : cut_lines (line ∷ parts_left after) ≡ Some ([], join_with_byte 10 (parts_left after))
    = rw found refl in
    so_far.cut
    ∙ ap (λ ls. option_map (behind (take start bytes)) (cut_lines ls)) parts
    ∙ ap (option_map (behind (take start bytes))) here
    ∙ ap (λ x. Some (take start bytes ++ [], x)) (rest_joined after)
    ∙ ap (λ x. Some (x, rest_bytes after)) (append-nil (take start bytes))

-- The rest is what a default of no bytes makes of it.
pub unwrapped :
    (after : Option (Bor (List ℕ))) (none : Bor (List ℕ))
    → none.now ≡ []
    → rest_bytes after ≡ (unwrap_or after none).now
unfolding rest_bytes
unwrapped None none empty = sym empty
unwrapped (Some rest) none empty = refl

-- ---- how many lines there are
without_last-le : (c : ℕ) (bytes : List ℕ) → length (without_last c bytes) ≤ length bytes
without_last-le c bytes =
    elim (slice_index bytes (length bytes - 1) == c) as
    (λ v. length (if v then take (length bytes - 1) bytes else bytes) ≤ length bytes) [
      | true ↦ omega (arith, length-take-le (length bytes - 1) bytes (omega arith))
      | false ↦ omega arith
    ]

-- There is at most one line more than there are bytes.
pub few_lines : (bytes : List ℕ) → length (raw_lines bytes) ≤ length bytes + 1
few_lines [] = omega arith
few_lines (c ∷ cs) =
    let last : List ℕ = without_last 10 (c ∷ cs) in
    omega (
      arith,
      length-slice_split is_lf last,
      count_by-le-length is_lf last,
      without_last-le 10 (c ∷ cs),
    )

-- A text has a line, if an empty one.
pub some_line : (text : Bor (List ℕ)) → 1 ≤ length (parts_left (Some text))
some_line text = omega (arith, length-slice_split is_lf text.now)
