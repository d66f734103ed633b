-- A run line of a partition is its next turn.
use Rattle.std.specs.List.{range_with_len}
use Rattle.std.proofs.Common.{◌≡◌, ◌≢◌, ℕ, ◌+◌, ◌<◌, [], ◌∷◌, ◌++◌, length, map, get_or, refl, sym, ap, ◌∙◌, subst, inl, inr, ◌⊎◌, arith}
use Rattle.std.proofs.lemmas.Bool.{cases_eq}
use Rattle.std.proofs.lemmas.List.{length_push}
use Rattle.std.proofs.lemmas.List.Elements.{All-from_recursion, recursion_from_All, All-push}
use Rattle.hpt_pool.specs.Pool.{no_blocks}
use Rattle.trace_read.specs.Grammar.{Reading}
use Rattle.lpar_set.specs.declared.turn.Turn.{Turn}
use Rattle.lpar_set.specs.OpeningTables.{HasRoomFor, with_openings}
use Rattle.lpar_set.specs.SetTrace.{turns_of}
use Rattle.lpar_set.specs.SetGrammar.{SetReading, reading_of, begun_at}
use Rattle.lpar_set.specs.SetReadings.{HasBegun, IsSetReading, count_at}
use Rattle.lpar_set.proofs.GrantsApart.{pairs_both}
use Rattle.lpar_set.proofs.Retold.{IsRetold, IsSteady, retold_is, steady_begun, steady_orders, told, told_at}
use Rattle.lpar_set.proofs.TurnLines.{StandsAt, stands_at, own_turn, other_turn, lines_push}

-- The turn that a run line of the partition is.
abbrev pub next_turn : SetReading → ℕ → Turn
next_turn r number =
    record { partition = begun_at r.begun number; line = length (reading_of r number).lines }

-- The set with that turn after the others.
abbrev pub with_turn : SetReading → ℕ → Reading → SetReading
with_turn r number new = told r number new r.begun r.tables (r.turns ++ next_turn r number ∷ [])

-- The partition's own lines are one more.
own_count :
    (r : SetReading) (number k : ℕ) (new : Reading)
    → number < length r.readings
    → length new.lines ≡ length (reading_of r number).lines + 1
    → get_or r.begun k 8 ≡ number
    → count_at (with_turn r number new) k ≡ length (reading_of r number).lines + 1
own_count r number k new inside more same =
    told_at (λ (x : Reading). length x.lines ≡ length (reading_of r number).lines + 1) r number
    (get_or r.begun k 8) new inside
    (λ here. more) (λ other. absurd (other same))

-- Those of others are as many as before.
other_count :
    (r : SetReading) (number k : ℕ) (new : Reading)
    → number < length r.readings
    → get_or r.begun k 8 ≢ number
    → count_at (with_turn r number new) k ≡ count_at r k
other_count r number k new inside other =
    told_at (λ (x : Reading). length x.lines ≡ count_at r k) r number (get_or r.begun k 8) new
    inside
    (λ same. absurd (other same)) (λ there. refl)

turn_lines :
    (r : SetReading) (number k : ℕ) (new : Reading)
    → IsSetReading r
    → number < length r.readings
    → length new.lines ≡ length (reading_of r number).lines + 1
    → StandsAt r.begun number
    → k < length r.begun
    → map (λ (t : Turn). t.line) (turns_of k (r.turns ++ next_turn r number ∷ []))
    ≡ range_with_len 0 (count_at (with_turn r number new) k)
turn_lines r number k new is inside more stands within =
    by (cases_eq (begun_at r.begun number) k) where
      by :
          (begun_at r.begun number ≡ k) ⊎ (begun_at r.begun number ≡ k → ⊥)
          → map (λ (t : Turn). t.line) (turns_of k (r.turns ++ next_turn r number ∷ []))
          ≡ range_with_len 0 (count_at (with_turn r number new) k)
      by (inl same) =
          let here : get_or r.begun k 8 ≡ number = subst (λ j. get_or r.begun j 8 ≡ number) same
          (stands.here 8) in
          let count : count_at r k ≡ length (reading_of r number).lines = ap
          (λ (n : ℕ). length (reading_of r n).lines) here in
          ap (map (λ (t : Turn). t.line)) (own_turn k r.turns (next_turn r number) same)
          ∙ lines_push (turns_of k r.turns) (next_turn r number)
          (length (reading_of r number).lines)
          (is.lines k within ∙ ap (range_with_len 0) count) refl
          ∙ ap (range_with_len 0) (sym (own_count r number k new inside more here))
      by (inr other) =
          let apart : get_or r.begun (begun_at r.begun number) 8 ≢ get_or r.begun k 8 = pairs_both
          (λ (n m : ℕ). n ≢ m) r.begun (λ n m differ same. differ (sym same)) is.begun.apart
          (begun_at r.begun number) k 8 other stands.inside within in
          ap (map (λ (t : Turn). t.line)) (other_turn k r.turns (next_turn r number) other)
          ∙ is.lines k within
          ∙ ap (range_with_len 0)
          (sym (other_count r number k new inside (λ same. apart (stands.here 8 ∙ sym same))))

-- A run line keeps what holds of the set.
pub run_keeps :
    (r : SetReading) (number : ℕ) (new : Reading)
    → IsSetReading r
    → length r.turns < r.taken
    → IsRetold r number new
    → IsSteady r number new
    → HasBegun r number
    → length new.lines ≡ length (reading_of r number).lines + 1
    → IsSetReading (with_turn r number new)
run_keeps r number new is counted retold steady begun more =
    let pool = no_blocks r.pool_base r.pool_order in
    let turns = r.turns ++ next_turn r number ∷ [] in
    let orders = steady_orders r number new r.tables turns is retold.inside steady in
    let stands = stands_at r.begun number (is.begun.all number begun) in
    let size : length turns ≡ length r.turns + 1 = length_push r.turns (next_turn r number) in
    let Within : Turn → Type 0 = λ t. t.partition < length r.begun in
    retold_is r number new r.begun r.tables turns is retold (record {
      begun = steady_begun r number new r.tables turns is retold.inside steady;
      tables = is.tables ∙ ap (with_openings pool) (sym orders);
      room = subst (HasRoomFor pool) (sym orders) is.room;
      turns =
          recursion_from_All Within turns
          (All-push Within r.turns (next_turn r number)
          (All-from_recursion Within r.turns is.turns) stands.inside);
      lines = λ k within. turn_lines r number k new is retold.inside more stands within;
      counted = omega (arith, counted, size);
    })
