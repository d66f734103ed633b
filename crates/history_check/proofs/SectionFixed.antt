-- The marks of a section fix its states; and states that are so fixed make it legal.
use Rattle.std.proofs.Common.{◌≡◌, ℕ, ◌<◌, ◌+◌, ◌*◌, List, Bool, true, false, sym, ◌∙◌, refl, subst, map, length}
use Rattle.std.specs.Prelude.{if◌then◌else◌, ◌==◌, ◌||◌, nat_le}
use Rattle.std.specs.List.{AllByRecursion}
use Rattle.entry_model.specs.State.{State}
use Rattle.entry_model.specs.declared.receipt.Receipt.{Receipt}
use Rattle.entry_model.specs.Run.{state_at, IsRun}
use Rattle.entry_model.proofs.Runs.{run-length}
use Rattle.entry_model.specs.History.{IsLegal, history, place, pair_of, Regrouped}
use Rattle.run_model.specs.Stores.{states_of}
use Rattle.run_model.specs.Sections.{AreLegalTo, Section, made_in}
use Rattle.run_model.proofs.SectionGood.{closing_is, each_regrouped}
use Rattle.receipt_text.specs.Receipts.{mark_of}
use Rattle.history_check.specs.Replay.{before_each}
use Rattle.history_check.specs.Steps.{step_op, is_unchanged, place_by, step_of, found_states, ending_states}
use Rattle.history_check.proofs.Alike.{is_store_access, flag_of}
use Rattle.history_check.proofs.Serialized.{Ascending, sorted_run, run_legal, run_fixes, fixed_run}
use Rattle.history_check.specs.FoundSection.{closing_of}

-- ---- a section
pub section_fixes :
    (s : Section) (closing : List State) (ms : List Receipt)
    → length closing ≡ length (states_of s.before)
    → AreLegalTo s closing
    → Regrouped (made_in s) ms
    → Ascending ms
    → (before_each ms ≡ found_states (states_of s.before) (map step_of ms))
    × (closing ≡ ending_states (states_of s.before) (map step_of ms))
section_fixes s closing ms size g same up =
    run_fixes (states_of s.before) closing ms
    (sorted_run (states_of s.before) closing (made_in s) ms same up size g.in_table g.legal)

pub fixed_section :
    (s : Section) (ms : List Receipt)
    → Regrouped ms (made_in s)
    → AllByRecursion (λ (r : Receipt). r.entry < length (states_of s.before)) ms
    → before_each ms ≡ found_states (states_of s.before) (map step_of ms)
    → AreLegalTo s (closing_of s)
    × (closing_of s ≡ ending_states (states_of s.before) (map step_of ms))
fixed_section s ms same within found =
    let a = states_of s.before in
    let b = ending_states a (map step_of ms) in
    let run : IsRun a ms b = fixed_run a ms within found in
    let legal : (e : ℕ) → IsLegal (state_at a e) (history e (made_in s)) (state_at b e) = run_legal
    a b ms (made_in s) same run in
    let close : closing_of s ≡ b = closing_is a b (made_in s) (run-length a b ms run)
    (λ e k. legal e) in (
      record {
        in_table = each_regrouped (λ (r : Receipt). r.entry < length a) same within;
        legal =
            λ e k.
            subst (λ z. IsLegal (state_at a e) (history e (made_in s)) (state_at z e)) (sym close)
            (legal e);
      },
      close,
    )

-- ---- places by marks
digit_first : (r c : Bool) → nat_le 2 ((if r then 2 else 0) + (if c then 1 else 0)) ≡ r
digit_first true true = refl
digit_first true false = refl
digit_first false true = refl
digit_first false false = refl

abbrev odd : ℕ → Bool
odd n = (n == 1) || (n == 3)

digit_second : (r c : Bool) → odd ((if r then 2 else 0) + (if c then 1 else 0)) ≡ c
digit_second true true = refl
digit_second true false = refl
digit_second false true = refl
digit_second false false = refl

pub place_is : (r : Receipt) → place r ≡ place_by (mark_of r) (is_store_access (step_op r.op))
unfolding place pair_of place_by
place_is r =
    let s = r.before in
    let one = digit_first s.referenced s.changed in
    let two = digit_second s.referenced s.changed in
    λ i.
    (s.stamp * 4 + ((if sym one i then 1 else 0) + (if sym two i then 1 else 0))) * 2
    +
    (if
    (flag_of r
    ∙
    (λ j.
    is_unchanged (is_store_access (step_op r.op)) r.answer (sym one j) (sym two j)))
    i then 0 else 1)
