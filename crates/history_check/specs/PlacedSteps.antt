-- Steps with their places: the states that they find when they are made in the order of their
-- places.
use Rattle.std.specs.Prelude.{◌≡◌, ℕ, ◌<◌, Bool, false, List, [], ◌∷◌, length, map, slice_index, IsPermutation, Option, Some, None}
use Rattle.std.specs.List.{AllByRecursion}
use Rattle.std.specs.List.Sorted.{IsNonDecreasingBy}
use Rattle.entry_model.specs.State.{State}
use Rattle.authority_mask.specs.Authority.{no_masks}
use Rattle.entry_model.specs.declared.operation.Op.{Op}
use Rattle.entry_model.specs.declared.operation.Op.TheVariants as ops
use Rattle.entry_model.specs.declared.operation.Answer.{Answer}
use Rattle.entry_model.specs.declared.operation.Answer.TheVariants.{Entered, Taken}
use Rattle.entry_model.specs.declared.receipt.Receipt.{Receipt}
use Rattle.entry_model.specs.History.{place}
use Rattle.entry_model.specs.Reply.{is_store, no_test}
use Rattle.dma_window.specs.Entries.{first_word, second_word}
use Rattle.run_model.specs.StoreContexts.{StoreContext}
use Rattle.hpte_fields.specs.Fields.{normal_words}
use Rattle.papr_codes.specs.Hcalls.{hcall_of}
use Rattle.papr_codes.specs.declared.calls.Hcall.{Hcall}
use Rattle.papr_codes.specs.declared.calls.Hcall.TheVariants as calls
use Rattle.trace_line.specs.declared.act.Act.{Act}
use Rattle.trace_line.specs.declared.act.Act.TheVariants as acts
use Rattle.run_model.specs.LineReplies.{hcall_plan}
use Rattle.receipt_text.specs.declared.mark.Mark.{Mark}
use Rattle.history_check.specs.Steps.{Step, step_of, unless_worn, place_by, ops_of, found_states, ending_states}

-- ---- operations of lines
-- The operations that a line names one by one: those of a hypervisor call.
abbrev pub named_ops : StoreContext → Act → List Op
named_ops context (acts.Call number args spelt) =
    ops_of (hcall_plan context (hcall_of number) args).calls
named_ops context other = []

-- What is kept of each operation that enters these words.
abbrev pub enter_op : Option (ℕ × ℕ) → Op
enter_op None = ops.Read
enter_op (Some w) = ops.Enter w.0 w.1

-- What is kept of each operation by which this TCE is put. It empties the entry, and what is
-- answered Entered or Taken enters the TCE there.
abbrev pub tce_op : ℕ → Answer → Op
tce_op tce Entered = ops.Enter (first_word tce) (second_word tce)
tce_op tce Taken = ops.Enter (first_word tce) (second_word tce)
tce_op tce other = ops.Remove no_test

-- What is kept of each operation of a hypervisor call with these arguments that was answered so.
abbrev pub call_op : Hcall → List ℕ → Answer → Op
call_op calls.Enter args answer =
    enter_op (normal_words (slice_index args 2) (slice_index args 3))
call_op calls.Remove args answer = ops.Remove no_test
call_op calls.Protect args answer = ops.Protect no_test (slice_index args 0)
call_op calls.ClearRef args answer = ops.ClearRef
call_op calls.ClearMod args answer = ops.ClearMod
call_op calls.BulkRemove args answer = ops.Remove no_test
call_op calls.PutTce args answer = tce_op (slice_index args 2) answer
call_op other args answer = ops.Read

-- What is kept of each operation of a line that was answered so, if the stamp was not at its last
-- value.
abbrev pub act_op : Act → Answer → Op
act_op (acts.Call number args spelt) answer = call_op (hcall_of number) args answer
act_op (acts.Access want ea user) answer = ops.Access 0 0 false false want no_masks
act_op other answer = ops.Read

-- What is kept of each operation of a line that was answered so: in that they are alike.
abbrev pub line_op : Act → Answer → Op
line_op act answer = unless_worn answer (act_op act answer)

-- The operations of a line are stores of a processor.
abbrev pub is_store_act : Act → Bool
is_store_act (acts.Access want ea user) = is_store want
is_store_act other = false

-- ---- from receipts, and from what their text shows
-- A step, and its place in its entry's history.
pub record PlacedStep : Type 0 where
  pub place : ℕ
  pub step : Step

-- A receipt's step and place.
abbrev pub placed_step : Receipt → PlacedStep
placed_step r = record { place = place r; step = step_of r }

-- The step of a line's receipt with this mark, and its place.
abbrev pub placed_mark : Act → Mark → PlacedStep
placed_mark act m = record {
  place = place_by m (is_store_act act);
  step = record { entry = m.entry; op = line_op act m.answer; answer = m.answer };
}

-- The steps of a line whose reply shows these marks.
abbrev pub placed_line : Act → List Mark → List PlacedStep
placed_line act ms = map (placed_mark act) ms

-- ---- in the order of places
-- A step, and the state that it found.
pub record FoundStep : Type 0 where
  pub placed : PlacedStep
  pub state : State

-- Each step with the state that is listed for it.
abbrev pub with_states_found : List PlacedStep → List State → List FoundStep
with_states_found [] ss = []
with_states_found (x ∷ xs) [] = []
with_states_found (x ∷ xs) (s ∷ ss) =
    record { placed = x; state = s } ∷ with_states_found xs ss

-- Made from these states on in an order of their places, the steps find the states that are listed
-- for them, and end on those.
pub record FindStates
    (states : List State)
    (xs : List PlacedStep)
    (listed : List State)
    (ending : List State)
    : Type 0
  where
    pub size : length listed ≡ length xs
    pub order : List FoundStep
    pub each_once : IsPermutation (with_states_found xs listed) order
    pub ascending : IsNonDecreasingBy (λ (x : FoundStep). x.placed.place) order
    pub found :
        map (λ (x : FoundStep). x.state) order
        ≡ found_states states (map (λ (x : FoundStep). x.placed.step) order)
    pub ends : ending ≡ ending_states states (map (λ (x : FoundStep). x.placed.step) order)

-- The steps are on entries of a table of this size.
abbrev pub AreInTable : ℕ → List PlacedStep → Type 0
AreInTable size xs = AllByRecursion (λ (x : PlacedStep). x.step.entry < size) xs
