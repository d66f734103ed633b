use Rattle.std.proofs.Common.{◌≡◌, ◌∙◌, ap, replicate}
use Rattle.hpte_fields.specs.TableSize.{entry_count, least_order}
use Rattle.entry_model.specs.State.{State, empty_state}
use Rattle.run_model.specs.Stores.{opening_window}
use Rattle.run_model.proofs.windows.WindowEntries.open.Goals as goal

pub returns : goal.returns
unfolding opening_window
returns c =
    let states : c.in_ok-states.states.items ≡ replicate (entry_count least_order) (empty_state 0) =
    c.in_ok-states.ensures.items_if_clones_equal (λ y h. h) ∙ ap
    (λ (s : State). replicate (entry_count least_order) s) c.empty.ensures in
    λ i. record { window = c.args.window; states = states i }
