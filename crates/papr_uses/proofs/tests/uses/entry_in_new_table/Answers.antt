use Rattle.std.proofs.Common.{ℕ, zero, suc, replicate, refl, arith}
use Rattle.std.specs.List.{AllByRecursion}
use Rattle.entry_model.specs.State.{empty_state}
use Rattle.hpt_walk.specs.Laws.{IsEntryState}
use Rattle.papr_uses.proofs.tests.uses.entry_in_new_table.Goals as goal

-- An empty entry is as entries are.
fair : IsEntryState (empty_state 0)
fair = record {
  canonical = record {
    apart = refl;
    no_first = λ clear. refl;
    no_second = λ clear. refl;
    no_reference = λ clear. refl;
    no_change = λ clear. refl;
  };
  fits = omega arith;
}

all_fair : (n : ℕ) → AllByRecursion IsEntryState (replicate n (empty_state 0))
all_fair zero = tt
all_fair (suc n) = (fair, all_fair n)

pub entry_of_page-requires : goal.entry_of_page-requires
entry_of_page-requires c =
    rw (c.open-table.ensures.states, c.in_ok-states.ensures.empty) (all_fair _)
