use Rattle.std.proofs.Common.{length, replicate, refl, ap, sym, ◌∙◌}
use Rattle.entry_model.specs.State.{empty_state}
use Rattle.c_layout.specs.Entries.{Entry, states_of, entry_with}
use Rattle.c_layout.proofs.Marks.{states-length}
use Rattle.papr_c.proofs.Ranges.{between_all, emptied_is, emptied_states, wiped_states}
use Rattle.papr_c.proofs.rehashing.carry.Goals as goal

pub rehash_into-requires-clause-empty : goal.rehash_into-requires-clause-empty
rehash_into-requires-clause-empty c =
    let into = c.args.into.now in
    ap states_of
    (c.clear.ensures
    ∙ sym (emptied_is 0 (length into) into)
    ∙ between_all (λ (e : Entry). entry_with e (empty_state 0)) into (length into) refl)
    ∙ emptied_states (empty_state 0) into
    ∙ ap (λ n. replicate n (empty_state 0)) (sym (states-length into) ∙ c.requires.to_whole)

pub returns-in-Err-clause-table : goal.returns-in-Err-clause-table
returns-in-Err-clause-table c =
    rw c.in-Err.ensures.told
    (ap states_of c.wipe.ensures
    ∙ wiped_states c.rehash_into.new.into
    ∙ ap (λ n. replicate n (empty_state 0))
    (c.rehash_into.auto.into
    ∙ c.clear.auto.entries
    ∙ sym (states-length c.args.into.now)
    ∙ c.requires.to_whole))
