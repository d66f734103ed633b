use Rattle.std.proofs.Common.{◌≡◌, ◌+◌, ◌<◌, ◌∙◌, refl, ap, sym, subst, arith, set, get_or, drop, length, [], ◌∷◌, ◌++◌, ℕ}
use Rattle.std.specs.Result.{result_unwrap_or}
use Rattle.std.proofs.lemmas.List.FromFn.{length-map-range_with_len}
use Rattle.std.proofs.lemmas.Grind.{drop_more_same}
use Rattle.entry_model.specs.State.{State, empty_state}
use Rattle.c_layout.specs.Grants.{listed}
use Rattle.papr_c.specs.Transfers.{entry_of_bytes, entries_of_bytes, replaced}
use Rattle.papr_c.proofs.Transfers.{entered_at, entries-more, set_replaced}
use Rattle.c_layout.specs.Entries.{Entry, states_of, entry_with, AreMarked}
use Rattle.c_layout.proofs.Marks.{states-length, states-set, marked_none}
use Rattle.papr_c.proofs.LentEntries.{marked-length, marked_set, drop_set, same_rest, replaced_none}
use Rattle.papr_c.proofs.importing.store_entries_in_table.Goals as goal

pub unwrap-state-requires : goal.unwrap-state-requires
unwrap-state-requires c =
    rw c.entry_of_bytes.ensures
    (entered_at (listed c.args.grants.now.grants c.args.grants.now.count) c.args.layout
    c.args.bytes.now c.args.number c.loop-i.i c.requires.entered c.loop-i-test.true)

pub loop-i-preserved : goal.loop-i-preserved
loop-i-preserved c =
    let grants = listed c.args.grants.now.grants c.args.grants.now.count in
    let f : ℕ → State = λ k. result_unwrap_or
    (entry_of_bytes grants c.args.layout c.args.bytes.now k) (empty_state 0) in
    let others = entries_of_bytes grants c.args.layout c.args.bytes.now c.loop-i.i in
    let long : length others ≡ c.loop-i.i = length-map-range_with_len f 0 c.loop-i.i in
    let here : result_unwrap_or (entry_of_bytes grants c.args.layout c.args.bytes.now c.loop-i.i)
    (empty_state 0) ≡ c.unwrap-state.result = ap (λ r. result_unwrap_or r (empty_state 0))
    (sym c.entry_of_bytes.ensures ∙ c.unwrap-state.ensures) in
    let at = c.args.first + c.loop-i.i in
    let old = c.args.entries.now in
    let es = c.loop-i.entries in
    let s = c.unwrap-state.result in
    let below : at < length (states_of old) = omega
    (arith, c.loop-i-test.true, c.requires.in_table) in
    let before :
    get_or es at c.index-entries-first.result ≡ get_or old at c.index-entries-first.result
    = same_rest old es at c.index-entries-first.result (omega (arith, below, states-length old))
    (omega (
      arith,
      below,
      states-length es,
      states-length old,
      marked-length old es c.loop-i.invariant.marks,
    ))
    c.loop-i.invariant.rest in
    let here_after : c.hold.new.self ≡ entry_with (get_or old at c.index-entries-first.result) s =
    c.hold.ensures ∙ ap (λ (e : Entry). entry_with e s) before in
    let after : set es at c.hold.new.self
    ≡ set es at (entry_with (get_or old at c.index-entries-first.result) s) =
    ap (set es at) here_after in
    let below_old : at < length old = omega (arith, below, states-length old) in
    let below_new : at < length es = omega
    (arith, below_old, marked-length old es c.loop-i.invariant.marks) in
    let step : c.args.first + (c.loop-i.i + 1) ≡ at + 1 = omega arith in
    let rest_after : drop (at + 1) (set es at c.hold.new.self) ≡ drop (at + 1) old =
    drop_set es at c.hold.new.self
    ∙ drop_more_same es old at c.loop-i.invariant.rest in
    record {
      states =
          states-set es at c.hold.new.self
          ∙ (λ k. set (c.loop-i.invariant.states k) at (here_after k).state)
          ∙ set_replaced (states_of old) others c.args.first at s (omega (arith, long)) below
          ∙ ap (replaced (states_of old) c.args.first)
          (sym
          (entries-more grants c.args.layout c.args.bytes.now c.loop-i.i
          ∙ ap (λ x. others ++ x ∷ []) here));
      marks =
          subst (AreMarked old) (sym after)
          (marked_set old es at c.index-entries-first.result s below_old
          c.loop-i.invariant.marks);
      rest = rw step rest_after;
    }

pub loop-i-init : goal.loop-i-init
loop-i-init c = record {
  states = replaced_none (states_of c.args.entries.now) c.args.first;
  marks = marked_none c.args.entries.now;
  rest = refl;
}
