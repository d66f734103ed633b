use Rattle.std.specs.Prelude.{All}
use Rattle.std.proofs.Common.{◌≡◌, List, [], ◌∷◌, length, sym, ap, ◌∙◌, subst, arith}
use Rattle.atomic_table.specs.Table.{opening}
use Rattle.entry_model.specs.State.{State}
use Rattle.lock_core.specs.Laws.{IsFair}
use Rattle.entry_lock.specs.declared.rule.Opening.{Opening}
use Rattle.entry_lock.specs.Layout.{entry_words}
use Rattle.entry_lock.specs.Views.{first_view, states_of}
use Rattle.entry_lock.specs.Rule.{ShowsRun}
use Rattle.entry_lock.proofs.Openings.{opens, length_words}
use Rattle.entry_lock.proofs.opening.prepare.Goals as goal

pub of_words-requires : goal.of_words-requires
of_words-requires c =
    let key : Opening = record { states = c.of.result; passes = c.args.passes } in
    let items : states_of key ≡ c.args.states.now.items = ap (λ v. v.items) c.of.ensures in
    let words : c.as_slice-2.result.now ≡ 0 ∷ entry_words (states_of key) =
    c.as_slice-2.ensures.value ∙ c.in_ok-words.ensures.words ∙ ap
    (λ (l : List State). 0 ∷ entry_words l) (c.as_slice.ensures.value ∙ sym items) in
    subst (λ l. ShowsRun key (opening l [] (first_view key))) (sym words) (
      [],
      opens key
          (subst (λ (l : List State). All IsFair l) (c.as_slice.ensures.value ∙ sym items)
          c.in_ok-words.ensures.fair) c.requires,
    )

pub returns-clause-words : goal.returns-clause-words
returns-clause-words c =
    let items : c.as_slice.result.now ≡ c.args.states.now.items = c.as_slice.ensures.value in
    let words = ap length (c.as_slice-2.ensures.value ∙ c.in_ok-words.ensures.words) in
    let many = length_words c.as_slice.result.now in
    let same = ap length items in
    let t = c.in_ok-table.ensures.0 in omega arith
