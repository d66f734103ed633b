-- A section that is found from what it needs of a run is found of the run.
use Rattle.std.proofs.Common.{◌≡◌, ℕ, ◌≤◌, ◌∙◌, sym, subst, length, true, false, List, Option, Some, None, Result, Ok, Err}
use Rattle.std.specs.Prelude.{is_some, IfOk, IfSome, IfNone}
use Rattle.entry_model.specs.State.{State}
use Rattle.tlb_model.specs.Processor.{Processor}
use Rattle.trace_line.specs.declared.line.TraceLine.{TraceLine}
use Rattle.trace_reply.specs.Replies.{lines_with_replies}
use Rattle.hpt_resize.specs.TableMemory.{with_states}
use Rattle.run_model.specs.Stores.{Store}
use Rattle.run_model.specs.Sections.{section_end}
use Rattle.history_check.specs.FoundSection.{Opening, opening_of, HasSection, HasNoSection, TellsSection}
use Rattle.history_check.specs.StoreParts.{LeavesStore}

-- The run with these states of its table, and these processors.
abbrev pub run_with : Store → List State → List Processor → Store
run_with w states processors =
    record w { memory = with_states w.memory states; processors = processors }

ends_with :
    (w : Store) (ls : List TraceLine) (text : List ℕ) (n : ℕ) (states : List State)
    (processors : List Processor) (h : HasSection (opening_of w) ls text n states processors)
    → run_with w states processors ≡ section_end w (lines_with_replies ls h.replies)
unfolding section_end
ends_with w ls text n states processors h = λ i. run_with w (sym h.closes i) (sym h.behind i)

pub found_in_run :
    {E : Type 0} (found : Result (Option ℕ) E) (old new : Store) (o : Opening)
    (lines : List TraceLine) (text : List ℕ) (states : List State) (processors : List Processor)
    → opening_of old ≡ o
    → new ≡ run_with old states processors
    → IfOk found (λ f. TellsSection o lines text f states processors)
    → IfOk found (λ f. IfSome f (λ n. LeavesStore old new lines text n))
found_in_run (Ok (Some n)) old new o lines text states processors is after h =
    let found : HasSection (opening_of old) lines text n states processors = subst
    (λ z. HasSection z lines text n states processors) (sym is) h.1 in
    record {
      replies = found.replies;
      found = found.found;
      behind = after ∙ ends_with old lines text n states processors found;
    }
found_in_run (Ok None) old new o lines text states processors is after h = tt
found_in_run (Err e) old new o lines text states processors is after h = tt

pub not_in_run :
    {E : Type 0} (found : Result (Option ℕ) E) (old : Store) (o : Opening) (lines : List TraceLine)
    (text : List ℕ) (states : List State) (processors : List Processor)
    → opening_of old ≡ o
    → IfOk found (λ f. TellsSection o lines text f states processors)
    → IfOk found (λ f. IfNone f (HasNoSection (opening_of old) lines text))
not_in_run (Ok (Some n)) old o lines text states processors is h = tt
not_in_run (Ok None) old o lines text states processors is h =
    subst (λ z. HasNoSection z lines text) (sym is) h
not_in_run (Err e) old o lines text states processors is h = tt

pub within_text :
    {E : Type 0} (found : Result (Option ℕ) E) (o : Opening) (lines : List TraceLine)
    (text : List ℕ) (states : List State) (processors : List Processor)
    → IfOk found (λ f. TellsSection o lines text f states processors)
    → IfOk found (λ f. IfSome f (λ n. n ≤ length text))
within_text (Ok (Some n)) o lines text states processors h = h.0
within_text (Ok None) o lines text states processors h = tt
within_text (Err e) o lines text states processors h = tt

-- ---- a section, by whether it is found
pub told_at :
    (o o' : Opening) (ls ls' : List TraceLine) (text text' : List ℕ) (found : Option ℕ)
    (states : List State) (processors : List Processor)
    → o ≡ o'
    → ls ≡ ls'
    → text ≡ text'
    → TellsSection o ls text found states processors
    → TellsSection o' ls' text' found states processors
told_at o o' ls ls' text text' found states processors same lines words h =
    subst
    (λ (z : Opening × List TraceLine × List ℕ).
    TellsSection z.0 z.1 z.2 found states processors) (λ i. (same i, lines i, words i)) h

pub none_found :
    (o : Opening) (ls : List TraceLine) (text : List ℕ) (found : Option ℕ) (states : List State)
    (processors : List Processor)
    → TellsSection o ls text found states processors
    → is_some found ≡ false
    → HasNoSection o ls text
none_found o ls text (Some n) states processors h e = absurd (let clash : true ≡ false = e in cc)
none_found o ls text None states processors h e = h
