-- Making steps in an order, one after the other.
use Rattle.std.specs.List.{AllByRecursion}
use Rattle.std.specs.Prelude.{◌||◌}
use Rattle.std.proofs.Common.{◌≡◌, ℕ, zero, suc, false, arith, ◌+◌, ◌<◌, List, [], ◌∷◌, length, length-set, drop, get_or, set, map, ap, sym, ◌∙◌, refl, subst}
use Rattle.std.proofs.lemmas.List.{drop_more, get_or_default}
use Rattle.entry_model.specs.State.{State, empty_state}
use Rattle.entry_model.specs.Receipt.{is_at, is_change}
use Rattle.entry_model.specs.Run.{state_at}
use Rattle.trace_line.specs.declared.line.TraceLine.{TraceLine}
use Rattle.history_check.specs.declared.mark_steps.LineStep.{LineStep}
use Rattle.history_check.specs.Steps.{next_by, after_step}
use Rattle.history_check.specs.PlacedSteps.{line_op}
use Rattle.history_check.specs.OrderedSteps.{IsStepOf, act_at, numbered_by, found_in_order, ending_in_order, with_written}
use Rattle.history_check.proofs.NextStates.{unchanged_next}
use Rattle.trace_line.specs.Lines.{past_lines}

-- The steps that are left, made from here on, find and leave what all of them do from the first
-- states on.
pub record AreMade (ls : List TraceLine) (a : List State) (order : List LineStep) (i : ℕ)
    (states found : List State) :
    Type 0 where
  pub first : List State
  pub blank : length first ≡ length order
  pub told :
      with_written found (found_in_order states (map (numbered_by ls) (drop i order)))
      ≡ with_written first (found_in_order a (map (numbered_by ls) order))
  pub end :
      ending_in_order states (map (numbered_by ls) (drop i order))
      ≡ ending_in_order a (map (numbered_by ls) order)
  pub size : length states ≡ length a
  pub room : length found ≡ length order
  pub within : AllByRecursion (IsStepOf (length states) (length ls) (length order)) (drop i order)

pub none_made :
    (ls : List TraceLine) (a : List State) (order : List LineStep) (found : List State)
    → length found ≡ length order
    → AllByRecursion (IsStepOf (length a) (length ls) (length order)) order
    → AreMade ls a order 0 a found
none_made ls a order found room within =
    record {
      first = found;
      blank = room;
      told = refl;
      end = refl;
      size = refl;
      room = room;
      within = within;
    }

pub step_within :
    (ls : List TraceLine) (a : List State) (order : List LineStep) (i : ℕ)
    (states found : List State) (d : LineStep)
    → i < length order
    → AreMade ls a order i states found
    → IsStepOf (length states) (length ls) (length order) (get_or order i d)
step_within ls a order i states found d low h =
    (subst (AllByRecursion (IsStepOf (length states) (length ls) (length order)))
    (drop_more order i d low) h.within).0

-- With the next step made one step more is.
pub step_made :
    (ls : List TraceLine) (a : List State) (order : List LineStep) (i : ℕ)
    (states found : List State) (d : LineStep) (l : TraceLine) (s t : State)
    → i < length order
    → s ≡ get_or states (get_or order i d).entry s
    → t
    ≡ next_by (line_op (get_or ls (get_or order i d).line l).act (get_or order i d).answer)
    (get_or order i d).answer s
    → AreMade ls a order i states found
    → AreMade ls a order (i + 1) (set states (get_or order i d).entry t)
    (set found (get_or order i d).index s)
step_made ls a order i states found d l s t low before after h =
    let x = get_or order i d in
    let rest = map (numbered_by ls) (drop (i + 1) order) in
    let here : IsStepOf (length states) (length ls) (length order) x = step_within ls a order i
    states found d low h in
    let cut : drop i order ≡ x ∷ drop (i + 1) order = drop_more order i d low in
    let step = (numbered_by ls x).placed.step in
    let at : s ≡ state_at states x.entry = before ∙ get_or_default states x.entry s (empty_state 0)
    here.entry in
    let line : (get_or ls x.line l).act ≡ act_at ls x.line = ap (λ (z : TraceLine). z.act)
    (get_or_default ls x.line l past_lines here.line) in
    let next : set states x.entry t ≡ after_step states step = ap (set states x.entry)
    (after ∙ (λ j. next_by (line_op (line j) x.answer) x.answer (at j))) in
    record {
      first = h.first;
      blank = h.blank;
      told =
          (λ j. with_written (set found x.index (at j)) (found_in_order (next j) rest))
          ∙ ap (λ z. with_written found (found_in_order states (map (numbered_by ls) z))) (sym cut)
          ∙ h.told;
      end =
          ap (λ z. ending_in_order z rest) next
          ∙ ap (λ z. ending_in_order states (map (numbered_by ls) z)) (sym cut)
          ∙ h.end;
      size = length-set states x.entry t ∙ h.size;
      room = length-set found x.index s ∙ h.room;
      within =
          subst (λ n. AllByRecursion (IsStepOf n (length ls) (length order)) (drop (i + 1) order))
          (sym (length-set states x.entry t))
          (subst (AllByRecursion (IsStepOf (length states) (length ls) (length order))) cut
          h.within).1;
    }

set_own :
    {X : Type 0} (xs : List X) (i : ℕ) (x : X) → x ≡ get_or xs i x → i < length xs → set xs i x ≡ xs
set_own [] i x at low = absurd (omega arith)
set_own (y ∷ ys) zero x at low = ap (λ z. z ∷ ys) at
set_own (y ∷ ys) (suc i) x at low = ap (λ l. y ∷ l) (set_own ys i x at (omega arith))

-- the next step, where its answer shows no change
pub step_kept :
    (ls : List TraceLine) (a : List State) (order : List LineStep) (i : ℕ)
    (states found : List State) (d : LineStep) (s : State)
    → i < length order
    → s ≡ get_or states (get_or order i d).entry s
    → (is_change (get_or order i d).answer || is_at (get_or order i d).answer) ≡ false
    → AreMade ls a order i states found
    → AreMade ls a order (i + 1) states (set found (get_or order i d).index s)
step_kept ls a order i states found d s low before still h =
    let x = get_or order i d in
    let same : set states x.entry s ≡ states = set_own states x.entry s before
    (step_within ls a order i states found d low h).entry in
    subst (λ z. AreMade ls a order (i + 1) z (set found x.index s)) same
    (step_made ls a order i states found d past_lines s s low before
    (unchanged_next (line_op (get_or ls x.line past_lines).act x.answer) x.answer s still)
    h)
