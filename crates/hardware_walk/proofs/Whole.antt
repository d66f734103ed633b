-- Over every list of moves.
use Rattle.std.specs.Prelude.{slice_get}
use Rattle.std.proofs.Common.{◌≡◌, ℕ, true, false, List, [], ◌∷◌, replicate, refl, sym, subst, Option, Some, None}
use Rattle.std.proofs.lemmas.Bool.{false≢true}
use Rattle.entry_model.specs.State.{State, IsCanonicalState}
use Rattle.lock_core.proofs.Lists.{none_some, at_copies}
use Rattle.hardware_walk.specs.Words.{unheld_entry}
use Rattle.hardware_walk.specs.Machine.{Phase, Idle, is_idle, Place, Empty, Translated, Machine, opening_machine}
use Rattle.hardware_walk.specs.Steps.{protocol, CallStep, WalkStep, Move, calls, walks, after_call, after_walk, after_move, run}
use Rattle.hardware_walk.specs.Laws.{HistoryIsLegal, WordsAreTheState, TranslationsAreCurrent, UsesAreListed}
use Rattle.hardware_walk.proofs.Answers.{allowed_here}
use Rattle.hardware_walk.proofs.Kept.{Same, FullOk, PhaseOk, PlaceOk, Kept}
use Rattle.hardware_walk.proofs.CallWords.{seen_is}
use Rattle.hardware_walk.proofs.CallSteps.{call_goes}
use Rattle.hardware_walk.proofs.WalkSteps.{walk_goes}

opening_same : (e : ℕ) (s : State) → Same (unheld_entry e s)
opening_same e s = record {
  valid = refl;
  dword0 = λ _. refl;
  memory = λ _. record { dword1 = refl; referenced = refl; changed = refl };
  stamp = refl;
}

opened_kept :
    (e : ℕ) (s : State) (callers places : ℕ)
    → IsCanonicalState s
    → Kept e s (opening_machine e s callers places)
opened_kept e s callers places c = record {
  canonical = c;
  chain = refl;
  index = refl;
  listed = λ n r at. absurd (none_some r at);
  open' = λ _. opening_same e s;
  free = λ _. opening_same e s;
  idle = λ _ i p at. subst (λ z. is_idle z ≡ true) (at_copies callers i Idle p at) refl;
  one =
      λ i j p q at at' h h'.
      absurd
      (false≢true
      (sym (subst (λ z. is_idle z ≡ false) (sym (at_copies callers i Idle p at)) h)));
  phases =
      λ i p at.
      subst (λ z. PhaseOk z (unheld_entry e s) (replicate places Empty))
      (at_copies callers i Idle p at) tt;
  hard =
      λ k w at. subst (λ z. PlaceOk z (unheld_entry e s)) (at_copies places k Empty w at) tt;
  uses = λ n u at. absurd (none_some u at);
}

module _ (number : ℕ) (opening : State) (m : Machine) (k : Kept number opening m) where
  called :
      (i : ℕ) (step : CallStep) (p : Option Phase)
      → slice_get m.callers i ≡ p
      → Kept number opening (after_call protocol m i step p)
  called i step None at = k
  called i step (Some p) at = call_goes number opening m k i p step at

  walked :
      (l : ℕ) (step : WalkStep) (w : Option Place)
      → slice_get m.places l ≡ w
      → Kept number opening (after_walk protocol m l step w)
  walked l step None at = k
  walked l step (Some w) at = walk_goes number opening m k l w step at

  moved : (move : Move) → Kept number opening (after_move protocol m move)
  unfolding after_move
  moved (calls i step) = called i step (slice_get m.callers i) refl
  moved (walks l step) = walked l step (slice_get m.places l) refl

pub run_kept :
    (e : ℕ) (s : State) (callers places : ℕ) (moves : List Move)
    → IsCanonicalState s
    → Kept e s (run protocol (opening_machine e s callers places) moves)
unfolding run
run_kept e s callers places [] c = opened_kept e s callers places c
run_kept e s callers places (move ∷ older) c =
    moved e s (run protocol (opening_machine e s callers places) older)
    (run_kept e s callers places older c) move

pub history : HistoryIsLegal protocol
history e s callers places moves c = (run_kept e s callers places moves c).chain

pub words : WordsAreTheState protocol
words e s callers places moves c free =
    let k = run_kept e s callers places moves c in
    seen_is (run protocol (opening_machine e s callers places) moves).entry k.canonical
    (k.free free)

pub translations : TranslationsAreCurrent protocol
translations e s callers places moves c l old p owed at =
    let k = run_kept e s callers places moves c in
    let ok : FullOk p owed (run protocol
    (opening_machine e s callers places) moves).entry = k.hard l
    (Translated old p owed) at in (
      ok.translation,
      λ op al.
          allowed_here p (run protocol
          (opening_machine e s callers places) moves).entry.published op
          ok.translation al,
    )

pub uses : UsesAreListed protocol
uses e s callers places moves c = (run_kept e s callers places moves c).uses
