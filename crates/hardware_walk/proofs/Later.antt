-- What is made later.
use Rattle.std.specs.Prelude.{slice_get}
use Rattle.std.proofs.Common.{◌≡◌, ℕ, zero, suc, ◌≤◌, List, [], ◌∷◌, ◌++◌, refl, sym, ap, ◌∙◌, subst, Option, Some, None, arith, append-nil, append_assoc}
use Rattle.entry_model.specs.State.{State}
use Rattle.entry_model.specs.History.{IsLegal, pair_of}
use Rattle.entry_model.specs.Receipt.{after_of}
use Rattle.entry_model.specs.declared.receipt.Receipt.{Receipt}
use Rattle.entry_model.proofs.FrontLaws.{after_rises}
use Rattle.lock_core.proofs.Lists.{some_same, none_some}
use Rattle.hardware_walk.specs.Machine.{Phase, Place, Machine, opening_machine}
use Rattle.hardware_walk.specs.Steps.{Orders, protocol, CallStep, WalkStep, Move, calls, walks, logged, after_call, after_walk, after_move, run}
use Rattle.hardware_walk.specs.Laws.{ReceiptsComeLater}
use Rattle.hardware_walk.proofs.Whole.{run_kept}

-- The second part of a legal history begins where the first ends.
second_part :
    (a b c : State) (xs ys : List Receipt)
    → IsLegal a xs b
    → IsLegal a (xs ++ ys) c
    → IsLegal b ys c
second_part a b c [] ys first whole = subst (λ s. IsLegal s ys c) (sym first) whole
second_part a b c (x ∷ xs) ys first whole =
    second_part (after_of x) b c xs ys first.1 whole.1

none_before :
    (a b : State) (rs : List Receipt)
    → IsLegal a rs b
    → (j : ℕ) (r : Receipt)
    → slice_get rs j ≡ Some r
    → pair_of a ≤ pair_of r.before
none_before a b [] legal j r at = absurd (none_some r at)
none_before a b (x ∷ rs) legal zero r at =
    let same : x ≡ r = some_same x r at in
    let e : pair_of a ≡ pair_of r.before = ap pair_of (sym legal.0 ∙ ap (λ
    (z : Receipt). z.before) same)
    in
    omega (arith, e)
none_before a b (x ∷ rs) legal (suc j) r at =
    let rest = none_before (after_of x) b rs legal.1 j r at in
    let up = after_rises x in
    let e : pair_of x.before ≡ pair_of a = ap pair_of legal.0 in
    omega (arith, rest, up, e)

-- The log grows at its end.
Grown : Machine → Machine → Type 0
Grown m n = (made : List Receipt) × (n.log ≡ m.log ++ made)

grown_log :
    (log : List Receipt) (made : Option Receipt)
    → (rs : List Receipt) × (logged log made ≡ log ++ rs)
grown_log log None = ([], sym (append-nil log))
grown_log log (Some r) = (r ∷ [], refl)

grown_call :
    (orders : Orders) (m : Machine) (i : ℕ) (step : CallStep) (p : Option Phase)
    → Grown m (after_call orders m i step p)
unfolding Grown
grown_call orders m i step None = ([], sym (append-nil m.log))
grown_call orders m i step (Some p) = grown_log m.log _

grown_walk :
    (orders : Orders) (m : Machine) (l : ℕ) (step : WalkStep) (w : Option Place)
    → Grown m (after_walk orders m l step w)
unfolding Grown
grown_walk orders m l step None = ([], sym (append-nil m.log))
grown_walk orders m l step (Some w) = grown_log m.log _

grown_move : (orders : Orders) (m : Machine) (move : Move) → Grown m (after_move orders m move)
unfolding after_move
grown_move orders m (calls i step) = grown_call orders m i step (slice_get m.callers i)
grown_move orders m (walks l step) = grown_walk orders m l step (slice_get m.places l)

grown_on : (l m n : Machine) → Grown l m → Grown m n → Grown l n
unfolding Grown
grown_on l m n a b =
    (a.0 ++ b.0, b.1 ∙ ap (λ z. z ++ b.0) a.1 ∙ append_assoc l.log a.0 b.0)

grown_run :
    (orders : Orders) (m : Machine) (newer older : List Move)
    → Grown (run orders m older) (run orders m (newer ++ older))
unfolding run Grown
grown_run orders m [] older = ([], sym (append-nil (run orders m older).log))
grown_run orders m (move ∷ newer) older =
    grown_on (run orders m older) (run orders m (newer ++ older))
    (after_move orders (run orders m (newer ++ older)) move) (grown_run orders m newer older)
    (grown_move orders (run orders m (newer ++ older)) move)

pub later : ReceiptsComeLater protocol
unfolding Grown
later e s callers places newer older c =
    let m : Machine = run protocol (opening_machine e s callers places) older in
    let n : Machine = run protocol (opening_machine e s callers places) (newer ++ older) in
    let g = grown_run protocol (opening_machine e s callers places) newer older in
    let first = (run_kept e s callers places older c).chain in
    let whole = (run_kept e s callers places (newer ++ older) c).chain in (
      g.0,
      g.1,
      none_before m.entry.published n.entry.published g.0
          (second_part s m.entry.published n.entry.published m.log g.0 first
          (subst (λ z. IsLegal s z n.entry.published) g.1 whole)),
    )
