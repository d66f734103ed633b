use Rattle.std.specs.Prelude.{nat_eq}
use Rattle.std.specs.HashMap.{get}
use Rattle.std.proofs.Common.{◌≡◌, ℕ, None, arith, ap, ◌∙◌}
use Rattle.std.proofs.lemmas.Grind.{common_steps}
use Rattle.history_check.specs.FrontKeeping.{kept_front}
use Rattle.history_check.proofs.ListedFronts.{listed_front, all_listed, none_listed}
use Rattle.history_check.proofs.fronts.Fronts.new.Goals as goal

pub returns-then-opening-most : goal.returns-then-opening-most
returns-then-opening-most c =
    let none : (q : ℕ) → get nat_eq c.new-then-opening-most.result q ≡ None = λ q. grind
    (arith, common_steps, c.new-then-opening-most.ensures.empty) in
    λ e.
    ap (λ l. listed_front l (kept_front c.new-then-opening-most.result c.args.opening.now) e)
    c.new.ensures.items
    ∙ none_listed c.new-then-opening-most.result c.args.opening.now e none

pub returns : goal.returns
returns c =
    let none : (q : ℕ) → get nat_eq c.new-2.result q ≡ None = λ q. grind
    (arith, common_steps, c.new-2.ensures.empty) in
    λ e.
    ap (λ l. listed_front l (kept_front c.new-2.result c.args.opening.now) e) c.in_ok-list.ensures
    ∙ all_listed c.new-2.result c.args.opening.now e none
