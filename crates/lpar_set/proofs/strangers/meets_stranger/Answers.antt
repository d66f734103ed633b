use Rattle.std.proofs.Common.{◌≡◌, List, Option, None, false, sym, slice_set, arith, length-set}
use Rattle.std.proofs.lemmas.List.Elements.{All-from_get_or}
use Rattle.std.proofs.lemmas.List.Folds.{list_any_none}
use Rattle.trace_read.specs.Grammar.{Reading}
use Rattle.lpar_set.specs.SetGrammar.{meets_any}
use Rattle.lpar_set.proofs.strangers.meets_stranger.Goals as goal

pub returns : goal.returns
returns c =
    let others : List (Option Reading) = slice_set c.args.readings.now c.args.number None in
    sym
    (list_any_none (meets_any c.args.grant.now) others
    (All-from_get_or (λ o. meets_any c.args.grant.now o ≡ false) others None (λ k inside.
    c.loop-i.invariant k
    (omega (arith, inside, length-set c.args.readings.now c.args.number None)))))
