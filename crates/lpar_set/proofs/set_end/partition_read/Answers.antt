use Rattle.std.proofs.Common.{◌≡◌, ◌∙◌, sym, subst, true, Option}
use Rattle.std.specs.Option.{unwrap_or}
use Rattle.std.proofs.lemmas.Bool.{false≢true}
use Rattle.trace_read.specs.Grammar.{Reading, opening_reading}
use Rattle.trace_read.specs.Places.{is_running}
use Rattle.lpar_set.proofs.set_end.partition_read.Goals as goal

pub unreachable-requires : goal.unreachable-requires
unreachable-requires c =
    false≢true
    (subst (λ (o : Option Reading). is_running (unwrap_or o opening_reading).stage ≡ true)
    c.in-None.is (c.requires opening_reading))

pub unreachable-requires-in-Err : goal.unreachable-requires-in-Err
unreachable-requires-in-Err c =
    let running : is_running c.in-Some.reader.stage ≡ true = subst
    (λ (o : Option Reading). is_running (unwrap_or o opening_reading).stage ≡ true) c.in-Some.is
    (c.requires opening_reading) in
    false≢true (sym (c.in-Err.ensures.ends).0 ∙ running)
