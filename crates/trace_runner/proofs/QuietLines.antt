-- What lines leave of the page table as it is, and a quiet line of all stores.
use Rattle.std.proofs.Common.{◌≡◌, List, map, refl, length}
use Rattle.std.proofs.lemmas.Bool.{cond_both}
use Rattle.trace_line.specs.declared.line.TraceLine.{TraceLine}
use Rattle.trace_line.specs.Lines.{is_quiet}
use Rattle.trace_reply.specs.declared.reply.Reply.{Reply}
use Rattle.run_model.specs.AllStores.{WindowState, as_store}
use Rattle.run_model.specs.Processors.{processor_at}
use Rattle.run_model.specs.QuietLines.{run_quiet_line}
use Rattle.run_model.specs.SerialRun.{line_result, with_result, run_on}
use Rattle.run_model.specs.Stores.{Store, context_of, states_of}
use Rattle.run_model.proofs.LinesByProcessor.{processors_size}
use Rattle.run_model.proofs.SectionGood.{quiet_size}
use Rattle.run_model.proofs.StoreNumbers.{windows_beside}
use Rattle.run_model.proofs.TableNamed.{quiet_grants}

line_grants : (w : Store) (l : TraceLine) → (run_on w l).1.grants ≡ w.grants
unfolding run_on
line_grants w l =
    cond_both (is_quiet l.act) (run_quiet_line w l.act)
    (with_result w l
    (line_result (context_of w) (processor_at w.processors l.cpu) (states_of w) l.act))
    (λ (y : Reply × Store). y.1.grants ≡ w.grants) (λ q. quiet_grants w l.act) (λ q. refl)

line_size : (w : Store) (l : TraceLine) → length (run_on w l).1.processors ≡ length w.processors
unfolding run_on
line_size w l =
    let x = line_result (context_of w) (processor_at w.processors l.cpu) (states_of w) l.act in
    cond_both (is_quiet l.act) (run_quiet_line w l.act) (with_result w l x)
    (λ (y : Reply × Store). length y.1.processors ≡ length w.processors)
    (λ q. quiet_size w l.act)
    (λ q. processors_size w.processors (record { line = l; reply = x.0 }))

-- The windows after a line on the page table.
pub line_beside :
    (w : Store) (l : TraceLine) (vs : List WindowState)
    → map (as_store (run_on w l).1) vs ≡ map (as_store w) vs
line_beside w l vs = windows_beside (run_on w l).1 w vs (line_grants w l) (line_size w l)
