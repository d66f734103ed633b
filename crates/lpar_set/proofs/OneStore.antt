-- The serial run of lines that are all on one store.
use Rattle.std.proofs.Common.{◌≡◌, List, [], ◌∷◌, true, ap, ◌∙◌, refl}
use Rattle.trace_line.specs.declared.line.TraceLine.{TraceLine}
use Rattle.trace_reply.specs.declared.reply.Reply.{Reply}
use Rattle.run_model.specs.SerialRun.{run_on, run_line, replies_from}
use Rattle.run_model.specs.Stores.{Store, is_on}
use Rattle.run_model.proofs.TableNamed.{IsTable, line_window}

-- The replies to its lines, one after the other.
abbrev pub replies_on : Store → List TraceLine → List Reply
replies_on s [] = []
replies_on s (l ∷ ls) = (run_on s l).0 ∷ replies_on (run_on s l).1 ls

first_alone :
    (s : Store) (l : TraceLine)
    → IsTable s
    → run_line [] (s ∷ []) l ≡ ((run_on s l).0, (run_on s l).1 ∷ [])
first_alone s l table =
    let on : is_on [] s.window l.act ≡ true = ap (λ o. is_on [] o l.act) table in
    rw on refl

-- Where the page table is the only store, the replies of a run are its replies.
pub table_alone :
    (s : Store) (ls : List TraceLine) → IsTable s → replies_from [] (s ∷ []) ls ≡ replies_on s ls
table_alone s [] table = refl
table_alone s (l ∷ ls) table =
    ap (λ (x : Reply × List Store). x.0 ∷ replies_from [] x.1 ls) (first_alone s l table)
    ∙ ap (λ rs. (run_on s l).0 ∷ rs) (table_alone (run_on s l).1 ls (line_window s l ∙ table))
