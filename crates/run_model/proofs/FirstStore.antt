-- What each line on the page table keeps holds of it after any lines of a serial run.
use Rattle.std.proofs.Common.{List, [], ◌∷◌}
use Rattle.std.proofs.lemmas.Bool.{cond_both}
use Rattle.bus_window.specs.Windows.{BusWindow}
use Rattle.trace_line.specs.declared.line.TraceLine.{TraceLine}
use Rattle.trace_read.specs.Configuration.{Configuration}
use Rattle.trace_reply.specs.declared.reply.Reply.{Reply}
use Rattle.run_model.specs.SerialRun.{run_on, run_line, stores_after, first_store, table_after}
use Rattle.run_model.specs.Stores.{Store, page_table, opening_stores, is_on}

module _ (P : Store → Type 0) (keeps : (s : Store) (l : TraceLine) → P s → P (run_on s l).1)
    (d : Store) where
  first_line :
      (ws : List BusWindow) (s : Store) (ss : List Store) (l : TraceLine)
      → P s
      → P (first_store d (run_line ws (s ∷ ss) l).1)
  first_line ws s ss l h =
      let x = run_on s l in
      cond_both (is_on ws s.window l.act) (x.0, x.1 ∷ ss)
      ((run_line ws ss l).0, s ∷ (run_line ws ss l).1)
      (λ (y : Reply × List Store). P (first_store d y.1)) (λ _. keeps s l h) (λ _. h)

  first_kept :
      (ws : List BusWindow) (ss : List Store) (ls : List TraceLine)
      → P d
      → P (first_store d ss)
      → P (first_store d (stores_after ws ss ls))
  first_kept ws ss [] e h = h
  first_kept ws [] (l ∷ ls) e h = first_kept ws [] ls e e
  first_kept ws (s ∷ ss) (l ∷ ls) e h =
      first_kept ws (run_line ws (s ∷ ss) l).1 ls e (first_line ws s ss l h)

pub first_after :
    (P : Store → Type 0) (c : Configuration) (ls : List TraceLine)
    → ((s : Store) (l : TraceLine) → P s → P (run_on s l).1)
    → P (page_table c)
    → P (table_after c ls)
first_after P c ls keeps h = first_kept P keeps (page_table c) c.windows (opening_stores c) ls h h
