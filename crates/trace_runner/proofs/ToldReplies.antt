-- The replies so far and those that are left, by processor and store.
use Rattle.std.proofs.Common.{◌≡◌, ℕ, List, [], ◌∷◌, ◌++◌, cond, Bool, true, false, ap, sym, ◌∙◌, refl, eqb, append_assoc, append-nil}
use Rattle.std.proofs.lemmas.Bool.{eqb-true}
use Rattle.std.proofs.lemmas.List.Elements.{filter-append}
use Rattle.bus_window.specs.Windows.{BusWindow}
use Rattle.trace_line.specs.declared.line.TraceLine.{TraceLine}
use Rattle.trace_reply.specs.declared.reply.Reply.{Reply}
use Rattle.trace_reply.specs.Replies.{RepliedLine, lines_with_replies}
use Rattle.run_model.specs.Histories.{lines_of_processor}
use Rattle.run_model.proofs.LinesByProcessor.{own_yes, own_no}
use Rattle.trace_runner.specs.Workers.{replied_line, lines_of_cpu}
use Rattle.run_model.specs.StoreNumbers.{store_of, lines_on_store, replied_on_store}

-- ---- the line at an index
pub line_yes :
    (c : ℕ) (l : TraceLine) (ls : List TraceLine)
    → eqb l.cpu c ≡ true
    → lines_of_cpu c (l ∷ ls) ≡ l ∷ lines_of_cpu c ls
line_yes c l ls e = rw e refl

pub line_no :
    (c : ℕ) (l : TraceLine) (ls : List TraceLine)
    → eqb l.cpu c ≡ false
    → lines_of_cpu c (l ∷ ls) ≡ lines_of_cpu c ls
line_no c l ls e = rw e refl

own_end :
    (c : ℕ) (ts : List RepliedLine) (t : RepliedLine)
    → lines_of_processor c (ts ++ t ∷ []) ≡ lines_of_processor c ts ++ lines_of_processor c (t ∷ [])
own_end c ts t = filter-append (λ (u : RepliedLine). eqb u.line.cpu c) ts (t ∷ [])

step_own :
    (c : ℕ) (ts : List RepliedLine) (l : TraceLine) (x : Reply) (rest : List TraceLine)
    (ss : List Reply)
    → eqb l.cpu c ≡ true
    → lines_of_processor c (ts ++ replied_line l x ∷ [])
    ++ lines_with_replies (lines_of_cpu c rest) ss
    ≡ lines_of_processor c ts ++ lines_with_replies (lines_of_cpu c (l ∷ rest)) (x ∷ ss)
step_own c ts l x rest ss e =
    ap (λ us. us ++ lines_with_replies (lines_of_cpu c rest) ss)
    (own_end c ts (replied_line l x)
    ∙ ap (λ us. lines_of_processor c ts ++ us)
    (own_yes c (replied_line l x) [] (eqb-true l.cpu c e)))
    ∙ append_assoc (lines_of_processor c ts) (replied_line l x ∷ [])
    (lines_with_replies (lines_of_cpu c rest) ss)
    ∙ ap (λ ls. lines_of_processor c ts ++ lines_with_replies ls (x ∷ ss))
    (sym (line_yes c l rest e))

step_other :
    (c : ℕ) (ts : List RepliedLine) (l : TraceLine) (x : Reply) (rest : List TraceLine)
    (ss : List Reply)
    → eqb l.cpu c ≡ false
    → lines_of_processor c (ts ++ replied_line l x ∷ [])
    ++ lines_with_replies (lines_of_cpu c rest) ss
    ≡ lines_of_processor c ts ++ lines_with_replies (lines_of_cpu c (l ∷ rest)) ss
step_other c ts l x rest ss e =
    ap (λ us. us ++ lines_with_replies (lines_of_cpu c rest) ss)
    (own_end c ts (replied_line l x)
    ∙ ap (λ us. lines_of_processor c ts ++ us) (own_no c (replied_line l x) [] e)
    ∙ append-nil (lines_of_processor c ts))
    ∙ ap (λ ls. lines_of_processor c ts ++ lines_with_replies ls ss) (sym (line_no c l rest e))

-- ---- the lines on a store
pub on_yes :
    (ws : List BusWindow) (store : ℕ) (l : TraceLine) (ls : List TraceLine)
    → eqb (store_of ws l.act) store ≡ true
    → lines_on_store ws store (l ∷ ls) ≡ l ∷ lines_on_store ws store ls
on_yes ws store l ls e = rw e refl

pub on_no :
    (ws : List BusWindow) (store : ℕ) (l : TraceLine) (ls : List TraceLine)
    → eqb (store_of ws l.act) store ≡ false
    → lines_on_store ws store (l ∷ ls) ≡ lines_on_store ws store ls
on_no ws store l ls e = rw e refl

end_yes :
    (ws : List BusWindow) (store : ℕ) (ts : List RepliedLine) (l : TraceLine) (x : Reply)
    → eqb (store_of ws l.act) store ≡ true
    → replied_on_store ws store (ts ++ replied_line l x ∷ [])
    ≡ replied_on_store ws store ts ++ replied_line l x ∷ []
end_yes ws store ts l x e =
    filter-append (λ (u : RepliedLine). eqb (store_of ws u.line.act) store) ts
    (replied_line l x ∷ [])
    ∙ ap (λ us. replied_on_store ws store ts ++ us) (rw e refl)

end_no :
    (ws : List BusWindow) (store : ℕ) (ts : List RepliedLine) (l : TraceLine) (x : Reply)
    → eqb (store_of ws l.act) store ≡ false
    → replied_on_store ws store (ts ++ replied_line l x ∷ []) ≡ replied_on_store ws store ts
end_no ws store ts l x e =
    filter-append (λ (u : RepliedLine). eqb (store_of ws u.line.act) store) ts
    (replied_line l x ∷ [])
    ∙ ap (λ us. replied_on_store ws store ts ++ us) (rw e refl)
    ∙ append-nil (replied_on_store ws store ts)

-- ---- one processor on one store
-- Its replies so far and those to its lines that are left are all of its replies.
abbrev pub Told :
    List BusWindow
    → ℕ
    → ℕ
    → List RepliedLine
    → List TraceLine
    → List Reply
    → List RepliedLine
    → Type 0
Told ws store cpu ts rest rs all =
    lines_of_processor cpu (replied_on_store ws store ts)
    ++ lines_with_replies (lines_of_cpu cpu (lines_on_store ws store rest)) rs
    ≡ all

-- What is left of each processor's replies after the line.
abbrev pub rest_after : ℕ → List Reply → (ℕ → List Reply) → ℕ → List Reply
rest_after at ss rs cpu = cond (eqb at cpu) ss (rs cpu)

-- What is left after the line of each processor's replies on each store.
abbrev pub stores_after : ℕ → ℕ → List Reply → (ℕ → ℕ → List Reply) → ℕ → ℕ → List Reply
stores_after at cpu ss rs store = cond (eqb at store) (rest_after cpu ss (rs store)) (rs store)

told_own :
    (ws : List BusWindow) (store cpu : ℕ) (ts : List RepliedLine) (l : TraceLine) (x : Reply)
    (rest : List TraceLine) (ss : List Reply) (rs : ℕ → List Reply) (all : List RepliedLine)
    → eqb (store_of ws l.act) store ≡ true
    → rs l.cpu ≡ x ∷ ss
    → Told ws store cpu ts (l ∷ rest) (rs cpu) all
    → Told ws store cpu (ts ++ replied_line l x ∷ []) rest (rest_after l.cpu ss rs cpu) all
told_own ws store cpu ts l x rest ss rs all here first h =
    ap
    (λ us.
    lines_of_processor cpu us
    ++ lines_with_replies (lines_of_cpu cpu (lines_on_store ws store rest))
    (rest_after l.cpu ss rs cpu)) (end_yes ws store ts l x here)
    ∙ at (eqb l.cpu cpu) refl where
      past : List RepliedLine
      past = replied_on_store ws store ts

      left : List TraceLine
      left = lines_on_store ws store rest

      told :
          lines_of_processor cpu past ++ lines_with_replies (lines_of_cpu cpu (l ∷ left)) (rs cpu)
          ≡ all
      told =
          ap
          (λ ls.
          lines_of_processor cpu past ++ lines_with_replies (lines_of_cpu cpu ls) (rs cpu))
          (sym (on_yes ws store l rest here))
          ∙ h

      at :
          (b : Bool)
          → eqb l.cpu cpu ≡ b
          → lines_of_processor cpu (past ++ replied_line l x ∷ [])
          ++ lines_with_replies (lines_of_cpu cpu left) (cond b ss (rs cpu))
          ≡ all
      at true own =
          step_own cpu past l x left ss own
          ∙ ap
          (λ zs. lines_of_processor cpu past ++ lines_with_replies (lines_of_cpu cpu (l ∷ left)) zs)
          (sym first ∙ ap rs (eqb-true l.cpu cpu own))
          ∙ told
      at false off = step_other cpu past l x left (rs cpu) off ∙ told

pub told_after :
    (ws : List BusWindow) (store cpu : ℕ) (ts : List RepliedLine) (l : TraceLine) (x : Reply)
    (rest : List TraceLine) (ss : List Reply) (rs : ℕ → ℕ → List Reply) (all : List RepliedLine)
    → rs (store_of ws l.act) l.cpu ≡ x ∷ ss
    → Told ws store cpu ts (l ∷ rest) (rs store cpu) all
    → Told ws store cpu (ts ++ replied_line l x ∷ []) rest
    (stores_after (store_of ws l.act) l.cpu ss rs store cpu) all
told_after ws store cpu ts l x rest ss rs all first h =
    at (eqb (store_of ws l.act) store) refl where
      at :
          (b : Bool)
          → eqb (store_of ws l.act) store ≡ b
          → Told ws store cpu (ts ++ replied_line l x ∷ []) rest
          (cond b (rest_after l.cpu ss (rs store)) (rs store) cpu) all
      at true here =
          told_own ws store cpu ts l x rest ss (rs store) all here
          (ap (λ n. rs n l.cpu) (sym (eqb-true (store_of ws l.act) store here)) ∙ first) h
      at false off =
          ap
          (λ us.
          lines_of_processor cpu us
          ++ lines_with_replies (lines_of_cpu cpu (lines_on_store ws store rest)) (rs store cpu))
          (end_no ws store ts l x off)
          ∙ ap
          (λ ls.
          lines_of_processor cpu (replied_on_store ws store ts)
          ++ lines_with_replies (lines_of_cpu cpu ls) (rs store cpu))
          (sym (on_no ws store l rest off))
          ∙ h
