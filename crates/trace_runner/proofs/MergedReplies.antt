-- The replies of all stores, put in file order.
use Rattle.std.specs.Prelude.{Vec}
use Rattle.std.proofs.Common.{◌≡◌, ◌≢◌, ℕ, ◌+◌, ◌<◌, ◌≤◌, List, [], ◌∷◌, ◌++◌, length, take, drop, get_or, set, cond, Bool, true, false, ap, sym, ◌∙◌, refl, subst, eqb, arith, append_assoc, append-nil}
use Rattle.std.specs.List.{AllByRecursion}
use Rattle.std.proofs.lemmas.Bool.{eqb-true, eq-eqb, eqb-false}
use Rattle.std.proofs.lemmas.List.{drop_more, take_more, drop_all, take_all, get_or-set_same, get_or-set_other, length-set}
use Rattle.run_model.proofs.LineReceipts.{lines_append}
use Rattle.bus_window.specs.Windows.{BusWindow}
use Rattle.trace_line.specs.declared.line.TraceLine.{TraceLine}
use Rattle.trace_reply.specs.declared.reply.Reply.{Reply}
use Rattle.trace_reply.specs.Replies.{RepliedLine, IsOfKind, AreReplies, lines_with_replies}
use Rattle.run_model.specs.Histories.{lines_of_processor}
use Rattle.trace_runner.specs.Workers.{Keeping, replied_line, lines_of_cpu, replied_lines_of_cpu}
use Rattle.run_model.specs.StoreNumbers.{store_of, lines_on_store, replied_on_store}
use Rattle.trace_runner.specs.StoreRuns.{AllKeep, StoresKeep}
use Rattle.trace_runner.specs.Sectioned.{HasGrown, AddsReplies}
use Rattle.trace_runner.proofs.Numbered.{all_at, all_set}
use Rattle.run_model.proofs.StoreNumbers.{not_eqb}
use Rattle.trace_runner.proofs.WorkSteps.{kinds_more}
use Rattle.trace_runner.proofs.ToldReplies.{line_yes, line_no, on_yes, on_no, Told, rest_after, stores_after, told_after}

-- ---- the logs of one store
kinds_after :
    (cpu : ℕ) (l : TraceLine) (rest : List TraceLine) (x : Reply) (ss : List Reply)
    (rs : ℕ → List Reply)
    → rs l.cpu ≡ x ∷ ss
    → AreReplies (lines_of_cpu cpu (l ∷ rest)) (rs cpu)
    → AreReplies (lines_of_cpu cpu rest) (rest_after l.cpu ss rs cpu)
kinds_after cpu l rest x ss rs first h = at (eqb l.cpu cpu) refl where
  at : (b : Bool) → eqb l.cpu cpu ≡ b → AreReplies (lines_of_cpu cpu rest) (cond b ss (rs cpu))
  at true here =
      (subst (λ zs. AreReplies (l ∷ lines_of_cpu cpu rest) zs)
      (ap rs (sym (eqb-true l.cpu cpu here)) ∙ first)
      (subst (λ ls. AreReplies ls (rs cpu)) (line_yes cpu l rest here) h)).1
  at false off = subst (λ ls. AreReplies ls (rs cpu)) (line_no cpu l rest off) h

kept_after :
    {L : Type 0} (keeps : Keeping L) (logs : List L) (after e : L) (cpu : ℕ) (l : TraceLine)
    (rest : List TraceLine) (ss : List Reply) (rs : ℕ → List Reply)
    → l.cpu < length logs
    → keeps after (lines_of_cpu l.cpu rest) ss
    → keeps (get_or logs cpu e) (lines_of_cpu cpu (l ∷ rest)) (rs cpu)
    → keeps (get_or (set logs l.cpu after) cpu e) (lines_of_cpu cpu rest)
    (rest_after l.cpu ss rs cpu)
kept_after {L = L} keeps logs after e cpu l rest ss rs inside new old =
    at (eqb l.cpu cpu) refl where
      at :
          (b : Bool)
          → eqb l.cpu cpu ≡ b
          → keeps (get_or (set logs l.cpu after) cpu e) (lines_of_cpu cpu rest) (cond b ss (rs cpu))
      at true here =
          let is : l.cpu ≡ cpu = eqb-true l.cpu cpu here in
          let same : after ≡ get_or (set logs l.cpu after) cpu e = sym
          (get_or-set_same logs l.cpu after e inside) ∙ ap (λ n. get_or (set logs l.cpu after) n e)
          is in
          subst (λ (z : L). keeps z (lines_of_cpu cpu rest) ss) same
          (subst (λ n. keeps after (lines_of_cpu n rest) ss) is new)
      at false off =
          let other : get_or logs cpu e ≡ get_or (set logs l.cpu after) cpu e = sym
          (get_or-set_other logs l.cpu cpu after e (λ is. eqb-false l.cpu cpu off (sym is))) in
          subst (λ (z : L). keeps z (lines_of_cpu cpu rest) (rs cpu)) other
          (subst (λ ls. keeps (get_or logs cpu e) ls (rs cpu)) (line_no cpu l rest off) old)

keep_after :
    {L : Type 0} (keeps : Keeping L) (logs : List L) (after : L) (l : TraceLine)
    (rest : List TraceLine) (x : Reply) (ss : List Reply) (rs : ℕ → List Reply)
    → rs l.cpu ≡ x ∷ ss
    → keeps after (lines_of_cpu l.cpu rest) ss
    → AllKeep keeps (l ∷ rest) rs logs
    → AllKeep keeps rest (rest_after l.cpu ss rs) (set logs l.cpu after)
keep_after keeps logs after l rest x ss rs first new h =
    let size : length (set logs l.cpu after) ≡ length logs = length-set logs l.cpu after in
    record {
      cpus = subst (λ n. AllByRecursion (λ (k : TraceLine). k.cpu < n) rest) (sym size) h.cpus.1;
      kinds =
          λ cpu low.
          kinds_after cpu l rest x ss rs first (h.kinds cpu (subst (λ n. cpu < n) size low));
      kept =
          λ cpu e low.
          kept_after keeps logs after e cpu l rest ss rs h.cpus.0 new
          (h.kept cpu e (subst (λ n. cpu < n) size low));
    }

-- ---- so far
-- The replies to the first k lines are in the output. With those that are left for each processor
-- on each store, which the logs still keep, they are all that were picked for it.
pub record Merging {L O Z : Type 0} (keeps : Keeping L) (has : Keeping O) (ws : List BusWindow)
    (lines : List TraceLine) (k : ℕ) (picks : ℕ → ℕ → List Reply) (logs : List (Vec L Z))
    (old new : O) :
    Type 0 where
  pub news : List Reply
  pub grown : HasGrown has (take k lines) news old new
  pub kinds : AreReplies (take k lines) news
  pub rest : ℕ → ℕ → List Reply
  pub told :
      (store cpu : ℕ)
      → Told ws store cpu (lines_with_replies (take k lines) news) (drop k lines) (rest store cpu)
      (replied_lines_of_cpu cpu (lines_on_store ws store lines) (picks store cpu))
  pub keep : StoresKeep keeps ws (drop k lines) rest logs

pub merging_none :
    {L O Z : Type 0} (keeps : Keeping L) (has : Keeping O) (ws : List BusWindow)
    (lines : List TraceLine) (picks : ℕ → ℕ → List Reply) (logs : List (Vec L Z)) (old : O)
    → StoresKeep keeps ws lines picks logs
    → Merging keeps has ws lines 0 picks logs old old
merging_none keeps has ws lines picks logs old h = record {
  news = [];
  grown =
      λ ks qs g.
      subst (λ ls. has old ls (qs ++ [])) (sym (append-nil ks))
      (subst (λ rs. has old ks rs) (sym (append-nil qs)) g);
  kinds = tt;
  rest = picks;
  told = λ store cpu. refl;
  keep = h;
}

-- The first reply that is left to the line's processor, and the others.
pub record First {L : Type 0} (keeps : Keeping L) (l : TraceLine) (rest : List TraceLine) (log : L)
    (rs : List Reply) :
    Type 0 where
  pub x : Reply
  pub ss : List Reply
  pub is : rs ≡ x ∷ ss
  pub kind : IsOfKind l.act x
  pub kept : keeps log (l ∷ lines_of_cpu l.cpu rest) (x ∷ ss)

first_of :
    {L : Type 0} (keeps : Keeping L) (l : TraceLine) (rest : List TraceLine) (log : L)
    (rs : List Reply)
    → AreReplies (l ∷ lines_of_cpu l.cpu rest) rs
    → keeps log (l ∷ lines_of_cpu l.cpu rest) rs
    → First keeps l rest log rs
first_of keeps l rest log [] h kept = absurd h
first_of keeps l rest log (x ∷ ss) h kept =
    record { x = x; ss = ss; is = refl; kind = h.0; kept = kept }

module _ {L O Z : Type 0} (keeps : Keeping L) (has : Keeping O) (ws : List BusWindow)
    (lines : List TraceLine) (k : ℕ) (d : TraceLine) (picks : ℕ → ℕ → List Reply)
    (logs : List (Vec L Z)) (own : Vec L Z) (old mid : O) where
  abbrev l : TraceLine
  l = get_or lines k d

  abbrev at : ℕ
  at = store_of ws l.act

  abbrev left : List TraceLine
  left = lines_on_store ws at (drop (k + 1) lines)

  on_store : k < length lines → lines_on_store ws at (drop k lines) ≡ l ∷ left
  on_store within =
      ap (lines_on_store ws at) (drop_more lines k d within)
      ∙ on_yes ws at l (drop (k + 1) lines) (eq-eqb at at refl)

  -- The logs of the line's store.
  pub merging_store :
      k < length lines
      → at < length logs
      → own ≡ get_or logs at own
      → (m : Merging keeps has ws lines k picks logs old mid)
      → AllKeep keeps (l ∷ left) (m.rest at) own.items
  merging_store within low is m =
      subst (λ ls. AllKeep keeps ls (m.rest at) own.items) (on_store within)
      (all_at
      (λ store (v : Vec L Z).
      AllKeep keeps (lines_on_store ws store (drop k lines)) (m.rest store) v.items) 0 at
      at logs own (omega arith) low is m.keep)

  pub merging_first :
      (log : L)
      → k < length lines
      → at < length logs
      → own ≡ get_or logs at own
      → log ≡ get_or own.items l.cpu log
      → (m : Merging keeps has ws lines k picks logs old mid)
      → First keeps l left log (m.rest at l.cpu)
  merging_first log within low is read m =
      let rs = m.rest at l.cpu in
      let h = merging_store within low is m in
      let same : lines_of_cpu l.cpu (l ∷ left) ≡ l ∷ lines_of_cpu l.cpu left = line_yes l.cpu l left
      (eq-eqb l.cpu l.cpu refl) in
      first_of keeps l left log rs (subst (λ ls. AreReplies ls rs) same (h.kinds l.cpu h.cpus.0))
      (subst (λ ls. keeps log ls rs) same
      (subst (λ (z : L). keeps z (lines_of_cpu l.cpu (l ∷ left)) rs) (sym read)
      (h.kept l.cpu log h.cpus.0)))

  pub merging_more : (log after : L) (new_own : Vec L Z) (new : O)
      → k < length lines
      → at < length logs
      → own ≡ get_or logs at own
      → log ≡ get_or own.items l.cpu log
      → new_own.items ≡ set own.items l.cpu after
      →
      ((l : TraceLine) (r : Reply) (ls : List TraceLine) (rs : List Reply)
      → keeps log (l ∷ ls) (r ∷ rs)
      → keeps after ls rs)
      →
      ((l : TraceLine) (r : Reply) (ls : List TraceLine) (rs : List Reply) (ks : List TraceLine)
      (qs : List Reply)
      → keeps log (l ∷ ls) (r ∷ rs)
      → has mid ks qs
      → has new (ks ++ l ∷ []) (qs ++ r ∷ []))
      → Merging keeps has ws lines k picks logs old mid
      → Merging keeps has ws lines (k + 1) picks (set logs at new_own) old new
  merging_more log after new_own new within low is read put left_to moved m = record {
    news = m.news ++ x ∷ [];
    grown = λ ks qs g.
        let ls : (ks ++ take k lines) ++ l ∷ [] ≡ ks ++ take (k + 1) lines = append_assoc ks
        (take k lines) (l ∷ []) ∙ ap (λ z. ks ++ z) (sym front) in
        let rs : (qs ++ m.news) ++ x ∷ [] ≡ qs ++ (m.news ++ x ∷ []) = append_assoc qs m.news
        (x ∷ []) in
        subst (λ z. has new z (qs ++ (m.news ++ x ∷ []))) ls
        (subst (λ z. has new ((ks ++ take k lines) ++ l ∷ []) z) rs
        (moved l x (lines_of_cpu l.cpu left) first.ss (ks ++ take k lines) (qs ++ m.news)
        first.kept (m.grown ks qs g)));
    kinds =
        subst (λ ls. AreReplies ls (m.news ++ x ∷ [])) (sym front)
        (kinds_more (take k lines) (l ∷ []) m.news (x ∷ []) m.kinds (first.kind, tt));
    rest = rest;
    told =
        λ store cpu.
        subst (λ us. Told ws store cpu us (drop (k + 1) lines) (rest store cpu) (all store cpu))
        told
        (told_after ws store cpu ts l x (drop (k + 1) lines) first.ss m.rest (all store cpu)
        first.is
        (subst (λ ls. Told ws store cpu ts ls (m.rest store cpu) (all store cpu))
        (drop_more lines k d within) (m.told store cpu)));
    keep =
        all_set (IsKept k m.rest) (IsKept (k + 1) rest) 0 at at logs own new_own (omega arith) low
        is other here m.keep;
  } where
    first : First keeps l left log (m.rest at l.cpu)
    first = merging_first log within low is read m

    x : Reply
    x = first.x

    rest : ℕ → ℕ → List Reply
    rest = stores_after at l.cpu first.ss m.rest

    front : take (k + 1) lines ≡ take k lines ++ l ∷ []
    front = take_more lines k d within

    ts : List RepliedLine
    ts = lines_with_replies (take k lines) m.news

    all : ℕ → ℕ → List RepliedLine
    all store cpu = replied_lines_of_cpu cpu (lines_on_store ws store lines) (picks store cpu)

    told : ts ++ replied_line l x ∷ [] ≡ lines_with_replies (take (k + 1) lines) (m.news ++ x ∷ [])
    told =
        sym
        (ap (λ ls. lines_with_replies ls (m.news ++ x ∷ [])) front
        ∙ lines_append (take k lines) (l ∷ []) m.news (x ∷ []) m.kinds)

    IsKept : ℕ → (ℕ → ℕ → List Reply) → ℕ → Vec L Z → Type 0
    IsKept j rs store v = AllKeep keeps (lines_on_store ws store (drop j lines)) (rs store) v.items

    other :
        (store : ℕ) (v : Vec L Z)
        → store ≢ at
        → IsKept k m.rest store v
        → IsKept (k + 1) rest store v
    other store v differ h =
        let off : eqb at store ≡ false = not_eqb at store (λ e. differ (sym e)) in
        let lines_stay : lines_on_store ws store (drop k lines) ≡ lines_on_store ws store
        (drop (k + 1) lines) = ap (lines_on_store ws store) (drop_more lines k d within) ∙ on_no
        ws store l (drop (k + 1) lines) off in
        subst
        (λ b.
        AllKeep keeps (lines_on_store ws store (drop (k + 1) lines))
        (cond b (rest_after l.cpu first.ss (m.rest store)) (m.rest store)) v.items)
        (sym off) (subst (λ ls. AllKeep keeps ls (m.rest store) v.items) lines_stay h)

    here : IsKept k m.rest at own → IsKept (k + 1) rest at new_own
    here h =
        let yes : eqb at at ≡ true = eq-eqb at at refl in
        let more : AllKeep keeps left (rest_after l.cpu first.ss (m.rest at))
        (set own.items l.cpu after) = keep_after keeps own.items after l left x first.ss
        (m.rest at) first.is (left_to l x (lines_of_cpu l.cpu left) first.ss first.kept)
        (merging_store within low is m) in
        subst
        (λ b.
        AllKeep keeps left (cond b (rest_after l.cpu first.ss (m.rest at)) (m.rest at))
        new_own.items) (sym yes)
        (subst (λ (ls : List L). AllKeep keeps left (rest_after l.cpu first.ss (m.rest at)) ls)
        (sym put) more)

pub merging_all :
    {L O Z : Type 0} (keeps : Keeping L) (has : Keeping O) (ws : List BusWindow)
    (lines : List TraceLine) (k : ℕ) (picks : ℕ → ℕ → List Reply) (logs : List (Vec L Z))
    (old new : O)
    → length lines ≤ k
    → Merging keeps has ws lines k picks logs old new
    → AddsReplies has ws lines picks old new
merging_all keeps has ws lines k picks logs old new end m =
    let all : take k lines ≡ lines = take_all k lines end in
    let none : drop k lines ≡ [] = drop_all k lines end in
    record {
      news = m.news;
      grown = λ ks qs g. subst (λ ls. has new (ks ++ ls) (qs ++ m.news)) all (m.grown ks qs g);
      merged = record {
        kinds = subst (λ ls. AreReplies ls m.news) all m.kinds;
        own = λ store cpu.
            let to = replied_lines_of_cpu cpu (lines_on_store ws store lines) (picks store cpu) in
            sym
            (append-nil
            (lines_of_processor cpu
            (replied_on_store ws store (lines_with_replies lines m.news))))
            ∙
            (subst
            (λ ls.
            lines_of_processor cpu
            (replied_on_store ws store (lines_with_replies ls m.news))
            ++ []
            ≡ to) all
            (subst
            (λ ls.
            Told ws store cpu (lines_with_replies (take k lines) m.news) ls
            (m.rest store cpu) to) none (m.told store cpu)));
      };
    }
