-- The lines of a section that were run each on its store.
use Rattle.std.specs.Prelude.{Vec, None, insert, remove}
use Rattle.std.proofs.Common.{◌≡◌, ◌≢◌, ℕ, zero, suc, ◌+◌, ◌<◌, ◌≤◌, List, [], ◌∷◌, ◌++◌, length, replicate, get_or, set, cond, eqb, ap, sym, ◌∙◌, refl, subst, arith}
use Rattle.std.proofs.lemmas.Bool.{eq-eqb}
use Rattle.std.proofs.lemmas.List.{length-append}
use Rattle.bus_window.specs.Windows.{BusWindow}
use Rattle.hpt_resize.specs.TableMemory.{with_states}
use Rattle.entry_model.specs.State.{State}
use Rattle.tlb_model.specs.Processor.{Processor, new_processor}
use Rattle.trace_line.specs.declared.line.TraceLine.{TraceLine}
use Rattle.trace_reply.specs.declared.reply.Reply.{Reply}
use Rattle.trace_reply.specs.Replies.{RepliedLine, lines_with_replies}
use Rattle.run_model.specs.AllStores.{WindowState, AllStores, as_store, windows_in}
use Rattle.run_model.specs.ParallelRun.{RunsApart}
use Rattle.run_model.specs.StoreContexts.{window_context}
use Rattle.run_model.specs.Stores.{Store, context_of, states_of, is_on, is_on_window, lines_on}
use Rattle.run_model.proofs.WindowLines.{window_closes_on}
use Rattle.run_model.specs.StoreNumbers.{store_at, lines_on_store}
use Rattle.trace_runner.specs.StoreRuns.{section_on, AllKeep, HavePicked, RanStore, RunsOn, RanOn, RanBelow, RanStores, StoresKeep, IsMerged}
use Rattle.trace_runner.specs.Sectioned.{Sectioned, AddsReplies, RunsSection}
use Rattle.trace_runner.specs.Workers.{Keeping, AllNumbered}
use Rattle.trace_runner.proofs.Numbered.{all_push, all_weaker, all_inside, all_has}
use Rattle.trace_runner.proofs.SectionPromises.{store_idle}
use Rattle.run_model.proofs.StoreNumbers.{not_eqb, same_count, window_at, table_changed, window_changed, window_others, replied_numbered, lines_alone, stays_so, stays_through}
use Rattle.trace_runner.proofs.WindowIndices.{windows_stay}

-- One that is taken out and put back is set.
pub put_back :
    {A : Type 0} (xs : List A) (at : ℕ) (y : A)
    → at < length xs
    → insert (remove xs at) at y ≡ set xs at y
put_back [] at y low = absurd (omega (arith, low))
put_back (x ∷ xs) zero y low = refl
put_back (x ∷ xs) (suc at) y low = ap (λ ys. x ∷ ys) (put_back xs at y (omega (arith, low)))

-- ---- a store
-- A store works as one does that has its states and processors, and nothing else of it.
apart_on :
    (s : Store) (ts : List RepliedLine) (b : List State)
    → RunsApart (section_on (context_of s) (states_of s) s.processors ts) b
    → RunsApart (record { before = s; replied_lines = ts; quiet = None }) b
apart_on s ts b h = record {
  fronts = h.fronts;
  work = h.work;
  closed =
      record {
        size = h.closed.size;
        legal = h.closed.legal;
        gone = h.closed.gone;
      };
  quiet = tt;
}

-- The store after a section, with such states and processors.
abbrev ended : Store → List State → List Processor → Store
ended x states processors = record x {
  memory = with_states x.memory states;
  processors = processors;
}

runs_on :
    {L : Type 0} (keeps : Keeping L) (ws : List BusWindow) (x y : Store) (lines : List TraceLine)
    (closing : List State) (processors : List Processor) (logs : List L)
    (r : RanStore keeps (context_of x) (states_of x) x.processors lines closing processors logs)
    → y ≡ ended x closing processors
    → RunsOn keeps ws lines r.0 x y logs
runs_on keeps ws x y lines closing processors logs r e = record {
  keep = r.1.keep;
  leaves = λ ts own.
      let us = lines_on (is_on ws x.window) ts in
      record {
        states = closing;
        apart = apart_on x us closing (r.1.apart us own);
        later = e ∙ ap (ended x closing) (r.1.after us own);
      };
}

-- ---- one store of all
pub none_ran :
    {L : Type 0} (keeps : Keeping L) (s : AllStores) (number : ℕ)
    → RanOn keeps s number [] s []
none_ran keeps s number =
    let x = store_at s number in
    let r = store_idle keeps (context_of x) (states_of x) x.processors in
    record {
      picks = r.0;
      ran =
          runs_on keeps (windows_in s.windows) x x [] (states_of x) x.processors [] r refl;
      others = λ other differ inside. refl;
      stays = stays_so s;
    }

-- When the lines on the page table have run, the first store is done.
pub table_ran :
    {L : Type 0} (keeps : Keeping L) (s later : AllStores) (lines : List TraceLine)
    (closing : List State) (logs : List L)
    → RanStore keeps (context_of s.table) (states_of s.table) s.table.processors lines closing
    later.table.processors logs
    → later.table ≡ ended s.table closing later.table.processors
    → later.windows ≡ s.windows
    → length later.table.processors ≡ length s.table.processors
    → RanOn keeps s 0 lines later logs
table_ran keeps s later lines closing logs r table windows size = record {
  picks = r.0;
  ran =
      runs_on keeps (windows_in s.windows) s.table later.table lines closing
      later.table.processors logs r table;
  others =
      table_changed s later windows (ap (λ (v : Store). v.grants) table) size;
  stays =
      record {
        windows = ap windows_in windows;
        processors = size;
        number = ap (λ (v : Store). v.memory.table.number) table;
      };
}

-- The window at an index.
pub window_ran :
    {L : Type 0} (keeps : Keeping L) (s later : AllStores) (at : ℕ) (lines : List TraceLine)
    (v : WindowState) (closing : List State) (processors : List Processor) (logs : List L)
    → at < length s.windows
    → v ≡ get_or s.windows at v
    → RanStore keeps (window_context s.table.grants v.window) v.states
    (replicate (length s.table.processors) new_processor) lines closing processors logs
    → later.table ≡ s.table
    → later.windows ≡ set s.windows at (record v { states = closing })
    → RanOn keeps s (at + 1) lines later logs
window_ran {L = L} keeps s later at lines v closing processors logs inside is r table windows =
    let behind : suc at ≡ at + 1 = omega arith in
    subst (λ n. RanOn keeps s n lines later logs) behind (record {
      picks = r.0;
      ran =
          subst (λ (z : Store). RunsOn keeps ws lines r.0 z (store_at later (suc at)) logs)
          (sym before)
          (subst (λ (z : Store). RunsOn keeps ws lines r.0 x z logs) (sym after) ran);
      others = λ other differ low. window_others s later at u table windows other differ;
      stays = record {
        windows =
            ap windows_in windows
            ∙ windows_stay s.windows at u v inside (ap (λ (z : WindowState). z.window) is);
        processors = ap (λ (z : Store). length z.processors) table;
        number = ap (λ (z : Store). z.memory.table.number) table;
      };
    }) where
      ws : List BusWindow
      ws = windows_in s.windows

      u : WindowState
      u = record v { states = closing }

      x : Store
      x = as_store s.table v

      before : store_at s (suc at) ≡ x
      before =
          let here = window_at s.table s.windows at inside in
          here.store s.table ∙ ap (as_store s.table) (sym (is ∙ here.state v))

      after : store_at later (suc at) ≡ as_store s.table u
      after = window_changed s later at u table windows inside

      ran : RunsOn keeps ws lines r.0 x (as_store s.table u) logs
      ran = record {
        keep = r.1.keep;
        leaves = λ ts own.
            let us = lines_on (is_on_window v.window) ts in
            record {
              states = closing;
              apart = r.1.apart us own;
              later =
                  sym
                  (window_closes_on s.table.grants (length s.table.processors) v.window v.states
                  closing ts);
            };
      }

-- ---- one store after the other
pub below_none :
    {L Z : Type 0} (keeps : Keeping L) (s : AllStores) (lines : List TraceLine)
    (logs : List (Vec L Z))
    → logs ≡ []
    → RanBelow keeps s 0 lines s logs
below_none {L = L} {Z = Z} keeps s lines logs none =
    subst (λ (zs : List (Vec L Z)). RanBelow keeps s 0 lines s zs) (sym none) (record {
      picks = λ number cpu. [];
      size = refl;
      ran = tt;
      others = λ number low inside. refl;
      stays = stays_so s;
    })

pub below_more :
    {L Z : Type 0} (keeps : Keeping L) (s mid later : AllStores) (k : ℕ)
    (lines own_lines : List TraceLine) (logs : List (Vec L Z)) (own : Vec L Z)
    → k ≤ length s.windows
    → own_lines ≡ lines_on_store (windows_in s.windows) k lines
    → RanBelow keeps s k lines mid logs
    → RanOn keeps mid k own_lines later own.items
    → RanBelow keeps s (k + 1) lines later (logs ++ own ∷ [])
below_more {L = L} {Z = Z} keeps s mid later k lines own_lines logs own inside are h r = record {
  picks = picks;
  size = length-append logs (own ∷ []) ∙ ap (λ n. n + 1) h.size;
  ran =
      all_push (Runs picks later) 0 logs own earlier
      (subst (λ n. Runs picks later n own) (omega (arith, h.size)) here);
  others =
      λ number low within.
      next number (λ e. absurd (omega (arith, low, e))) within
      ∙ h.others number (omega (arith, low)) within;
  stays = stays_through s mid later h.stays r.stays;
} where
  ws : List BusWindow
  ws = windows_in s.windows

  picks : ℕ → ℕ → List Reply
  picks number = cond (eqb number k) r.picks (h.picks number)

  Runs : (ℕ → ℕ → List Reply) → AllStores → ℕ → Vec L Z → Type 0
  Runs rs z number logs =
      RunsOn keeps ws (lines_on_store ws number lines) (rs number) (store_at s number)
      (store_at z number) logs.items

  many : length mid.windows ≡ length s.windows
  many = same_count mid.windows s.windows h.stays.windows

  next :
      (number : ℕ)
      → number ≢ k
      → number ≤ length s.windows
      → store_at later number ≡ store_at mid number
  next number differ within =
      r.others number differ (subst (λ n. number ≤ n) (sym many) within)

  earlier : AllNumbered (Runs picks later) 0 logs
  earlier = all_inside (Runs h.picks mid) (Runs picks later) 0 logs stay h.ran where
    stay :
        (number : ℕ) (log : Vec L Z)
        → number < 0 + length logs
        → Runs h.picks mid number log
        → Runs picks later number log
    stay number log low p =
        let below : number < k = omega (arith, low, h.size) in
        let differ : number ≢ k = (λ e. absurd (omega (arith, below, e))) in
        rw (not_eqb number k differ)
        (subst
        (λ (z : Store).
        RunsOn keeps ws (lines_on_store ws number lines) (h.picks number) (store_at s number) z
        log.items) (sym (next number differ (omega (arith, below, inside)))) p)

  here : Runs picks later k own
  here =
      rw (eq-eqb k k refl)
      (subst
      (λ (z : Store).
      RunsOn keeps ws (lines_on_store ws k lines) r.picks z (store_at later k) own.items)
      (h.others k (omega arith) inside)
      (subst
      (λ ls. RunsOn keeps ws ls r.picks (store_at mid k) (store_at later k) own.items) are
      (subst
      (λ us. RunsOn keeps us own_lines r.picks (store_at mid k) (store_at later k) own.items)
      h.stays.windows r.ran)))

-- With no window all lines are on the page table.
pub table_alone :
    {L Z : Type 0} (keeps : Keeping L) (s later : AllStores) (lines : List TraceLine)
    (logs : List (Vec L Z)) (own : Vec L Z)
    → s.windows ≡ []
    → logs ≡ []
    → RanOn keeps s 0 lines later own.items
    → RanStores keeps s lines later (logs ++ own ∷ [])
table_alone {L = L} {Z = Z} keeps s later lines logs own none empty r =
    subst (λ n. RanBelow keeps s (1 + n) lines later (logs ++ own ∷ [])) (sym (ap length none))
    (below_more keeps s s later 0 lines lines logs own (omega arith)
    (sym (ap (λ vs. lines_on_store (windows_in vs) 0 lines) none ∙ lines_alone lines))
    (below_none keeps s lines logs empty) r)

-- ---- their replies
module _ {L Z : Type 0} (keeps : Keeping L) (s : AllStores) (lines : List TraceLine)
    (later : AllStores) (logs : List (Vec L Z)) (r : RanStores keeps s lines later logs) where
  -- The windows of these stores.
  abbrev pub ws : List BusWindow
  ws = windows_in s.windows

  abbrev Runs : ℕ → Vec L Z → Type 0
  Runs number own =
      RunsOn keeps ws (lines_on_store ws number lines) (r.picks number) (store_at s number)
      (store_at later number) own.items

  stores_keep : StoresKeep keeps ws lines r.picks logs
  stores_keep =
      all_weaker Runs
      (λ number (own : Vec L Z).
      AllKeep keeps (lines_on_store ws number lines) (r.picks number) own.items)
      0 logs (λ number own h. h.keep) r.ran

  pub stores_count : length logs ≡ 1 + length later.windows
  stores_count =
      omega (arith, r.size, same_count later.windows s.windows r.stays.windows)

  stores_sectioned :
      (news : List Reply) → IsMerged ws lines r.picks news → Sectioned s lines news later
  stores_sectioned news m = record {
    kinds = m.kinds;
    leaves = λ named number inside.
        let ts = lines_with_replies lines news in
        let e : 0 + number ≡ number = omega arith in
        let own = all_has Runs 0 number logs (omega (arith, inside, r.size)) r.ran in
        (subst (λ n. Runs n own.0) e own.1).leaves ts
        (subst (HavePicked (lines_on_store ws number lines) (r.picks number))
        (replied_numbered s named number inside ts)
        (m.own number));
    stays = r.stays;
  }

  pub section_ran :
      {O : Type 0} (has : Keeping O) (vs : List WindowState) (old new : O)
      → vs ≡ later.windows
      →
      ((picks : ℕ → ℕ → List Reply)
      → StoresKeep keeps (windows_in vs) lines picks logs
      → AddsReplies has (windows_in vs) lines picks old new)
      → RunsSection has s lines old new later
  section_ran has vs old new e merged =
      let same : windows_in vs ≡ ws = ap windows_in e ∙ r.stays.windows in
      let a = merged r.picks
      (subst (λ us. StoresKeep keeps us lines r.picks logs) (sym same) stores_keep) in
      record {
        news = a.news;
        grown = a.grown;
        sectioned =
            stores_sectioned a.news (subst (λ us. IsMerged us lines r.picks a.news) same a.merged);
      }

  pub section_keeps :
      (vs : List WindowState)
      → vs ≡ later.windows
      → (picks : ℕ → ℕ → List Reply) × StoresKeep keeps (windows_in vs) lines picks logs
  section_keeps vs e = (
    r.picks,
    subst (λ us. StoresKeep keeps us lines r.picks logs)
        (sym (ap windows_in e ∙ r.stays.windows)) stores_keep,
  )
