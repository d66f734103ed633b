-- In a good run entries and stamps of all stores are numbers that a text can show.
use Rattle.std.specs.Prelude.{None}
use Rattle.std.proofs.Common.{◌≡◌, ℕ, zero, suc, ◌<◌, ◌≤◌, List, [], ◌∷◌, ap, sym, ◌∙◌, refl, subst, length, map, get_or, arith}
use Rattle.std.specs.List.{AllByRecursion}
use Rattle.hpte_fields.specs.TableSize.{entry_count, greatest_order, least_order}
use Rattle.entry_model.specs.State.{State, empty_state}
use Rattle.trace_line.specs.declared.act.Act.{Act}
use Rattle.trace_read.specs.Trace.{AcceptedTrace, IsAccepted}
use Rattle.trace_reply.specs.Replies.{RepliedLine, receipts_in}
use Rattle.run_model.specs.AllStores.{WindowState, AllStores, opened, as_store, opening_all}
use Rattle.run_model.specs.Sections.{AreLegalTo, Section, made_in, states_behind}
use Rattle.run_model.specs.StoreNumbers.{store_at}
use Rattle.run_model.specs.Stores.{Store, is_on, is_on_window, opening_window, lines_on, states_of}
use Rattle.basics.proofs.Each.{each_filter, each_replicate, each_of_map, each_within}
use Rattle.run_model.proofs.LinesByProcessor.{Cpus}
use Rattle.run_model.proofs.OneProcessor.{closing_size}
use Rattle.run_model.proofs.SectionGood.{OnCpus}
use Rattle.run_model.proofs.StoreNumbers.{window_at}
use Rattle.run_model.proofs.StoreSerial.{opening_size}
use Rattle.run_model.proofs.TableNamed.{quiet_window, closed_window}
use Rattle.history_check.specs.FoundSection.{opening_of, section_on, closing_of}
use Rattle.history_check.specs.FoundStores.{windows_of, lines_at, AreGoodOn, stores_behind, run_quiet_on}
use Rattle.history_check.proofs.ByStore.{each_by_store}
use Rattle.history_check.proofs.GoodStores.{closed_states, each_size, opening_named}
use Rattle.history_check.proofs.Short.{IsLow, LowStates, IsPlain, ShortLines, small_table, section_low, closed_plain, lines_short, quiet_plain, opening_plain}
use Rattle.history_check.proofs.TextMarks.{AreShort}

-- A store of no more entries than the largest table has, with low stamps.
pub record IsSmall (states : List State) : Type 0 where
  pub few : length states ≤ entry_count greatest_order
  pub low : LowStates states

-- The page table, which is the first, and each window are such.
pub record ArePlainStores (s : AllStores) : Type 0 where
  pub named : s.table.window ≡ None
  pub table : IsPlain s.table
  pub windows : AllByRecursion (λ (v : WindowState). IsSmall v.states) s.windows

section_small :
    (s : Section)
    → OnCpus s
    → IsSmall (states_of s.before)
    → AreLegalTo s (closing_of s)
    → ShortLines s.replied_lines × IsSmall (closing_of s)
section_small s within h g =
    let size : length (closing_of s) ≡ length (states_of s.before) = closing_size
    (states_of s.before) (made_in s) in (
      lines_short s within h.few h.low g,
      record {
        few = subst (λ n. n ≤ entry_count greatest_order) (sym size) h.few;
        low = (section_low s (closing_of s) size h.few h.low g).1;
      },
    )

module _ (s : AllStores) (ts : List RepliedLine) (within : Cpus (length s.table.processors) ts)
    (h : ArePlainStores s) (g : AreGoodOn s ts) where
  small_at : (number : ℕ) → number ≤ length s.windows → IsSmall (states_of (store_at s number))
  small_at zero low = record { few = small_table s.table h.table; low = h.table.low }
  small_at (suc k) low =
      let w = window_at s.table s.windows k (omega (arith, low)) in
      subst (λ (x : Store). IsSmall (states_of x)) (sym (w.store s.table))
      (subst (λ (v : WindowState). IsSmall v.states) (w.state w.window)
      (each_within (λ (v : WindowState). IsSmall v.states) s.windows k w.window h.windows
      (omega (arith, low))))

  -- The section of each store.
  each_small :
      (number : ℕ)
      → number ≤ length s.windows
      → ShortLines (lines_at s number ts)
      × IsSmall (states_behind (store_at s number) (lines_at s number ts))
  each_small number low =
      let x = store_at s number in
      let cpus : Cpus (length x.processors) (lines_at s number ts) = subst
      (λ n. Cpus n (lines_at s number ts)) (sym (each_size s number low))
      (each_filter (λ (t : RepliedLine). t.line.cpu < length s.table.processors)
      (λ (t : RepliedLine). is_on (windows_of s) x.window t.line.act) ts within) in
      section_small (section_on (opening_of x) (lines_at s number ts)) cpus (small_at number low)
      (g number low).0

  pub stores_short : ShortLines ts × ArePlainStores (stores_behind s ts)
  stores_short = (
    each_by_store (λ (t : RepliedLine). AreShort (receipts_in t.reply))
        (λ (t : RepliedLine). t.line.act) s ts h.named (λ number low. (each_small number low).0),
    record {
      named = closed_window s.table (lines_at s 0 ts) ∙ h.named;
      table =
          closed_plain s.table (lines_at s 0 ts) h.table
          (subst LowStates (sym (closed_states s.table (lines_at s 0 ts)))
          (each_small 0 (omega arith)).1.low);
      windows = windows_small s.windows (λ k v low is. here k v low is);
    },
  ) where
    here :
        (k : ℕ) (v : WindowState)
        → k < length s.windows
        → v ≡ get_or s.windows k v
        → IsSmall (states_behind (as_store s.table v) (lines_on (is_on_window v.window) ts))
    here k v low is =
        let w = window_at s.table s.windows k low in
        let x : store_at s (suc k) ≡ as_store s.table v = w.store s.table ∙ ap (as_store s.table)
        (sym (is ∙ w.state v)) in
        subst
        (λ (y : Store).
        IsSmall (states_behind y (lines_on (is_on (windows_of s) y.window) ts))) x
        (each_small (suc k) (omega (arith, low))).1

    windows_small :
        (vs : List WindowState)
        →
        ((k : ℕ) (v : WindowState)
        → k < length vs
        → v ≡ get_or vs k v
        → IsSmall (states_behind (as_store s.table v) (lines_on (is_on_window v.window) ts)))
        → AllByRecursion (λ (v : WindowState). IsSmall v.states)
        (map
        (λ (v : WindowState).
        record v {
          states = states_behind (as_store s.table v) (lines_on (is_on_window v.window) ts);
        }) vs)
    windows_small [] f = tt
    windows_small (v ∷ vs) f = (
      f 0 v (omega arith) refl,
      windows_small vs (λ k u low is. f (suc k) u (omega (arith, low)) is),
    )

pub quiet_stores_plain :
    (s : AllStores) (act : Act) → ArePlainStores s → ArePlainStores (run_quiet_on s act).1
quiet_stores_plain s act h = record {
  named = quiet_window s.table act ∙ h.named;
  table = quiet_plain s.table act h.table;
  windows = h.windows;
}

opened_low : LowStates opening_window
unfolding opening_window
opened_low = each_replicate IsLow (entry_count least_order) (empty_state 0) (omega arith)

opened_small : IsSmall opening_window
opened_small =
    record {
      few = subst (λ n. n ≤ entry_count greatest_order) (sym opening_size) (omega arith);
      low = opened_low;
    }

pub opening_stores_plain :
    (t : AcceptedTrace) → IsAccepted t → ArePlainStores (opening_all t.config)
opening_stores_plain t is =
    record {
      named = opening_named t.config;
      table = opening_plain t is;
      windows =
          each_of_map (λ (v : WindowState). IsSmall v.states) opened t.config.windows
          (λ w. opened_small);
    }
