-- What the judge owes of a section, store by store.
use Rattle.std.specs.Prelude.{IfOk, IfSome, IfNone}
use Rattle.std.proofs.Common.{◌≡◌, ◌≢◌, ℕ, zero, suc, ◌+◌, ◌<◌, ◌≤◌, List, [], ◌∷◌, true, false, ap, sym, ◌∙◌, refl, subst, drop, length, get_or, set, eqb, arith, ◌⊎◌, inl, inr, Option, Some, None, Result, Ok, Err}
use Rattle.std.specs.List.{AllByRecursion}
use Rattle.std.proofs.lemmas.Bool.{cases_Bool, eqb-true, eqb-false}
use Rattle.bus_window.specs.Windows.{BusWindow}
use Rattle.entry_model.specs.State.{State}
use Rattle.tlb_model.specs.Processor.{Processor}
use Rattle.trace_line.specs.declared.line.TraceLine.{TraceLine}
use Rattle.trace_reply.specs.declared.reply.Reply.{Reply}
use Rattle.trace_reply.specs.Replies.{RepliedLine, lines_with_replies}
use Rattle.run_model.specs.AllStores.{WindowState, AllStores, as_store, windows_in}
use Rattle.run_model.specs.Sections.{section_end, states_behind}
use Rattle.run_model.specs.StoreNumbers.{store_at, AreNamed, lines_on_store}
use Rattle.run_model.specs.Stores.{Store, states_of, is_on, is_on_window, lines_on}
use Rattle.basics.proofs.Each.{each_passes}
use Rattle.run_model.proofs.SectionGood.{closes}
use Rattle.run_model.proofs.SectionChain.{closed_number}
use Rattle.run_model.proofs.StoreNumbers.{window_at, table_changed, window_changed, window_others, lines_numbered, stays_so, stays_through}
use Rattle.run_model.specs.Quiet.{NoneQuiet}
use Rattle.history_check.specs.FoundSection.{Opening, opening_of, IsGoodOn, IsFound, HasSection, HasNoSection, TellsSection}
use Rattle.history_check.specs.FoundStores.{windows_of, lines_at, AreFound, stores_behind}
use Rattle.history_check.specs.PartedText.{part_on_store}
use Rattle.history_check.specs.StoreParts.{LeavesStore, AreOn, FoundOn, LeavesPart, FoundBelow}
use Rattle.history_check.proofs.FoundParts.{behind_is, store_has}
use Rattle.history_check.proofs.GoodStores.{closed_size, window_end, store_empty, closed_grants}
use Rattle.history_check.proofs.DealtParts.{windows_stay}

-- ---- one store
-- A section of no lines leaves its store.
none_left : (x : Store) → x ≡ section_end x []
none_left x =
    sym (closes (record { before = x; replied_lines = []; quiet = None }) (states_of x) tt refl)

pub none_on :
    (s : AllStores) (number : ℕ) (ls : List TraceLine) (text : List ℕ)
    → ls ≡ []
    → FoundOn s number ls text 0 s
none_on s number ls text none =
    subst (λ ms. FoundOn s number ms text 0 s) (sym none) (record {
      replies = [];
      found =
          record { kinds = tt; good = store_empty (opening_of (store_at s number)); text = refl };
      behind = λ on. none_left (store_at s number);
      others = λ other differ inside. refl;
      stays = stays_so s;
    })

-- With the lines on the page table found, the first store is done.
pub table_on :
    (s later : AllStores) (ls : List TraceLine) (text : List ℕ) (n : ℕ)
    → LeavesStore s.table later.table ls text n
    → later.windows ≡ s.windows
    → FoundOn s 0 ls text n later
table_on s later ls text n h windows =
    let ts = lines_with_replies ls h.replies in
    let size = ap (λ (x : Store). length x.processors) h.behind ∙ closed_size s.table ts in
    record {
      replies = h.replies;
      found = h.found;
      behind = λ on. h.behind;
      others =
          table_changed s later windows
          (ap (λ (x : Store). x.grants) h.behind ∙ closed_grants s.table ts) size;
      stays = record {
        windows = ap windows_in windows;
        processors = size;
        number =
            ap (λ (x : Store). x.memory.table.number) h.behind ∙ closed_number s.table ts;
      };
    }

-- Lines that are all on a window are those of them that are.
all_on_window :
    (w : BusWindow) (ls : List TraceLine) (rs : List Reply)
    → AllByRecursion (λ (l : TraceLine). is_on_window w l.act ≡ true) ls
    → lines_on (is_on_window w) (lines_with_replies ls rs) ≡ lines_with_replies ls rs
all_on_window w [] rs h = refl
all_on_window w (l ∷ ls) [] h = refl
all_on_window w (l ∷ ls) (r ∷ rs) h =
    rw h.0 (ap (λ ts. record { line = l; reply = r } ∷ ts) (all_on_window w ls rs h.1))

-- The window at an index.
pub window_on :
    (s later : AllStores) (at : ℕ) (ls : List TraceLine) (text : List ℕ) (n : ℕ) (v : WindowState)
    (states : List State) (processors : List Processor)
    → at < length s.windows
    → v ≡ get_or s.windows at v
    → HasSection (opening_of (as_store s.table v)) ls text n states processors
    → later.table ≡ s.table
    → later.windows ≡ set s.windows at (record v { states = states })
    → FoundOn s (at + 1) ls text n later
window_on s later at ls text n v states processors inside is h table windows =
    let behind : suc at ≡ at + 1 = omega arith in
    subst (λ k. FoundOn s k ls text n later) behind (record {
      replies = h.replies;
      found = subst (λ (z : Store). IsFound (opening_of z) ls text h.replies (drop n text)) (sym x)
          h.found;
      behind = closed;
      others = λ other differ low. window_others s later at u table windows other differ;
      stays = record {
        windows =
            ap windows_in windows
            ∙ windows_stay s.windows at v u inside is refl;
        processors = ap (λ (z : Store). length z.processors) table;
        number = ap (λ (z : Store). z.memory.table.number) table;
      };
    }) where
      u : WindowState
      u = record v { states = states }

      ts : List RepliedLine
      ts = lines_with_replies ls h.replies

      x : store_at s (suc at) ≡ as_store s.table v
      x =
          let here = window_at s.table s.windows at inside in
          here.store s.table ∙ ap (as_store s.table) (sym (is ∙ here.state v))

      closed :
          AreOn s (suc at) ls
          → store_at later (suc at)
          ≡ section_end (store_at s (suc at)) (lines_with_replies ls h.replies)
      closed on =
          let on' : AllByRecursion (λ (l : TraceLine). is_on_window v.window l.act ≡ true) ls =
          subst
          (λ (z : Store).
          AllByRecursion
          (λ (l : TraceLine). is_on (windows_of s) z.window l.act ≡ true) ls) x on in
          let all = all_on_window v.window ls h.replies on' in
          let end : section_end (as_store s.table v) (lines_with_replies ls h.replies) ≡ as_store
          s.table u = ap (section_end (as_store s.table v)) (sym all) ∙ window_end s.table
          (lines_with_replies ls h.replies) v ∙
          (λ i.
          as_store s.table
          (record v {
            states =
                (ap (states_behind (as_store s.table v)) all ∙ h.closes) i;
          })) in
          window_changed s later at u table windows inside
          ∙ sym end
          ∙ ap (λ (z : Store). section_end z (lines_with_replies ls h.replies)) (sym x)

-- ---- where one is found
module _ (s later : AllStores) (ls : List TraceLine) (text : List ℕ) where
  pub if_table :
      (found : Option ℕ)
      → IfSome found (LeavesStore s.table later.table ls text)
      → later.windows ≡ s.windows
      → IfSome found (λ n. FoundOn s 0 ls text n later)
  if_table (Some n) h windows = table_on s later ls text n h windows
  if_table None h windows = tt

  pub if_window :
      (found : Option ℕ) (at : ℕ) (v : WindowState) (o : Opening) (states : List State)
      (processors : List Processor)
      → at < length s.windows
      → v ≡ get_or s.windows at v
      → o ≡ opening_of (as_store s.table v)
      → TellsSection o ls text found states processors
      → later.table ≡ s.table
      → later.windows ≡ set s.windows at (record v { states = states })
      → IfSome found (λ n. FoundOn s (at + 1) ls text n later)
  if_window (Some n) at v o states processors inside is same h table windows =
      window_on s later at ls text n v states processors inside is
      (subst (λ z. HasSection z ls text n states processors) same h.1) table windows
  if_window None at v o states processors inside is same h table windows = tt

pub unless_window :
    (s : AllStores) (ls : List TraceLine) (text : List ℕ) (found : Option ℕ) (at : ℕ)
    (v : WindowState) (o : Opening) (states : List State) (processors : List Processor)
    → at < length s.windows
    → v ≡ get_or s.windows at v
    → o ≡ opening_of (as_store s.table v)
    → TellsSection o ls text found states processors
    → IfNone found (HasNoSection (opening_of (store_at s (at + 1))) ls text)
unless_window s ls text (Some n) at v o states processors inside is same h = tt
unless_window s ls text None at v o states processors inside is same h =
    let more : suc at ≡ at + 1 = omega arith in
    let here = window_at s.table s.windows at inside in
    let x : store_at s (suc at) ≡ as_store s.table v = here.store s.table ∙ ap (as_store s.table)
    (sym (is ∙ here.state v)) in
    subst (λ n. HasNoSection (opening_of (store_at s n)) ls text) more
    (subst (λ (z : Store). HasNoSection (opening_of z) ls text) (sym x)
    (subst (λ z. HasNoSection z ls text) same h))

-- ---- all stores
-- The lines have good replies on all stores, which are then as their lines leave them.
abbrev Leaves : AllStores → AllStores → List TraceLine → List ℕ → List ℕ → Type 0
Leaves s new ls text rest =
    (rs : List Reply)
    × AreFound s ls text rs rest
    × (new ≡ stores_behind s (lines_with_replies ls rs))

pub below_none : (s : AllStores) (ls : List TraceLine) (text : List ℕ) → FoundBelow s 0 ls text s
below_none s ls text = record {
  parts = λ number low. absurd (omega (arith, low));
  others = λ number low inside. refl;
  stays = stays_so s;
}

pub below_more :
    (s mid later : AllStores) (k : ℕ) (ls own : List TraceLine) (text told : List ℕ) (n : ℕ)
    → AreNamed s
    → k ≤ length s.windows
    → own ≡ lines_on_store (windows_of s) k ls
    → told ≡ part_on_store (windows_of s) k ls text
    → FoundBelow s k ls text mid
    → FoundOn mid k own told n later
    → length mid.windows ≡ length s.windows
    → FoundBelow s (k + 1) ls text later
below_more s mid later k ls own text told n named inside lines words h f many = record {
  parts = λ number low. at number low (cases_Bool (eqb number k));
  others =
      λ number low within.
      next number (λ e. absurd (omega (arith, low, e))) within
      ∙ h.others number (omega (arith, low)) within;
  stays = stays_through s mid later h.stays f.stays;
} where
  next :
      (number : ℕ)
      → number ≢ k
      → number ≤ length s.windows
      → store_at later number ≡ store_at mid number
  next number differ within = f.others number differ (omega (arith, within, many))

  same : store_at mid k ≡ store_at s k
  same = h.others k (omega arith) inside

  on : AreOn mid k own
  on =
      subst
      (λ (z : List BusWindow × Store).
      AllByRecursion (λ (l : TraceLine). is_on z.0 z.1.window l.act ≡ true) own)
      (λ i. (sym h.stays.windows i, sym same i))
      (subst
      (λ ms.
      AllByRecursion
      (λ (l : TraceLine). is_on (windows_of s) (store_at s k).window l.act ≡ true) ms)
      (sym (lines ∙ lines_numbered s named k inside ls))
      (each_passes (λ (l : TraceLine). is_on (windows_of s) (store_at s k).window l.act) ls))

  here : LeavesPart s k ls text (store_at later k)
  here = record {
    replies = f.replies;
    rest = drop n told;
    found =
        subst
        (λ (z : Store × List TraceLine × List ℕ).
        IsFound (opening_of z.0) z.1 z.2 f.replies (drop n told))
        (λ i. (same i, lines i, words i)) f.found;
    behind =
        f.behind on
        ∙ (λ i. section_end (same i) (lines_with_replies (lines i) f.replies));
  }

  at :
      (number : ℕ)
      → number < k + 1
      → (eqb number k ≡ true) ⊎ (eqb number k ≡ false)
      → LeavesPart s number ls text (store_at later number)
  at number low (inl e) =
      subst (λ m. LeavesPart s m ls text (store_at later m)) (sym (eqb-true number k e)) here
  at number low (inr e) =
      let differ : number ≢ k = eqb-false number k e in
      let below : number < k = lower number low differ in
      subst (LeavesPart s number ls text) (sym (next number differ (omega (arith, below, inside))))
      (h.parts number below) where
        lower : (m : ℕ) → m < k + 1 → m ≢ k → m < k
        lower m less other = omega (arith, less, other)

pub below_not :
    (s mid : AllStores) (k : ℕ) (ls own : List TraceLine) (text told : List ℕ)
    → AreNamed s
    → NoneQuiet ls
    → k ≤ length s.windows
    → own ≡ lines_on_store (windows_of s) k ls
    → told ≡ part_on_store (windows_of s) k ls text
    → FoundBelow s k ls text mid
    → HasNoSection (opening_of (store_at mid k)) own told
    → (rs : List Reply) (rest : List ℕ)
    → AreFound s ls text rs rest
    → ⊥
below_not s mid k ls own text told named plain inside lines words h none rs rest found =
    store_has s ls text rs rest k plain named found inside
    (subst
    (λ (z : Store × List TraceLine × List ℕ). HasNoSection (opening_of z.0) z.1 z.2)
    (λ i. (h.others k (omega arith) inside i, lines i, words i)) none)

-- ---- no window
every_line : (ts : List RepliedLine) → lines_on (is_on [] None) ts ≡ ts
every_line [] = refl
every_line (t ∷ ts) = ap (λ z. t ∷ z) (every_line ts)

every_on :
    (ls : List TraceLine) → AllByRecursion (λ (l : TraceLine). is_on [] None l.act ≡ true) ls
every_on [] = tt
every_on (l ∷ ls) = (refl, every_on ls)

module _ (s : AllStores) (ls : List TraceLine) (text : List ℕ) (named : s.table.window ≡ None)
    (none : s.windows ≡ []) where
  alone : (ts : List RepliedLine) → lines_at s 0 ts ≡ ts
  alone ts = (λ i. lines_on (is_on (windows_in (none i)) (named i)) ts) ∙ every_line ts

  pub alone_found :
      (later : AllStores) (n : ℕ)
      → FoundOn s 0 ls text n later
      → Leaves s later ls text (drop n text)
  alone_found later n f =
      let ts = lines_with_replies ls f.replies in
      let on : AreOn s 0 ls = subst
      (λ (z : List WindowState × Option BusWindow).
      AllByRecursion (λ (l : TraceLine). is_on (windows_in z.0) z.1 l.act ≡ true) ls)
      (λ i. (sym none i, sym named i)) (every_on ls) in (
        f.replies,
        record { kinds = f.found.kinds; good = good; text = f.found.text },
        behind_is s later ts f.stays.windows (closed on),
      ) where
        good :
            (number : ℕ)
            → number ≤ length s.windows
            → IsGoodOn (opening_of (store_at s number))
            (lines_at s number (lines_with_replies ls f.replies))
        good zero low =
            subst (IsGoodOn (opening_of s.table)) (sym (alone (lines_with_replies ls f.replies)))
            f.found.good
        good (suc k) low = absurd (omega (arith, low, ap length none))

        closed :
            AreOn s 0 ls
            → (number : ℕ)
            → number ≤ length s.windows
            → store_at later number
            ≡ section_end (store_at s number)
            (lines_at s number (lines_with_replies ls f.replies))
        closed on zero low =
            f.behind on
            ∙ ap (section_end s.table) (sym (alone (lines_with_replies ls f.replies)))
        closed on (suc k) low = absurd (omega (arith, low, ap length none))

  pub alone_not :
      HasNoSection (opening_of s.table) ls text
      → (rs : List Reply) (rest : List ℕ)
      → AreFound s ls text rs rest
      → ⊥
  alone_not not rs rest h =
      not rs rest
      (record {
        kinds = h.kinds;
        good =
            subst (IsGoodOn (opening_of s.table)) (alone (lines_with_replies ls rs))
            (h.good 0 (omega arith));
        text = h.text;
      })

  pub ok_alone :
      {E : Type 0} (later : AllStores) (r : Result (Option ℕ) E)
      → IfOk r (λ found. IfSome found (λ n. FoundOn s 0 ls text n later))
      → IfOk r (λ found. IfSome found (λ n. Leaves s later ls text (drop n text)))
  ok_alone later (Ok (Some n)) f = alone_found later n f
  ok_alone later (Ok None) f = tt
  ok_alone later (Err e) f = tt

  pub ok_alone_not :
      {E : Type 0} (r : Result (Option ℕ) E)
      → IfOk r (λ found. IfNone found (HasNoSection (opening_of s.table) ls text))
      → IfOk r
      (λ found.
      IfNone found ((rs : List Reply) (rest : List ℕ) → AreFound s ls text rs rest → ⊥))
  ok_alone_not (Ok (Some n)) h = tt
  ok_alone_not (Ok None) h = alone_not h
  ok_alone_not (Err e) h = tt
