-- In the serial run of all stores the lines on each store run alone there: the page table and the
-- windows alike.
use Rattle.std.specs.Prelude.{IfSome, Bool, ◌==◌, if◌then◌else◌}
use Rattle.std.proofs.Common.{◌≡◌, ℕ, List, [], ◌∷◌, true, false, ap, sym, ◌∙◌, refl, subst, map, length, ◌⊎◌, inl, inr, Option, Some, None, arith, ◌^◌}
use Rattle.std.specs.List.{AllByRecursion}
use Rattle.std.proofs.lemmas.Bool.{cases_Bool, cond_both, eqb-true}
use Rattle.std.proofs.lemmas.List.{length-replicate}
use Rattle.bus_window.specs.Windows.{BusWindow, IsWindow}
use Rattle.papr_codes.specs.declared.calls.Hcall.{Hcall}
use Rattle.papr_codes.specs.declared.codes.Rc.{Rc}
use Rattle.papr_codes.specs.declared.codes.Rc.TheVariants.{Success}
use Rattle.papr_codes.specs.Hcalls.{hcall_of}
use Rattle.std.specs.Prelude.{slice_index}
use Rattle.entry_model.specs.State.{State, empty_state}
use Rattle.hpt_resize.specs.TableMemory.{TableMemory, with_states, prepare_result, commit_result}
use Rattle.hpt_resize.specs.Resize.{Table}
use Rattle.tlb_model.specs.Processor.{Processor, new_processor, without_cache}
use Rattle.trace_line.specs.Lines.{is_quiet}
use Rattle.trace_line.specs.declared.act.Act.{Act}
use Rattle.trace_line.specs.declared.line.TraceLine.{TraceLine}
use Rattle.trace_read.specs.Configuration.{NumbersDiffer}
use Rattle.trace_read.specs.Trace.{AcceptedTrace, IsAccepted}
use Rattle.trace_reply.specs.declared.reply.Reply.{Reply}
use Rattle.trace_reply.specs.Replies.{RepliedLine, AreReplies, IsOfKind, lines_with_replies}
use Rattle.run_model.specs.GoodRun.{IsGoodOn, IsGoodRun}
use Rattle.run_model.specs.Processors.{processor_at, processors_after}
use Rattle.run_model.specs.Quiet.{QuietPart, cut}
use Rattle.run_model.specs.QuietLines.{is_success, run_resize, run_quiet_line, after_prepare, after_commit}
use Rattle.run_model.specs.SerialRun.{line_result, with_result, run_on, run_line, replies_from, serial_replies}
use Rattle.run_model.specs.Stores.{Store, context_of, states_of, page_table, opening_window, opening_store, opening_stores, is_on_window, is_on}
use Rattle.run_model.proofs.CachesHold.{IsSound, ProcessorFresh, sound_on, empty_fresh, no_cache}
use Rattle.basics.proofs.Each.{each_map, each_both, each_of_map, each_replicate, over_map}
use Rattle.run_model.proofs.Memories.{MemoryStands, opening_stands, memory_prepared, prepare_table, memory_committed, commit_moves}
use Rattle.run_model.proofs.OneReply.{Cut}
use Rattle.run_model.proofs.SectionGood.{AllCpus, Stands, sections_good}
use Rattle.run_model.proofs.SerialGood.{cut_cpus, lines_on_cpus, opening_processors, one_kind}
use Rattle.run_model.proofs.SerialReplies.{replied_line_meets}
use Rattle.run_model.proofs.StoreLines.{other_window, on_first, off_first, SomeHas, names, opening_has}
use Rattle.run_model.proofs.TableNamed.{quiet_window, line_window, opening_table}
use Rattle.run_model.proofs.Undisturbed.{IsUndisturbed}
use Rattle.papr_codes.specs.declared.calls.Hcall.TheVariants as calls
use Rattle.trace_line.specs.declared.act.Act.TheVariants as acts

-- What stands between two lines of a store.
pub record SoundStore (s : Store) : Type 0 where
  pub window : IfSome s.window IsWindow
  pub lines : IsSound s.memory.table.order s.processors (states_of s)
  pub memory : MemoryStands s.memory

-- ---- quiet lines
each_cleared :
    (states : List State) (processors : List Processor)
    → AllByRecursion (ProcessorFresh states) (map without_cache processors)
each_cleared states processors =
    each_of_map (ProcessorFresh states) without_cache processors (λ p. no_cache states)

committed_sound :
    (s : Store) (x : Rc × TableMemory)
    → MemoryStands x.1
    → SoundStore s
    → (x.0 ≡ Success) ⊎ (x.1.table ≡ s.memory.table)
    → SoundStore (after_commit s x).1
committed_sound s x stands h with_result =
    record {
      window = h.window;
      lines = record { size = stands.size; low = stands.low; fresh = at with_result };
      memory = stands;
    } where
      at :
          (x.0 ≡ Success) ⊎ (x.1.table ≡ s.memory.table)
          → AllByRecursion (ProcessorFresh x.1.table.states)
          (if is_success x.0 then map without_cache s.processors else s.processors)
      at (inl done) = rw done (each_cleared x.1.table.states s.processors)
      at (inr same) =
          cond_both (is_success x.0) (map without_cache s.processors) s.processors
          (AllByRecursion (ProcessorFresh x.1.table.states))
          (λ _. each_cleared x.1.table.states s.processors)
          (λ _.
          subst (λ (t : Table). AllByRecursion (ProcessorFresh t.states) s.processors) (sym same)
          h.lines.fresh)

prepared_sound :
    (s : Store) (x : Rc × TableMemory)
    → MemoryStands x.1
    → x.1.table ≡ s.memory.table
    → SoundStore s
    → SoundStore (after_prepare s x).1
prepared_sound s x stands same h =
    record {
      window = h.window;
      lines = subst (λ (t : Table). IsSound t.order s.processors t.states) (sym same) h.lines;
      memory = stands;
    }

resize_sound :
    (s : Store) (call : Hcall) (args : List ℕ)
    → SoundStore s
    → SoundStore (run_resize s call args).1
unfolding run_resize
resize_sound s calls.Prepare args h =
    prepared_sound s (prepare_result s.memory (slice_index args 0) (slice_index args 1))
    (memory_prepared s.memory (slice_index args 0) (slice_index args 1) h.memory)
    (prepare_table s.memory (slice_index args 0) (slice_index args 1)) h
resize_sound s calls.Commit args h =
    committed_sound s (commit_result s.memory (slice_index args 0) (slice_index args 1))
    (memory_committed s.memory (slice_index args 0) (slice_index args 1) h.memory) h
    (commit_moves s.memory (slice_index args 0) (slice_index args 1) h.memory)
resize_sound s other args h = h

quiet_sound : (s : Store) (act : Act) → SoundStore s → SoundStore (run_quiet_line s act).1
unfolding run_quiet_line
quiet_sound s (acts.Call number args spelt) h = resize_sound s (hcall_of number) args h
quiet_sound s other h = h

-- ---- other lines
-- What a line that isn't quiet gives.
abbrev gives : Store → TraceLine → Reply × Store
gives s l =
    with_result s l
    (line_result (context_of s) (processor_at s.processors l.cpu) (states_of s) l.act)

abbrev replied : TraceLine → Reply → RepliedLine
replied l r = record { line = l; reply = r }

meets :
    (s : Store) (l : TraceLine)
    → is_quiet l.act ≡ false
    → SoundStore s
    → IsUndisturbed (context_of s) (processor_at s.processors l.cpu) (states_of s)
    (replied l (gives s l).0) (states_of (gives s l).1)
meets s l q h = replied_line_meets (context_of s) s.processors (states_of s) l q h.window h.lines

gives_sound :
    (s : Store) (l : TraceLine) → is_quiet l.act ≡ false → SoundStore s → SoundStore (gives s l).1
gives_sound s l q h =
    let y = gives s l in
    let lines : IsSound s.memory.table.order (processors_after s.processors (replied l y.0))
    (states_of y.1) = sound_on (context_of s) s.processors (states_of s) (states_of y.1)
    (replied l y.0) h.lines (meets s l q h) in
    record {
      window = h.window;
      lines = lines;
      memory =
          record {
            limited = h.memory.limited;
            low = h.memory.low;
            size = lines.size;
            allowed = h.memory.allowed;
          };
    }

-- ---- the store of a line
-- A line on the store named so is on none of the stores before it.
abbrev IsBeside : List BusWindow → Option BusWindow → Store → Type 0
IsBeside ws o v = (act : Act) → is_on ws o act ≡ true → is_on ws v.window act ≡ false

-- The first store that has the lines of this name is this one.
abbrev HasStore : List BusWindow → Option BusWindow → Store → List Store → Type 0
HasStore ws o s [] = ⊥
HasStore ws o s (v ∷ vs) = (v ≡ s) ⊎ (IsBeside ws o v × HasStore ws o s vs)

-- A line on it.
abbrev Acts : List BusWindow → Option BusWindow → Store → TraceLine → Reply × List Store → Type 0
Acts ws o s l y = (y.0 ≡ (run_on s l).0) × HasStore ws o (run_on s l).1 y.1

acts_on :
    (ws : List BusWindow) (o : Option BusWindow) (s : Store) (ss : List Store) (l : TraceLine)
    → s.window ≡ o
    → is_on ws o l.act ≡ true
    → HasStore ws o s ss
    → Acts ws o s l (run_line ws ss l)
acts_on ws o s [] l named on h = absurd h
acts_on ws o s (v ∷ vs) l named on (inl same) =
    let yes : is_on ws v.window l.act ≡ true = ap (λ (u : Store). is_on ws u.window l.act) same ∙ ap
    (λ w. is_on ws w l.act) named ∙ on in
    rw yes (ap (λ (u : Store). (run_on u l).0) same, inl (ap (λ (u : Store). (run_on u l).1) same))
acts_on ws o s (v ∷ vs) l named on (inr later) =
    let k = acts_on ws o s vs l named on later.1 in
    let no : is_on ws v.window l.act ≡ false = later.0 l.act on in
    rw no (k.0, inr (later.0, k.1))

-- A line on another.
leaves :
    (ws : List BusWindow) (o : Option BusWindow) (s : Store) (ss : List Store) (l : TraceLine)
    → s.window ≡ o
    → is_on ws o l.act ≡ false
    → HasStore ws o s ss
    → HasStore ws o s (run_line ws ss l).1
leaves ws o s [] l named off h = absurd h
leaves ws o s (v ∷ vs) l named off (inl same) =
    let no : is_on ws v.window l.act ≡ false = ap (λ (u : Store). is_on ws u.window l.act) same ∙ ap
    (λ w. is_on ws w l.act) named ∙ off in
    rw no (inl same)
leaves ws o s (v ∷ vs) l named off (inr later) =
    let x = run_on v l in
    cond_both (is_on ws v.window l.act) (x.0, x.1 ∷ vs)
    ((run_line ws vs l).0, v ∷ (run_line ws vs l).1)
    (λ (y : Reply × List Store). HasStore ws o s y.1)
    (λ on. inr (λ act a. ap (λ w. is_on ws w act) (line_window v l) ∙ later.0 act a, later.1))
    (λ no. inr (later.0, leaves ws o s vs l named off later.1))

-- ---- its lines run alone
-- A line in front, on the store or not.
front_on :
    (on : Act → Bool) (s : Store) (t : RepliedLine) (mid : List State) (ts : List RepliedLine)
    (qs : List QuietPart)
    → on t.line.act ≡ true
    → IsUndisturbed (context_of s) (processor_at s.processors t.line.cpu) (states_of s) t mid
    → Stands on
    (record s {
      memory = with_states s.memory mid;
      processors = processors_after s.processors t;
    }) ts qs
    → Stands on s (t ∷ ts) qs
front_on on s t mid ts [] here u h = rw here (h.0, (mid, u, h.1))
front_on on s t mid ts (q ∷ qs) here u h = rw here (h.0, (mid, u, h.1), h.2, h.3)

front_off :
    (on : Act → Bool) (s : Store) (t : RepliedLine) (ts : List RepliedLine) (qs : List QuietPart)
    → on t.line.act ≡ false
    → Stands on s ts qs
    → Stands on s (t ∷ ts) qs
front_off on s t ts [] off h = rw off h
front_off on s t ts (q ∷ qs) off h = rw off h

quiet_on_front :
    (on : Act → Bool) (s : Store) (t : RepliedLine) (x : List RepliedLine × List QuietPart)
    → on t.line.act ≡ true
    → t.reply ≡ (run_quiet_line s t.line.act).0
    → Stands on (run_quiet_line s t.line.act).1 x.0 x.1
    → Stands on s [] ((t, x.0) ∷ x.1)
quiet_on_front on s t x here e h = rw here (states_of s, refl, e, h)

quiet_off_front :
    (on : Act → Bool) (s : Store) (t : RepliedLine) (x : List RepliedLine × List QuietPart)
    → on t.line.act ≡ false
    → Stands on s x.0 x.1
    → Stands on s [] ((t, x.0) ∷ x.1)
quiet_off_front on s t x off h = rw off (states_of s, refl, tt, h)

pub quiet_is :
    (s : Store) (l : TraceLine) → is_quiet l.act ≡ true → run_on s l ≡ run_quiet_line s l.act
unfolding run_on
quiet_is s l q = rw q refl

plain_is : (s : Store) (l : TraceLine) → is_quiet l.act ≡ false → run_on s l ≡ gives s l
unfolding run_on
plain_is s l q = rw q refl

pub store_stands :
    (ws : List BusWindow) (o : Option BusWindow) (s : Store) (ss : List Store) (ls : List TraceLine)
    → s.window ≡ o
    → SoundStore s
    → HasStore ws o s ss
    → Cut (is_on ws o) s (lines_with_replies ls (replies_from ws ss ls))
store_stands ws o s ss [] named h has = (states_of s, refl)
store_stands ws o s ss (l ∷ ls) named h has =
    at (cases_Bool (is_quiet l.act)) (cases_Bool (is_on ws o l.act))
    (λ u. store_stands ws o u (run_line ws ss l).1 ls) where
      Later : Type 0
      Later =
          (u : Store)
          → u.window ≡ o
          → SoundStore u
          → HasStore ws o u (run_line ws ss l).1
          → Cut (is_on ws o) u (lines_with_replies ls (replies_from ws (run_line ws ss l).1 ls))

      at :
          (is_quiet l.act ≡ true) ⊎ (is_quiet l.act ≡ false)
          → (is_on ws o l.act ≡ true) ⊎ (is_on ws o l.act ≡ false)
          → Later
          → Cut (is_on ws o) s (lines_with_replies (l ∷ ls) (replies_from ws ss (l ∷ ls)))
      at (inl quiet) (inl on) rest =
          let t = replied l (run_line ws ss l).0 in
          let x = cut (lines_with_replies ls (replies_from ws (run_line ws ss l).1 ls)) in
          let y = run_quiet_line s l.act in
          let k = acts_on ws o s ss l named on has in
          let e = quiet_is s l quiet in
          let front = quiet_on_front (is_on ws o) s t x on (k.0 ∙ ap (λ (z : Reply × Store). z.0) e)
          (rest y.1 (quiet_window s l.act ∙ named) (quiet_sound s l.act h)
          (subst (λ (z : Reply × Store). HasStore ws o z.1 (run_line ws ss l).1) e k.1)) in
          rw quiet front
      at (inl quiet) (inr off) rest =
          let t = replied l (run_line ws ss l).0 in
          let x = cut (lines_with_replies ls (replies_from ws (run_line ws ss l).1 ls)) in
          let front = quiet_off_front (is_on ws o) s t x off
          (rest s named h (leaves ws o s ss l named off has)) in
          rw quiet front
      at (inr plain) (inl on) rest =
          let x = cut (lines_with_replies ls (replies_from ws (run_line ws ss l).1 ls)) in
          let y = gives s l in
          let k = acts_on ws o s ss l named on has in
          let e = plain_is s l plain in
          let later = rest y.1 named (gives_sound s l plain h)
          (subst (λ (z : Reply × Store). HasStore ws o z.1 (run_line ws ss l).1) e k.1) in
          let front = front_on (is_on ws o) s (replied l y.0) (states_of y.1) x.0 x.1 on
          (meets s l plain h) later in
          let same : y.0 ≡ (run_line ws ss l).0 = sym (k.0 ∙ ap (λ (z : Reply × Store). z.0) e) in
          let k : Stands (is_on ws o) s (replied l (run_line ws ss l).0 ∷ x.0) x.1 = subst
          (λ r. Stands (is_on ws o) s (record { line = l; reply = r } ∷ x.0) x.1) same front in
          rw plain k
      at (inr plain) (inr off) rest =
          let t = replied l (run_line ws ss l).0 in
          let x = cut (lines_with_replies ls (replies_from ws (run_line ws ss l).1 ls)) in
          let front = front_off (is_on ws o) s t x.0 x.1 off
          (rest s named h (leaves ws o s ss l named off has)) in
          rw plain front

-- ---- the beginning
pub page_table_sound : (t : AcceptedTrace) → IsAccepted t → SoundStore (page_table t.config)
unfolding page_table
page_table_sound t is =
    let c = t.config in
    let memory = opening_stands c.limit c.order c.granted.pool_base c.granted.pool_order c.entries
    (omega (arith, is.configured.settings.at_most)) is.configured.settings.at_least in
    record {
      window = tt;
      lines =
          record {
            size = memory.size;
            low = memory.low;
            fresh = each_replicate _ c.cpus new_processor (empty_fresh _);
          };
      memory = memory;
    }

pub opening_size : length opening_window ≡ 2 ^ 14
unfolding opening_window
opening_size = length-replicate (2 ^ 14) (empty_state 0)

window_sound :
    (t : AcceptedTrace) (w : BusWindow) → IsWindow w → SoundStore (opening_store t.config w)
window_sound t w is = record {
  window = is;
  lines =
      record {
        size = opening_size;
        low = omega arith;
        fresh = each_replicate _ t.config.cpus new_processor (empty_fresh _);
      };
  memory = record { limited = omega arith; low = omega arith; size = opening_size; allowed = tt };
}

-- ---- each window is the first store of its number
differs : (n m : ℕ) → ¬ (n ≡ m) → n == m ≡ false
differs n m h = at (cases_Bool (n == m)) where
  at : (n == m ≡ true) ⊎ (n == m ≡ false) → n == m ≡ false
  at (inl e) = absurd (h (eqb-true n m e))
  at (inr e) = e

module _ (t : AcceptedTrace) where
  abbrev Has : List Store → BusWindow → Type 0
  Has ss w = HasStore t.config.windows (Some w) (opening_store t.config w) ss

  behind_one :
      (v : BusWindow) (us : List BusWindow) (ss : List Store)
      → AllByRecursion (λ (u : BusWindow). ¬ (v.liobn ≡ u.liobn)) us
      → AllByRecursion (Has ss) us
      → AllByRecursion (Has (opening_store t.config v ∷ ss)) us
  behind_one v [] ss d h = tt
  behind_one v (u ∷ us) ss d h = (
    inr (λ act on. other_window u v act on ∙ differs v.liobn u.liobn d.0, h.0),
    behind_one v us ss d.1 h.1,
  )

  each_has :
      (us : List BusWindow)
      → NumbersDiffer us
      → AllByRecursion (Has (map (opening_store t.config) us)) us
  each_has [] d = tt
  each_has (u ∷ us) d =
      (inl refl, behind_one u us (map (opening_store t.config) us) d.0 (each_has us d.1))

  off_more :
      (v : BusWindow) (vs : List BusWindow) (act : Act)
      → is_on vs None act ≡ false
      → is_on (v ∷ vs) None act ≡ false
  off_more v vs act h = at (cases_Bool (is_on_window v act)) where
    at :
        (is_on_window v act ≡ true) ⊎ (is_on_window v act ≡ false) → is_on (v ∷ vs) None act ≡ false
    at (inl on) = on_first v vs act on
    at (inr off) = off_first v vs act off ∙ h

  abbrev Off : List BusWindow → BusWindow → Type 0
  Off ws w = (act : Act) → is_on_window w act ≡ true → is_on ws None act ≡ false

  each_off : (ws : List BusWindow) → AllByRecursion (Off ws) ws
  each_off [] = tt
  each_off (w ∷ ws) = (
    λ act on.
        on_first w ws act on,
    each_map (Off ws) (Off (w ∷ ws)) ws (λ u h act on. off_more w ws act (h act on))
        (each_off ws),
  )

  windows_have :
      NumbersDiffer t.config.windows
      → AllByRecursion (Has (opening_stores t.config)) t.config.windows
  windows_have d =
      let ws = t.config.windows in
      each_map (λ w. Off ws w × Has (map (opening_store t.config) ws) w)
      (Has (opening_stores t.config)) ws
      (λ w h. inr (λ act on. ap (λ o. is_on ws o act) (opening_table t) ∙ h.0 act on, h.1))
      (each_both (Off ws) (Has (map (opening_store t.config) ws)) ws (each_off ws) (each_has ws d))

-- ---- the serial run
-- The store's lines run alone, section by section, and it has the trace's processors.
abbrev pub RunsHere : AcceptedTrace → Store → Type 0
RunsHere t s =
    Cut (is_on t.config.windows s.window) s (lines_with_replies t.lines (serial_replies t))
    × (length s.processors ≡ t.config.cpus)

pub each_runs :
    (t : AcceptedTrace) → IsAccepted t → AllByRecursion (RunsHere t) (opening_stores t.config)
each_runs t is =
    let ws = t.config.windows in
    let all = opening_stores t.config in
    let first = page_table t.config in (
      (
        store_stands ws first.window first all t.lines refl (page_table_sound t is) (inl refl),
        opening_processors t,
      ),
      over_map (λ w. IsWindow w × Has t all w) (RunsHere t) (opening_store t.config) ws
          (λ w h. (
            store_stands ws (Some w) (opening_store t.config w) all t.lines refl
                (window_sound t w h.0) h.1,
            length-replicate t.config.cpus new_processor,
          ))
          (each_both IsWindow (Has t all) ws is.windows.each (windows_have t is.windows.differ)),
    )

pub serial_cpus :
    (t : AcceptedTrace) → IsAccepted t → let c =
    cut (lines_with_replies t.lines (serial_replies t)) in AllCpus t.config.cpus c.0 c.1
serial_cpus t is =
    let all = lines_with_replies t.lines (serial_replies t) in
    cut_cpus t.config.cpus all
    (lines_on_cpus t.config.cpus t.lines (serial_replies t) is.lines.on_cpus)

-- ---- kinds of replies
none_has :
    (ws : List BusWindow) (o : Option BusWindow) (os : List (Option BusWindow)) (act : Act)
    → is_on ws o act ≡ false
    → SomeHas ws (o ∷ os) act
    → SomeHas ws os act
none_has ws o os act off (inl on) = let no : true ≡ false = sym on ∙ off in cc
none_has ws o os act off (inr some) = some

-- Where some store has the line, the reply is of its kind.
line_kind :
    (ws : List BusWindow) (ss : List Store) (l : TraceLine)
    → SomeHas ws (names ss) l.act
    → IsOfKind l.act (run_line ws ss l).0
line_kind ws [] l h = absurd h
line_kind ws (s ∷ ss) l h =
    let x = run_on s l in
    cond_both (is_on ws s.window l.act) (x.0, x.1 ∷ ss)
    ((run_line ws ss l).0, s ∷ (run_line ws ss l).1)
    (λ (y : Reply × List Store). IsOfKind l.act y.0)
    (λ on. one_kind s l)
    (λ off. line_kind ws ss l (none_has ws s.window (names ss) l.act off h))

-- A line leaves the names of the stores.
pub names_stay :
    (ws : List BusWindow) (ss : List Store) (l : TraceLine) → names (run_line ws ss l).1 ≡ names ss
names_stay ws [] l = refl
names_stay ws (s ∷ ss) l =
    let x = run_on s l in
    cond_both (is_on ws s.window l.act) (x.0, x.1 ∷ ss)
    ((run_line ws ss l).0, s ∷ (run_line ws ss l).1)
    (λ (y : Reply × List Store). names y.1 ≡ names (s ∷ ss))
    (λ on. ap (λ o. o ∷ names ss) (line_window s l))
    (λ off. ap (λ os. s.window ∷ os) (names_stay ws ss l))

kinds_from :
    (ws : List BusWindow) (ss : List Store) (ls : List TraceLine)
    → ((act : Act) → SomeHas ws (names ss) act)
    → AreReplies ls (replies_from ws ss ls)
kinds_from ws ss [] h = tt
kinds_from ws ss (l ∷ ls) h = (
  line_kind ws ss l (h l.act),
  kinds_from ws (run_line ws ss l).1 ls
      (λ act. subst (λ os. SomeHas ws os act) (sym (names_stay ws ss l)) (h act)),
)

pub serial_kinds : (t : AcceptedTrace) → AreReplies t.lines (serial_replies t)
serial_kinds t =
    kinds_from t.config.windows (opening_stores t.config) t.lines (opening_has t.config)

-- ---- the serial run is good
pub serial_good : (t : AcceptedTrace) → IsAccepted t → IsGoodRun t (serial_replies t)
serial_good t is =
    let c = cut (lines_with_replies t.lines (serial_replies t)) in
    record {
      kinds = serial_kinds t;
      stores =
          each_map (RunsHere t) (IsGoodOn t (serial_replies t)) (opening_stores t.config)
          (λ s h.
          sections_good (is_on t.config.windows s.window) t.config.cpus s c.0 c.1 h.1
          (serial_cpus t is) h.0) (each_runs t is);
    }
