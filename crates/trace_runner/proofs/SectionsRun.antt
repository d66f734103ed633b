-- The sections of a parallel run, one after the other.
use Rattle.std.specs.Prelude.{Option, Some, None, IfSome, map}
use Rattle.std.proofs.Common.{◌≡◌, ℕ, zero, suc, ◌+◌, ◌<◌, ◌≤◌, List, [], ◌∷◌, ◌++◌, length, take, drop, get_or, true, false, ap, sym, ◌∙◌, refl, subst, arith, append_assoc, append-nil, take-append-drop}
use Rattle.std.specs.List.{AllByRecursion}
use Rattle.run_model.proofs.LineReceipts.{lines_append}
use Rattle.bus_window.specs.Windows.{BusWindow}
use Rattle.trace_line.specs.declared.line.TraceLine.{TraceLine}
use Rattle.trace_line.specs.Lines.{is_quiet}
use Rattle.trace_read.specs.Configuration.{NumbersDiffer}
use Rattle.trace_reply.specs.declared.reply.Reply.{Reply}
use Rattle.trace_reply.specs.Replies.{RepliedLine, IsOfKind, AreReplies, lines_with_replies}
use Rattle.run_model.specs.AllStores.{WindowState, AllStores, as_store, all_stores, windows_in}
use Rattle.run_model.specs.ParallelRun.{RunsParallel}
use Rattle.run_model.specs.Quiet.{QuietPart, cut, NoneQuiet}
use Rattle.run_model.specs.QuietLines.{run_quiet_line}
use Rattle.run_model.specs.Sections.{section_end_on, quiet_on, after_quiet}
use Rattle.run_model.specs.SerialRun.{run_on, run_line, first_store}
use Rattle.run_model.specs.Stores.{Store, is_on, lines_on}
use Rattle.basics.proofs.Each.{each_by_index, each_within}
use Rattle.run_model.proofs.SerialGood.{quiet_kind}
use Rattle.run_model.proofs.StoreLines.{quiet_on_table, quiet_off_window}
use Rattle.run_model.proofs.TableNamed.{after_window, quiet_window}
use Rattle.trace_runner.specs.MachineState.{RunsLine}
use Rattle.run_model.specs.StoreNumbers.{store_at, AreNamed}
use Rattle.trace_runner.specs.StoreRuns.{SectionLeaves}
use Rattle.trace_runner.specs.Sectioned.{Sectioned, HasGrown, RunsSection, HasRunFrom, Runs}
use Rattle.trace_runner.specs.Workers.{Keeping, replied_line}
use Rattle.trace_runner.proofs.PartsOfLines.{part, rest_is, front_is, part_end}
use Rattle.run_model.proofs.StoreSerial.{quiet_is}
use Rattle.run_model.proofs.StoreNumbers.{same_count, stores_count}
use Rattle.trace_runner.proofs.WorkSteps.{kinds_more}

-- ---- where the quiet lines cut
abbrev NoneQuietIn : List RepliedLine → Type 0
NoneQuietIn us = AllByRecursion (λ (t : RepliedLine). is_quiet t.line.act ≡ false) us

none_in :
    (ls : List TraceLine) (rs : List Reply) → NoneQuiet ls → NoneQuietIn (lines_with_replies ls rs)
none_in [] rs m = tt
none_in (l ∷ ls) [] m = tt
none_in (l ∷ ls) (r ∷ rs) m = (m.0, none_in ls rs m.1)

no_quiet_cut :
    (us ts : List RepliedLine) → NoneQuietIn us → cut (us ++ ts) ≡ (us ++ (cut ts).0, (cut ts).1)
no_quiet_cut [] ts m = refl
no_quiet_cut (t ∷ us) ts m =
    rw m.0 (ap (λ (x : List RepliedLine × List QuietPart). (t ∷ x.0, x.1)) (no_quiet_cut us ts m.1))

quiet_cut :
    (t : RepliedLine) (ts : List RepliedLine)
    → is_quiet t.line.act ≡ true
    → cut (t ∷ ts) ≡ ([], (t, (cut ts).0) ∷ (cut ts).1)
quiet_cut t ts q = rw q refl

section_cut :
    (us : List RepliedLine) (t : RepliedLine) (ts : List RepliedLine)
    → NoneQuietIn us
    → is_quiet t.line.act ≡ true
    → cut (us ++ t ∷ ts) ≡ (us, (t, (cut ts).0) ∷ (cut ts).1)
section_cut us t ts m q =
    no_quiet_cut us (t ∷ ts) m
    ∙ ap (λ (x : List RepliedLine × List QuietPart). (us ++ x.0, x.1)) (quiet_cut t ts q)
    ∙ ap (λ vs. (vs, (t, (cut ts).0) ∷ (cut ts).1)) (append-nil us)

last_cut : (us : List RepliedLine) → NoneQuietIn us → cut us ≡ (us, [])
last_cut us m =
    ap cut (sym (append-nil us)) ∙ no_quiet_cut us [] m ∙ ap (λ vs. (vs, [])) (append-nil us)

-- ---- a section of a store
-- The quiet line has its reply of a store that it is on, and leaves it so.
pub record Quiets (ws : List BusWindow) (t : RepliedLine) (y z : Store) : Type 0 where
  pub reply :
      IfSome (quiet_on (is_on ws y.window) t) (λ q. q.reply ≡ (run_quiet_line y q.line.act).0)
  pub later : z ≡ after_quiet y (quiet_on (is_on ws y.window) t)

abbrev RunsFrom : List BusWindow → List RepliedLine → List QuietPart → Store → Type 0
RunsFrom ws ts qs x = RunsParallel (is_on ws x.window) x ts qs

-- The section, the quiet line after it, and the rest.
store_goes :
    (ws : List BusWindow) (ts : List RepliedLine) (t : RepliedLine)
    (c : List RepliedLine × List QuietPart) (x y z : Store)
    → SectionLeaves (lines_on (is_on ws x.window) ts) x y
    → Quiets ws t y z
    → RunsFrom ws c.0 c.1 z
    → RunsFrom ws ts ((t, c.0) ∷ c.1) x
store_goes ws ts t c x y z h q rest =
    let k = h.apart in
    let end = section_end_on x (lines_on (is_on ws x.window) ts) h.states in
    let quiet = quiet_on (is_on ws x.window) t in
    let q' : Quiets ws t end z = subst (λ v. Quiets ws t v z) h.later q in
    let next = after_quiet end quiet in
    let rest' : RunsFrom ws c.0 c.1 next = subst (RunsFrom ws c.0 c.1) q'.later rest in (
      h.states,
      record {
        fronts = k.fronts;
        work = k.work;
        closed =
            record {
              size = k.closed.size;
              legal = k.closed.legal;
              gone = k.closed.gone;
            };
        quiet = q'.reply;
      },
      subst (λ o. RunsParallel (is_on ws o) next c.0 c.1) (after_window end quiet) rest',
    )

-- A store that the quiet line is on, or not.
quiet_at :
    (ws : List BusWindow) (t : RepliedLine) (y : Store)
    → quiet_on (is_on ws y.window) t ≡ Some t
    → t.reply ≡ (run_quiet_line y t.line.act).0
    → Quiets ws t y (run_quiet_line y t.line.act).1
quiet_at ws t y e said = record {
  reply =
      subst (λ (o : Option RepliedLine). IfSome o (λ q. q.reply ≡ (run_quiet_line y q.line.act).0))
      (sym e) said;
  later = sym (ap (after_quiet y) e);
}

quiet_off :
    (ws : List BusWindow) (t : RepliedLine) (y : Store)
    → quiet_on (is_on ws y.window) t ≡ None
    → Quiets ws t y y
quiet_off ws t y e = record {
  reply =
      subst (λ (o : Option RepliedLine). IfSome o (λ q. q.reply ≡ (run_quiet_line y q.line.act).0))
      (sym e) tt;
  later = sym (ap (after_quiet y) e);
}

-- A quiet line leaves the windows.
windows_quiet :
    (ws : List BusWindow) (table : Store) (t : RepliedLine) (k : ℕ) (vs : List WindowState)
    (d e : Store)
    → is_quiet t.line.act ≡ true
    → k < length vs
    → Quiets ws t (get_or (map (as_store table) vs) k d) (get_or (map (as_store table) vs) k e)
windows_quiet ws table t k [] d e q low = absurd (omega (arith, low))
windows_quiet ws table t zero (v ∷ vs) d e q low =
    let away : quiet_on (is_on ws (Some v.window)) t ≡ None = rw
    (quiet_off_window v.window t.line.act q) refl in
    quiet_off ws t (as_store table v) away
windows_quiet ws table t (suc k) (v ∷ vs) d e q low =
    windows_quiet ws table t k vs d e q (omega (arith, low))

-- ---- the replies up to a line
-- The replies to the lines up to one are given, and what completes the rest completes the run.
pub record Done (s : AllStores) (lines : List TraceLine) (start : ℕ) (later : AllStores)
    (rs : List Reply) :
    Type 0 where
  pub kinds : AreNamed s → AreReplies (take start lines) rs
  pub named : AreNamed s → AreNamed later
  pub goes :
      AreNamed s
      → (more : List Reply)
      → Runs later (lines_with_replies (drop start lines) more)
      → Runs s (lines_with_replies lines (rs ++ more))

pub done_none : (s : AllStores) (lines : List TraceLine) → Done s lines 0 s []
done_none s lines = record { kinds = λ named. tt; named = λ h. h; goes = λ named more h. h }

section_named :
    (s later : AllStores) (ls : List TraceLine) (news : List Reply)
    → Sectioned s ls news later
    → AreNamed s
    → AreNamed later
section_named s later ls news h named = record {
  table = ap (λ (v : Store). v.window) (h.leaves named 0 (omega arith)).later ∙ named.table;
  differ = subst NumbersDiffer (sym h.stays.windows) named.differ;
}

-- A quiet line on all stores: it is run on the page table.
abbrev quiet_left : AllStores → TraceLine → List Store
quiet_left s l = (run_quiet_line s.table l.act).1 ∷ map (as_store s.table) s.windows

quiet_runs :
    (s : AllStores) (l : TraceLine)
    → s.table.window ≡ None
    → is_quiet l.act ≡ true
    → run_line (windows_in s.windows) (all_stores s) l
    ≡ ((run_quiet_line s.table l.act).0, quiet_left s l)
quiet_runs s l named q =
    let on : is_on (windows_in s.windows) s.table.window l.act ≡ true = ap
    (λ o. is_on (windows_in s.windows) o l.act) named ∙ quiet_on_table (windows_in s.windows)
    l.act q in
    let here : run_line (windows_in s.windows) (all_stores s) l ≡
    ((run_on s.table l).0, (run_on s.table l).1 ∷ map (as_store s.table) s.windows) = rw on refl
    in
    here
    ∙ ap (λ (x : Reply × Store). (x.0, x.1 ∷ map (as_store s.table) s.windows))
    (quiet_is s.table l q)

module _ (s after : AllStores) (l : TraceLine) (r : Reply) (named : AreNamed s)
    (q : is_quiet l.act ≡ true) (ran : RunsLine s l r after) where
  quiet_told :
      ◌≡◌ {A = Reply × List Store} (r, all_stores after)
      ((run_quiet_line s.table l.act).0, quiet_left s l)
  quiet_told = ran.ran ∙ quiet_runs s l named.table q

  quiets :
      (number : ℕ)
      → number ≤ length s.windows
      → Quiets (windows_in s.windows) (replied_line l r) (store_at s number) (store_at after number)
  quiets zero low =
      let ws = windows_in s.windows in
      let t = replied_line l r in
      let on : is_on ws s.table.window l.act ≡ true = ap (λ o. is_on ws o l.act) named.table ∙
      quiet_on_table ws l.act q in
      let here : quiet_on (is_on ws s.table.window) t ≡ Some t = rw on refl in
      let first : Quiets ws t s.table (run_quiet_line s.table l.act).1 = quiet_at ws t s.table here
      (ap (λ (x : Reply × List Store). x.0) quiet_told) in
      subst (λ (z : Store). Quiets ws t s.table z)
      (sym (ap (λ (x : Reply × List Store). first_store s.table x.1) quiet_told)) first
  quiets (suc k) low =
      let ws = windows_in s.windows in
      let t = replied_line l r in
      let left : store_at after (suc k) ≡ get_or (map (as_store s.table) s.windows) k after.table =
      ap (λ (x : Reply × List Store). get_or x.1 (suc k) after.table) quiet_told in
      subst (λ (z : Store). Quiets ws t (store_at s (suc k)) z) (sym left)
      (windows_quiet ws s.table t k s.windows s.table after.table q (omega (arith, low)))

  quiet_of_kind : IsOfKind l.act r
  quiet_of_kind =
      subst (IsOfKind l.act) (sym (ap (λ (x : Reply × List Store). x.0) quiet_told))
      (quiet_kind s.table l.act q)

  quiet_named : AreNamed after
  quiet_named = record {
    table =
        ap (λ (ss : List Store). (first_store s.table ss).window)
        (ap (λ (x : Reply × List Store). x.1) quiet_told)
        ∙ quiet_window s.table l.act
        ∙ named.table;
    differ = subst NumbersDiffer (sym ran.windows) named.differ;
  }

module _ (s later : AllStores) (ls : List TraceLine) (news : List Reply) (named : AreNamed s)
    (h : Sectioned s ls news later) (m : NoneQuiet ls) where
  abbrev ws : List BusWindow
  ws = windows_in s.windows

  abbrev ts : List RepliedLine
  ts = lines_with_replies ls news

  last_runs : Runs s ts
  last_runs =
      subst
      (λ (c : List RepliedLine × List QuietPart).
      AllByRecursion (λ (x : Store). RunsParallel (is_on ws x.window) x c.0 c.1)
      (all_stores s)) (sym (last_cut ts (none_in ls news m)))
      (each_by_index (RunsFrom ws ts []) (all_stores s) s.table
      (λ number low.
      let k = h.leaves named number (omega (arith, low, stores_count s)) in
      (k.states, k.apart)))

  section_runs :
      (after : AllStores) (l : TraceLine) (r : Reply) (rest : List TraceLine) (more : List Reply)
      → is_quiet l.act ≡ true
      → RunsLine later l r after
      → Runs after (lines_with_replies rest more)
      → Runs s (lines_with_replies (ls ++ l ∷ rest) (news ++ r ∷ more))
  section_runs after l r rest more q ran k =
      subst (Runs s) (sym (lines_append ls (l ∷ rest) news (r ∷ more) h.kinds))
      (subst
      (λ (c : List RepliedLine × List QuietPart).
      AllByRecursion (λ (x : Store). RunsParallel (is_on ws x.window) x c.0 c.1)
      (all_stores s)) (sym (section_cut ts t tr (none_in ls news m) q))
      (each_by_index (RunsFrom ws ts ((t, (cut tr).0) ∷ (cut tr).1)) (all_stores s) s.table each))
    where
      t : RepliedLine
      t = replied_line l r

      tr : List RepliedLine
      tr = lines_with_replies rest more

      behind : AllByRecursion (RunsFrom ws (cut tr).0 (cut tr).1) (all_stores after)
      behind =
          subst (λ us. AllByRecursion (RunsFrom us (cut tr).0 (cut tr).1) (all_stores after))
          (ran.windows ∙ h.stays.windows) k

      each :
          (number : ℕ)
          → number < length (all_stores s)
          → RunsFrom ws ts ((t, (cut tr).0) ∷ (cut tr).1) (store_at s number)
      each number low =
          let inside : number ≤ length s.windows = omega (arith, low, stores_count s) in
          let many : length later.windows ≡ length s.windows = same_count later.windows s.windows
          h.stays.windows in
          let many' : length after.windows ≡ length later.windows = same_count after.windows
          later.windows ran.windows in
          let quiet : Quiets ws t (store_at later number) (store_at after number) = subst
          (λ us. Quiets us t (store_at later number) (store_at after number)) h.stays.windows
          (quiets later after l r (section_named s later ls news h named) q ran number
          (omega (arith, inside, many))) in
          store_goes ws ts t (cut tr) (store_at s number) (store_at later number)
          (store_at after number) (h.leaves named number inside) quiet
          (each_within (RunsFrom ws (cut tr).0 (cut tr).1) (all_stores after) number after.table
          behind (omega (arith, inside, many, many', stores_count after)))

pub done_more :
    (s later next after : AllStores) (lines : List TraceLine) (start i : ℕ) (d : TraceLine)
    (rs news : List Reply) (r : Reply)
    → start ≤ i
    → i < length lines
    → Done s lines start later rs
    → NoneQuiet (part start i lines)
    → Sectioned later (part start i lines) news next
    → is_quiet (get_or lines i d).act ≡ true
    → RunsLine next (get_or lines i d) r after
    → Done s lines (i + 1) after ((rs ++ news) ++ r ∷ [])
done_more s later next after lines start i d rs news r low within h m sect q told =
    let l = get_or lines i d in
    record {
      kinds = λ named.
          let kind : IsOfKind l.act r = quiet_of_kind next after l r
          (section_named later next (part start i lines) news sect (h.named named)) q told in
          rw (front_is lines start i d low within)
          (kinds_more (take start lines ++ part start i lines) (l ∷ []) (rs ++ news) (r ∷ [])
          (kinds_more (take start lines) (part start i lines) rs news (h.kinds named)
          sect.kinds) (kind, tt));
      named =
          λ named.
          quiet_named next after l r
          (section_named later next (part start i lines) news sect (h.named named)) q told;
      goes = λ named more k.
          let ran : Runs later (lines_with_replies (drop start lines) (news ++ r ∷ more)) = subst
          (λ ls. Runs later (lines_with_replies ls (news ++ r ∷ more)))
          (sym (rest_is lines start i d low within))
          (section_runs later next (part start i lines) news (h.named named) sect m after l r
          (drop (i + 1) lines) more q told k) in
          let flat : rs ++ (news ++ r ∷ more) ≡ ((rs ++ news) ++ r ∷ []) ++ more = sym
          (append_assoc (rs ++ news) (r ∷ []) more ∙ append_assoc rs news (r ∷ more)) in
          subst (λ z. Runs s (lines_with_replies lines z)) flat
          (h.goes named (news ++ r ∷ more) ran);
    }

-- The lines from the last quiet line to the end have run.
pub record Ended (s : AllStores) (lines : List TraceLine) (rs : List Reply) : Type 0 where
  pub kinds : AreNamed s → AreReplies lines rs
  pub runs : AreNamed s → Runs s (lines_with_replies lines rs)

pub done_all :
    (s later last : AllStores) (lines : List TraceLine) (start : ℕ) (rs news : List Reply)
    → Done s lines start later rs
    → NoneQuiet (drop start lines)
    → Sectioned later (drop start lines) news last
    → Ended s lines (rs ++ news)
done_all s later last lines start rs news h m sect = record {
  kinds =
      λ named.
      subst (λ ls. AreReplies ls (rs ++ news)) (take-append-drop start lines)
      (kinds_more (take start lines) (drop start lines) rs news (h.kinds named) sect.kinds);
  runs =
      λ named.
      h.goes named news (last_runs later last (drop start lines) news (h.named named) sect m);
}

-- ---- what is put out
pub put_more :
    {O : Type 0} (has : Keeping O) (lines : List TraceLine) (start i : ℕ) (d : TraceLine)
    (rs news : List Reply) (r : Reply) (old mid new : O)
    → start ≤ i
    → i < length lines
    → has old (take start lines) rs
    → HasGrown has (part start i lines) news old mid
    →
    ((ls : List TraceLine) (qs : List Reply)
    → has mid ls qs
    → has new (ls ++ get_or lines i d ∷ []) (qs ++ r ∷ []))
    → has new (take (i + 1) lines) ((rs ++ news) ++ r ∷ [])
put_more has lines start i d rs news r old mid new low within h grown put =
    subst (λ ls. has new ls ((rs ++ news) ++ r ∷ [])) (sym (front_is lines start i d low within))
    (put (take start lines ++ part start i lines) (rs ++ news) (grown (take start lines) rs h))

pub run_ended :
    {O : Type 0} (has : Keeping O) (s later last : AllStores) (lines : List TraceLine) (start i : ℕ)
    (rs : List Reply) (old new : O)
    → start ≤ i
    → i ≡ length lines
    → Done s lines start later rs
    → NoneQuiet (part start i lines)
    → has old (take start lines) rs
    → RunsSection has later (part start (length lines) lines) old new last
    → HasRunFrom has s lines new
run_ended has s later last lines start i rs old new low end h m put x =
    let below : start ≤ length lines = omega (arith, low, end) in
    let e : part start (length lines) lines ≡ drop start lines = part_end lines start (length lines)
    below (omega arith) in
    let none_quiet : NoneQuiet (part start (length lines) lines) = subst
    (λ n. NoneQuiet (part start n lines)) end m in
    let ended = done_all s later last lines start rs x.news h (subst NoneQuiet e none_quiet)
    (subst (λ ls. Sectioned later ls x.news last) e x.sectioned) in
    record {
      replies = rs ++ x.news;
      put =
          subst (λ ls. has new ls (rs ++ x.news))
          (ap (λ ls. take start lines ++ ls) e ∙ take-append-drop start lines)
          (x.grown (take start lines) rs put);
      kinds = ended.kinds;
      runs = ended.runs;
    }
