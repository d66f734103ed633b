-- What the parallel run of an accepted trace is and assures.
use Rattle.std.specs.Prelude.{None}
use Rattle.std.specs.List.{AllByRecursion}
use Rattle.std.proofs.Common.{◌≡◌, ℕ, List, refl, sym, subst, Result, Ok, Err, IfOk, String, Global, string_bytes}
use Rattle.trace_line.specs.declared.line.TraceLine.{TraceLine}
use Rattle.trace_read.specs.Configuration.{Configuration, NumbersDiffer}
use Rattle.trace_read.specs.Trace.{AcceptedTrace, IsAccepted}
use Rattle.trace_reply.specs.ReplyList.{ReplyList}
use Rattle.trace_reply.specs.declared.reply.Reply.{Reply}
use Rattle.trace_reply.specs.Replies.{AreReplies, lines_with_replies}
use Rattle.run_model.specs.AllStores.{AllStores, all_stores, opening_all}
use Rattle.run_model.specs.Assurances.{Assures}
use Rattle.run_model.specs.GoodRun.{IsGoodRun}
use Rattle.run_model.specs.Laws.{HasOneProcessor}
use Rattle.run_model.specs.ParallelRun.{RunsParallel, IsParallelOn, IsParallel}
use Rattle.run_model.specs.Quiet.{cut}
use Rattle.run_model.specs.SerialRun.{serial_replies}
use Rattle.run_model.specs.Stores.{Store, page_table, is_on}
use Rattle.run_model.proofs.GoodAssured.{good_assures}
use Rattle.run_model.proofs.OneGoodRun.{one_good_run}
use Rattle.run_model.proofs.ParallelGood.{parallel_good}
use Rattle.run_model.proofs.StoreNumbers.{windows_opened}
use Rattle.run_model.proofs.WindowLines.{opened_all}
use Rattle.trace_runner.specs.Workers.{Keeping}
use Rattle.run_model.specs.StoreNumbers.{AreNamed}
use Rattle.trace_runner.specs.Sectioned.{Runs, HasRunFrom}
use Rattle.trace_runner.specs.TextLog.{HasText}
use Rattle.trace_runner.specs.ParallelRun.{IsOutputOfRun, IsTextOfRun}

-- ---- the run from the opening stores
opening_parallel :
    (t : AcceptedTrace) (rs : List Reply)
    → Runs (opening_all t.config) (lines_with_replies t.lines rs)
    → IsParallel t rs
opening_parallel t rs h =
    let c = cut (lines_with_replies t.lines rs) in
    subst (AllByRecursion (IsParallelOn t rs)) (opened_all t.config)
    (subst
    (λ ws.
    AllByRecursion (λ (x : Store). RunsParallel (is_on ws x.window) x c.0 c.1)
    (all_stores (opening_all t.config))) (windows_opened t.config.windows) h)

opening_table : (c : Configuration) → (page_table c).window ≡ None
unfolding page_table
opening_table c = refl

opening_named : (t : AcceptedTrace) → IsAccepted t → AreNamed (opening_all t.config)
opening_named t is =
    record {
      table = opening_table t.config;
      differ = subst NumbersDiffer (sym (windows_opened t.config.windows)) is.windows.differ;
    }

-- The replies are a good run.
good_of :
    (t : AcceptedTrace) (s : AllStores) (lines : List TraceLine) (rs : List Reply)
    → IsAccepted t
    → s ≡ opening_all t.config
    → lines ≡ t.lines
    → (AreNamed s → AreReplies lines rs)
    → (AreNamed s → Runs s (lines_with_replies lines rs))
    → AreReplies t.lines rs × IsGoodRun t rs
good_of t s lines rs is opening same kinds runs =
    let k : AreReplies t.lines rs = subst (λ ls. AreReplies ls rs) same
    (kinds (subst AreNamed (sym opening) (opening_named t is))) in
    let all : AreNamed (opening_all t.config) → Runs (opening_all t.config)
    (lines_with_replies t.lines rs) = subst
    (λ (z : AllStores × List TraceLine). AreNamed z.0 → Runs z.0 (lines_with_replies z.1 rs))
    (λ j. (opening j, same j)) runs in
    (k, parallel_good t rs k (opening_parallel t rs (all (opening_named t is))))

output_of :
    {O : Type 0} (has : Keeping O) (t : AcceptedTrace) (s : AllStores) (lines : List TraceLine)
    (output : O)
    → IsAccepted t
    → s ≡ opening_all t.config
    → lines ≡ t.lines
    → HasRunFrom has s lines output
    → IsOutputOfRun has t output
output_of has t s lines output is opening same h =
    let rs = h.replies in
    let both = good_of t s lines rs is opening same h.kinds h.runs in
    let good = both.1 in
    record {
      replies = rs;
      put = subst (λ ls. has output ls rs) same h.put;
      kinds = both.0;
      good = good;
      assured = good_assures t rs is good;
      one = λ cpu one. one_good_run t cpu rs is one good;
    }

pub ok_output :
    {O E : Type 0} (has : Keeping O) (t : AcceptedTrace) (s : AllStores) (lines : List TraceLine)
    (r : Result O E)
    → IsAccepted t
    → s ≡ opening_all t.config
    → lines ≡ t.lines
    → IfOk r (HasRunFrom has s lines)
    → IfOk r (IsOutputOfRun has t)
ok_output has t s lines (Ok output) is opening same h =
    output_of has t s lines output is opening same h
ok_output has t s lines (Err e) is opening same h = tt

-- ---- replies that are kept whole
-- The list of replies has just these, whatever the lines are.
abbrev pub has_items : Keeping ReplyList
has_items = λ replies ls rs. replies.items ≡ rs

module _ {E : Type 0} (t : AcceptedTrace) where
  pub ok_replies :
      (r : Result ReplyList E) (P : List Reply → Type 0)
      →
      ((rs : List Reply)
      → AreReplies t.lines rs
      → IsGoodRun t rs
      → Assures t rs
      → ((cpu : ℕ) → HasOneProcessor cpu t.lines → rs ≡ serial_replies t)
      → P rs)
      → IfOk r (IsOutputOfRun has_items t)
      → IfOk r (λ l. P l.items)
  ok_replies (Ok l) P f h = subst P (sym h.put) (f h.replies h.kinds h.good h.assured h.one)
  ok_replies (Err e) P f h = tt

-- ---- replies that are kept as their text
module _ {E : Type 0} (t : AcceptedTrace) where
  pub ok_text :
      (r : Result (String Global) E)
      → IfOk r (IsOutputOfRun (λ s ls rs. HasText (string_bytes s) ls rs) t)
      → IfOk r (λ s. IsTextOfRun t (string_bytes s))
  ok_text (Ok s) h =
      record {
        replies = h.replies;
        text = h.put.text;
        kinds = h.kinds;
        good = h.good;
        assured = h.assured;
        one = h.one;
      }
  ok_text (Err e) h = tt
