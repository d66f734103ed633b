-- The one good run of a trace of one processor is the serial run.
use Rattle.std.proofs.Common.{◌≡◌, ℕ, List}
use Rattle.trace_read.specs.Trace.{AcceptedTrace, IsAccepted}
use Rattle.trace_reply.specs.declared.reply.Reply.{Reply}
use Rattle.trace_reply.specs.Replies.{lines_with_replies}
use Rattle.run_model.specs.GoodRun.{IsGoodOn, IsGoodRun}
use Rattle.run_model.specs.Laws.{HasOneProcessor}
use Rattle.run_model.specs.Quiet.{cut}
use Rattle.run_model.specs.SerialRun.{serial_replies}
use Rattle.run_model.specs.Stores.{Store, opening_stores, is_on, lines_on}
use Rattle.basics.proofs.Each.{each_map, each_both}
use Rattle.run_model.proofs.OneProcessor.{cut_one, lines_of_one, sections_stand}
use Rattle.run_model.proofs.OneReply.{Cut, same_lines}
use Rattle.run_model.proofs.SerialGood.{cut_cpus, lines_on_cpus}
use Rattle.run_model.proofs.StoreLines.{same_replies, opening_has}
use Rattle.run_model.proofs.StoreSerial.{RunsHere, each_runs, serial_kinds}

-- On each store its lines are the serial run's.
one_on :
    (t : AcceptedTrace) (cpu : ℕ) (rs : List Reply)
    → IsAccepted t
    → HasOneProcessor cpu t.lines
    → IsGoodRun t rs
    → (s : Store)
    → IsGoodOn t rs s
    → RunsHere t s
    → lines_on (is_on t.config.windows s.window) (lines_with_replies t.lines rs)
    ≡ lines_on (is_on t.config.windows s.window) (lines_with_replies t.lines (serial_replies t))
one_on t cpu rs is one good s here runs =
    let all = lines_with_replies t.lines rs in
    let on = is_on t.config.windows s.window in
    let c = cut all in
    let stands : Cut on s all = sections_stand on t.config.cpus cpu s c.0 c.1 runs.1
    (cut_cpus t.config.cpus all (lines_on_cpus t.config.cpus t.lines rs is.lines.on_cpus))
    (cut_one cpu all (lines_of_one cpu t.lines rs one)) here in
    same_lines on s t.lines rs (serial_replies t) good.kinds (serial_kinds t) stands runs.0

pub one_good_run :
    (t : AcceptedTrace) (cpu : ℕ) (rs : List Reply)
    → IsAccepted t
    → HasOneProcessor cpu t.lines
    → IsGoodRun t rs
    → rs ≡ serial_replies t
one_good_run t cpu rs is one good =
    let ws = t.config.windows in
    let ss = opening_stores t.config in
    let qs = serial_replies t in
    let each = each_both (IsGoodOn t rs) (RunsHere t) ss good.stores (each_runs t is) in
    same_replies ws ss t.lines rs qs (opening_has t.config) good.kinds (serial_kinds t)
    (each_map (λ (s : Store). IsGoodOn t rs s × RunsHere t s)
    (λ (s : Store).
    lines_on (is_on ws s.window) (lines_with_replies t.lines rs)
    ≡ lines_on (is_on ws s.window) (lines_with_replies t.lines qs)) ss
    (λ s h. one_on t cpu rs is one good s h.0 h.1) each)
