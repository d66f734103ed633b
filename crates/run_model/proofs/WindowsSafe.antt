-- In a good run no entry is worn, of the page table or of a window, and each access of a device
-- lands by its TCE.
use Rattle.std.proofs.Common.{◌≡◌, ℕ, ◌+◌, ◌*◌, ◌<◌, ◌≤◌, List, [], ◌∷◌, Bool, true, false, sym, ap, ◌∙◌, refl, subst, ◌⊎◌, inl, inr, length, Option, Some, None, arith}
use Rattle.std.specs.Prelude.{IfSome}
use Rattle.std.specs.List.{AllByRecursion}
use Rattle.std.proofs.lemmas.Bool.{cases_Bool, false≢true, true≢false}
use Rattle.std.proofs.lemmas.List.{length-replicate}
use Rattle.bus_window.specs.Windows.{BusWindow, entry_at}
use Rattle.dma_window.specs.Devices.{IsDeviceReplyBy, logical_of, outcome_by, outcome_of}
use Rattle.dma_window.specs.Entries.{address_of, permits, tce_of}
use Rattle.dma_window.specs.Pages.{is_ram}
use Rattle.dma_window.proofs.Ungranted.{ungranted_where}
use Rattle.frame_grants.specs.declared.grant.Kind.{Kind}
use Rattle.frame_grants.specs.Grants.{GrantedMemory, AreApart, machine_range}
use Rattle.frame_grants.proofs.Landing.{lands_off_pool}
use Rattle.hpte_fields.specs.TableSize.{entry_count, least_order}
use Rattle.entry_model.specs.State.{State, empty_state}
use Rattle.entry_model.specs.declared.device_reply.DeviceReply.{DeviceReply}
use Rattle.entry_model.specs.declared.device_reply.DeviceOutcome.{DeviceOutcome}
use Rattle.entry_model.specs.declared.operation.Op.TheVariants.{Read}
use Rattle.entry_model.specs.declared.receipt.Receipt.{Receipt}
use Rattle.entry_model.specs.History.{Regrouped}
use Rattle.entry_model.specs.Receipt.{is_worn}
use Rattle.entry_model.specs.Trial.{IsTrial, call}
use Rattle.entry_model.proofs.Heights.{height, weight, weight_regrouped}
use Rattle.entry_model.proofs.Regroup.{regrouped_back}
use Rattle.tlb_model.specs.Processor.{new_processor}
use Rattle.trace_line.specs.Lines.{is_quiet, most_lines}
use Rattle.trace_line.specs.declared.act.Act.{Act}
use Rattle.trace_line.specs.declared.act.Act.TheVariants as acts
use Rattle.trace_line.specs.declared.line.TraceLine.{TraceLine}
use Rattle.trace_read.specs.Configuration.{Configuration}
use Rattle.trace_read.specs.Trace.{AcceptedTrace, IsAccepted}
use Rattle.trace_reply.specs.declared.reply.Reply.{Reply}
use Rattle.trace_reply.specs.declared.reply.Reply.TheVariants as replies
use Rattle.trace_reply.specs.Replies.{RepliedLine, AreReplies, receipts_in, lines_with_replies}
use Rattle.run_model.specs.Quiet.{QuietPart, cut}
use Rattle.run_model.specs.GoodRun.{IsGoodSection, IsGoodOn, IsGoodRun}
use Rattle.run_model.specs.Histories.{receipts_by}
use Rattle.run_model.specs.LineReplies.{IsDeviceLine, IsCallReply}
use Rattle.run_model.specs.Sections.{made_in, closing, section_end, after_quiet, quiet_on, section_of, sections_from}
use Rattle.run_model.specs.StoreContexts.{StoreContext, window_context}
use Rattle.run_model.specs.Stores.{Store, context_of, states_of, page_table, opening_window, opening_store, opening_stores, is_on_window, is_on, lines_on}
use Rattle.run_model.specs.Landings.{IsUnworn}
use Rattle.run_model.specs.DeviceLandings.{DeviceLandsBy, DeviceLands}
use Rattle.run_model.proofs.AllSafe.{IsLine, InSections, section_joined, line_count, cut_in, cut_out, cut_count, replied_lines_count, replied_lines_lines, table_unworn}
use Rattle.run_model.proofs.CallLines.{on_window_act, AllQuiet, cut_quiet, each_of_section, good_calls}
use Rattle.basics.proofs.Each.{each_map, each_both, each_filter, each_passes, each_replicate, each_where, filter_length, over_map, under_map}
use Rattle.run_model.proofs.LowStampRuns.{processors_by_size}
use Rattle.run_model.proofs.StoreLines.{HoldsOn, HoldOn, on_all_stores, opening_has, quiet_off_window}
use Rattle.run_model.proofs.TableNamed.{opening_table}
use Rattle.run_model.proofs.LineReceipts.{each_receipt, receipts_of_each, weight_by_lines}
use Rattle.run_model.proofs.LinesByProcessor.{Cpus, file_listed}
use Rattle.run_model.proofs.SectionGood.{each_regrouped}
use Rattle.run_model.proofs.LowStamps.{top, fine_below, states_kept, closed_size}
use Rattle.run_model.proofs.RamBytes.{byte_is_ram}
use Rattle.run_model.proofs.WindowStates.{HasTce, IsTceState, empty_tce, TceOp, tce_kept, IsTceLine, tce_line}

-- ---- an access of a device
permitted_valid : (s : State) (write : Bool) → permits (tce_of s) write ≡ true → s.valid ≡ true
permitted_valid s write on = at (cases_Bool s.valid) where
  nothing_permits : (w : Bool) → permits 0 w ≡ false
  nothing_permits true = refl
  nothing_permits false = refl

  at : (s.valid ≡ true) ⊎ (s.valid ≡ false) → s.valid ≡ true
  at (inl valid) = valid
  at (inr empty) =
      let none : permits 0 write ≡ true = rw empty at on in
      absurd (false≢true (sym (nothing_permits write) ∙ none))

ram_lands :
    (granted : GrantedMemory) (write : Bool) (ioba : ℕ) (r : Receipt)
    → AreApart granted
    → permits (tce_of r.before) write ≡ true
    → is_ram granted.grants (address_of (tce_of r.before)) ≡ true
    → DeviceLandsBy granted write ioba (outcome_by granted.grants ioba write (tce_of r.before))
    (r ∷ [])
ram_lands granted write ioba r apart on ram =
    at (machine_range granted.grants (logical_of ioba (tce_of r.before)) 1) refl where
      at :
          (place : Option (ℕ × Kind))
          → machine_range granted.grants (logical_of ioba (tce_of r.before)) 1 ≡ place
          → DeviceLandsBy granted write ioba
          (outcome_by granted.grants ioba write (tce_of r.before))
          (r ∷ [])
      at None none =
          absurd
          (true≢false
          (sym ram
          ∙ (ungranted_where granted.grants ioba (tce_of r.before) write on).0
          (rw (on, ram, none) refl)))
      at (Some x) found =
          rw (on, ram, found)
          (record {
            permitted = on;
            in_ram = ram;
            in_grant =
                found
                ∙ ap (λ kind. Some (x.0, kind))
                (byte_is_ram granted ioba (tce_of r.before) x apart ram found);
            off_pool =
                λ inside.
                lands_off_pool granted (logical_of ioba (tce_of r.before)) x apart found
                inside.from_base inside.to_end;
          })

read_lands :
    (granted : GrantedMemory) (write : Bool) (ioba : ℕ) (r : Receipt)
    → AreApart granted
    → HasTce granted.grants r.before
    → DeviceLandsBy granted write ioba (outcome_by granted.grants ioba write (tce_of r.before))
    (r ∷ [])
read_lands granted write ioba r apart tce = at (cases_Bool (permits (tce_of r.before) write)) where
  at :
      (permits (tce_of r.before) write ≡ true) ⊎ (permits (tce_of r.before) write ≡ false)
      → DeviceLandsBy granted write ioba (outcome_by granted.grants ioba write (tce_of r.before))
      (r ∷ [])
  at (inl on) = ram_lands granted write ioba r apart on (tce (permitted_valid r.before write on))
  at (inr off) = rw off tt

abbrev HaveTces : GrantedMemory → List Receipt → Type 0
HaveTces granted rs = AllByRecursion (λ (r : Receipt). HasTce granted.grants r.before) rs

tried_lands :
    (granted : GrantedMemory) (write : Bool) (ioba entry : ℕ) (o : DeviceOutcome)
    (rs : List Receipt)
    → AreApart granted
    → IsTrial (λ answer. true) (call Read entry ∷ []) rs
    → o ≡ outcome_of granted.grants ioba write rs
    → HaveTces granted rs
    → DeviceLandsBy granted write ioba o rs
tried_lands granted write ioba entry o [] apart trial told tces = absurd trial
tried_lands granted write ioba entry o (r ∷ []) apart trial told tces =
    subst (λ x. DeviceLandsBy granted write ioba x (r ∷ [])) (sym told)
    (read_lands granted write ioba r apart tces.0)
tried_lands granted write ioba entry o (r ∷ x ∷ rs) apart trial told tces = absurd trial.1

entry_lands :
    (granted : GrantedMemory) (write : Bool) (ioba : ℕ) (entry : Option ℕ) (d : DeviceReply)
    → AreApart granted
    → IsDeviceReplyBy granted.grants ioba write d entry
    → HaveTces granted d.receipts
    → DeviceLandsBy granted write ioba d.outcome d.receipts
entry_lands granted write ioba None d apart is tces =
    subst (λ (x : DeviceReply). DeviceLandsBy granted write ioba x.outcome x.receipts) (sym is) tt
entry_lands granted write ioba (Some entry) d apart is tces =
    tried_lands granted write ioba entry d.outcome d.receipts apart is.trial is.outcome tces

line_lands :
    (granted : GrantedMemory) (w : BusWindow) (act : Act) (reply : Reply)
    → AreApart granted
    → IsCallReply (window_context granted.grants w) act reply
    → HaveTces granted (receipts_in reply)
    → DeviceLands granted act reply
line_lands granted w (acts.Device write liobn ioba) (replies.Device d) apart is tces =
    entry_lands granted write ioba (entry_at w ioba) d apart is tces
line_lands granted w act reply apart is tces = tt

-- ---- lines
-- No entry of it was worn, and if it is a device's access it lands by its TCE.
abbrev pub IsSafeLine : GrantedMemory → RepliedLine → Type 0
IsSafeLine granted t = IsUnworn t.reply × DeviceLands granted t.line.act t.reply

-- Each state before has such a TCE and a low stamp.
abbrev FromTces : GrantedMemory → ℕ → List Receipt → Type 0
FromTces granted m rs = AllByRecursion (λ (r : Receipt). IsTceState granted.grants m r.before) rs

fine_one :
    (granted : GrantedMemory) (m : ℕ) (r : Receipt)
    → m ≤ top
    → IsTceState granted.grants m r.before
    → is_worn r.answer ≡ false
fine_one granted m r high h = fine_below r (let low : height r.before ≤ m = h.low in omega arith)

line_safe :
    (granted : GrantedMemory) (w : BusWindow) (m : ℕ) (t : RepliedLine)
    → AreApart granted
    → m ≤ top
    → IsTceLine granted.grants t.reply
    → IsCallReply (window_context granted.grants w) t.line.act t.reply
    → FromTces granted m (receipts_in t.reply)
    → IsSafeLine granted t
line_safe granted w m t apart high line told tces = (
  line.safe
      (each_map (λ (r : Receipt). IsTceState granted.grants m r.before)
      (λ (r : Receipt). is_worn r.answer ≡ false) (receipts_in t.reply)
      (λ r. fine_one granted m r high) tces),
  line_lands granted w t.line.act t.reply apart told
      (each_map (λ (r : Receipt). IsTceState granted.grants m r.before)
      (λ (r : Receipt). HasTce granted.grants r.before) (receipts_in t.reply) (λ r h. h.tce)
      tces),
)

lines_safe :
    (granted : GrantedMemory) (w : BusWindow) (m : ℕ) (ts : List RepliedLine)
    → AreApart granted
    → m ≤ top
    → AllByRecursion (λ (t : RepliedLine). IsTceLine granted.grants t.reply) ts
    → AllByRecursion
    (λ (t : RepliedLine). IsCallReply (window_context granted.grants w) t.line.act t.reply) ts
    → AllByRecursion (λ (t : RepliedLine). FromTces granted m (receipts_in t.reply)) ts
    → AllByRecursion (IsSafeLine granted) ts
lines_safe granted w m [] apart high lines told tces = tt
lines_safe granted w m (t ∷ ts) apart high lines told tces = (
  line_safe granted w m t apart high lines.0 told.0 tces.0,
  lines_safe granted w m ts apart high lines.1 told.1 tces.1,
)

lines_tce :
    (granted : GrantedMemory) (w : BusWindow) (ts : List RepliedLine)
    → AllByRecursion (λ (t : RepliedLine). is_on_window w t.line.act ≡ true) ts
    → AllByRecursion
    (λ (t : RepliedLine). IsCallReply (window_context granted.grants w) t.line.act t.reply) ts
    → AllByRecursion (λ (t : RepliedLine). IsTceLine granted.grants t.reply) ts
lines_tce granted w [] on told = tt
lines_tce granted w (t ∷ ts) on told = (
  tce_line granted.grants w t.line.act t.reply (on_window_act w t.line.act on.0) told.0,
  lines_tce granted w ts on.1 told.1,
)

-- ---- a section of a window
-- A window of this memory: each of its entries has a TCE of granted storage, and a low stamp.
record IsTceStore (granted : GrantedMemory) (cpus : ℕ) (w : BusWindow) (n : ℕ) (s : Store) :
    Type 0 where
  context : context_of s ≡ window_context granted.grants w
  processors : length s.processors ≡ cpus
  states : AllByRecursion (IsTceState granted.grants n) (states_of s)

closed_tces :
    (granted : GrantedMemory) (cpus : ℕ) (w : BusWindow) (n m : ℕ) (s : Store)
    (ts : List RepliedLine)
    → IsTceStore granted cpus w n s
    → AllByRecursion (IsTceState granted.grants m) (states_of (section_end s ts))
    → IsTceStore granted cpus w m (section_end s ts)
unfolding section_end
closed_tces granted cpus w n m s ts h states =
    record {
      context = h.context;
      processors = processors_by_size 0 s.processors ts ∙ h.processors;
      states = states;
    }

section_safe :
    (granted : GrantedMemory) (cpus : ℕ) (ws : List BusWindow) (w : BusWindow) (n m : ℕ) (s : Store)
    (ts : List RepliedLine) (quiet : Option RepliedLine)
    → AreApart granted
    → IsTceStore granted cpus w n s
    → AllByRecursion (IsLine cpus) ts
    → n + 32 * length ts ≤ m
    → m ≤ top
    → IsGoodSection (section_of (is_on ws (Some w)) s ts quiet)
    → AllByRecursion (IsSafeLine granted) (lines_on (is_on ws (Some w)) ts)
    × IsTceStore granted cpus w m (closing (section_of (is_on ws (Some w)) s ts quiet))
section_safe granted cpus ws w n m s ts quiet apart first lines low high good =
    let on = λ (t : RepliedLine). is_on_window w t.line.act in
    let x = section_of (is_on ws (Some w)) s ts quiet in
    let us = x.replied_lines in
    let within : Cpus (length s.processors) us = subst (λ k. Cpus k us) (sym first.processors)
    (each_filter (λ (t : RepliedLine). t.line.cpu < cpus) on ts
    (each_map (IsLine cpus) (λ (t : RepliedLine). t.line.cpu < cpus) ts (λ t h. h.0)
    lines)) in
    let told : AllByRecursion
    (λ (t : RepliedLine). IsCallReply (window_context granted.grants w) t.line.act t.reply) us =
    subst (λ set. AllByRecursion (λ (t : RepliedLine). IsCallReply set t.line.act t.reply) us)
    first.context
    (each_of_section (λ (t : RepliedLine). IsCallReply (context_of s) t.line.act t.reply) x
    good.calls) in
    let made : AllByRecursion (λ (t : RepliedLine). IsTceLine granted.grants t.reply) us = lines_tce
    granted w us (each_passes on ts) told in
    let listed : Regrouped (receipts_by us) (made_in x) = file_listed (length s.processors) us
    within in
    let same : weight (receipts_by us) ≡ weight (made_in x) = weight_regrouped listed in
    let few : weight (receipts_by us) ≤ 32 * length us = weight_by_lines us
    (each_map (λ (t : RepliedLine). IsTceLine granted.grants t.reply)
    (λ (t : RepliedLine). weight (receipts_in t.reply) ≤ 32) us (λ t h. h.few) made) in
    let ops : AllByRecursion (λ (r : Receipt). TceOp granted.grants r.op) (receipts_by us) =
    each_receipt (λ (r : Receipt). TceOp granted.grants r.op) us
    (each_map (λ (t : RepliedLine). IsTceLine granted.grants t.reply)
    (λ (t : RepliedLine).
    AllByRecursion (λ (r : Receipt). TceOp granted.grants r.op) (receipts_in t.reply)) us
    (λ t h. h.made) made) in
    let all = states_kept (TceOp granted.grants) (IsTceState granted.grants) n m (states_of s)
    (states_of (closing x)) (made_in x) (tce_kept granted.grants) (empty_tce granted.grants n)
    first.states good.legal.in_table good.legal.legal (closed_size s us)
    (each_regrouped (λ (r : Receipt). TceOp granted.grants r.op) listed ops)
    (omega (arith, filter_length on ts)) in
    let back : FromTces granted m (receipts_by us) = each_regrouped
    (λ (r : Receipt). IsTceState granted.grants m r.before) (regrouped_back listed) all.0 in (
      lines_safe granted w m us apart high made told
          (receipts_of_each (λ (r : Receipt). IsTceState granted.grants m r.before) us back),
      closed_tces granted cpus w n m s us first all.1,
    )

-- ---- all sections of a window
quiet_left :
    (ws : List BusWindow) (w : BusWindow) (q : RepliedLine)
    → is_quiet q.line.act ≡ true
    → quiet_on (is_on ws (Some w)) q ≡ None
quiet_left ws w q e = rw (quiet_off_window w q.line.act e) refl

sections_safe :
    (granted : GrantedMemory) (cpus : ℕ) (ws : List BusWindow) (w : BusWindow) (n : ℕ) (s : Store)
    (ts : List RepliedLine) (qs : List QuietPart)
    → AreApart granted
    → IsTceStore granted cpus w n s
    → InSections (IsLine cpus) ts qs
    → AllQuiet qs
    → n + 32 * line_count ts qs ≤ top
    → AllByRecursion IsGoodSection (sections_from (is_on ws (Some w)) s ts qs)
    → InSections (HoldsOn (is_on ws (Some w)) (IsSafeLine granted)) ts qs
sections_safe granted cpus ws w n s ts [] apart first lines quiet low good =
    let only = section_safe granted cpus ws w n (n + 32 * length ts) s ts None apart first lines.0
    (omega arith) low good.0 in
    (each_where (IsSafeLine granted) (λ (t : RepliedLine). is_on_window w t.line.act) ts only.0, tt)
sections_safe granted cpus ws w n s ts (q ∷ qs) apart first lines quiet low good =
    let on = is_on ws (Some w) in
    let m = n + 32 * length ts in
    let x = section_of on s ts (quiet_on on q.0) in
    let none : x.quiet ≡ None = quiet_left ws w q.0 quiet.0 in
    let here = section_safe granted cpus ws w n m s ts x.quiet apart first lines.0 (omega arith)
    (omega arith) good.0 in
    let next : IsTceStore granted cpus w m (after_quiet (closing x) x.quiet) = subst
    (λ o. IsTceStore granted cpus w m (after_quiet (closing x) o)) (sym none) here.1 in
    let rest = sections_safe granted cpus ws w m (after_quiet (closing x) x.quiet) q.1 qs apart next
    (lines.1.0.1, lines.1.1) quiet.1 (omega arith) good.1 in
    section_joined (IsSafeLine granted) on ts q qs
    (subst (λ (o : Option RepliedLine). IfSome o (IsSafeLine granted)) (sym none) tt) here.0
    rest

opening_tces :
    (c : Configuration) (w : BusWindow) → IsTceStore c.granted c.cpus w 1 (opening_store c w)
unfolding opening_window
opening_tces c w = record {
  context = refl;
  processors = length-replicate c.cpus new_processor;
  states =
      each_replicate (IsTceState c.granted.grants 1) (entry_count least_order) (empty_state 0)
      (empty_tce c.granted.grants 1);
}

window_safe :
    (t : AcceptedTrace) (rs : List Reply) (w : BusWindow)
    → IsAccepted t
    → IsGoodRun t rs
    → IsGoodOn t rs (opening_store t.config w)
    → HoldOn (IsSafeLine t.config.granted) t.config.windows (lines_with_replies t.lines rs)
    (opening_store t.config w)
window_safe t rs w is good sections =
    let all = lines_with_replies t.lines rs in
    let few : length t.lines ≤ most_lines = is.lines.few in
    let low : 1 + 32 * line_count (cut all).0 (cut all).1 ≤ top = omega
    (arith, cut_count all, replied_lines_count t.lines rs) in
    cut_out (HoldsOn (is_on t.config.windows (Some w)) (IsSafeLine t.config.granted)) all
    (sections_safe t.config.granted t.config.cpus t.config.windows w 1
    (opening_store t.config w) (cut all).0 (cut all).1 is.sound.apart
    (opening_tces t.config w)
    (cut_in (IsLine t.config.cpus) all
    (replied_lines_lines t.config.cpus t.lines rs is.lines.on_cpus good.kinds))
    (cut_quiet all) low sections)

-- ---- the page table
-- A device finds no window there.
table_lands :
    (granted : GrantedMemory) (context : StoreContext) (act : Act) (reply : Reply)
    → context.window ≡ None
    → IsCallReply context act reply
    → DeviceLands granted act reply
table_lands granted context (acts.Device write liobn ioba) reply none is =
    let told : IsDeviceLine context.grants None write ioba reply = subst
    (λ o. IsDeviceLine context.grants o write ioba reply) none is in
    subst (DeviceLands granted (acts.Device write liobn ioba)) (sym told) tt
table_lands granted context act reply none is = tt

quiet_lands :
    (granted : GrantedMemory) (act : Act) (reply : Reply)
    → is_quiet act ≡ true
    → DeviceLands granted act reply
unfolding is_quiet
quiet_lands granted (acts.Device write liobn ioba) reply quiet = absurd (false≢true quiet)
quiet_lands granted act reply quiet = tt

-- ---- each line of a run
all_safe :
    (t : AcceptedTrace) (rs : List Reply)
    → IsAccepted t
    → IsGoodRun t rs
    → AllByRecursion (IsSafeLine t.config.granted) (lines_with_replies t.lines rs)
all_safe t rs is good =
    let granted = t.config.granted in
    let ws = t.config.windows in
    let all = lines_with_replies t.lines rs in
    let first = page_table t.config in
    let on = is_on ws first.window in
    let landings = good_calls (λ (x : RepliedLine). DeviceLands granted x.line.act x.reply) t rs
    None first (opening_table t)
    (λ context x none. table_lands granted context x.line.act x.reply none)
    (λ x. quiet_lands granted x.line.act x.reply) good.stores.0 in
    let table = each_map
    (λ (x : RepliedLine).
    HoldsOn on (λ (y : RepliedLine). IsUnworn y.reply) x
    × HoldsOn on (λ (y : RepliedLine). DeviceLands granted y.line.act y.reply) x)
    (HoldsOn on (IsSafeLine granted)) all (λ x h here. (h.0 here, h.1 here))
    (each_both (HoldsOn on (λ (y : RepliedLine). IsUnworn y.reply))
    (HoldsOn on (λ (y : RepliedLine). DeviceLands granted y.line.act y.reply)) all
    (table_unworn t rs is good) landings) in
    on_all_stores (IsSafeLine granted) ws (opening_stores t.config) all (opening_has t.config) (
      table,
      over_map (λ w. IsGoodOn t rs (opening_store t.config w)) (HoldOn (IsSafeLine granted) ws all)
          (opening_store t.config) ws (λ w h. window_safe t rs w is good h)
          (under_map (λ w. IsGoodOn t rs (opening_store t.config w)) (IsGoodOn t rs)
          (opening_store t.config) ws (λ w h. h) good.stores.1),
    )

reply_of_each :
    (ls : List TraceLine) (rs : List Reply)
    → AreReplies ls rs
    → AllByRecursion (λ (x : RepliedLine). IsUnworn x.reply) (lines_with_replies ls rs)
    → AllByRecursion IsUnworn rs
reply_of_each [] [] kinds h = tt
reply_of_each [] (r ∷ rs) kinds h = absurd kinds
reply_of_each (l ∷ ls) [] kinds h = tt
reply_of_each (l ∷ ls) (r ∷ rs) kinds h = (h.0, reply_of_each ls rs kinds.1 h.1)

-- No reply is H_HARDWARE.
pub all_unworn :
    (t : AcceptedTrace) (rs : List Reply)
    → IsAccepted t
    → IsGoodRun t rs
    → AllByRecursion IsUnworn rs
all_unworn t rs is good =
    reply_of_each t.lines rs good.kinds
    (each_map (IsSafeLine t.config.granted) (λ (x : RepliedLine). IsUnworn x.reply)
    (lines_with_replies t.lines rs) (λ x h. h.0) (all_safe t rs is good))

-- Each access of a device that is allowed lands by its TCE.
pub devices_land :
    (t : AcceptedTrace) (rs : List Reply)
    → IsAccepted t
    → IsGoodRun t rs
    → AllByRecursion (λ (x : RepliedLine). DeviceLands t.config.granted x.line.act x.reply)
    (lines_with_replies t.lines rs)
devices_land t rs is good =
    each_map (IsSafeLine t.config.granted)
    (λ (x : RepliedLine). DeviceLands t.config.granted x.line.act x.reply)
    (lines_with_replies t.lines rs) (λ x h. h.1) (all_safe t rs is good)
