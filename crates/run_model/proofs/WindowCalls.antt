-- Calls and devices' accesses on the entries of a window: they stay in the store, and nobody else
-- there gives them one reply.
use Rattle.std.specs.Prelude.{IfSome, ◌||◌, ◌&&◌, nat_le, nat_lt}
use Rattle.std.specs.Option.{option_map_or}
use Rattle.std.proofs.Common.{◌≡◌, ℕ, ◌+◌, ◌-◌, ◌*◌, ◌/◌, ◌^◌, ◌<◌, ◌≤◌, List, [], ◌∷◌, Bool, true, false, ap, sym, ◌∙◌, refl, subst, length, arith, Option, Some, None}
use Rattle.std.proofs.lemmas.Bool.{cond_both, and_parts, ltb-true, leb-true}
use Rattle.std.proofs.lemmas.Nat.{div_below}
use Rattle.std.proofs.Math.Pow.{pow_mono}
use Rattle.pool_range.specs.Ranges.{page_bytes}
use Rattle.bus_window.specs.Windows.{BusWindow, IsWindow, entry_at}
use Rattle.dma_window.specs.Calls.{clear_plan, replace_plan, put_plan_at, get_plan_at, put_tce_plan, get_tce_plan}
use Rattle.dma_window.specs.Devices.{IsDeviceReplyBy, outcome_of}
use Rattle.dma_window.specs.Entries.{address_of, permits, first_word, second_word}
use Rattle.dma_window.specs.Pages.{is_ram}
use Rattle.frame_grants.specs.declared.grant.Grant.{Grant}
use Rattle.papr_codes.specs.declared.codes.Rc.TheVariants as rc
use Rattle.entry_model.specs.State.{State}
use Rattle.entry_model.specs.Run.{IsRun}
use Rattle.entry_model.specs.Replies.{device_reply_with, no_window_reply}
use Rattle.entry_model.specs.Trial.{Plan, call, plan_of_code, trial_run}
use Rattle.entry_model.specs.declared.device_reply.DeviceReply.{DeviceReply}
use Rattle.entry_model.specs.declared.operation.Op.TheVariants as ops
use Rattle.entry_model.proofs.Trials.{trial_is, trial_meets, Within}
use Rattle.trace_reply.specs.declared.reply.Reply.{Reply}
use Rattle.trace_reply.specs.Replies.{receipts_in}
use Rattle.run_model.specs.LineReplies.{put_plan, get_plan, IsDeviceLine}
use Rattle.run_model.specs.SerialRun.{device_result, device_by_entry, device_by_window}
use Rattle.trace_reply.specs.declared.reply.Reply.TheVariants as replies
use Rattle.hpte_fields.specs.TableSize.{least_order}

-- ---- entries of a window
-- Each store has room for the most entries that a window has.
pub window_room : (order : ℕ) → least_order ≤ order → 2 ^ 14 ≤ 2 ^ (order - 4)
window_room order low = pow_mono {i = 14} {j = order - 4} (omega arith)

pub entry_in : (w : BusWindow) (ioba : ℕ) → IsWindow w → IfSome (entry_at w ioba) (λ e. e < 2 ^ 14)
entry_in w ioba is =
    cond_both (nat_le w.base ioba && nat_lt ioba (w.base + w.pages * page_bytes))
    (Some ((ioba - w.base) / page_bytes)) None (λ o. IfSome o (λ e. e < 2 ^ 14)) inside
    (λ off. tt) where
      inside :
          (nat_le w.base ioba && nat_lt ioba (w.base + w.pages * page_bytes)) ≡ true
          → (ioba - w.base) / page_bytes < 2 ^ 14
      inside on =
          let parts = and_parts (nat_le w.base ioba) (nat_lt ioba (w.base + w.pages * page_bytes))
          on in
          let low : w.base ≤ ioba = leb-true w.base ioba parts.0 in
          let high : ioba < w.base + w.pages * page_bytes = ltb-true ioba
          (w.base + w.pages * page_bytes) parts.1 in
          let few : w.pages ≤ 2 ^ 14 = is.few in
          let own : (ioba - w.base) / page_bytes < w.pages = div_below (ioba - w.base) page_bytes
          w.pages (omega arith) (omega arith) in
          omega arith

-- ---- calls
put_at_within :
    (grants : List Grant) (tce n : ℕ) (entry : Option ℕ)
    → IfSome entry (λ e. e < n)
    → Within n (option_map_or (put_plan_at grants tce) entry (plan_of_code rc.Parameter)).calls
put_at_within grants tce n None h = tt
put_at_within grants tce n (Some entry) h =
    let op = ops.Enter (first_word tce) (second_word tce) in
    cond_both (permits tce false || permits tce true) _ (clear_plan entry)
    (λ (p : Plan). Within n p.calls)
    (λ _.
    cond_both (is_ram grants (address_of tce)) (replace_plan entry op)
    (plan_of_code rc.Parameter) (λ (p : Plan). Within n p.calls) (λ _. (h, (h, tt)))
    (λ _. tt)) (λ _. (h, tt))

fits :
    (n : ℕ) (entry : Option ℕ)
    → 2 ^ 14 ≤ n
    → IfSome entry (λ e. e < 2 ^ 14)
    → IfSome entry (λ e. e < n)
fits n None room h = tt
fits n (Some entry) room h = omega arith

pub put_within :
    (grants : List Grant) (window : Option BusWindow) (ioba tce n : ℕ)
    → 2 ^ 14 ≤ n
    → IfSome window IsWindow
    → Within n (put_plan grants window ioba tce).calls
unfolding put_tce_plan
put_within grants None ioba tce n room is = tt
put_within grants (Some w) ioba tce n room is =
    put_at_within grants tce n (entry_at w ioba)
    (fits n (entry_at w ioba) room (entry_in w ioba is))

get_at_within :
    (n : ℕ) (entry : Option ℕ)
    → IfSome entry (λ e. e < n)
    → Within n (option_map_or get_plan_at entry (plan_of_code rc.Parameter)).calls
get_at_within n None h = tt
get_at_within n (Some entry) h = (h, tt)

pub get_within :
    (window : Option BusWindow) (ioba n : ℕ)
    → 2 ^ 14 ≤ n
    → IfSome window IsWindow
    → Within n (get_plan window ioba).calls
unfolding get_tce_plan
get_within None ioba n room is = tt
get_within (Some w) ioba n room is =
    get_at_within n (entry_at w ioba) (fits n (entry_at w ioba) room (entry_in w ioba is))

-- ---- accesses of devices
-- Answered on these states.
abbrev DeviceMeets :
    List Grant → Option BusWindow → ℕ → Bool → List State → Reply × List State → Type 0
DeviceMeets grants window ioba write states x =
    IsDeviceLine grants window write ioba x.0 × IsRun states (receipts_in x.0) x.1

pub device_meets :
    (grants : List Grant) (window : Option BusWindow) (ioba : ℕ) (write : Bool)
    (states : List State)
    → 2 ^ 14 ≤ length states
    → IfSome window IsWindow
    → DeviceMeets grants window ioba write states (device_by_window grants window ioba write states)
device_meets grants None ioba write states room is = (refl, refl)
device_meets grants (Some w) ioba write states room is =
    at (entry_at w ioba) refl (fits (length states) (entry_at w ioba) room (entry_in w ioba is))
  where
    at :
        (entry : Option ℕ)
        → entry_at w ioba ≡ entry
        → IfSome entry (λ e. e < length states)
        → DeviceMeets grants (Some w) ioba write states
        (device_by_entry grants ioba write states (entry_at w ioba))
    at None e h =
        subst
        (λ o.
        DeviceMeets grants (Some w) ioba write states
        (device_by_entry grants ioba write states o)) (sym e)
        (subst (IsDeviceReplyBy grants ioba write no_window_reply) (sym e) refl, refl)
    at (Some entry) e h =
        let m = trial_meets (λ answer. true) states (call ops.Read entry ∷ []) (h, tt) in
        let rs = (trial_run (λ answer. true) states (call ops.Read entry ∷ [])).0 in
        subst
        (λ o.
        DeviceMeets grants (Some w) ioba write states
        (device_by_entry grants ioba write states o)) (sym e) (
          subst
              (IsDeviceReplyBy grants ioba write
              (device_reply_with (outcome_of grants ioba write rs) rs)) (sym e)
              (record { trial = m.0; outcome = refl }),
          m.1,
        )

entry_is :
    (grants : List Grant) (ioba : ℕ) (write : Bool) (entry : Option ℕ) (d : DeviceReply)
    (a b : List State)
    → IsDeviceReplyBy grants ioba write d entry
    → IsRun a d.receipts b
    → (replies.Device d, b) ≡ device_by_entry grants ioba write a entry
entry_is grants ioba write None d a b h run =
    let stays : b ≡ a = subst (λ (x : DeviceReply). IsRun a x.receipts b) h run in
    λ i. (replies.Device (h i), stays i)
entry_is grants ioba write (Some entry) d a b h run =
    let told : (replies.Device d, b) ≡ device_result grants ioba write (d.receipts, b) = λ i.
    (replies.Device (device_reply_with (h.outcome i) d.receipts), b) in
    told
    ∙ ap (device_result grants ioba write)
    (trial_is (λ answer. true) a b (call ops.Read entry ∷ []) d.receipts h.trial run)

pub device_is :
    (grants : List Grant) (window : Option BusWindow) (ioba : ℕ) (write : Bool) (r : Reply)
    (a b : List State)
    → IsDeviceLine grants window write ioba r
    → IsRun a (receipts_in r) b
    → (r, b) ≡ device_by_window grants window ioba write a
device_is grants None ioba write r a b h run =
    let stays : b ≡ a = subst (λ (x : Reply). IsRun a (receipts_in x) b) h run in
    λ i. (h i, stays i)
device_is grants (Some w) ioba write (replies.Device d) a b h run =
    entry_is grants ioba write (entry_at w ioba) d a b h run
device_is grants (Some w) ioba write (replies.Hcall d) a b h run = absurd h
device_is grants (Some w) ioba write (replies.Access d) a b h run = absurd h
device_is grants (Some w) ioba write (replies.Segment d) a b h run = absurd h
device_is grants (Some w) ioba write replies.MaskSet a b h run = absurd h
device_is grants (Some w) ioba write (replies.Dump d) a b h run = absurd h
