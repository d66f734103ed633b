-- Given each state before, calls have one trial, and a line has one reply.
use Rattle.std.proofs.Common.{length, arith, ◌≡◌, ℕ, List, [], ◌∷◌, Bool, true, false, ap, sym, ◌∙◌, refl, ◌⊎◌, inl, inr, map, MatchBool, Option, Some, None}
use Rattle.std.specs.Prelude.{◌||◌, drop, nat_lt, ◌-◌, ◌^◌, slice_index}
use Rattle.std.specs.List.{AllByRecursion}
use Rattle.std.specs.Option.{option_map_or}
use Rattle.std.proofs.lemmas.Bool.{cases_Bool, cond_both, or_from}
use Rattle.papr_codes.specs.declared.calls.Hcall.{Hcall}
use Rattle.papr_codes.specs.declared.calls.Hcall.TheVariants as calls
use Rattle.papr_codes.specs.declared.codes.Rc.TheVariants as rc
use Rattle.entry_model.specs.State.{State}
use Rattle.entry_model.specs.declared.operation.Op.{Op}
use Rattle.entry_model.specs.declared.operation.Op.TheVariants as ops
use Rattle.entry_model.specs.declared.operation.Answer.{Answer}
use Rattle.entry_model.specs.declared.operation.Answer.TheVariants as answers
use Rattle.entry_model.specs.declared.hreply.HReply.{HReply}
use Rattle.entry_model.specs.declared.device_reply.DeviceReply.{DeviceReply}
use Rattle.entry_model.specs.Replies.{no_window_reply}
use Rattle.bus_window.specs.Windows.{BusWindow, entry_at}
use Rattle.dma_window.specs.Calls.{clear_plan, replace_plan, put_plan_at, get_plan_at, put_tce_plan, get_tce_plan}
use Rattle.dma_window.specs.Devices.{IsDeviceReplyBy, outcome_of}
use Rattle.dma_window.specs.Entries.{address_of, permits, first_word, second_word}
use Rattle.dma_window.specs.Pages.{is_ram}
use Rattle.trace_reply.specs.declared.reply.Reply.TheVariants as replies
use Rattle.entry_model.specs.declared.receipt.Receipt.{Receipt}
use Rattle.entry_model.specs.Receipt.{is_access, is_decided, is_no_match}
use Rattle.entry_model.specs.Reply.{reply_of}
use Rattle.entry_model.specs.Trial.{Call, call, IsTrial, Plan, IsReplyOf, plan_of_code}
use Rattle.entry_model.proofs.Exact.{exact, same}
use Rattle.frame_grants.specs.declared.grant.Grant.{Grant}
use Rattle.call_plan.specs.Enter.{candidates}
use Rattle.page_grants.specs.Suited.{entered_words}
use Rattle.call_plan.specs.Checks.{words_plan, h_enter_plan}
use Rattle.call_plan.specs.Single.{single_plan, h_remove_plan, h_protect_plan, h_clear_ref_plan, h_clear_mod_plan, read_entries, h_read_plan}
use Rattle.call_plan.proofs.Tame.{h_bulk_remove_each}
use Rattle.run_model.specs.StoreContexts.{StoreContext}
use Rattle.run_model.specs.LineReplies.{put_plan, get_plan, hcall_plan, IsDeviceLine}
use Rattle.entry_model.proofs.Replied.{Replied, replied, left, changed, accessed}
use Rattle.history_check.specs.Replay.{before_each, found_state, ReplayState, after_receipt, IsReplayed}

-- ---- trials
-- No call goes on after an answer that used a translation.
abbrev pub StopsAtDecided : (Answer → Bool) → List Call → Type 0
StopsAtDecided goes cs =
    AllByRecursion
    (λ (c : Call).
    (s : State) → goes (reply_of s c.op).0 ≡ true → is_decided (reply_of s c.op).0 ≡ false) cs

end_trial :
    (goes : Answer → Bool) (x y : Receipt) (cs : List Call) (xs ys : List Receipt) (P : Type 0)
    → x ≡ y
    → MatchBool (goes x.answer) (IsTrial goes cs xs) (xs ≡ [])
    → MatchBool (goes y.answer) (IsTrial goes cs ys) (ys ≡ [])
    → (goes x.answer ≡ true → IsTrial goes cs xs → IsTrial goes cs ys → P)
    → (xs ≡ [] → ys ≡ [] → P)
    → P
end_trial goes x y cs xs ys P e h k on off = at (cases_Bool (goes x.answer)) where
  at : (goes x.answer ≡ true) ⊎ (goes x.answer ≡ false) → P
  at (inl q) = let q' :
      goes y.answer ≡ true =
      sym (ap (λ (r : Receipt). goes r.answer) e) ∙ q in on q (rw q at h) (rw q' at k)
  at (inr q) = let q' :
      goes y.answer ≡ false =
      sym (ap (λ (r : Receipt). goes r.answer) e) ∙ q in off (rw q at h) (rw q' at k)

-- xs was made on the states before of ys; then it is ys.
pub replayed_trial :
    (goes : Answer → Bool) (cs : List Call) (a b : ReplayState) (xs ys : List Receipt)
    → StopsAtDecided goes cs
    → a.decided ≡ false
    → a.states ≡ before_each ys
    → IsReplayed a b xs
    → IsTrial goes cs xs
    → IsTrial goes cs ys
    → xs ≡ ys
replayed_trial goes [] a b [] [] stops fresh given g h k = refl
replayed_trial goes [] a b [] (y ∷ ys) stops fresh given g h k = absurd k
replayed_trial goes [] a b (x ∷ xs) ys stops fresh given g h k = absurd h
replayed_trial goes (c ∷ cs) a b [] ys stops fresh given g h k = absurd h
replayed_trial goes (c ∷ cs) a b (x ∷ xs) [] stops fresh given g h k = absurd k
replayed_trial goes (c ∷ cs) a b (x ∷ xs) (y ∷ ys) stops fresh given g h k =
    let before : x.before ≡ y.before = g.0 fresh ∙ ap (λ l. found_state l x.op) given in
    let head : x ≡ y = same x y.entry y.before y.op (h.0.entry ∙ sym k.0.entry) before
    (h.0.op ∙ sym k.0.op) ∙ sym (exact y) in
    let told : x.answer ≡ (reply_of x.before c.op).0 = x.lawful ∙ ap (λ o. (reply_of x.before o).0)
    h.0.op in
    let next : (after_receipt a x).states ≡ before_each ys = ap (λ (l : List State). drop 1 l) given
    in
    let tail : xs ≡ ys = end_trial goes x y cs xs ys (xs ≡ ys) head h.1 k.1
    (λ q h' k'.
    replayed_trial goes cs (after_receipt a x) b xs ys stops.1
    (or_from a.decided (is_decided x.answer) fresh
    (ap is_decided told ∙ stops.0 x.before (ap goes (sym told) ∙ q))) next g.2 h' k')
    (λ e f. e ∙ sym f) in
    λ i. head i ∷ tail i

-- what was made on as many states as were given was made on these
none_given : (ss : List State) → length ss ≡ 0 → [] ≡ ss
none_given [] e = refl
none_given (s ∷ ss) e = absurd (omega (arith, e))

pub replayed_before :
    (goes : Answer → Bool) (cs : List Call) (a b : ReplayState) (rs : List Receipt)
    (ss : List State)
    → StopsAtDecided goes cs
    → a.decided ≡ false
    → a.states ≡ ss
    → IsReplayed a b rs
    → IsTrial goes cs rs
    → length rs ≡ length ss
    → before_each rs ≡ ss
replayed_before goes [] a b [] ss stops fresh given g h size = none_given ss (sym size)
replayed_before goes [] a b (r ∷ rs) ss stops fresh given g h size = absurd h
replayed_before goes (c ∷ cs) a b [] ss stops fresh given g h size = absurd h
replayed_before goes (c ∷ cs) a b (r ∷ rs) [] stops fresh given g h size =
    absurd (omega (arith, size))
replayed_before goes (c ∷ cs) a b (r ∷ rs) (s ∷ ss) stops fresh given g h size =
    let before : r.before ≡ s = g.0 fresh ∙ ap (λ l. found_state l r.op) given in
    let told : r.answer ≡ (reply_of r.before c.op).0 = r.lawful ∙ ap (λ o. (reply_of r.before o).0)
    h.0.op in
    let next : (after_receipt a r).states ≡ ss = ap (λ (l : List State). drop 1 l) given in
    let rest : before_each rs ≡ ss = at (cases_Bool (goes r.answer))
    (λ q.
    replayed_before goes cs (after_receipt a r) b rs ss stops.1
    (or_from a.decided (is_decided r.answer) fresh
    (ap is_decided told ∙ stops.0 r.before (ap goes (sym told) ∙ q))) next g.2
    (rw q at h.1) (omega (arith, size))) in
    λ i. before i ∷ rest i where
      at :
          (goes r.answer ≡ true) ⊎ (goes r.answer ≡ false)
          → (goes r.answer ≡ true → before_each rs ≡ ss)
          → before_each rs ≡ ss
      at (inl q) go = go q
      at (inr q) go = let none :
          rs ≡ [] =
          rw q at h.1 in ap before_each none
          ∙ none_given ss (omega (arith, size, ap length none))

-- ---- hypervisor calls

-- Only accesses use a translation.
others_undecided :
    (s : State) (op : Op) → is_access op ≡ false → is_decided (reply_of s op).0 ≡ false
others_undecided s op = at (replied s op) where
  at :
      {op : Op} {x : Answer × State}
      → Replied s op x
      → is_access op ≡ false
      → is_decided x.0 ≡ false
  at (left a is) h = is.undecided h
  at (changed a next changes is) h = is.undecided
  at (accessed tag base key no_execute want masks valid) h = cc

-- The calls are no accesses.
abbrev NoAccess : List Call → Type 0
NoAccess cs = AllByRecursion (λ (c : Call). is_access c.op ≡ false) cs

no_access_stops : (goes : Answer → Bool) (cs : List Call) → NoAccess cs → StopsAtDecided goes cs
no_access_stops goes [] h = tt
no_access_stops goes (c ∷ cs) h =
    ((λ s e. others_undecided s c.op h.0), no_access_stops goes cs h.1)

each_call : (op : Op) (es : List ℕ) → is_access op ≡ false → NoAccess (map (call op) es)
each_call op [] h = tt
each_call op (e ∷ es) h = (h, each_call op es h)

abbrev PlainPlan : Plan → Type 0
PlainPlan p = NoAccess p.calls

single_plain :
    (order ptex : ℕ) (op : Op) (words : Receipt → List ℕ)
    → is_access op ≡ false
    → PlainPlan (single_plan order ptex op words)
single_plain order ptex op words h =
    cond_both (nat_lt ptex (2 ^ (order - 4))) _ (plan_of_code rc.Parameter) PlainPlan (λ _. (h, tt))
    (λ _. tt)

words_plain : (flags ptex : ℕ) (w : Option (ℕ × ℕ)) → PlainPlan (words_plan flags ptex w)
words_plain flags ptex None = tt
words_plain flags ptex (Some w) = each_call (ops.Enter w.0 w.1) (candidates flags ptex) refl

enter_plain :
    (order : ℕ) (grants : List Grant) (flags ptex pteh ptel : ℕ)
    → PlainPlan (h_enter_plan order grants flags ptex pteh ptel)
unfolding h_enter_plan
enter_plain order grants flags ptex pteh ptel =
    cond_both (nat_lt ptex (2 ^ (order - 4)))
    (words_plan flags ptex (entered_words grants pteh ptel)) (plan_of_code rc.Parameter)
    PlainPlan (λ _. words_plain flags ptex (entered_words grants pteh ptel)) (λ _. tt)

read_plain : (order flags ptex : ℕ) → PlainPlan (h_read_plan order flags ptex)
unfolding h_read_plan
read_plain order flags ptex =
    cond_both (nat_lt ptex (2 ^ (order - 4))) _ (plan_of_code rc.Parameter) PlainPlan
    (λ _. each_call ops.Read (read_entries flags ptex) refl) (λ _. tt)

put_at_plain :
    (grants : List Grant) (tce : ℕ) (entry : Option ℕ)
    → PlainPlan (option_map_or (put_plan_at grants tce) entry (plan_of_code rc.Parameter))
put_at_plain grants tce None = tt
put_at_plain grants tce (Some entry) =
    let op = ops.Enter (first_word tce) (second_word tce) in
    cond_both (permits tce false || permits tce true) _ (clear_plan entry) PlainPlan
    (λ _.
    cond_both (is_ram grants (address_of tce)) (replace_plan entry op)
    (plan_of_code rc.Parameter) PlainPlan (λ _. (refl, (refl, tt))) (λ _. tt))
    (λ _. (refl, tt))

put_plain :
    (grants : List Grant) (window : Option BusWindow) (ioba tce : ℕ)
    → PlainPlan (put_plan grants window ioba tce)
unfolding put_tce_plan
put_plain grants None ioba tce = tt
put_plain grants (Some w) ioba tce = put_at_plain grants tce (entry_at w ioba)

get_at_plain :
    (entry : Option ℕ) → PlainPlan (option_map_or get_plan_at entry (plan_of_code rc.Parameter))
get_at_plain None = tt
get_at_plain (Some entry) = (refl, tt)

get_plain : (window : Option BusWindow) (ioba : ℕ) → PlainPlan (get_plan window ioba)
unfolding get_tce_plan
get_plain None ioba = tt
get_plain (Some w) ioba = get_at_plain (entry_at w ioba)

hcall_plain :
    (set : StoreContext) (hcall : Hcall) (args : List ℕ) → PlainPlan (hcall_plan set hcall args)
unfolding hcall_plan h_remove_plan h_protect_plan h_clear_ref_plan h_clear_mod_plan
hcall_plain set calls.Enter args =
    enter_plain set.order set.grants (slice_index args 0) (slice_index args 1) (slice_index args 2)
    (slice_index args 3)
hcall_plain set calls.Remove args = single_plain set.order (slice_index args 1) _ _ refl
hcall_plain set calls.Protect args = single_plain set.order (slice_index args 1) _ _ refl
hcall_plain set calls.Read args = read_plain set.order (slice_index args 0) (slice_index args 1)
hcall_plain set calls.ClearRef args = single_plain set.order (slice_index args 1) _ _ refl
hcall_plain set calls.ClearMod args = single_plain set.order (slice_index args 1) _ _ refl
hcall_plain set calls.BulkRemove args =
    h_bulk_remove_each (λ op. is_access op ≡ false) set.order args (λ test. refl)
hcall_plain set calls.PutTce args =
    put_plain set.grants set.window (slice_index args 1) (slice_index args 2)
hcall_plain set calls.GetTce args = get_plain set.window (slice_index args 1)
hcall_plain set other args = tt

-- A call that was made on the states before of a reply to it has that reply.
pub call_replayed :
    (set : StoreContext) (hcall : Hcall) (args : List ℕ) (a b : ReplayState) (h k : HReply)
    → a.decided ≡ false
    → a.states ≡ before_each k.receipts
    → IsReplayed a b h.receipts
    → IsReplyOf (hcall_plan set hcall args) h
    → IsReplyOf (hcall_plan set hcall args) k
    → h ≡ k
call_replayed set hcall args a b h k fresh given g x y =
    let plan = hcall_plan set hcall args in
    let e : h.receipts ≡ k.receipts = replayed_trial plan.goes_on plan.calls a b h.receipts
    k.receipts (no_access_stops plan.goes_on plan.calls (hcall_plain set hcall args)) fresh
    given g x.trial y.trial in
    let t : (h.rc, h.words) ≡ (k.rc, k.words) = x.told ∙ ap plan.told e ∙ sym y.told in
    λ i. record { rc = (t i).0; words = (t i).1; receipts = e i }

pub call_before :
    (set : StoreContext) (hcall : Hcall) (args : List ℕ) (a b : ReplayState) (h : HReply)
    (ss : List State)
    → a.decided ≡ false
    → a.states ≡ ss
    → IsReplayed a b h.receipts
    → IsReplyOf (hcall_plan set hcall args) h
    → length h.receipts ≡ length ss
    → before_each h.receipts ≡ ss
call_before set hcall args a b h ss fresh given g x size =
    let plan = hcall_plan set hcall args in
    replayed_before plan.goes_on plan.calls a b h.receipts ss
    (no_access_stops plan.goes_on plan.calls (hcall_plain set hcall args)) fresh given g x.trial
    size

-- ---- accesses of devices
read_stops : (entry : ℕ) → StopsAtDecided (λ answer. true) (call ops.Read entry ∷ [])
read_stops entry = ((λ s e. refl), tt)

no_receipt :
    (d : DeviceReply) (ss : List State)
    → d ≡ no_window_reply
    → length d.receipts ≡ length ss
    → before_each d.receipts ≡ ss
no_receipt d ss e size =
    let none : d.receipts ≡ [] = ap (λ (x : DeviceReply). x.receipts) e in
    ap before_each none ∙ none_given ss (sym size ∙ ap length none)

reply_before :
    (grants : List Grant) (entry : Option ℕ) (ioba : ℕ) (write : Bool) (a b : ReplayState)
    (d : DeviceReply) (ss : List State)
    → a.decided ≡ false
    → a.states ≡ ss
    → IsReplayed a b d.receipts
    → IsDeviceReplyBy grants ioba write d entry
    → length d.receipts ≡ length ss
    → before_each d.receipts ≡ ss
reply_before grants None ioba write a b d ss fresh given g x size = no_receipt d ss x size
reply_before grants (Some entry) ioba write a b d ss fresh given g x size =
    replayed_before (λ answer. true) (call ops.Read entry ∷ []) a b d.receipts ss (read_stops entry)
    fresh given g x.trial size

the_device : (d e : DeviceReply) → replies.Device d ≡ replies.Device e → d ≡ e
the_device d e h = cc

pub device_before :
    (grants : List Grant) (window : Option BusWindow) (ioba : ℕ) (write : Bool) (a b : ReplayState)
    (d : DeviceReply) (ss : List State)
    → a.decided ≡ false
    → a.states ≡ ss
    → IsReplayed a b d.receipts
    → IsDeviceLine grants window write ioba (replies.Device d)
    → length d.receipts ≡ length ss
    → before_each d.receipts ≡ ss
device_before grants None ioba write a b d ss fresh given g x size =
    no_receipt d ss (the_device d no_window_reply x) size
device_before grants (Some w) ioba write a b d ss fresh given g x size =
    reply_before grants (entry_at w ioba) ioba write a b d ss fresh given g x size

reply_replayed :
    (grants : List Grant) (entry : Option ℕ) (ioba : ℕ) (write : Bool) (a b : ReplayState)
    (d k : DeviceReply)
    → a.decided ≡ false
    → a.states ≡ before_each k.receipts
    → IsReplayed a b d.receipts
    → IsDeviceReplyBy grants ioba write d entry
    → IsDeviceReplyBy grants ioba write k entry
    → d ≡ k
reply_replayed grants None ioba write a b d k fresh given g x y = x ∙ sym y
reply_replayed grants (Some entry) ioba write a b d k fresh given g x y =
    let e : d.receipts ≡ k.receipts = replayed_trial (λ answer. true) (call ops.Read entry ∷ []) a b
    d.receipts k.receipts (read_stops entry) fresh given g x.trial y.trial in
    let o : d.outcome ≡ k.outcome = x.outcome ∙ ap (outcome_of grants ioba write) e ∙ sym y.outcome
    in
    λ i. record { outcome = o i; receipts = e i }

pub device_replayed :
    (grants : List Grant) (window : Option BusWindow) (ioba : ℕ) (write : Bool) (a b : ReplayState)
    (d k : DeviceReply)
    → a.decided ≡ false
    → a.states ≡ before_each k.receipts
    → IsReplayed a b d.receipts
    → IsDeviceLine grants window write ioba (replies.Device d)
    → IsDeviceLine grants window write ioba (replies.Device k)
    → d ≡ k
device_replayed grants None ioba write a b d k fresh given g x y = the_device d k (x ∙ sym y)
device_replayed grants (Some w) ioba write a b d k fresh given g x y =
    reply_replayed grants (entry_at w ioba) ioba write a b d k fresh given g x y

-- ---- walks
no_match_undecided : (a : Answer) → is_no_match a ≡ true → is_decided a ≡ false
no_match_undecided answers.NoMatch h = refl
no_match_undecided other h = cc

pub walk_stops : (cs : List Call) → StopsAtDecided is_no_match cs
walk_stops [] = tt
walk_stops (c ∷ cs) = ((λ s e. no_match_undecided (reply_of s c.op).0 e), walk_stops cs)
