-- What a call leaves, by its reply and the receipts that it made.
use Rattle.std.specs.Prelude.{◌==◌, ◌&&◌}
use Rattle.std.specs.List.{AllByRecursion}
use Rattle.std.proofs.Common.{◌≡◌, ℕ, ◌<◌, min, List, [], ◌∷◌, Bool, true, false, length, map, Option, Some, refl, ap, sym, subst, arith, ◌∙◌}
use Rattle.std.proofs.lemmas.Bool.{eqb-true}
use Rattle.hpte_fields.specs.TableSize.{entry_count, is_table_order}
use Rattle.entry_model.specs.declared.operation.Op.{Op}
use Rattle.entry_model.specs.Calls.{AreCallsIn}
use Rattle.entry_model.specs.State.{State}
use Rattle.entry_model.specs.Run.{states_after, IsRun}
use Rattle.entry_model.specs.Replies.{reply_with}
use Rattle.storage_prot.specs.declared.want.Want.{Want}
use Rattle.power_addr.specs.Pages.{VirtualPage}
use Rattle.entry_model.specs.Receipt.{after_of, is_no_match, found_of}
use Rattle.entry_model.specs.Trial.{Call, call, receipt_at, Plan, IsReplyOf, plan_of_code, plan_run, reply_by, trial_run}
use Rattle.entry_model.specs.declared.hreply.Registers.{Registers}
use Rattle.entry_model.specs.declared.receipt.Receipt.{Receipt}
use Rattle.entry_model.proofs.Plans.{plan_is}
use Rattle.hpt_walk.specs.Walk.{walk_calls}
use Rattle.c_layout.specs.declared.receipts.PaprReceipt.{PaprReceipt}
use Rattle.c_layout.specs.declared.reply.PaprReply.{PaprReply}
use Rattle.papr_codes.specs.ReturnCodes.{rc_code}
use Rattle.papr_codes.specs.declared.codes.Rc.{Rc}
use Rattle.c_layout.proofs.Filling.{filled-nil, placed_filled}
use Rattle.c_layout.specs.Slots.{filled, placed, shown_receipt}
use Rattle.c_layout.specs.declared.walking.PaprAccess.{PaprAccess}
use Rattle.c_layout.specs.declared.walking.PaprWalk.{PaprWalk}
use Rattle.c_layout.specs.Tables.{is_table}
use Rattle.papr_c.specs.Calls.{LentMemory, memory, outcome_by, outcome_where}
use Rattle.c_layout.specs.Replies.{reply_told}
use Rattle.c_layout.specs.Stale.{any_stale}
use Rattle.c_layout.specs.WalkEnds.{mode_of, walk_end}
use Rattle.papr_c.specs.Walks.{WalkMemory, walk_memory, walked_by, outcome_of_walk}
use Rattle.c_layout.specs.Accesses.{page_of, want_of}

-- What was handed over, and the entries that the receipts led to.
pub record IsHandedOver (registers : Registers) (rs : List Receipt) (m : LentMemory)
    (told : PaprReply) (words : List ℕ) (receipts : List PaprReceipt) :
    Type 0 where
  pub reply : told ≡ reply_told (reply_with registers rs) m.words m.receipts
  pub in_words : words ≡ filled m.words registers.words
  pub in_receipts : receipts ≡ filled m.receipts (map shown_receipt rs)

-- A call whose arguments fit leaves what its plan does on the entries that were lent.
pub call_is :
    (fits : Bool) (plan : Plan) (m : LentMemory) (registers : Registers) (rs : List Receipt)
    (reply : PaprReply) (words : List ℕ) (receipts : List PaprReceipt)
    (lent now after : List State)
    → fits ≡ true
    → IsReplyOf plan (reply_with registers rs)
    → IsRun lent rs now
    → lent ≡ m.entries
    → IsHandedOver registers rs m reply words receipts
    → after ≡ now
    → (reply, memory after words receipts) ≡ outcome_where fits plan m
call_is fits plan m registers rs reply words receipts lent now after fit is run same handed kept =
    let made : (reply_with registers rs, now) ≡ plan_run plan m.entries = plan_is plan m.entries now
    (reply_with registers rs) is (rw same at run) in
    let told : (reply, memory after words receipts) ≡ outcome_by m (reply_with registers rs, now) =
    rw (handed.reply, handed.in_words, handed.in_receipts, kept) refl in
    rw fit (told ∙ ap (outcome_by m) made)

-- A walk whose arguments fit leaves what its calls do on the entries that were lent.
pub walk_is :
    (order : ℕ) (a : PaprAccess) (page : VirtualPage) (want : Want) (m : WalkMemory)
    (cs : List Call) (found : Option Receipt) (count : ℕ) (told : PaprWalk)
    (slots : List PaprReceipt) (after : List State)
    → is_table order m.entries ≡ true
    → page_of a ≡ Some page
    → want_of a.want ≡ Some want
    → cs ≡ walk_calls order page (mode_of a want)
    → found ≡ found_of (trial_run is_no_match m.entries cs).0
    → count ≡ min (length m.receipts) (length (trial_run is_no_match m.entries cs).0)
    → told ≡ walk_end after_of a want found count
    → slots ≡ placed m.receipts 0 (map shown_receipt (trial_run is_no_match m.entries cs).0)
    → after ≡ (trial_run is_no_match m.entries cs).1
    → (told, walk_memory after slots) ≡ outcome_of_walk order a m
walk_is order a page want m cs found count told slots after fit at_page wants calls is counted
    ended put kept =
    let x = trial_run is_no_match m.entries cs in
    let in_places : slots ≡ filled m.receipts (map shown_receipt x.0) = put ∙ placed_filled
    (map shown_receipt x.0) m.receipts in
    let here : (told, walk_memory after slots) ≡ walked_by a want m x = rw
    (ended, is, counted, in_places, kept) refl in
    rw (fit, at_page, wants)
    (here
    ∙ ap (λ (ds : List Call). walked_by a want m (trial_run is_no_match m.entries ds)) calls)

-- A call whose arguments fit leaves what its trial does on the entries that were lent.
pub call_tried :
    (fits : Bool) (plan : Plan) (m : LentMemory) (x : List Receipt × List State) (rc : Rc)
    (ws : List ℕ) (reply : PaprReply) (words : List ℕ) (receipts : List PaprReceipt)
    (after : List State)
    → fits ≡ true
    → x ≡ trial_run plan.goes_on m.entries plan.calls
    → (rc, ws) ≡ plan.told x.0
    → reply
    ≡ record {
      rc = rc_code rc;
      words = min (length m.words) (length ws);
      receipts = min (length m.receipts) (length x.0);
      stale = any_stale x.0;
    }
    → words ≡ filled m.words ws
    → receipts ≡ placed m.receipts 0 (map shown_receipt x.0)
    → after ≡ x.1
    → (reply, memory after words receipts) ≡ outcome_where fits plan m
unfolding plan_run
call_tried fits plan m x rc ws reply words receipts after fit is told replied in_words in_receipts
    kept =
    let put : receipts ≡ filled m.receipts (map shown_receipt x.0) = in_receipts ∙ placed_filled
    (map shown_receipt x.0) m.receipts in
    let here : (reply, memory after words receipts) ≡ outcome_by m
    (record { rc = rc; words = ws; receipts = x.0 }, x.1) = rw (replied, in_words, put, kept)
    refl in
    let by : outcome_by m (record { rc = rc; words = ws; receipts = x.0 }, x.1) ≡ outcome_by m
    (reply_by plan x.0, x.1) = ap
    (λ (z : Rc × List ℕ). outcome_by m (record { rc = z.0; words = z.1; receipts = x.0 }, x.1))
    told in
    rw fit
    (here
    ∙ by
    ∙ ap (λ (z : List Receipt × List State). outcome_by m (reply_by plan z.0, z.1)) is)

-- A call that is answered by itself changes nothing.
pub coded :
    (fits : Bool) (rc : Rc) (m : LentMemory)
    → fits ≡ true
    → (record { rc = rc_code rc; words = 0; receipts = 0; stale = false }, m)
    ≡ outcome_where fits (plan_of_code rc) m
unfolding plan_run trial_run any_stale
coded fits rc m fit =
    let no_words : min (length m.words) 0 ≡ 0 = omega arith in
    let no_receipts : min (length m.receipts) 0 ≡ 0 = omega arith in
    rw fit
    (λ k. (
      record {
        rc = rc_code rc;
        words = sym no_words k;
        receipts = sym no_receipts k;
        stale = false;
      },
      memory m.entries (sym (filled-nil m.words) k) (sym (filled-nil m.receipts) k),
    ))

-- The trial of one call that is made on one entry.
pub alone :
    (op : Op) (entry : ℕ) (a : List State) (r : Receipt)
    → r ≡ receipt_at a (call op entry)
    → (r ∷ [], states_after a r) ≡ trial_run (λ answer. true) a (call op entry ∷ [])
unfolding trial_run
alone op entry a r is = rw is refl

-- A table has all its entries.
whole_of : (p : Bool) (m n : ℕ) → (p && (m == n)) ≡ true → m ≡ n
whole_of true m n h = eqb-true m n h
whole_of false m n h = cc

pub table_whole :
    (order : ℕ) (entries : List State)
    → is_table order entries ≡ true
    → length entries ≡ entry_count order
table_whole order entries fit =
    whole_of (is_table_order order) (length entries) (entry_count order) fit

-- The calls on entries of a table are on entries that were lent.
pub calls_inside :
    (order : ℕ) (entries : List State) (cs : List Call)
    → is_table order entries ≡ true
    → AreCallsIn order cs
    → AllByRecursion (λ (c : Call). c.entry < length entries) cs
calls_inside order entries cs fit fits =
    subst (λ n. AllByRecursion (λ (c : Call). c.entry < n) cs) (sym (table_whole order entries fit))
    fits.in_table
