-- How a try of a call and of a walk ended, by what was handed over.
use Rattle.std.specs.Prelude.{◌≢◌, if◌then◌else◌, map, Result, Ok, Err, IfOk, IfErr, IsOk}
use Rattle.std.proofs.Common.{◌≡◌, ℕ, Bool, true, false, List, Option, Some, None, arith, refl, ap, sym, subst, ◌∙◌, inl, inr}
use Rattle.std.specs.Arc.{arc_value}
use Rattle.papr_codes.specs.ReturnCodes.{rc_code}
use Rattle.papr_codes.specs.declared.codes.Rc.{Rc}
use Rattle.entry_model.specs.declared.hreply.HReply.{HReply}
use Rattle.entry_model.specs.declared.hreply.Registers.{Registers}
use Rattle.entry_model.specs.declared.receipt.Receipt.{Receipt}
use Rattle.entry_model.specs.Replies.{reply_with}
use Rattle.entry_model.specs.Receipt.{is_at, is_no_match, found_of, after_of}
use Rattle.entry_model.specs.Trial.{Plan, IsReplyOf, IsTrial, reply_by}
use Rattle.shared_pass.specs.declared.working.Working.{Working}
use Rattle.authority_mask.specs.declared.masks.MaskName.{MaskName}
use Rattle.authority_mask.specs.declared.masks.MaskName.TheVariants.{Amr, Iamr}
use Rattle.entry_lock.specs.declared.busy.Busy.{Busy}
use Rattle.hpt_walk.specs.Access.{refusing_mask}
use Rattle.c_layout.specs.Slots.{filled, shown_receipt}
use Rattle.c_layout.specs.WalkEnds.{refusal_number, walk_end}
use Rattle.shared_pass.specs.declared.held.HeldCall.{HeldCall}
use Rattle.shared_pass.specs.declared.held.Pending.{Pending}
use Rattle.shared_pass.specs.declared.held.Pending.TheVariants.{Nothing, Call}
use Rattle.shared_pass.specs.declared.walk.PageWalk.{PageWalk}
use Rattle.shared_pass.specs.Held.{plan_of_held}
use Rattle.shared_pass.specs.Made.{order_of, passes_of}
use Rattle.shared_pass.specs.Walks.{calls_of_walk}
use Rattle.shared_pass.specs.Workings.{IsMade}
use Rattle.shared_pass.specs.Attempts.{KeepsWalk}
use Rattle.papr_shared.specs.Answers.{Handed, HandsOver, HandedWalk}
use Rattle.papr_shared.specs.Calls.{HasEnded, HasGoneOn, IsAgainBy, NeverBusy}
use Rattle.papr_shared.specs.Walks.{end_told, busy_told, IsWalkBegun, IsWalkBy}
use Rattle.papr_shared.proofs.NeverBusy.{code_busy}

-- ---- hypervisor calls
pub ended :
    (plan : Plan) (y : Working) (h : Handed) (registers : Registers)
    → NeverBusy plan
    → IsReplyOf plan (reply_with registers y.receipts)
    → y.pending ≡ Nothing
    → HandsOver (reply_with registers y.receipts) h
    → HasEnded plan y h
ended plan y h registers never is nothing over =
    let same : reply_with registers y.receipts ≡ reply_by plan y.receipts = ap
    (λ (z : Rc × List ℕ). record { rc = z.0; words = z.1; receipts = y.receipts }) is.told in
    let code : h.answer.rc ≡ rc_code (plan.told y.receipts).0 = ap (λ a. a.rc) over.answer ∙ ap
    (λ (reply : HReply). rc_code reply.rc) same in
    record {
      trial = is.trial;
      nothing = nothing;
      over = subst (λ reply. HandsOver reply h) same over;
      not_busy = λ busy. never y.receipts (code_busy _ (sym code ∙ busy));
    }

pub gone_on :
    (p : Pending) (call : HeldCall) (x y : Working) (h : Handed)
    → p ≡ Call call
    → HasGoneOn (plan_of_held call) x y h
    → IsAgainBy p x y h
gone_on p call x y h is on = subst (λ pending. IsAgainBy pending x y h) (sym is) on

-- ---- walks
refusal_told : (mask : Option MaskName) → refusal_number mask ≢ 6
refusal_told None = omega arith
refusal_told (Some Amr) = omega arith
refusal_told (Some Iamr) = omega arith

outcome_told : (at : Bool) (n : ℕ) → n ≢ 6 → (if at then 0 else n) ≢ 6
outcome_told true n other = omega arith
outcome_told false n other = other

end_never :
    (w : PageWalk) (found : Option Receipt) (count : ℕ)
    → (walk_end after_of w.access w.want found count).outcome ≢ 6
end_never w None count = omega arith
end_never w (Some r) count =
    outcome_told (is_at r.answer) (refusal_number (refusing_mask r))
    (refusal_told (refusing_mask r))

pub walk_begun :
    (p : Pending) (asked : Option PageWalk) (w : PageWalk) (x y : Working) (h : HandedWalk)
    → p ≡ Nothing
    → asked ≡ Some w
    → IsWalkBegun w x y h
    → IsWalkBy p asked x y h
walk_begun p asked w x y h free is begun = rw (free, is) begun

not_ok : (tried : Result (Option Receipt) Busy) (b : Busy) → tried ≡ Err b → IsOk tried → ⊥
not_ok (Ok found) b is ok = cc
not_ok (Err other) b is ok = cc

pub walk_tried :
    (w : PageWalk) (x y : Working) (h : HandedWalk) (tried : Result (Option Receipt) Busy)
    → IsMade x y y.receipts
    → h.receipts_after ≡ filled h.receipts (map shown_receipt y.receipts)
    → IfOk tried
    (λ found. IsTrial is_no_match (calls_of_walk (arc_value x.sharer.table).order w) y.receipts)
    → IfOk tried (λ found. y.pending ≡ Nothing)
    → IfErr tried (λ busy. KeepsWalk (arc_value x.sharer.table).order w x.sharer y busy)
    → (x.sharer.pass.shares ≡ (arc_value x.sharer.table).passes → IsOk tried)
    → IfOk tried (λ found. h.found ≡ end_told w y.receipts h.receipts)
    → IfErr tried (λ busy. h.found ≡ busy_told y.receipts h.receipts)
    → IsWalkBegun w x y h
walk_tried w x y h (Ok found) made put trial nothing kept alone end busy =
    record {
      made = made;
      walked = record {
        receipts = put;
        tried = inl (record {
          trial =
              subst (λ order. IsTrial is_no_match (calls_of_walk order w) y.receipts)
              (sym (ap order_of made.table)) trial;
          nothing = nothing;
          found = end;
          not_busy = λ is. end_never w (found_of y.receipts) _ (sym (ap (λ f. f.outcome) end) ∙ is);
        });
      };
    }
walk_tried w x y h (Err b) made put trial nothing kept alone end busy =
    record {
      made = made;
      walked = record {
        receipts = put;
        tried = inr (record {
          kept = subst (λ order. KeepsWalk order w x.sharer y y.busy) (sym (ap order_of made.table))
              (subst (KeepsWalk (arc_value x.sharer.table).order w x.sharer y) (sym kept.told)
              kept);
          not_alone =
              λ all.
              not_ok (Err b) b refl (alone (sym made.shares ∙ all ∙ ap passes_of made.table));
          found = busy;
        });
      };
    }
