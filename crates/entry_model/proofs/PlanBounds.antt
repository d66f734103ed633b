-- Plans of hypervisor calls: what they enter, how far they raise stamps, and when they give
-- H_HARDWARE.
use Rattle.std.specs.Prelude.{◌≢◌, MatchBool}
use Rattle.std.proofs.Common.{◌≡◌, ℕ, zero, suc, ◌+◌, ◌*◌, ◌≤◌, List, [], ◌∷◌, Bool, true, false, sym, subst, map, arith}
use Rattle.std.specs.List.{AllByRecursion, range_with_len}
use Rattle.papr_codes.specs.declared.codes.Rc.{Rc}
use Rattle.papr_codes.specs.declared.codes.Rc.TheVariants.{Hardware}
use Rattle.entry_model.specs.declared.operation.Answer.{Answer}
use Rattle.entry_model.specs.declared.operation.Op.{Op}
use Rattle.entry_model.specs.declared.operation.Op.TheVariants.{Enter, Remove}
use Rattle.entry_model.specs.declared.receipt.Receipt.{Receipt}
use Rattle.entry_model.specs.declared.hreply.HReply.{HReply}
use Rattle.entry_model.specs.Receipt.{is_worn}
use Rattle.entry_model.specs.Trial.{Call, IsTrial, Plan, IsReplyOf, plan_of_code, call}
use Rattle.entry_model.proofs.Heights.{cost, weight, calls_cost, trial_weight}

-- An operation that enters no other words than these.
abbrev pub EntersOnly : (ℕ → ℕ → Type 0) → Op → Type 0
EntersOnly W (Enter dword0 dword1) = W dword0 dword1
EntersOnly W other = Unit {0}

-- None of the receipts says Worn.
abbrev pub NoneWorn : List Receipt → Type 0
NoneWorn rs = AllByRecursion (λ (r : Receipt). is_worn r.answer ≡ false) rs

-- The plan enters no other words than these, raises few stamps, and gives H_HARDWARE only where an
-- entry was worn.
pub record IsTame (W : ℕ → ℕ → Type 0) (plan : Plan) : Type 0 where
  pub enters : AllByRecursion (λ (c : Call). EntersOnly W c.op) plan.calls
  pub few : calls_cost plan.calls ≤ 32
  pub code :
      (rs : List Receipt)
      → IsTrial plan.goes_on plan.calls rs
      → NoneWorn rs
      → (plan.told rs).0 ≢ Hardware

pub answered_tame : (W : ℕ → ℕ → Type 0) (rc : Rc) → rc ≢ Hardware → IsTame W (plan_of_code rc)
answered_tame W rc other = record { enters = tt; few = omega arith; code = λ rs trial fine. other }

-- ---- one operation on several entries
pub each_call :
    (Q : Op → Type 0) (op : Op) (entries : List ℕ)
    → Q op
    → AllByRecursion (λ (c : Call). Q c.op) (map (call op) entries)
each_call Q op [] h = tt
each_call Q op (e ∷ es) h = (h, each_call Q op es h)

cost_low : (op : Op) → cost op ≤ 2
cost_low (Remove test) = omega arith
cost_low other = omega arith

pub entries_cost :
    (op : Op) (first n : ℕ) → calls_cost (map (call op) (range_with_len first n)) ≤ n * 2
entries_cost op first zero = omega arith
entries_cost op first (suc n) = omega (arith, cost_low op, entries_cost op (first + 1) n)

-- ---- the receipts of a trial
ops_step :
    (Q : Op → Type 0) (goes : Bool) (op other : Op) (rs : List Receipt) (P : Type 0)
    → other ≡ op
    → Q op
    → MatchBool goes P (rs ≡ [])
    → (P → AllByRecursion (λ (r : Receipt). Q r.op) rs)
    → Q other × AllByRecursion (λ (r : Receipt). Q r.op) rs
ops_step Q true op other rs P same q h rest = (subst Q (sym same) q, rest h)
ops_step Q false op other rs P same q h rest =
    (subst Q (sym same) q, subst (AllByRecursion (λ (r : Receipt). Q r.op)) (sym h) tt)

pub trial_ops :
    (Q : Op → Type 0) (goes : Answer → Bool) (cs : List Call) (rs : List Receipt)
    → AllByRecursion (λ (c : Call). Q c.op) cs
    → IsTrial goes cs rs
    → AllByRecursion (λ (r : Receipt). Q r.op) rs
trial_ops Q goes [] [] q h = tt
trial_ops Q goes [] (r ∷ rs) q h = absurd h
trial_ops Q goes (c ∷ cs) [] q h = absurd h
trial_ops Q goes (c ∷ cs) (r ∷ rs) q h =
    ops_step Q (goes r.answer) c.op r.op rs (IsTrial goes cs rs) h.0.op q.0 h.1
    (λ k. trial_ops Q goes cs rs q.1 k)

-- ---- the reply of a tame plan
-- The receipts enter no other words than these and raise few stamps, and the code is H_HARDWARE
-- only where an entry was worn.
pub record IsTameReply (W : ℕ → ℕ → Type 0) (reply : HReply) : Type 0 where
  pub enters : AllByRecursion (λ (r : Receipt). EntersOnly W r.op) reply.receipts
  pub few : weight reply.receipts ≤ 32
  pub code : NoneWorn reply.receipts → reply.rc ≢ Hardware

pub tame_reply :
    (W : ℕ → ℕ → Type 0) (plan : Plan) (reply : HReply)
    → IsTame W plan
    → IsReplyOf plan reply
    → IsTameReply W reply
tame_reply W plan reply tame is = record {
  enters = trial_ops (EntersOnly W) plan.goes_on plan.calls reply.receipts tame.enters is.trial;
  few = let least :
      calls_cost plan.calls ≤ 32 =
      tame.few in omega (arith, trial_weight plan.goes_on plan.calls reply.receipts is.trial);
  code =
      λ fine.
      subst (λ (x : Rc × List ℕ). x.0 ≢ Hardware) (sym is.told)
      (tame.code reply.receipts is.trial fine);
}
