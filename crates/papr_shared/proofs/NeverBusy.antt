-- The codes of the calls on entries: none of them is H_BUSY.
use Rattle.std.specs.Prelude.{◌≢◌, if◌then◌else◌}
use Rattle.std.proofs.Common.{◌≡◌, ℕ, Bool, true, false, List, [], ◌∷◌, Option, Some, None, refl}
use Rattle.papr_codes.specs.declared.codes.Rc.{Rc}
use Rattle.papr_codes.specs.declared.codes.Rc.TheVariants as rc
use Rattle.papr_codes.specs.declared.calls.Hcall.{Hcall}
use Rattle.papr_codes.specs.declared.calls.Hcall.TheVariants as hcall
use Rattle.papr_codes.specs.ReturnCodes.{rc_code}
use Rattle.page_grants.specs.Suited.{entered_words}
use Rattle.frame_grants.specs.declared.grant.Grant.{Grant}
use Rattle.entry_model.specs.declared.operation.Answer.{Answer}
use Rattle.entry_model.specs.declared.operation.Answer.TheVariants as answer
use Rattle.entry_model.specs.declared.operation.Op.{Op}
use Rattle.entry_model.specs.declared.receipt.Receipt.{Receipt}
use Rattle.entry_model.specs.Receipt.{is_taken, is_worn}
use Rattle.entry_model.specs.Trial.{Plan, plan_of_code}
use Rattle.call_plan.specs.Enter.{enter_told}
use Rattle.call_plan.specs.Checks.{words_plan, h_enter_plan}
use Rattle.call_plan.specs.Single.{code_and_words, told_by, single_plan, h_remove_plan, h_protect_plan, h_clear_ref_plan, h_clear_mod_plan, h_read_plan}
use Rattle.call_plan.specs.declared.bulk.Asked.{Asked}
use Rattle.call_plan.specs.declared.bulk.Asked.TheVariants as asks
use Rattle.call_plan.specs.Bulk.{Pair, pairs_of, asked_by, pair_told, bulk_told, h_bulk_remove_plan}
use Rattle.call_plan.specs.declared.plan.Told.{Told}
use Rattle.call_plan.specs.declared.plan.Told.TheVariants as told
use Rattle.call_plan.specs.Plans.{told_of}
use Rattle.call_plan.specs.Hcalls.{plan_of_hcall, or_function}
use Rattle.shared_pass.specs.declared.held.HeldCall.{HeldCall}
use Rattle.shared_pass.specs.declared.held.HeldCall.TheVariants as held
use Rattle.shared_pass.specs.Held.{plan_of_held}
use Rattle.papr_shared.specs.Calls.{NeverBusy}

-- ---- choices
either :
    (b : Bool) (x y : Rc × List ℕ)
    → x.0 ≢ rc.Busy
    → y.0 ≢ rc.Busy
    → (if b then x else y).0 ≢ rc.Busy
either true x y one other = one
either false x y one other = other

either_plan : (b : Bool) (p q : Plan) → NeverBusy p → NeverBusy q → NeverBusy (if b then p else q)
either_plan true p q one other = one
either_plan false p q one other = other

coded : (code : Rc) → code ≢ rc.Busy → NeverBusy (plan_of_code code)
coded code other = λ rs. other

parameter : NeverBusy (plan_of_code rc.Parameter)
parameter = coded rc.Parameter (λ is. cc)

-- ---- calls on one entry
by_answer : (a : Answer) (words : List ℕ) → (code_and_words a words).0 ≢ rc.Busy
by_answer answer.Entered words = λ is. cc
by_answer answer.Taken words = λ is. cc
by_answer answer.Removed words = λ is. cc
by_answer answer.Protected words = λ is. cc
by_answer answer.Was words = λ is. cc
by_answer answer.Words words = λ is. cc
by_answer answer.NotFound words = λ is. cc
by_answer answer.NoMatch words = λ is. cc
by_answer answer.Denied words = λ is. cc
by_answer answer.Masked words = λ is. cc
by_answer answer.At words = λ is. cc
by_answer answer.Worn words = λ is. cc

by_receipt : (words : Receipt → List ℕ) (rs : List Receipt) → (told_by words rs).0 ≢ rc.Busy
by_receipt words [] = λ is. cc
by_receipt words (r ∷ rs) = by_answer r.answer (words r)

single :
    (order ptex : ℕ) (op : Op) (words : Receipt → List ℕ)
    → NeverBusy (single_plan order ptex op words)
single order ptex op words = either_plan _ _ _ (by_receipt words) parameter

pub remove_never : (order flags ptex avpn : ℕ) → NeverBusy (h_remove_plan order flags ptex avpn)
unfolding h_remove_plan
remove_never order flags ptex avpn = single order ptex _ _

pub protect_never : (order flags ptex avpn : ℕ) → NeverBusy (h_protect_plan order flags ptex avpn)
unfolding h_protect_plan
protect_never order flags ptex avpn = single order ptex _ _

pub clear_ref_never : (order ptex : ℕ) → NeverBusy (h_clear_ref_plan order ptex)
unfolding h_clear_ref_plan
clear_ref_never order ptex = single order ptex _ _

pub clear_mod_never : (order ptex : ℕ) → NeverBusy (h_clear_mod_plan order ptex)
unfolding h_clear_mod_plan
clear_mod_never order ptex = single order ptex _ _

success : rc.Success ≢ rc.Busy
success is = cc

pub read_never : (order flags ptex : ℕ) → NeverBusy (h_read_plan order flags ptex)
unfolding h_read_plan
read_never order flags ptex = either_plan _ _ _ (λ rs. success) parameter

-- ---- H_ENTER
entered : (rs : List Receipt) → (enter_told rs).0 ≢ rc.Busy
entered [] = λ is. cc
entered (r ∷ rs) =
    either (is_taken r.answer) _ _ (entered rs)
    (either (is_worn r.answer) _ _ (λ is. cc) (λ is. cc))

of_words : (flags ptex : ℕ) (words : Option (ℕ × ℕ)) → NeverBusy (words_plan flags ptex words)
of_words flags ptex None = parameter
of_words flags ptex (Some w) = entered

pub enter_never :
    (order : ℕ) (grants : List Grant) (flags ptex pteh ptel : ℕ)
    → NeverBusy (h_enter_plan order grants flags ptex pteh ptel)
unfolding h_enter_plan
enter_never order grants flags ptex pteh ptel =
    either_plan _ _ _ (of_words flags ptex (entered_words grants pteh ptel)) parameter

-- ---- H_BULK_REMOVE
of_pair :
    (asked : Asked) (p : Pair) (ps : List Pair) (rs : List Receipt)
    (rest : List Receipt → Rc × List ℕ)
    → ((qs : List Receipt) → (rest qs).0 ≢ rc.Busy)
    → (pair_told asked p ps rs rest).0 ≢ rc.Busy
of_pair asks.End p ps rs rest never = λ is. cc
of_pair asks.Refused p ps rs rest never = λ is. cc
of_pair (asks.Remove entry test) p ps [] rest never = λ is. cc
of_pair (asks.Remove entry test) p ps (r ∷ rs) rest never =
    either (is_worn r.answer) _ _ (λ is. cc) (never rs)

of_pairs : (order : ℕ) (ps : List Pair) (rs : List Receipt) → (bulk_told order ps rs).0 ≢ rc.Busy
unfolding bulk_told
of_pairs order [] rs = λ is. cc
of_pairs order (p ∷ ps) rs =
    of_pair (asked_by order p) p ps rs (bulk_told order ps) (of_pairs order ps)

pub bulk_never : (order : ℕ) (words : List ℕ) → NeverBusy (h_bulk_remove_plan order words)
unfolding h_bulk_remove_plan
bulk_never order words = of_pairs order (pairs_of words)

-- ---- any of them
function : NeverBusy (plan_of_code rc.Function)
function = coded rc.Function (λ is. cc)

pub numbered_never :
    (order : ℕ) (grants : List Grant) (ws : List ℕ) (call : Hcall)
    → NeverBusy (or_function (plan_of_hcall order grants ws call))
numbered_never order grants ws hcall.Enter = enter_never order grants _ _ _ _
numbered_never order grants ws hcall.Remove = remove_never order _ _ _
numbered_never order grants ws hcall.Protect = protect_never order _ _ _
numbered_never order grants ws hcall.Read = read_never order _ _
numbered_never order grants ws hcall.ClearRef = clear_ref_never order _
numbered_never order grants ws hcall.ClearMod = clear_mod_never order _
numbered_never order grants ws hcall.BulkRemove = bulk_never order ws
numbered_never order grants ws hcall.GetTce = function
numbered_never order grants ws hcall.PutTce = function
numbered_never order grants ws hcall.Prepare = function
numbered_never order grants ws hcall.Commit = function
numbered_never order grants ws (hcall.Other number) = function

told_never : (d : Told) (rs : List Receipt) → (told_of d rs).0 ≢ rc.Busy
told_never told.Entered rs = entered rs
told_never (told.Answer shown) rs = by_receipt _ rs
told_never told.Contents rs = success

pub held_never : (call : HeldCall) → NeverBusy (plan_of_held call)
held_never (held.Tries trial) = told_never trial.told
held_never (held.Removes order pairs) = bulk_never order pairs

-- ---- as C has them
pub code_busy : (code : Rc) → rc_code code ≡ rc_code rc.Busy → code ≡ rc.Busy
code_busy rc.Success is = cc
code_busy rc.Busy is = refl
code_busy rc.Closed is = cc
code_busy rc.LongBusy is = cc
code_busy rc.Hardware is = cc
code_busy rc.Function is = cc
code_busy rc.Parameter is = cc
code_busy rc.PtegFull is = cc
code_busy rc.NotFound is = cc
code_busy rc.NoMem is = cc
code_busy rc.Resource is = cc
