-- What is read and removed of an entry that was entered.
use Rattle.std.proofs.Common.{◌≡◌, ℕ, ◌<◌, ◌+◌, ◌-◌, ◌^◌, ◌==◌, Bool, true, false, List, [], ◌∷◌, length, slice_set, nat_lt, flat_map, refl, ap, ◌∙◌, subst, inl, inr, ◌⊎◌, arith}
use Rattle.std.proofs.lemmas.Bool.{cases_Bool, MatchBool-at_true, MatchBool-at_false, lt-ltb, ne_eqb}
use Rattle.std.proofs.lemmas.List.{get_or-set_same, set-set}
use Rattle.hpte_fields.specs.TableSize.{entry_count}
use Rattle.papr_codes.specs.declared.codes.Rc.{Rc}
use Rattle.papr_codes.specs.declared.codes.Rc.TheVariants.{Success}
use Rattle.entry_model.specs.State.{State, empty_state}
use Rattle.entry_model.specs.Reply.{entered_state, reply_of, words_of}
use Rattle.entry_model.specs.Run.{IsRun, state_at}
use Rattle.entry_model.specs.Trial.{Call, IsReplyOf, IsTrial, Plan, call}
use Rattle.entry_model.specs.declared.operation.Answer.{Answer}
use Rattle.entry_model.specs.declared.operation.Answer.TheVariants.{Entered, Removed}
use Rattle.entry_model.specs.declared.operation.Op.TheVariants.{Enter, Read, Remove}
use Rattle.entry_model.specs.declared.hreply.HReply.{HReply}
use Rattle.entry_model.specs.declared.receipt.Receipt.{Receipt}
use Rattle.call_plan.specs.Enter.{enter_plan, candidates}
use Rattle.call_plan.specs.Single.{both_words, code_and_words, h_read_plan, h_remove_plan, remove_test, told_by}
use Rattle.partition.proofs.Bits.{put_back}

-- ---- one call
-- The receipts of one call on an entry, and the states after it.
record IsOne (states : List State) (c : Call) (rs : List Receipt) (new : List State) : Type 0 where
  receipt : Receipt
  alone : rs ≡ receipt ∷ []
  in_table : c.entry < length states
  before : receipt.before ≡ state_at states c.entry
  answer : receipt.answer ≡ (reply_of (state_at states c.entry) c.op).0
  after : new ≡ slice_set states c.entry (reply_of (state_at states c.entry) c.op).1

one_call :
    (goes : Answer → Bool) (states : List State) (c : Call) (rs : List Receipt) (new : List State)
    → IsTrial goes (c ∷ []) rs
    → IsRun states rs new
    → IsOne states c rs new
one_call goes states c [] new trial run = absurd trial
one_call goes states c (r ∷ []) new trial run =
    let is_entry : r.entry ≡ c.entry = trial.0.entry in
    let is_op : r.op ≡ c.op = trial.0.op in
    let first = run.1 in
    let before : r.before ≡ state_at states c.entry = first.before ∙ ap (state_at states) is_entry
    in
    let reply : reply_of r.before r.op ≡ reply_of (state_at states c.entry) c.op = ap
    (λ s. reply_of s r.op) before ∙ ap (reply_of (state_at states c.entry)) is_op in
    record {
      receipt = r;
      alone = refl;
      in_table = subst (λ e. e < length states) is_entry first.in_table;
      before = before;
      answer = r.lawful ∙ ap (λ x. x.0) reply;
      after =
          run.2
          ∙ first.after
          ∙ ap (λ e. slice_set states e (reply_of r.before r.op).1) is_entry
          ∙ ap (λ x. slice_set states c.entry x.1) reply;
    }
one_call goes states c (r ∷ s ∷ rs) new trial run = at (cases_Bool (goes r.answer)) where
  at : (goes r.answer ≡ true) ⊎ (goes r.answer ≡ false) → IsOne states c (r ∷ s ∷ rs) new
  at (inl on) = absurd (MatchBool-at_true _ _ on trial.1)
  at (inr ends) = let wrong = MatchBool-at_false _ _ ends trial.1 in absurd (cc)

-- ---- an entry that is entered
-- Its state.
abbrev pub state_by : State → ℕ → ℕ → State
state_by s dword0 dword1 = record (entered_state dword0 dword1) { stamp = s.stamp + 1 }

enter_reply :
    (s : State) (dword0 dword1 : ℕ)
    → s.valid ≡ false
    → s.stamp < 2 ^ 32 - 1
    → reply_of s (Enter dword0 dword1) ≡ (Entered, state_by s dword0 dword1)
enter_reply s dword0 dword1 empty low =
    let fresh : (s.stamp == 0xFFFFFFFF) ≡ false = ne_eqb s.stamp 0xFFFFFFFF (λ worn. omega arith) in
    rw (empty, fresh) refl

-- The states after it, at an index of the table.
pub record IsEntered (states : List State) (index dword0 dword1 : ℕ) (mid : List State) :
    Type 0 where
  pub in_table : index < length states
  pub after : mid ≡ slice_set states index (state_by (state_at states index) dword0 dword1)

pub entered :
    (states : List State) (index dword0 dword1 : ℕ) (rs : List Receipt) (mid : List State)
    → (state_at states index).valid ≡ false
    → (state_at states index).stamp < 2 ^ 32 - 1
    → (let plan = enter_plan 0x8000000000 index dword0 dword1 in IsTrial plan.goes_on plan.calls rs)
    → IsRun states rs mid
    → IsEntered states index dword0 dword1 mid
unfolding candidates
entered states index dword0 dword1 rs mid empty low trial run =
    let one = one_call _ states (call (Enter dword0 dword1) index) rs mid trial run in
    record {
      in_table = one.in_table;
      after =
          one.after
          ∙ ap (λ x. slice_set states index x.1)
          (enter_reply (state_at states index) dword0 dword1 empty low);
    }

-- The entry's state then.
stands :
    (states : List State) (index dword0 dword1 : ℕ) (mid : List State)
    → IsEntered states index dword0 dword1 mid
    → state_at mid index ≡ state_by (state_at states index) dword0 dword1
stands states index dword0 dword1 mid made =
    ap (λ (xs : List State). state_at xs index) made.after
    ∙ get_or-set_same states index (state_by (state_at states index) dword0 dword1) (empty_state 0)
    made.in_table

-- ---- the entry is read
abbrev read_plan : ℕ → Plan
read_plan index =
    record {
      calls = call Read index ∷ [];
      goes_on = λ answer. true;
      told = λ rs. (Success, flat_map both_words rs);
    }

plan_of_read :
    (order index : ℕ) → index < entry_count order → h_read_plan order 0 index ≡ read_plan index
unfolding h_read_plan
plan_of_read order index within = let here :
    nat_lt index (entry_count order) ≡ true =
    lt-ltb index (entry_count order) within in rw here refl

-- The words of a receipt of the entry that was entered.
words_shown :
    (s : State) (dword0 dword1 : ℕ) (rs : List Receipt) (r : Receipt)
    → rs ≡ r ∷ []
    → r.before ≡ state_by s dword0 dword1
    → dword1 < 2 ^ 64
    → both_words r ≡ dword0 ∷ dword1 ∷ []
words_shown s dword0 dword1 rs r alone before low =
    ap (λ (t : State). (words_of t).0 ∷ (words_of t).1 ∷ []) before
    ∙ ap (λ word. dword0 ∷ word ∷ []) (put_back dword1 low)

pub read_back :
    (order index dword0 dword1 : ℕ) (states mid new : List State) (reply : HReply)
    → index < entry_count order
    → dword1 < 2 ^ 64
    → IsEntered states index dword0 dword1 mid
    → IsReplyOf (h_read_plan order 0 index) reply
    → IsRun mid reply.receipts new
    → (reply.rc ≡ Success) × (reply.words ≡ dword0 ∷ dword1 ∷ [])
read_back order index dword0 dword1 states mid new reply within low made is run =
    let by_plan : IsReplyOf (read_plan index) reply = subst (λ (plan : Plan). IsReplyOf plan reply)
    (plan_of_read order index within) is in
    let one = one_call (λ answer. true) mid (call Read index) reply.receipts new by_plan.trial run
    in
    let before = one.before ∙ stands states index dword0 dword1 mid made in (
      ap (λ (x : Rc × List ℕ). x.0) by_plan.told,
      ap (λ (x : Rc × List ℕ). x.1) by_plan.told
          ∙ ap (flat_map both_words) one.alone
          ∙ words_shown (state_at states index) dword0 dword1 reply.receipts one.receipt one.alone
          before
          low,
    )

-- ---- the entry is removed
abbrev remove_plan : ℕ → Plan
remove_plan index =
    record {
      calls = call (Remove (remove_test 0 0)) index ∷ [];
      goes_on = λ answer. true;
      told = told_by both_words;
    }

plan_of_remove :
    (order index : ℕ)
    → index < entry_count order
    → h_remove_plan order 0 index 0 ≡ remove_plan index
unfolding h_remove_plan
plan_of_remove order index within = let here :
    nat_lt index (entry_count order) ≡ true =
    lt-ltb index (entry_count order) within in rw here refl

remove_reply :
    (s : State) (dword0 dword1 : ℕ)
    → s.stamp + 1 < 2 ^ 32 - 1
    → reply_of (state_by s dword0 dword1) (Remove (remove_test 0 0))
    ≡ (Removed, empty_state (s.stamp + 1 + 1))
remove_reply s dword0 dword1 low =
    let fresh : (s.stamp + 1 == 0xFFFFFFFF) ≡ false = ne_eqb (s.stamp + 1) 0xFFFFFFFF
    (λ worn. omega arith) in
    rw fresh refl

-- What a removal answers, and the states after it.
pub record IsRemoved (states : List State) (index dword0 dword1 : ℕ) (reply : HReply)
    (new : List State) :
    Type 0 where
  pub code : reply.rc ≡ Success
  pub words : reply.words ≡ dword0 ∷ dword1 ∷ []
  pub again : new ≡ slice_set states index (empty_state ((state_at states index).stamp + 2))

pub removed :
    (order index dword0 dword1 : ℕ) (states mid new : List State) (reply : HReply)
    → index < entry_count order
    → dword1 < 2 ^ 64
    → (state_at states index).stamp + 1 < 2 ^ 32 - 1
    → IsEntered states index dword0 dword1 mid
    → IsReplyOf (h_remove_plan order 0 index 0) reply
    → IsRun mid reply.receipts new
    → IsRemoved states index dword0 dword1 reply new
removed order index dword0 dword1 states mid new reply within low fresh made is run =
    let by_plan : IsReplyOf (remove_plan index) reply = subst
    (λ (plan : Plan). IsReplyOf plan reply) (plan_of_remove order index within) is in
    let one = one_call (λ answer. true) mid (call (Remove (remove_test 0 0)) index) reply.receipts
    new by_plan.trial run in
    let there = stands states index dword0 dword1 mid made in
    let here = ap (λ (s : State). reply_of s (Remove (remove_test 0 0))) there ∙ remove_reply
    (state_at states index) dword0 dword1 fresh in
    let told : told_by both_words reply.receipts ≡ (Success, both_words one.receipt) = ap
    (told_by both_words) one.alone ∙ ap
    (λ (answer : Answer). code_and_words answer (both_words one.receipt))
    (one.answer ∙ ap (λ (x : Answer × State). x.0) here) in
    record {
      code = ap (λ (x : Rc × List ℕ). x.0) (by_plan.told ∙ told);
      words =
          ap (λ (x : Rc × List ℕ). x.1) (by_plan.told ∙ told)
          ∙ words_shown (state_at states index) dword0 dword1 reply.receipts one.receipt one.alone
          (one.before ∙ there) low;
      again =
          one.after
          ∙ ap (λ (x : Answer × State). slice_set mid index x.1) here
          ∙ ap
          (λ (xs : List State).
          slice_set xs index (empty_state ((state_at states index).stamp + 1 + 1))) made.after
          ∙ set-set states index (state_by (state_at states index) dword0 dword1)
          (empty_state ((state_at states index).stamp + 1 + 1))
          ∙ ap (λ (stamp : ℕ). slice_set states index (empty_state stamp)) (omega arith);
    }
