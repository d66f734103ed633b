-- Worked values of the definitions, which the checker computes.
use Rattle.std.proofs.Common.{◌≡◌, ℕ, List, [], ◌∷◌, Bool, true, false, replicate, slice_set, map, refl}
use Rattle.papr_codes.specs.declared.codes.Rc.{Rc}
use Rattle.entry_model.specs.State.{State, empty_state}
use Rattle.entry_model.specs.declared.operation.Answer.{Answer}
use Rattle.entry_model.specs.declared.operation.Answer.TheVariants.{Removed, Protected, Was, Words, NotFound, Worn}
use Rattle.entry_model.specs.declared.hreply.HReply.{HReply}
use Rattle.entry_model.specs.Trial.{Plan, plan_run, trial_run}
use Rattle.call_plan.specs.Single.{h_remove_plan, h_protect_plan, h_read_plan, h_clear_ref_plan, h_clear_mod_plan}
use Rattle.call_plan.specs.Bulk.{bulk_calls, bulk_told, asked_by, h_bulk_remove_plan, pairs_show}
use Rattle.papr_codes.specs.declared.codes.Rc.TheVariants as rc

-- The first entries of a table, of which entry 0x20 has this state.
table : State → List State
table state = slice_set (replicate 40 (empty_state 0)) 0x20 state

-- A valid entry that has changed once or more, with these doublewords and bits.
entry : ℕ → ℕ → Bool → Bool → ℕ → State
entry dword0 dword1 referenced changed stamp =
    record {
      valid = true;
      dword0 = dword0;
      dword1 = dword1;
      referenced = referenced;
      changed = changed;
      stamp = stamp;
    }

-- Of a receipt the entry, the stamp before and the answer.
pub record Seen : Type 0 where
  pub entry : ℕ
  pub stamp : ℕ
  pub answer : Answer

seen : ℕ → ℕ → Answer → Seen
seen e stamp answer = record { entry = e; stamp = stamp; answer = answer }

-- Of a reply the code, the words and what is seen of its receipts.
pub record Shows : Type 0 where
  pub code : Rc
  pub words : List ℕ
  pub receipts : List Seen

shows : Rc → List ℕ → List Seen → Shows
shows code words receipts = record { code = code; words = words; receipts = receipts }

shown : HReply → Shows
unfolding shows seen
shown reply =
    shows reply.rc reply.words (map (λ r. seen r.entry r.before.stamp r.answer) reply.receipts)

-- What a call shows, and what a second one after it shows.
reply : Plan → List State → Shows
unfolding shown plan_run
reply plan states = shown (plan_run plan states).0

second : Plan → Plan → List State → Shows
unfolding shown plan_run
second first plan states = shown (plan_run plan (plan_run first states).1).0

-- ---- H_REMOVE
other_avpn_not_found :
    reply (h_remove_plan 18 0x80000000 0x20 0x2000) (table (entry 0x1001 0x3012 false false 1))
    ≡ shows rc.NotFound [] (seen 0x20 1 NotFound ∷ [])
unfolding reply shown shows seen table entry plan_run trial_run h_remove_plan
other_avpn_not_found = refl

removed_with_its_words :
    reply (h_remove_plan 18 0x80000000 0x20 0x1000) (table (entry 0x1001 0x3012 false false 1))
    ≡ shows rc.Success (0x1001 ∷ 0x3012 ∷ []) (seen 0x20 1 Removed ∷ [])
unfolding reply shown shows seen table entry plan_run trial_run h_remove_plan
removed_with_its_words = refl

removed_once :
    second (h_remove_plan 18 0x80000000 0x20 0x1000) (h_remove_plan 18 0x80000000 0x20 0x1000)
    (table (entry 0x1001 0x3012 false false 1))
    ≡ shows rc.NotFound [] (seen 0x20 2 NotFound ∷ [])
unfolding second shown shows seen table entry plan_run trial_run h_remove_plan
removed_once = refl

bolted_kept_by_andcond :
    reply (h_remove_plan 18 0x40000000 0x20 0x10) (table (entry 0x1011 0x3012 false false 1))
    ≡ shows rc.NotFound [] (seen 0x20 1 NotFound ∷ [])
unfolding reply shown shows seen table entry plan_run trial_run h_remove_plan
bolted_kept_by_andcond = refl

-- The word 0x1000 is the entry's, but it masks a bit that is set.
both_flags_apply :
    reply (h_remove_plan 18 0xC0000000 0x20 0x1000) (table (entry 0x1001 0x3012 false false 3))
    ≡ shows rc.NotFound [] (seen 0x20 3 NotFound ∷ [])
unfolding reply shown shows seen table entry plan_run trial_run h_remove_plan
both_flags_apply = refl

worn_entry_stays :
    reply (h_remove_plan 18 0 0x20 0) (table (entry 0x1001 0x3012 false false 0xFFFFFFFF))
    ≡ shows rc.Hardware [] (seen 0x20 0xFFFFFFFF Worn ∷ [])
unfolding reply shown shows seen table entry plan_run trial_run h_remove_plan
worn_entry_stays = refl

past_the_table :
    reply (h_remove_plan 18 0 0x4000 0) (table (empty_state 0)) ≡ shows rc.Parameter [] []
unfolding reply shown shows seen table plan_run trial_run h_remove_plan
past_the_table = refl

-- ---- H_PROTECT and H_READ
protected_without_words :
    reply (h_protect_plan 18 0x3103 0x20 0) (table (entry 0x1001 0x3012 false false 1))
    ≡ shows rc.Success [] (seen 0x20 1 Protected ∷ [])
unfolding reply shown shows seen table entry plan_run trial_run h_protect_plan
protected_without_words = refl

protected_then_read :
    second (h_protect_plan 18 0x3103 0x20 0) (h_read_plan 18 0 0x20)
    (table (entry 0x1001 0x3012 false false 1))
    ≡ shows rc.Success (0x1001 ∷ 0xB000000000003013 ∷ []) (seen 0x20 2 Words ∷ [])
unfolding second shown shows seen table entry plan_run trial_run h_protect_plan h_read_plan
protected_then_read = refl

protected_by_its_avpn :
    reply (h_protect_plan 18 0x80000002 0x20 0x2000) (table (entry 0x1011 0x3012 true true 1))
    ≡ shows rc.NotFound [] (seen 0x20 1 NotFound ∷ [])
unfolding reply shown shows seen table entry plan_run trial_run h_protect_plan
protected_by_its_avpn = refl

four_from_the_multiple_of_four :
    reply (h_read_plan 18 0x2000000000 0x22) (table (entry 0x1001 0x3012 false false 1))
    ≡ shows rc.Success (0x1001 ∷ 0x3012 ∷ 0 ∷ 0 ∷ 0 ∷ 0 ∷ 0 ∷ 0 ∷ [])
    (seen 0x20 1 Words ∷ seen 0x21 0 Words ∷ seen 0x22 0 Words ∷ seen 0x23 0 Words ∷ [])
unfolding reply shown shows seen table entry plan_run trial_run h_read_plan
four_from_the_multiple_of_four = refl

-- ---- H_CLEAR_MOD and H_CLEAR_REF
changed_was_set :
    reply (h_clear_mod_plan 18 0x20) (table (entry 0x1001 0x3012 true true 1))
    ≡ shows rc.Success (0x3192 ∷ []) (seen 0x20 1 Was ∷ [])
unfolding reply shown shows seen table entry plan_run trial_run h_clear_mod_plan
changed_was_set = refl

referenced_left_by_clear_mod :
    second (h_clear_mod_plan 18 0x20) (h_clear_ref_plan 18 0x20)
    (table (entry 0x1001 0x3012 true true 1))
    ≡ shows rc.Success (0x3112 ∷ []) (seen 0x20 2 Was ∷ [])
unfolding second shown shows seen table entry plan_run trial_run h_clear_mod_plan h_clear_ref_plan
referenced_left_by_clear_mod = refl

-- ---- H_BULK_REMOVE
third_pair_ill_formed :
    reply
    (h_bulk_remove_plan 18
    (0x4000000000000020
    ∷ 0
    ∷ 0x4000000000000021
    ∷ 0
    ∷ 0x4300000000000022
    ∷ 0
    ∷ 0x4000000000000020
    ∷ 0
    ∷ [])) (table (entry 0x1001 0x3012 true true 1))
    ≡ shows rc.Parameter
    (0x8C00000000000020
    ∷ 0
    ∷ 0x9000000000000021
    ∷ 0
    ∷ 0xA300000000000022
    ∷ 0
    ∷ 0x4000000000000020
    ∷ 0
    ∷ []) (seen 0x20 1 Removed ∷ seen 0x21 0 NotFound ∷ [])
unfolding reply shown shows seen table entry plan_run trial_run h_bulk_remove_plan bulk_calls
    bulk_told asked_by
third_pair_ill_formed = refl

ends_at_the_second_pair :
    reply
    (h_bulk_remove_plan 18
    (0x4200000000000020 ∷ 0x1000 ∷ 0xC000000000000000 ∷ 0 ∷ 0 ∷ 7 ∷ 0 ∷ 0 ∷ []))
    (table (entry 0x1011 0x3010 true true 2))
    ≡ shows rc.Success (0x8E00000000000020 ∷ 0x1000 ∷ 0xC000000000000000 ∷ 0 ∷ 0 ∷ 7 ∷ 0 ∷ 0 ∷ [])
    (seen 0x20 2 Removed ∷ [])
unfolding reply shown shows seen table entry plan_run trial_run h_bulk_remove_plan bulk_calls
    bulk_told asked_by
ends_at_the_second_pair = refl

bulk_stops_at_a_worn_entry :
    reply
    (h_bulk_remove_plan 18
    (0x4000000000000020 ∷ 0 ∷ 0x4000000000000021 ∷ 0 ∷ 0 ∷ 0 ∷ 0 ∷ 0 ∷ []))
    (table (entry 0x1001 0x3012 false false 0xFFFFFFFF))
    ≡ shows rc.Hardware (0xB000000000000020 ∷ 0 ∷ 0x4000000000000021 ∷ 0 ∷ 0 ∷ 0 ∷ 0 ∷ 0 ∷ [])
    (seen 0x20 0xFFFFFFFF Worn ∷ [])
unfolding reply shown shows seen table entry plan_run trial_run h_bulk_remove_plan bulk_calls
    bulk_told asked_by
bulk_stops_at_a_worn_entry = refl

-- ---- a response shows C
-- Of the two entries that were removed the first had C; the third was not found.
responses : List ℕ
responses = 0x8400000000000020 ∷ 0x10 ∷ 0x8800000000000021 ∷ 0x11 ∷ 0x9000000000000022 ∷ 0x12 ∷ []

first_had_c : pairs_show responses 0x20 ≡ true
unfolding responses
first_had_c = refl

second_had_r_alone : pairs_show responses 0x21 ≡ false
unfolding responses
second_had_r_alone = refl

third_was_not_found : pairs_show responses 0x22 ≡ false
unfolding responses
third_was_not_found = refl

-- A word of a test is no response.
no_response : pairs_show responses 0x10 ≡ false
unfolding responses
no_response = refl
