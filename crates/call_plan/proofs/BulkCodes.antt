-- The codes with which a bulk removal ends.
use Rattle.std.proofs.Common.{◌≡◌, ℕ, List, [], ◌∷◌, ◌⊎◌, inl, inr, ap, subst, sym, refl}
use Rattle.std.proofs.lemmas.Bool.{cond_both}
use Rattle.papr_codes.specs.declared.codes.Rc.{Rc}
use Rattle.entry_model.specs.declared.receipt.Receipt.{Receipt}
use Rattle.entry_model.specs.declared.hreply.HReply.{HReply}
use Rattle.entry_model.specs.Receipt.{is_worn}
use Rattle.entry_model.specs.Trial.{IsReplyOf}
use Rattle.call_plan.specs.declared.bulk.Asked.{Asked}
use Rattle.call_plan.specs.declared.bulk.Asked.TheVariants.{End, Remove, Refused}
use Rattle.call_plan.specs.Bulk.{Pair, pairs_of, asked_by, response, status_of, worn_status, words_of_pairs, words_before, words_after_answer, pair_told, bulk_told, h_bulk_remove_plan}
use Rattle.papr_codes.specs.declared.codes.Rc.TheVariants as rc

-- H_SUCCESS, H_PARAMETER or H_HARDWARE.
abbrev pub IsBulkCode : Rc → Type 0
IsBulkCode code = (code ≡ rc.Success) ⊎ (code ≡ rc.Parameter) ⊎ (code ≡ rc.Hardware)

answered_code :
    (p : Pair) (r : Receipt) (ps : List Pair) (rest : Rc × List ℕ)
    → IsBulkCode rest.0
    → IsBulkCode (words_after_answer p r ps rest).0
answered_code p r ps rest h =
    cond_both (is_worn r.answer)
    (rc.Hardware, response worn_status p.request ∷ p.word ∷ words_of_pairs ps)
    (words_before (response (status_of r.answer r.before) p.request) p.word rest)
    (λ (x : Rc × List ℕ). IsBulkCode x.0) (λ _. inr (inr refl)) (λ _. h)

pair_code :
    (asks : Asked) (p : Pair) (ps : List Pair) (rs : List Receipt)
    (rest : List Receipt → Rc × List ℕ)
    → ((more : List Receipt) → IsBulkCode (rest more).0)
    → IsBulkCode (pair_told asks p ps rs rest).0
pair_code End p ps rs rest later = inl refl
pair_code Refused p ps rs rest later = inr (inl refl)
pair_code (Remove entry test) p ps [] rest later = inr (inr refl)
pair_code (Remove entry test) p ps (r ∷ rs) rest later = answered_code p r ps (rest rs) (later rs)

told_code : (order : ℕ) (ps : List Pair) (rs : List Receipt) → IsBulkCode (bulk_told order ps rs).0
unfolding bulk_told
told_code order [] rs = inl refl
told_code order (p ∷ ps) rs =
    pair_code (asked_by order p) p ps rs (bulk_told order ps) (told_code order ps)

pub bulk_code :
    (order : ℕ) (words : List ℕ) (reply : HReply)
    → IsReplyOf (h_bulk_remove_plan order words) reply
    → IsBulkCode reply.rc
unfolding h_bulk_remove_plan
bulk_code order words reply is =
    subst IsBulkCode (sym (ap (λ (x : Rc × List ℕ). x.0) is.told))
    (told_code order (pairs_of words) reply.receipts)
