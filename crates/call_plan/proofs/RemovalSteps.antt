-- What the receipts of a bulk removal tell, one pair after the other.
use Rattle.std.proofs.Common.{◌≡◌, ℕ, ◌+◌, ◌-◌, ◌*◌, ◌<◌, ◌≤◌, List, [], ◌∷◌, ◌++◌, true, false, length, drop, take, get_or, refl, ap, sym, ◌∙◌, arith, append_assoc}
use Rattle.std.proofs.lemmas.List.{drop_more, drop_all}
use Rattle.papr_codes.specs.declared.codes.Rc.{Rc}
use Rattle.entry_model.specs.declared.operation.Test.{Test}
use Rattle.entry_model.specs.declared.receipt.Receipt.{Receipt}
use Rattle.entry_model.specs.Receipt.{is_worn, blank_receipt}
use Rattle.call_plan.specs.declared.bulk.Asked.TheVariants.{End, Remove, Refused}
use Rattle.call_plan.specs.Bulk.{pairs_of, asked_by, bulk_told, response, status_of, worn_status, ill_formed, words_of_pairs}
use Rattle.call_plan.proofs.BulkSteps.{pair, told_of, after_words, words_from, asked_at, first_pair, unchanged-words_from, words_to_end, response_and_rest, goes_told, end_told, refused_told, worn_told}
use Rattle.papr_codes.specs.declared.codes.Rc.TheVariants as rc

-- ---- what the receipts tell
-- The words so far are those of the pairs before the i-th.
pub record IsToldSoFar (order i : ℕ) (pairs words : List ℕ) (rs : List Receipt) : Type 0 where
  pub told :
      told_of order pairs rs ≡ after_words words (told_of order (words_from i pairs) (drop i rs))

told_closes :
    (order i : ℕ) (pairs words : List ℕ) (rs : List Receipt) (code : Rc) (last : List ℕ)
    → IsToldSoFar order i pairs words rs
    → told_of order (words_from i pairs) (drop i rs) ≡ (code, last)
    → (code, words ++ last) ≡ told_of order pairs rs
told_closes order i pairs words rs code last so_far told =
    sym (so_far.told ∙ ap (after_words words) told)

missing_told :
    (order request word : ℕ) (later : List ℕ) (entry : ℕ) (test : Test)
    → asked_by order (pair request word) ≡ Remove entry test
    → told_of order (request ∷ word ∷ later) []
    ≡ (rc.Hardware, request ∷ word ∷ words_of_pairs (pairs_of later))
unfolding bulk_told
missing_told order request word later entry test asks = rw asks refl

-- The words from a pair on, as they were given.
rest_is :
    (i : ℕ) (pairs : List ℕ)
    → length pairs ≡ 8
    → i < 4
    → take (8 - 2 * i) (drop (2 * i) pairs)
    ≡ get_or pairs (2 * i) 0
    ∷ get_or pairs (2 * i + 1) 0
    ∷ words_of_pairs (pairs_of (words_from (i + 1) pairs))
rest_is i pairs eight h =
    words_to_end (2 * i) pairs eight
    ∙ first_pair i pairs eight h
    ∙ ap (λ ws. get_or pairs (2 * i) 0 ∷ get_or pairs (2 * i + 1) 0 ∷ ws)
    (sym (unchanged-words_from (i + 1) pairs eight))

pub tells_end :
    (order i : ℕ) (pairs words : List ℕ) (rs : List Receipt)
    → length pairs ≡ 8
    → i < 4
    → asked_at order i pairs ≡ End
    → IsToldSoFar order i pairs words rs
    → (rc.Success, words ++ take (8 - 2 * i) (drop (2 * i) pairs)) ≡ told_of order pairs rs
tells_end order i pairs words rs eight h asks so_far =
    ap (λ ws. (rc.Success, words ++ ws)) (rest_is i pairs eight h)
    ∙ told_closes order i pairs words rs rc.Success _ so_far
    (ap (λ ws. told_of order ws (drop i rs)) (first_pair i pairs eight h)
    ∙ end_told order _ _ _ (drop i rs) asks)

pub tells_refused :
    (order i : ℕ) (pairs words : List ℕ) (rs : List Receipt)
    → length pairs ≡ 8
    → i < 4
    → asked_at order i pairs ≡ Refused
    → IsToldSoFar order i pairs words rs
    → (
      rc.Parameter,
      (words ++ response ill_formed (get_or pairs (2 * i) 0) ∷ [])
          ++ take (8 - (2 * i + 1)) (drop (2 * i + 1) pairs),
    )
    ≡ told_of order pairs rs
tells_refused order i pairs words rs eight h asks so_far =
    ap (λ ws. (rc.Parameter, ws))
    (sym
    (response_and_rest i (response ill_formed (get_or pairs (2 * i) 0)) pairs words eight
    h))
    ∙ told_closes order i pairs words rs rc.Parameter _ so_far
    (ap (λ ws. told_of order ws (drop i rs)) (first_pair i pairs eight h)
    ∙ refused_told order _ _ _ (drop i rs) asks)

pub tells_missing :
    (order i : ℕ) (pairs words : List ℕ) (rs : List Receipt) (entry : ℕ) (test : Test)
    → length pairs ≡ 8
    → i < 4
    → asked_at order i pairs ≡ Remove entry test
    → length rs ≤ i
    → IsToldSoFar order i pairs words rs
    → (rc.Hardware, words ++ take (8 - 2 * i) (drop (2 * i) pairs)) ≡ told_of order pairs rs
tells_missing order i pairs words rs entry test eight h asks none so_far =
    ap (λ ws. (rc.Hardware, words ++ ws)) (rest_is i pairs eight h)
    ∙ told_closes order i pairs words rs rc.Hardware _ so_far
    ((λ k. told_of order (first_pair i pairs eight h k) (drop_all i rs none k))
    ∙ missing_told order _ _ _ entry test asks)

pub tells_worn :
    (order i : ℕ) (pairs words : List ℕ) (rs : List Receipt) (entry : ℕ) (test : Test) (r : Receipt)
    → length pairs ≡ 8
    → i < 4
    → asked_at order i pairs ≡ Remove entry test
    → i < length rs
    → r ≡ get_or rs i blank_receipt
    → is_worn r.answer ≡ true
    → IsToldSoFar order i pairs words rs
    → (
      rc.Hardware,
      (words ++ response worn_status (get_or pairs (2 * i) 0) ∷ [])
          ++ take (8 - (2 * i + 1)) (drop (2 * i + 1) pairs),
    )
    ≡ told_of order pairs rs
tells_worn order i pairs words rs entry test r eight h asks inside is worn so_far =
    let next : drop i rs ≡ r ∷ drop (i + 1) rs = drop_more rs i blank_receipt inside ∙ ap
    (λ x. x ∷ drop (i + 1) rs) (sym is) in
    ap (λ ws. (rc.Hardware, ws))
    (sym
    (response_and_rest i (response worn_status (get_or pairs (2 * i) 0)) pairs words eight
    h))
    ∙ told_closes order i pairs words rs rc.Hardware _ so_far
    ((λ k. told_of order (first_pair i pairs eight h k) (next k))
    ∙ worn_told order _ _ _ entry test r (drop (i + 1) rs) asks worn)

pub tells_all :
    (order i : ℕ) (pairs words : List ℕ) (rs : List Receipt)
    → length pairs ≡ 8
    → 4 ≤ i
    → IsToldSoFar order i pairs words rs
    → (rc.Success, words ++ []) ≡ told_of order pairs rs
unfolding bulk_told
tells_all order i pairs words rs eight past so_far =
    told_closes order i pairs words rs rc.Success [] so_far
    (ap (λ ws. told_of order ws (drop i rs)) (drop_all (2 * i) pairs (omega arith)))

pub tells_more :
    (order i : ℕ) (pairs words : List ℕ) (rs : List Receipt) (entry : ℕ) (test : Test) (r : Receipt)
    → length pairs ≡ 8
    → i < 4
    → asked_at order i pairs ≡ Remove entry test
    → i < length rs
    → r ≡ get_or rs i blank_receipt
    → is_worn r.answer ≡ false
    → IsToldSoFar order i pairs words rs
    → IsToldSoFar order (i + 1) pairs
    ((words ++ response (status_of r.answer r.before) (get_or pairs (2 * i) 0) ∷ [])
    ++ get_or pairs (2 * i + 1) 0
    ∷ []) rs
tells_more order i pairs words rs entry test r eight h asks inside is goes so_far =
    let answer = response (status_of r.answer r.before) (get_or pairs (2 * i) 0) in
    let word = get_or pairs (2 * i + 1) 0 in
    let rest = told_of order (words_from (i + 1) pairs) (drop (i + 1) rs) in
    let next : drop i rs ≡ r ∷ drop (i + 1) rs = drop_more rs i blank_receipt inside ∙ ap
    (λ x. x ∷ drop (i + 1) rs) (sym is) in
    let one : told_of order (words_from i pairs) (drop i rs) ≡ (rest.0, answer ∷ word ∷ rest.1) =
    (λ k. told_of order (first_pair i pairs eight h k) (next k)) ∙ goes_told order _ _ _ entry
    test r (drop (i + 1) rs) asks goes in
    let regrouped : words ++ (answer ∷ word ∷ rest.1) ≡ ((words ++ answer ∷ []) ++ word ∷ []) ++
    rest.1 = sym
    (append_assoc (words ++ answer ∷ []) (word ∷ []) rest.1
    ∙ append_assoc words (answer ∷ []) (word ∷ rest.1)) in
    record { told = so_far.told ∙ ap (after_words words) one ∙ λ k. (rest.0, regrouped k) }
