-- A bulk removal, one pair after the other, with its words and receipts in the caller's slots.
use Rattle.std.specs.Prelude.{map, ◌||◌}
use Rattle.std.proofs.Common.{◌≡◌, ℕ, ◌+◌, ◌-◌, ◌*◌, ◌<◌, ◌≤◌, List, [], ◌∷◌, ◌++◌, length, take, drop, set, get_or, min, Bool, true, false, arith, refl, sym, ap, ◌∙◌, length-set, length-drop}
use Rattle.std.proofs.lemmas.List.{length-append, take_all, length_push, take_more, length-take-le, get_or-drop}
use Rattle.papr_codes.specs.ReturnCodes.{rc_code}
use Rattle.papr_codes.specs.declared.codes.Rc.{Rc}
use Rattle.entry_model.specs.State.{State}
use Rattle.entry_model.specs.declared.operation.Test.{Test}
use Rattle.entry_model.specs.declared.operation.Op.TheVariants.{Remove}
use Rattle.entry_model.specs.declared.receipt.Receipt.{Receipt}
use Rattle.entry_model.specs.Receipt.{IsReceiptOf, receipt_of, is_worn}
use Rattle.entry_model.specs.Run.{state_at, states_after, IsRun}
use Rattle.entry_model.specs.Trial.{Plan, IsReplyOf}
use Rattle.entry_model.proofs.Runs.{run_more, run-length}
use Rattle.call_plan.specs.Bulk.{Pair, asked_by, response, status_of}
use Rattle.call_plan.specs.declared.bulk.Asked.TheVariants as asks
use Rattle.call_plan.proofs.BulkSteps.{IsSoFar, asked_at, asked_in_table, goes_on, words_to_end}
use Rattle.c_layout.specs.Slots.{filled, placed, shown_receipt}
use Rattle.c_layout.specs.Tables.{is_table}
use Rattle.c_layout.specs.Stale.{is_stale, any_stale}
use Rattle.c_layout.specs.declared.receipts.PaprReceipt.{PaprReceipt}
use Rattle.c_layout.specs.declared.reply.PaprReply.{PaprReply}
use Rattle.c_layout.proofs.Filling.{placed-append, placed_filled}
use Rattle.papr_c.specs.Calls.{LentMemory, memory, outcome_where}
use Rattle.papr_c.proofs.Outcomes.{call_is, table_whole}
use Rattle.papr_c.proofs.SoFar.{put_next}
use Rattle.std.proofs.Math.Bool.{or-false}
use Rattle.c_layout.proofs.Marks.{or_assoc}

-- ---- slots
-- One more item after those that were put.
pub put_more :
    {X : Type 0} (old now items : List X) (i : ℕ) (x : X)
    → now ≡ placed old 0 items
    → length items ≡ i
    → set now i x ≡ placed old 0 (items ++ x ∷ [])
put_more old now items i x is put =
    let at : 0 + length items ≡ i = omega (arith, put) in
    sym (placed-append items (x ∷ []) old 0 ∙ λ k. set (sym is k) (at k) x)

length-placed : {X : Type 0} (items old : List X) (i : ℕ) → length (placed old i items) ≡ length old
length-placed [] old i = refl
length-placed (x ∷ items) old i = length-placed items (set old i x) (i + 1) ∙ length-set old i x

-- The words of a list from one on.
pub rest_none :
    (first : ℕ) (pairs words : List ℕ)
    → words ≡ placed words first (take (first - first) (drop first pairs))
rest_none first pairs words = let none : first - first ≡ 0 = omega arith in rw none refl

pub rest_more :
    (first i : ℕ) (pairs words now : List ℕ) (d : ℕ)
    → length pairs ≡ 8
    → first ≤ i
    → i < 8
    → now ≡ placed words first (take (i - first) (drop first pairs))
    → set now i (get_or pairs i d)
    ≡ placed words first (take (i + 1 - first) (drop first pairs))
rest_more first i pairs words now d eight low below is =
    let rest = drop first pairs in
    let n = i - first in
    let long : length rest ≡ 8 - first = length-drop first pairs ∙ ap (λ m. m - first) eight in
    let next : i + 1 - first ≡ n + 1 = omega (arith, low) in
    let at : first + length (take n rest) ≡ i =
    omega (arith, length-take-le n rest (omega (arith, long, low, below)), low) in
    let item : get_or rest n d ≡ get_or pairs i d =
    get_or-drop first pairs n d ∙ ap (λ k. get_or pairs k d) (omega (arith, low)) in
    sym
    (ap (λ k. placed words first (take k rest)) next
    ∙ ap (placed words first) (take_more rest n d (omega (arith, long, low, below)))
    ∙ placed-append (take n rest) (get_or rest n d ∷ []) words first
    ∙ (λ k. set (sym is k) (at k) (item k)))

pub rest_all :
    (first i : ℕ) (pairs words : List ℕ)
    → length pairs ≡ 8
    → 8 ≤ i
    → placed words first (take (i - first) (drop first pairs))
    ≡ placed words first (drop first pairs)
rest_all first i pairs words eight all =
    ap (placed words first)
    (take_all (i - first) (drop first pairs) (omega (arith, length-drop first pairs, eight, all)))

-- ---- whether a cached translation may no longer hold
pub stale_more :
    (rs : List Receipt) (r : Receipt)
    → (any_stale rs || is_stale r.answer) ≡ any_stale (rs ++ r ∷ [])
unfolding any_stale
stale_more [] r = sym (or-false (is_stale r.answer))
stale_more (x ∷ rs) r =
    or_assoc (is_stale x.answer) (any_stale rs) (is_stale r.answer)
    ∙ ap (λ b. is_stale x.answer || b) (stale_more rs r)

-- ---- the pairs so far
-- What they left, with the words and the receipts that they gave.
pub record IsRemoving (order i : ℕ) (pairs : List ℕ) (a b : List State) (words slots : List ℕ)
    (old new : List PaprReceipt) (stale : Bool) (told : List ℕ) (rs : List Receipt) :
    Type 0 where
  pub run : IsRun a rs b
  pub so_far : IsSoFar order i pairs told rs
  pub in_words : slots ≡ placed words 0 told
  pub long : length told ≡ 2 * i
  pub put : new ≡ placed old 0 (map shown_receipt rs)
  pub tried : length rs ≡ i
  pub told_stale : stale ≡ any_stale rs

pub starts :
    (order : ℕ) (pairs : List ℕ) (a : List State) (words : List ℕ) (old : List PaprReceipt)
    → IsRemoving order 0 pairs a a words words old old false [] []
unfolding any_stale
starts order pairs a words old = record {
  run = refl;
  so_far = record { trial = λ rs trial. trial; told = λ rs. refl };
  in_words = refl;
  long = refl;
  put = refl;
  tried = refl;
  told_stale = refl;
}

-- One entry more was asked.
pub run_one :
    (a b c : List State) (rs : List Receipt) (entry : ℕ) (test : Test) (r : Receipt)
    → IsRun a rs b
    → r ≡ receipt_of entry (state_at b entry) (Remove test)
    → entry < length b
    → c ≡ states_after b r
    → IsRun a (rs ++ r ∷ []) c
run_one a b c rs entry test r run is inside after =
    run_more a b c rs (r ∷ []) run (
      c,
      record {
        in_table = rw is inside;
        before = rw is refl;
        after = after;
      },
      refl,
    )

pub removes_more :
    (order i : ℕ) (pairs : List ℕ) (a b c : List State) (words slots first second : List ℕ)
    (old new next : List PaprReceipt) (stale : Bool) (told : List ℕ) (rs : List Receipt)
    (entry : ℕ) (test : Test) (r : Receipt) (answer word : ℕ)
    → length pairs ≡ 8
    → i < 4
    → asks.Remove entry test ≡ asked_at order i pairs
    → r ≡ receipt_of entry (state_at b entry) (Remove test)
    → entry < length b
    → is_worn r.answer ≡ false
    → answer ≡ response (status_of r.answer r.before) (get_or pairs (2 * i) 0)
    → word ≡ get_or pairs (2 * i + 1) 0
    → c ≡ states_after b r
    → first ≡ set slots (2 * i) answer
    → second ≡ set first (2 * i + 1) word
    → next ≡ set new i (shown_receipt r)
    → IsRemoving order i pairs a b words slots old new stale told rs
    → IsRemoving order (i + 1) pairs a c words second old next (stale || is_stale r.answer)
    ((told ++ answer ∷ []) ++ word ∷ []) (rs ++ r ∷ [])
removes_more order i pairs a b c words slots first second old new next stale told rs entry test r
    answer word eight h asked is inside goes answers wordly after put_answer put_word put_receipt
    so_far =
    let one : first ≡ placed words 0 (told ++ answer ∷ []) =
    put_answer ∙ put_more words slots told (2 * i) answer so_far.in_words so_far.long in
    let long_one : length (told ++ answer ∷ []) ≡ 2 * i + 1 =
    omega (arith, length_push told answer, so_far.long) in
    let two : second ≡ placed words 0 ((told ++ answer ∷ []) ++ word ∷ []) =
    put_word ∙ put_more words first (told ++ answer ∷ []) (2 * i + 1) word one long_one in
    let of : IsReceiptOf entry (Remove test) r = record { entry = rw is refl; op = rw is refl } in
    record {
      run = run_one a b c rs entry test r so_far.run is inside after;
      so_far =
          rw (answers, wordly)
          (goes_on order i pairs told rs entry test r eight h asked of goes so_far.so_far);
      in_words = two;
      long = omega (arith, length_push (told ++ answer ∷ []) word, long_one);
      put = put_receipt ∙ put_next old new i rs r so_far.put so_far.tried;
      tried = omega (arith, length_push rs r, so_far.tried);
      told_stale = ap (λ b. b || is_stale r.answer) so_far.told_stale ∙ stale_more rs r;
    }

-- What is asked for is an entry that was lent.
pub asked_inside :
    (order : ℕ) (a b : List State) (rs : List Receipt) (p : Pair) (entry : ℕ) (test : Test)
    → is_table order a ≡ true
    → IsRun a rs b
    → asked_by order p ≡ asks.Remove entry test
    → entry < length b
asked_inside order a b rs p entry test table run asked =
    let in_table = asked_in_table order p entry test asked in
    omega (arith, in_table, table_whole order a table, run-length a b rs run)

-- ---- the end
pub removal_ends :
    (fits : Bool) (plan : Plan) (m : LentMemory) (code : Rc) (pairs told : List ℕ)
    (rs : List Receipt) (first tried : ℕ) (stale : Bool) (slots words : List ℕ)
    (reply : PaprReply) (receipts : List PaprReceipt) (after : List State)
    → fits ≡ true
    → length pairs ≡ 8
    → first ≤ 8
    → IsReplyOf plan
    (record { rc = code; words = told ++ take (8 - first) (drop first pairs); receipts = rs })
    → IsRun m.entries rs after
    → slots ≡ placed m.words 0 told
    → length told ≡ first
    → words ≡ placed slots first (drop first pairs)
    → receipts ≡ placed m.receipts 0 (map shown_receipt rs)
    → length rs ≡ tried
    → stale ≡ any_stale rs
    → reply
    ≡ record {
      rc = rc_code code;
      words = min (length slots) 8;
      receipts = min (length m.receipts) tried;
      stale = stale;
    }
    → (reply, memory after words receipts) ≡ outcome_where fits plan m
removal_ends fits plan m code pairs told rs first tried stale slots words reply receipts after fit
    eight few is run put long rest in_receipts many told_stale replied =
    let all = told ++ take (8 - first) (drop first pairs) in
    let ends : take (8 - first) (drop first pairs) ≡ drop first pairs =
    words_to_end first pairs eight in
    let same : length slots ≡ length m.words =
    ap length put ∙ length-placed told m.words 0 in
    let whole : 8 ≡ length all =
    omega (
      arith,
      length-append told (take (8 - first) (drop first pairs)),
      ap length ends,
      length-drop first pairs,
      eight,
      long,
      few,
    ) in
    let at : 0 + length told ≡ first = omega (arith, long) in
    let in_words : words ≡ filled m.words all =
    rest
    ∙ (λ k. placed (put k) (sym at k) (sym ends k))
    ∙ sym (placed-append told (take (8 - first) (drop first pairs)) m.words 0)
    ∙ placed_filled all m.words in
    call_is fits plan m (record { rc = code; words = all }) rs reply words receipts m.entries after
    after fit is run refl
    (record {
      reply =
          replied
          ∙ λ k. record {
            rc = rc_code code;
            words = min (same k) (whole k);
            receipts = min (length m.receipts) (sym many k);
            stale = told_stale k;
          };
      in_words = in_words;
      in_receipts = in_receipts ∙ placed_filled (map shown_receipt rs) m.receipts;
    })
    refl
