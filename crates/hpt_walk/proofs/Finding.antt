-- On states that nobody else changes, a walk finds the first entry that the list of translations
-- pairs with the page.
use Rattle.std.specs.Prelude.{◌==◌, ◌&&◌, ◌||◌, if◌then◌else◌, map, find, option_map}
use Rattle.std.proofs.Common.{◌≡◌, ℕ, zero, suc, ◌+◌, ◌*◌, ◌/◌, ◌<◌, ◌≤◌, List, [], ◌∷◌, length, Bool, true, false, Option, Some, None, ap, sym, ◌∙◌, refl, subst, ◌⊎◌, inl, inr, arith, set, get_or}
use Rattle.std.specs.List.{AllByRecursion, range_with_len}
use Rattle.std.specs.Option.{option_map_or}
use Rattle.std.proofs.lemmas.Bool.{cases_Bool, eqb-true, eq-eqb}
use Rattle.std.proofs.lemmas.List.{set-get_or}
use Rattle.power_addr.specs.Pages.{VirtualPage, IsPage, tag_of, same_page}
use Rattle.hpt_hash.specs.Hash.{group_of}
use Rattle.hpt_hash.specs.Entries.{IsPageOf, page_at}
use Rattle.hpt_hash.proofs.PageLemmas.{page_at-sound, page_at-complete}
use Rattle.entry_model.specs.State.{State, empty_state}
use Rattle.entry_model.specs.declared.receipt.Receipt.{Receipt}
use Rattle.entry_model.specs.Reply.{is_match, answer_of_access, reply_of, AccessMode}
use Rattle.entry_model.specs.Receipt.{is_no_match, is_decided, after_of, IsReceiptOf, found_of}
use Rattle.entry_model.specs.Run.{IsRun, IsStep, state_at}
use Rattle.entry_model.specs.Trial.{Call, IsTrial, call}
use Rattle.power_addr.proofs.SamePages.{page_same, page_self}
use Rattle.entry_model.proofs.OperationLaws.{decided_match}
use Rattle.hpt_walk.specs.Walk.{access_op, h_bit, walk_calls, walk_entries}
use Rattle.hpt_walk.specs.Translations.{Translation, translations, translations_from, put_first, page_in, is_paired}
use Rattle.hpt_walk.specs.Laws.{IsEntryState}
use Rattle.hpt_walk.proofs.Found.{found-on, found-off}
use Rattle.hpt_walk.proofs.Decided.{match_of, no_match_or_decided}
use Rattle.hpt_walk.proofs.Telling.{match_page, page_match, valid_of_page}
use Rattle.hpte_fields.specs.TableSize.{least_order}
use Rattle.std.proofs.Math.Bool.{or-false, and-true, and-false}
use Rattle.basics.proofs.Each.{each_append, each_within}

-- ---- the list of translations
-- The page is this one.
abbrev pub is_this : VirtualPage → Option VirtualPage → Bool
is_this page o = option_map_or (λ (p : VirtualPage). same_page p page) o false

below-eqb : (m n : ℕ) → m < n → (n == m) ≡ false
below-eqb m n h = at (cases_Bool (n == m)) where
  at : ((n == m) ≡ true) ⊎ ((n == m) ≡ false) → (n == m) ≡ false
  at (inl same) = let e : n ≡ m = eqb-true n m same in absurd (omega arith)
  at (inr other) = other

above-eqb : (m n : ℕ) → n < m → (n == m) ≡ false
above-eqb m n h = at (cases_Bool (n == m)) where
  at : ((n == m) ≡ true) ⊎ ((n == m) ≡ false) → (n == m) ≡ false
  at (inl same) = let e : n ≡ m = eqb-true n m same in absurd (omega arith)
  at (inr other) = other

head_other :
    (page : VirtualPage) (k e : ℕ) (o : Option VirtualPage) (rest : List Translation)
    → (k == e) ≡ false
    → is_paired (put_first k o rest) page e ≡ is_paired rest page e
head_other page k e None rest other = refl
head_other page k e (Some p) rest other =
    ap (λ b. (same_page p page && b) || is_paired rest page e) other
    ∙ ap (λ b. b || is_paired rest page e) (and-false (same_page p page))

head_same :
    (page : VirtualPage) (k : ℕ) (o : Option VirtualPage) (rest : List Translation)
    → is_paired rest page k ≡ false
    → is_paired (put_first k o rest) page k ≡ is_this page o
head_same page k None rest none = none
head_same page k (Some p) rest none =
    ap (λ b. (same_page p page && b) || is_paired rest page k) (eq-eqb k k refl)
    ∙ ap (λ b. b || is_paired rest page k) (and-true (same_page p page))
    ∙ ap (λ b. same_page p page || b) none
    ∙ or-false (same_page p page)

below :
    (order : ℕ) (page : VirtualPage) (k e : ℕ) (ss : List State)
    → e < k
    → is_paired (translations_from order k ss) page e ≡ false
below order page k e [] h = refl
below order page k e (s ∷ ss) h =
    head_other page k e (page_in order k s) (translations_from order (k + 1) ss) (below-eqb e k h)
    ∙ below order page (k + 1) e ss (omega arith)

paired_at :
    (order : ℕ) (page : VirtualPage) (k i e : ℕ) (ss : List State)
    → e ≡ k + i
    → i < length ss
    → is_paired (translations_from order k ss) page e
    ≡ is_this page (page_in order e (get_or ss i (empty_state 0)))
paired_at order page k i e [] at h = absurd (omega arith)
paired_at order page k zero e (s ∷ ss) at h =
    let same : e ≡ k = omega arith in
    ap (is_paired (translations_from order k (s ∷ ss)) page) same
    ∙ head_same page k (page_in order k s) (translations_from order (k + 1) ss)
    (below order page (k + 1) k ss (omega arith))
    ∙ ap (λ n. is_this page (page_in order n s)) (sym same)
paired_at order page k (suc i) e (s ∷ ss) at h =
    let less : i < length ss = omega arith in
    head_other page k e (page_in order k s) (translations_from order (k + 1) ss)
    (above-eqb e k (omega arith))
    ∙ paired_at order page (k + 1) i e ss (omega arith) less

pub paired-in :
    (order : ℕ) (page : VirtualPage) (a : List State) (e : ℕ)
    → e < length a
    → is_paired (translations order a) page e ≡ is_this page (page_in order e (state_at a e))
unfolding translations
paired-in order page a e h = paired_at order page 0 e e a (omega arith) h

-- ---- the page of an entry
pub this_is : (page : VirtualPage) (o : Option VirtualPage) → is_this page o ≡ true → o ≡ Some page
this_is page None h = cc
this_is page (Some p) h = ap Some (page_same p page h)

page_at_of :
    (order e : ℕ) (page : VirtualPage) (s : State)
    → page_in order e s ≡ Some page
    → page_at order e s.dword0 s.dword1 ≡ Some page
page_at_of order e page s h = at (cases_Bool s.valid) where
  at : (s.valid ≡ true) ⊎ (s.valid ≡ false) → page_at order e s.dword0 s.dword1 ≡ Some page
  at (inl there) = rw there at h
  at (inr empty) = let none : None ≡ Some page = rw empty at h in cc

paired_page :
    (order e : ℕ) (page : VirtualPage) (s : State)
    → IsEntryState s
    → is_this page (page_in order e s) ≡ true
    → IsPageOf order e s.dword0 s.dword1 page
paired_page order e page s state h =
    (page_at-sound order e s.dword0 s.dword1 page state.fits
    (page_at_of order e page s (this_is page (page_in order e s) h))).1

page_paired :
    (order e : ℕ) (page : VirtualPage) (s : State)
    → least_order ≤ order
    → IsPage page
    → IsEntryState s
    → IsPageOf order e s.dword0 s.dword1 page
    → is_this page (page_in order e s) ≡ true
page_paired order e page s low is state of =
    let found : page_at order e s.dword0 s.dword1 ≡ Some page = page_at-complete order e s.dword0
    s.dword1 page low is of in
    ap (λ v. is_this page (if v then page_at order e s.dword0 s.dword1 else None))
    (valid_of_page order e page s state of)
    ∙ ap (is_this page) found
    ∙ page_self page

-- ---- one receipt
-- A call of a walk: on an entry of the group for its H.
abbrev IsCallOf : ℕ → VirtualPage → AccessMode → Call → Type 0
IsCallOf order page mode c =
    (secondary : Bool)
    × (c.op ≡ access_op page mode secondary)
    × (group_of page order secondary ≡ c.entry / 8)

answer_of :
    (page : VirtualPage) (mode : AccessMode) (secondary : Bool) (r : Receipt) (s : State)
    → r.op ≡ access_op page mode secondary
    → r.before ≡ s
    → (r.answer, after_of r)
    ≡ answer_of_access s (tag_of page + h_bit secondary + 1) page.shift mode
answer_of page mode secondary r s op before =
    ap (λ x. (x, after_of r)) r.lawful ∙ (λ i. reply_of (before i) (op i))

paired_found :
    (order : ℕ) (page : VirtualPage) (mode : AccessMode) (a : List State) (c : Call) (r : Receipt)
    (mid : List State)
    → least_order ≤ order
    → IsPage page
    → AllByRecursion IsEntryState a
    → IsCallOf order page mode c
    → IsReceiptOf c.entry c.op r
    → IsStep a r mid
    → is_no_match r.answer ≡ false
    → is_paired (translations order a) page c.entry ≡ true
paired_found order page mode a c r mid low is states of receipt step off =
    let s : State = state_at a c.entry in
    let within : c.entry < length a = subst (λ e. e < length a) receipt.entry step.in_table in
    let state : IsEntryState s = each_within IsEntryState a c.entry (empty_state 0) states within in
    let both = answer_of page mode of.0 r s (receipt.op ∙ of.1)
    (step.before ∙ ap (state_at a) receipt.entry) in
    let matching : is_match s (tag_of page + h_bit of.0 + 1) page.shift ≡ true = match_of s _ _ mode
    (ap (λ x. is_no_match x.0) (sym both) ∙ off) in
    paired-in order page a c.entry within
    ∙ page_paired order c.entry page s low is state
    (match_page order c.entry page of.0 s is of.2 state.fits matching)

unpaired_none :
    (order : ℕ) (page : VirtualPage) (mode : AccessMode) (a : List State) (c : Call) (r : Receipt)
    (mid : List State)
    → least_order ≤ order
    → IsPage page
    → AllByRecursion IsEntryState a
    → IsCallOf order page mode c
    → IsReceiptOf c.entry c.op r
    → IsStep a r mid
    → is_no_match r.answer ≡ true
    → (is_paired (translations order a) page c.entry ≡ false) × (mid ≡ a)
unpaired_none order page mode a c r mid low is states of receipt step on = (
  unpaired (cases_Bool (is_paired (translations order a) page c.entry)),
  stays (cases_Bool matching),
) where
  s : State
  s = state_at a c.entry

  tag : ℕ
  tag = tag_of page + h_bit of.0 + 1

  matching : Bool
  matching = is_match s tag page.shift

  within : c.entry < length a
  within = subst (λ e. e < length a) receipt.entry step.in_table

  state : IsEntryState s
  state = each_within IsEntryState a c.entry (empty_state 0) states within

  both : (r.answer, after_of r) ≡ answer_of_access s tag page.shift mode
  both =
      answer_of page mode of.0 r s (receipt.op ∙ of.1) (step.before ∙ ap (state_at a) receipt.entry)

  clash : matching ≡ true → ⊥
  clash same =
      no_match_or_decided r.answer on
      (ap (λ x. is_decided x.0) both ∙ decided_match s tag page.shift mode same)

  unpaired :
      (is_paired (translations order a) page c.entry ≡ true)
      ⊎ (is_paired (translations order a) page c.entry ≡ false)
      → is_paired (translations order a) page c.entry ≡ false
  unpaired (inl pairs) =
      absurd
      (clash
      (page_match order c.entry page of.0 s low of.2 state
      (paired_page order c.entry page s state
      (sym (paired-in order page a c.entry within) ∙ pairs))))
  unpaired (inr none) = none

  stays : (matching ≡ true) ⊎ (matching ≡ false) → mid ≡ a
  stays (inl same) = absurd (clash same)
  stays (inr differs) =
      let after : after_of r ≡ s = ap (λ x. x.1) both ∙ rw differs refl in
      step.after ∙ (λ i. set a (receipt.entry i) (after i)) ∙ set-get_or a c.entry (empty_state 0)

-- ---- the calls in turn
Finds : ℕ → VirtualPage → List State → List Call → List Receipt → Type 0
Finds order page a cs rs =
    option_map (λ (r : Receipt). r.entry) (found_of rs)
    ≡ find (is_paired (translations order a) page) (map (λ (c : Call). c.entry) cs)

finds :
    (order : ℕ) (page : VirtualPage) (mode : AccessMode) (a b : List State) (cs : List Call)
    (rs : List Receipt)
    → least_order ≤ order
    → IsPage page
    → AllByRecursion IsEntryState a
    → AllByRecursion (IsCallOf order page mode) cs
    → IsTrial is_no_match cs rs
    → IsRun a rs b
    → Finds order page a cs rs
unfolding Finds
finds order page mode a b [] [] low is states of s run = refl
finds order page mode a b [] (r ∷ rs) low is states of s run = absurd s
finds order page mode a b (c ∷ cs) [] low is states of s run = absurd s
finds order page mode a b (c ∷ cs) (r ∷ rs) low is states of s run =
    at (cases_Bool (is_no_match r.answer))
    (λ s' run'. finds order page mode a b cs rs low is states of.1 s' run') where
      paired : ℕ → Bool
      paired = is_paired (translations order a) page

      rest : Option ℕ
      rest = find paired (map (λ (x : Call). x.entry) cs)

      at :
          (is_no_match r.answer ≡ true) ⊎ (is_no_match r.answer ≡ false)
          → (IsTrial is_no_match cs rs → IsRun a rs b → Finds order page a cs rs)
          → option_map (λ (x : Receipt). x.entry) (found_of (r ∷ rs))
          ≡ (if paired c.entry then Some c.entry else rest)
      at (inl on) more =
          let facts = unpaired_none order page mode a c r run.0 low is states of.0 s.0 run.1 on in
          let after : Finds order page a cs rs = more (rw on at s.1)
          (subst (λ m. IsRun m rs b) facts.1 run.2) in
          ap (option_map (λ (x : Receipt). x.entry)) (found-on r rs on)
          ∙ after
          ∙ sym (ap (λ t. if t then Some c.entry else rest) facts.0)
      at (inr off) more =
          let fact = paired_found order page mode a c r run.0 low is states of.0 s.0 run.1 off in
          ap (option_map (λ (x : Receipt). x.entry)) (found-off r rs off)
          ∙ ap Some s.0.entry
          ∙ sym (ap (λ t. if t then Some c.entry else rest) fact)

-- ---- the calls of a walk
calls_of_group :
    (order : ℕ) (page : VirtualPage) (mode : AccessMode) (secondary : Bool) (first i n : ℕ)
    → first ≡ group_of page order secondary * 8 + i
    → i + n ≤ 8
    → AllByRecursion (IsCallOf order page mode)
    (map (call (access_op page mode secondary)) (range_with_len first n))
calls_of_group order page mode secondary first i zero at few = tt
calls_of_group order page mode secondary first i (suc n) at few = (
  (secondary, refl, omega arith),
  calls_of_group order page mode secondary (first + 1) (i + 1) n (omega arith) (omega arith),
)

calls_of_walk :
    (order : ℕ) (page : VirtualPage) (mode : AccessMode)
    → AllByRecursion (IsCallOf order page mode) (walk_calls order page mode)
unfolding walk_calls
calls_of_walk order page mode =
    each_append (IsCallOf order page mode)
    (map (call (access_op page mode false)) (range_with_len (group_of page order false * 8) 8))
    (map (call (access_op page mode true)) (range_with_len (group_of page order true * 8) 8))
    (calls_of_group order page mode false (group_of page order false * 8) 0 8 (omega arith)
    (omega arith))
    (calls_of_group order page mode true (group_of page order true * 8) 0 8 (omega arith)
    (omega arith))

entries_of_walk :
    (order : ℕ) (page : VirtualPage) (mode : AccessMode)
    → map (λ (c : Call). c.entry) (walk_calls order page mode) ≡ walk_entries order page
unfolding walk_calls walk_entries
entries_of_walk order page mode = refl

pub walk_finds :
    (order : ℕ) (page : VirtualPage) (mode : AccessMode) (a b : List State) (rs : List Receipt)
    → least_order ≤ order
    → IsPage page
    → AllByRecursion IsEntryState a
    → IsTrial is_no_match (walk_calls order page mode) rs
    → IsRun a rs b
    → option_map (λ (r : Receipt). r.entry) (found_of rs)
    ≡ find (is_paired (translations order a) page) (walk_entries order page)
unfolding Finds
walk_finds order page mode a b rs low is states s run =
    finds order page mode a b (walk_calls order page mode) rs low is states
    (calls_of_walk order page mode) s run
    ∙ ap (find (is_paired (translations order a) page)) (entries_of_walk order page mode)
