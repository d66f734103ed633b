-- Lines in file order, and the lines of each processor by themselves.
use Rattle.std.proofs.Common.{◌≡◌, ℕ, zero, suc, ◌<◌, ◌≤◌, ◌+◌, List, [], ◌∷◌, ◌++◌, true, false, ap, sym, ◌∙◌, refl, subst, ◌⊎◌, inl, inr, get_or, set, length, length-set, arith, eqb, append_assoc}
use Rattle.std.specs.List.{AllByRecursion}
use Rattle.std.proofs.lemmas.Bool.{cases_Bool, eq-eqb, eqb-true, eqb-false}
use Rattle.std.proofs.lemmas.List.{get_or-set_same, get_or-set_other}
use Rattle.entry_model.specs.declared.receipt.Receipt.{Receipt}
use Rattle.entry_model.specs.History.{Regrouped, nothing, kept, swapped, twice}
use Rattle.entry_model.proofs.Regroup.{regrouped_self}
use Rattle.trace_reply.specs.Replies.{RepliedLine, receipts_in}
use Rattle.tlb_model.specs.Processor.{Processor, new_processor}
use Rattle.run_model.specs.Processors.{processor_at, processor_after, processors_after, processors_behind}
use Rattle.run_model.specs.Histories.{lines_of_processor, receipts_by, receipts_from_processor}
use Rattle.run_model.specs.Sections.{processor_after_lines, processors_after_lines}
use Rattle.run_model.specs.GoodRun.{EachLineOfProcessor}
use Rattle.entry_model.proofs.Logged.{regrouped_before}

-- each line's processor is one of n
abbrev pub Cpus : ℕ → List RepliedLine → Type 0
Cpus n ts = AllByRecursion (λ (t : RepliedLine). t.line.cpu < n) ts

pub own_yes :
    (c : ℕ) (t : RepliedLine) (ts : List RepliedLine)
    → t.line.cpu ≡ c
    → lines_of_processor c (t ∷ ts) ≡ t ∷ lines_of_processor c ts
own_yes c t ts e = rw (eq-eqb t.line.cpu c e) refl

pub own_no :
    (c : ℕ) (t : RepliedLine) (ts : List RepliedLine)
    → eqb t.line.cpu c ≡ false
    → lines_of_processor c (t ∷ ts) ≡ lines_of_processor c ts
own_no c t ts e = rw e refl

pub differs : (a b : ℕ) → a < b → eqb a b ≡ false
differs a b h = at (cases_Bool (eqb a b)) where
  at : (eqb a b ≡ true) ⊎ (eqb a b ≡ false) → eqb a b ≡ false
  at (inl e) = let same : a ≡ b = eqb-true a b e in absurd (omega arith)
  at (inr e) = e

-- ---- processors
pub processor_own :
    (processors : List Processor) (t : RepliedLine)
    → t.line.cpu < length processors
    → processor_at (processors_after processors t) t.line.cpu
    ≡ processor_after (processor_at processors t.line.cpu) t.line.act t.reply
processor_own processors t h = get_or-set_same processors t.line.cpu _ new_processor h

pub processor_other :
    (processors : List Processor) (t : RepliedLine) (c : ℕ)
    → eqb t.line.cpu c ≡ false
    → processor_at (processors_after processors t) c ≡ processor_at processors c
processor_other processors t c h =
    get_or-set_other processors t.line.cpu c _ new_processor
    (λ same. eqb-false t.line.cpu c h (sym same))

pub processors_size :
    (processors : List Processor) (t : RepliedLine)
    → length (processors_after processors t) ≡ length processors
processors_size processors t = length-set processors t.line.cpu _

pub cpus_after :
    (processors : List Processor) (t : RepliedLine) (ts : List RepliedLine)
    → Cpus (length processors) ts
    → Cpus (length (processors_after processors t)) ts
cpus_after processors t ts h = subst (λ n. Cpus n ts) (sym (processors_size processors t)) h

-- ---- facts of each line, in file order
-- A fact of each line and of its processor, which is as the lines before it in the file left it.
abbrev pub InFileOrder :
    (Processor → RepliedLine → Type 0) → List Processor → List RepliedLine → Type 0
InFileOrder P processors [] = Unit {0}
InFileOrder P processors (t ∷ ts) =
    P (processor_at processors t.line.cpu) t × InFileOrder P (processors_after processors t) ts

-- With one line more each processor's own lines have the fact still.
own_step :
    (P : Processor → RepliedLine → Type 0) (processors : List Processor) (t : RepliedLine)
    (ts : List RepliedLine) (c : ℕ)
    → t.line.cpu < length processors
    → P (processor_at processors t.line.cpu) t
    → EachLineOfProcessor P (processor_at (processors_after processors t) c)
    (lines_of_processor c ts)
    → EachLineOfProcessor P (processor_at processors c) (lines_of_processor c (t ∷ ts))
own_step P processors t ts c within here rest = at (cases_Bool (eqb t.line.cpu c)) where
  at :
      (eqb t.line.cpu c ≡ true) ⊎ (eqb t.line.cpu c ≡ false)
      → EachLineOfProcessor P (processor_at processors c) (lines_of_processor c (t ∷ ts))
  at (inl own) =
      let e : t.line.cpu ≡ c = eqb-true t.line.cpu c own in
      let rest' : EachLineOfProcessor P (processor_at (processors_after processors t) t.line.cpu)
      (lines_of_processor c ts) = subst
      (λ k.
      EachLineOfProcessor P (processor_at (processors_after processors t) k)
      (lines_of_processor c ts)) (sym e) rest in
      let both : EachLineOfProcessor P (processor_at processors t.line.cpu)
      (t ∷ lines_of_processor c ts) = (
        here,
        subst (λ s. EachLineOfProcessor P s (lines_of_processor c ts))
            (processor_own processors t within) rest',
      ) in
      subst (λ l. EachLineOfProcessor P (processor_at processors c) l) (sym (own_yes c t ts e))
      (subst
      (λ k.
      EachLineOfProcessor P (processor_at processors k) (t ∷ lines_of_processor c ts)) e
      both)
  at (inr other) =
      subst (λ l. EachLineOfProcessor P (processor_at processors c) l) (sym (own_no c t ts other))
      (subst (λ s. EachLineOfProcessor P s (lines_of_processor c ts))
      (processor_other processors t c other) rest)

pub own_lines :
    (P : Processor → RepliedLine → Type 0) (processors : List Processor) (ts : List RepliedLine)
    (c : ℕ)
    → Cpus (length processors) ts
    → InFileOrder P processors ts
    → EachLineOfProcessor P (processor_at processors c) (lines_of_processor c ts)
own_lines P processors [] c within h = tt
own_lines P processors (t ∷ ts) c within h =
    own_step P processors t ts c within.0 h.0
    (own_lines P (processors_after processors t) ts c (cpus_after processors t ts within.1) h.1)

-- Without its first line the rest has the fact still.
back_rest :
    (P : Processor → RepliedLine → Type 0) (processors : List Processor) (t : RepliedLine)
    (ts : List RepliedLine) (c : ℕ)
    → t.line.cpu < length processors
    → EachLineOfProcessor P (processor_at processors c) (lines_of_processor c (t ∷ ts))
    → EachLineOfProcessor P (processor_at (processors_after processors t) c)
    (lines_of_processor c ts)
back_rest P processors t ts c within h = at (cases_Bool (eqb t.line.cpu c)) where
  at :
      (eqb t.line.cpu c ≡ true) ⊎ (eqb t.line.cpu c ≡ false)
      → EachLineOfProcessor P (processor_at (processors_after processors t) c)
      (lines_of_processor c ts)
  at (inl own) =
      let e : t.line.cpu ≡ c = eqb-true t.line.cpu c own in
      let h' : EachLineOfProcessor P (processor_at processors c) (t ∷ lines_of_processor c ts) =
      subst (λ l. EachLineOfProcessor P (processor_at processors c) l) (own_yes c t ts e) h in
      let k : EachLineOfProcessor P
      (processor_after (processor_at processors t.line.cpu) t.line.act t.reply)
      (lines_of_processor c ts) = subst
      (λ k.
      EachLineOfProcessor P (processor_after (processor_at processors k) t.line.act t.reply)
      (lines_of_processor c ts)) (sym e) h'.1 in
      subst
      (λ k.
      EachLineOfProcessor P (processor_at (processors_after processors t) k)
      (lines_of_processor c ts)) e
      (subst (λ s. EachLineOfProcessor P s (lines_of_processor c ts))
      (sym (processor_own processors t within)) k)
  at (inr other) =
      subst (λ s. EachLineOfProcessor P s (lines_of_processor c ts))
      (sym (processor_other processors t c other))
      (subst (λ l. EachLineOfProcessor P (processor_at processors c) l) (own_no c t ts other) h)

pub file_lines :
    (P : Processor → RepliedLine → Type 0) (processors : List Processor) (ts : List RepliedLine)
    → Cpus (length processors) ts
    → ((c : ℕ) → EachLineOfProcessor P (processor_at processors c) (lines_of_processor c ts))
    → InFileOrder P processors ts
file_lines P processors [] within h = tt
file_lines P processors (t ∷ ts) within h =
    let first : EachLineOfProcessor P (processor_at processors t.line.cpu)
    (t ∷ lines_of_processor t.line.cpu ts) = subst
    (λ l. EachLineOfProcessor P (processor_at processors t.line.cpu) l)
    (own_yes t.line.cpu t ts refl) (h t.line.cpu) in (
      first.0,
      file_lines P (processors_after processors t) ts (cpus_after processors t ts within.1)
          (λ c. back_rest P processors t ts c within.0 (h c)),
    )

-- ---- all processors after all lines
skip_processors :
    (c : ℕ) (ss : List Processor) (t : RepliedLine) (ts : List RepliedLine)
    → t.line.cpu < c
    → processors_after_lines c ss (t ∷ ts) ≡ processors_after_lines c ss ts
skip_processors c [] t ts h = refl
skip_processors c (s ∷ ss) t ts h =
    (λ i.
    processor_after_lines s (own_no c t ts (differs t.line.cpu c h) i)
    ∷ skip_processors (suc c) ss t ts (omega arith) i)

front_processors :
    (c i : ℕ) (ss : List Processor) (t : RepliedLine) (ts : List RepliedLine)
    → t.line.cpu ≡ c + i
    → i < length ss
    → processors_after_lines c
    (set ss i (processor_after (get_or ss i new_processor) t.line.act t.reply)) ts
    ≡ processors_after_lines c ss (t ∷ ts)
front_processors c i [] t ts e h = refl
front_processors c zero (s ∷ ss) t ts e h =
    let here : t.line.cpu ≡ c = omega arith in
    let head : processor_after_lines (processor_after s t.line.act t.reply)
    (lines_of_processor c ts) ≡ processor_after_lines s (lines_of_processor c (t ∷ ts)) = ap
    (processor_after_lines s) (sym (own_yes c t ts here)) in
    let tail : processors_after_lines (suc c) ss ts ≡ processors_after_lines (suc c) ss (t ∷ ts) =
    sym (skip_processors (suc c) ss t ts (omega arith)) in
    λ j. head j ∷ tail j
front_processors c (suc i) (s ∷ ss) t ts e h =
    let there : eqb c t.line.cpu ≡ false = differs c t.line.cpu (omega arith) in
    let there' : eqb t.line.cpu c ≡ false = flipped t.line.cpu c (omega arith) in
    let head : processor_after_lines s (lines_of_processor c ts) ≡ processor_after_lines s
    (lines_of_processor c (t ∷ ts)) = ap (processor_after_lines s) (sym (own_no c t ts there'))
    in
    let tail : processors_after_lines (suc c)
    (set ss i (processor_after (get_or ss i new_processor) t.line.act t.reply)) ts ≡
    processors_after_lines (suc c) ss (t ∷ ts) = front_processors (suc c) i ss t ts
    (omega arith) (omega arith) in
    λ j. head j ∷ tail j
  where
    flipped : (a b : ℕ) → b < a → eqb a b ≡ false
    flipped a b h = at (cases_Bool (eqb a b)) where
      at : (eqb a b ≡ true) ⊎ (eqb a b ≡ false) → eqb a b ≡ false
      at (inl e) = let same : a ≡ b = eqb-true a b e in absurd (omega arith)
      at (inr e) = e

none_processors : (c : ℕ) (ss : List Processor) → processors_after_lines c ss [] ≡ ss
none_processors c [] = refl
none_processors c (s ∷ ss) = ap (λ l. s ∷ l) (none_processors (suc c) ss)

pub own_processors :
    (processors : List Processor) (ts : List RepliedLine)
    → Cpus (length processors) ts
    → processors_after_lines 0 processors ts ≡ processors_behind processors ts
own_processors processors [] h = none_processors 0 processors
own_processors processors (t ∷ ts) h =
    sym (front_processors 0 t.line.cpu processors t ts (omega arith) h.0)
    ∙ own_processors (processors_after processors t) ts (cpus_after processors t ts h.1)

-- ---- all receipts
swap_one : (x : Receipt) (ys zs : List Receipt) → Regrouped (x ∷ (ys ++ zs)) (ys ++ (x ∷ zs))
swap_one x [] zs = regrouped_self (x ∷ zs)
swap_one x (y ∷ ys) zs = twice (swapped x y (ys ++ zs)) (kept y (swap_one x ys zs))

swap_blocks : (xs ys zs : List Receipt) → Regrouped (xs ++ (ys ++ zs)) (ys ++ (xs ++ zs))
swap_blocks [] ys zs = regrouped_self (ys ++ zs)
swap_blocks (x ∷ xs) ys zs = twice (kept x (swap_blocks xs ys zs)) (swap_one x ys (xs ++ zs))

skip_listed :
    (n c : ℕ) (t : RepliedLine) (ts : List RepliedLine)
    → t.line.cpu < c
    → receipts_from_processor n c (t ∷ ts) ≡ receipts_from_processor n c ts
skip_listed zero c t ts h = refl
skip_listed (suc n) c t ts h =
    λ i.
    receipts_by (own_no c t ts (differs t.line.cpu c h) i)
    ++ skip_listed n (suc c) t ts (omega arith) i

above : (a b : ℕ) → b ≤ a → eqb a b ≡ false → suc b ≤ a
above a b h e = let differ : a ≡ b → ⊥ = eqb-false a b e in omega arith

front_listed :
    (n c : ℕ) (t : RepliedLine) (ts : List RepliedLine)
    → c ≤ t.line.cpu
    → t.line.cpu < c + n
    → Regrouped (receipts_in t.reply ++ receipts_from_processor n c ts)
    (receipts_from_processor n c (t ∷ ts))
front_listed zero c t ts low high = absurd (omega arith)
front_listed (suc n) c t ts low high =
    at (cases_Bool (eqb t.line.cpu c)) (λ l h. front_listed n (suc c) t ts l h) where
      at :
          (eqb t.line.cpu c ≡ true) ⊎ (eqb t.line.cpu c ≡ false)
          →
          (suc c ≤ t.line.cpu
          → t.line.cpu < suc c + n
          → Regrouped (receipts_in t.reply ++ receipts_from_processor n (suc c) ts)
          (receipts_from_processor n (suc c) (t ∷ ts)))
          → Regrouped (receipts_in t.reply ++ receipts_from_processor (suc n) c ts)
          (receipts_from_processor (suc n) c (t ∷ ts))
      at (inl own) rest =
          let e : t.line.cpu ≡ c = eqb-true t.line.cpu c own in
          let here :
          receipts_by (lines_of_processor c (t ∷ ts)) ≡ receipts_in t.reply ++ receipts_by
          (lines_of_processor c ts) = ap receipts_by (own_yes c t ts e) in
          let there :
          receipts_from_processor n (suc c) (t ∷ ts) ≡ receipts_from_processor n (suc c) ts
          = skip_listed n (suc c) t ts (omega arith) in
          let whole : receipts_from_processor (suc n) c (t ∷ ts) ≡ receipts_in t.reply ++
          receipts_from_processor (suc n) c ts = (λ i. here i ++ there i) ∙ append_assoc
          (receipts_in t.reply) (receipts_by (lines_of_processor c ts))
          (receipts_from_processor n (suc c) ts) in
          subst (λ l. Regrouped (receipts_in t.reply ++ receipts_from_processor (suc n) c ts) l)
          (sym whole) (regrouped_self (receipts_in t.reply ++ receipts_from_processor (suc n) c ts))
      at (inr other) rest =
          let more : suc c ≤ t.line.cpu = above t.line.cpu c low other in
          let here :
          receipts_by (lines_of_processor c (t ∷ ts)) ≡ receipts_by (lines_of_processor c ts)
          = ap receipts_by (own_no c t ts other) in
          let r = twice
          (swap_blocks (receipts_in t.reply) (receipts_by (lines_of_processor c ts))
          (receipts_from_processor n (suc c) ts))
          (regrouped_before (receipts_by (lines_of_processor c ts)) (rest more (omega arith))) in
          subst
          (λ l.
          Regrouped (receipts_in t.reply ++ receipts_from_processor (suc n) c ts)
          (l ++ receipts_from_processor n (suc c) (t ∷ ts))) (sym here) r

none_listed : (n c : ℕ) → receipts_from_processor n c [] ≡ []
none_listed zero c = refl
none_listed (suc n) c = none_listed n (suc c)

-- all receipts in file order are all receipts by processor, in another order
pub file_listed :
    (n : ℕ) (ts : List RepliedLine)
    → Cpus n ts
    → Regrouped (receipts_by ts) (receipts_from_processor n 0 ts)
file_listed n [] h = subst (λ l. Regrouped [] l) (sym (none_listed n 0)) nothing
file_listed n (t ∷ ts) h =
    twice (regrouped_before (receipts_in t.reply) (file_listed n ts h.1))
    (front_listed n 0 t ts (omega arith) (omega (arith, h.0)))
