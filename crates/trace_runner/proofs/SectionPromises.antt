-- The lines of a section on one store, from what the calls that run them promise.
use Rattle.std.specs.Prelude.{IsSomeAnd, IfSome, ◌≢◌}
use Rattle.std.proofs.Common.{◌≡◌, ℕ, zero, suc, ◌+◌, ◌-◌, ◌*◌, ◌^◌, ◌<◌, ◌≤◌, List, [], ◌∷◌, ◌++◌, length, map, take, drop, get_or, ap, sym, ◌∙◌, refl, subst, inl, inr, true, false, eqb, arith, Option, Some, None}
use Rattle.std.specs.List.{AllByRecursion}
use Rattle.std.proofs.lemmas.List.{length-map}
use Rattle.entry_model.specs.State.{State}
use Rattle.entry_model.specs.declared.line.Line.{Line}
use Rattle.entry_model.specs.Run.{state_at}
use Rattle.entry_model.specs.History.{pair_of, bits}
use Rattle.entry_model.specs.Fronts.{front_at, opening_fronts, IsGone}
use Rattle.entry_lock.specs.declared.table.LockTable.{LockTable}
use Rattle.entry_lock.specs.declared.table.Pass.{Pass}
use Rattle.entry_lock.specs.PassOfTable.{IsOf}
use Rattle.run_model.specs.StoreContexts.{StoreContext}
use Rattle.tlb_model.specs.Processor.{Processor}
use Rattle.trace_line.specs.declared.line.TraceLine.{TraceLine}
use Rattle.trace_reply.specs.declared.reply.Reply.{Reply}
use Rattle.trace_reply.specs.Replies.{RepliedLine, AreReplies}
use Rattle.run_model.specs.Histories.{lines_of_processor}
use Rattle.run_model.specs.ParallelRun.{RunsApart}
use Rattle.run_model.specs.Sections.{processors_after_lines}
use Rattle.run_model.proofs.LinesByProcessor.{own_yes, own_processors}
use Rattle.run_model.proofs.SerialParallel.{bits_few}
use Rattle.run_model.proofs.SectionGood.{section_legal}
use Rattle.trace_runner.specs.declared.worker.Worker.{Worker}
use Rattle.run_model.specs.HeldLines.{AllHold}
use Rattle.trace_runner.specs.Workers.{Keeping, lines_of_cpu, count_with_lines, processors_before, HasRun, IsDone, AreDone, AllNumbered}
use Rattle.trace_runner.specs.SectionRun.{HasNoOtherPass, pass_count, RanTogether}
use Rattle.trace_runner.specs.StoreRuns.{AllKeep, HavePicked, RanStore, section_on}
use Rattle.trace_runner.proofs.Numbered.{all_weaker, all_plain, all_both, all_picked}
use Rattle.trace_runner.proofs.CountedWorkers.{some_worker}
use Rattle.trace_runner.proofs.ProcessorWork.{DoneWith, IsPart, done_with, all_hold, passes_counted}
use Rattle.trace_runner.proofs.SectionWork.{own_parts, listed_inside, after_parts, ran_apart}
use Rattle.trace_runner.proofs.NewWorkers.{holds_inside}

-- ---- a list whose first part was overwritten
pub refilled :
    {A : Type 0} (n : ℕ) (new old : List A)
    → n ≡ length old
    → length new ≡ length old
    → take n (new ++ drop (length new) old) ≡ new
refilled n new old count same =
    subst (λ m. take m (new ++ drop (length new) old) ≡ new) (same ∙ sym count)
    (at new (drop (length new) old)) where
      at : {B : Type 0} (xs ys : List B) → take (length xs) (xs ++ ys) ≡ xs
      at [] ys = refl
      at (x ∷ xs) ys = ap (λ l. x ∷ l) (at xs ys)

-- ---- each that ran
some_if :
    {A : Type 0} (o : Option A) (P Q : A → Type 0)
    → ((x : A) → P x → Q x)
    → IsSomeAnd o P
    → IfSome o Q
some_if None P Q f h = absurd h
some_if (Some x) P Q f h = f x h

done_pass :
    {L : Type 0} (keeps : Keeping L) (set : StoreContext) (table : LockTable)
    (lines : List TraceLine) (j : ℕ) (w : Worker L)
    → IsDone keeps set table j lines w
    → HasNoOtherPass table w
done_pass keeps set table lines j w (inl idle) =
    subst (λ (o : Option Pass). IfSome o (λ pass. IsOf table pass × (pass.shares ≡ 1)))
    (sym idle.no_pass) tt
done_pass keeps set table lines j w (inr ended) =
    some_if w.pass (HasRun set table j lines ended.replies w)
    (λ pass. IsOf table pass × (pass.shares ≡ 1)) (λ p run. (run.of, run.share)) ended.run

pub done_passes :
    {L : Type 0} (keeps : Keeping L) (set : StoreContext) (table : LockTable)
    (lines : List TraceLine) (ws : List (Worker L))
    → AreDone keeps set table lines ws
    → AllByRecursion (HasNoOtherPass table) ws
done_passes keeps set table lines ws h =
    all_plain (λ j w. IsDone keeps set table j lines w) (HasNoOtherPass table) 0 ws
    (done_pass keeps set table lines) h

pub workers_count :
    {L : Type 0} (ws : List (Worker L)) (processors : List Processor)
    → processors_before ws ≡ processors
    → length ws ≡ length processors
workers_count {L = L} ws processors e =
    sym (length-map ws (λ (w : Worker L). w.before.value)) ∙ ap length e

pub not_empty : (lines : List TraceLine) → eqb (length lines) 0 ≡ false → lines ≢ []
not_empty [] h e = absurd (let clash : true ≡ false = h in cc)
not_empty (l ∷ ls) h e = cc

-- As many processors have a pass as have a line.
pub passes_are :
    {L : Type 0} (keeps : Keeping L) (set : StoreContext) (table : LockTable)
    (lines : List TraceLine) (ws : List (Worker L))
    → AreDone keeps set table lines ws
    → pass_count ws ≡ count_with_lines (length ws) 0 lines
passes_are keeps set table lines ws done =
    passes_counted keeps set table lines [] (λ j. []) 0 ws done

-- ---- the logs
-- For each worker that is done the replies are picked that its log keeps.
pub record Picks {L : Type 0} (keeps : Keeping L) (set : StoreContext) (table : LockTable)
    (lines : List TraceLine) (ws : List (Worker L)) :
    Type 0 where
  pub picks : ℕ → List Reply
  pub each : AllNumbered (λ j w. DoneWith keeps set table lines j (picks j) w) 0 ws
  pub keep : AllKeep keeps lines picks (map (λ w. w.log) ws)

log_kinds :
    {L : Type 0} (keeps : Keeping L) (set : StoreContext) (table : LockTable)
    (lines : List TraceLine) (picks : ℕ → List Reply) (n : ℕ) (ws : List (Worker L))
    → AllNumbered (λ j w. DoneWith keeps set table lines j (picks j) w) n ws
    → (k : ℕ)
    → k < length (map (λ (w : Worker L). w.log) ws)
    → AreReplies (lines_of_cpu (n + k) lines) (picks (n + k))
log_kinds keeps set table lines picks n [] h k low = absurd (omega (arith, low))
log_kinds keeps set table lines picks n (w ∷ ws) h zero low = let e :
    n ≡ n + 0 = omega arith in subst (λ m. AreReplies (lines_of_cpu m lines) (picks m)) e h.0.kinds
log_kinds keeps set table lines picks n (w ∷ ws) h (suc k) low = let e :
    suc n + k ≡ n + suc k =
    omega arith in subst (λ m. AreReplies (lines_of_cpu m lines) (picks m)) e
    (log_kinds keeps set table lines picks (suc n) ws h.1 k (omega (arith, low)))

log_kept :
    {L : Type 0} (keeps : Keeping L) (set : StoreContext) (table : LockTable)
    (lines : List TraceLine) (picks : ℕ → List Reply) (n : ℕ) (ws : List (Worker L))
    → AllNumbered (λ j w. DoneWith keeps set table lines j (picks j) w) n ws
    → (k : ℕ) (d : L)
    → k < length (map (λ (w : Worker L). w.log) ws)
    → keeps (get_or (map (λ (w : Worker L). w.log) ws) k d) (lines_of_cpu (n + k) lines)
    (picks (n + k))
log_kept keeps set table lines picks n [] h k d low = absurd (omega (arith, low))
log_kept keeps set table lines picks n (w ∷ ws) h zero d low = let e :
    n ≡ n + 0 = omega arith in subst (λ m. keeps w.log (lines_of_cpu m lines) (picks m)) e h.0.kept
log_kept {L = L} keeps set table lines picks n (w ∷ ws) h (suc k) d low = let e :
    suc n + k ≡ n + suc k =
    omega arith in subst
    (λ m.
    keeps (get_or (map (λ (w : Worker L). w.log) ws) k d) (lines_of_cpu m lines) (picks m))
    e (log_kept keeps set table lines picks (suc n) ws h.1 k d (omega (arith, low)))

pub picks_of :
    {L : Type 0} (keeps : Keeping L) (set : StoreContext) (table : LockTable)
    (lines : List TraceLine) (ws : List (Worker L))
    → AllByRecursion (λ (l : TraceLine). l.cpu < length ws) lines
    → AreDone keeps set table lines ws
    → Picks keeps set table lines ws
picks_of {L = L} keeps set table lines ws on_cpus done =
    let P : ℕ → List Reply → Worker L → Type 0 = λ j rs w. DoneWith keeps set table lines j rs w in
    let picked = all_picked P [] 0 ws
    (all_weaker (λ j w. IsDone keeps set table j lines w) (λ j w. (rs : List Reply) × P j rs w)
    0 ws (done_with keeps set table lines) done) in
    record {
      picks = picked.pick;
      each = picked.all;
      keep = record {
        cpus =
            subst (λ n. AllByRecursion (λ (l : TraceLine). l.cpu < n) lines)
            (sym (length-map ws (λ (w : Worker L). w.log))) on_cpus;
        kinds =
            λ cpu low.
            let e : 0 + cpu ≡ cpu = omega arith in
            subst (λ m. AreReplies (lines_of_cpu m lines) (picked.pick m)) e
            (log_kinds keeps set table lines picked.pick 0 ws picked.all cpu low);
        kept =
            λ cpu d low.
            let e : 0 + cpu ≡ cpu = omega arith in
            subst
            (λ m.
            keeps (get_or (map (λ (w : Worker L). w.log) ws) cpu d) (lines_of_cpu m lines)
            (picked.pick m)) e
            (log_kept keeps set table lines picked.pick 0 ws picked.all cpu d low);
      };
    }

pub together_anew :
    {L : Type 0} (keeps : Keeping L) (set : StoreContext) (table : LockTable)
    (lines : List TraceLine) (ws : List (Worker L)) (a b : List Processor) (e f : List L)
    (states : List State)
    → a ≡ []
    → e ≡ []
    → RanTogether keeps set table lines ws a b e f states
    → RanTogether keeps set table lines ws [] b [] f states
together_anew {L = L} keeps set table lines ws a b e f states no_cpus no_logs t =
    subst (λ (z : List Processor). RanTogether keeps set table lines ws z b [] f states) no_cpus
    (subst (λ (z : List L). RanTogether keeps set table lines ws a b z f states) no_logs t)

-- ---- the store
-- What the calls that run the lines on a store promise.
pub record Promised {L : Type 0} (keeps : Keeping L) (set : StoreContext) (opening : List State)
    (processors : List Processor) (table : LockTable) (lines : List TraceLine)
    (ws : List (Worker L)) (cpus : List Processor) (logs : List L) (states : List State) :
    Type 0 where
  pub is : table.opening.items ≡ opening
  pub before : processors_before ws ≡ processors
  pub some : lines ≢ []
  pub on_cpus : AllByRecursion (λ (l : TraceLine). l.cpu < length processors) lines
  pub together : RanTogether keeps set table lines ws [] cpus [] logs states

module _ {L : Type 0} (keeps : Keeping L) (set : StoreContext) (opening : List State)
    (processors : List Processor) (table : LockTable) (lines : List TraceLine)
    (ws : List (Worker L)) (cpus : List Processor) (logs : List L) (states : List State)
    (p : Promised keeps set opening processors table lines ws cpus logs states) where
  abbrev ran : List (Worker L)
  ran = p.together.ran

  before : processors_before ran ≡ processors
  before = p.together.before ∙ p.before

  on : AllByRecursion (λ (l : TraceLine). l.cpu < length ran) lines
  on =
      subst (λ n. AllByRecursion (λ (l : TraceLine). l.cpu < n) lines)
      (sym (workers_count ran processors before)) p.on_cpus

  picked : Picks keeps set table lines ran
  picked = picks_of keeps set table lines ran on p.together.done

  parts :
      (ts : List RepliedLine)
      → HavePicked lines picked.picks ts
      → AllNumbered (IsPart keeps set table lines ts picked.picks) 0 ran
  parts ts own =
      all_both (λ j x. DoneWith keeps set table lines j (picked.picks j) x) _ 0 ran picked.each
      (own_parts lines picked.picks ts ran own)

  pub store_ran : RanStore keeps set opening processors lines states cpus logs
  store_ran =
      let t = p.together in
      let passes : 0 < pass_count ran = omega (
        arith,
        passes_are keeps set table lines ran t.done,
        some_worker (length ran) lines p.some on,
      ) in (
        picked.picks,
        record {
          keep =
              subst (λ (ls : List L). AllKeep keeps lines picked.picks ls) (sym t.logs) picked.keep;
          apart =
              λ ts own.
              ran_apart keeps set opening processors table lines picked.picks ts ran t.pass states
              p.is passes before on own (parts ts own) t.joined t.closes;
          after =
              λ ts own.
              t.cpus
              ∙ after_parts keeps set opening processors table lines picked.picks ts ran before
              (parts ts own);
        },
      )

  pub store_size : length states ≡ length opening
  store_size = p.together.closes.size ∙ ap length p.is

  pub store_cpus : length cpus ≡ length processors
  store_cpus =
      ap length p.together.cpus
      ∙ length-map ran (λ (w : Worker L). w.cpu)
      ∙ workers_count ran processors before

  pub store_holds : length table.opening.items ≡ 2 ^ (table.order - 4) → AllHold states cpus
  store_holds size =
      let t = p.together in
      let held : AllHold states (map (λ (w : Worker L). w.cpu) ran) = all_hold keeps set table lines
      [] picked.picks states 0 ran picked.each
      (λ line inside any.
      t.closes.seen line (subst (λ n. line.entry < n) (sym size) inside)
      (t.joined.seen table.opening.items line any))
      (λ line holds.
      t.closes.seen line (holds_inside table.opening.items line holds) (inr holds)) in
      rw t.cpus held

-- ---- a store with no line

front_of : (a : List State) (e : ℕ) → front_at (opening_fronts a) e ≤ pair_of (state_at a e)
unfolding pair_of
front_of [] e = omega arith
front_of (s ∷ a) zero = omega arith
front_of (s ∷ a) (suc e) = front_of a e

gone_at :
    (a : List State) (line : Line)
    → IsGone (opening_fronts a) line
    → line.stamp < (state_at a line.entry).stamp
unfolding pair_of
gone_at a line gone =
    let s = state_at a line.entry in
    let few : bits s ≤ 2 = bits_few s.referenced s.changed in
    let high : (line.stamp + 1) * 4 ≤ s.stamp * 4 + bits s = omega
    (arith, gone, front_of a line.entry) in
    omega (arith, few, high)

none_apart :
    (set : StoreContext) (opening : List State) (processors : List Processor)
    → RunsApart (section_on set opening processors []) opening
none_apart set opening processors = record {
  fronts = λ cpu. opening_fronts opening;
  work = λ cpu. refl;
  closed = record {
    size = refl;
    legal = record {
      in_table = listed_inside (length opening) (length processors) 0 [] (λ k low. tt);
      legal =
          λ entry low. section_legal (section_on set opening processors []) opening tt refl entry;
    };
    gone = λ cpu line gone. gone_at opening line gone;
  };
  quiet = tt;
}

none_own : (ts : List RepliedLine) → ((cpu : ℕ) → lines_of_processor cpu ts ≡ []) → ts ≡ []
none_own [] h = refl
none_own (t ∷ ts) h =
    absurd
    (let clash : t ∷ lines_of_processor t.line.cpu ts ≡ [] = sym (own_yes t.line.cpu t ts refl)
    ∙ h t.line.cpu in
    cc)

pub store_idle :
    {L : Type 0} (keeps : Keeping L) (set : StoreContext) (opening : List State)
    (processors : List Processor)
    → RanStore keeps set opening processors [] opening processors []
store_idle keeps set opening processors = (
  λ cpu. [],
  record {
    keep =
        record {
          cpus = tt;
          kinds = λ cpu low. absurd (omega (arith, low));
          kept = λ cpu d low. absurd (omega (arith, low));
        };
    apart =
        λ ts own.
        subst (λ us. RunsApart (section_on set opening processors us) opening)
        (sym (none_own ts own)) (none_apart set opening processors);
    after =
        λ ts own.
        subst (λ us. processors ≡ processors_after_lines 0 processors us) (sym (none_own ts own))
        (sym (own_processors processors [] tt));
  },
)
