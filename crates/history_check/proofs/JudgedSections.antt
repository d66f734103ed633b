-- The judge's loop: where it stands between two sections, and what each of its ends says of the
-- whole text.
use Rattle.std.proofs.Common.{◌≡◌, ℕ, zero, suc, ◌+◌, ◌<◌, ◌≤◌, List, [], ◌∷◌, ◌++◌, true, false, ap, sym, ◌∙◌, refl, subst, length, arith, append-nil, zero-add, ◌⊎◌, inl, inr}
use Rattle.std.specs.Prelude.{if◌then◌else◌, nat_le}
use Rattle.std.proofs.lemmas.List.{length-append}
use Rattle.std.proofs.lemmas.List.Sums.{sum_by-cons}
use Rattle.std.proofs.lemmas.Bool.{cases_Bool, le-leb, leb-true, lt-leb}
use Rattle.trace_line.specs.declared.line.TraceLine.{TraceLine}
use Rattle.trace_line.specs.Lines.{is_quiet, most_lines, AreOnProcessors, count_acts}
use Rattle.trace_read.specs.Trace.{AcceptedTrace, IsAccepted}
use Rattle.trace_reply.specs.declared.reply.Reply.{Reply}
use Rattle.trace_reply.specs.Replies.{RepliedLine, IsOfKind, lines_with_replies}
use Rattle.reply_text.specs.Text.{reply_text, text_of}
use Rattle.hpt_resize.specs.TableMemory.{opening_memory}
use Rattle.run_model.specs.Stores.{page_table}
use Rattle.run_model.specs.Sections.{section_end}
use Rattle.run_model.specs.AllStores.{AllStores, opening_all}
use Rattle.basics.proofs.Each.{each_front, each_back}
use Rattle.run_model.proofs.SerialGood.{quiet_kind, opening_processors}
use Rattle.history_check.specs.declared.verdict.Verdict.TheVariants as verdicts
use Rattle.history_check.specs.Verdict.{lines_to, trace_to, section_count, BeginsGood, IsGoodText, SectionStands, IsVerdict}
use Rattle.run_model.specs.Quiet.{NoneQuiet}
use Rattle.history_check.specs.FoundStores.{stores_behind, run_quiet_on, AreFound}
use Rattle.history_check.proofs.EarlierSections.{fronts_stand}
use Rattle.history_check.proofs.GoodStores.{next_size, good_parts}
use Rattle.history_check.proofs.ShortStores.{ArePlainStores, quiet_stores_plain, opening_stores_plain}
use Rattle.history_check.proofs.BySection.{Explains, Reaches, next_run, next_reply, good_explained, begins_explained, explained_begins, found_once, reaches_first, reaches_next, none_found, reached_stands, lines_all, last_in, last_out}

-- ---- lines up to a quiet one
-- Cut twice, they are cut at the nearer.
lines_to_twice :
    (j k : ℕ) (ls : List TraceLine) → j ≤ k → lines_to j (lines_to k ls) ≡ lines_to j ls
lines_to_twice zero k ls low = refl
lines_to_twice (suc j) zero ls low = absurd (omega (arith, low))
lines_to_twice (suc j) (suc k) [] low = refl
lines_to_twice (suc j) (suc k) (l ∷ ls) low =
    at (cases_Bool (is_quiet l.act)) (lines_to_twice j k ls (omega arith))
    (lines_to_twice (suc j) (suc k) ls low) where
      at :
          (is_quiet l.act ≡ true) ⊎ (is_quiet l.act ≡ false)
          → lines_to j (lines_to k ls) ≡ lines_to j ls
          → lines_to (suc j) (lines_to (suc k) ls) ≡ lines_to (suc j) ls
          → lines_to (suc j) (lines_to (suc k) (l ∷ ls)) ≡ lines_to (suc j) (l ∷ ls)
      at (inl q) here more = rw q (ap (λ z. l ∷ z) here)
      at (inr q) here more = rw q (ap (λ z. l ∷ z) more)

quiet_counts :
    (l : TraceLine) (ls : List TraceLine)
    → is_quiet l.act ≡ true
    → count_acts is_quiet (l ∷ ls) ≡ 1 + count_acts is_quiet ls
quiet_counts l ls q =
    sum_by-cons (λ (x : TraceLine). if is_quiet x.act then 1 else 0) l ls ∙ rw q refl

quiet_skips :
    (l : TraceLine) (ls : List TraceLine)
    → is_quiet l.act ≡ false
    → count_acts is_quiet (l ∷ ls) ≡ count_acts is_quiet ls
quiet_skips l ls q =
    sum_by-cons (λ (x : TraceLine). if is_quiet x.act then 1 else 0) l ls
    ∙ rw q (zero-add (count_acts is_quiet ls))

-- All, where they have no more quiet ones.
lines_to_end : (k : ℕ) (ls : List TraceLine) → count_acts is_quiet ls ≤ k → lines_to (suc k) ls ≡ ls
lines_to_end k [] few = refl
lines_to_end k (l ∷ ls) few =
    at k few (cases_Bool (is_quiet l.act)) (λ j less. lines_to_end j ls less) where
      at :
          (k : ℕ)
          → count_acts is_quiet (l ∷ ls) ≤ k
          → (is_quiet l.act ≡ true) ⊎ (is_quiet l.act ≡ false)
          → ((j : ℕ) → count_acts is_quiet ls ≤ j → lines_to (suc j) ls ≡ ls)
          → lines_to (suc k) (l ∷ ls) ≡ l ∷ ls
      at k h (inr q) more = rw q (ap (λ z. l ∷ z) (more k (omega (arith, h, quiet_skips l ls q))))
      at zero h (inl q) more = absurd (omega (arith, h, quiet_counts l ls q))
      at (suc k) h (inl q) more =
          rw q (ap (λ z. l ∷ z) (more k (omega (arith, h, quiet_counts l ls q))))

quiet_plain_lines : (ms : List TraceLine) → NoneQuiet ms → count_acts is_quiet ms ≡ 0
quiet_plain_lines [] h = refl
quiet_plain_lines (m ∷ ms) h = quiet_skips m ms h.0 ∙ quiet_plain_lines ms h.1

quiet_behind :
    (ms : List TraceLine) (l : TraceLine) (ns : List TraceLine)
    → NoneQuiet ms
    → is_quiet l.act ≡ true
    → count_acts is_quiet (ms ++ l ∷ ns) ≡ 1 + count_acts is_quiet ns
quiet_behind [] l ns h q = quiet_counts l ns q
quiet_behind (m ∷ ms) l ns h q = quiet_skips m (ms ++ l ∷ ns) h.0 ∙ quiet_behind ms l ns h.1 q

-- ---- verdicts
-- Where the text begins with the lines to a quiet one, all sections before it stand.
stand_before :
    (t : AcceptedTrace) (text : List ℕ) (k j : ℕ)
    → BeginsGood (trace_to k t) text
    → 1 ≤ j
    → j ≤ k
    → j ≤ section_count t
    → SectionStands t text j
stand_before t text k j b low high few =
    let front : BeginsGood (trace_to j (trace_to k t)) text = fronts_stand (trace_to k t) text j low
    b in
    rw (le-leb j (section_count t) few)
    (subst (λ ls. BeginsGood (record { config = t.config; lines = ls }) text)
    (lines_to_twice j k t.lines high) front)

bad_next :
    (t : AcceptedTrace) (text : List ℕ) (k : ℕ)
    → BeginsGood (trace_to k t) text
    → k + 1 ≤ section_count t
    → (BeginsGood (trace_to (k + 1) t) text → ⊥)
    → IsVerdict t text (verdicts.Bad (k + 1))
bad_next t text k b few none = (
  omega arith,
  omega arith,
  (λ j low less. stand_before t text k j b low (omega arith) (omega arith)),
  (λ s. none (rw (le-leb (k + 1) (section_count t) few) at s)),
)

-- ---- where the loop stands
-- After k quiet lines the judge's loop has these stores, lines and text before it: what explains
-- them explains the text from its start, and stores and lines keep their limits.
pub record AtSection (t : AcceptedTrace) (text : List ℕ) (k : ℕ) (w : AllStores)
    (ns : List TraceLine) (y : List ℕ) :
    Type 0 where
  pub reached : Reaches t text k w ns y
  pub plain : ArePlainStores w
  pub cpus : AreOnProcessors (length w.table.processors) ns
  pub count : k + count_acts is_quiet ns ≡ count_acts is_quiet t.lines
  pub few : length ns ≤ most_lines

pub at_first :
    (t : AcceptedTrace) (text : List ℕ)
    → IsAccepted t
    → AtSection t text 0 (opening_all t.config) t.lines text
at_first t text is = record {
  reached = reaches_first t text;
  plain = opening_stores_plain t is;
  cpus = subst (λ n. AreOnProcessors n t.lines) (sym (opening_processors t)) is.lines.on_cpus;
  count = omega arith;
  few = is.lines.few;
}

-- The first lines' processors.
pub front_cpus :
    (t : AcceptedTrace) (text : List ℕ) (k : ℕ) (w : AllStores) (ms : List TraceLine)
    (l : TraceLine) (ns : List TraceLine) (x : List ℕ)
    → AtSection t text k w (ms ++ l ∷ ns) x
    → AreOnProcessors (length w.table.processors) ms
front_cpus t text k w ms l ns x h =
    each_front (λ (m : TraceLine). m.cpu < length w.table.processors) ms (l ∷ ns) h.cpus

-- How many they are.
pub front_few :
    (t : AcceptedTrace) (text : List ℕ) (k : ℕ) (w : AllStores) (ms : List TraceLine)
    (l : TraceLine) (ns : List TraceLine) (x : List ℕ)
    → AtSection t text k w (ms ++ l ∷ ns) x
    → length ms ≤ most_lines
front_few t text k w ms l ns x h = omega (arith, h.few, length-append ms (l ∷ ns))

pub few_standing :
    (t : AcceptedTrace) (text : List ℕ) (k : ℕ) (w : AllStores) (ns : List TraceLine) (x : List ℕ)
    → IsAccepted t
    → AtSection t text k w ns x
    → k ≤ 256
few_standing t text k w ns x is h = omega (arith, h.count, is.lines.few_quiet)

-- A section leaves the table's number.
pub number_stays :
    (w : AllStores) (ts : List RepliedLine)
    → (stores_behind w ts).table.memory.table.number ≡ w.table.memory.table.number
unfolding section_end
number_stays w ts = refl

pub first_number : (t : AcceptedTrace) → (opening_all t.config).table.memory.table.number ≡ 0
unfolding page_table opening_memory
first_number t = refl

-- ---- a section and its quiet line
module _ (t : AcceptedTrace) (text : List ℕ) (k : ℕ) (w : AllStores) (ms : List TraceLine)
    (l : TraceLine) (ns : List TraceLine) (x : List ℕ) (h : AtSection t text k w (ms ++ l ∷ ns) x)
    (plain : NoneQuiet ms) (quiet : is_quiet l.act ≡ true) where
  front : AreOnProcessors (length w.table.processors) ms
  front = front_cpus t text k w ms l ns x h

  few : k + 1 ≤ section_count t
  few = let one :
      count_acts is_quiet (ms ++ l ∷ ns) ≡ 1 + count_acts is_quiet ns =
      quiet_behind ms l ns plain quiet in omega (arith, one, h.count)

  pub at_next :
      (rs : List Reply) (r : Reply) (rest y : List ℕ) (v u : AllStores)
      → AreFound w ms x rs rest
      → v ≡ stores_behind w (lines_with_replies ms rs)
      → (r, u) ≡ run_quiet_on v l.act
      → rest ≡ reply_text l r ++ y
      → AtSection t text (k + 1) u ns y
  at_next rs r rest y v u f closed replied told =
      let both : (r, u) ≡ run_quiet_on (stores_behind w (lines_with_replies ms rs)) l.act = replied
      ∙ ap (λ z. run_quiet_on z l.act) closed in
      let reply : r ≡ next_reply w ms rs l = ap (λ z. z.0) both in
      let after : next_run w ms rs l ≡ u = sym (ap (λ z. z.1) both) in
      let kind : IsOfKind l.act r = subst (IsOfKind l.act) (sym reply)
      (quiet_kind (stores_behind w (lines_with_replies ms rs)).table l.act quiet) in
      let found : AreFound w ms x rs (reply_text l r ++ y) = subst (AreFound w ms x rs) told f in
      let stays : ArePlainStores (stores_behind w (lines_with_replies ms rs)) =
      (found_once w ms x rs rs rest rest h.plain plain front f f).2 in
      let size : length (next_run w ms rs l).table.processors ≡ length w.table.processors =
      next_size w (lines_with_replies ms rs) l.act in
      subst (λ z. AtSection t text (k + 1) z ns y) after (record {
        reached =
            reaches_next t text k w ms l ns x rs r y h.plain plain front quiet kind found reply
            h.reached;
        plain = quiet_stores_plain (stores_behind w (lines_with_replies ms rs)) l.act stays;
        cpus =
            subst (λ n. AreOnProcessors n ns) (sym size)
            (each_back (λ (m : TraceLine). m.cpu < length w.table.processors) ms (l ∷ ns)
            h.cpus).1;
        count = omega (arith, quiet_behind ms l ns plain quiet, h.count);
        few = omega (arith, h.few, length-append ms (l ∷ ns));
      })

  fails :
      ((rs : List Reply) (r : Reply) (y : List ℕ)
      → AreFound w ms x rs (reply_text l r ++ y)
      → r ≡ next_reply w ms rs l
      → ⊥)
      → IsVerdict t text (verdicts.Bad (k + 1))
  fails none =
      bad_next t text k (reached_stands t text k w (ms ++ l ∷ ns) x h.reached) few
      (none_found t text k w ms l ns x plain quiet none h.reached)

  -- The section isn't found.
  pub no_section :
      ((rs : List Reply) (rest : List ℕ) → AreFound w ms x rs rest → ⊥)
      → IsVerdict t text (verdicts.Bad (k + 1))
  no_section none = fails (λ rs r y f said. none rs (reply_text l r ++ y) f)

  -- The quiet line's reply doesn't follow.
  pub no_reply :
      (rs : List Reply) (r : Reply) (rest : List ℕ) (v u : AllStores)
      → AreFound w ms x rs rest
      → v ≡ stores_behind w (lines_with_replies ms rs)
      → (r, u) ≡ run_quiet_on v l.act
      → ((y : List ℕ) → rest ≡ reply_text l r ++ y → ⊥)
      → IsVerdict t text (verdicts.Bad (k + 1))
  no_reply rs r rest v u f closed replied none =
      fails
      (λ qs q y g said.
      other qs q y said
      (found_once w ms x rs qs rest (reply_text l q ++ y) h.plain plain front f g)) where
        other :
            (qs : List Reply) (q : Reply) (y : List ℕ)
            → q ≡ next_reply w ms qs l
            → (rs ≡ qs)
            × (rest ≡ reply_text l q ++ y)
            × ArePlainStores (stores_behind w (lines_with_replies ms rs))
            → ⊥
        other qs q y said one =
            let both : (r, u) ≡ run_quiet_on (stores_behind w (lines_with_replies ms rs)) l.act =
            replied ∙ ap (λ z. run_quiet_on z l.act) closed in
            let reply : r ≡ q = ap (λ z. z.0) both ∙ ap (λ z. next_reply w ms z l) one.0 ∙ sym said
            in
            none y (one.1 ∙ ap (λ z. reply_text l z ++ y) (sym reply))

-- ---- the last section
module _ (t : AcceptedTrace) (text : List ℕ) (k : ℕ) (w : AllStores) (ms : List TraceLine)
    (x : List ℕ) (h : AtSection t text k w ms x) (plain : NoneQuiet ms) where
  last : section_count t ≡ k + 1
  last = let none :
      count_acts is_quiet ms ≡ 0 = quiet_plain_lines ms plain in omega (arith, none, h.count)

  -- What explains the whole text explains the rest, and the other way round.
  from_whole :
      (rest : List ℕ)
      → Explains (opening_all t.config) (lines_to (k + 1) t.lines) text rest
      → Explains w ms x rest
  from_whole rest e =
      subst (λ ls. Explains w ls x rest) (lines_all 0 ms plain) ((h.reached 1 rest).0 e)

  to_whole :
      (rest : List ℕ)
      → Explains w ms x rest
      → Explains (opening_all t.config) (lines_to (k + 1) t.lines) text rest
  to_whole rest e =
      (h.reached 1 rest).1 (subst (λ ls. Explains w ls x rest) (sym (lines_all 0 ms plain)) e)

  all_lines : lines_to (k + 1) t.lines ≡ t.lines
  all_lines =
      let next : k + 1 ≡ suc k = omega arith in
      let count : count_acts is_quiet t.lines ≤ k = omega (arith, last) in
      subst (λ n. lines_to n t.lines ≡ t.lines) (sym next) (lines_to_end k t.lines count)

  begins :
      (rs : List Reply) (rest : List ℕ)
      → AreFound w ms x rs rest
      → BeginsGood (trace_to (k + 1) t) text
  begins rs rest f =
      explained_begins (k + 1) t text rest (to_whole rest (last_in w ms x rs rest plain f))

  -- Where no replies to the last section are found, that section is bad.
  pub no_last :
      ((rs : List Reply) (rest : List ℕ) → AreFound w ms x rs rest → ⊥)
      → IsVerdict t text (verdicts.Bad (k + 1))
  no_last none =
      bad_next t text k (reached_stands t text k w ms x h.reached) (omega (arith, last))
      (λ b.
      let found = last_out w ms x b.1 plain
      (from_whole b.1 (begins_explained (k + 1) t text b)) in
      none found.0 b.1 found.1)

  -- Where replies to the last section are found and no text follows them, the text is good.
  pub last_ends :
      (rs : List Reply) (rest : List ℕ)
      → AreFound w ms x rs rest
      → rest ≡ []
      → IsVerdict t text verdicts.Good
  last_ends rs rest f none j low high = at (cases_Bool (nat_le j (section_count t))) where
    whole : Explains (opening_all t.config) t.lines text []
    whole =
        subst (λ ls. Explains (opening_all t.config) ls text []) all_lines
        (to_whole [] (last_in w ms x rs [] plain (subst (λ z. AreFound w ms x rs z) none f)))

    good : IsGoodText t text
    good = (whole.0, good_parts t whole.0 whole.1 whole.2, whole.3 ∙ append-nil (text_of t whole.0))

    at :
        (nat_le j (section_count t) ≡ true) ⊎ (nat_le j (section_count t) ≡ false)
        → SectionStands t text j
    at (inl e) =
        let within : j ≤ section_count t = leb-true j (section_count t) e in
        stand_before t text (k + 1) j (begins rs rest f) low (omega (arith, last, within)) within
    at (inr e) = rw e good

  -- Where more text follows the replies to the last section, the section past the last is bad.
  pub last_goes_on :
      (rs : List Reply) (rest : List ℕ)
      → AreFound w ms x rs rest
      → (rest ≡ [] → ⊥)
      → IsVerdict t text (verdicts.Bad (k + 2))
  last_goes_on rs rest f more = (
    omega arith,
    omega (arith, last),
    (λ j low less.
        stand_before t text (k + 1) j (begins rs rest f) low (omega arith) (omega (arith, last))),
    (λ s. ended (past s)),
  ) where
    past : SectionStands t text (k + 2) → IsGoodText t text
    past s = let beyond :
        nat_le (k + 2) (section_count t) ≡ false =
        lt-leb (k + 2) (section_count t) (omega (arith, last)) in rw beyond at s

    ended : IsGoodText t text → ⊥
    ended g =
        let whole : Explains (opening_all t.config) t.lines text [] = good_explained t g.0 text []
        g.1 (g.2 ∙ sym (append-nil (text_of t g.0))) in
        let found = last_out w ms x [] plain
        (from_whole []
        (subst (λ ls. Explains (opening_all t.config) ls text []) (sym all_lines) whole))
        in
        more (found_once w ms x rs found.0 rest [] h.plain plain h.cpus f found.1).1
