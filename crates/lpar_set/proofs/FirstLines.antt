-- The first lines of an accepted trace make one, so replies as of their serial run assure what it
-- does.
use Rattle.std.proofs.Common.{◌≡◌, refl, ap, sym, subst, ◌∙◌, map, ℕ, zero, suc, ◌<◌, ◌≤◌, List, [], ◌∷◌, Bool, true, false, take, length, ◌⊎◌, inl, inr, arith, length-take}
use Rattle.std.specs.Prelude.{cond, count_by}
use Rattle.std.specs.List.{AllByRecursion}
use Rattle.std.proofs.lemmas.Bool.{cases_Bool}
use Rattle.std.proofs.lemmas.List.Sums.{sum_by-take-le}
use Rattle.bus_window.specs.Windows.{BusWindow}
use Rattle.trace_line.specs.declared.line.TraceLine.{TraceLine}
use Rattle.trace_line.specs.Lines.{IsTrace, IsSpelt, is_quiet, is_dump, most_lines}
use Rattle.trace_read.specs.Trace.{AcceptedTrace, IsAccepted}
use Rattle.trace_reply.specs.declared.reply.Reply.{Reply}
use Rattle.trace_reply.specs.Replies.{AreReplies}
use Rattle.run_model.specs.Stores.{Store, page_table, opening_store}
use Rattle.run_model.specs.SerialRun.{run_on, replies_from, serial_replies}
use Rattle.run_model.specs.Assurances.{Assures}
use Rattle.run_model.proofs.GoodAssured.{serial_assures}
use Rattle.run_model.proofs.StoreSerial.{serial_good}
use Rattle.run_model.proofs.TableNamed.{opening_table}
use Rattle.lpar_set.specs.SetLaws.{is_no_mem, served, first_lines, without_place, RunsAsIfAlone}
use Rattle.lpar_set.proofs.OneStore.{replies_on, table_alone}
use Rattle.lpar_set.proofs.ErasedPlaces.{assured_like}

-- ---- the limits of a trace
pub each_take :
    {A : Type 0} (P : A → Type 0) (n : ℕ) (xs : List A)
    → AllByRecursion P xs
    → AllByRecursion P (take n xs)
each_take P zero xs h = tt
each_take P (suc n) [] h = tt
each_take P (suc n) (x ∷ xs) h = (h.0, each_take P n xs h.1)

pub count_take :
    {A : Type 0} (p : A → Bool) (n : ℕ) (xs : List A) → count_by p (take n xs) ≤ count_by p xs
count_take p n xs = sum_by-take-le (λ x. cond (p x) 1 0) xs n

pub first_accepted : (n : ℕ) (t : AcceptedTrace) → IsAccepted t → IsAccepted (first_lines n t)
first_accepted n t is =
    let few : length t.lines ≤ most_lines = is.lines.few in
    let few_quiet : count_by (λ (l : TraceLine). is_quiet l.act) t.lines ≤ 256 = is.lines.few_quiet
    in
    let few_dumps : count_by (λ (l : TraceLine). is_dump l.act) t.lines ≤ 16 = is.lines.few_dumps in
    let lines : IsTrace t.config.cpus (take n t.lines) = record {
      on_cpus = each_take (λ (l : TraceLine). l.cpu < t.config.cpus) n t.lines is.lines.on_cpus;
      spelt = each_take (λ (l : TraceLine). IsSpelt l.act) n t.lines is.lines.spelt;
      few = omega (arith, length-take n t.lines);
      few_quiet = omega (arith, count_take (λ (l : TraceLine). is_quiet l.act) n t.lines);
      few_dumps = omega (arith, count_take (λ (l : TraceLine). is_dump l.act) n t.lines);
    } in
    record {
      configured = is.configured;
      sound = is.sound;
      entries = is.entries;
      windows = is.windows;
      lines = lines;
    }

-- ---- the replies
-- Where there is no DMA window each line is on the page table, and the serial run is that of the
-- table.
serial_alone :
    (t : AcceptedTrace)
    → t.config.windows ≡ []
    → serial_replies t ≡ replies_on (page_table t.config) t.lines
serial_alone t none =
    let c = t.config in
    ap (λ (ws : List BusWindow). replies_from ws (page_table c ∷ map (opening_store c) ws) t.lines)
    none
    ∙ table_alone (page_table c) t.lines (opening_table t)

-- The first lines have the first replies.
first_replies :
    (w : Store) (ls : List TraceLine) (n : ℕ) → replies_on w (take n ls) ≡ take n (replies_on w ls)
first_replies w ls zero = refl
first_replies w [] (suc n) = refl
first_replies w (l ∷ ls) (suc n) =
    ap (λ rs. (run_on w l).0 ∷ rs) (first_replies (run_on w l).1 ls n)

-- The replies to the first lines are the first replies of the serial run.
pub first_of_serial :
    (t : AcceptedTrace) (n : ℕ)
    → t.config.windows ≡ []
    → replies_on (page_table t.config) (take n t.lines) ≡ take n (serial_replies t)
first_of_serial t n none =
    first_replies (page_table t.config) t.lines n ∙ ap (take n) (sym (serial_alone t none))

-- ---- the lines before the first H_NO_MEM
-- The replies before it are those to the first lines.
pub served_kinds :
    (ls : List TraceLine) (rs : List Reply)
    → AreReplies ls rs
    → AreReplies (take (length (served rs)) ls) (served rs)
served_kinds [] [] kinds = tt
served_kinds [] (r ∷ rs) kinds = absurd kinds
served_kinds (l ∷ ls) [] kinds = absurd kinds
served_kinds (l ∷ ls) (r ∷ rs) kinds =
    at (cases_Bool (is_no_mem r)) (served_kinds ls rs kinds.1) where
      at :
          (is_no_mem r ≡ true) ⊎ (is_no_mem r ≡ false)
          → AreReplies (take (length (served rs)) ls) (served rs)
          → AreReplies (take (length (served (r ∷ rs))) (l ∷ ls)) (served (r ∷ rs))
      at (inl q) rest = rw q tt
      at (inr q) rest = rw q (kinds.0, rest)

pub served_assured :
    (t : AcceptedTrace) (rs : List Reply)
    → IsAccepted t
    → t.config.windows ≡ []
    → AreReplies t.lines rs
    → RunsAsIfAlone t (served rs)
    → Assures (first_lines (length (served rs)) t) (served rs)
served_assured t rs is none kinds alone =
    let first = first_lines (length (served rs)) t in
    let accepted : IsAccepted first = first_accepted (length (served rs)) t is in
    let like : map without_place (served rs) ≡ map without_place (serial_replies first) = subst
    (λ qs. map without_place (served rs) ≡ map without_place qs)
    (sym (serial_alone first none ∙ first_of_serial t (length (served rs)) none)) alone in
    assured_like first (served rs) (serial_replies first) (served_kinds t.lines rs kinds)
    (serial_good first accepted).kinds like (serial_assures first accepted)
