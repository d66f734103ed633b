-- Two good runs of one trace that show the same marks are one run: section by section, on each
-- store.
use Rattle.std.specs.Prelude.{None}
use Rattle.std.proofs.Common.{◌≡◌, ℕ, ◌<◌, List, [], ◌∷◌, true, false, ap, sym, ◌∙◌, refl, subst, ◌⊎◌, inl, inr, map, length}
use Rattle.std.specs.Prelude.{if◌then◌else◌}
use Rattle.std.specs.List.{AllByRecursion}
use Rattle.std.proofs.lemmas.Bool.{cond_both, cases_Bool}
use Rattle.trace_line.specs.declared.line.TraceLine.{TraceLine}
use Rattle.trace_line.specs.Lines.{is_quiet}
use Rattle.trace_read.specs.Trace.{AcceptedTrace, IsAccepted}
use Rattle.trace_reply.specs.declared.reply.Reply.{Reply}
use Rattle.trace_reply.specs.Replies.{RepliedLine, AreReplies, lines_with_replies}
use Rattle.run_model.specs.Quiet.{cut, cut_before}
use Rattle.run_model.specs.AllStores.{AllStores, opening_all}
use Rattle.run_model.specs.GoodRun.{IsGoodRun}
use Rattle.run_model.proofs.SerialGood.{opening_processors}
use Rattle.history_check.specs.ReplyMarks.{ShowsSame, AllShowSame}
use Rattle.history_check.proofs.Alike.{cond_map}
use Rattle.history_check.proofs.GoodStores.{Parts, parts_of, AllGood, next_stores, quiet_reply, next_size, next_named, opening_named, parts_good}
use Rattle.history_check.proofs.OneSection.{Twice, first, second, ones, twos, Shown, Plain, AllSame, stores_same}

-- ---- all sections
-- The lines before the first quiet line; and each quiet line with the lines after it. All have two
-- replies.
abbrev pub cut_twice : List Twice → List Twice × List (Twice × List Twice)
cut_twice [] = ([], [])
cut_twice (p ∷ ps) =
    if is_quiet p.line.act then ([], (p, (cut_twice ps).0) ∷ (cut_twice ps).1) else
    (p ∷ (cut_twice ps).0, (cut_twice ps).1)

-- Each quiet line and the lines after it, with the first of their two replies.
abbrev pub rest_ones : List (Twice × List Twice) → List (RepliedLine × List RepliedLine)
rest_ones qs = map (λ q. (first q.0, ones q.1)) qs

-- Each quiet line and the lines after it, with the second of their two replies.
abbrev pub rest_twos : List (Twice × List Twice) → List (RepliedLine × List RepliedLine)
rest_twos qs = map (λ q. (second q.0, twos q.1)) qs

-- All lines of a run that is cut, with the first of their two replies.
abbrev pub both_ones :
    List Twice × List (Twice × List Twice)
    → List RepliedLine × List (RepliedLine × List RepliedLine)
both_ones x = (ones x.0, rest_ones x.1)

-- All lines of a run that is cut, with the second of their two replies.
abbrev pub both_twos :
    List Twice × List (Twice × List Twice)
    → List RepliedLine × List (RepliedLine × List RepliedLine)
both_twos x = (twos x.0, rest_twos x.1)

pub cut_ones : (ps : List Twice) → cut (ones ps) ≡ both_ones (cut_twice ps)
cut_ones [] = refl
cut_ones (p ∷ ps) =
    ap (cut_before (first p)) (cut_ones ps)
    ∙ sym
    (cond_map both_ones (is_quiet p.line.act) ([], (p, (cut_twice ps).0) ∷ (cut_twice ps).1)
    (p ∷ (cut_twice ps).0, (cut_twice ps).1))

pub cut_twos : (ps : List Twice) → cut (twos ps) ≡ both_twos (cut_twice ps)
cut_twos [] = refl
cut_twos (p ∷ ps) =
    ap (cut_before (second p)) (cut_twos ps)
    ∙ sym
    (cond_map both_twos (is_quiet p.line.act) ([], (p, (cut_twice ps).0) ∷ (cut_twice ps).1)
    (p ∷ (cut_twice ps).0, (cut_twice ps).1))

-- a fact of each line of a section, and of all
abbrev pub AllRest : (Twice → Type 0) → List (Twice × List Twice) → Type 0
AllRest P qs = AllByRecursion (λ (q : Twice × List Twice). P q.0 × AllByRecursion P q.1) qs

-- A fact of each line of a run that is cut, those before its first quiet line among them.
abbrev pub AllCut : (Twice → Type 0) → List Twice × List (Twice × List Twice) → Type 0
AllCut P x = AllByRecursion P x.0 × AllRest P x.1

pub cut_each :
    (P : Twice → Type 0) (ps : List Twice) → AllByRecursion P ps → AllCut P (cut_twice ps)
cut_each P [] h = (tt, tt)
cut_each P (p ∷ ps) h =
    let k = cut_each P ps h.1 in
    cond_both (is_quiet p.line.act) ([], (p, (cut_twice ps).0) ∷ (cut_twice ps).1)
    (p ∷ (cut_twice ps).0, (cut_twice ps).1) (AllCut P) (λ e. (tt, ((h.0, k.0), k.1)))
    (λ e. ((h.0, k.0), k.1))

pub uncut_each :
    (P : Twice → Type 0) (ps : List Twice) → AllCut P (cut_twice ps) → AllByRecursion P ps
uncut_each P [] h = tt
uncut_each P (p ∷ ps) h = at (cases_Bool (is_quiet p.line.act)) (uncut_each P ps) where
  at :
      (is_quiet p.line.act ≡ true) ⊎ (is_quiet p.line.act ≡ false)
      → (AllCut P (cut_twice ps) → AllByRecursion P ps)
      → P p × AllByRecursion P ps
  at (inl q) rest = let k :
      AllCut P ([], (p, (cut_twice ps).0) ∷ (cut_twice ps).1) =
      rw q at h in (k.1.0.0, rest (k.1.0.1, k.1.1))
  at (inr q) rest = let k :
      AllCut P (p ∷ (cut_twice ps).0, (cut_twice ps).1) = rw q at h in (k.0.0, rest (k.0.1, k.1))

-- In a run that is cut no line is quiet but those at which it was cut.
abbrev pub PlainCut : List Twice × List (Twice × List Twice) → Type 0
PlainCut x = Plain x.0 × AllByRecursion (λ (q : Twice × List Twice). Plain q.1) x.1

pub cut_plain : (ps : List Twice) → PlainCut (cut_twice ps)
cut_plain [] = (tt, tt)
cut_plain (p ∷ ps) =
    let k = cut_plain ps in
    cond_both (is_quiet p.line.act) ([], (p, (cut_twice ps).0) ∷ (cut_twice ps).1)
    (p ∷ (cut_twice ps).0, (cut_twice ps).1) PlainCut (λ e. (tt, (k.0, k.1)))
    (λ e. ((e, k.0), k.1))

pub ones_twos : (ps : List Twice) → AllSame ps → ones ps ≡ twos ps
ones_twos [] h = refl
ones_twos (p ∷ ps) h = λ i. record { line = p.line; reply = h.0 i } ∷ ones_twos ps h.1 i

parts_same :
    (n : ℕ) (s : AllStores) (ps : List Twice) (qs : List (Twice × List Twice))
    → s.table.window ≡ None
    → length s.table.processors ≡ n
    → AllCut (λ p. p.line.cpu < n) (ps, qs)
    → PlainCut (ps, qs)
    → AllCut (λ p. ShowsSame p.one p.two) (ps, qs)
    → AllGood s (ones ps) (rest_ones qs)
    → AllGood s (twos ps) (rest_twos qs)
    → AllCut (λ p. p.one ≡ p.two) (ps, qs)
parts_same n s ps [] named size low plain shows g k = (
  stores_same s ps named (subst (λ m. AllByRecursion (λ p. p.line.cpu < m) ps) (sym size) low.0)
      plain.0 shows.0 g k,
  tt,
)
parts_same n s ps (q ∷ qs) named size low plain shows g k =
    let here : AllSame ps = stores_same s ps named
    (subst (λ m. AllByRecursion (λ p. p.line.cpu < m) ps) (sym size) low.0) plain.0 shows.0 g.0
    k.0 in
    let e : ones ps ≡ twos ps = ones_twos ps here in
    let act = q.0.line.act in
    let said : q.0.one ≡ q.0.two = g.1 ∙ ap (λ ts. quiet_reply s ts act) e ∙ sym k.1 in
    let k' : AllGood (next_stores s (ones ps) act) (twos q.1) (rest_twos qs) = subst
    (λ ts. AllGood (next_stores s ts act) (twos q.1) (rest_twos qs)) (sym e) k.2 in
    let rest = parts_same n (next_stores s (ones ps) act) q.1 qs (next_named s (ones ps) act named)
    (next_size s (ones ps) act ∙ size)
    (low.1.0.1, low.1.1) (plain.1.0, plain.1.1) (shows.1.0.1, shows.1.1) g.2 k' in
    (here, ((said, rest.0), rest.1))

-- ---- a trace
-- Each line of a trace with its replies in two runs, as far as the three lists go.
abbrev pub twice_of : List TraceLine → List Reply → List Reply → List Twice
twice_of [] rs qs = []
twice_of (l ∷ ls) [] qs = []
twice_of (l ∷ ls) (r ∷ rs) [] = []
twice_of (l ∷ ls) (r ∷ rs) (q ∷ qs) = record { line = l; one = r; two = q } ∷ twice_of ls rs qs

pub twice_ones :
    (ls : List TraceLine) (rs qs : List Reply)
    → AreReplies ls rs
    → AreReplies ls qs
    → lines_with_replies ls rs ≡ ones (twice_of ls rs qs)
twice_ones [] rs qs h k = refl
twice_ones (l ∷ ls) [] qs h k = absurd h
twice_ones (l ∷ ls) (r ∷ rs) [] h k = absurd k
twice_ones (l ∷ ls) (r ∷ rs) (q ∷ qs) h k =
    ap (λ ts. record { line = l; reply = r } ∷ ts) (twice_ones ls rs qs h.1 k.1)

pub twice_twos :
    (ls : List TraceLine) (rs qs : List Reply)
    → AreReplies ls rs
    → AreReplies ls qs
    → lines_with_replies ls qs ≡ twos (twice_of ls rs qs)
twice_twos [] rs qs h k = refl
twice_twos (l ∷ ls) [] qs h k = absurd h
twice_twos (l ∷ ls) (r ∷ rs) [] h k = absurd k
twice_twos (l ∷ ls) (r ∷ rs) (q ∷ qs) h k =
    ap (λ ts. record { line = l; reply = q } ∷ ts) (twice_twos ls rs qs h.1 k.1)

pub twice_cpus :
    (n : ℕ) (ls : List TraceLine) (rs qs : List Reply)
    → AllByRecursion (λ (l : TraceLine). l.cpu < n) ls
    → AllByRecursion (λ (p : Twice). p.line.cpu < n) (twice_of ls rs qs)
twice_cpus n [] rs qs h = tt
twice_cpus n (l ∷ ls) [] qs h = tt
twice_cpus n (l ∷ ls) (r ∷ rs) [] h = tt
twice_cpus n (l ∷ ls) (r ∷ rs) (q ∷ qs) h = (h.0, twice_cpus n ls rs qs h.1)

twice_shown :
    (ls : List TraceLine) (rs qs : List Reply) → AllShowSame rs qs → Shown (twice_of ls rs qs)
twice_shown [] rs qs h = tt
twice_shown (l ∷ ls) [] qs h = tt
twice_shown (l ∷ ls) (r ∷ rs) [] h = tt
twice_shown (l ∷ ls) (r ∷ rs) (q ∷ qs) h = (h.0, twice_shown ls rs qs h.1)

pub same_replies :
    (ls : List TraceLine) (rs qs : List Reply)
    → AreReplies ls rs
    → AreReplies ls qs
    → AllSame (twice_of ls rs qs)
    → rs ≡ qs
same_replies [] [] [] h k e = refl
same_replies [] [] (q ∷ qs) h k e = absurd k
same_replies [] (r ∷ rs) qs h k e = absurd h
same_replies (l ∷ ls) [] qs h k e = absurd h
same_replies (l ∷ ls) (r ∷ rs) [] h k e = absurd k
same_replies (l ∷ ls) (r ∷ rs) (q ∷ qs) h k e = λ i. e.0 i ∷ same_replies ls rs qs h.1 k.1 e.1 i

-- at most one good run shows these ways and marks
pub at_most_one :
    (t : AcceptedTrace) (rs qs : List Reply)
    → IsAccepted t
    → IsGoodRun t rs
    → IsGoodRun t qs
    → AllShowSame rs qs
    → rs ≡ qs
at_most_one t rs qs is g k m =
    let ps = twice_of t.lines rs qs in
    let x = cut_twice ps in
    let s = opening_all t.config in
    let e1 : parts_of t rs ≡ both_ones x = ap cut (twice_ones t.lines rs qs g.kinds k.kinds) ∙
    cut_ones ps in
    let e2 : parts_of t qs ≡ both_twos x = ap cut (twice_twos t.lines rs qs g.kinds k.kinds) ∙
    cut_twos ps in
    let g' : AllGood s (ones x.0) (rest_ones x.1) = subst (λ (c : Parts). AllGood s c.0 c.1) e1
    (parts_good t rs g) in
    let k' : AllGood s (twos x.0) (rest_twos x.1) = subst (λ (c : Parts). AllGood s c.0 c.1) e2
    (parts_good t qs k) in
    let all = parts_same t.config.cpus s x.0 x.1 (opening_named t.config) (opening_processors t)
    (cut_each (λ p. p.line.cpu < t.config.cpus) ps
    (twice_cpus t.config.cpus t.lines rs qs is.lines.on_cpus)) (cut_plain ps)
    (cut_each (λ p. ShowsSame p.one p.two) ps (twice_shown t.lines rs qs m)) g' k' in
    same_replies t.lines rs qs g.kinds k.kinds (uncut_each (λ p. p.one ≡ p.two) ps all)
