-- At most one good run of a trace has a given text.
use Rattle.std.proofs.Common.{◌≡◌, ℕ, ◌<◌, List, [], ◌∷◌, ◌++◌, true, false, ap, sym, ◌∙◌, refl, subst, ◌⊎◌, inl, inr, length, append_assoc}
use Rattle.std.specs.List.{AllByRecursion}
use Rattle.std.proofs.lemmas.Bool.{cases_Bool}
use Rattle.trace_line.specs.declared.line.TraceLine.{TraceLine}
use Rattle.trace_line.specs.Lines.{is_quiet}
use Rattle.trace_read.specs.Trace.{AcceptedTrace, IsAccepted}
use Rattle.trace_reply.specs.declared.reply.Reply.{Reply}
use Rattle.trace_reply.specs.Replies.{RepliedLine, IsOfKind, AreReplies, lines_with_replies}
use Rattle.reply_text.specs.Text.{reply_text, text_from, text_of}
use Rattle.run_model.specs.Quiet.{QuietPart, cut, cut_before}
use Rattle.run_model.specs.AllStores.{AllStores, opening_all}
use Rattle.run_model.specs.GoodRun.{IsGoodRun}
use Rattle.run_model.proofs.LinesByProcessor.{Cpus}
use Rattle.run_model.proofs.SerialGood.{opening_processors}
use Rattle.history_check.specs.FoundSection.{lines_text}
use Rattle.history_check.specs.FoundStores.{AreGoodOn, stores_behind}
use Rattle.history_check.proofs.TextMarks.{line_shows, cancel}
use Rattle.history_check.proofs.Short.{ShortLines}
use Rattle.history_check.proofs.ShortStores.{ArePlainStores, stores_short, quiet_stores_plain, opening_stores_plain}
use Rattle.history_check.proofs.GoodStores.{Parts, parts_of, AllGood, next_stores, quiet_reply, next_size, parts_good}
use Rattle.history_check.proofs.OneSection.{Twice, ones, twos, Shown, Plain, AllSame, stores_same}
use Rattle.history_check.proofs.AtMostOneRun.{cut_twice, rest_ones, rest_twos, both_ones, both_twos, cut_ones, cut_twos, AllCut, cut_each, uncut_each, PlainCut, cut_plain, ones_twos, twice_of, twice_ones, twice_twos, twice_cpus, same_replies}

-- ---- texts of replied_lines
abbrev parts_text : List RepliedLine → List QuietPart → List ℕ
parts_text ts [] = lines_text ts
parts_text ts (q ∷ qs) = lines_text ts ++ (reply_text q.0.line q.0.reply ++ parts_text q.1 qs)

pub text_is :
    (ls : List TraceLine) (rs : List Reply)
    → text_from ls rs ≡ lines_text (lines_with_replies ls rs)
unfolding text_from
text_is [] rs = refl
text_is (l ∷ ls) [] = refl
text_is (l ∷ ls) (r ∷ rs) = ap (λ z. reply_text l r ++ z) (text_is ls rs)

more_text :
    (t : RepliedLine) (ts : List RepliedLine) (qs : List QuietPart)
    → reply_text t.line t.reply ++ parts_text ts qs ≡ parts_text (t ∷ ts) qs
more_text t ts [] = refl
more_text t ts (q ∷ qs) =
    sym
    (append_assoc (reply_text t.line t.reply) (lines_text ts)
    (reply_text q.0.line q.0.reply ++ parts_text q.1 qs))

front_text :
    (t : RepliedLine) (x : Parts)
    → reply_text t.line t.reply ++ parts_text x.0 x.1
    ≡ parts_text (cut_before t x).0 (cut_before t x).1
front_text t x = at (cases_Bool (is_quiet t.line.act)) where
  at :
      (is_quiet t.line.act ≡ true) ⊎ (is_quiet t.line.act ≡ false)
      → reply_text t.line t.reply ++ parts_text x.0 x.1
      ≡ parts_text (cut_before t x).0 (cut_before t x).1
  at (inl q) = rw q refl
  at (inr q) = rw q (more_text t x.0 x.1)

cut_text : (ts : List RepliedLine) → lines_text ts ≡ parts_text (cut ts).0 (cut ts).1
cut_text [] = refl
cut_text (t ∷ ts) = ap (λ z. reply_text t.line t.reply ++ z) (cut_text ts) ∙ front_text t (cut ts)

-- ---- a section
-- Both replies are of the line's kind.
abbrev pub HasKinds : Twice → Type 0
HasKinds p = IsOfKind p.line.act p.one × IsOfKind p.line.act p.two

shown_by :
    (ps : List Twice) (x y : List ℕ)
    → Plain ps
    → AllByRecursion HasKinds ps
    → ShortLines (ones ps)
    → ShortLines (twos ps)
    → lines_text (ones ps) ++ x ≡ lines_text (twos ps) ++ y
    → Shown ps × (x ≡ y)
shown_by [] x y n h s t e = (tt, e)
shown_by (p ∷ ps) x y n h s t e =
    let here = line_shows p.line p.one p.two (lines_text (ones ps) ++ x) (lines_text (twos ps) ++ y)
    n.0 h.0.0 h.0.1 s.0 t.0
    (sym (append_assoc (reply_text p.line p.one) (lines_text (ones ps)) x)
    ∙ e
    ∙ append_assoc (reply_text p.line p.two) (lines_text (twos ps)) y) in
    let rest = shown_by ps x y n.1 h.1 s.1 t.1 here.1 in
    ((here.0, rest.0), rest.1)

cpus_ones :
    (n : ℕ) (ps : List Twice)
    → AllByRecursion (λ (p : Twice). p.line.cpu < n) ps
    → Cpus n (ones ps) × Cpus n (twos ps)
cpus_ones n [] h = (tt, tt)
cpus_ones n (p ∷ ps) h = let rest = cpus_ones n ps h.1 in ((h.0, rest.0), (h.0, rest.1))

-- A section that two runs show alike is one section, and they go on alike.
pub section_told :
    (s : AllStores) (ps : List Twice) (x y : List ℕ)
    → ArePlainStores s
    → AllByRecursion (λ (p : Twice). p.line.cpu < length s.table.processors) ps
    → Plain ps
    → AllByRecursion HasKinds ps
    → AreGoodOn s (ones ps)
    → AreGoodOn s (twos ps)
    → lines_text (ones ps) ++ x ≡ lines_text (twos ps) ++ y
    → AllSame ps × (x ≡ y) × ArePlainStores (stores_behind s (ones ps))
section_told s ps x y plain low n h g k e =
    let cpus = cpus_ones (length s.table.processors) ps low in
    let one = stores_short s (ones ps) cpus.0 plain g in
    let two = stores_short s (twos ps) cpus.1 plain k in
    let shown = shown_by ps x y n h one.0 two.0 e in
    (stores_same s ps plain.named low n shown.0 g k, shown.1, one.1)

-- ---- all sections
three : (a b c x : List ℕ) → (a ++ (b ++ c)) ++ x ≡ a ++ (b ++ (c ++ x))
three a b c x = append_assoc a (b ++ c) x ∙ ap (λ z. a ++ z) (append_assoc b c x)

sections_told :
    (n : ℕ) (s : AllStores) (ps : List Twice) (qs : List (Twice × List Twice)) (x y : List ℕ)
    → ArePlainStores s
    → length s.table.processors ≡ n
    → AllCut (λ p. p.line.cpu < n) (ps, qs)
    → PlainCut (ps, qs)
    → AllCut HasKinds (ps, qs)
    → AllGood s (ones ps) (rest_ones qs)
    → AllGood s (twos ps) (rest_twos qs)
    → parts_text (ones ps) (rest_ones qs) ++ x ≡ parts_text (twos ps) (rest_twos qs) ++ y
    → AllCut (λ p. p.one ≡ p.two) (ps, qs)
sections_told n s ps [] x y plain size low ns kinds g k e = (
  (section_told s ps x y plain
      (subst (λ m. AllByRecursion (λ p. p.line.cpu < m) ps) (sym size) low.0) ns.0 kinds.0 g k
      e).0,
  tt,
)
sections_told n s ps (q ∷ qs) x y plain size low ns kinds g k e =
    let act = q.0.line.act in
    let t1 = reply_text q.0.line q.0.one in
    let t2 = reply_text q.0.line q.0.two in
    let p1 = parts_text (ones q.1) (rest_ones qs) in
    let p2 = parts_text (twos q.1) (rest_twos qs) in
    let told = section_told s ps (t1 ++ (p1 ++ x)) (t2 ++ (p2 ++ y)) plain
    (subst (λ m. AllByRecursion (λ p. p.line.cpu < m) ps) (sym size) low.0) ns.0 kinds.0 g.0 k.0
    (sym (three (lines_text (ones ps)) t1 p1 x) ∙ e ∙ three (lines_text (twos ps)) t2 p2 y) in
    let same : ones ps ≡ twos ps = ones_twos ps told.0 in
    let said : q.0.one ≡ q.0.two = g.1 ∙ ap (λ ts. quiet_reply s ts act) same ∙ sym k.1 in
    let k' : AllGood (next_stores s (ones ps) act) (twos q.1) (rest_twos qs) = subst
    (λ ts. AllGood (next_stores s ts act) (twos q.1) (rest_twos qs)) (sym same) k.2 in
    let behind : p1 ++ x ≡ p2 ++ y = cancel t1 (p1 ++ x) (p2 ++ y)
    (told.1 ∙ ap (λ r. reply_text q.0.line r ++ (p2 ++ y)) (sym said)) in
    let rest = sections_told n (next_stores s (ones ps) act) q.1 qs x y
    (quiet_stores_plain (stores_behind s (ones ps)) act told.2)
    (next_size s (ones ps) act ∙ size) (low.1.0.1, low.1.1) (ns.1.0, ns.1.1)
    (kinds.1.0.1, kinds.1.1) g.2 k' behind in
    (told.0, ((said, rest.0), rest.1))

-- ---- a trace
pub twice_kinds :
    (ls : List TraceLine) (rs qs : List Reply)
    → AreReplies ls rs
    → AreReplies ls qs
    → AllByRecursion HasKinds (twice_of ls rs qs)
twice_kinds [] rs qs h k = tt
twice_kinds (l ∷ ls) [] qs h k = tt
twice_kinds (l ∷ ls) (r ∷ rs) [] h k = tt
twice_kinds (l ∷ ls) (r ∷ rs) (q ∷ qs) h k = ((h.0, k.0), twice_kinds ls rs qs h.1 k.1)

-- at most one good run has a text that a given text begins with
pub one_run_has_text :
    (t : AcceptedTrace) (rs qs : List Reply) (x y : List ℕ)
    → IsAccepted t
    → IsGoodRun t rs
    → IsGoodRun t qs
    → text_of t rs ++ x ≡ text_of t qs ++ y
    → rs ≡ qs
one_run_has_text t rs qs x y is g k e =
    let ps = twice_of t.lines rs qs in
    let c = cut_twice ps in
    let s = opening_all t.config in
    let e1 : parts_of t rs ≡ both_ones c = ap cut (twice_ones t.lines rs qs g.kinds k.kinds) ∙
    cut_ones ps in
    let e2 : parts_of t qs ≡ both_twos c = ap cut (twice_twos t.lines rs qs g.kinds k.kinds) ∙
    cut_twos ps in
    let g' : AllGood s (ones c.0) (rest_ones c.1) = subst (λ (z : Parts). AllGood s z.0 z.1) e1
    (parts_good t rs g) in
    let k' : AllGood s (twos c.0) (rest_twos c.1) = subst (λ (z : Parts). AllGood s z.0 z.1) e2
    (parts_good t qs k) in
    let x1 : text_of t rs ≡ parts_text (ones c.0) (rest_ones c.1) = text_is t.lines rs ∙ cut_text
    (lines_with_replies t.lines rs) ∙ ap (λ (z : Parts). parts_text z.0 z.1) e1 in
    let x2 : text_of t qs ≡ parts_text (twos c.0) (rest_twos c.1) = text_is t.lines qs ∙ cut_text
    (lines_with_replies t.lines qs) ∙ ap (λ (z : Parts). parts_text z.0 z.1) e2 in
    let told : parts_text (ones c.0) (rest_ones c.1) ++ x ≡ parts_text (twos c.0) (rest_twos c.1) ++
    y = ap (λ z. z ++ x) (sym x1) ∙ e ∙ ap (λ z. z ++ y) x2 in
    let all = sections_told t.config.cpus s c.0 c.1 x y (opening_stores_plain t is)
    (opening_processors t)
    (cut_each (λ p. p.line.cpu < t.config.cpus) ps
    (twice_cpus t.config.cpus t.lines rs qs is.lines.on_cpus)) (cut_plain ps)
    (cut_each HasKinds ps (twice_kinds t.lines rs qs g.kinds k.kinds)) g' k' told in
    same_replies t.lines rs qs g.kinds k.kinds (uncut_each (λ p. p.one ≡ p.two) ps all)
