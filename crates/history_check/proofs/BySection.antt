-- Section by section: what explains a text begins with what explains its first section, which is
-- one only.
use Rattle.std.proofs.Common.{◌≡◌, ℕ, suc, ◌+◌, arith, List, [], ◌∷◌, ◌++◌, true, ap, sym, ◌∙◌, refl, subst, length, append_assoc}
use Rattle.run_model.proofs.LineReceipts.{lines_append}
use Rattle.trace_line.specs.declared.line.TraceLine.{TraceLine}
use Rattle.trace_line.specs.Lines.{is_quiet, AreOnProcessors}
use Rattle.trace_read.specs.Trace.{AcceptedTrace}
use Rattle.trace_reply.specs.declared.reply.Reply.{Reply}
use Rattle.trace_reply.specs.Replies.{RepliedLine, IsOfKind, AreReplies, lines_with_replies}
use Rattle.reply_text.specs.Text.{reply_text, text_from, text_of}
use Rattle.run_model.specs.Quiet.{cut, cut_before, NoneQuiet}
use Rattle.run_model.specs.AllStores.{AllStores, opening_all}
use Rattle.run_model.specs.GoodRun.{IsGoodRun}
use Rattle.history_check.specs.Verdict.{lines_to, trace_to, BeginsGood}
use Rattle.history_check.specs.FoundSection.{lines_text}
use Rattle.history_check.specs.FoundStores.{AreGoodOn, stores_behind, AreFound}
use Rattle.history_check.proofs.GoodStores.{Parts, AllGood, next_stores, quiet_reply, parts_good, good_parts}
use Rattle.history_check.proofs.Prefix.{with_rest, cut_at, empty_good}
use Rattle.history_check.proofs.TextMarks.{cancel}
use Rattle.history_check.proofs.ShortStores.{ArePlainStores}
use Rattle.history_check.proofs.AtMostOneText.{text_is, section_told, twice_kinds}
use Rattle.history_check.proofs.OneSection.{ones, twos, Plain}
use Rattle.history_check.proofs.AtMostOneRun.{twice_of, twice_ones, twice_twos, twice_cpus, same_replies}

-- ---- what explains a text
-- Lines that run from these stores on, in good sections, with the text that stands before the rest.
abbrev pub Explains : AllStores → List TraceLine → List ℕ → List ℕ → Type 0
Explains w ls x rest =
    (rs : List Reply)
    × AreReplies ls rs
    × AllGood w (cut (lines_with_replies ls rs)).0 (cut (lines_with_replies ls rs)).1
    × (x ≡ text_from ls rs ++ rest)

-- The text of a good run, and then the rest.
pub good_explained :
    (t : AcceptedTrace) (rs : List Reply) (text rest : List ℕ)
    → IsGoodRun t rs
    → text ≡ text_of t rs ++ rest
    → Explains (opening_all t.config) t.lines text rest
good_explained t rs text rest g e = (rs, g.kinds, parts_good t rs g, e)

pub begins_explained :
    (k : ℕ) (t : AcceptedTrace) (text : List ℕ) (b : BeginsGood (trace_to k t) text)
    → Explains (opening_all t.config) (lines_to k t.lines) text b.1
begins_explained k t text b = good_explained (trace_to k t) b.0 text b.1 b.2 b.3

pub explained_begins :
    (k : ℕ) (t : AcceptedTrace) (text rest : List ℕ)
    → Explains (opening_all t.config) (lines_to k t.lines) text rest
    → BeginsGood (trace_to k t) text
explained_begins k t text rest h = (h.0, rest, good_parts (trace_to k t) h.0 h.1 h.2, h.3)

-- The stores after a section and its quiet line, and the reply to that.
abbrev pub next_run : AllStores → List TraceLine → List Reply → TraceLine → AllStores
next_run w ms rs l = next_stores w (lines_with_replies ms rs) l.act

-- The reply to a quiet line after a section of these lines with these replies.
abbrev pub next_reply : AllStores → List TraceLine → List Reply → TraceLine → Reply
next_reply w ms rs l = quiet_reply w (lines_with_replies ms rs) l.act

-- ---- lines
pub lines_plain :
    (k : ℕ) (ms : List TraceLine) (l : TraceLine) (ns : List TraceLine)
    → NoneQuiet ms
    → is_quiet l.act ≡ true
    → lines_to (suc k) (ms ++ l ∷ ns) ≡ ms ++ l ∷ lines_to k ns
lines_plain k [] l ns h q = rw q refl
lines_plain k (m ∷ ms) l ns h q = rw h.0 (ap (λ z. m ∷ z) (lines_plain k ms l ns h.1 q))

cut_plain :
    (ms : List TraceLine) (rs : List Reply)
    → NoneQuiet ms
    → cut (lines_with_replies ms rs) ≡ (lines_with_replies ms rs, [])
cut_plain [] rs h = refl
cut_plain (m ∷ ms) [] h = refl
cut_plain (m ∷ ms) (r ∷ rs) h =
    ap (cut_before (record { line = m; reply = r })) (cut_plain ms rs h.1) ∙ at where
      at :
          cut_before (record { line = m; reply = r }) (lines_with_replies ms rs, [])
          ≡ (lines_with_replies (m ∷ ms) (r ∷ rs), [])
      at = rw h.0 refl

cut_first :
    (ms : List TraceLine) (l : TraceLine) (ns : List TraceLine) (fs : List Reply) (r : Reply)
    (bs : List Reply)
    → NoneQuiet ms
    → is_quiet l.act ≡ true
    → AreReplies ms fs
    → cut (lines_with_replies (ms ++ l ∷ ns) (fs ++ r ∷ bs))
    ≡ (
      lines_with_replies ms fs,
      (record { line = l; reply = r }, (cut (lines_with_replies ns bs)).0)
          ∷ (cut (lines_with_replies ns bs)).1,
    )
cut_first ms l ns fs r bs h q kinds =
    let t : RepliedLine = record { line = l; reply = r } in
    ap cut (lines_append ms (l ∷ ns) fs (r ∷ bs) kinds)
    ∙ cut_at (lines_with_replies ms fs) t (lines_with_replies ns bs) q
    ∙ ap
    (λ (z : Parts).
    with_rest z ((t, (cut (lines_with_replies ns bs)).0) ∷ (cut (lines_with_replies ns bs)).1))
    (cut_plain ms fs h)

first_text :
    (ms : List TraceLine) (l : TraceLine) (ns : List TraceLine) (fs : List Reply) (r : Reply)
    (bs : List Reply) (rest : List ℕ)
    → AreReplies ms fs
    → text_from (ms ++ l ∷ ns) (fs ++ r ∷ bs) ++ rest
    ≡ lines_text (lines_with_replies ms fs) ++ (reply_text l r ++ (text_from ns bs ++ rest))
unfolding text_from
first_text [] l ns [] r bs rest h = append_assoc (reply_text l r) (text_from ns bs) rest
first_text [] l ns (a ∷ fs) r bs rest h = absurd h
first_text (m ∷ ms) l ns [] r bs rest h = absurd h
first_text (m ∷ ms) l ns (a ∷ fs) r bs rest h =
    append_assoc (reply_text m a) (text_from (ms ++ l ∷ ns) (fs ++ r ∷ bs)) rest
    ∙ ap (λ z. reply_text m a ++ z) (first_text ms l ns fs r bs rest h.1)
    ∙ sym
    (append_assoc (reply_text m a) (lines_text (lines_with_replies ms fs))
    (reply_text l r ++ (text_from ns bs ++ rest)))

-- ---- replies
-- Replies to several lines, parted at the line l: those to the lines before it, the one to it, and
-- those to the lines after it, each of its line's kind.
pub record SplitReplies (ms : List TraceLine) (l : TraceLine) (ns : List TraceLine)
    (rs : List Reply) :
    Type 0 where
  pub front : List Reply
  pub reply : Reply
  pub behind : List Reply
  pub all : rs ≡ front ++ reply ∷ behind
  pub kinds : AreReplies ms front
  pub kind : IsOfKind l.act reply
  pub later : AreReplies ns behind

split_replies :
    (ms : List TraceLine) (l : TraceLine) (ns : List TraceLine) (rs : List Reply)
    → AreReplies (ms ++ l ∷ ns) rs
    → SplitReplies ms l ns rs
split_replies [] l ns [] h = absurd h
split_replies [] l ns (r ∷ rs) h =
    record { front = []; reply = r; behind = rs; all = refl; kinds = tt; kind = h.0; later = h.1 }
split_replies (m ∷ ms) l ns [] h = absurd h
split_replies (m ∷ ms) l ns (r ∷ rs) h =
    let k = split_replies ms l ns rs h.1 in
    record {
      front = r ∷ k.front;
      reply = k.reply;
      behind = k.behind;
      all = ap (λ z. r ∷ z) k.all;
      kinds = (h.0, k.kinds);
      kind = k.kind;
      later = k.later;
    }

joined_replies :
    (ms : List TraceLine) (l : TraceLine) (ns : List TraceLine) (fs : List Reply) (r : Reply)
    (bs : List Reply)
    → AreReplies ms fs
    → IsOfKind l.act r
    → AreReplies ns bs
    → AreReplies (ms ++ l ∷ ns) (fs ++ r ∷ bs)
joined_replies [] l ns [] r bs h k g = (k, g)
joined_replies [] l ns (a ∷ fs) r bs h k g = absurd h
joined_replies (m ∷ ms) l ns [] r bs h k g = absurd h
joined_replies (m ∷ ms) l ns (a ∷ fs) r bs h k g = (h.0, joined_replies ms l ns fs r bs h.1 k g)

-- ---- one section and the rest
-- The first section and its quiet line are found, and what follows them is explained.
pub record IsStep (w : AllStores) (ms : List TraceLine) (l : TraceLine) (ns : List TraceLine)
    (x last : List ℕ) :
    Type 0 where
  pub replies : List Reply
  pub reply : Reply
  pub rest : List ℕ
  pub kind : IsOfKind l.act reply
  pub found : AreFound w ms x replies (reply_text l reply ++ rest)
  pub said : reply ≡ next_reply w ms replies l
  pub later : Explains (next_run w ms replies l) ns rest last

abbrev GoodParts : AllStores → Parts → Type 0
GoodParts w z = AllGood w z.0 z.1

pub step_out :
    (w : AllStores) (ms : List TraceLine) (l : TraceLine) (ns : List TraceLine) (x last : List ℕ)
    → NoneQuiet ms
    → is_quiet l.act ≡ true
    → Explains w (ms ++ l ∷ ns) x last
    → IsStep w ms l ns x last
step_out w ms l ns x last h q e =
    let s = split_replies ms l ns e.0 e.1 in
    let goods : GoodParts w
    (cut (lines_with_replies (ms ++ l ∷ ns) (s.front ++ s.reply ∷ s.behind))) = subst
    (λ rs. GoodParts w (cut (lines_with_replies (ms ++ l ∷ ns) rs))) s.all e.2 in
    let parts = subst (GoodParts w) (cut_first ms l ns s.front s.reply s.behind h q s.kinds) goods
    in
    record {
      replies = s.front;
      reply = s.reply;
      rest = text_from ns s.behind ++ last;
      kind = s.kind;
      found =
          record {
            kinds = s.kinds;
            good = parts.0;
            text =
                e.3
                ∙ ap (λ rs. text_from (ms ++ l ∷ ns) rs ++ last) s.all
                ∙ first_text ms l ns s.front s.reply s.behind last s.kinds;
          };
      said = parts.1;
      later = (s.behind, s.later, parts.2, refl);
    }

pub step_in :
    (w : AllStores) (ms : List TraceLine) (l : TraceLine) (ns : List TraceLine) (x last : List ℕ)
    → NoneQuiet ms
    → is_quiet l.act ≡ true
    → IsStep w ms l ns x last
    → Explains w (ms ++ l ∷ ns) x last
step_in w ms l ns x last h q s =
    let bs = s.later.0 in
    let goods = subst (GoodParts w) (sym (cut_first ms l ns s.replies s.reply bs h q s.found.kinds))
    (s.found.good, s.said, s.later.2) in (
      s.replies ++ s.reply ∷ bs,
      joined_replies ms l ns s.replies s.reply bs s.found.kinds s.kind s.later.1,
      goods,
      s.found.text
          ∙ ap (λ z. lines_text (lines_with_replies ms s.replies) ++ (reply_text l s.reply ++ z))
          s.later.3
          ∙ sym (first_text ms l ns s.replies s.reply bs last s.found.kinds),
    )

-- ---- a section is found in one way
plain_twice : (ms : List TraceLine) (rs qs : List Reply) → NoneQuiet ms → Plain (twice_of ms rs qs)
plain_twice [] rs qs h = tt
plain_twice (m ∷ ms) [] qs h = tt
plain_twice (m ∷ ms) (r ∷ rs) [] h = tt
plain_twice (m ∷ ms) (r ∷ rs) (q ∷ qs) h = (h.0, plain_twice ms rs qs h.1)

pub found_once :
    (w : AllStores) (ms : List TraceLine) (x : List ℕ) (rs qs : List Reply) (y z : List ℕ)
    → ArePlainStores w
    → NoneQuiet ms
    → AreOnProcessors (length w.table.processors) ms
    → AreFound w ms x rs y
    → AreFound w ms x qs z
    → (rs ≡ qs) × (y ≡ z) × ArePlainStores (stores_behind w (lines_with_replies ms rs))
found_once w ms x rs qs y z plain ns cpus g k =
    let ps = twice_of ms rs qs in
    let e1 : lines_with_replies ms rs ≡ ones ps = twice_ones ms rs qs g.kinds k.kinds in
    let e2 : lines_with_replies ms qs ≡ twos ps = twice_twos ms rs qs g.kinds k.kinds in
    let told = section_told w ps y z plain (twice_cpus (length w.table.processors) ms rs qs cpus)
    (plain_twice ms rs qs ns) (twice_kinds ms rs qs g.kinds k.kinds)
    (subst (AreGoodOn w) e1 g.good) (subst (AreGoodOn w) e2 k.good)
    (ap (λ ts. lines_text ts ++ y) (sym e1)
    ∙ sym g.text
    ∙ k.text
    ∙ ap (λ ts. lines_text ts ++ z) e2) in (
      same_replies ms rs qs g.kinds k.kinds told.0,
      told.1,
      subst (λ ts. ArePlainStores (stores_behind w ts)) (sym e1) told.2,
    )

-- What explains the text after a section that was found explains the whole, and the other way
-- round.
pub behind_found :
    (w : AllStores) (ms : List TraceLine) (l : TraceLine) (ns : List TraceLine) (x : List ℕ)
    (rs : List Reply) (r : Reply) (y last : List ℕ)
    → ArePlainStores w
    → NoneQuiet ms
    → AreOnProcessors (length w.table.processors) ms
    → is_quiet l.act ≡ true
    → AreFound w ms x rs (reply_text l r ++ y)
    → r ≡ next_reply w ms rs l
    → Explains w (ms ++ l ∷ ns) x last
    → Explains (next_run w ms rs l) ns y last
behind_found w ms l ns x rs r y last plain h cpus q found replied e =
    let s = step_out w ms l ns x last h q e in
    let one = found_once w ms x rs s.replies (reply_text l r ++ y) (reply_text l s.reply ++ s.rest)
    plain h cpus found s.found in
    let said : r ≡ s.reply = replied ∙ ap (λ z. next_reply w ms z l) one.0 ∙ sym s.said in
    let rest : y ≡ s.rest = cancel (reply_text l r) y s.rest
    (one.1 ∙ ap (λ z. reply_text l z ++ s.rest) (sym said)) in
    subst (λ z. Explains (next_run w ms rs l) ns z last) (sym rest)
    (subst (λ z. Explains (next_run w ms z l) ns s.rest last) (sym one.0) s.later)

-- The invariant of the judge's loop: what explains the rest, to the j-th quiet line from here,
-- explains the text to the (k + j)-th.
abbrev pub Reaches : AcceptedTrace → List ℕ → ℕ → AllStores → List TraceLine → List ℕ → Type 0
Reaches t text k w ns y =
    (j : ℕ) (last : List ℕ)
    →
    (Explains (opening_all t.config) (lines_to (k + j) t.lines) text last
    → Explains w (lines_to j ns) y last)
    ×
    (Explains w (lines_to j ns) y last
    → Explains (opening_all t.config) (lines_to (k + j) t.lines) text last)

pub reaches_first :
    (t : AcceptedTrace) (text : List ℕ) → Reaches t text 0 (opening_all t.config) t.lines text
reaches_first t text j last =
    let e : 0 + j ≡ j = omega arith in (
      (λ h. subst (λ n. Explains (opening_all t.config) (lines_to n t.lines) text last) e h),
      (λ h. subst (λ n. Explains (opening_all t.config) (lines_to n t.lines) text last) (sym e) h),
    )

pub reaches_next :
    (t : AcceptedTrace) (text : List ℕ) (k : ℕ) (w : AllStores) (ms : List TraceLine)
    (l : TraceLine) (ns : List TraceLine) (x : List ℕ) (rs : List Reply) (r : Reply)
    (y : List ℕ)
    → ArePlainStores w
    → NoneQuiet ms
    → AreOnProcessors (length w.table.processors) ms
    → is_quiet l.act ≡ true
    → IsOfKind l.act r
    → AreFound w ms x rs (reply_text l r ++ y)
    → r ≡ next_reply w ms rs l
    → Reaches t text k w (ms ++ l ∷ ns) x
    → Reaches t text (k + 1) (next_run w ms rs l) ns y
reaches_next t text k w ms l ns x rs r y plain h cpus q kind found said before j last =
    let e : k + suc j ≡ k + 1 + j = omega arith in
    let lines : lines_to (suc j) (ms ++ l ∷ ns) ≡ ms ++ l ∷ lines_to j ns = lines_plain j ms l ns h
    q in (
      (λ z.
          behind_found w ms l (lines_to j ns) x rs r y last plain h cpus q found said
          (subst (λ ls. Explains w ls x last) lines
          ((before (suc j) last).0
          (subst (λ n. Explains (opening_all t.config) (lines_to n t.lines) text last)
          (sym e) z)))),
      (λ z.
          subst (λ n. Explains (opening_all t.config) (lines_to n t.lines) text last) e
          ((before (suc j) last).1
          (subst (λ ls. Explains w ls x last) (sym lines)
          (step_in w ms l (lines_to j ns) x last h q
          (record {
            replies = rs;
            reply = r;
            rest = y;
            kind = kind;
            found = found;
            said = said;
            later = z;
          }))))),
    )

-- A section that isn't found fails.
pub none_found :
    (t : AcceptedTrace) (text : List ℕ) (k : ℕ) (w : AllStores) (ms : List TraceLine)
    (l : TraceLine) (ns : List TraceLine) (x : List ℕ)
    → NoneQuiet ms
    → is_quiet l.act ≡ true
    →
    ((rs : List Reply) (r : Reply) (y : List ℕ)
    → AreFound w ms x rs (reply_text l r ++ y)
    → r ≡ next_reply w ms rs l
    → ⊥)
    → Reaches t text k w (ms ++ l ∷ ns) x
    → BeginsGood (trace_to (k + 1) t) text
    → ⊥
none_found t text k w ms l ns x h q none before b =
    let here = (before 1 b.1).0 (begins_explained (k + 1) t text b) in
    let s = step_out w ms l (lines_to 0 ns) x b.1 h q
    (subst (λ ls. Explains w ls x b.1) (lines_plain 0 ms l ns h q) here) in
    none s.replies s.reply s.rest s.found s.said

none_text : (y : List ℕ) → y ≡ text_from [] [] ++ y
unfolding text_from
none_text y = refl

-- A section that was reached stands.
pub reached_stands :
    (t : AcceptedTrace) (text : List ℕ) (k : ℕ) (w : AllStores) (ns : List TraceLine) (y : List ℕ)
    → Reaches t text k w ns y
    → BeginsGood (trace_to k t) text
reached_stands t text k w ns y h =
    let e : k + 0 ≡ k = omega arith in
    explained_begins k t text y
    (subst (λ n. Explains (opening_all t.config) (lines_to n t.lines) text y) e
    ((h 0 y).1 ([], tt, empty_good w, none_text y)))

-- ---- the last section, which no quiet line ends
pub lines_all : (k : ℕ) (ms : List TraceLine) → NoneQuiet ms → lines_to (suc k) ms ≡ ms
lines_all k [] h = refl
lines_all k (m ∷ ms) h = rw h.0 (ap (λ z. m ∷ z) (lines_all k ms h.1))

pub last_out :
    (w : AllStores) (ms : List TraceLine) (x last : List ℕ)
    → NoneQuiet ms
    → Explains w ms x last
    → (rs : List Reply) × AreFound w ms x rs last
last_out w ms x last h e = (
  e.0,
  record {
    kinds = e.1;
    good = subst (GoodParts w) (cut_plain ms e.0 h) e.2;
    text = e.3 ∙ ap (λ z. z ++ last) (text_is ms e.0);
  },
)

pub last_in :
    (w : AllStores) (ms : List TraceLine) (x : List ℕ) (rs : List Reply) (last : List ℕ)
    → NoneQuiet ms
    → AreFound w ms x rs last
    → Explains w ms x last
last_in w ms x rs last h f = (
  rs,
  f.kinds,
  subst (GoodParts w) (sym (cut_plain ms rs h)) f.good,
  f.text ∙ ap (λ z. z ++ last) (sym (text_is ms rs)),
)
