-- Logs of texts.
use Rattle.std.proofs.Common.{◌≡◌, ℕ, ◌+◌, ◌-◌, ◌/◌, ◌<◌, ◌≤◌, min, Result, Ok, Err, is_ok, OnOk, List, [], ◌∷◌, ◌++◌, length, take, drop, true, false, refl, ap, sym, ◌∙◌, subst, arith, append_assoc, append-nil}
use Rattle.std.specs.Str.{IsUtf8, IsCharBoundary}
use Rattle.std.proofs.lemmas.Str.{IsCharBoundary-from_take}
use Rattle.std.proofs.lemmas.List.{length-append}
use Rattle.std.proofs.Math.Seq.{take-append_seam, drop-append_seam}
use Rattle.trace_line.specs.declared.line.TraceLine.{TraceLine}
use Rattle.trace_line.specs.declared.act.Act.{Act}
use Rattle.trace_line.specs.declared.act.Act.TheVariants as acts
use Rattle.trace_line.specs.Lines.{is_quiet}
use Rattle.trace_reply.specs.declared.reply.Reply.{Reply}
use Rattle.trace_reply.specs.declared.reply.Reply.TheVariants as replies
use Rattle.trace_reply.specs.Replies.{IsOfKind, is_dump}
use Rattle.reply_text.specs.Text.{reply_text, text_from}
use Rattle.trace_runner.specs.TextLog.{EndsBehind, KeepsText, HasText}

pub on_ok : {T E : Type 0} (r : Result T E) (P : Type 0) → is_ok r ≡ true → OnOk r P → P
on_ok (Ok x) P h k = k
on_ok (Err e) P h k = let clash : false ≡ true = h in cc

pub on_map : {T E : Type 0} (r : Result T E) (P Q : Type 0) → (P → Q) → OnOk r P → OnOk r Q
on_map (Ok x) P Q f h = f h
on_map (Err e) P Q f h = tt

-- ---- one more
ends_more :
    (front bytes more ends : List ℕ) (ls : List TraceLine) (rs : List Reply) (l : TraceLine)
    (r : Reply)
    → more ≡ bytes ++ reply_text l r
    → IsUtf8 more
    → EndsBehind front bytes ends ls rs
    → EndsBehind front more (ends ++ length more ∷ []) (ls ++ l ∷ []) (rs ++ r ∷ [])
ends_more front bytes more [] [] [] l r put utf8 h =
    let e : more ≡ front ++ reply_text l r = put ∙ ap (λ z. z ++ reply_text l r) h in
    (ap length e, (subst IsUtf8 e utf8, e))
ends_more front bytes more (end ∷ ends) (k ∷ ks) (q ∷ qs) l r put utf8 h =
    (h.0, (h.1.0, ends_more (front ++ reply_text k q) bytes more ends ks qs l r put utf8 h.1.1))
ends_more front bytes more [] [] (q ∷ qs) l r put utf8 h = absurd h
ends_more front bytes more [] (k ∷ ks) rs l r put utf8 h = absurd h
ends_more front bytes more (end ∷ ends) [] rs l r put utf8 h = absurd h
ends_more front bytes more (end ∷ ends) (k ∷ ks) [] l r put utf8 h = absurd h

pub keeps_more :
    (bytes more ends next : List ℕ) (start end : ℕ) (ls : List TraceLine) (rs : List Reply)
    (l : TraceLine) (r : Reply)
    → more ≡ bytes ++ reply_text l r
    → IsUtf8 more
    → end ≡ length more
    → next ≡ ends ++ end ∷ []
    → KeepsText bytes ends start ls rs
    → KeepsText more next start (ls ++ l ∷ []) (rs ++ r ∷ [])
keeps_more bytes more ends next start end ls rs l r put utf8 at pushed h = record {
  front = h.front;
  begins = h.begins;
  cut = h.cut;
  texts =
      subst (λ es. EndsBehind h.front more es (ls ++ l ∷ []) (rs ++ r ∷ []))
      (ap (λ n. ends ++ n ∷ []) (sym at) ∙ sym pushed)
      (ends_more h.front bytes more ends ls rs l r put utf8 h.texts);
}

-- ---- the first one
-- The texts come after the front.
pub behind :
    (front bytes ends : List ℕ) (ls : List TraceLine) (rs : List Reply)
    → EndsBehind front bytes ends ls rs
    → (rest : List ℕ) × (bytes ≡ front ++ rest)
behind front bytes [] [] [] h = ([], h ∙ sym (append-nil front))
behind front bytes (end ∷ ends) (l ∷ ls) (r ∷ rs) h =
    let more = behind (front ++ reply_text l r) bytes ends ls rs h.1.1 in
    (reply_text l r ++ more.0, more.1 ∙ append_assoc front (reply_text l r) more.0)
behind front bytes [] [] (r ∷ rs) h = absurd h
behind front bytes [] (l ∷ ls) rs h = absurd h
behind front bytes (end ∷ ends) [] rs h = absurd h
behind front bytes (end ∷ ends) (l ∷ ls) [] h = absurd h

-- Where the first of some replies is, and what is kept after it.
pub record FirstText (bytes others : List ℕ) (start end : ℕ) (l : TraceLine) (r : Reply)
    (ls : List TraceLine) (rs : List Reply) :
    Type 0 where
  pub low : start ≤ end
  pub high : end ≤ length bytes
  pub from : IsCharBoundary bytes start
  pub to : IsCharBoundary bytes end
  pub text : take (end - start) (drop start bytes) ≡ reply_text l r
  pub rest : KeepsText bytes others end ls rs

pub first_text :
    (bytes others : List ℕ) (start end : ℕ) (l : TraceLine) (r : Reply) (ls : List TraceLine)
    (rs : List Reply)
    → IsUtf8 bytes
    → KeepsText bytes (end ∷ others) start (l ∷ ls) (r ∷ rs)
    → FirstText bytes others start end l r ls rs
first_text bytes others start end l r ls rs utf8 h =
    let text = reply_text l r in
    let next = h.front ++ text in
    let more = behind next bytes others ls rs h.texts.1.1 in
    let whole : bytes ≡ h.front ++ (text ++ more.0) = more.1 ∙ append_assoc h.front text more.0 in
    let size = length-append h.front text in
    let all = ap length more.1 ∙ length-append next more.0 in
    let at : end ≡ start + length text = h.texts.0 ∙ size ∙ ap (λ n. n + length text) (sym h.begins)
    in
    let high : end ≤ length bytes = omega (arith, h.texts.0, all) in
    let span : end - start ≡ length text = omega (arith, at) in
    let tail : drop start bytes ≡ text ++ more.0 = ap (λ n. drop n bytes) h.begins ∙ ap
    (drop (length h.front)) whole ∙ drop-append_seam h.front (text ++ more.0) in
    let up_to : take start bytes ≡ h.front = ap (λ n. take n bytes) h.begins ∙ ap
    (take (length h.front)) whole ∙ take-append_seam h.front (text ++ more.0) in
    let up_to_next : take end bytes ≡ next = ap (λ n. take n bytes) h.texts.0 ∙ ap
    (take (length next)) more.1 ∙ take-append_seam next more.0 in
    record {
      low = omega (arith, at);
      high = high;
      from =
          IsCharBoundary-from_take bytes start utf8 (omega (arith, at, high))
          (subst IsUtf8 (sym up_to) h.cut);
      to = IsCharBoundary-from_take bytes end utf8 high (subst IsUtf8 (sym up_to_next) h.texts.1.0);
      text =
          ap (λ n. take n (drop start bytes)) span
          ∙ ap (take (length text)) tail
          ∙ take-append_seam text more.0;
      rest = record { front = next; begins = h.texts.0; cut = h.texts.1.0; texts = h.texts.1.1 };
    }

pub some_end :
    (bytes ends : List ℕ) (start : ℕ) (l : TraceLine) (r : Reply) (ls : List TraceLine)
    (rs : List Reply)
    → KeepsText bytes ends start (l ∷ ls) (r ∷ rs)
    → 0 < length ends
some_end bytes [] start l r ls rs h = absurd h.texts
some_end bytes (end ∷ ends) start l r ls rs h = omega arith

-- ---- room
-- A reply to a line that isn't quiet is no dump.
pub no_dump : (act : Act) (r : Reply) → IsOfKind act r → is_quiet act ≡ false → is_dump r ≡ false
unfolding is_quiet
no_dump act (replies.Hcall h) kind q = refl
no_dump act (replies.Access a) kind q = refl
no_dump act (replies.Segment accepted) kind q = refl
no_dump act replies.MaskSet kind q = refl
no_dump act (replies.Device r) kind q = refl
no_dump acts.Dump (replies.Dump shown) kind q = let clash : true ≡ false = q in cc
no_dump (acts.Call number args spelt) (replies.Dump shown) kind q = absurd kind
no_dump (acts.Access want ea user) (replies.Dump shown) kind q = absurd kind
no_dump (acts.SlbMte rb rs) (replies.Dump shown) kind q = absurd kind
no_dump (acts.Device write liobn ioba) (replies.Dump shown) kind q = absurd kind
no_dump acts.SlbClear (replies.Dump shown) kind q = absurd kind
no_dump (acts.SetMask name value) (replies.Dump shown) kind q = absurd kind

pub room_text : (cap len d : ℕ) → 0 < min ((cap - len) / 1024) d → len + 1024 ≤ cap
room_text cap len d h = omega (arith, h)

pub room_end : (cap len d : ℕ) → 0 < min ((cap - len) / 1024) d → 0 < d
room_end cap len d h = omega (arith, h)

pub room_after :
    (cap len more size d e : ℕ)
    → cap ≤ more
    → size ≤ len + 1024
    → d ≤ 1 + e
    → min ((cap - len) / 1024) d ≤ 1 + min ((more - size) / 1024) e
room_after cap len more size d e a b c = omega (arith, a, b, c)

-- ---- texts of many
text_more :
    (ls : List TraceLine) (rs : List Reply) (l : TraceLine) (r : Reply)
    → length ls ≡ length rs
    → text_from (ls ++ l ∷ []) (rs ++ r ∷ []) ≡ text_from ls rs ++ reply_text l r
unfolding text_from
text_more [] [] l r h = append-nil (reply_text l r)
text_more [] (q ∷ qs) l r h = absurd (omega (arith, h))
text_more (k ∷ ks) [] l r h = absurd (omega (arith, h))
text_more (k ∷ ks) (q ∷ qs) l r h =
    ap (λ z. reply_text k q ++ z) (text_more ks qs l r (omega (arith, h)))
    ∙ sym (append_assoc (reply_text k q) (text_from ks qs) (reply_text l r))

pub has_more :
    (old new : List ℕ) (ls : List TraceLine) (rs : List Reply) (l : TraceLine) (r : Reply)
    → new ≡ old ++ reply_text l r
    → HasText old ls rs
    → HasText new (ls ++ l ∷ []) (rs ++ r ∷ [])
has_more old new ls rs l r put h = record {
  count = length-append ls (l ∷ []) ∙ ap (λ n. n + 1) h.count ∙ sym (length-append rs (r ∷ []));
  text = put ∙ ap (λ z. z ++ reply_text l r) h.text ∙ sym (text_more ls rs l r h.count);
}

pub has_none : HasText [] [] []
unfolding text_from
has_none = record { count = refl; text = refl }
