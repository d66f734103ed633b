-- A section of all stores, from what is found on each, and the other way round.
use Rattle.std.specs.Prelude.{filter, nat_le}
use Rattle.std.specs.List.{AllByRecursion}
use Rattle.std.specs.Option.{option_map_or}
use Rattle.std.proofs.Common.{◌≡◌, ℕ, suc, ◌+◌, ◌<◌, ◌≤◌, List, [], ◌∷◌, ◌++◌, Bool, true, false, ap, sym, ◌∙◌, refl, subst, map, length, get_or, arith, append-nil, ◌⊎◌, inl, inr}
use Rattle.std.proofs.lemmas.Bool.{cases_Bool, leb-true, leb-false}
use Rattle.std.proofs.lemmas.List.{length-map}
use Rattle.bus_window.specs.Windows.{BusWindow}
use Rattle.trace_line.specs.declared.act.Act.{Act}
use Rattle.trace_line.specs.declared.line.TraceLine.{TraceLine}
use Rattle.trace_line.specs.Lines.{is_quiet}
use Rattle.trace_reply.specs.declared.reply.Reply.{Reply}
use Rattle.trace_reply.specs.Replies.{RepliedLine, AreReplies, IsOfKind, lines_with_replies}
use Rattle.run_model.specs.AllStores.{WindowState, AllStores, as_store, windows_in}
use Rattle.run_model.specs.Sections.{section_end, states_behind}
use Rattle.run_model.specs.StoreNumbers.{store_at, AreNamed, lines_on_store}
use Rattle.run_model.specs.Stores.{Store, states_of, is_on, is_on_window, lines_on, trace_lines_on}
use Rattle.basics.proofs.Each.{each_filter}
use Rattle.run_model.proofs.StoreLines.{lines_back, kinds_each, kinds_back}
use Rattle.run_model.proofs.StoreNumbers.{same_count, window_at, store_inside, numbered, replied_numbered, lines_numbered}
use Rattle.run_model.specs.Quiet.{NoneQuiet}
use Rattle.history_check.specs.FoundSection.{lines_text, Opening, opening_of, IsGoodOn, IsFound, HasNoSection}
use Rattle.history_check.specs.FoundStores.{windows_of, lines_at, AreGoodOn, AreFound, stores_behind}
use Rattle.history_check.specs.PartedText.{behind_lines, part_text, part_on_store}
use Rattle.history_check.specs.StoreParts.{LeavesPart, FoundBelow}
use Rattle.history_check.proofs.ByStore.{each_by_store, filter_map}
use Rattle.history_check.proofs.GoodStores.{window_end}
use Rattle.history_check.proofs.MergedLines.{IsWhole, merge_all}
use Rattle.history_check.proofs.PartedTexts.{AllTell, IsPlainReply, ArePlainReplies, lines_in, text_tells, tells_text, tells_part, part_tells, all_tell}

abbrev replies_in : List RepliedLine → List Reply
replies_in ts = map (λ (t : RepliedLine). t.reply) ts

-- ---- lines and their replies
lines_are :
    (ls : List TraceLine) (rs : List Reply)
    → AreReplies ls rs
    → lines_in (lines_with_replies ls rs) ≡ ls
lines_are [] [] k = refl
lines_are [] (r ∷ rs) k = absurd k
lines_are (l ∷ ls) [] k = absurd k
lines_are (l ∷ ls) (r ∷ rs) k = ap (λ z. l ∷ z) (lines_are ls rs k.1)

plain_replies :
    (ts : List RepliedLine)
    → NoneQuiet (lines_in ts)
    → AllByRecursion (λ (t : RepliedLine). IsOfKind t.line.act t.reply) ts
    → ArePlainReplies ts
plain_replies [] h k = tt
plain_replies (t ∷ ts) h k = (record { plain = h.0; kind = k.0 }, plain_replies ts h.1 k.1)

their_kinds :
    (ts : List RepliedLine)
    → ArePlainReplies ts
    → AllByRecursion (λ (t : RepliedLine). IsOfKind t.line.act t.reply) ts
their_kinds [] h = tt
their_kinds (t ∷ ts) h = (h.0.kind, their_kinds ts h.1)

found_plain :
    (ls : List TraceLine) (rs : List Reply)
    → NoneQuiet ls
    → AreReplies ls rs
    → ArePlainReplies (lines_with_replies ls rs)
found_plain ls rs plain k =
    plain_replies (lines_with_replies ls rs) (subst NoneQuiet (sym (lines_are ls rs k)) plain)
    (kinds_each ls rs k)

-- ---- the stores after a section
-- A list whose elements are images of those of another is its image.
same_lists :
    {A B : Type 0} (f : A → B) (xs : List A) (ys : List B)
    → length ys ≡ length xs
    →
    ((k : ℕ) (x : A) (y : B)
    → k < length xs
    → ((d : A) → get_or xs k d ≡ x)
    → ((d : B) → get_or ys k d ≡ y)
    → y ≡ f x)
    → ys ≡ map f xs
same_lists f [] [] size h = refl
same_lists f [] (y ∷ ys) size h = absurd (omega (arith, size))
same_lists f (x ∷ xs) [] size h = absurd (omega (arith, size))
same_lists f (x ∷ xs) (y ∷ ys) size h =
    let first : y ≡ f x = h 0 x y (omega arith) (λ d. refl) (λ d. refl) in
    let rest : ys ≡ map f xs = same_lists f xs ys (omega (arith, size))
    (λ k a b low at at'. h (suc k) a b (omega (arith, low)) at at') in
    λ i. first i ∷ rest i

-- Where each store is as its lines leave it, all are.
pub behind_is :
    (s later : AllStores) (ts : List RepliedLine)
    → windows_in later.windows ≡ windows_of s
    →
    ((number : ℕ)
    → number ≤ length s.windows
    → store_at later number ≡ section_end (store_at s number) (lines_at s number ts))
    → later ≡ stores_behind s ts
behind_is s later ts same h = λ i. record { table = h 0 (omega arith) i; windows = windows i } where
  many : length later.windows ≡ length s.windows
  many = same_count later.windows s.windows same

  here :
      (k : ℕ) (v u : WindowState)
      → k < length s.windows
      → ((d : WindowState) → get_or s.windows k d ≡ v)
      → ((d : WindowState) → get_or later.windows k d ≡ u)
      → u
      ≡ record v {
        states = states_behind (as_store s.table v) (lines_on (is_on_window v.window) ts);
      }
  here k v u low at at' =
      let a = window_at s.table s.windows k low in
      let b = window_at later.table later.windows k (omega (arith, low, many)) in
      let x : store_at s (suc k) ≡ as_store s.table v = a.store s.table ∙ ap (as_store s.table)
      (sym (a.state v) ∙ at v) in
      let y : store_at later (suc k) ≡ as_store later.table u = b.store later.table ∙ ap
      (as_store later.table) (sym (b.state u) ∙ at' u) in
      let e : as_store later.table u ≡ as_store s.table (record v {
        states = states_behind (as_store s.table v) (lines_on (is_on_window v.window) ts);
      }) = sym y ∙ h (suc k) (omega (arith, low)) ∙ ap
      (λ (z : Store). section_end z (lines_on (is_on (windows_of s) z.window) ts)) x ∙ window_end
      s.table ts v in
      let named : u.window ≡ v.window = ap
      (λ (z : Store). option_map_or (λ (w : BusWindow). w) z.window v.window) e in
      let states = ap states_of e in
      λ i. record { window = named i; states = states i }

  windows : later.windows ≡ (stores_behind s ts).windows
  windows =
      same_lists
      (λ (v : WindowState).
      record v {
        states = states_behind (as_store s.table v) (lines_on (is_on_window v.window) ts);
      }) s.windows later.windows many here

-- ---- the whole from the parts
-- What is known of the lines on a store, whatever the others are.
record IsPiece (s later : AllStores) (ls : List TraceLine) (text : List ℕ) (number : ℕ)
    (us : List RepliedLine) :
    Type 0 where
  pub lines : lines_in us ≡ lines_on_store (windows_of s) number ls
  pub kinds : ArePlainReplies us
  pub good : IsGoodOn (opening_of (store_at s number)) us
  pub rest : List ℕ
  pub told : part_on_store (windows_of s) number ls text ≡ lines_text us ++ rest
  pub behind : store_at later number ≡ section_end (store_at s number) us

module _ (s later : AllStores) (ls : List TraceLine) (text : List ℕ) (plain : NoneQuiet ls)
    (named : AreNamed s) (found : FoundBelow s (1 + length s.windows) ls text later) where
  piece :
      (number : ℕ) (p : LeavesPart s number ls text (store_at later number))
      → IsPiece s later ls text number
      (lines_with_replies (lines_on_store (windows_of s) number ls) p.replies)
  piece number p =
      let own = lines_on_store (windows_of s) number ls in
      record {
        lines = lines_are own p.replies p.found.kinds;
        kinds =
            found_plain own p.replies
            (each_filter (λ (l : TraceLine). is_quiet l.act ≡ false) _ ls plain)
            p.found.kinds;
        good = p.found.good;
        rest = p.rest;
        told = p.found.text;
        behind = p.behind;
      }

  -- What is known of the lines on the store of each number.
  pieces :
      (number : ℕ)
      → (us : List RepliedLine)
      × (number ≤ length s.windows → IsPiece s later ls text number us)
  pieces number = at (cases_Bool (nat_le number (length s.windows))) where
    at :
        (nat_le number (length s.windows) ≡ true) ⊎ (nat_le number (length s.windows) ≡ false)
        → (us : List RepliedLine)
        × (number ≤ length s.windows → IsPiece s later ls text number us)
    at (inl e) =
        let inside : number ≤ length s.windows = leb-true number (length s.windows) e in
        let p = found.parts number (omega (arith, inside)) in (
          lines_with_replies (lines_on_store (windows_of s) number ls) p.replies,
          λ low. piece number p,
        )
    at (inr e) =
        let past : length s.windows < number = leb-false number (length s.windows) e in
        ([], λ low. absurd (omega (arith, low, past)))

  whole : IsWhole (windows_of s) (length s.windows) ls (λ number. (pieces number).0)
  whole =
      merge_all (windows_of s) (length s.windows) ls (λ number. (pieces number).0)
      (store_inside s.windows) (λ number low. ((pieces number).1 low).lines)

  abbrev ts : List RepliedLine
  ts = whole.all

  own_is : (number : ℕ) → number ≤ length s.windows → lines_at s number ts ≡ (pieces number).0
  own_is number low = sym (replied_numbered s named number low ts) ∙ whole.own number low

  kinds : ArePlainReplies ts
  kinds =
      each_by_store IsPlainReply (λ (t : RepliedLine). t.line.act) s ts named.table
      (λ number low.
      subst ArePlainReplies (sym (own_is number low)) ((pieces number).1 low).kinds)

  tell : AllTell ts text
  tell =
      all_tell s ts text named.table
      (λ number low.
      let k = (pieces number).1 low in
      let on = is_on (windows_of s) (store_at s number).window in
      part_tells on ts text k.rest kinds
      (ap (λ ms. part_text on ms text) whole.lines
      ∙ (λ j. part_text (λ act. sym (numbered s named number low act) j) ls text)
      ∙ k.told
      ∙ ap (λ us. lines_text us ++ k.rest) (sym (own_is number low))))

  good : AreGoodOn s ts
  good number low =
      subst (IsGoodOn (opening_of (store_at s number))) (sym (own_is number low))
      ((pieces number).1 low).good

  behind : later ≡ stores_behind s ts
  behind =
      behind_is s later ts found.stays.windows
      (λ number low.
      ((pieces number).1 low).behind
      ∙ ap (section_end (store_at s number)) (sym (own_is number low)))

  -- What is found on each store is found of all.
  pub parts_found :
      (rs : List Reply)
      × AreFound s ls text rs (behind_lines (length ls) text)
      × (later ≡ stores_behind s (lines_with_replies ls rs))
  parts_found =
      let rs = replies_in ts in
      let back : ts ≡ lines_with_replies ls rs = sym (lines_back ts) ∙ ap
      (λ z. lines_with_replies z rs) whole.lines in
      let size : length ts ≡ length ls = sym (length-map ts (λ (t : RepliedLine). t.line)) ∙ ap
      length whole.lines in (
        rs,
        record {
          kinds = subst (λ z. AreReplies z rs) whole.lines (kinds_back ts (their_kinds ts kinds));
          good = subst (AreGoodOn s) back good;
          text =
              tells_text ts text tell
              ∙ ap (λ k. lines_text ts ++ behind_lines k text) size
              ∙ ap (λ z. lines_text z ++ behind_lines (length ls) text) back;
        },
        behind ∙ ap (stores_behind s) back,
      )

-- ---- the parts from the whole
found_part :
    (o : Opening) (f : Act → Bool) (ts : List RepliedLine) (text : List ℕ)
    → AllTell ts text
    → ArePlainReplies ts
    → IsGoodOn o (filter (λ (t : RepliedLine). f t.line.act) ts)
    → (rs : List Reply)
    × (rest : List ℕ)
    × IsFound o (filter (λ (l : TraceLine). f l.act) (lines_in ts)) (part_text f (lines_in ts) text)
    rs rest
found_part o f ts text tell kinds good =
    let us = filter (λ (t : RepliedLine). f t.line.act) ts in
    let own : lines_in us ≡ filter (λ (l : TraceLine). f l.act) (lines_in ts) = sym
    (filter_map (λ (t : RepliedLine). t.line) (λ (l : TraceLine). f l.act) ts) in
    let back : us ≡ lines_with_replies (filter (λ (l : TraceLine). f l.act) (lines_in ts))
    (replies_in us) = sym (lines_back us) ∙ ap (λ z. lines_with_replies z (replies_in us)) own
    in (
      replies_in us,
      [],
      record {
        kinds =
            subst (λ z. AreReplies z (replies_in us)) own
            (kinds_back us
            (their_kinds us
            (each_filter IsPlainReply (λ (t : RepliedLine). f t.line.act) ts kinds)));
        good = subst (IsGoodOn o) back good;
        text =
            tells_part f ts text tell
            ∙ ap lines_text back
            ∙ sym
            (append-nil
            (lines_text
            (lines_with_replies (filter (λ (l : TraceLine). f l.act) (lines_in ts))
            (replies_in us))));
      },
    )

-- A section of all stores has one on each.
pub store_has :
    (s : AllStores) (ls : List TraceLine) (text : List ℕ) (rs : List Reply) (rest : List ℕ)
    (number : ℕ)
    → NoneQuiet ls
    → AreNamed s
    → AreFound s ls text rs rest
    → number ≤ length s.windows
    → HasNoSection (opening_of (store_at s number)) (lines_on_store (windows_of s) number ls)
    (part_on_store (windows_of s) number ls text)
    → ⊥
store_has s ls text rs rest number plain named h low none =
    let ts = lines_with_replies ls rs in
    let o = opening_of (store_at s number) in
    let on = is_on (windows_of s) (store_at s number).window in
    let kinds : ArePlainReplies ts = found_plain ls rs plain h.kinds in
    let found = found_part o on ts text (text_tells ts text rest kinds h.text) kinds
    (h.good number low) in
    let none' : HasNoSection o (trace_lines_on on ls) (part_text on ls text) = subst
    (λ (z : List TraceLine × List ℕ). HasNoSection o z.0 z.1)
    (λ j. (
      lines_numbered s named number low ls j,
      part_text (λ act. numbered s named number low act j) ls text,
    )) none in
    let none'' : HasNoSection o (filter (λ (l : TraceLine). on l.act) (lines_in ts))
    (part_text on (lines_in ts) text) = subst
    (λ z. HasNoSection o (filter (λ (l : TraceLine). on l.act) z) (part_text on z text))
    (sym (lines_are ls rs h.kinds)) none' in
    none'' found.0 found.1 found.2
