-- What a run assures doesn't hang on where dumps say that the table lies.
use Rattle.std.proofs.Common.{◌≡◌, ℕ, List, [], ◌∷◌, true, false, Option, Some, None, map, refl, sym, subst, ap, ◌∙◌, ◌⊎◌, inl, inr}
use Rattle.std.specs.Prelude.{◌<◌, length, option_map, MatchOption, Bool}
use Rattle.std.specs.List.{AllByRecursion}
use Rattle.std.proofs.Math.Path.{transport, transport⁻¹}
use Rattle.std.proofs.lemmas.Bool.{cases_Bool}
use Rattle.frame_grants.specs.Grants.{GrantedMemory}
use Rattle.entry_model.specs.Run.{state_at}
use Rattle.papr_codes.specs.declared.calls.Hcall.{Hcall}
use Rattle.papr_codes.specs.Hcalls.{hcall_of}
use Rattle.trace_line.specs.declared.act.Act.{Act}
use Rattle.trace_line.specs.declared.line.TraceLine.{TraceLine}
use Rattle.trace_line.specs.Lines.{is_quiet}
use Rattle.trace_read.specs.Trace.{AcceptedTrace}
use Rattle.trace_reply.specs.declared.reply.Reply.{Reply}
use Rattle.trace_reply.specs.Replies.{RepliedLine, AreReplies, IsOfKind, lines_with_replies}
use Rattle.run_model.specs.Stores.{Store, page_table, states_of, is_on, lines_on}
use Rattle.run_model.specs.QuietLines.{run_quiet_line}
use Rattle.run_model.specs.Quiet.{QuietPart, cut, cut_before}
use Rattle.entry_model.specs.History.{history}
use Rattle.run_model.specs.Sections.{Section, made_in, sections_from, sections_of, section_of, section_end}
use Rattle.run_model.specs.ShownStores.{ShowsChange, StoresAreShown, StaysShown, NoStoreIsLostIn, NoSetBitIsLostIn, ClearedBitsAreShown, carried_to, closing_state}
use Rattle.run_model.specs.CommittedResizes.{commits_call, commits_by, is_committed, LeavesTable, ResizesKeepTranslations}
use Rattle.run_model.specs.Landings.{AccessesLand, IsUnworn}
use Rattle.run_model.specs.DeviceLandings.{DeviceLands}
use Rattle.run_model.specs.Assurances.{Assures}
use Rattle.run_model.proofs.StoreLines.{kinds_each}
use Rattle.lpar_set.specs.SetLaws.{without_place}
use Rattle.papr_codes.specs.declared.calls.Hcall.TheVariants as calls
use Rattle.trace_line.specs.declared.act.Act.TheVariants as acts
use Rattle.trace_reply.specs.declared.reply.Reply.TheVariants as replies

-- ---- what is erased
-- The line, whose dump doesn't say where the table lies.
abbrev pub erased_line : RepliedLine → RepliedLine
erased_line t = record t { reply = without_place t.reply }

-- The quiet line is such.
abbrev pub erased_part : QuietPart → QuietPart
erased_part q = (erased_line q.0, q.1)

-- Lines that were cut, with such quiet lines.
abbrev pub erased_cut : List RepliedLine × List QuietPart → List RepliedLine × List QuietPart
erased_cut x = (x.0, map erased_part x.1)

-- The section, with such a quiet line.
abbrev pub erased : Section → Section
erased s = record s { quiet = option_map erased_line s.quiet }

-- ---- sections
-- Only dumps change.
same_reply : (act : Act) (r : Reply) → is_quiet act ≡ false → IsOfKind act r → without_place r ≡ r
unfolding is_quiet
same_reply acts.Dump r q kind = cc
same_reply (acts.Call number args spelt) (replies.Hcall h) q kind = refl
same_reply (acts.Access want ea user) (replies.Access a) q kind = refl
same_reply (acts.SlbMte rb rs) (replies.Segment accepted) q kind = refl
same_reply acts.SlbClear (replies.Segment accepted) q kind = refl
same_reply (acts.Device write liobn ioba) (replies.Device r) q kind = refl
same_reply (acts.SetMask name value) replies.MaskSet q kind = refl
same_reply act r q kind = absurd kind

front_erased :
    (t : RepliedLine) (x : List RepliedLine × List QuietPart)
    → IsOfKind t.line.act t.reply
    → cut_before (erased_line t) (erased_cut x) ≡ erased_cut (cut_before t x)
front_erased t x kind = at (cases_Bool (is_quiet t.line.act)) where
  at :
      (is_quiet t.line.act ≡ true) ⊎ (is_quiet t.line.act ≡ false)
      → cut_before (erased_line t) (erased_cut x) ≡ erased_cut (cut_before t x)
  at (inl q) = rw q
  at (inr q) = rw (q, same_reply t.line.act t.reply q kind)

-- Each line has a reply of its kind.
abbrev AreOfKind : List RepliedLine → Type 0
AreOfKind ts = AllByRecursion (λ (t : RepliedLine). IsOfKind t.line.act t.reply) ts

cut_erased : (ts : List RepliedLine) → AreOfKind ts → cut (map erased_line ts) ≡ erased_cut (cut ts)
cut_erased [] kinds = refl
cut_erased (t ∷ ts) kinds =
    ap (cut_before (erased_line t)) (cut_erased ts kinds.1) ∙ front_erased t (cut ts) kinds.0

replies_erased :
    (ls : List TraceLine) (rs : List Reply)
    → lines_with_replies ls (map without_place rs) ≡ map erased_line (lines_with_replies ls rs)
replies_erased [] rs = refl
replies_erased (l ∷ ls) [] = refl
replies_erased (l ∷ ls) (r ∷ rs) =
    ap (λ ts. erased_line (record { line = l; reply = r }) ∷ ts) (replies_erased ls rs)

from_erased :
    (on : Act → Bool) (w : Store) (ts : List RepliedLine) (qs : List QuietPart)
    → sections_from on w ts (map erased_part qs) ≡ map erased (sections_from on w ts qs)
from_erased on w ts [] = refl
from_erased on w ts (q ∷ qs) =
    at (cases_Bool (on q.0.line.act)) (λ v. from_erased on v q.1 qs) where
      at :
          (on q.0.line.act ≡ true) ⊎ (on q.0.line.act ≡ false)
          →
          ((v : Store)
          → sections_from on v q.1 (map erased_part qs) ≡ map erased (sections_from on v q.1 qs))
          → sections_from on w ts (map erased_part (q ∷ qs))
          ≡ map erased (sections_from on w ts (q ∷ qs))
      at (inl here) rest =
          rw here
          (ap (λ ss. section_of on w ts (Some (erased_line q.0)) ∷ ss)
          (rest (run_quiet_line (section_end w (lines_on on ts)) q.0.line.act).1))
      at (inr off) rest =
          rw off (ap (λ ss. section_of on w ts None ∷ ss) (rest (section_end w (lines_on on ts))))

pub sections_erased :
    (t : AcceptedTrace) (rs : List Reply)
    → AreReplies t.lines rs
    → sections_of t (map without_place rs) ≡ map erased (sections_of t rs)
sections_erased t rs kinds =
    let w = page_table t.config in
    let on = is_on t.config.windows w.window in
    let all = lines_with_replies t.lines rs in
    ap (λ us. sections_from on w (cut us).0 (cut us).1) (replies_erased t.lines rs)
    ∙ ap (λ (x : List RepliedLine × List QuietPart). sections_from on w x.0 x.1)
    (cut_erased all (kinds_each t.lines rs kinds))
    ∙ from_erased on w (cut all).0 (cut all).1

-- ---- what holds of them
each_erased :
    (Q : Section → Type 0)
    → ((s : Section) → Q (erased s) ≡ Q s)
    → (ss : List Section)
    → AllByRecursion Q (map erased ss) ≡ AllByRecursion Q ss
each_erased Q same [] = refl
each_erased Q same (s ∷ ss) = λ i. same s i × each_erased Q same ss i

stays_erased :
    (s : Section) (entry : ℕ) (rest : List Section)
    → StaysShown (erased s) entry (map erased rest) ≡ StaysShown s entry rest
stays_erased s entry [] = refl
stays_erased s entry (next ∷ rest) = λ i.
    MatchOption
    (carried_to s next entry)
    (Unit {0})
    (λ target.
    ShowsChange (history target (made_in next)) (closing_state next target)
    (stays_erased next target rest i))

stores_erased : (ss : List Section) → NoStoreIsLostIn (map erased ss) ≡ NoStoreIsLostIn ss
stores_erased [] = refl
stores_erased (s ∷ rest) = λ i.
    ((entry : ℕ)
    → entry < length (states_of s.before)
    → StoresAreShown (history entry (made_in s)) (closing_state s entry)
    (stays_erased s entry rest i))
    × stores_erased rest i

bits_erased : (ss : List Section) → NoSetBitIsLostIn (map erased ss) ≡ NoSetBitIsLostIn ss
bits_erased [] = refl
bits_erased (s ∷ rest) = λ i.
    ((entry : ℕ)
    → (state_at (states_of s.before) entry).valid ≡ true
    → (state_at (states_of s.before) entry).changed ≡ true
    → ShowsChange (history entry (made_in s)) (closing_state s entry) (stays_erased s entry rest i))
    × bits_erased rest i

-- ---- committed resizes
commits_erased :
    (call : Hcall) (r : Reply) → commits_call call (without_place r) ≡ commits_call call r
commits_erased call (replies.Hcall h) = refl
commits_erased call (replies.Access a) = refl
commits_erased call (replies.Segment accepted) = refl
commits_erased call replies.MaskSet = refl
commits_erased call (replies.Device r) = refl
commits_erased calls.Commit (replies.Dump shown) = refl
commits_erased call (replies.Dump shown) = refl

by_erased : (act : Act) (r : Reply) → commits_by act (without_place r) ≡ commits_by act r
by_erased (acts.Call number args spelt) r = commits_erased (hcall_of number) r
by_erased act r = refl

committed_erased :
    (quiet : Option RepliedLine) → is_committed (option_map erased_line quiet) ≡ is_committed quiet
committed_erased None = refl
committed_erased (Some q) = by_erased q.line.act q.reply

leaves_in : (s next : Section) → LeavesTable s next → LeavesTable (erased s) (erased next)
leaves_in s next h = record {
  told = rw (committed_erased s.quiet) h.told;
  keeps = rw (committed_erased s.quiet) h.keeps;
  stays = rw (committed_erased s.quiet) h.stays;
}

leaves_out : (s next : Section) → LeavesTable (erased s) (erased next) → LeavesTable s next
leaves_out s next h = record {
  told = rw (sym (committed_erased s.quiet)) h.told;
  keeps = rw (sym (committed_erased s.quiet)) h.keeps;
  stays = rw (sym (committed_erased s.quiet)) h.stays;
}

resizes_in :
    (ss : List Section) → ResizesKeepTranslations ss → ResizesKeepTranslations (map erased ss)
resizes_in [] h = tt
resizes_in (s ∷ []) h = tt
resizes_in (s ∷ next ∷ rest) h = (leaves_in s next h.0, resizes_in (next ∷ rest) h.1)

resizes_out :
    (ss : List Section) → ResizesKeepTranslations (map erased ss) → ResizesKeepTranslations ss
resizes_out [] h = tt
resizes_out (s ∷ []) h = tt
resizes_out (s ∷ next ∷ rest) h = (leaves_out s next h.0, resizes_out (next ∷ rest) h.1)

-- ---- replies
unworn_reply : (r : Reply) → IsUnworn (without_place r) ≡ IsUnworn r
unworn_reply (replies.Hcall h) = refl
unworn_reply (replies.Access a) = refl
unworn_reply (replies.Segment accepted) = refl
unworn_reply replies.MaskSet = refl
unworn_reply (replies.Device r) = refl
unworn_reply (replies.Dump shown) = refl

unworn_erased :
    (rs : List Reply) → AllByRecursion IsUnworn (map without_place rs) ≡ AllByRecursion IsUnworn rs
unworn_erased [] = refl
unworn_erased (r ∷ rs) = λ i. unworn_reply r i × unworn_erased rs i

-- The device's access of a line, if it is one, lands so.
abbrev LandsSo : GrantedMemory → RepliedLine → Type 0
LandsSo granted t = DeviceLands granted t.line.act t.reply

device_erased :
    (granted : GrantedMemory) (act : Act) (r : Reply)
    → DeviceLands granted act (without_place r) ≡ DeviceLands granted act r
device_erased granted (acts.Device write liobn ioba) (replies.Hcall h) = refl
device_erased granted (acts.Device write liobn ioba) (replies.Access a) = refl
device_erased granted (acts.Device write liobn ioba) (replies.Segment accepted) = refl
device_erased granted (acts.Device write liobn ioba) replies.MaskSet = refl
device_erased granted (acts.Device write liobn ioba) (replies.Device d) = refl
device_erased granted (acts.Device write liobn ioba) (replies.Dump shown) = refl
device_erased granted act r = refl

devices_erased :
    (granted : GrantedMemory) (ls : List TraceLine) (rs : List Reply)
    → AllByRecursion (LandsSo granted) (lines_with_replies ls (map without_place rs))
    ≡ AllByRecursion (LandsSo granted) (lines_with_replies ls rs)
devices_erased granted [] rs = refl
devices_erased granted (l ∷ ls) [] = refl
devices_erased granted (l ∷ ls) (r ∷ rs) =
    λ i. device_erased granted l.act r i × devices_erased granted ls rs i

-- ---- all that a run assures
-- Erasing the places keeps it.
assured_in :
    (t : AcceptedTrace) (rs : List Reply)
    → AreReplies t.lines rs
    → Assures t rs
    → Assures t (map without_place rs)
assured_in t rs kinds h =
    let ss = sections_of t rs in
    let same = sections_erased t rs kinds in
    record {
      stores = rw same (transport⁻¹ (stores_erased ss) h.stores);
      set = rw same (transport⁻¹ (bits_erased ss) h.set);
      cleared = rw same (transport⁻¹ (each_erased ClearedBitsAreShown (λ s. refl) ss) h.cleared);
      pages = rw same (resizes_in ss h.pages);
      landings =
          rw same
          (transport⁻¹ (each_erased (AccessesLand t.config.granted) (λ s. refl) ss) h.landings);
      devices = transport⁻¹ (devices_erased t.config.granted t.lines rs) h.devices;
      unworn = transport⁻¹ (unworn_erased rs) h.unworn;
    }

-- It holds already where it holds with the places erased.
assured_out :
    (t : AcceptedTrace) (rs : List Reply)
    → AreReplies t.lines rs
    → Assures t (map without_place rs)
    → Assures t rs
assured_out t rs kinds h =
    let ss = sections_of t rs in
    let same = sections_erased t rs kinds in
    record {
      stores = transport (stores_erased ss) (rw same at h.stores);
      set = transport (bits_erased ss) (rw same at h.set);
      cleared = transport (each_erased ClearedBitsAreShown (λ s. refl) ss) (rw same at h.cleared);
      pages = resizes_out ss (rw same at h.pages);
      landings =
          transport (each_erased (AccessesLand t.config.granted) (λ s. refl) ss)
          (rw same at h.landings);
      devices = transport (devices_erased t.config.granted t.lines rs) h.devices;
      unworn = transport (unworn_erased rs) h.unworn;
    }

-- What these replies assure others do that differ in places alone.
pub assured_like :
    (t : AcceptedTrace) (rs other : List Reply)
    → AreReplies t.lines rs
    → AreReplies t.lines other
    → map without_place rs ≡ map without_place other
    → Assures t other
    → Assures t rs
assured_like t rs other kinds others same h =
    assured_out t rs kinds (subst (Assures t) (sym same) (assured_in t other others h))
