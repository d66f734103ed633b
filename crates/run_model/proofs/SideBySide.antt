-- A run is good store by store exactly if it is good section by section.
use Rattle.std.specs.Prelude.{Some, None, ◌↔◌}
use Rattle.std.proofs.Common.{◌≡◌, List, [], ◌∷◌, ap, sym, ◌∙◌, subst}
use Rattle.std.specs.List.{AllByRecursion}
use Rattle.bus_window.specs.Windows.{BusWindow}
use Rattle.trace_read.specs.Trace.{AcceptedTrace}
use Rattle.trace_reply.specs.declared.reply.Reply.{Reply}
use Rattle.trace_reply.specs.Replies.{RepliedLine, lines_with_replies}
use Rattle.run_model.specs.Quiet.{QuietPart, cut}
use Rattle.basics.proofs.Each.{each_map, each_both, over_map, under_map}
use Rattle.run_model.specs.Stores.{Store, is_on, opening_stores}
use Rattle.run_model.specs.Sections.{Section, closing, sections_from}
use Rattle.run_model.specs.GoodRun.{IsGoodSection, IsGoodRun}
use Rattle.run_model.specs.SideBySide.{part_on, left_by, stores_behind, AreGood, IsGoodSideBySide}
use Rattle.run_model.proofs.TableNamed.{after_window, closed_window}

-- A section leaves its store the same store.
left_window : (x : Section) → (left_by x).window ≡ x.before.window
left_window x = after_window (closing x) x.quiet ∙ closed_window x.before x.replied_lines

-- The sections of one store from here on are good.
abbrev GoodFrom : List BusWindow → List RepliedLine → List QuietPart → Store → Type 0
GoodFrom ws ts qs s = AllByRecursion IsGoodSection (sections_from (is_on ws s.window) s ts qs)

-- Those after the first, by the name of the store then.
later_is :
    (ws : List BusWindow) (ts : List RepliedLine) (q : QuietPart) (qs : List QuietPart) (s : Store)
    → GoodFrom ws q.1 qs (left_by (part_on ws ts (Some q.0) s))
    ≡ AllByRecursion IsGoodSection
    (sections_from (is_on ws s.window) (left_by (part_on ws ts (Some q.0) s)) q.1 qs)
later_is ws ts q qs s =
    ap
    (λ o.
    AllByRecursion IsGoodSection
    (sections_from (is_on ws o) (left_by (part_on ws ts (Some q.0) s)) q.1 qs))
    (left_window (part_on ws ts (Some q.0) s))

by_section :
    (ws : List BusWindow) (ss : List Store) (ts : List RepliedLine) (qs : List QuietPart)
    → AllByRecursion (GoodFrom ws ts qs) ss
    → AreGood ws ss ts qs
by_section ws ss ts [] h =
    each_map (GoodFrom ws ts []) (λ s. IsGoodSection (part_on ws ts None s)) ss (λ s k. k.0) h
by_section ws ss ts (q ∷ qs) h = (
  each_map (GoodFrom ws ts (q ∷ qs)) (λ s. IsGoodSection (part_on ws ts (Some q.0) s)) ss
      (λ s k. k.0) h,
  by_section ws (stores_behind ws ss ts q.0) q.1 qs
      (over_map (GoodFrom ws ts (q ∷ qs)) (GoodFrom ws q.1 qs)
      (λ (s : Store). left_by (part_on ws ts (Some q.0) s)) ss
      (λ s k. subst (λ (X : Type 0). X) (sym (later_is ws ts q qs s)) k.1) h),
)

by_store :
    (ws : List BusWindow) (ss : List Store) (ts : List RepliedLine) (qs : List QuietPart)
    → AreGood ws ss ts qs
    → AllByRecursion (GoodFrom ws ts qs) ss
by_store ws ss ts [] h =
    each_map (λ s. IsGoodSection (part_on ws ts None s)) (GoodFrom ws ts []) ss (λ s k. (k, tt)) h
by_store ws ss ts (q ∷ qs) h =
    let later : AllByRecursion
    (λ (s : Store). GoodFrom ws q.1 qs (left_by (part_on ws ts (Some q.0) s))) ss = under_map
    (λ (s : Store). GoodFrom ws q.1 qs (left_by (part_on ws ts (Some q.0) s)))
    (GoodFrom ws q.1 qs) (λ (s : Store). left_by (part_on ws ts (Some q.0) s)) ss (λ s k. k)
    (by_store ws (stores_behind ws ss ts q.0) q.1 qs h.1) in
    each_map
    (λ s.
    IsGoodSection (part_on ws ts (Some q.0) s)
    × GoodFrom ws q.1 qs (left_by (part_on ws ts (Some q.0) s))) (GoodFrom ws ts (q ∷ qs)) ss
    (λ s k. (k.0, subst (λ (X : Type 0). X) (later_is ws ts q qs s) k.1))
    (each_both (λ s. IsGoodSection (part_on ws ts (Some q.0) s))
    (λ s. GoodFrom ws q.1 qs (left_by (part_on ws ts (Some q.0) s))) ss h.0 later)

pub side_by_side : (t : AcceptedTrace) (rs : List Reply) → IsGoodRun t rs ↔ IsGoodSideBySide t rs
side_by_side t rs =
    let c = cut (lines_with_replies t.lines rs) in
    let ws = t.config.windows in (
      λ h.
          record {
            kinds = h.kinds;
            sections = by_section ws (opening_stores t.config) c.0 c.1 h.stores;
          },
      λ h.
          record {
            kinds = h.kinds;
            stores = by_store ws (opening_stores t.config) c.0 c.1 h.sections;
          },
    )
