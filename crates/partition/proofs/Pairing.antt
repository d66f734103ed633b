-- A new table that keeps each bolted page's translation pairs the carried pages.
use Rattle.std.proofs.Common.{◌≡◌, ℕ, ◌/◌, ◌%◌, ◌<◌, ◌≤◌, length, Option, Some, sym, ap, ◌∙◌, subst, arith}
use Rattle.power_addr.specs.Pages.{VirtualPage}
use Rattle.hpte_fields.specs.Fields.{is_secondary}
use Rattle.hpt_hash.specs.Hash.{group_of}
use Rattle.hpt_hash.specs.Entries.{page_at}
use Rattle.entry_model.specs.State.{State}
use Rattle.entry_model.specs.Run.{state_at}
use Rattle.hpt_resize.specs.Rehash.{at_stamp_0}
use Rattle.hpte_fields.specs.TableSize.{entry_count, least_order}
use Rattle.hpt_resize.specs.Resize.{Table}
use Rattle.hpt_resize.specs.Translations.{KeepsTranslations, StandsThere}
use Rattle.hpt_resize.proofs.Groups.{carried_is}
use Rattle.partition.specs.Laws.{Translates, IsSource, PairsCarriedPages}
use Rattle.partition.proofs.Carrying.{of_page, page_of, translates_in, in_translates, in_new_table, source_at, source_carried}

one_of : {A : Type 0} (o : Option A) (x y : A) → o ≡ Some x → o ≡ Some y → x ≡ y
one_of o x y e f = cc

pub pairs_from_kept :
    (old new : Table)
    → least_order ≤ new.order
    → length new.states ≡ entry_count new.order
    → KeepsTranslations old new
    → PairsCarriedPages old new
pairs_from_kept old new low long keeps = record {
  pairs =
      λ page target inside. (came page target inside, λ source. arrives page target inside source);
  kept = λ page target source. stands page target source;
  in_table =
      λ page target source.
      let below = in_new_table page new.order target _ low source.group in
      omega (arith, below, long);
} where
  there :
      (page : VirtualPage) (target : ℕ) (source : IsSource old new.order page target)
      → StandsThere old new source.entry page
  there page target source =
      keeps.carried source.entry page (source_carried old new.order page target source)

  is_target :
      (page : VirtualPage) (target : ℕ) (source : IsSource old new.order page target)
      → (there page target source).index ≡ target
  is_target page target source =
      one_of _ _ _ (there page target source).goes (source_at old new.order page target source)

  stands :
      (page : VirtualPage) (target : ℕ) (source : IsSource old new.order page target)
      → state_at new.states target ≡ at_stamp_0 (state_at old.states source.entry)
  stands page target source =
      ap (state_at new.states) (sym (is_target page target source))
      ∙ (there page target source).kept

  arrives :
      (page : VirtualPage) (target : ℕ)
      → target < length new.states
      → IsSource old new.order page target
      → Translates new page target
  arrives page target inside source =
      let s = state_at old.states source.entry in
      let of = of_page old.order source.entry s page
      (translates_in old page source.entry source.in_table source.translates) in
      let found : page_at new.order target (state_at new.states target).dword0
      (state_at new.states target).dword1 ≡ Some page = subst
      (λ n.
      page_at new.order n (state_at new.states n).dword0 (state_at new.states n).dword1
      ≡ Some page) (is_target page target source) (there page target source).found in
      in_translates new page target inside
      (page_of new.order target (state_at new.states target) page
      (ap (λ (x : State). x.valid) (stands page target source) ∙ of.valid) found)

  came :
      (page : VirtualPage) (target : ℕ)
      → target < length new.states
      → Translates new page target
      → IsSource old new.order page target
  came page target inside is =
      let here = of_page new.order target (state_at new.states target) page
      (translates_in new page target inside is) in
      let from = keeps.from_old target here.valid in
      let s = state_at old.states from.entry in
      let carried = carried_is old.order new.order s from.entry target from.goes in
      let moved = keeps.carried from.entry carried.page carried.carried in
      let arrived : moved.index ≡ target = one_of _ _ _ moved.goes from.goes in
      let found = subst
      (λ n.
      page_at new.order n (state_at new.states n).dword0 (state_at new.states n).dword1
      ≡ Some carried.page) arrived moved.found in
      let same : carried.page ≡ page = one_of _ _ _ found here.found in
      let group : group_of carried.page new.order (is_secondary s.dword0) ≡ target / 8 = let e =
      carried.there in
      omega arith in
      let slot : from.entry % 8 ≡ target % 8 = let e = carried.there in omega arith in
      record {
        entry = from.entry;
        in_table = from.in_table;
        translates =
            in_translates old page from.entry from.in_table
            (page_of old.order from.entry s page carried.valid (carried.found ∙ ap Some same));
        bolted = carried.bolted;
        group =
            subst (λ (p : VirtualPage). group_of p new.order (is_secondary s.dword0) ≡ target / 8)
            same group;
        slot = slot;
      }
