-- The lines that receipts show.
use Rattle.std.proofs.Common.{◌≡◌, List, [], ◌∷◌, if◌then◌else◌, flat_map, Contains, sym, ap, subst, inl, inr, arith}
use Rattle.std.proofs.lemmas.List.Elements.{Contains-append_left, Contains-append_right}
use Rattle.entry_model.specs.declared.line.Line.{Line}
use Rattle.entry_model.specs.declared.receipt.Receipt.{Receipt}
use Rattle.entry_model.specs.CachedLines.{IsLineAt, ShowsLine}
use Rattle.lock_core.specs.Machine.{sighting_of, shown_sightings}
use Rattle.lock_core.specs.Laws.{sighting_by}

same_sighting :
    (r : Receipt) (line : Line)
    → IsLineAt line r.entry r.before
    → sighting_of r.entry r.before ≡ sighting_by line
same_sighting r line at = λ i. record {
  entry = sym at.entry i;
  stamp = sym at.stamp i;
  dword0 = sym at.dword0 i;
  dword1 = sym at.dword1 i;
}

-- A line that one of the receipts shows is one of the lines that they show.
pub shown_line :
    (rs : List Receipt) (line : Line)
    → ShowsLine line rs
    → Contains (flat_map shown_sightings rs) (sighting_by line)
shown_line [] line shows = absurd shows
shown_line (r ∷ rs) line (inl here) =
    Contains-append_left (shown_sightings r) (flat_map shown_sightings rs) (sighting_by line)
    (subst (λ l. Contains l (sighting_by line))
    (sym (ap (λ b. if b then sighting_of r.entry r.before ∷ [] else []) here.0))
    (0, (omega arith), same_sighting r line here.1))
shown_line (r ∷ rs) line (inr there) =
    Contains-append_right (shown_sightings r) (flat_map shown_sightings rs) (sighting_by line)
    (shown_line rs line there)
