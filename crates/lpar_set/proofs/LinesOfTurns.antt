-- The turns of a partition are its lines.
use Rattle.std.proofs.Common.{◌≡◌, ℕ, ◌<◌, ◌==◌, List, [], ◌∷◌, true, false, map, get_or, length, refl, sym, ap, ◌∙◌, ◌⊎◌, inl, inr}
use Rattle.std.proofs.lemmas.Bool.{cases_Bool, eqb-true}
use Rattle.std.proofs.lemmas.List.FromFn.{fill_by_all}
use Rattle.trace_line.specs.declared.line.TraceLine.{TraceLine}
use Rattle.lpar_set.specs.declared.turn.Turn.{Turn}
use Rattle.lpar_set.specs.SetTrace.{AcceptedSet, IsAcceptedSet, partition_at, no_line, line_of, turns_of}

-- The line of a partition by its place.
abbrev line_at : List TraceLine → ℕ → TraceLine
line_at lines n = get_or lines n no_line

lines_by_turns :
    (s : AcceptedSet) (k : ℕ) (ts : List Turn)
    → map (line_of s) (turns_of k ts)
    ≡ map (line_at (partition_at s k).trace.lines) (map (λ (t : Turn). t.line) (turns_of k ts))
lines_by_turns s k [] = refl
lines_by_turns s k (t ∷ ts) = at (cases_Bool (t.partition == k)) (lines_by_turns s k ts) where
  at :
      (t.partition == k ≡ true) ⊎ (t.partition == k ≡ false)
      → map (line_of s) (turns_of k ts)
      ≡ map (line_at (partition_at s k).trace.lines) (map (λ (u : Turn). u.line) (turns_of k ts))
      → map (line_of s) (turns_of k (t ∷ ts))
      ≡ map (line_at (partition_at s k).trace.lines)
      (map (λ (u : Turn). u.line) (turns_of k (t ∷ ts)))
  at (inl q) rest =
      let same : t.partition ≡ k = eqb-true t.partition k q in
      rw q (λ i. line_at (partition_at s (same i)).trace.lines t.line ∷ rest i)
  at (inr q) rest = rw q rest

-- All turns of a partition, in their order, are all its lines in theirs.
pub lines_are_turns :
    (s : AcceptedSet)
    → IsAcceptedSet s
    → (k : ℕ)
    → k < length s.partitions
    → map (line_of s) (turns_of k s.turns) ≡ (partition_at s k).trace.lines
lines_are_turns s is k inside =
    let lines = (partition_at s k).trace.lines in
    lines_by_turns s k s.turns
    ∙ ap (map (line_at lines)) (is.lines k inside)
    ∙ sym (fill_by_all (line_at lines) lines (length lines) no_line refl (λ j within. refl))
